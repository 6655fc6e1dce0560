-- The comments that belong to an argument or an element itself: those before it, and the one after it.
use Rattle.std.specs.Prelude.{ℕ, List, [], Option, None}
use Rattle.bz_tree.specs.Tree.{Segment}

pub record Comments : Type 0 where
  pub before : List (List ℕ)
  pub suffix : Option (List ℕ)

abbrev pub own_comments : Segment → Comments
own_comments s = record { before = s.before; suffix = s.suffix }

abbrev pub no_comments : Comments
no_comments = record { before = []; suffix = None }
