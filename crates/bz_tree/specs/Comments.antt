-- The comments of a statement, owner by owner, and how the comments among its tokens are dealt to the owners.
use Rattle.std.specs.Prelude.{ℕ, ◌+◌, List, [], ◌∷◌, ◌++◌, if◌then◌else◌, Option, Some, None, ◌≡◌}
use Rattle.std.specs.Str.{bytes_eq}
use Rattle.bz_token.specs.Places.{Placed}
use Rattle.bz_tree.specs.declared.tree.kinds.Mark.{Mark}
use Rattle.bz_tree.specs.declared.tree.kinds.Mark.TheVariants.{Comment}
use Rattle.bz_tree.specs.Tree.{Item, leaf, group, Items, no_items, item, Segs, no_segs, seg, Statement, items_of}
use Rattle.bz_tree.specs.Kinds.{mark_of}

-- a list of texts for each owner
abbrev pub Lists : Type 0
Lists = List (List (List ℕ))

abbrev pub beside : Option (List ℕ) → List (List ℕ)
beside None = []
beside (Some text) = text ∷ []

-- The owners in brackets: of each segment the place above it and the place after it (its suffix), and the end of each bracket.
abbrev mutual
  pub item_owners : Item → Lists
  item_owners (leaf kind text) = []
  item_owners (group kind segs one_comma end) = segs_owners segs ++ end ∷ []

  pub items_owners : Items → Lists
  items_owners no_items = []
  items_owners (item x xs) = item_owners x ++ items_owners xs

  pub segs_owners : Segs → Lists
  segs_owners no_segs = []
  segs_owners (seg before nodes suffix segs) = (before ∷ beside suffix ∷ items_owners nodes) ++ segs_owners segs

-- the comments of each owner in a statement, in their order
abbrev pub owners_of : Statement → Lists
owners_of s = s.before ∷ beside s.suffix ∷ items_owners (items_of s.nodes)

abbrev pub joined : Lists → List (List ℕ)
joined [] = []
joined (texts ∷ lists) = texts ++ joined lists

-- all comments of a statement
abbrev pub comments_of : Statement → List (List ℕ)
comments_of s = joined (owners_of s)

abbrev pub comment_of : Mark → List ℕ → List (List ℕ)
comment_of Comment text = text ∷ []
comment_of _ text = []

-- the comments among tokens
abbrev pub comments_among : List Placed → List (List ℕ)
comments_among [] = []
comments_among (t ∷ ts) = comment_of (mark_of t) t.text ++ comments_among ts

-- The text is the first one of a list; `less` are the lists without it.
pub record IsTaken (text : List ℕ) (lists less : Lists) : Type 0 where
  pub front : Lists
  pub rest : List (List ℕ)
  pub back : Lists
  pub lists_are : lists ≡ front ++ (text ∷ rest) ∷ back
  pub less_are : less ≡ front ++ rest ∷ back

-- The texts are dealt to the lists, one after another: each is the first one left in some list, and is taken from that list. In the
-- end nothing is left.
abbrev pub AreDealt : List (List ℕ) → Lists → Type 0
AreDealt [] lists = joined lists ≡ []
AreDealt (text ∷ texts) lists = (less : Lists) × IsTaken text lists less × AreDealt texts less

-- how often the text is among these
abbrev pub times : List ℕ → List (List ℕ) → ℕ
times text [] = 0
times text (other ∷ others) = (if bytes_eq text other then 1 else 0) + times text others
