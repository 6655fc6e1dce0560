use Rattle.std.proofs.Common.{◌≡◌, ◌==◌, ◌++◌, ℕ, List, false, map}
use denote.Text.{Utf8}
use denote.Shadow.{shadow}
use Rattle.bz_token.specs.Common.{begins}
use Rattle.bz_tree.specs.Rows.{above, part_view}
use Rattle.bz_layout_laws.specs.Legible.{AreComments}
use Rattle.bz_canonical.specs.SealedRules.{IsLevel, comment_rows}
use Rattle.bz_canonical.proofs.CommentRows.{AreLeft}
use Rattle.bz_canonical.proofs.sealed.put_comments.Given as goal

abbrev pub invariant-loop : goal.invariant-loop
invariant-loop l = shadow (Utf8 l.rest)
    × ((level : ℕ) (notes : List (List ℕ)) (after : List ℕ) → IsLevel level l.first l.indent → AreComments notes → begins (λ b. b == l.first) after ≡ false
    → l.lines ≡ comment_rows level notes ++ after → AreLeft level after l.rest (map part_view l.parts.items) (map part_view l.initial.parts.items ++ map above notes))
