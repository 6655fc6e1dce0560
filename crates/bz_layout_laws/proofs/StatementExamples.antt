-- Worked examples of the definitions.
use Rattle.std.proofs.Common.{◌≡◌, ℕ, List, [], ◌∷◌, true, false, Some, None, refl, codes}
use Rattle.bz_token.specs.declared.token.Kind.TheVariants.{Identifier}
use Rattle.bz_tree.specs.Tree.{Item, leaf, Segment}
use Rattle.bz_tree.specs.Cells.{a_node, a_comma, a_comment}
use Rattle.bz_layout_laws.specs.Written.{written_entries}

abbrev x : Item
x = leaf Identifier (codes "x")

abbrev y : Item
y = leaf Identifier (codes "y")

abbrev a : List ℕ
a = codes "# a"

abbrev b : List ℕ
b = codes "# b"

abbrev c : List ℕ
c = codes "# c"

abbrev d : List ℕ
d = codes "# d"

abbrev seg : List (List ℕ) → List Item → Segment
seg before nodes = record { before = before; nodes = nodes; suffix = None }

abbrev seg' : List (List ℕ) → List Item → List ℕ → Segment
seg' before nodes suffix = record { before = before; nodes = nodes; suffix = Some suffix }

-- two segments and an end comment, as they are written
two_written : written_entries true (seg' (a ∷ b ∷ []) (x ∷ y ∷ []) c ∷ seg [] (y ∷ []) ∷ []) (d ∷ [])
    ≡ a_comment false a ∷ a_comment false b ∷ a_node x ∷ a_node y ∷ a_comma ∷ a_comment true c ∷ a_node y ∷ a_comma ∷ a_comment false d ∷ []
two_written = refl

-- where no comma is written after the last segment
one_written : written_entries false (seg' (a ∷ []) (x ∷ []) c ∷ []) (d ∷ []) ≡ a_comment false a ∷ a_node x ∷ a_comment true c ∷ a_comment false d ∷ []
one_written = refl
