-- Worked examples of the definition by cells.
use Rattle.std.proofs.Common.{◌≡◌, ℕ, List, [], ◌∷◌, true, false, Some, None, refl, codes}
use Rattle.bz_token.specs.declared.token.Kind.TheVariants.{Identifier, Operator}
use Rattle.bz_token.specs.Places.{Placed}
use Rattle.bz_tree.specs.Tree.{Item, leaf, Segment}
use Rattle.bz_tree.specs.Owners.{node, comma, comment}
use Rattle.bz_tree.specs.Cells.{no_token, inside, a_node, a_comma, a_comment, inside_by_cells, entries_of}

abbrev x : Item
x = leaf Identifier (codes "x")

abbrev y : Item
y = leaf Identifier (codes "y")

abbrev a : List ℕ
a = codes "# a"

abbrev b : List ℕ
b = codes "# b"

abbrev c : List ℕ
c = codes "# c"

abbrev d : List ℕ
d = codes "# d"

abbrev e : List ℕ
e = codes "# e"

abbrev f : List ℕ
f = codes "# f"

abbrev seg : List (List ℕ) → List Item → Segment
seg before nodes = record { before = before; nodes = nodes; suffix = None }

abbrev seg' : List (List ℕ) → List Item → List ℕ → Segment
seg' before nodes suffix = record { before = before; nodes = nodes; suffix = Some suffix }

-- `f( # a` and `)`: an end comment
empty : inside_by_cells (a_comment false a ∷ []) ≡ record { segs = []; trailing = false; end = a ∷ [] }
empty = refl

-- `[x, # a`, `# b`, `]`
after_last_comma : inside_by_cells (a_node x ∷ a_comma ∷ a_comment true a ∷ a_comment false b ∷ []) ≡ record { segs = seg' [] (x ∷ []) a ∷ []; trailing = true; end = b ∷ [] }
after_last_comma = refl

-- `[x # a`, `# b`, `, # c`, `# d`, `]`
before_and_after : inside_by_cells (a_node x ∷ a_comment true a ∷ a_comment false b ∷ a_comma ∷ a_comment true c ∷ a_comment false d ∷ [])
    ≡ record { segs = seg' (b ∷ c ∷ []) (x ∷ []) a ∷ []; trailing = true; end = d ∷ [] }
before_and_after = refl

-- `[x`, `# b`, `, # c`, `]`
suffix_of_comma : inside_by_cells (a_node x ∷ a_comment false b ∷ a_comma ∷ a_comment true c ∷ []) ≡ record { segs = seg' (b ∷ []) (x ∷ []) c ∷ []; trailing = true; end = [] }
suffix_of_comma = refl

-- `[ # a`, `x + # b`, `y # c`, `, # d`, `x # e`, `# f`, `]`
between_operands : inside_by_cells (a_comment false a ∷ a_node x ∷ a_comment true b ∷ a_node y ∷ a_comment true c ∷ a_comma ∷ a_comment true d ∷ a_node x ∷ a_comment true e ∷ a_comment false f ∷ [])
    ≡ record { segs = seg' (a ∷ b ∷ d ∷ []) (x ∷ y ∷ []) c ∷ seg' [] (x ∷ []) e ∷ []; trailing = false; end = f ∷ [] }
between_operands = refl

-- `( # a`, `x # b`, `# c`, `)`
in_parens : inside_by_cells (a_comment false a ∷ a_node x ∷ a_comment true b ∷ a_comment false c ∷ []) ≡ record { segs = seg' (a ∷ []) (x ∷ []) b ∷ []; trailing = false; end = c ∷ [] }
in_parens = refl

-- `[x # a`, `, # b`, `y]`: of two comments the second stands above the segment before the comma
two_on_lines : inside_by_cells (a_node x ∷ a_comment true a ∷ a_comma ∷ a_comment true b ∷ a_node y ∷ []) ≡ record { segs = seg' (b ∷ []) (x ∷ []) a ∷ seg [] (y ∷ []) ∷ []; trailing = false; end = [] }
two_on_lines = refl

-- `[x, # a`, `# b`, `y, # c`, `# d`, `]`
above_the_next : inside_by_cells (a_node x ∷ a_comma ∷ a_comment true a ∷ a_comment false b ∷ a_node y ∷ a_comma ∷ a_comment true c ∷ a_comment false d ∷ [])
    ≡ record { segs = seg' [] (x ∷ []) a ∷ seg' (b ∷ []) (y ∷ []) c ∷ []; trailing = true; end = d ∷ [] }
above_the_next = refl

-- `x[ # a`, `1 # b`, `# c`, `]`; and `[k for k, # a`, `v in d # b`, `# c`, `]`, whose comma is a node
comma_as_node : inside_by_cells (a_node x ∷ a_node y ∷ a_comment true a ∷ a_node x ∷ a_comment true b ∷ a_comment false c ∷ [])
    ≡ record { segs = seg' (a ∷ []) (x ∷ y ∷ x ∷ []) b ∷ []; trailing = false; end = c ∷ [] }
comma_as_node = refl

-- `[ # a`, `x, # b`, `y # c`, `, z`, `# d`, `]`
four_owners : inside_by_cells (a_comment false a ∷ a_node x ∷ a_comma ∷ a_comment true b ∷ a_node y ∷ a_comment true c ∷ a_comma ∷ a_node x ∷ a_comment false d ∷ [])
    ≡ record { segs = seg' (a ∷ []) (x ∷ []) b ∷ seg' [] (y ∷ []) c ∷ seg [] (x ∷ []) ∷ []; trailing = false; end = d ∷ [] }
four_owners = refl

-- `[x,`, `# a`, `# b`, `]`: after the last comma on further lines
below_last_comma : inside_by_cells (a_node x ∷ a_comma ∷ a_comment false a ∷ a_comment false b ∷ []) ≡ record { segs = seg [] (x ∷ []) ∷ []; trailing = true; end = a ∷ b ∷ [] }
below_last_comma = refl

abbrev at_line : ℕ → Placed
at_line line = record { kind = Operator; text = codes ","; line = line; col = 1; fresh = false }

-- the flags, from lines: `[x # a`, `# b`, `, # c`, `# d`, `]`
from_lines : entries_of no_token (node 1 x ∷ comment 1 a ∷ comment 2 b ∷ comma (at_line 3) ∷ comment 3 c ∷ comment 4 d ∷ [])
    ≡ a_node x ∷ a_comment true a ∷ a_comment false b ∷ a_comma ∷ a_comment true c ∷ a_comment false d ∷ []
from_lines = refl

same_from_lines : inside (node 1 x ∷ comment 1 a ∷ comment 2 b ∷ comma (at_line 3) ∷ comment 3 c ∷ comment 4 d ∷ []) ≡ record { segs = seg' (b ∷ c ∷ []) (x ∷ []) a ∷ []; trailing = true; end = d ∷ [] }
same_from_lines = refl
