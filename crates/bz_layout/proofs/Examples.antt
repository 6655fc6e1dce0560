-- The definitions compute.
use Rattle.std.specs.Prelude.{◌≡◌, ℕ, List, [], ◌∷◌, true, false, codes, refl}
use Rattle.std.specs.Prelude.Option.{Some, None}
use Rattle.bz_token.specs.declared.token.Kind.TheVariants.{Identifier, Keyword, Integer, String, Operator, Kept}
use Rattle.bz_tree.specs.declared.tree.GroupKind.TheVariants.{Call, RuleCall, Paren, List as ListKind, Index, Dict}
use Rattle.bz_tree.specs.declared.tree.Class.TheVariants.{Load, Assign, Rule, Comment, Block}
use Rattle.bz_tree.specs.Tree.{Item, leaf, group, Segment, Statement, segs_of}
use Rattle.bz_layout.specs.Layout.{layout, layout_text, flat_text}
use Rattle.bz_layout.specs.Lines.{text_line, lines_of}
use Rattle.bz_layout.specs.Gaps.{lines_before}
use Rattle.bz_layout.proofs.Texts.{row_text}
use Rattle.bz_tree.specs.Rows.{a_token, opening, closing, segment_end, above, beside, parts_of}

abbrev pub name : List ℕ → Item
name text = leaf Identifier text

abbrev pub int : List ℕ → Item
int text = leaf Integer text

abbrev pub text : List ℕ → Item
text t = leaf String t

abbrev pub operator : List ℕ → Item
operator t = leaf Operator t

abbrev pub plain : List Item → Segment
plain xs = record { before = []; nodes = xs; suffix = None }

-- `x[1:-2]`
slice : flat_text None (name (codes "x") ∷ group Index (segs_of (plain (int (codes "1") ∷ operator (codes ":") ∷ operator (codes "-") ∷ int (codes "2") ∷ []) ∷ [])) false [] ∷ []) ≡ codes "x[1:-2]"
slice = refl

-- `not -f(*a, **k)`
prefixes : flat_text None (leaf Keyword (codes "not") ∷ operator (codes "-") ∷ name (codes "f") ∷ group Call (segs_of (plain (operator (codes "*") ∷ name (codes "a") ∷ []) ∷ plain (operator (codes "**") ∷ name (codes "k") ∷ []) ∷ [])) false [] ∷ []) ≡ codes "not -f(*a, **k)"
prefixes = refl

-- `['a', b'x']` within a dict after its colon
strings : flat_text (Some Dict) (text (codes "'k'") ∷ operator (codes ":") ∷ group ListKind (segs_of (plain (text (codes "'a'") ∷ []) ∷ plain (text (codes "b'x'") ∷ []) ∷ [])) false [] ∷ []) ≡ codes "\"k\": [\"a\", b'x']"
strings = refl

-- `x = [..]` with a comment in each place
abbrev pub commented : Statement
commented = record {
  before = codes "# top" ∷ [];
  nodes = name (codes "x") ∷ operator (codes "=") ∷ group ListKind (segs_of (record { before = codes "# a" ∷ []; nodes = int (codes "1") ∷ []; suffix = Some (codes "# b") } ∷ [])) false (codes "# c" ∷ []) ∷ [];
  suffix = Some (codes "# d");
  class = Assign;
  start = 2;
  end = 6;
}

places : layout_text commented ≡ codes "# top\nx = [\n    # a\n    1,  # b\n    # c\n]  # d\n"
places = refl

lines : lines_of (layout commented) ≡ text_line 0 (codes "# top") ∷ text_line 0 (codes "x = [") ∷ text_line 1 (codes "# a") ∷ text_line 1 (codes "1,  # b") ∷ text_line 1 (codes "# c") ∷ text_line 0 (codes "]  # d") ∷ []
lines = refl

-- `f({"a": [1, 2]})`: a dict breaks in place, and the list in it one level deeper
nested : layout_text (record { before = []; nodes = name (codes "f") ∷ group Call (segs_of (plain (group Dict (segs_of (plain (text (codes "'a'") ∷ operator (codes ":") ∷ group ListKind (segs_of (plain (int (codes "1") ∷ []) ∷ plain (int (codes "2") ∷ []) ∷ [])) false [] ∷ []) ∷ [])) false [] ∷ []) ∷ [])) false [] ∷ []; suffix = None; class = Rule; start = 1; end = 1 }) ≡ codes "f({\n    \"a\": [\n        1,\n        2,\n    ],\n})\n"
nested = refl

-- `(1)` and `(1,)`
one : flat_text None (group Paren (segs_of (plain (int (codes "1") ∷ []) ∷ [])) false [] ∷ []) ≡ codes "(1)"
one = refl

one_comma : flat_text None (group Paren (segs_of (plain (int (codes "1") ∷ []) ∷ [])) true [] ∷ []) ≡ codes "(1,)"
one_comma = refl

-- a block stands as it is
kept : layout_text (record { before = codes "# a" ∷ []; nodes = leaf Kept (codes "if a:\n  b  =  'c'") ∷ []; suffix = None; class = Block; start = 2; end = 3 }) ≡ codes "# a\nif a:\n  b  =  'c'\n"
kept = refl

-- empty lines
first : lines_before None Rule ≡ 0
first = refl

loads : lines_before (Some Load) Load ≡ 0
loads = refl

load_and_assignment : lines_before (Some Load) Assign ≡ 1
load_and_assignment = refl

comments : lines_before (Some Comment) Comment ≡ 1
comments = refl

-- a row: its parts, and its text by the two walks
row_parts : parts_of commented ≡ above (codes "# top") ∷ a_token Identifier (codes "x") ∷ a_token Operator (codes "=") ∷ opening ListKind ∷ above (codes "# a") ∷ a_token Integer (codes "1") ∷ segment_end ∷ beside (codes "# b") ∷ above (codes "# c") ∷ closing false ∷ beside (codes "# d") ∷ []
row_parts = refl

row_places : row_text [] (parts_of commented) Assign ≡ codes "# top\nx = [\n    # a\n    1,  # b\n    # c\n]  # d\n"
row_places = refl

-- `f((1,), [2, -b])`: the tuple stays in place
row_nested : row_text [] (a_token Identifier (codes "f") ∷ opening RuleCall ∷ opening Paren ∷ a_token Integer (codes "1") ∷ segment_end ∷ closing true ∷ segment_end ∷ opening ListKind ∷ a_token Integer (codes "2") ∷ segment_end ∷ a_token Operator (codes "-") ∷ a_token Identifier (codes "b") ∷ segment_end ∷ closing false ∷ segment_end ∷ closing false ∷ []) Rule ≡ codes "f(\n    (1,),\n    [\n        2,\n        -b,\n    ],\n)\n"
row_nested = refl

row_in_place : row_text [] (a_token Identifier (codes "x") ∷ a_token Operator (codes "=") ∷ a_token Identifier (codes "f") ∷ opening Call ∷ a_token Integer (codes "1") ∷ segment_end ∷ a_token Identifier (codes "k") ∷ a_token Operator (codes "=") ∷ a_token String (codes "'v'") ∷ segment_end ∷ closing false ∷ []) Assign ≡ codes "x = f(1, k = \"v\")\n"
row_in_place = refl

row_comments : row_text [] (above (codes "# a") ∷ above (codes "# b") ∷ []) Comment ≡ codes "# a\n# b\n"
row_comments = refl
