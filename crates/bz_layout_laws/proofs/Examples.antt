-- What the words say, computed; a statement is legible, and its lexemes.
use Rattle.std.proofs.Common.{◌≡◌, ℕ, List, [], ◌∷◌, true, false, refl}
use Rattle.std.specs.Prelude.{codes}
use Rattle.std.specs.Prelude.Option.{Some, None}
use Rattle.std.proofs.lemmas.Bool.{false≢true}
use Rattle.bz_token.specs.declared.token.Kind.TheVariants.{Identifier, Keyword, String, Operator, Newline, Comment}
use Rattle.bz_token.specs.Lexical.{keywords, operators}
use Rattle.bz_tree.specs.declared.tree.GroupKind.TheVariants.{List as ListKind, Paren, Index, ListComp}
use Rattle.bz_tree.specs.declared.tree.Class.TheVariants.{Assign}
use Rattle.bz_tree.specs.Tree.{Item, leaf, group, Statement, Segs, items_of, segs_of, segments}
use Rattle.bz_layout.specs.declared.spacing.Edge.TheVariants.{Start}
use Rattle.bz_layout.specs.Layout.{layout_text}
use Rattle.bz_layout_laws.specs.Legible.{AreLegible, IsLegible, begins_block, depth_of}
use Rattle.bz_layout_laws.specs.Lexemes.{Lexeme, lexeme, lexemes_of}
use Rattle.bz_layout_laws.specs.Written.{written_entries}
use Rattle.bz_layout_laws.specs.Inside.{HasShape, entries_lexemes}
use Rattle.bz_layout_laws.specs.Spelled.{spelled_statement}
use Rattle.bz_layout_laws.specs.Lineless.{lineless}

abbrev operator : List ℕ → Item
operator text = leaf Operator text

-- `x = [-'a']` with a comment in each place
abbrev example : Statement
example = record {
  before = codes "# top" ∷ [];
  nodes =
      leaf Identifier (codes "x") ∷ leaf Operator (codes "=")
      ∷ group ListKind (segs_of (record { before = codes "# a" ∷ []; nodes = leaf Operator (codes "-") ∷ leaf String (codes "'a'") ∷ []; suffix = Some (codes "# b") } ∷ [])) false (codes "# c" ∷ [])
      ∷ [];
  suffix = Some (codes "# d");
  class = Assign;
  start = 2;
  end = 6;
}

text : layout_text example ≡ codes "# top\nx = [\n    # a\n    -\"a\",  # b\n    # c\n]  # d\n"
text = refl

legible : IsLegible example
unfolding keywords operators
legible = record {
  some = λ e. refl;
  before = refl;
  nodes = (refl, (refl, refl), (refl, (refl, refl), (refl, ((refl, refl, (refl, (refl, refl), (refl, (refl, refl), tt)), refl, tt), refl), tt)));
  suffix = refl;
}

depth : depth_of example ≡ 1
depth = refl

no_block : begins_block (items_of example.nodes) ≡ false
no_block = refl

abbrev beside : List ℕ → Lexeme
beside text = record { kind = Comment; text = text; beside = true }

lexemes : lexemes_of example
    ≡ lexeme Comment (codes "# top") ∷ lexeme Newline (codes "\n") ∷ lexeme Identifier (codes "x") ∷ lexeme Operator (codes "=") ∷ lexeme Operator (codes "[") ∷ lexeme Comment (codes "# a") ∷ lexeme Operator (codes "-")
    ∷ lexeme String (codes "\"a\"") ∷ lexeme Operator (codes ",") ∷ beside (codes "# b") ∷ lexeme Comment (codes "# c") ∷ lexeme Operator (codes "]") ∷ beside (codes "# d") ∷ lexeme Newline (codes "\n") ∷ []
lexemes = refl

-- spelled as it is written, and elsewhere
again : layout_text (lineless (spelled_statement example)) ≡ layout_text example
again = refl

-- `-` and `=` after it would be read as one operator
one_operator : AreLegible None Start (items_of (operator (codes "-") ∷ operator (codes "=") ∷ [])) → ⊥
one_operator h = false≢true h.2.0

-- a block's word
block : begins_block (items_of (leaf Keyword (codes "if") ∷ leaf Identifier (codes "x") ∷ [])) ≡ true
block = refl

-- `(x,)` and `x[1]` have the shape, and a comprehension of two segments has none
abbrev one_segment : Segs
one_segment = segs_of (record { before = []; nodes = leaf Identifier (codes "x") ∷ []; suffix = None } ∷ [])

abbrev two_segments : Segs
two_segments = segs_of (record { before = []; nodes = leaf Identifier (codes "x") ∷ []; suffix = None } ∷ record { before = []; nodes = leaf Identifier (codes "y") ∷ []; suffix = None } ∷ [])

tuple : HasShape Paren one_segment true
tuple = record { one = λ e. refl; comma = λ e. (refl, refl) }

index : HasShape Index one_segment false
index = record { one = λ e. refl; comma = λ e. absurd (false≢true e) }

comprehension : HasShape ListComp two_segments false → ⊥
comprehension h = false≢true (h.one refl)

entries : entries_lexemes (written_entries true (segments one_segment) (codes "# c" ∷ [])) ≡ lexeme Identifier (codes "x") ∷ lexeme Operator (codes ",") ∷ lexeme Comment (codes "# c") ∷ []
entries = refl
