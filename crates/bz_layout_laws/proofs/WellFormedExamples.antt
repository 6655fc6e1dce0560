-- A statement in which operators stand beside each other is well-formed.
use Rattle.std.proofs.Common.{◌≡◌, ℕ, ◌≤◌, List, [], ◌∷◌, true, false, refl, sym, ap, arith}
use Rattle.std.specs.Prelude.{codes}
use Rattle.std.specs.Prelude.Option.{None}
use Rattle.std.proofs.lemmas.Bool.{false≢true}
use Rattle.bz_token.specs.declared.token.Kind.TheVariants.{Identifier, Keyword, Integer, Operator}
use Rattle.bz_token.specs.Lexical.{keywords, operators}
use Rattle.bz_tree.specs.declared.tree.GroupKind.TheVariants.{RuleCall, Call, Index}
use Rattle.bz_tree.specs.declared.tree.Class.TheVariants.{Rule}
use Rattle.bz_tree.specs.declared.tree.kinds.Shape.TheVariants.{Round, Square}
use Rattle.bz_tree.specs.Grammar.{IsStatement}
use Rattle.bz_tree.specs.Tree.{Item, leaf, group, Items, Segs, Segment, Statement, items_of, segs_of}
use Rattle.bz_tree.proofs.Recognizer.Recognized.{statement_accepted, accepted_statement}
use Rattle.bz_layout.specs.declared.spacing.Edge.TheVariants.{Start}
use Rattle.bz_layout.specs.Layout.{layout_text}
use Rattle.bz_layout_laws.specs.Following.{MayFollow}
use Rattle.bz_layout_laws.specs.Inside.{HasShape}
use Rattle.bz_layout_laws.specs.Legible.{depth_of}
use Rattle.bz_layout_laws.specs.Parsed.{IsParsed}
use Rattle.bz_layout_laws.specs.TextsOfKinds.{HasTexts}
use Rattle.bz_layout_laws.specs.WellFormed.{IsWellFormed}
use Rattle.bz_token.specs.Common.{is_filled}

abbrev operator : List ℕ → Item
operator text = leaf Operator text

abbrev name : List ℕ → Item
name text = leaf Identifier text

abbrev one : List Item → Segment
one nodes = record { before = []; nodes = nodes; suffix = None }

-- `::-1`
abbrev range : Segs
range = segs_of (one (operator (codes ":") ∷ operator (codes ":") ∷ operator (codes "-") ∷ leaf Integer (codes "1") ∷ []) ∷ [])

-- `*x[::-1]`
abbrev arguments : Segs
arguments = segs_of (one (operator (codes "*") ∷ name (codes "x") ∷ group Index range false [] ∷ []) ∷ [])

-- `f(*x[::-1])`
abbrev example : Statement
example = record { before = []; nodes = name (codes "f") ∷ group RuleCall arguments false [] ∷ []; suffix = None; class = Rule; start = 1; end = 1 }

written : layout_text example ≡ codes "f(*x[::-1])\n"
written = refl

texts : HasTexts example
unfolding keywords operators
texts = record {
  some = λ e. refl;
  before = refl;
  nodes = (
    (refl, refl),
    (((refl, refl, ((refl, refl), ((refl, refl), (((refl, refl, ((refl, refl), ((refl, refl), ((refl, refl), ((refl, refl), tt)))), refl, tt), refl), tt))), refl, tt), refl), tt),
  );
  suffix = refl;
}

no_comma : false ≡ true → false ≡ true
no_comma e = e

one_index : HasShape Index range false
one_index = record { one = λ e. refl; comma = λ e. absurd (false≢true e) }

one_call : HasShape Call arguments false
one_call = record { one = λ e. absurd (false≢true e); comma = λ e. absurd (false≢true e) }

parsed : IsParsed example
parsed = record {
  kinds = (
    λ e. refl,
    tt,
    (
      λ e. refl,
      (
        Round,
        refl,
        one_call,
        (
          (
            no_comma,
            tt,
            (no_comma, tt, (no_comma, (Square, refl, one_index, ((λ e. refl, tt, (λ e. refl, tt, (λ e. refl, tt, (λ e. refl, tt, tt)))), tt)), tt)),
          ),
          tt,
        ),
      ),
      tt,
    ),
  );
  rule = refl;
  class = refl;
  alone = λ e. absurd (false≢true (sym (ap is_filled e)));
  lines = λ e. absurd (false≢true (sym (ap is_filled e)));
}

in_grammar : IsStatement (items_of example.nodes)
in_grammar = accepted_statement (items_of example.nodes) refl

two_deep : depth_of example ≤ 2
two_deep = omega (arith)

formed : IsWellFormed 2 example
formed = record { texts = texts; parsed = parsed; grammar = in_grammar; depth_fits = two_deep }

-- `-` and `=` after it would be read as one operator, and are not in the grammar
abbrev one_operator : Items
one_operator = items_of (operator (codes "-") ∷ operator (codes "=") ∷ name (codes "x") ∷ [])

may_not_follow : MayFollow None Start one_operator → ⊥
may_not_follow h = false≢true h.2.0

not_in_grammar : IsStatement one_operator → ⊥
not_in_grammar h = false≢true (statement_accepted one_operator h)

-- nor is what begins with a block's word
block_not_in_grammar : IsStatement (items_of (leaf Keyword (codes "if") ∷ name (codes "x") ∷ [])) → ⊥
block_not_in_grammar h = false≢true (statement_accepted (items_of (leaf Keyword (codes "if") ∷ name (codes "x") ∷ [])) h)
