-- Statements that have the kinds that parsing gives.
use Rattle.std.proofs.Common.{◌≡◌, ℕ, List, [], ◌∷◌, true, false, refl, ap, sym}
use Rattle.std.specs.Prelude.{codes}
use Rattle.std.specs.Prelude.Option.{None}
use Rattle.std.proofs.lemmas.Bool.{false≢true}
use Rattle.bz_token.specs.declared.token.Kind.TheVariants.{Identifier, Keyword, Operator}
use Rattle.bz_token.specs.Lexical.{keywords, operators}
use Rattle.bz_tree.specs.declared.tree.GroupKind.TheVariants.{RuleCall, ListComp, Call}
use Rattle.bz_tree.specs.declared.tree.Class.TheVariants.{Rule, Comment}
use Rattle.bz_tree.specs.declared.tree.kinds.Shape.TheVariants.{Round, Square}
use Rattle.bz_tree.specs.Tree.{Item, leaf, group, Segs, Statement, items_of, segs_of}
use Rattle.bz_layout.specs.Layout.{layout_text}
use Rattle.bz_layout_laws.specs.Inside.{HasShape}
use Rattle.bz_layout_laws.specs.Legible.{IsLegible, begins_block}
use Rattle.bz_layout_laws.specs.Parsed.{IsParsed, have_for}
use Rattle.bz_token.specs.Common.{is_filled}

abbrev word : List ℕ → Item
word text = leaf Keyword text

abbrev name : List ℕ → Item
name text = leaf Identifier text

-- `x for x in y`
abbrev clause : Segs
clause = segs_of (record { before = []; nodes = name (codes "x") ∷ word (codes "for") ∷ name (codes "x") ∷ word (codes "in") ∷ name (codes "y") ∷ []; suffix = None } ∷ [])

abbrev arguments : Segs
arguments = segs_of (record { before = []; nodes = name (codes "srcs") ∷ leaf Operator (codes "=") ∷ group ListComp clause false [] ∷ []; suffix = None } ∷ [])

-- `rule(srcs = [x for x in y])`
abbrev rule : Statement
rule = record { before = []; nodes = name (codes "rule") ∷ group RuleCall arguments false [] ∷ []; suffix = None; class = Rule; start = 1; end = 1 }

written : layout_text rule ≡ codes "rule(srcs = [x for x in y])\n"
written = refl

no_comma : false ≡ true → false ≡ true
no_comma e = e

comprehension : HasShape ListComp clause false
comprehension = record { one = λ e. refl; comma = λ e. absurd (false≢true e) }

one_call : HasShape Call arguments false
one_call = record { one = λ e. absurd (false≢true e); comma = λ e. absurd (false≢true e) }

parsed : IsParsed rule
parsed = record {
  kinds = (
    λ e. refl,
    tt,
    (
      λ e. refl,
      (
        Round,
        refl,
        one_call,
        (
          (
            no_comma,
            tt,
            (
              no_comma,
              tt,
              (
                no_comma,
                (Square, refl, comprehension, ((λ e. refl, tt, (λ e. refl, tt, (λ e. refl, tt, (λ e. refl, tt, (λ e. refl, tt, tt))))), tt)),
                tt,
              ),
            ),
          ),
          tt,
        ),
      ),
      tt,
    ),
  );
  rule = refl;
  class = refl;
  alone = λ e. absurd (false≢true (sym (ap is_filled e)));
  lines = λ e. absurd (false≢true (sym (ap is_filled e)));
}

legible : IsLegible rule
unfolding keywords operators
legible = record {
  some = λ e. refl;
  before = refl;
  nodes = (
    refl,
    (refl, refl),
    (
      refl,
      (
        (
          refl,
          refl,
          (
            refl,
            (refl, refl),
            (
              refl,
              (refl, refl),
              (
                refl,
                ((refl, refl, (refl, (refl, refl), (refl, (refl, refl), (refl, (refl, refl), (refl, (refl, refl), (refl, (refl, refl), tt))))), refl, tt), refl),
                tt,
              ),
            ),
          ),
          refl,
          tt,
        ),
        refl,
      ),
      tt,
    ),
  );
  suffix = refl;
}

no_block : begins_block (items_of rule.nodes) ≡ false
no_block = refl

-- `for` stands in it before any comma
comprehends : have_for clause ≡ true
comprehends = refl

-- comment lines alone
abbrev lines : Statement
lines = record { before = codes "# c" ∷ []; nodes = []; suffix = None; class = Comment; start = 1; end = 1 }

lines_parsed : IsParsed lines
lines_parsed = record { kinds = tt; rule = refl; class = refl; alone = λ e. refl; lines = λ e. refl }
