-- A rule of some arguments and a comment after them.
use Rattle.std.proofs.Common.{◌≡◌, ℕ, suc, ◌+◌, length, length-append, List, [], ◌∷◌, ◌++◌, false, true, refl, sym, ap, ◌∙◌, arith, append_assoc, append-nil, subst}
use Rattle.std.specs.Prelude.{codes, None}
use Rattle.std.proofs.lemmas.Bool.{false≢true}
use Rattle.bz_token.specs.declared.token.Kind.TheVariants.{Comment, Identifier, Newline, Operator}
use Rattle.bz_token.specs.Lexical.{is_text, keywords}
use Rattle.bz_tree.specs.declared.tree.kinds.Shape.TheVariants.{Round}
use Rattle.bz_tree.specs.declared.tree.Class.TheVariants.{Rule as RuleClass}
use Rattle.bz_tree.specs.declared.tree.GroupKind.TheVariants.{RuleCall}
use Rattle.bz_tree.specs.Chunk.{IsStatementIn}
use Rattle.bz_tree.proofs.Recognizer.InTable.{statement_form}
use Rattle.bz_tree.specs.private.Productions.{IsStatement, IsExpr, IsTest, IsChain, IsTerm, IsPrimary, IsOperand, AreSuffixes, IsSuffix}
use Rattle.bz_tree.specs.Tree.{Item, leaf, group, Segment, items_of, segs_of}
use Rattle.bz_layout.specs.declared.spacing.Gap.TheVariants.{Closed, Line}
use Rattle.bz_layout.specs.declared.broken.Style.TheVariants.{Broken}
use Rattle.bz_layout.specs.Layout.{layout_text}
use Rattle.bz_layout.specs.Walked.{broken_segs}
use Rattle.bz_layout.proofs.SameLayout.{layout_text_is}
use Rattle.bz_layout.specs.Pieces.{Piece, piece, bytes_of}
use Rattle.bz_layout.proofs.Pieces.{bytes_append}
use Rattle.bz_layout_laws.specs.Legible.{are_some}
use Rattle.bz_layout_laws.specs.WellFormed.{IsWellFormed}
use Rattle.bz_layout_laws.proofs.WellFormed.{formed_only}
use Rattle.bz_canonical.specs.Canonical.{AreReadAlone, argument_lines, small_rule, small_text}
use Rattle.bz_canonical.specs.private.Placed.{AreFormed}
use Rattle.bz_canonical.specs.private.Segments.{AreSegments}
use Rattle.bz_canonical.proofs.GroupSegments.{most}

kind_text : is_text Identifier (codes "k") ≡ true
unfolding keywords
kind_text = refl

absurd_of : {A : Type 0} → false ≡ true → A
absurd_of h = absurd (false≢true h)

pub small_formed : (depth : ℕ) (args : List Segment) → AreFormed depth (segs_of args) → IsWellFormed (suc depth) (small_rule args)
small_formed depth args are = record {
  texts = record { some = λ no. refl; before = refl; nodes = ((kind_text, refl), ((are.texts, refl), tt)); suffix = refl };
  parsed = record {
    kinds = (λ is. refl, tt, (λ is. refl, (Round, refl, record { one = λ is. absurd_of is; comma = λ is. absurd_of is }, are.kinds), tt));
    rule = refl;
    class = refl;
    alone = λ none. refl;
    lines = λ none. absurd_of (sym (ap (λ (xs : List Item). are_some (items_of xs)) none));
  };
  grammar = statement_form (IsStatement.expression (IsExpr.last_test (IsTest.plain (IsChain.single (IsTerm.primary (IsPrimary.operand (IsOperand.ident refl) (AreSuffixes.suffix (IsSuffix.call refl are.grammar) AreSuffixes.no_suffix)))))));
  depth_fits = most _ _ (suc depth) (omega arith) (most _ _ (suc depth) (omega (arith, are.depth_fits)) (omega arith));
}

pub small_bytes : (P : List Piece) → bytes_of ((piece Closed Identifier (codes "k") ∷ piece Closed Operator (codes "(") ∷ ((P ++ (piece (Line 1) Comment (codes "#") ∷ piece (Line 0) Operator (codes ")") ∷ [])) ++ [])) ++ piece Closed Newline (codes "\n") ∷ [])
    ≡ small_text (bytes_of P)
small_bytes P = rw (
  append-nil (P ++ (piece (Line 1) Comment (codes "#") ∷ piece (Line 0) Operator (codes ")") ∷ [])),
  bytes_append (P ++ (piece (Line 1) Comment (codes "#") ∷ piece (Line 0) Operator (codes ")") ∷ [])) (piece Closed Newline (codes "\n") ∷ []),
  bytes_append P (piece (Line 1) Comment (codes "#") ∷ piece (Line 0) Operator (codes ")") ∷ []),
) (simp append_assoc)

written : (args : List Segment) → layout_text (small_rule args) ≡ small_text (argument_lines args)
written args = layout_text_is (small_rule args) ∙ small_bytes (broken_segs Broken 1 RuleCall true (segs_of args))

formed_of : (depth : ℕ) (args : List Segment) → AreSegments RuleCall depth (segs_of args) → AreFormed depth (segs_of args)
formed_of depth args are = record { texts = are.texts; kinds = are.kinds; grammar = are.grammar; depth_fits = are.depth_fits }

pub read_alone : (depth : ℕ) (args : List Segment) → AreSegments RuleCall depth (segs_of args) → AreReadAlone (suc depth) (argument_lines args) args
read_alone depth args are = λ first t read.
    let only = formed_only first (suc depth) (small_rule args) t (small_formed depth args (formed_of depth args are)) (subst (λ text. IsStatementIn first (suc depth) text t) (sym (written args)) read) in
    only.0 ∙ ap (λ ss. record { before = []; nodes = leaf Identifier (codes "k") ∷ group RuleCall ss false (codes "#" ∷ []) ∷ []; suffix = None; class = RuleClass; start = 0; end = 0 }) are.stays

pub no_bytes : (C P R : List Piece) → bytes_of (C ++ (P ++ (piece Closed Operator (codes ",") ∷ R))) ≡ [] → ⊥
no_bytes C P R none =
    let size : length (bytes_of (C ++ (P ++ (piece Closed Operator (codes ",") ∷ R)))) ≡ length (bytes_of C) + (length (bytes_of P) + length (44 ∷ bytes_of R)) =
    ap length (bytes_append C (P ++ (piece Closed Operator (codes ",") ∷ R))) ∙ length-append (bytes_of C) (bytes_of (P ++ (piece Closed Operator (codes ",") ∷ R)))
    ∙ ap (λ (n : ℕ). length (bytes_of C) + n) (ap length (bytes_append P (piece Closed Operator (codes ",") ∷ R)) ∙ length-append (bytes_of P) (44 ∷ bytes_of R)) in
    omega (arith, size, ap length none)
