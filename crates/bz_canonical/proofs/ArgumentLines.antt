-- Arguments of a rule on lines of their own, and the first one of a name among them.
use Rattle.std.proofs.Common.{◌≡◌, ℕ, suc, ◌+◌, List, [], ◌∷◌, ◌++◌, Bool, true, false, refl, sym, ap, ◌∙◌, arith, append_assoc, subst, bytes_eq}
use Rattle.std.specs.Prelude.{codes, Some}
use Rattle.bz_token.specs.declared.token.Kind.TheVariants.{Identifier, Operator}
use Rattle.bz_tree.specs.declared.tree.GroupKind.TheVariants.{RuleCall}
use Rattle.bz_tree.specs.Tree.{Segs, no_segs, seg, Segment, items_of, list_of, segments, segs_of}
use Rattle.bz_layout.specs.declared.spacing.Edge.TheVariants.{Start}
use Rattle.bz_layout.specs.declared.spacing.Gap.TheVariants.{Closed, Line}
use Rattle.bz_layout.specs.declared.broken.Style.TheVariants.{Broken}
use Rattle.bz_layout.specs.Walked.{count, broken_segs, items_pieces}
use Rattle.bz_layout.specs.Pieces.{Piece, piece, bytes_of, comments, indent, suffix_piece}
use Rattle.bz_layout.proofs.Pieces.{bytes_append}
use Rattle.bz_layout_laws.proofs.SameInside.{items_same}
use Rattle.bz_canonical.specs.Canonical.{argument_lines}
use Rattle.bz_canonical.specs.private.Arguments.{IsArgumentFront}
use Rattle.bz_canonical.specs.private.Fronts.{IsTokenFront}
use Rattle.bz_canonical.specs.private.Segments.{AreNotesFront, AreSegments, IsBesideFront}
use Rattle.bz_canonical.specs.private.Values.{AreNodesFront}
use Rattle.bz_canonical.proofs.GroupSegments.{begin, keyword_segment, more, no_segments, noted_before}

-- the lines of arguments one after another
pub lines_append : (xs ys : List Segment) → argument_lines (xs ++ ys) ≡ argument_lines xs ++ argument_lines ys
lines_append [] ys = refl
lines_append (s ∷ xs) ys =
    on (comments 1 s.before) (items_pieces Broken 1 (Some RuleCall) (Line 1) Start (items_of s.nodes)) (suffix_piece s.suffix) (broken_segs Broken 1 RuleCall true (segs_of (xs ++ ys))) (broken_segs Broken 1 RuleCall true (segs_of xs))
    (argument_lines ys) (lines_append xs ys)
  where
    on : (C P S Q R : List Piece) (new : List ℕ) → bytes_of Q ≡ bytes_of R ++ new
        → bytes_of (C ++ (P ++ (piece Closed Operator (codes ",") ∷ (S ++ Q)))) ≡ bytes_of (C ++ (P ++ (piece Closed Operator (codes ",") ∷ (S ++ R)))) ++ new
    on C P S Q R new is =
        rw (
          bytes_append C (P ++ (piece Closed Operator (codes ",") ∷ (S ++ Q))),
          bytes_append P (piece Closed Operator (codes ",") ∷ (S ++ Q)),
          bytes_append S Q,
          is,
          bytes_append C (P ++ (piece Closed Operator (codes ",") ∷ (S ++ R))),
          bytes_append P (piece Closed Operator (codes ",") ∷ (S ++ R)),
          bytes_append S R,
        ) (simp append_assoc)

pub counted : (xs ys : List Segment) → count (segs_of (xs ++ ys)) ≡ count (segs_of xs) + count (segs_of ys)
counted [] ys = omega arith
counted (x ∷ xs) ys = ap suc (counted xs ys) ∙ omega arith

-- one argument with its comments
abbrev pub argument_front : (depth : ℕ) (attr text below inner equals value end after next : List ℕ) (k d e : Bool) → AreNotesFront 1 text below d → below ≡ 10 ∷ (indent 1 ++ inner)
    → (f : IsTokenFront Identifier inner equals) → equals ≡ codes " = " ++ value → AreNodesFront 1 depth value end k → end ≡ 44 ∷ after → IsBesideFront after next e → (named : Bool) → named ≡ bytes_eq attr f.token
    → IsArgumentFront depth attr text next named
argument_front depth attr text below inner equals value end after next k d e above line f eq v comma beside named named_is =
    let s = keyword_segment RuleCall 1 depth inner equals end value k refl f eq v in
    record {
      arg = record { before = above.notes; nodes = list_of s.xs; suffix = beside.note };
      front = (more RuleCall 1 depth text text below inner end after next 0 false k false d e (begin RuleCall 1 depth text) above line s comma beside no_segs next (no_segments RuleCall depth) refl).front
          ∙ ap (λ xs. bytes_of (broken_segs Broken 1 RuleCall true (seg above.notes xs beside.note no_segs)) ++ next) (sym (items_same s.xs));
      are = λ others are. subst (λ xs. AreSegments RuleCall depth (seg above.notes xs beside.note (segs_of others))) (sym (items_same s.xs))
          (noted_before RuleCall 1 depth text below inner end after next k d e above s beside (segs_of others) are);
      named_is = sym named_is;
    }

pub segs_same : (ss : Segs) → segs_of (segments ss) ≡ ss
segs_same no_segs = refl
segs_same (seg before nodes beside ss) = λ i. seg before (items_same nodes i) beside (segs_same ss i)

pub lines_after : (segs : Segs) → argument_lines (segments segs) ≡ bytes_of (broken_segs Broken 1 RuleCall true segs)
lines_after segs = ap (λ (ss : Segs). bytes_of (broken_segs Broken 1 RuleCall true ss)) (segs_same segs)
