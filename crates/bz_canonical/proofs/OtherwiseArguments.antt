-- An argument whose value stands otherwise than it would be written, by what was read and written of it.
use Rattle.std.proofs.Common.{◌≡◌, ◌<◌, ℕ, length, List, ◌∷◌, ◌++◌, Bool, true, refl, sym, ap, ◌∙◌, arith, append_assoc, append-nil, subst}
use Rattle.std.specs.Prelude.{codes, Option}
use Rattle.bz_token.specs.declared.token.Kind.TheVariants.{Identifier}
use Rattle.bz_tree.specs.declared.tree.GroupKind.TheVariants.{RuleCall}
use Rattle.bz_tree.specs.private.Productions.{AreArgs}
use Rattle.bz_tree.specs.Comments.{beside}
use Rattle.bz_tree.specs.Tree.{Items, list_of, no_segs, seg}
use Rattle.bz_layout.specs.Pieces.{bytes_of, comments, indent, suffix_piece}
use Rattle.bz_layout_laws.specs.FreeLayout.{Stand, free, items_spelled_by, own}
use Rattle.bz_layout_laws.specs.Legible.{AreComments}
use Rattle.bz_layout_laws.proofs.SameInside.{items_same}
use Rattle.bz_canonical.specs.private.Arguments.{IsArgumentRead, IsHeadRead}
use Rattle.bz_canonical.specs.private.Fronts.{IsTokenFront}
use Rattle.bz_canonical.specs.private.Otherwise.{AreNodesWritten, IsSegmentWritten, form_of, standing, writing}
use Rattle.bz_canonical.specs.private.Placed.{AreFormed, IsPlaced, Placed}
use Rattle.bz_canonical.specs.private.Segments.{IsBesideFront}
use Rattle.bz_canonical.proofs.GroupSegments.{most}
use Rattle.bz_canonical.proofs.OtherwiseSegments.{keyword_written}
use Rattle.bz_canonical.proofs.OtherwiseSteps.{stood_on_line, wrote_on_line}
use Rattle.bz_canonical.proofs.ReadArguments.{head_some}

-- a segment as an argument
abbrev argument_of : (depth : ℕ) (text rest w : List ℕ) (k : Bool) → IsSegmentWritten RuleCall 1 1 depth text rest w k → List (List ℕ) → Option (List ℕ) → Placed
argument_of depth text rest w k s notes note = record { arg = record { before = notes; nodes = list_of s.segment.xs; suffix = note }; choice = s.choice }

argument_is : (depth : ℕ) (text rest w : List ℕ) (k : Bool) (s : IsSegmentWritten RuleCall 1 1 depth text rest w k) (notes : List (List ℕ)) (note : Option (List ℕ)) → AreComments notes → AreComments (beside note)
    → IsPlaced depth (argument_of depth text rest w k s notes note)
argument_is depth text rest w k s notes note notes_are note_is = record {
  formed = subst (λ (ys : Items). AreFormed depth (seg notes ys note no_segs)) (sym (items_same s.segment.xs)) (record {
    texts = (notes_are, s.segment.is.some, s.segment.is.texts, note_is, tt);
    kinds = (s.segment.is.kinds, tt);
    grammar = AreArgs.one_arg s.segment.is.grammar AreArgs.no_arg;
    depth_fits = most _ _ depth s.segment.is.depth_fits (omega arith);
  });
  stand = subst (Stand s.choice) (sym (items_same s.segment.xs)) s.stand;
  spelled = subst (λ (ys : Items). items_spelled_by s.choice ys ≡ ys) (sym (items_same s.segment.xs)) s.spelled;
}

pub otherwise_read : (depth : ℕ) (attr text value end comma next w : List ℕ) (e named k : Bool) → IsHeadRead attr text value named → AreNodesWritten 1 1 depth value end w k → end ≡ 44 ∷ comma → IsBesideFront comma next e
    → (front back : List ℕ) × (text ≡ front ++ value) × (end ≡ back ++ next) × (0 < length front) × (read : IsArgumentRead depth attr text next (front ++ (w ++ back)) named)
    × (end ≡ 44 ∷ (bytes_of (suffix_piece read.placed.arg.suffix) ++ next))
otherwise_read depth attr text value end comma next w e named k h n is side =
    let inner : List ℕ = h.word ++ (codes " = " ++ value) in
    let f : IsTokenFront Identifier inner (codes " = " ++ value) = record { token = h.word; is = h.is; stays = refl; front = refl } in
    let s = keyword_written RuleCall refl 1 1 depth inner (codes " = " ++ value) value end w k f refl n in
    let u : List ℕ = h.word ++ (codes " = " ++ w) in
    let C : List ℕ = bytes_of (comments 1 h.notes) in
    let S : List ℕ = bytes_of (suffix_piece side.note) in
    let F : List ℕ = C ++ (10 ∷ (indent 1 ++ (h.word ++ codes " = "))) in
    let same = items_same s.segment.xs in
    let ends : end ≡ 44 ∷ (S ++ next) = is ∙ ap (λ (t : List ℕ). 44 ∷ t) side.front in (
      F,
      44 ∷ S,
      h.front ∙ start C,
      ends,
      head_some C (indent 1 ++ (h.word ++ codes " = ")),
      record {
        placed = argument_of depth inner end u k s h.notes side.note;
        is = argument_is depth inner end u k s h.notes side.note h.are side.is;
        front = stood_on_line RuleCall true true 1 1 depth text inner end next u k h.notes side.note s h.front ends no_segs own next refl
            ∙ ap (λ (ys : Items). standing (form_of true true) (free true s.choice own) 1 RuleCall true (seg h.notes ys side.note no_segs) ++ next) (sym same);
        spells = whole C S ∙ sym (append-nil _) ∙ sym (wrote_on_line RuleCall true true 1 1 depth inner end u k h.notes side.note s no_segs)
            ∙ ap (λ (ys : Items). writing (form_of true true) 1 RuleCall true (seg h.notes ys side.note no_segs)) (sym same);
        named_is = h.named_is;
        word = h.word;
        value = _;
        nodes_is = refl;
      },
      ends,
    )
  where
    start : (C : List ℕ) → C ++ (10 ∷ (indent 1 ++ (h.word ++ (codes " = " ++ value)))) ≡ (C ++ (10 ∷ (indent 1 ++ (h.word ++ codes " = ")))) ++ value
    start C = simp append_assoc

    whole : (C S : List ℕ) → (C ++ (10 ∷ (indent 1 ++ (h.word ++ codes " = ")))) ++ (w ++ (44 ∷ S)) ≡ C ++ (10 ∷ (indent 1 ++ ((h.word ++ (codes " = " ++ w)) ++ (44 ∷ S))))
    whole C S = simp append_assoc
