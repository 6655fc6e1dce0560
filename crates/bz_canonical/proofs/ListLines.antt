-- An argument whose value is one list of strings, by its lines.
use Rattle.std.proofs.Common.{◌≡◌, ◌<◌, ◌-◌, ℕ, suc, List, [], ◌∷◌, ◌++◌, Bool, true, false, ◌||◌, refl, sym, ap, ◌∙◌, arith, append_assoc, subst, bytes_eq}
use Rattle.std.proofs.lemmas.Bool.{false≢true}
use Rattle.std.specs.Prelude.{codes, Option, Some, None}
use Rattle.std.specs.List.{list_any}
use Rattle.bz_token.specs.Common.{map_or}
use Rattle.bz_token.specs.declared.token.Kind.TheVariants.{Identifier}
use Rattle.bz_tree.specs.Chunk.{IsStatementIn}
use Rattle.bz_tree.specs.declared.tree.Class.TheVariants.{Rule as RuleClass}
use Rattle.bz_tree.specs.declared.tree.GroupKind.TheVariants.{RuleCall}
use Rattle.bz_tree.specs.Tree.{leaf, group, no_segs, seg, Segment, Statement, segments, segs_of}
use Rattle.bz_layout.specs.Pieces.{bytes_of, comments, indent}
use Rattle.bz_layout_laws.proofs.FreeRead.{free_again}
use Rattle.bz_layout_laws.specs.FreeLayout.{Choice, broken_by, free, own, text_by}
use Rattle.bz_layout_laws.specs.Lineless.{lineless}
use Rattle.bz_label.specs.Labels.{Package}
use Rattle.bz_label.specs.declared.arguments.Chosen.TheVariants.{Values}
use Rattle.bz_attribute.specs.Effects.{is_chosen}
use Rattle.bz_attribute.specs.Reports.{chooses}
use Rattle.bz_attribute.specs.Rules.{first_named, rule_of}
use Rattle.bz_attribute.proofs.Views.{segments_of}
use Rattle.bz_canonical.specs.Added.{AreInLines}
use Rattle.bz_rule.specs.declared.forms.AttributeValues.{AttributeValues}
use Rattle.bz_canonical.specs.Canonical.{AreReadAlone, read_alone, rule_args, small_rule, small_text}
use Rattle.bz_canonical.specs.private.Added.{AreSought, IsListAlone, have_word, is_word, list_arg}
use Rattle.bz_canonical.specs.private.Elements.{AreElementsRead, Element, IsLast, closing, element_segs}
use Rattle.bz_canonical.specs.private.Arguments.{IsHeadRead}
use Rattle.bz_canonical.specs.private.Placed.{IsPlaced, Placed, placed_lines}
use Rattle.bz_canonical.proofs.ElementLists.{elements_read}
use Rattle.bz_canonical.proofs.GroupSegments.{or_no}
use Rattle.bz_canonical.proofs.ReadArguments.{list_is_placed, list_lines, list_placed, standing}
use Rattle.bz_canonical.proofs.SmallRules.{small_bytes, small_formed}

absurd_of : {A : Type 0} → false ≡ true → A
absurd_of h = absurd (false≢true h)

-- what is read of the lines of an argument is the argument
pub read_same : (depth : ℕ) (lines : List ℕ) (args : List Segment) (p : Placed) → IsPlaced depth p → lines ≡ placed_lines p → AreReadAlone (suc depth) lines args → args ≡ p.arg ∷ []
read_same depth lines args p is lines_are reads =
    let c : Choice = free true own (free true (free true (free true p.choice own) own) own) in
    let again = free_again 0 (suc depth) (small_rule (p.arg ∷ [])) c (small_formed depth (p.arg ∷ []) is.formed) (tt, ((λ no. absurd_of (sym no), (is.stand, tt)), tt)) in
    let bytes : text_by c (small_rule (p.arg ∷ [])) ≡ small_text lines = small_bytes (broken_by (free true p.choice own) 1 RuleCall true (segs_of (p.arg ∷ []))) ∙ ap small_text (sym lines_are) in
    let back : lineless again.0 ≡ small_rule (p.arg ∷ []) = again.2
    ∙ ap (λ xs. record { before = []; nodes = leaf Identifier (codes "k") ∷ group RuleCall (seg p.arg.before xs p.arg.suffix no_segs) false (codes "#" ∷ []) ∷ []; suffix = None; class = RuleClass; start = 0; end = 0 }) is.spelled in
    let same : lineless (small_rule args) ≡ small_rule (p.arg ∷ []) = sym (reads 0 again.0 (subst (λ text. IsStatementIn 0 (suc depth) text again.0) bytes again.1)) ∙ back in
    sym (segments_of args) ∙ ap (λ (z : Statement). rule_args (rule_of z.nodes)) same ∙ segments_of (p.arg ∷ [])

-- the argument of these lines

pub head_front : (attr text inside : List ℕ) → (h : IsHeadRead attr text (91 ∷ inside) true) → text ≡ (bytes_of (comments 1 h.notes) ++ (10 ∷ (indent 1 ++ (h.word ++ codes " = [")))) ++ inside
head_front attr text inside h = h.front ∙ start (bytes_of (comments 1 h.notes))
  where
    start : (C : List ℕ) → C ++ (10 ∷ (indent 1 ++ (h.word ++ (codes " = " ++ (91 ∷ inside))))) ≡ (C ++ (10 ∷ (indent 1 ++ (h.word ++ codes " = [")))) ++ inside
    start C = simp append_assoc

abbrev pub list_alone : (depth : ℕ) (attr text inside end w : List ℕ) (one b : Bool) → 1 < depth → IsHeadRead attr text (91 ∷ inside) true → AreElementsRead inside end w one b → IsLast end → IsListAlone depth attr text
list_alone depth attr text inside end w one b deep h t last =
    let d : ℕ = depth - 1 in
    let deeper : suc d ≡ depth = omega (arith, deep) in
    let less : 0 < d = omega (arith, deep) in
    let p : Placed = list_placed h.notes h.word t.breaks t.elements last.suffix in
    let C : List ℕ = bytes_of (comments 1 h.notes) in
    let lines : text ≡ placed_lines p = h.front ∙ ap (λ (x : List ℕ). C ++ (10 ∷ (indent 1 ++ (h.word ++ (codes " = " ++ x))))) (t.front ∙ ap (λ (x : List ℕ). (91 ∷ bytes_of (standing t.breaks t.elements)) ++ x) last.front)
    ∙ sym (list_lines h.notes h.word t.breaks t.elements last.suffix) in
    record {
      notes = h.notes;
      name = h.word;
      elements = t.elements;
      suffix = last.suffix;
      named = h.named_is;
      same = λ args reads. read_same d text args p (list_is_placed d h.notes h.word t.breaks t.elements last.suffix less h.are h.is t.are t.stands last.is) lines (subst (λ n. AreReadAlone n text args) (sym deeper) reads);
    }

-- which of its elements equal values

pub first_is : (attr word : List ℕ) (notes : List (List ℕ)) (es : List Element) (suffix : Option (List ℕ)) → bytes_eq attr word ≡ true → first_named attr (list_arg notes word es suffix ∷ []) ≡ Some (list_arg notes word es suffix)
first_is attr word notes es suffix named = rw named refl

pub chosen : (home : Package) (values : List (List ℕ)) (es : List Element) → list_any (is_chosen home (Values values)) (segments (element_segs es)) ≡ have_word home values es
chosen home values [] = refl
chosen home values (e ∷ es) = ap (λ b. is_word home values e.token || b) (chosen home values es)

pub chooses_is : (home : Package) (attr word : List ℕ) (values : List (List ℕ)) (notes : List (List ℕ)) (es : List Element) (suffix : Option (List ℕ)) → bytes_eq attr word ≡ true
    → map_or false (chooses home (Values values)) (first_named attr (list_arg notes word es suffix ∷ [])) ≡ have_word home values es
chooses_is home attr word values notes es suffix named =
    ap (map_or false (chooses home (Values values))) (first_is attr word notes es suffix named) ∙ or_no (list_any (is_chosen home (Values values)) (segments (element_segs es))) ∙ chosen home values es

pub sought_lines : (depth : ℕ) (home : Package) (sought : AttributeValues) (text inside rest end : List ℕ) (lines one there : Bool) → 1 < depth → IsHeadRead sought.attr.now text (91 ∷ inside) true → AreSought home sought.values.now lines one inside rest there
    → rest ≡ closing lines ++ end → IsLast end → AreInLines (read_alone depth home text) sought there
sought_lines depth home sought text inside rest end lines one there deep head o ends last =
    let attr = sought.attr.now in
    let values = sought.values.now in
    let read = elements_read lines one o.broken inside rest end o.written o.passed ends in
    let a = list_alone depth attr text inside end o.written one o.broken deep head read last in
    λ args reads. ap (λ xs. map_or false (chooses home (Values values)) (first_named attr xs)) (a.same args reads) ∙ chooses_is home attr a.name values a.notes a.elements a.suffix a.named ∙ sym o.there_is
