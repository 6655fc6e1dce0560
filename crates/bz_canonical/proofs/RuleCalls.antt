-- The call of a rule by what was read of it.
use Rattle.std.proofs.Common.{◌≡◌, ℕ, ◌+◌, ◌-◌, ◌<◌, ◌≤◌, ◌||◌, ◌&&◌, arith, List, [], ◌∷◌, ◌++◌, Bool, true, false, refl, sym, ap, ◌∙◌, append_assoc, append-nil, subst, length, take, drop, option_and_then}
use Rattle.std.specs.Prelude.{bytes_eq, codes, nat_le, Some, None, if◌then◌else◌}
use Rattle.std.proofs.lemmas.Bool.{false≢true, le-leb}
use Rattle.std.proofs.Math.Seq.{take-append_seam}
use Rattle.std.proofs.lemmas.Slice.Eq.{bytes_eq-Decides}
use Rattle.std.specs.List.{IsSplitAt}
use Rattle.bz_token.proofs.Classes.{same_bytes}
use Rattle.bz_token.specs.declared.token.Kind.TheVariants.{Identifier, String, Operator}
use Rattle.bz_token.specs.Lexical.{is_text, keywords}
use Rattle.bz_tree.specs.declared.tree.GroupKind.TheVariants.{RuleCall}
use Rattle.bz_tree.specs.Tree.{Item, leaf, group, Items, no_items, item, Segs, no_segs, seg, list_of, segments, is_operator_item}
use Rattle.bz_layout.specs.declared.spacing.Edge.TheVariants.{Start, Operator as EdgeOperator}
use Rattle.bz_layout.specs.declared.spacing.Gap.{Gap}
use Rattle.bz_layout.specs.declared.spacing.Gap.TheVariants.{Closed, Space, Line}
use Rattle.bz_layout.specs.declared.broken.Style.TheVariants.{Broken}
use Rattle.bz_layout.specs.Broken.{breaks_by_count}
use Rattle.bz_layout.specs.Walked.{count, segs_hold, is_broken, items_pieces, item_pieces, broken_segs, flat_segs}
use Rattle.bz_layout.specs.Pieces.{Piece, piece, bytes_of, comments, comma_if, gap_bytes, indent, suffix_piece}
use Rattle.bz_layout.proofs.Pieces.{bytes_append}
use Rattle.bz_attribute.specs.Rules.{first_named, ident_of, is_text as is_text_of, name_of, string_value as value_string, value}
use Rattle.bz_canonical.specs.private.Fronts.{IsTokenFront, IsQuotedFront}
use Rattle.bz_canonical.specs.private.Segments.{AreNotesFront, AreSegmentsFront, IsBesideFront, IsGroupFront}
use Rattle.bz_canonical.specs.Canonical.{HasArgumentName}
use Rattle.bz_canonical.specs.private.Statements.{IsRuleCallFront}
use Rattle.bz_canonical.proofs.GroupSegments.{begin, begin_flat, more, no_segments, keyword_segment}
use Rattle.bz_canonical.proofs.Operands.{broken_group, flat_group, string_value}
use Rattle.bz_canonical.proofs.Chained.{value_nodes}
use Rattle.bz_canonical.proofs.Taken.{taken}

name_text : is_text Identifier (codes "name") ≡ true
unfolding keywords
name_text = refl

-- the only argument is the name, in place
pub only_named_front : (depth : ℕ) (text start last rest name : List ℕ) → 0 < depth → text ≡ 40 ∷ (codes "name" ++ (codes " = " ++ start)) → IsQuotedFront start name last → last ≡ 41 ∷ rest → IsRuleCallFront depth (Some name) text rest
only_named_front depth text start last rest name deep is q closes =
    let first : List ℕ = codes "name" ++ (codes " = " ++ start) in
    let string : IsTokenFront String start last = record { token = 34 ∷ (name ++ 34 ∷ []); is = q.is; stays = refl; front = q.front } in
    let ident : IsTokenFront Identifier first (codes " = " ++ start) = record { token = codes "name"; is = name_text; stays = refl; front = refl } in
    let arg = keyword_segment RuleCall 0 (depth - 1) first (codes " = " ++ start) last start false refl ident refl (value_nodes 0 (depth - 1) start last false (string_value start last string 0 (depth - 1))) in
    let all = begin_flat RuleCall 0 (depth - 1) first last false arg no_segs last (no_segments RuleCall (depth - 1)) refl refl in
    subst (λ t. IsRuleCallFront depth (Some name) t rest) (sym is)
    (record { holds = false; group = flat_group RuleCall 0 depth (depth - 1) first last rest 41 1 false (omega arith) refl all refl closes; named = q.value; none = tt })

-- the first argument is the name, on a line of its own, with the comments above it and beside it, and there are others
pub lines_named_front : (depth : ℕ) (text inside below first start last comma next middle end close rest name : List ℕ) (n : ℕ) (h c d e f : Bool) → 0 < depth → text ≡ 40 ∷ inside → AreNotesFront 1 inside below d
    → below ≡ 10 ∷ (indent 1 ++ first) → first ≡ codes "name = " ++ start → IsQuotedFront start name last → last ≡ 44 ∷ comma → IsBesideFront comma next e
    → AreSegmentsFront RuleCall 1 (depth - 1) next middle n h c → AreNotesFront 1 middle end f → 0 < n → end ≡ 10 ∷ close → close ≡ 41 ∷ rest → IsRuleCallFront depth (Some name) text rest
lines_named_front depth text inside below first start last comma next middle end close rest name n h c d e f deep is above line named q comma_is beside others notes some ends closes =
    let string : IsTokenFront String start last = record { token = 34 ∷ (name ++ 34 ∷ []); is = q.is; stays = refl; front = q.front } in
    let ident : IsTokenFront Identifier first (codes " = " ++ start) = record { token = codes "name"; is = name_text; stays = refl; front = named } in
    let arg = keyword_segment RuleCall 1 (depth - 1) first (codes " = " ++ start) last start false refl ident refl (value_nodes 1 (depth - 1) start last false (string_value start last string 1 (depth - 1))) in
    let all = more RuleCall 1 (depth - 1) inside inside below first last comma next 0 false false false d e (begin RuleCall 1 (depth - 1) inside) above line arg comma_is beside others.segs middle others.are others.front in
    subst (λ t. IsRuleCallFront depth (Some name) t rest) (sym is)
    (record { holds = true; group = broken_group RuleCall 0 depth (depth - 1) inside middle end close rest 41 (1 + count others.segs) _ _ f (omega arith) refl (λ n. refl) all notes (many (count others.segs) (omega (arith, some, others.count_is)) _ _) ends closes; named = q.value; none = tt })
  where
    many : (n : ℕ) → 0 < n → (c h : Bool) → (f || c || breaks_by_count RuleCall (1 + n) || (nat_le 2 (1 + n) && h)) ≡ true
    many n some c h = by f c (nat_le 2 (1 + n)) (le-leb 2 (1 + n) (omega (arith, some)))
      where
        by : (f c two : Bool) → two ≡ true → (f || c || two || (two && h)) ≡ true
        by true c two is = refl
        by false true two is = refl
        by false false two is = rw is refl

-- no argument has a name that does not stand in the text

pub after_it : (attr xs ys : List ℕ) → HasArgumentName attr ys → HasArgumentName attr (xs ++ ys)
after_it attr xs ys h = record { before = xs ++ h.before; after = h.after; is = ap (λ (t : List ℕ). xs ++ t) h.is ∙ sym (append_assoc xs h.before (attr ++ (codes " =" ++ h.after))) }

pub before_it : (attr xs ys : List ℕ) → HasArgumentName attr xs → HasArgumentName attr (xs ++ ys)
before_it attr xs ys h = record {
  before = h.before;
  after = h.after ++ ys;
  is = ap (λ (t : List ℕ). t ++ ys) h.is ∙ append_assoc h.before (attr ++ (codes " =" ++ h.after)) ys ∙ ap (λ (t : List ℕ). h.before ++ t) (append_assoc attr (codes " =" ++ h.after) ys);
}

ident_is : (attr : List ℕ) (x : Item) → is_text_of attr (ident_of x) ≡ true → x ≡ leaf Identifier attr
ident_is attr (leaf Identifier text) is = ap (leaf Identifier) (sym (same_bytes attr text is))
ident_is attr (leaf _ text) is = absurd (false≢true is)
ident_is attr (group kind segs one_comma end) is = absurd (false≢true is)

equals_is : (y : Item) → is_operator_item (codes "=") y ≡ true → y ≡ leaf Operator (codes "=")
equals_is (leaf Operator text) is = ap (leaf Operator) (same_bytes text (codes "=") is)
equals_is (leaf _ text) is = absurd (false≢true is)
equals_is (group kind segs one_comma end) is = absurd (false≢true is)

named_begins : (attr : List ℕ) (x y : Item) → is_text_of attr (if is_operator_item (codes "=") y then ident_of x else None) ≡ true → (x ≡ leaf Identifier attr) × (y ≡ leaf Operator (codes "="))
named_begins attr x y is = by (is_operator_item (codes "=") y) refl is
  where
    by : (b : Bool) → is_operator_item (codes "=") y ≡ b → is_text_of attr (if b then ident_of x else None) ≡ true → (x ≡ leaf Identifier attr) × (y ≡ leaf Operator (codes "="))
    by true equals is = (ident_is attr x is, equals_is y equals)
    by false equals is = absurd (false≢true is)

-- a segment that is an argument of this name
named_says : (attr : List ℕ) (level : ℕ) (gap : Gap) (nodes : Items) (last : List ℕ) → is_text_of attr (name_of (list_of nodes)) ≡ true
    → HasArgumentName attr (bytes_of (items_pieces Broken level (Some RuleCall) gap Start nodes) ++ last)
named_says attr level gap no_items last is = absurd (false≢true is)
named_says attr level gap (item x no_items) last is = absurd (false≢true is)
named_says attr level gap (item x (item y ys)) last is =
    let parts = named_begins attr x y is in
    let rest : List ℕ = bytes_of (items_pieces Broken level (Some RuleCall) gap EdgeOperator ys) in
    rw (parts.0, parts.1) (record {
      before = gap_bytes gap;
      after = rest ++ last;
      is = append_assoc (gap_bytes gap) (attr ++ (codes " =" ++ rest)) last ∙ ap (λ (t : List ℕ). gap_bytes gap ++ t) (append_assoc attr (codes " =" ++ rest) last);
    })

-- of segments on lines none has a name that does not stand in their text
none_on_lines : (attr : List ℕ) (level : ℕ) (segs : Segs) (last : List ℕ) → (HasArgumentName attr (bytes_of (broken_segs Broken level RuleCall true segs) ++ last) → ⊥) → first_named attr (segments segs) ≡ None
none_on_lines attr level no_segs last none = refl
none_on_lines attr level (seg before nodes beside ss) last none =
    by (is_text_of attr (name_of (list_of nodes))) refl
    (none_on_lines attr level ss last (λ h. none (subst (HasArgumentName attr) (behind (comments level before) (items_pieces Broken level (Some RuleCall) (Line level) Start nodes) (comma_if true) (suffix_piece beside) (broken_segs Broken level RuleCall true ss))
    (after_it attr _ _ h))))
  where
    around : (C P K S Q : List Piece) → bytes_of C ++ (bytes_of P ++ (bytes_of (K ++ (S ++ Q)) ++ last)) ≡ bytes_of (C ++ (P ++ (K ++ (S ++ Q)))) ++ last
    around C P K S Q = rw (bytes_append C (P ++ (K ++ (S ++ Q))), bytes_append P (K ++ (S ++ Q))) (simp append_assoc)

    behind : (C P K S Q : List Piece) → (bytes_of C ++ (bytes_of P ++ (bytes_of K ++ bytes_of S))) ++ (bytes_of Q ++ last) ≡ bytes_of (C ++ (P ++ (K ++ (S ++ Q)))) ++ last
    behind C P K S Q = rw (bytes_append C (P ++ (K ++ (S ++ Q))), bytes_append P (K ++ (S ++ Q)), bytes_append K (S ++ Q), bytes_append S Q) (simp append_assoc)

    by : (b : Bool) → is_text_of attr (name_of (list_of nodes)) ≡ b → first_named attr (segments ss) ≡ None
        → (if b then Some (record { before = before; nodes = list_of nodes; suffix = beside }) else first_named attr (segments ss)) ≡ None
    by true is others =
        absurd (none (subst (HasArgumentName attr) (around (comments level before) (items_pieces Broken level (Some RuleCall) (Line level) Start nodes) (comma_if true) (suffix_piece beside) (broken_segs Broken level RuleCall true ss))
        (after_it attr (bytes_of (comments level before)) _ (named_says attr level (Line level) nodes _ is))))
    by false is others = others

abbrev in_place : ℕ → Bool → Items → List Piece
in_place level first nodes = if first then items_pieces Broken level (Some RuleCall) Closed Start nodes else piece Closed Operator (codes ",") ∷ items_pieces Broken level (Some RuleCall) Space Start nodes

-- nor of segments in place
none_in_place : (attr : List ℕ) (level : ℕ) (first : Bool) (segs : Segs) (last : List ℕ) → (HasArgumentName attr (bytes_of (flat_segs Broken level RuleCall first segs) ++ last) → ⊥) → first_named attr (segments segs) ≡ None
none_in_place attr level first no_segs last none = refl
none_in_place attr level first (seg before nodes beside ss) last none =
    by (is_text_of attr (name_of (list_of nodes))) refl
    (none_in_place attr level false ss last (λ h. none (subst (HasArgumentName attr) (around (in_place level first nodes) (flat_segs Broken level RuleCall false ss)) (after_it attr (bytes_of (in_place level first nodes)) _ h))))
  where
    around : (P Q : List Piece) → bytes_of P ++ (bytes_of Q ++ last) ≡ bytes_of (P ++ Q) ++ last
    around P Q = rw (bytes_append P Q) (simp append_assoc)

    says : (first : Bool) (last : List ℕ) → is_text_of attr (name_of (list_of nodes)) ≡ true → HasArgumentName attr (bytes_of (in_place level first nodes) ++ last)
    says true last is = named_says attr level Closed nodes last is
    says false last is = after_it attr (codes ",") _ (named_says attr level Space nodes last is)

    by : (b : Bool) → is_text_of attr (name_of (list_of nodes)) ≡ b → first_named attr (segments ss) ≡ None
        → (if b then Some (record { before = before; nodes = list_of nodes; suffix = beside }) else first_named attr (segments ss)) ≡ None
    by true is others = absurd (none (subst (HasArgumentName attr) (around (in_place level first nodes) (flat_segs Broken level RuleCall false ss)) (says first _ is)))
    by false is others = others

pub no_argument_name : (attr : List ℕ) (segs : Segs) (end : List (List ℕ)) → (HasArgumentName attr (bytes_of (item_pieces Broken 0 Closed (group RuleCall segs false end))) → ⊥) → first_named attr (segments segs) ≡ None
no_argument_name attr segs end none = by (is_broken RuleCall segs end (segs_hold segs)) none
  where
    by : (b : Bool) → (HasArgumentName attr (40 ∷ bytes_of (if b then broken_segs Broken 1 RuleCall true segs ++ (comments 1 end ++ piece (Line 0) Operator (codes ")") ∷ []) else flat_segs Broken 0 RuleCall true segs ++ piece Closed Operator (codes ")") ∷ [])) → ⊥)
        → first_named attr (segments segs) ≡ None
    by true none = none_on_lines attr 1 segs (bytes_of (comments 1 end ++ piece (Line 0) Operator (codes ")") ∷ []))
        (λ h. none (after_it attr (codes "(") _ (subst (HasArgumentName attr) (sym (bytes_append (broken_segs Broken 1 RuleCall true segs) (comments 1 end ++ piece (Line 0) Operator (codes ")") ∷ []))) h)))
    by false none = none_in_place attr 0 true segs (bytes_of (piece Closed Operator (codes ")") ∷ []))
        (λ h. none (after_it attr (codes "(") _ (subst (HasArgumentName attr) (sym (bytes_append (flat_segs Broken 0 RuleCall true segs) (piece Closed Operator (codes ")") ∷ []))) h)))

abbrev pub unnamed_front : (depth : ℕ) (text call rest : List ℕ) (h : Bool) → IsGroupFront RuleCall 0 depth text rest h → call ≡ take (length text - length rest) text → (HasArgumentName (codes "name") call → ⊥)
    → IsRuleCallFront depth None text rest
unnamed_front depth text call rest h g is none =
    let no_name : first_named (codes "name") (segments g.segs) ≡ None =
    no_argument_name (codes "name") g.segs g.end (λ has. none (subst (HasArgumentName (codes "name")) (sym (is ∙ taken text (bytes_of (item_pieces Broken 0 Closed (group RuleCall g.segs false g.end))) rest (g.front Closed))) has)) in
    record { holds = h; group = g; named = ap (option_and_then (λ a. value_string (value a))) no_name; none = no_name }

abbrev all_but_first : List ℕ → List ℕ
all_but_first [] = []
all_but_first (b ∷ bs) = bs

-- where a text does not begin with it, it stands in what follows the first byte
pub stands_later : (name text rest : List ℕ) (b : ℕ) → text ≡ b ∷ rest → ((after : List ℕ) → text ≡ name ++ (codes " =" ++ after) → ⊥) → HasArgumentName name text → HasArgumentName name rest
stands_later name text rest b is other has = by has.before (sym is ∙ has.is)
  where
    by : (before : List ℕ) → b ∷ rest ≡ before ++ (name ++ (codes " =" ++ has.after)) → HasArgumentName name rest
    by [] at = absurd (other has.after (is ∙ at))
    by (x ∷ xs) at = record { before = xs; after = has.after; is = ap all_but_first at }

pub stands_next : (name rest : List ℕ) → 1 ≤ length rest → ((after : List ℕ) → rest ≡ name ++ (codes " =" ++ after) → ⊥) → HasArgumentName name rest → HasArgumentName name (take (length rest - 1) (drop 1 rest))
stands_next name [] some other has = absurd (omega (arith, some))
stands_next name (b ∷ rest) some other has =
    let all : length (b ∷ rest) - 1 ≡ length rest - length {A = ℕ} [] = omega arith in
    subst (HasArgumentName name) (sym (ap (λ n. take n rest) all ∙ taken rest rest [] (sym (append-nil rest)))) (stands_later name (b ∷ rest) rest b refl other has)

pub never_in_nothing : (name text : List ℕ) → text ≡ [] → HasArgumentName name text → ⊥
never_in_nothing name text is has = by has.before name (sym has.is ∙ is)
  where
    by : (before name : List ℕ) → before ++ (name ++ (codes " =" ++ has.after)) ≡ [] → ⊥
    by [] [] at = cc
    by [] (b ∷ bs) at = cc
    by (x ∷ xs) name at = cc

-- the name stands there
pub begins_so : (text name front rest after : List ℕ) → IsSplitAt text (length name) front rest → text ≡ name ++ (codes " =" ++ after) → bytes_eq front name ≡ false → ⊥
begins_so text name front rest after split is other =
    let same : front ≡ name = split.1 ∙ ap (take (length name)) is ∙ take-append_seam name (codes " =" ++ after) in
    false≢true (sym other ∙ ap (λ (t : List ℕ). bytes_eq t name) same ∙ (bytes_eq-Decides name name).1 refl)
