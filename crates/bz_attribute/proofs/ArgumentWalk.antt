-- The walk over the arguments of the bracket that opens first, up to the first of a name.
use Rattle.std.proofs.Common.{◌≡◌, ℕ, ◌+◌, ◌≤◌, List, [], ◌∷◌, ◌++◌, true, false, ◌||◌, length, map, drop, refl, ap, sym, ◌∙◌, arith, append_assoc, append-nil, length-append, length-drop}
use Rattle.std.proofs.lemmas.List.{length-map}
use Rattle.std.proofs.lemmas.List.Folds.{list_any-append}
use Rattle.std.proofs.Math.Seq.{drop-append_seam}
use Rattle.bz_tree.specs.Tree.{Segment, Statement, segs_of}
use Rattle.bz_tree.specs.Rows.{RowPart, above, beside_part, closing, segs_parts}
use Rattle.bz_attribute.specs.Effects.{has}
use Rattle.bz_attribute.specs.RowPlaces.{AreArguments, arguments_begin, before_args, IsArgumentAmong, IsRuleRow}
use Rattle.bz_attribute.specs.Rules.{Rule, is_named, is_text}
use Rattle.bz_attribute.specs.private.Parts.{above_len, ends_list, flat_name, segment_len}
use Rattle.bz_attribute.proofs.EditedAt.{segs_join}
use Rattle.bz_attribute.proofs.FoundArgs.{named}
use Rattle.bz_attribute.proofs.ListElements.{IsSegmentAt, none_of, segment_there}
use Rattle.bz_attribute.proofs.PlaceFound.{all_begin}
use Rattle.bz_attribute.proofs.RuleNodes.{rule_nodes}
use Rattle.bz_attribute.proofs.RuleParts.{parts_cut}

-- those of a rule
pub rule_arguments : (s : Statement) (r : Rule) (ps : List RowPart) → IsRuleRow s r ps → AreArguments (before_args s r) r.args ps
rule_arguments s r ps h = record {
  end = r.end;
  one_comma = r.one_comma;
  after = beside_part s.suffix;
  are = h.are ∙ parts_cut s r (rule_nodes s.nodes r h.rule) ∙ ap (λ (qs : List RowPart). before_args s r ++ (segs_parts (segs_of r.args) ++ qs)) (append_assoc (map above r.end) (closing r.one_comma ∷ []) (beside_part s.suffix));
  begin = sym (all_begin s r ps h ∙ ap length (append-nil (before_args s r)));
}

-- none of the arguments before `at` has the name
pub record IsUnnamed (name : List ℕ) (before : List RowPart) (args : List Segment) (last ps : List RowPart) (at : ℕ) : Type 0 where
  pub front : List Segment
  pub others : List Segment
  pub are : args ≡ front ++ others
  pub none : has name front ≡ false
  pub place : at ≡ length before + length (segs_parts (segs_of front))
  pub left : drop at ps ≡ segs_parts (segs_of others) ++ last

abbrev pub AreUnnamed : List ℕ → List RowPart → ℕ → Type 0
AreUnnamed name ps at = (before : List RowPart) (args : List Segment) → (h : AreArguments before args ps) → IsUnnamed name before args (map above h.end ++ closing h.one_comma ∷ h.after) ps at

pub none_passed : (name : List ℕ) (ps : List RowPart) (at : ℕ) → at ≡ arguments_begin ps → AreUnnamed name ps at
none_passed name ps at is = λ before args h. record {
  front = [];
  others = args;
  are = refl;
  none = refl;
  place = omega (arith, is, h.begin);
  left = (λ i. drop ((is ∙ sym h.begin) i) (h.are i)) ∙ drop-append_seam before (segs_parts (segs_of args) ++ (map above h.end ++ closing h.one_comma ∷ h.after));
}

-- where no argument is left, none has the name
pub none_named : (name : List ℕ) (ps : List RowPart) (at token : ℕ) → AreUnnamed name ps at → token ≡ at + above_len (drop at ps) → ends_list (drop token ps) ≡ true
    → (before : List RowPart) (args : List Segment) → AreArguments before args ps → has name args ≡ false
none_named name ps at token w is ends = λ before args h.
    let u = w before args h in
    let none = none_of u.others (map above h.end ++ closing h.one_comma ∷ h.after) ps at token u.left is ends in
    ap (has name) (u.are ∙ ap (λ (ss : List Segment). u.front ++ ss) none ∙ append-nil u.front) ∙ u.none

-- the bracket that closes is among the parts
pub never_past : (name : List ℕ) (ps : List RowPart) (at : ℕ) → AreUnnamed name ps at → length ps ≤ at → (before : List RowPart) (args : List Segment) → AreArguments before args ps → has name args ≡ false
never_past name ps at w past = λ before args h.
    let u = w before args h in
    absurd (omega (arith, past, ap length u.left, length-drop at ps, length-append (segs_parts (segs_of u.others)) (map above h.end ++ closing h.one_comma ∷ h.after), length-append (map above h.end) (closing h.one_comma ∷ h.after)))

-- an argument is left: its name
told : (name : List ℕ) (ss : List Segment) (last ps : List RowPart) (at token to : ℕ) → (it : IsSegmentAt ss last ps at token to) → is_text name (flat_name (drop token ps)) ≡ is_named name it.segment
told name ss last ps at token to it = ap (is_text name) (ap flat_name it.nodes ∙ named it.segment.nodes (beside_part it.segment.suffix ++ (segs_parts (segs_of it.others) ++ last)))

-- it has the name
pub one_named : (name : List ℕ) (ps : List RowPart) (at token : ℕ) → AreUnnamed name ps at → token ≡ at + above_len (drop at ps) → ends_list (drop token ps) ≡ false → is_text name (flat_name (drop token ps)) ≡ true
    → (before : List RowPart) (args : List Segment) → AreArguments before args ps → IsArgumentAmong name before args token
one_named name ps at token w is more same = λ before args h.
    let u = w before args h in
    let it = segment_there u.others h.end h.one_comma h.after ps at token (token + segment_len (drop token ps)) u.left is more refl in
    record { front = u.front; arg = it.segment; back = it.others; are = u.are ∙ ap (λ (ss : List Segment). u.front ++ ss) it.are; none = u.none; is = sym (told name u.others _ ps at token _ it) ∙ same; begins = omega (arith, it.begins, u.place, length-map it.segment.before above, length-append before (segs_parts (segs_of u.front))) }

-- it has another
pub one_unnamed : (name : List ℕ) (ps : List RowPart) (at token to : ℕ) → AreUnnamed name ps at → token ≡ at + above_len (drop at ps) → ends_list (drop token ps) ≡ false → is_text name (flat_name (drop token ps)) ≡ false
    → to ≡ token + segment_len (drop token ps) → AreUnnamed name ps to
one_unnamed name ps at token to w is more other_name to_is = λ before args h.
    let u = w before args h in
    let it = segment_there u.others h.end h.one_comma h.after ps at token to u.left is more to_is in
    let a : List Segment = it.segment ∷ [] in
    let other : is_named name it.segment ≡ false = sym (told name u.others _ ps at token to it) ∙ other_name in
    record {
      front = u.front ++ a;
      others = it.others;
      are = u.are ∙ ap (λ (ss : List Segment). u.front ++ ss) it.are ∙ sym (append_assoc u.front a it.others);
      none = list_any-append (is_named name) u.front a ∙ (λ i. u.none i || (other i || false));
      place = omega (arith, it.ends, u.place, ap length (segs_join u.front a), length-append (segs_parts (segs_of u.front)) (segs_parts (segs_of a)));
      left = it.left;
    }
