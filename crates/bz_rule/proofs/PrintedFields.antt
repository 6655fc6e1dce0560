-- What is printed of the head and the parts of a rule is what is printed of it.
use Rattle.std.proofs.Common.{◌≡◌, ℕ, List, [], ◌∷◌, ◌++◌, ◌<◌, ◌≤◌, false, Option, Some, None, option_map, is_some, length, refl, sym, ◌∙◌, ap, arith, append_assoc, if◌then◌else◌}
use Rattle.std.specs.Prelude.{codes, option_and_then}
use Rattle.bz_tree.specs.Tree.{Segment, Statement}
use Rattle.bz_tree.specs.Rows.{RowPart}
use Rattle.bz_label.specs.Labels.{Package}
use Rattle.bz_rule.specs.declared.commands.field.Field.{Field}
use Rattle.bz_rule.specs.declared.commands.field.Field.TheVariants.{ValueOf}
use Rattle.bz_attribute.specs.Rules.{Rule, rule_of, kind_text, name_in, first_named, string_value, value}
use Rattle.bz_attribute.specs.RowPlaces.{IsRuleRow}
use Rattle.bz_attribute.specs.Heads.{IsHeadOf}
use Rattle.bz_attribute.specs.declared.head.Head.{Head}
use Rattle.bz_attribute.specs.declared.done.Done.{Done}
use Rattle.bz_attribute.specs.declared.done.Note.{Note}
use Rattle.bz_attribute.specs.declared.done.Note.TheVariants.{Missing}
use Rattle.bz_rule.specs.Print.{field_name, fields_of, line_of, other_text, value_text, word_form}
use Rattle.bz_rule.specs.Reports.{prints, printed}
use Rattle.bz_rule.specs.private.PrintSteps.{HasPrinted, IsRuleOf}
use Rattle.bz_attribute.specs.Reports.{done}
use Rattle.bz_token.specs.Common.{map_or}

same_rule : (o : Option Rule) (x y : Rule) → o ≡ Some x → o ≡ Some y → x ≡ y
same_rule o x y one other = let both : Some x ≡ Some y = sym one ∙ other in cc

pub kind_told : (head : Head) (ps : List RowPart) (s : Statement) (r : Rule) → IsRuleOf head ps s r → kind_text r.kind ≡ head.kind.now
kind_told head ps s r h = ap (λ (z : Rule). kind_text z.kind) (same_rule (rule_of s.nodes) r h.head.rule h.row.rule h.head.is) ∙ h.head.kind_is

abbrev pub note_of : Field → Option (List ℕ) → Option Note
note_of field text = if is_some text then None else Some (Missing (field_name field))

-- the first argument of a name, for which the head is not needed
pub one_argument : (home : Package) (attr : List ℕ) (head : Head) (ps : List RowPart) (old new : List ℕ) (text : Option (List ℕ))
    → ((s : Statement) (r : Rule) → IsRuleRow s r ps → option_map (λ (a : Segment). value_text (value a)) (first_named attr r.args) ≡ text) → new ≡ old ++ map_or (codes "(missing)") (λ text. text) text
    → HasPrinted home (ValueOf attr ∷ []) head ps old new (note_of (ValueOf attr) text)
one_argument home attr head ps old new text told is = record {
  line = λ s r h. is ∙ ap (λ (t : Option (List ℕ)). old ++ map_or (codes "(missing)") (λ text. text) t) (sym (told s r h.row));
  note = λ s r h. ap (note_of (ValueOf attr)) (sym (told s r h.row));
}

-- its value
pub one_value : (home : Package) (attr : List ℕ) (head : Head) (ps : List RowPart) (old new : List ℕ)
    → ((s : Statement) (r : Rule) → IsRuleRow s r ps → (text : List ℕ) × (option_map (λ (a : Segment). value_text (value a)) (first_named attr r.args) ≡ Some text) × (new ≡ old ++ text))
    → HasPrinted home (ValueOf attr ∷ []) head ps old new None
one_value home attr head ps old new has = record {
  line = λ s r h. let it = has s r h.row in it.2 ∙ ap (λ (t : Option (List ℕ)). old ++ map_or (codes "(missing)") (λ text. text) t) (sym it.1);
  note = λ s r h. ap (note_of (ValueOf attr)) (sym (has s r h.row).1);
}

-- the name, which the head has
pub named_value : (home : Package) (attr : List ℕ) (head : Head) (ps : List RowPart) (old new name : List ℕ) → option_map (λ text. text.now) head.name ≡ Some name → attr ≡ codes "name" → new ≡ old ++ word_form name
    → HasPrinted home (ValueOf attr ∷ []) head ps old new None
named_value home attr head ps old new name named is written = record {
  line = λ s r h. written ∙ ap (λ (t : Option (List ℕ)). old ++ map_or (codes "(missing)") (λ text. text) t) (sym (told s r h));
  note = λ s r h. ap (note_of (ValueOf attr)) (sym (told s r h));
}
  where
    first : (o : Option Segment) → option_and_then (λ a. string_value (value a)) o ≡ Some name → option_map (λ (a : Segment). value_text (value a)) o ≡ Some (word_form name)
    first None e = absurd cc
    first (Some a) e = ap (λ (v : Option (List ℕ)). Some (map_or (other_text (value a)) word_form v)) e

    told : (s : Statement) (r : Rule) → IsRuleOf head ps s r → option_map (λ (a : Segment). value_text (value a)) (first_named attr r.args) ≡ Some (word_form name)
    told s r h =
        ap (λ (n : List ℕ). option_map (λ (a : Segment). value_text (value a)) (first_named n r.args)) is
        ∙ first (first_named (codes "name") r.args) (ap (λ (z : Rule). name_in z.args) (same_rule (rule_of s.nodes) r h.head.rule h.row.rule h.head.is) ∙ sym h.head.name_is ∙ named)

-- the name and the kind
pub name_and_kind : (home : Package) (head : Head) (ps : List RowPart) (old mid new : List ℕ) (told : Option Note) → HasPrinted home (ValueOf (codes "name") ∷ []) head ps old mid told
    → new ≡ (mid ++ 32 ∷ []) ++ head.kind.now → HasPrinted home (fields_of []) head ps old new told
name_and_kind home head ps old mid new told a is = record {
  line = λ s r h.
      let kind : head.kind.now ≡ kind_text r.kind = sym (kind_told head ps s r h) in
      let name : List ℕ = line_of home s r (ValueOf (codes "name") ∷ []) in
      let moved : ((old ++ name) ++ 32 ∷ []) ++ kind_text r.kind ≡ old ++ (name ++ 32 ∷ kind_text r.kind) = simp append_assoc in
      is ∙ (λ i. (a.line s r h i ++ 32 ∷ []) ++ kind i) ∙ moved;
  note = λ s r h. a.note s r h;
}

pub no_fields : (fields : List Field) → length fields < 1 → [] ≡ fields
no_fields [] h = refl
no_fields (field ∷ fields) h = absurd (omega (arith, h))

pub some_fields : (fields : List Field) → 1 ≤ length fields → fields ≡ fields_of fields
some_fields [] h = absurd (omega (arith, h))
some_fields (field ∷ fields) h = refl

abbrev done_with : List ℕ → Option Note → Done
done_with line note = record { changed = false; line = Some line; note = note }

pub all_printed : (home : Package) (fields : List Field) (head : Head) (ps : List RowPart) (line : List ℕ) (note : Option Note) → HasPrinted home (fields_of fields) head ps [] line note
    → (s : Statement) (r : Rule) → IsHeadOf head s → IsRuleRow s r ps → done_with line note ≡ prints home fields (Some s)
all_printed home fields head ps line note a s r is row =
    let h : IsRuleOf head ps s r = record { head = is; row = row } in
    (λ i. done_with (a.line s r h i) (a.note s r h i)) ∙ sym (ap (λ x0. map_or (done None false) (λ r. printed home s r (fields_of fields)) x0) row.rule)
