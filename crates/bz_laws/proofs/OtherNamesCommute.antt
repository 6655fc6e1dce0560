-- Passes on rules of other names commute.
use Rattle.std.proofs.Common.{◌≡◌, ℕ, List, [], ◌∷◌, ◌++◌, map, Bool, true, false, not, codes, refl, sym, ap, ◌∙◌, inl, inr}
use Rattle.std.specs.Prelude.{Option, None, Some, bytes_eq, if◌then◌else◌}
use Rattle.std.proofs.lemmas.Bool.{and_parts, cases_Bool, false≢true}
use Rattle.std.proofs.lemmas.Cmp.{nat_list_eq_equiv}
use Rattle.std.proofs.lemmas.Slice.Eq.{bytes_eq-Decides}
use Rattle.bz_token.specs.Common.{map_or}
use Rattle.bz_tree.specs.Tree.{Statement}
use Rattle.bz_attribute.specs.Marks.{marks, marks_rule}
use Rattle.bz_attribute.specs.Rules.{Rule, is_text, name_in, rule_of}
use Rattle.bz_label.specs.Labels.{Package, Name}
use Rattle.bz_passes.specs.Passes.{Slot, Marked, executed}
use Rattle.bz_passes.specs.Exchange.{slot_after, slot_after_commands, slot_after_pass, with_mark}
use Rattle.bz_rule.specs.Commands.{Command, after}
use Rattle.bz_laws.specs.Unmentioned.{may_change}
use Rattle.bz_laws.proofs.KeptArguments.{nothing_left}
use Rattle.bz_laws.proofs.MarksStay.{name_marks_stay}
use Rattle.bz_engine.specs.Language.{meaning}
use Rattle.bz_engine.specs.Outcome.{Script, left_in, slots_of}
use Rattle.bz_laws.specs.OtherNames.{leave_names, pass_on}
use Rattle.bz_laws.specs.Written.{left_by}
use Rattle.bz_laws.proofs.Unmarked.{left_alone, unmarked_commands}

-- a rule of this name is in the slot
abbrev is_of : List ℕ → Slot Statement → Bool
is_of name slot = map_or false (marks (Name name)) slot

not_true : (b : Bool) → not b ≡ true → b ≡ false
not_true true h = sym h
not_true false h = refl

other_text : (a b : List ℕ) → bytes_eq a b ≡ false → (o : Option (List ℕ)) → is_text a o ≡ true → is_text b o ≡ false
other_text a b differ None h = absurd (false≢true h)
other_text a b differ (Some name) h = ap (bytes_eq b) (sym ((bytes_eq-Decides a name).0 h)) ∙ nat_list_eq_equiv.symm b a ∙ differ

other_rule : (a b : List ℕ) → bytes_eq a b ≡ false → (start : ℕ) (o : Option Rule) → map_or false (marks_rule (Name a) start) o ≡ true → map_or false (marks_rule (Name b) start) o ≡ false
other_rule a b differ start None h = refl
other_rule a b differ start (Some r) h = other_text a b differ (name_in r.args) h

other_slot : (a b : List ℕ) → bytes_eq a b ≡ false → (slot : Slot Statement) → is_of a slot ≡ true → is_of b slot ≡ false
other_slot a b differ None h = refl
other_slot a b differ (Some s) h = other_rule a b differ s.start (rule_of s.nodes) h

-- commands that leave names leave a rule none of another name

command_leaves : (home : Package) (c : Command) → may_change c (codes "name") ≡ false → (name : List ℕ) (slot : Slot Statement) → is_of name slot ≡ false → is_of name (after c home slot) ≡ false
command_leaves home c leaves name None h = rw (nothing_left c home) refl
command_leaves home c leaves name (Some s) h =
    elim (after c home (Some s)) as (λ o. after c home (Some s) ≡ o → is_of name o ≡ false)
    [ None ↦ λ e. refl | Some t ↦ λ e. name_marks_stay name c home s t leaves e ∙ h ] refl

commands_leave : (home : Package) (cs : List Command) → leave_names cs ≡ true → (name : List ℕ) (x : Marked Statement) → is_of name x.slot ≡ false → is_of name (slot_after_commands (meaning home) cs x).slot ≡ false
commands_leave home [] leave name x h = h
commands_leave home (c ∷ cs) leave name x h = commands_leave home cs (both.1) name (executed (meaning home) c x) (by x.mark)
  where
    both : (not (may_change c (codes "name")) ≡ true) × (leave_names cs ≡ true)
    both = and_parts (not (may_change c (codes "name"))) (leave_names cs) leave

    by : (b : Bool) → is_of name (if b then after c home x.slot else x.slot) ≡ false
    by true = command_leaves home c (not_true (may_change c (codes "name")) both.0) name x.slot h
    by false = h

-- a pass on another name leaves the slot
passed_by : (home : Package) (name : List ℕ) (cs : List Command) (slot : Slot Statement) → is_of name slot ≡ false → slot_after_pass (meaning home) (pass_on name cs) slot ≡ slot
passed_by home name cs slot h =
    ap (λ b. (slot_after_commands (meaning home) cs (with_mark b slot)).slot) h ∙ ap (λ x. x.slot) (unmarked_commands home cs slot)

-- where the first pass marks the slot
first_marks : (home : Package) (a b : List ℕ) (cs ds : List Command) → bytes_eq a b ≡ false → leave_names cs ≡ true → (slot : Slot Statement) → is_of a slot ≡ true
    → slot_after_pass (meaning home) (pass_on b ds) (slot_after_pass (meaning home) (pass_on a cs) slot) ≡ slot_after_pass (meaning home) (pass_on a cs) (slot_after_pass (meaning home) (pass_on b ds) slot)
first_marks home a b cs ds differ leave slot is =
    let first = slot_after_pass (meaning home) (pass_on a cs) in
    let other : is_of b slot ≡ false = other_slot a b differ slot is in
    passed_by home b ds (first slot) (commands_leave home cs leave b (with_mark (is_of a slot) slot) other) ∙ ap first (sym (passed_by home b ds slot other))

-- where it does not
first_passes : (home : Package) (a b : List ℕ) (cs ds : List Command) → leave_names ds ≡ true → (slot : Slot Statement) → is_of a slot ≡ false
    → slot_after_pass (meaning home) (pass_on b ds) (slot_after_pass (meaning home) (pass_on a cs) slot) ≡ slot_after_pass (meaning home) (pass_on a cs) (slot_after_pass (meaning home) (pass_on b ds) slot)
first_passes home a b cs ds leave slot other =
    let second = slot_after_pass (meaning home) (pass_on b ds) in
    ap second (passed_by home a cs slot other) ∙ sym (passed_by home a cs (second slot) (commands_leave home ds leave a (with_mark (is_of b slot) slot) other))

slot_commutes : (home : Package) (a b : List ℕ) (cs ds : List Command) (back : Script) → bytes_eq a b ≡ false → leave_names cs ≡ true → leave_names ds ≡ true → (slot : Slot Statement)
    → slot_after (meaning home) (pass_on a cs ∷ pass_on b ds ∷ back) slot ≡ slot_after (meaning home) (pass_on b ds ∷ pass_on a cs ∷ back) slot
slot_commutes home a b cs ds back differ here there slot =
    ap (slot_after (meaning home) back)
    (elim (cases_Bool (is_of a slot)) [ inl is ↦ first_marks home a b cs ds differ here slot is | inr other ↦ first_passes home a b cs ds there slot other ])

-- and so after other passes
after_front : (home : Package) (front ps qs : Script) → ((slot : Slot Statement) → slot_after (meaning home) ps slot ≡ slot_after (meaning home) qs slot) → (slot : Slot Statement)
    → slot_after (meaning home) (front ++ ps) slot ≡ slot_after (meaning home) (front ++ qs) slot
after_front home [] ps qs same slot = same slot
after_front home (p ∷ front) ps qs same slot = after_front home front ps qs same (slot_after_pass (meaning home) p slot)

pub names_commute : (home : Package) (front back : Script) (ss : List Statement) (a b : List ℕ) (cs ds : List Command) → bytes_eq a b ≡ false → leave_names cs ≡ true → leave_names ds ≡ true
    → left_by home (front ++ pass_on a cs ∷ pass_on b ds ∷ back) ss ≡ left_by home (front ++ pass_on b ds ∷ pass_on a cs ∷ back) ss
names_commute home front back ss a b cs ds differ here there =
    let ps = pass_on a cs ∷ pass_on b ds ∷ back in
    let qs = pass_on b ds ∷ pass_on a cs ∷ back in
    let same = after_front home front ps qs (slot_commutes home a b cs ds back differ here there) in
    left_alone home (front ++ ps) ss ∙ ap (λ (each : Slot Statement → Slot Statement). left_in (map each (slots_of ss))) (λ i slot. same slot i) ∙ sym (left_alone home (front ++ qs) ss)
