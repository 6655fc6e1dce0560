-- Of a command that edits the first argument of a name in its place: what is owed of it follows from what it does to that argument.
use Rattle.std.proofs.Common.{◌≡◌, ℕ, List, [], ◌∷◌, Bool, true, false, Option, None, is_some, if◌then◌else◌, ap, sym, ◌∙◌}
use Rattle.std.specs.Prelude.{IfSome}
use Rattle.bz_tree.specs.Tree.{Segment}
use Rattle.bz_label.specs.Labels.{Package}
use Rattle.bz_attribute.specs.Effects.{edit_first, has}
use Rattle.bz_attribute.specs.Reports.{done}
use Rattle.bz_attribute.specs.Rules.{first_named, is_named}
use Rattle.bz_attribute.specs.declared.done.Done.{Done}
use Rattle.bz_attribute.specs.declared.done.Note.{Note}
use Rattle.bz_rule.specs.Commands.{Command, args_after, args_done, is_command}
use Rattle.bz_rule.specs.OneAttribute.{one_attribute}
use Rattle.bz_rule.proofs.Lawful.{Local, OnArguments, done_changed, guarded_same, note_unchanged}

-- a note that is chosen by which names are there and by the first argument of one
abbrev pub Noting : Type 0
Noting = (List ℕ → Bool) → Option Segment → Option Note

abbrev pub noted : Noting → List ℕ → List Segment → Option Note
noted note attr args = note (λ name. has name args) (first_named attr args)

abbrev edited : (Segment → Segment) → List ℕ → List Segment → List Segment
edited edit attr args = edit_first (is_named attr) (λ a. edit a ∷ []) args

-- The command edits the first argument of the name, but where it has a note. Only the fields from `stays` on need a thought.
pub record EditsFirst (c : Command) (home : Package) (attr : List ℕ) (note : Noting) (changes : Option Segment → Bool) (edit : Segment → Segment) : Type 0 where
  pub after : (args : List Segment) → args_after c home args ≡ (if is_some (noted note attr args) then args else edit_first (is_named attr) (λ a. edit a ∷ []) args)
  pub told : (args : List Segment) → args_done c home args ≡ done (noted note attr args) (changes (first_named attr args))
  pub local : IfSome (one_attribute c) (Local c home)
  pub stays : (args : List Segment) → changes (first_named attr args) ≡ false → edit_first (is_named attr) (λ a. edit a ∷ []) args ≡ args
  pub differs : is_command c ≡ true → (args : List Segment) → noted note attr args ≡ None → changes (first_named attr args) ≡ true → args_after c home args ≡ args → ⊥

pub edits_first : (c : Command) (home : Package) (attr : List ℕ) (note : Noting) (changes : Option Segment → Bool) (edit : Segment → Segment) → EditsFirst c home attr note changes edit → OnArguments c home
edits_first c home attr note changes edit law = record {
  stays = λ args h. law.after args ∙ guarded_same (noted note attr args) (changes (first_named attr args)) (edited edit attr args) args (law.stays args) (ap (λ (d : Done). d.changed) (sym (law.told args)) ∙ h);
  differs = λ read args h same.
      let quiet = done_changed (noted note attr args) (changes (first_named attr args)) (ap (λ (d : Done). d.changed) (sym (law.told args)) ∙ h) in
      law.differs read args quiet.0 quiet.1 same;
  noted = λ args h.
      ap (λ (d : Done). d.changed) (law.told args)
      ∙ note_unchanged (noted note attr args) (changes (first_named attr args)) (ap (λ (d : Done). is_some d.note) (sym (law.told args)) ∙ h);
  local = law.local;
}
