-- Where a command has a note, it leaves what it found: so the rule of the note can be shown after the command.
use Rattle.std.proofs.Common.{◌≡◌, List, ◌++◌, true, Option, None, Some, is_some, refl, sym, ap, ◌∙◌, []}
use Rattle.bz_passes.specs.declared.entry.Entry.TheVariants.{Line}
use Rattle.std.specs.Prelude.{map, option_to_list}
use Rattle.bz_tree.specs.Tree.{Statement}
use Rattle.bz_label.specs.Labels.{Package}
use Rattle.bz_rule.specs.Commands.{Command, after, done_of}
use Rattle.bz_attribute.specs.declared.done.Done.{Done}
use Rattle.bz_attribute.specs.declared.done.Note.{Note}
use Rattle.bz_rule.proofs.Lawfulness.{noted_stays, told}
use Rattle.bz_passes.specs.Passes.{Slot}
use Rattle.bz_passes.specs.declared.entry.Entry.{Entry}
use Rattle.bz_engine.specs.Language.{meaning}
use Rattle.bz_engine.specs.Failing.{note_told}
use Rattle.bz_attribute.specs.Texts.{shown_text}
use Rattle.bz_token.specs.Common.{map_or}

-- what is told of a slot that stays where there is a note
note_found : (home : Package) (old new : Option Statement) (told : List Entry) (n : Option Note) → (is_some n ≡ true → new ≡ old) → told ++ note_told (map_or [] (shown_text home) new) n ≡ told ++ note_told (map_or [] (shown_text home) old) n
note_found home old new told None stays = refl
note_found home old new told (Some n) stays = ap (λ (slot : Option Statement). told ++ note_told (map_or [] (shown_text home) slot) (Some n)) (stays refl)

-- what a command says is told of what it does
pub says_is : (home : Package) (c : Command) (slot : Slot Statement)
    → map Line (option_to_list (done_of c home slot).line) ++ note_told (map_or [] (shown_text home) slot) (done_of c home slot).note ≡ (meaning home).says c slot
says_is home c slot = let both = told c home slot in λ i. map Line (option_to_list (both.1 i)) ++ note_told (map_or [] (shown_text home) slot) (both.0 i)

-- a command tells of the slot that it leaves what it says of the one that it finds
pub says_found : (c : Command) (home : Package) (old new : Option Statement) (d : Done) → new ≡ after c home old → d ≡ done_of c home old → (map Line (option_to_list d.line) ++ note_told (map_or [] (shown_text home) new) d.note) ≡ (meaning home).says c old
says_found c home old new d is told =
    note_found home old new (map Line (option_to_list d.line)) d.note (λ h. is ∙ noted_stays c home old (ap (λ (z : Done). is_some z.note) (sym told) ∙ h)) ∙ ap (λ x0. map Line (option_to_list x0.line) ++ note_told (map_or [] (shown_text home) old) x0.note) told ∙ says_is home c old
