-- Each command owes what `Lawful` says, and what follows of all of them.
pub mod Add
pub mod Comment
pub mod Delete
pub mod Move
pub mod Print
pub mod Remove
pub mod Rename
pub mod Replace
pub mod Set
use Rattle.std.proofs.Common.{◌≡◌, ◌↔◌, ℕ, List, Bool, true, false, not, Option, Some, None, is_some, refl, ap, sym, ◌∙◌, subst, Result, Ok, Err, if◌then◌else◌}
use Rattle.std.specs.Prelude.{IfSome, bytes_eq, codes, option_and_then}
use Rattle.bz_token.specs.Common.{map_or}
use Rattle.bz_tree.specs.Tree.{Segment, Statement}
use Rattle.bz_label.specs.Labels.{Package}
use Rattle.bz_rule.specs.Commands.{Command, is_command, after, args_changed, args_done, args_note, done_of, note_of, printed_line, IsRead, a_command, named_command, add_of, comment_of, delete_of, move_of, print_of, remove_of, rename_of, replace_of, set_if_absent_of, set_of}
use Rattle.bz_rule.specs.declared.command.Action.{Action}
use Rattle.bz_attribute.specs.declared.done.Done.{Done}
use Rattle.bz_attribute.specs.declared.done.Note.{Note}
use Rattle.bz_attribute.specs.Effects.{holds_rule}
use Rattle.bz_attribute.specs.Reports.{done, slot_done}
use Rattle.bz_attribute.specs.Rules.{Rule, kind_text, rule_of}
use Rattle.bz_label.specs.declared.arguments.Setting.TheVariants.{ToKind, ToValues}
use Rattle.bz_label.specs.declared.arguments.Commented.TheVariants.{Rule as OfRule, Attribute, Value}
use Rattle.bz_rule.specs.Reports.{sets_kind_of, printed, prints}
use Rattle.bz_rule.specs.Print.{fields_of, line_of, missing}
use Rattle.bz_rule.specs.declared.commands.field.Field.{Field}
use Rattle.bz_rule.specs.OneAttribute.{one_attribute}
use Rattle.bz_rule.proofs.Lawful.{Lawful, Local}
use Rattle.bz_rule.proofs.Lawfulness.Add.{add_lawful, add_read}
use Rattle.bz_rule.proofs.Lawfulness.Comment.{comment_lawful, comment_read}
use Rattle.bz_rule.proofs.Lawfulness.Delete.{delete_lawful, delete_read}
use Rattle.bz_rule.proofs.Lawfulness.Move.{move_lawful, move_read}
use Rattle.bz_rule.proofs.Lawfulness.Print.{print_lawful, print_read}
use Rattle.bz_rule.proofs.Lawfulness.Remove.{remove_lawful, remove_read}
use Rattle.bz_rule.proofs.Lawfulness.Rename.{rename_lawful, rename_read}
use Rattle.bz_rule.proofs.Lawfulness.Replace.{replace_lawful, replace_read}
use Rattle.bz_rule.proofs.Lawfulness.Set.{set_if_absent_lawful, set_lawful, set_read, set_if_absent_read}
use Rattle.std.specs.List.{list_all}
use Rattle.std.specs.Str.{is_utf8}
use Rattle.bz_rule.specs.declared.command.CommandFault.{CommandFault}

pub lawful : (c : Command) (home : Package) → Lawful c home
lawful (Action.Add attr values) home = add_lawful home attr values
lawful (Action.Remove attrs values) home = remove_lawful home attrs values
lawful (Action.Set setting) home = set_lawful home setting
lawful (Action.SetIfAbsent attr values) home = set_if_absent_lawful home attr values
lawful Action.Delete home = delete_lawful home
lawful (Action.Rename old new) home = rename_lawful home old new
lawful (Action.Move old new chosen) home = move_lawful home old new chosen
lawful (Action.Replace attrs old new) home = replace_lawful home attrs old new
lawful (Action.Comment commented text) home = comment_lawful home commented text
lawful (Action.Print fields) home = print_lawful home fields

pub local : (c : Command) (home : Package) (name : List ℕ) → one_attribute c ≡ Some name → Local c home name
local c home name h = let law = lawful c home in subst (λ o. IfSome o (Local c home)) h law.local

-- where there is a note, or no rule, all stays
pub noted_stays : (c : Command) (home : Package) (slot : Option Statement) → is_some (done_of c home slot).note ≡ true → after c home slot ≡ slot
noted_stays c home slot h = let law = lawful c home in law.stays slot (law.noted slot h)

pub no_rule_stays : (c : Command) (home : Package) (slot : Option Statement) → holds_rule slot ≡ false → after c home slot ≡ slot
no_rule_stays c home slot h = let law = lawful c home in law.stays slot (law.no_rule slot h)

-- the same, by what is told
pub told_note_stays : (c : Command) (home : Package) (slot new : Option Statement) (d : Done) → new ≡ after c home slot → d ≡ done_of c home slot → is_some d.note ≡ true → new ≡ slot
told_note_stays c home slot new d is told h = is ∙ noted_stays c home slot (ap (λ (z : Done). is_some z.note) (sym told) ∙ h)

-- where nothing is told to change, all stays
pub unchanged_stays : (c : Command) (home : Package) (slot : Option Statement) (d : Done) → d ≡ done_of c home slot → d.changed ≡ false → slot ≡ after c home slot
unchanged_stays c home slot d told h = let law = lawful c home in sym (law.stays slot (ap (λ (z : Done). z.changed) (sym told) ∙ h))

both_ways : (b : Bool) (A : Type 0) → (b ≡ false → A) → (b ≡ true → A → ⊥) → (b ≡ true) ↔ (A → ⊥)
both_ways true A keep differ = (λ h. differ refl, λ h. refl)
both_ways false A keep differ = (λ h. absurd cc, λ h. absurd (h (keep refl)))

pub changed_tells : (c : Command) (home : Package) (slot : Option Statement) → is_command c ≡ true → ((done_of c home slot).changed ≡ true) ↔ (after c home slot ≡ slot → ⊥)
changed_tells c home slot h = let law = lawful c home in both_ways (done_of c home slot).changed (after c home slot ≡ slot) (law.stays slot) (law.differs h slot)

-- what a command tells of a slot is so of what it made of it
pub told_of_slot : (c : Command) (home : Package) (slot new : Option Statement) (d : Done) → is_command c ≡ true → new ≡ after c home slot → d ≡ done_of c home slot → (d.changed ≡ true) ↔ (new ≡ slot → ⊥)
told_of_slot c home slot new d h is told = rw (told, is) (changed_tells c home slot h)

-- what is told of a command is its note, and what it prints
abbrev Notes : Done → Option Note → Type 0
Notes d n = (d.note ≡ n) × (d.line ≡ None)

done_notes : (n : Option Note) (b : Bool) → Notes (done n b) n
done_notes None b = (refl, refl)
done_notes (Some n) b = (refl, refl)

-- of one on the arguments of the rule in a slot
abbrev in_slot : (List Segment → Option Note) → Option Statement → Option Note
in_slot note slot = option_and_then (λ (s : Statement). option_and_then (λ (r : Rule). note r.args) (rule_of s.nodes)) slot

args_notes : (c : Command) (home : Package) (slot : Option Statement) → Notes (slot_done (args_done c home) slot) (in_slot (args_note c home) slot)
args_notes c home None = (refl, refl)
args_notes c home (Some s) = by (rule_of s.nodes)
  where
    by : (rule : Option Rule) → Notes (map_or (done None false) (λ (r : Rule). args_done c home r.args) rule) (option_and_then (λ (r : Rule). args_note c home r.args) rule)
    by None = (refl, refl)
    by (Some r) = done_notes (args_note c home r.args) (args_changed c home r.args)

nothing_noted : (slot : Option Statement) → None ≡ in_slot (λ args. None) slot
nothing_noted None = refl
nothing_noted (Some s) = by (rule_of s.nodes)
  where
    by : (rule : Option Rule) → None ≡ option_and_then (λ (r : Rule). let none : Option Note = None in none) rule
    by None = refl
    by (Some r) = refl

kind_notes : (kind : List ℕ) (slot : Option Statement) → Notes (sets_kind_of kind slot) None
kind_notes kind None = (refl, refl)
kind_notes kind (Some s) = by (rule_of s.nodes)
  where
    by : (rule : Option Rule) → Notes (map_or (done None false) (λ (r : Rule). done None (not (bytes_eq (kind_text r.kind) kind))) rule) None
    by None = (refl, refl)
    by (Some r) = (refl, refl)

abbrev Prints : Done → Option Note → Option (List ℕ) → Type 0
Prints d note line = (d.note ≡ note) × (d.line ≡ line)

printed_notes : (home : Package) (fields : List Field) (slot : Option Statement) → Prints (prints home fields slot) (note_of (Action.Print fields) home slot) (printed_line (Action.Print fields) home slot)
printed_notes home fields None = (refl, refl)
printed_notes home fields (Some s) = by (rule_of s.nodes)
  where
    by : (rule : Option Rule) → Prints (map_or (done None false) (λ (r : Rule). printed home s r (fields_of fields)) rule)
        (option_and_then (λ (r : Rule). missing home s r (fields_of fields)) rule) (option_and_then (λ (r : Rule). Some (line_of home s r (fields_of fields))) rule)
    by None = (refl, refl)
    by (Some r) = (refl, refl)

pub told : (c : Command) (home : Package) (slot : Option Statement)
    → ((done_of c home slot).note ≡ note_of c home slot) × ((done_of c home slot).line ≡ printed_line c home slot)
told Action.Delete home slot = (nothing_noted slot, refl)
told (Action.Set (ToKind kind)) home slot = let notes = kind_notes kind slot in (notes.0 ∙ nothing_noted slot, notes.1)
told (Action.Comment OfRule text) home slot = (nothing_noted slot, refl)
told (Action.Print fields) home slot = printed_notes home fields slot
told (Action.Add attr values) home slot = args_notes (Action.Add attr values) home slot
told (Action.Remove attrs values) home slot = args_notes (Action.Remove attrs values) home slot
told (Action.Set (ToValues attr values)) home slot = args_notes (Action.Set (ToValues attr values)) home slot
told (Action.SetIfAbsent attr values) home slot = args_notes (Action.SetIfAbsent attr values) home slot
told (Action.Rename old new) home slot = args_notes (Action.Rename old new) home slot
told (Action.Move old new chosen) home slot = args_notes (Action.Move old new chosen) home slot
told (Action.Replace attrs old new) home slot = args_notes (Action.Replace attrs old new) home slot
told (Action.Comment (Attribute attr) text) home slot = args_notes (Action.Comment (Attribute attr) text) home slot
told (Action.Comment (Value attr value) text) home slot = args_notes (Action.Comment (Value attr value) text) home slot

-- what is read of words that are UTF-8 can be read, and its words are UTF-8
row : (test : Bool) (one : Result Command CommandFault) (others : Result (Option Command) CommandFault) (c : Command) → (Ok c ≡ one → IsRead c) → (Ok (Some c) ≡ others → IsRead c)
    → Ok (Some c) ≡ (if test then a_command one else others) → IsRead c
row true (Ok d) others c this rest h = this cc
row true (Err fault) others c this rest h = absurd cc
row false one others c this rest h = rest h

pub named_read : (name : List ℕ) (words : List (List ℕ)) (c : Command) → Ok (Some c) ≡ named_command name words → list_all is_utf8 words ≡ true → IsRead c
named_read name words c h u =
    row (bytes_eq name (codes "add")) (add_of words) _ c (λ e. add_read words c e u)
    (row (bytes_eq name (codes "remove")) (remove_of words) _ c (λ e. remove_read words c e u)
    (row (bytes_eq name (codes "set")) (set_of words) _ c (λ e. set_read words c e u)
    (row (bytes_eq name (codes "set_if_absent")) (set_if_absent_of words) _ c (λ e. set_if_absent_read words c e u)
    (row (bytes_eq name (codes "delete")) (delete_of words) _ c (λ e. delete_read words c e u)
    (row (bytes_eq name (codes "rename")) (rename_of words) _ c (λ e. rename_read words c e u)
    (row (bytes_eq name (codes "move")) (move_of words) _ c (λ e. move_read words c e u)
    (row (bytes_eq name (codes "replace")) (replace_of words) _ c (λ e. replace_read words c e u)
    (row (bytes_eq name (codes "comment")) (comment_of words) _ c (λ e. comment_read words c e u)
    (row (bytes_eq name (codes "print")) (print_of words) (Ok None) c (λ e. print_read words c e u) (λ e. absurd cc)))))))))) h
