-- What the code tells of a command on a slot: whether it changes the slot, and whether it fails there.
-- Begin with `changes` and `fails_on`.
use Rattle.std.specs.Prelude.{ℕ, Bool, not, List, [], Option, map, option_to_list}
use Rattle.std.specs.List.{flat_map}
use Rattle.bz_token.specs.Common.{is_empty}
use Rattle.bz_tree.specs.Tree.{Statement}
use Rattle.bz_label.specs.Labels.{Package}
use Rattle.bz_rule.specs.Commands.{Command, done_of}
use Rattle.bz_attribute.specs.declared.done.Note.{Note}
use Rattle.bz_passes.specs.declared.entry.Entry.{Entry}
use Rattle.bz_passes.specs.Entries.{failure_text}
use Rattle.bz_passes.specs.Passes.{Slot}
use Rattle.bz_engine.specs.Messages.{note_entry}

-- what is told of a note on a rule that is shown so, if there is a note
abbrev pub note_told : List ℕ → Option Note → List Entry
note_told rule note = map (note_entry rule) (option_to_list note)

-- whether the command says that it makes the slot another than it was
abbrev pub changes : Package → Command → Slot Statement → Bool
changes home command slot = (done_of command home slot).changed

-- some entry is a failure
abbrev pub has_failure : List Entry → Bool
has_failure entries = not (is_empty (flat_map failure_text entries))

-- a note of a failure, however the rule is shown
abbrev pub fails : Option Note → Bool
fails note = has_failure (note_told [] note)

-- whether it fails there
abbrev pub fails_on : Package → Command → Slot Statement → Bool
fails_on home command slot = fails (done_of command home slot).note
