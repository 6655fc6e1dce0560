-- What targets mark and what commands do to the statement in a slot, and what is told of it: the language of
-- passes over BUILD files (buildozer README; what is told is this project's own rule).
-- Begin with `meaning`.
use Rattle.std.specs.Prelude.{false, [], ◌++◌, map, option_to_list}
use Rattle.bz_token.specs.Common.{map_or}
use Rattle.bz_tree.specs.Tree.{Statement}
use Rattle.bz_label.specs.Labels.{Package, Target, must_mark}
use Rattle.bz_rule.specs.Commands.{Command, after, note_of, printed_line}
use Rattle.bz_attribute.specs.Marks.{marks}
use Rattle.bz_attribute.specs.Texts.{shown_text}
use Rattle.bz_passes.specs.declared.entry.Entry.{Entry}
use Rattle.bz_passes.specs.declared.entry.Entry.TheVariants.{Line, Failure}
use Rattle.bz_engine.specs.Messages.{not_found_text, note_entry}
use Rattle.bz_passes.specs.Passes.{Meaning}

-- The language of BUILD files in the package `home`, as stop 2 asks for one. An empty slot is never marked. A
-- command says the line that it prints, and then its note, with the rule shown as the command finds it.
abbrev pub meaning : Package → Meaning Statement Target Command Entry
meaning home = record {
  marks = λ target slot. map_or false (marks target) slot;
  must_mark = must_mark;
  not_found = λ target. Failure (not_found_text home target);
  after = λ command slot. after command home slot;
  says = λ command slot.
      map Line (option_to_list (printed_line command home slot))
      ++ map (note_entry (map_or [] (shown_text home) slot)) (option_to_list (note_of command home slot));
}
