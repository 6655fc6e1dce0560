use Rattle.std.proofs.Common.{◌≡◌, ◌++◌, map, drop}
use Rattle.std.specs.List.{filter}
use Rattle.bz_script.specs.Groups.{is_command}
use Rattle.bz_script.proofs.group.command_words.Given as goal

abbrev pub invariant-loop-word : goal.invariant-loop-word
invariant-loop-word l = map (λ word. word.now) l.commands.items ++ filter is_command (map (λ word. word.now) (drop l.word-index l.words))
    ≡ filter is_command (map (λ word. word.now) l.words)
