use Rattle.std.proofs.Common.{◌≡◌, map}
use Rattle.bz_script.specs.Groups as spec
use Rattle.bz_script.proofs.group.passes_anew.Given as goal

abbrev pub invariant-loop-package : goal.invariant-loop-package
invariant-loop-package l = l.script.items ≡ map (spec.pass_for (spec.commands_of (map (λ word. word.now) l.kept))) l.yielded
