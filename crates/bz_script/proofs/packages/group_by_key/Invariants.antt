use Rattle.std.proofs.Common.{◌≡◌, map}
use Rattle.bz_script.specs.Packages.{by_key}
use Rattle.bz_script.proofs.packages.group_by_key.Given as goal

abbrev pub invariant-loop-key : goal.invariant-loop-key
invariant-loop-key g l = map (λ e. (e.0, e.1.items)) l.lists.entries ≡ by_key g.K.PartialEq.eq l.yielded
