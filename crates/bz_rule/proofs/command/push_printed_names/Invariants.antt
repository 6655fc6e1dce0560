use Rattle.std.proofs.Common.{◌≡◌, ◌++◌, drop, map}
use Rattle.std.specs.List.{flat_map}
use Rattle.bz_rule.specs.Sealed.{attributes_printed}
use Rattle.bz_rule.proofs.command.push_printed_names.Given as goal

-- the names so far, and those of the fields that are left
abbrev pub invariant-loop-field : goal.invariant-loop-field
invariant-loop-field l =
    map (λ name. name.now) l.names.items ++ flat_map attributes_printed (drop l.field-index l.fields)
    ≡ map (λ name. name.now) l.fn.names.items ++ flat_map attributes_printed l.fields
