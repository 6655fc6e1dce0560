use Rattle.std.proofs.Common.{◌≡◌, ◌++◌, map, take}
use Rattle.bz_token.specs.declared.token.Kind.TheVariants.{String}
use Rattle.bz_layout.specs.Respell.{respell}
use Rattle.bz_canonical.specs.private.Elements.{element_lines}
use Rattle.bz_canonical.specs.private.NewValues.{new_element}
use Rattle.bz_canonical.proofs.set_list.put_lines.Given as goal

abbrev pub invariant-loop-value : goal.invariant-loop-value
invariant-loop-value l = l.written.items ≡ l.fn.written.items ++ element_lines (respell String) (map new_element (take l.value-index l.values))
