use Rattle.std.proofs.Common.{map}
use denote.Text.{Utf8}
use denote.Shadow.{shadow}
use Rattle.bz_tree.specs.Rows.{part_view}
use Rattle.bz_canonical.specs.private.Listed.{ArePut}
use Rattle.bz_canonical.proofs.listed.put_elements.Given as goal

abbrev pub invariant-loop : goal.invariant-loop
invariant-loop l = shadow (Utf8 l.rest) × ArePut l.on_lines l.one l.inside l.rest (map part_view l.initial.parts.items) (map part_view l.parts.items)
