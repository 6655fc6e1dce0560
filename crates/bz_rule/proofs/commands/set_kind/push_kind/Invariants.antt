use Rattle.std.proofs.Common.{◌≡◌, ◌++◌, length, map}
use Rattle.std.specs.Str.{IsUtf8}
use Rattle.bz_tree.specs.Tree.{items_of}
use Rattle.bz_tree.specs.Rows.{items_parts, part_view}
use Rattle.bz_rule.specs.Set.{kind_items}
use Rattle.bz_rule.proofs.commands.set_kind.push_kind.Given as goal

abbrev pub invariant-loop-name : goal.invariant-loop-name
invariant-loop-name l = record {
  utf8 : IsUtf8 l.kind;
  made : map part_view l.out.items ++ items_parts (items_of (kind_items l.kind)) ≡ map part_view l.initial.out.items ++ items_parts (items_of (kind_items l.initial.kind));
}

abbrev pub decreases-loop-name : goal.decreases-loop-name
decreases-loop-name l = length l.kind
