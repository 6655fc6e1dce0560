-- For private clauses alone: what the borrowed view of a rule stands for.
use Rattle.bz_tree.specs.View.{nodes_view, segs_view, texts}
use Rattle.bz_tree.specs.declared.tree.Group.{out-Group}
use Rattle.bz_attribute.specs.declared.rule.Rule.{Rule}
use Rattle.bz_attribute.specs.Rules as spec

abbrev pub rule_view : Rule → spec.Rule
rule_view r = record { kind = nodes_view r.kind.now; args = segs_view (out-Group r.call.now).segs.items; one_comma = (out-Group r.call.now).one_comma; end = texts (out-Group r.call.now).end.items }
