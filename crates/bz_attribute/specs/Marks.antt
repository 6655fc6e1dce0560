-- Which statements a target marks (buildozer README, targets).
-- Begin with `marks`.
use Rattle.std.specs.Prelude.{ℕ, ◌==◌, Bool, true, false, codes, bytes_eq}
use Rattle.bz_tree.specs.Tree.{Statement}
use Rattle.bz_label.specs.Labels.{Target, Name, Pkg, All, Kind, Line}
use Rattle.bz_attribute.specs.Rules.{Rule, rule_of, kind_text, name_in, is_text}
use Rattle.bz_token.specs.Common.{map_or}

-- whether a target marks a rule that begins on this line
abbrev pub marks_rule : Target → ℕ → Rule → Bool
marks_rule (Name name) start r = is_text name (name_in r.args)
marks_rule Pkg start r = bytes_eq (kind_text r.kind) (codes "package")
marks_rule All start r = true
marks_rule (Kind kind) start r = bytes_eq (kind_text r.kind) kind
marks_rule (Line line) start r = start == line

-- what is no rule is never marked
abbrev pub marks : Target → Statement → Bool
marks target s = map_or false (marks_rule target s.start) (rule_of s.nodes)
