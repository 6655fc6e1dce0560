-- Passes on rules of other names (this project's own rule).
use Rattle.std.specs.Prelude.{ℕ, List, Bool, not, codes}
use Rattle.std.specs.List.{list_all}
use Rattle.bz_label.specs.Labels.{Target, Name}
use Rattle.bz_passes.specs.Passes.{Pass}
use Rattle.bz_rule.specs.Commands.{Command}
use Rattle.bz_laws.specs.Unmentioned.{may_change}

-- commands on the rules of a name
abbrev pub pass_on : List ℕ → List Command → Pass Target Command
pass_on name commands = record { target = Name name; commands = commands }

-- none of them may change the name of a rule
abbrev pub leave_names : List Command → Bool
leave_names commands = list_all (λ c. not (may_change c (codes "name"))) commands
