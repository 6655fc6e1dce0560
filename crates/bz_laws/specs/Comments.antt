-- Scripts that keep comments.
use Rattle.std.specs.Prelude.{Bool}
use Rattle.std.specs.List.{list_all}
use Rattle.bz_rule.specs.Commands.{keeps_comments}
use Rattle.bz_engine.specs.Outcome.{Script}

-- each command of each pass is one that keeps all comments of a statement
abbrev pub script_keeps_comments : Script → Bool
script_keeps_comments passes = list_all (λ p. list_all keeps_comments p.commands) passes
