use Rattle.std.proofs.Common.{rules, ◌≡◌, length}
use Rattle.std.specs.List.{position_or_len}
use Rattle.bz_script.specs.Flags.{is_equals}
use Rattle.bz_script.proofs.FlagSteps.{value_none}
use Rattle.bz_script.proofs.flags.split_value.Goals as goal

pub returns-in-None-clause-value : goal.returns-in-None-clause-value
returns-in-None-clause-value c =
    let none : position_or_len is_equals c.args.text.now ≡ length c.args.text.now = search rules in
    value_none c.args.text.now none
