use Rattle.bz_canonical.proofs.RuleCalls.{only_named_front}
use Rattle.bz_canonical.proofs.rule.read_rule_call.Goals as goal

pub returns-in_ok-rest-in-Some-after_only_name : goal.returns-in_ok-rest-in-Some-after_only_name
returns-in_ok-rest-in-Some-after_only_name c = only_named_front c.args.depth c.args.text.now c.in-Some-after_only_name.value.now c.in_ok-name-in-Some-after_only_name.name.rest.now c.in_ok-rest-in-Some-after_only_name.rest.now c.in_ok-name-in-Some-after_only_name.name.inner.now c.requires.0 c.in-Some-after_only_name.ensures c.in_ok-name-in-Some-after_only_name.ensures c.in_ok-rest-in-Some-after_only_name.ensures
