use Rattle.bz_script.proofs.EachAlone.{each_package, package_alone}
use Rattle.bz_script.proofs.laws.one_call_is_one_for_each_package.Goals as goal

pub returns-clause-each : goal.returns-clause-each
returns-clause-each g c = each_package

pub returns-clause-alone : goal.returns-clause-alone
returns-clause-alone g c = package_alone
