use Rattle.bz_laws.proofs.SetPrinted.{set_printed, set_printed_back}
use Rattle.bz_laws.proofs.printed.what_is_set_is_printed.Goals as goal

pub returns-clause-now : goal.returns-clause-now
returns-clause-now c = set_printed

pub returns-clause-read_back : goal.returns-clause-read_back
returns-clause-read_back c = set_printed_back
