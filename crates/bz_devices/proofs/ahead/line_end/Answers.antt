use Rattle.bz_devices.proofs.ChunkLines.{line_found, none_found}
use Rattle.bz_devices.proofs.ahead.line_end.Goals as goal

pub returns-in-Some-clause-line : goal.returns-in-Some-clause-line
returns-in-Some-clause-line c = line_found c.args.bytes.now _ c.in-Some.ensures

pub returns-in-None-clause-none : goal.returns-in-None-clause-none
returns-in-None-clause-none c = none_found c.args.bytes.now c.in-None.ensures
