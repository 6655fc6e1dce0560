use Rattle.bz_token.proofs.FreshReading.{read_after_lines, read_split}
use Rattle.bz_token.proofs.laws.reading_starts_afresh.Goals as goal

pub returns-clause-joined : goal.returns-clause-joined
returns-clause-joined c = read_after_lines

pub returns-clause-only : goal.returns-clause-only
returns-clause-only c = read_split
