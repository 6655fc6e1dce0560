use Rattle.bz_token.proofs.SomeReading.{some_reading}
use Rattle.bz_token.proofs.OneReading.{one_way, whole_read, fault_read}
use Rattle.bz_token.proofs.laws.one_reading_up_to_a_fault.Goals as goal

pub returns-clause-some : goal.returns-clause-some
returns-clause-some c = some_reading

pub returns-clause-only : goal.returns-clause-only
returns-clause-only c = one_way

pub returns-clause-whole : goal.returns-clause-whole
returns-clause-whole c = whole_read

pub returns-clause-fault : goal.returns-clause-fault
returns-clause-fault c = fault_read
