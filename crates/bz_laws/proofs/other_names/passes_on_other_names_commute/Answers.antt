use Rattle.bz_laws.proofs.OtherNamesCommute.{names_commute}
use Rattle.bz_laws.proofs.other_names.passes_on_other_names_commute.Goals as goal

pub returns : goal.returns
returns c = names_commute
