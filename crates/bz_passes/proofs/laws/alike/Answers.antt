use Rattle.bz_passes.proofs.Alike as law
use Rattle.bz_passes.proofs.laws.alike.Goals as goal

pub returns : goal.returns
returns g c = law.give_the_same
