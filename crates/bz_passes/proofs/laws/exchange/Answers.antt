use Rattle.bz_passes.proofs.ExchangeLaw as law
use Rattle.bz_passes.proofs.laws.exchange.Goals as goal

pub returns : goal.returns
returns g c = law.exchange
