use Rattle.std.proofs.Common.{refl}
use Rattle.bz_canonical.proofs.ElementLists.{single_read}
use Rattle.bz_canonical.proofs.lists.read_string.Goals as goal

pub returns-in_ok-token-in_default : goal.returns-in_ok-token-in_default
returns-in_ok-token-in_default c =
    single_read c.args.text.now c.in_ok-read-in_default.read.inner.now _ c.in_ok-read-in_default.ensures c.in_ok-token-in_default.ensures refl refl
