use Rattle.std.specs.Prelude.{Some}
use Rattle.bz_engine.proofs.canonical.is_name_passed_by.Goals as goal

pub returns : goal.returns
returns c passed s named = rw c.indexed.ensures at (c.passes_by.ensures.law passed (Some s) (c.name_key.ensures s named))
