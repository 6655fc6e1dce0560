use Rattle.std.proofs.Common.{ℕ, List, Bor, subst}
use Rattle.std.specs.Prelude.{Option, option_map}
use Rattle.bz_canonical.specs.Canonical.{HasName}
use Rattle.bz_engine.proofs.CanonicalChunks.{named_key, nameless_key}
use Rattle.bz_engine.proofs.canonical.name_key.Goals as goal

pub returns-in-Some : goal.returns-in-Some
returns-in-Some c s named = named_key s c.in-Some.name (subst (λ (o : Option (Bor (List ℕ))). HasName (option_map (λ name. name.now) o) s) c.in-Some.is named)

pub returns-in-None : goal.returns-in-None
returns-in-None c s named = nameless_key s (subst (λ (o : Option (Bor (List ℕ))). HasName (option_map (λ name. name.now) o) s) c.in-None.is named)
