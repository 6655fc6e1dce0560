use Rattle.std.proofs.Common.{◌≡◌, true, Result, Ok, Err, is_ok, refl, arith}
use Rattle.std.specs.Prelude.{OnOk}
use Rattle.std.proofs.lemmas.Grind.{text_groups}
use Rattle.bz_passes.proofs.index.add_named.Goals as goal

on_ok : {T E P : Type 0} (r : Result T E) → (is_ok r ≡ true → P) → OnOk r P
on_ok (Ok x) p = p refl
on_ok (Err e) p = tt

pub returns : goal.returns
returns c = on_ok c.push.result (λ ok q. grind (arith, text_groups, ok))
