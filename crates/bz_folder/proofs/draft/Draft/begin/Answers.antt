use Rattle.std.proofs.Common.{◌≡◌, true, Result, Ok, Err, is_ok, refl, rules}
use Rattle.std.specs.Prelude.{OnOk}
use Rattle.bz_folder.proofs.draft.Draft.begin.Goals as goal

on_ok : {T E P : Type 0} (r : Result T E) → (is_ok r ≡ true → P) → OnOk r P
on_ok (Ok x) p = p refl
on_ok (Err e) p = tt

pub returns-clause-path : goal.returns-clause-path
returns-clause-path g c = on_ok c.push_str-2.result (λ ok. search rules)

pub returns-clause-empty : goal.returns-clause-empty
returns-clause-empty g c = on_ok c.push_str-2.result (λ ok. search rules)
