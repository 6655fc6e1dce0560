-- A fault that is passed on.
use Rattle.std.proofs.Common.{◌≡◌, ◌≢◌, ◌∙◌, sym, ap}
use Rattle.std.specs.Prelude.{Result, Err}

pub err_is : {A E : Type 0} (e f : E) → (let x : Result A E = Err e in x) ≡ Err f → e ≡ f
err_is e f h = cc

pub passed_on : {A B E : Type 0} (r : Result A E) (e f g : E) → r ≡ Err e → e ≡ f → r ≡ Err g → (let x : Result B E = Err f in x) ≡ Err g
passed_on r e f g is same h = ap Err (sym same ∙ err_is e g (sym is ∙ h))

pub not_passed_on : {A B E : Type 0} (r : Result A E) (e f g : E) → r ≡ Err e → e ≡ f → r ≢ Err g → (let x : Result B E = Err f in x) ≢ Err g
not_passed_on r e f g is same other h = other (is ∙ ap Err (same ∙ err_is f g h))
