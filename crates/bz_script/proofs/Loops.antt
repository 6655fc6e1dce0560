-- How a loop over a list goes on, and what an Ok promises.
use Rattle.std.proofs.Common.{◌≡◌, ℕ, ◌+◌, ◌<◌, List, ◌∷◌, length, get_or, drop, sym, ◌∙◌, ap, add-one, drop-cons}
use Rattle.std.specs.Prelude.{Result, Ok, Err, OnOk, IfOk}

-- the elements from a place on begin with the one that stands there
pub drop_at : {A : Type 0} (xs : List A) (i : ℕ) (x : A) → i < length xs → drop i xs ≡ get_or xs i x ∷ drop (i + 1) xs
drop_at xs i x inside = drop-cons xs i x inside ∙ ap (λ n. get_or xs i x ∷ drop n xs) (sym (add-one i))

-- what an Ok promises, said otherwise
pub on_ok : {T E : Type 0} {P Q : Type 0} → (P → Q) → (r : Result T E) → OnOk r P → OnOk r Q
on_ok f (Ok x) h = f h
on_ok f (Err e) h = tt

pub if_ok : {T E : Type 0} {P Q : T → Type 0} → ((x : T) → P x → Q x) → (r : Result T E) → IfOk r P → IfOk r Q
if_ok f (Ok x) h = f x h
if_ok f (Err e) h = tt
