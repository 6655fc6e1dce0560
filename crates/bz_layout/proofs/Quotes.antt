-- The content of a string in single quotes.
use Rattle.std.proofs.Common.{◌≡◌, ℕ, ◌-◌, List, [], ◌∷◌, ◌++◌, length, drop, true, length-append, refl, sym, ap, arith}
use Rattle.std.specs.List.{list_all}
use Rattle.std.specs.Str.{bytes_eq}
use Rattle.std.proofs.lemmas.Slice.Eq.{bytes_eq-Decides}
use Rattle.std.proofs.lemmas.List.{take_at}
use Rattle.bz_layout.specs.Respell.{is_plain, content, respell}
use Rattle.bz_token.specs.declared.token.Kind.TheVariants.{String}

pub content_is : (text inner : List ℕ) → text ≡ 39 ∷ (inner ++ 39 ∷ []) → content text ≡ inner
content_is text inner e = rw e (ap (drop 1) (take_at (39 ∷ inner) (39 ∷ []) _ (sym n)))
  where
    n : length (39 ∷ (inner ++ 39 ∷ [])) - 1 ≡ length (39 ∷ inner)
    n = omega (arith, length-append inner (39 ∷ []))

pub respell_some : (text inner : List ℕ) → text ≡ 39 ∷ (inner ++ 39 ∷ []) → list_all is_plain inner ≡ true → respell String text ≡ 34 ∷ (inner ++ 34 ∷ [])
respell_some text inner e plain =
    let k = content_is text inner e in
    let same : bytes_eq text (39 ∷ (inner ++ 39 ∷ [])) ≡ true = (bytes_eq-Decides text (39 ∷ (inner ++ 39 ∷ []))).1 e in
    rw (k, same, plain) refl
