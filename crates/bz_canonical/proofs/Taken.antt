-- What stands before the rest of a text.
use Rattle.std.proofs.Common.{◌≡◌, ℕ, ◌-◌, List, ◌++◌, length, take, ◌∙◌, ap, arith}
use Rattle.std.proofs.Math.Seq.{take-append_seam}
use Rattle.std.proofs.lemmas.List.{length-append}

pub taken : (text front rest : List ℕ) → text ≡ front ++ rest → take (length text - length rest) text ≡ front
taken text front rest is = ap (λ t. take (length t - length rest) t) is ∙ ap (λ n. take n (front ++ rest)) size ∙ take-append_seam front rest
  where
    size : length (front ++ rest) - length rest ≡ length front
    size = omega (arith, length-append front rest)
