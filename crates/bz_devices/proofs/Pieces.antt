-- What a vector holds after a read into it.
use Rattle.std.proofs.Common.{◌≡◌, ℕ, ◌≤◌, ◌+◌, List, ◌++◌, length, take, ◌∙◌, ap, append_assoc}
use Rattle.std.proofs.Math.Seq.{take-append-add}
use Rattle.std.proofs.lemmas.List.{take-take, take-append-le}

-- what is left of a vector that was read into after its first bytes and cut after what came
pub read_after : (room old buf post rest : List ℕ) (start n len : ℕ) → take start room ≡ old → length old ≡ start → n ≤ length buf → start + n ≤ len
    → take (start + n) (take len (take start room ++ (buf ++ post) ++ rest)) ≡ old ++ take n buf
read_after room old buf post rest start n len front is within fits =
    let parts : take start room ++ (buf ++ post) ++ rest ≡ old ++ (buf ++ (post ++ rest)) =
    ap (λ l. l ++ (buf ++ post) ++ rest) front ∙ append_assoc old (buf ++ post) rest ∙ ap (λ l. old ++ l) (append_assoc buf post rest) in
    let first : take (start + n) (old ++ (buf ++ (post ++ rest))) ≡ old ++ take n (buf ++ (post ++ rest)) =
    rw (← is) (take-append-add old (buf ++ (post ++ rest)) n) in
    take-take (start + n) len (take start room ++ (buf ++ post) ++ rest) fits ∙ ap (take (start + n)) parts ∙ first
    ∙ ap (λ l. old ++ l) (take-append-le n buf (post ++ rest) within)
