-- For private clauses: what the bytes ahead say of a test of the whole text that follows.
use Rattle.std.specs.Prelude.{◌≡◌, ◌<◌, ◌++◌, length, ℕ, List, [], Bool, true, false, ◌||◌, eqb, codes}
use Rattle.std.specs.List.{starts_with}
use Rattle.bz_token.specs.declared.cutter.Next.{Next}
use Rattle.bz_token.specs.declared.cutter.Next.TheVariants.{Goes, Ends, Short}

abbrev pub DecidesAhead : (List ℕ → Bool) → Next → Bool → List ℕ → Type 0
DecidesAhead test Goes at_end ahead = (rest : List ℕ) → (at_end ≡ true → rest ≡ []) → test (ahead ++ rest) ≡ true
DecidesAhead test Ends at_end ahead = (rest : List ℕ) → (at_end ≡ true → rest ≡ []) → test (ahead ++ rest) ≡ false
DecidesAhead test Short at_end ahead =
    (at_end ≡ false) × (length ahead < 5)
    × ((rest : List ℕ) × (test (ahead ++ rest) ≡ true))
    × ((rest : List ℕ) × (test (ahead ++ rest) ≡ false))

-- the bytes are a front of a word that begins a branch
abbrev pub is_branch_front : List ℕ → Bool
is_branch_front ahead = starts_with eqb (codes "elif") ahead || starts_with eqb (codes "else") ahead
