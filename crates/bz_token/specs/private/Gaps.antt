-- For private clauses and proofs: gaps and continued lines, a byte at a time.
use Rattle.std.specs.Prelude.{ℕ, List, [], ◌∷◌, take, cond, Bool, true, false, ◌&&◌, ◌||◌, ◌==◌, bytes_eq}
use Rattle.bz_token.specs.Pieces.{is_white}
use Rattle.bz_token.specs.Reading.{is_gap}

-- a gap after a backslash and a carriage return
abbrev pub feeds_gap : Bool → List ℕ → Bool
feeds_gap inside [] = false
feeds_gap inside (b ∷ bs) = b == 10 && is_gap inside bs

-- and after a backslash
abbrev pub continues_gap : Bool → List ℕ → Bool
continues_gap inside [] = false
continues_gap inside (b ∷ bs) = elim (b == 13) [ true ↦ feeds_gap inside bs | false ↦ b == 10 && is_gap inside bs ]

-- a continued line stands here
abbrev pub continues : List ℕ → Bool
continues place = bytes_eq (take 2 place) (92 ∷ 10 ∷ []) || bytes_eq (take 3 place) (92 ∷ 13 ∷ 10 ∷ [])

-- a backslash with a line's end after it
abbrev pub continues_after : ℕ → List ℕ → Bool
continues_after b after = b == 92 && (bytes_eq (take 1 after) (10 ∷ []) || bytes_eq (take 2 after) (13 ∷ 10 ∷ []))

-- the head of a block's first line; `first`: this is column 1
abbrev pub head_from : Bool → List ℕ → List ℕ
head_from first [] = []
head_from first (b ∷ bs) =
    elim (is_white true b || continues_after b bs) [ true ↦ head_from (b == 10) bs | false ↦ cond first (b ∷ bs) [] ]
