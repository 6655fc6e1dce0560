-- For private clauses: the walks over the tokens of a block.
use Rattle.std.specs.Prelude.{ℕ, ◌+◌, ◌≡◌, ◌<◌, ◌++◌, List, [], ◌∷◌, true, if◌then◌else◌, ◌==◌, ◌&&◌, Some}
use Rattle.bz_token.specs.Places.{Placed}
use Rattle.bz_tree.specs.Blocks.{IsAt, is_block_word}
use Rattle.bz_tree.specs.Statement.{first_token, last_seen}

-- how many bytes stand before this line and column, the bytes beginning at another
abbrev pub offset_run : ℕ → ℕ → ℕ → ℕ → List ℕ → ℕ
offset_run line col at_line at_col [] = 0
offset_run line col at_line at_col (b ∷ bs) =
    if at_line == line && at_col == col then 0
    else offset_run line col (if b == 10 then at_line + 1 else at_line) (if b == 10 then 1 else at_col + 1) bs + 1

-- a character begins here, or nothing follows
abbrev pub IsAsciiFront : List ℕ → Type 0
IsAsciiFront [] = Unit {0}
IsAsciiFront (b ∷ bs) = b < 128

-- two tokens stand in the bytes at their places, one not after the other
pub record AreIn (first : ℕ) (bytes : List ℕ) (header last : Placed) : Type 0 where
  pub before : List ℕ
  pub front : List ℕ
  pub after : List ℕ
  pub bytes_are : bytes ≡ before ++ ((front ++ last.text) ++ after)
  pub begins : IsAt first before header
  pub ends : IsAt first (before ++ front) last
  pub at_front : IsAsciiFront ((front ++ last.text) ++ after)
  pub at_end : IsAsciiFront after

-- the header and the last token of a block stand in the bytes
abbrev pub AreStanding : ℕ → List ℕ → List Placed → Type 0
AreStanding first bytes tokens = (header last : Placed) → first_token tokens ≡ Some header → last_seen tokens ≡ Some last → is_block_word header ≡ true → AreIn first bytes header last
