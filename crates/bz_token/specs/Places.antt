-- Where a token stands: its line from the newlines before it, its column in bytes from the newline before it
-- (this project's own rule).
-- Begin with `Placed`, `line_at` and `column_at`.
use Rattle.std.specs.Prelude.{ℕ, ◌+◌, List, [], ◌∷◌, count_by, Bool, if◌then◌else◌}
use Rattle.bz_token.specs.Common.{is_newline}
use Rattle.bz_token.specs.declared.token.Kind.{Kind}
use Rattle.bz_token.specs.declared.token.Token.{Token}

-- the line after these bytes, which begin on line `first`
abbrev pub line_at : ℕ → List ℕ → ℕ
line_at first before = first + count_by is_newline before

-- the column after these bytes, which begin in this one
abbrev pub column_from : ℕ → List ℕ → ℕ
column_from column [] = column
column_from column (b ∷ bs) = column_from (if is_newline b then 1 else column + 1) bs

-- the column after these bytes
abbrev pub column_at : List ℕ → ℕ
column_at before = column_from 1 before

-- A token with its kind (an enum of `src/token.rt`) and its place, and whether no token begins before it on its
-- line (`fresh`: for laws on trees; nothing that `run` says depends on it).
pub record Placed : Type 0 where
  pub kind : Kind
  pub text : List ℕ
  pub line : ℕ
  pub col : ℕ
  pub fresh : Bool

-- a token of the code (a struct of `src/token.rt`), with its text as bytes
abbrev pub placed : Token → Placed
placed t = record { kind = t.kind; text = t.text.now; line = t.line; col = t.col; fresh = t.fresh }
