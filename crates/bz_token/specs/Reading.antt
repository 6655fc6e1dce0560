-- What a text is read as: gaps and tokens in turn, each token the longest at its place (Starlark
-- specification, "Lexical elements").
-- Begin with `AreTokensOf`, `begins_gap` and `bytes_of`.
use Rattle.std.specs.Prelude.{◌≡◌, ℕ, List, [], ◌∷◌, ◌++◌, Bool, true, false, not, ◌==◌}
use Rattle.std.specs.List.{list_any, list_all}
use Rattle.bz_token.specs.declared.token.Kind.{Kind}
use Rattle.bz_token.specs.Lexical.{IsToken}
use Rattle.bz_token.specs.Brackets.{is_inside, fits, open_after_token}
use Rattle.bz_token.specs.Places.{line_at, column_at, Placed}
use Rattle.bz_token.specs.Common.{first_of, map_or}
use Rattle.bz_token.specs.Strings.{units}
use Rattle.bz_token.specs.Pieces.{is_space}

-- White space and continued lines; newlines too, where this is inside brackets (`inside`). Bytes are taken as
-- `units`, in which a backslash and the newline after it are one.
abbrev pub is_gap : Bool → List ℕ → Bool
is_gap inside bytes = list_all (is_space inside) (units bytes)

-- a gap begins here
abbrev pub begins_gap : Bool → List ℕ → Bool
begins_gap inside place = map_or false (is_space inside) (first_of (units place))

-- a gap, and the token after it (`is_piece` of `Pieces` is another: there a gap is several pieces)
pub record Piece : Type 0 where
  pub gap : List ℕ
  pub kind : Kind
  pub text : List ℕ

-- Where these brackets are open, the bytes begin with a gap and the token that stands after it.
pub record IsPiece (depth : ℕ) (opened : List ℕ) (piece : Piece) (bytes after : List ℕ) : Type 0 where
  pub bytes_are : bytes ≡ piece.gap ++ (piece.text ++ after)
  pub gap : is_gap (is_inside opened) piece.gap ≡ true
  pub token : IsToken piece.kind piece.text after
  pub fits : fits depth opened piece.kind piece.text ≡ true

-- the bytes are these pieces and then the rest
abbrev pub IsReading : ℕ → List ℕ → List Piece → List ℕ → List ℕ → Type 0
IsReading depth opened [] rest bytes = bytes ≡ rest
IsReading depth opened (p ∷ ps) rest bytes =
    (after : List ℕ) × IsPiece depth opened p bytes after
    × IsReading depth (open_after_token opened p.text) ps rest after

-- the brackets that are open after pieces
abbrev pub open_after : List ℕ → List Piece → List ℕ
open_after opened [] = opened
open_after opened (p ∷ ps) = open_after (open_after_token opened p.text) ps

-- the bytes that the pieces were read from
abbrev pub bytes_of : List Piece → List ℕ
bytes_of [] = []
bytes_of (p ∷ ps) = p.gap ++ (p.text ++ bytes_of ps)

-- a piece's token after the bytes before it, its gap among them; `lines`, on which earlier tokens begin, are for
-- `fresh` alone
abbrev pub token_of : ℕ → List ℕ → List ℕ → Piece → Placed
token_of first before lines p = record {
  kind = p.kind;
  text = p.text;
  line = line_at first before;
  col = column_at before;
  fresh = not (list_any (λ line. line == line_at first before) lines);
}

-- the tokens of pieces after the bytes before them
abbrev pub tokens_of : ℕ → List ℕ → List ℕ → List Piece → List Placed
tokens_of first before lines [] = []
tokens_of first before lines (p ∷ ps) =
    token_of first (before ++ p.gap) lines p
    ∷ tokens_of first (before ++ (p.gap ++ p.text)) (line_at first (before ++ p.gap) ∷ lines) ps

-- The whole text is gaps and these tokens, and every bracket is closed. Lines count from `first`, and at most
-- `depth` brackets are open at once.
abbrev pub AreTokensOf : ℕ → ℕ → List ℕ → List Placed → Type 0
AreTokensOf first depth bytes tokens =
    (pieces : List Piece) × (rest : List ℕ) × IsReading depth [] pieces rest bytes
    × (is_gap false rest ≡ true) × (open_after [] pieces ≡ []) × (tokens ≡ tokens_of first [] [] pieces)
