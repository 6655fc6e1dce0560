-- When pieces are what their bytes are read as: each text is one of its kind, what follows ends it, each gap may stand where it
-- stands, and the brackets fit. These are three tests, since who writes pieces shows each for a reason of its own.
use Rattle.std.specs.Prelude.{ℕ, List, [], ◌∷◌, ◌++◌, Bool, true, ◌&&◌}
use Rattle.bz_token.specs.Lexical.{is_text}
use Rattle.bz_token.specs.Ends.{ends}
use Rattle.bz_token.specs.Brackets.{is_inside, fits, open_after_token}
use Rattle.bz_token.specs.Reading.{is_gap, Piece, bytes_of}

-- each text is one of its kind
abbrev pub are_texts : List Piece → Bool
are_texts [] = true
are_texts (p ∷ ps) = is_text p.kind p.text && are_texts ps

-- what follows each text ends it, with these bytes after the pieces
abbrev pub are_ended : List Piece → List ℕ → Bool
are_ended [] rest = true
are_ended (p ∷ ps) rest = ends p.kind p.text (bytes_of ps ++ rest) && are_ended ps rest

-- each gap may stand where it stands, and each token fits there
abbrev pub are_fitting : ℕ → List ℕ → List Piece → Bool
are_fitting depth opened [] = true
are_fitting depth opened (p ∷ ps) =
    is_gap (is_inside opened) p.gap && fits depth opened p.kind p.text && are_fitting depth (open_after_token opened p.text) ps
