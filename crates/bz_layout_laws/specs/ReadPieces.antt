-- The pieces of a layout as pieces that are read: each gap as its bytes.
use Rattle.std.specs.Prelude.{List, map, Bool, true, false}
use Rattle.bz_token.specs.Reading.{Piece as ReadPiece}
use Rattle.bz_layout.specs.declared.spacing.Gap.{Gap}
use Rattle.bz_layout.specs.declared.spacing.Gap.TheVariants.{Apart}
use Rattle.bz_layout.specs.Pieces.{Piece, gap_bytes}
use Rattle.bz_layout_laws.specs.Lexemes.{Lexeme}

abbrev pub read_piece : Piece → ReadPiece
read_piece p = record { gap = gap_bytes p.gap; kind = p.kind; text = p.text }

abbrev pub read_pieces : List Piece → List ReadPiece
read_pieces ps = map read_piece ps

abbrev pub is_apart : Gap → Bool
is_apart Apart = true
is_apart _ = false

-- without gaps; two spaces stand before a comment beside a token
abbrev pub piece_lexeme : Piece → Lexeme
piece_lexeme p = record { kind = p.kind; text = p.text; beside = is_apart p.gap }

abbrev pub piece_lexemes : List Piece → List Lexeme
piece_lexemes ps = map piece_lexeme ps
