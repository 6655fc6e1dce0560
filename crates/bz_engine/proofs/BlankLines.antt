-- An empty line is a chunk, and no statement stands in it.
use Rattle.std.proofs.Common.{◌≡◌, ℕ, false, zero, suc, ◌+◌, ◌≤◌, List, [], ◌∷◌, take, refl, ap, subst, arith}
use Rattle.std.specs.Prelude.{None, Ok}
use Rattle.std.specs.Str.{IsUtf8}
use Rattle.bz_token.specs.Cuts.{IsChunk}
use Rattle.bz_token.specs.declared.token.Kind.TheVariants.{Newline}
use Rattle.std.proofs.lemmas.Str.{IsUtf8-encode, encode_ascii}
use Rattle.bz_token.specs.Reading.{Piece, tokens_of}
use Rattle.bz_token.specs.declared.cutter.scan.LineKind.TheVariants.{Blank}
use Rattle.bz_token.proofs.ChunkForms.{statement_chunk}
use Rattle.bz_token.proofs.Ends.{line_token}
use Rattle.bz_tree.specs.Chunk.{IsBlank}
use Rattle.bz_devices.specs.Ahead.{Ahead, IsFewAfter}
use Rattle.bz_engine.specs.File.{IsAnswerOf}
use Rattle.bz_engine.specs.Outcome.{Run}
use Rattle.bz_engine.specs.Progress.{Progress}
use Rattle.bz_engine.specs.declared.edit.Edited.TheVariants.{Done}
use Rattle.bz_engine.specs.private.Edits.{IsEdited}
use Rattle.bz_engine.specs.private.NextChunks.{IsFirstEdited}
use Rattle.bz_engine.proofs.ChunkEdits.{blank_done}
use Rattle.bz_engine.proofs.FirstChunks.{IsTakenOf, first_is_next}

abbrev newline : List ℕ
newline = 10 ∷ []

abbrev newline_piece : Piece
newline_piece = record { gap = []; kind = Newline; text = newline }

newline_chunk : IsChunk newline
newline_chunk =
    statement_chunk 1 0 newline _ [] (record { text = newline; kind = Blank; broken = false })
    (newline_piece ∷ [], ([], record { bytes_are = refl; gap = refl; token = line_token []; fits = refl }, refl), refl, refl, refl) refl refl refl

newline_blank : (line depth : ℕ) → IsBlank line depth newline
newline_blank line depth = record {
  tokens = tokens_of line [] [] (newline_piece ∷ []);
  are = (newline_piece ∷ [], [], ([], record { bytes_are = refl; gap = refl; token = line_token []; fits = refl }, refl), refl, refl, refl);
  none = cc;
}

newline_gives : (line depth : ℕ) → IsAnswerOf depth line newline (Ok None)
newline_gives line depth = (subst IsUtf8 (encode_ascii 10 (omega arith)) (IsUtf8-encode 10 refl), newline_blank line depth)

-- the bytes that a text which begins with a newline is a front of begin with it
taken_newline : (rest bytes : List ℕ) → IsTakenOf (10 ∷ rest) bytes → newline ≡ take 1 bytes
taken_newline rest bytes (zero, within, is) = absurd cc
taken_newline rest [] (suc n, within, is) = absurd cc
taken_newline rest (b ∷ bytes) (suc n, within, is) = ap (take 1) is

-- the script on an empty line: nothing but the line's number is another
pub newline_edited : (run : Run) (most : ℕ) (ahead : Ahead) (old new : Progress) (text : List ℕ) (rest : List ℕ) (front : List ℕ)
    → IsFewAfter ahead → IsTakenOf front ahead.bytes → front ≡ 10 ∷ rest → 1 ≤ most → new ≡ record old { line = old.line + 1 }
    → IsFirstEdited run most ahead old new text text (record { len = 1; edited = Done })
newline_edited run most ahead old new text rest front few outer begins size is =
    let taken = subst (λ t. IsTakenOf t ahead.bytes) begins outer in
    let first : newline ≡ take 1 ahead.bytes = taken_newline rest ahead.bytes taken in
    record {
      chunk = first_is_next most ahead newline (10 ∷ rest) few taken (omega arith) (omega arith) refl size newline_chunk;
      lines = omega (arith, ap (λ (p : Progress). p.line) is);
      edited = λ cs statements kept. subst (λ chunk. IsEdited run cs statements chunk old new text text Done) first
          (blank_done run cs statements newline old new text kept (newline_gives old.line run.max_depth) is);
    }
