-- A chunk has an answer.
use Rattle.bz_memory.specs.NoMemory.{no_memory}
use Rattle.std.proofs.Common.{◌≡◌, ℕ, List, ◌++◌, [], Bool, true, false, Option, None, Some, IsNone, IsSome, refl, sym, ap, subst, ◌∙◌, ◌⊎◌, inl, inr}
use Rattle.std.proofs.lemmas.Bool.{false≢true}
use Rattle.bz_token.specs.declared.fault.LexFault.{LexFault}
use Rattle.bz_token.specs.Places.{Placed}
use Rattle.bz_token.specs.Reading.{AreTokensOf}
use Rattle.bz_token.specs.Faults.{IsFirstFault}
use Rattle.bz_token.proofs.OneReading.{tokens_or_fault}
use Rattle.bz_tree.specs.declared.fault.ParseFault.TheVariants.{OutOfMemory, Lex, Indented, NotAStatement}
use Rattle.bz_tree.specs.Tree.{Segment, Statement, items_of}
use Rattle.bz_tree.specs.Statement.{first_token, first_seen, last_seen, start_of, statement_with}
use Rattle.bz_tree.specs.Brackets.{end_line}
use Rattle.bz_tree.specs.Blocks.{is_block, above, kept_statement, IsBlockOf, is_block_word}
use Rattle.bz_tree.specs.Chunk.{IsPlain, IsBlockOrPlain, indent_fault, IsChunkOf}
use Rattle.bz_tree.specs.private.Steps.{new_level, run}
use Rattle.bz_tree.specs.private.Machine.{is_statement}
use Rattle.bz_tree.specs.private.BlockSteps.{AreStanding}
use Rattle.bz_tree.proofs.Trees.Plain.{plain_is, no_plain_tree, no_plain_grammar}
use Rattle.bz_tree.proofs.Trees.KeptText.{kept_is}
use Rattle.bz_tree.proofs.Trees.Standing.{standing}
use Rattle.bz_tree.proofs.Trees.Sound.{none_is_some}
use Rattle.bz_layout_laws.specs.Answers.{HasAnswer}
use Rattle.bz_token.specs.Common.{map_or}

-- something is such a statement, or nothing is
abbrev Either : (Statement → Type 0) → Type 0
Either Is = ((s : Statement) × Is s) ⊎ ((s : Statement) → Is s → ⊥)

plain_or_none : (ts : List Placed) → Either (IsPlain ts)
plain_or_none ts = at_run (run (new_level None) [] ts) refl
  where
    at_grammar : (s : Segment) → run (new_level None) [] ts ≡ Some s → (b : Bool) → is_statement (items_of s.nodes) ≡ b → Either (IsPlain ts)
    at_grammar s found true accepted = inl (statement_with ts s, plain_is ts s (statement_with ts s) found accepted refl)
    at_grammar s found false refused = inr (no_plain_grammar ts s found refused)

    at_run : (o : Option Segment) → run (new_level None) [] ts ≡ o → Either (IsPlain ts)
    at_run None found = inr (no_plain_tree ts found)
    at_run (Some s) found = at_grammar s found (is_statement (items_of s.nodes)) refl

block_or_none : (first : ℕ) (bytes : List ℕ) (ts : List Placed) → AreStanding first bytes ts → map_or false is_block_word (first_token ts) ≡ true → Either (IsBlockOf first bytes ts)
block_or_none first bytes ts stand begins = at_header (first_token ts) refl (last_seen ts) refl (is_block ts) refl
  where
    at_header : (h : Option Placed) → first_token ts ≡ h → (l : Option Placed) → last_seen ts ≡ l → (b : Bool) → is_block ts ≡ b → Either (IsBlockOf first bytes ts)
    at_header None none l is_last b is = absurd (false≢true (sym (ap (map_or false is_block_word) none) ∙ begins))
    at_header (Some h) is_header None none b is = inr (λ s block. none_is_some block.last (sym none ∙ block.is_last))
    at_header (Some h) is_header (Some l) is_last false is = inr (λ s block. false≢true (sym is ∙ block.is_block))
    at_header (Some h) is_header (Some l) is_last true is =
        let a = stand h l is_header is_last (sym (ap (map_or false is_block_word) is_header) ∙ begins) in
        inl (
          kept_statement (above ts) (a.front ++ l.text) h (end_line l),
          record {
            header = h;
            last = l;
            kept = a.front ++ l.text;
            is_header = is_header;
            is_last = is_last;
            is_kept = kept_is first bytes h l a (a.front ++ l.text) refl;
            is_block = is;
            is = refl;
          },
        )

chunk_or_none : (first : ℕ) (bytes : List ℕ) (ts : List Placed) → AreStanding first bytes ts → Either (IsChunkOf first bytes ts)
chunk_or_none first bytes ts stand = at_word (map_or false is_block_word (first_token ts)) refl
  where
    at_word : (b : Bool) → map_or false is_block_word (first_token ts) ≡ b → Either (IsChunkOf first bytes ts)
    at_word true begins = subst (λ b. Either (IsBlockOrPlain b first bytes ts)) (sym begins) (block_or_none first bytes ts stand begins)
    at_word false begins = subst (λ b. Either (IsBlockOrPlain b first bytes ts)) (sym begins) (plain_or_none ts)

lex_some : (f : LexFault) → Lex f ≡ OutOfMemory no_memory → ⊥
lex_some f e = cc

indented_some : (line : ℕ) → Indented line ≡ OutOfMemory no_memory → ⊥
indented_some line e = cc

refused_some : (line : ℕ) → NotAStatement line ≡ OutOfMemory no_memory → ⊥
refused_some line e = cc

by_tokens : (first depth : ℕ) (bytes : List ℕ) (ts : List Placed) → AreTokensOf first depth bytes ts → HasAnswer first depth bytes
by_tokens first depth bytes ts are = at_seen (first_seen ts) refl
  where
    at_chunk : IsSome (first_seen ts) → indent_fault ts ≡ None → Either (IsChunkOf first bytes ts) → HasAnswer first depth bytes
    at_chunk some upright (inl found) = inl (found.0, record { tokens = ts; are = are; reads = record { upright = upright; some = some; chunk = found.1 } })
    at_chunk some upright (inr none) = inr (inr (NotAStatement (start_of ts), refused_some (start_of ts), record { tokens = ts; are = are; is = record { upright = upright; none = none; line_is = refl } }))

    at_indent : IsSome (first_seen ts) → (o : Option ℕ) → indent_fault ts ≡ o → HasAnswer first depth bytes
    at_indent some (Some line) e = inr (inr (Indented line, indented_some line, record { tokens = ts; are = are; is = e }))
    at_indent some None e = at_chunk some e (chunk_or_none first bytes ts (standing first depth bytes ts are))

    at_seen : (o : Option Placed) → first_seen ts ≡ o → HasAnswer first depth bytes
    at_seen None e = inr (inl (record { tokens = ts; are = are; none = subst IsNone (sym e) refl }))
    at_seen (Some t) e = at_indent (subst IsSome (sym e) refl) (indent_fault ts) refl

pub some_answer : (first depth : ℕ) (bytes : List ℕ) → HasAnswer first depth bytes
some_answer first depth bytes = by_reading (tokens_or_fault first depth bytes)
  where
    by_reading : ((ts : List Placed) × AreTokensOf first depth bytes ts) ⊎ ((f : LexFault) × IsFirstFault first depth bytes f) → HasAnswer first depth bytes
    by_reading (inl found) = by_tokens first depth bytes found.0 found.1
    by_reading (inr fault) = inr (inr (Lex fault.0, lex_some fault.0, fault.1))
