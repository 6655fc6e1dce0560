-- A file is read up to its first fault by its tokens and its first lexical fault, chunk by chunk.
use Rattle.std.proofs.Common.{◌≡◌, ℕ, List, [], ◌∷◌, ◌++◌, Bool, true, false, refl, sym, subst, ◌∙◌, append_assoc}
use Rattle.std.specs.Prelude.{◌↔◌, Option, None, Some, Result, Ok, Err, if◌then◌else◌}
use Rattle.std.specs.List.{concat}
use Rattle.bz_token.specs.declared.fault.LexFault.{LexFault}
use Rattle.bz_token.specs.Chunks.{chunks}
use Rattle.bz_token.specs.Faults.{IsFirstFault}
use Rattle.bz_token.specs.FreshStart.{AreTokensOfChunks, tokens_on_lines, fault_on_lines, is_line_of, line_of}
use Rattle.bz_token.specs.Places.{Placed, line_at}
use Rattle.bz_token.specs.Reading.{AreTokensOf}
use Rattle.bz_token.specs.UpToFault.{IsReadAs}
use Rattle.bz_token.proofs.FreshStart.{on_its_lines}
use Rattle.bz_token.proofs.OneReading.{fault_read}
use Rattle.bz_token.proofs.SomeReading.{some_reading}
use Rattle.bz_tree.specs.declared.fault.ParseFault.TheVariants.{OutOfMemory, Lex, Indented, NotAStatement}
use Rattle.bz_tree.specs.Chunk.{IsNoStatement, indent_fault}
use Rattle.bz_tree.specs.Tree.{Statement}
use Rattle.bz_engine.proofs.Given.{none_is_some}
use Rattle.bz_engine.specs.declared.report.SyntaxFault.{SyntaxFault}
use Rattle.bz_engine.specs.declared.report.SyntaxFault.TheVariants.{NotUtf8, Parse}
use Rattle.bz_engine.specs.File.{Follows, IsAnswerOf, AreStatementsOf, IsFile}
use Rattle.bz_laws.specs.WholeFile.{IsOnLines, IsAnswerOnLines, AreStatementsOnLines}
use Rattle.bz_laws.proofs.FileTokens.{line_snoc, tokens_snoc, found_tokens, tokens_found}

-- the chunk is read as these tokens up to this fault, if any, and as nothing else
abbrev IsReadOnlyAs : ℕ → ℕ → List ℕ → List Placed → Option LexFault → Type 0
IsReadOnlyAs line depth c tokens lexical = (us : List Placed) (f : Option LexFault) → IsReadAs line depth c us f → (us ≡ tokens) × (f ≡ lexical)

moved_tokens : (line : ℕ) (c : List ℕ) (us tokens : List Placed) (lexical : Option LexFault) (found : Option Statement) → (us ≡ tokens) × (None ≡ lexical) → IsOnLines line c us found → (lexical ≡ None) × IsOnLines line c tokens found
moved_tokens line c us tokens lexical found same on = (sym same.1, subst (λ ts. IsOnLines line c ts found) same.0 on)

-- What a chunk gives by itself, it gives by the tokens and the fault that it is read as.
gives_found : (line depth : ℕ) (c : List ℕ) (tokens : List Placed) (lexical : Option LexFault) (found : Option Statement) → IsReadOnlyAs line depth c tokens lexical → IsAnswerOf depth line c (Ok found) → IsAnswerOnLines line c tokens lexical (Ok found)
gives_found line depth c tokens lexical None same g = let f = found_tokens line depth c None g.1 in let on = moved_tokens line c f.0 tokens lexical None (same f.0 None f.1) f.2 in (g.0, on.0, on.1)
gives_found line depth c tokens lexical (Some s) same g = let f = found_tokens line depth c (Some s) g.1 in let on = moved_tokens line c f.0 tokens lexical (Some s) (same f.0 None f.1) f.2 in (g.0, on.0, on.1)

gives_on_lines : (line depth : ℕ) (c : List ℕ) (tokens : List Placed) (lexical : Option LexFault) (answer : Result (Option Statement) SyntaxFault) → IsReadOnlyAs line depth c tokens lexical → IsAnswerOf depth line c answer → IsAnswerOnLines line c tokens lexical answer
gives_on_lines line depth c tokens lexical (Ok found) same g = gives_found line depth c tokens lexical found same g
gives_on_lines line depth c tokens lexical (Err (NotUtf8 l col)) same g = g
gives_on_lines line depth c tokens lexical (Err (Parse (OutOfMemory _))) same g = absurd (g.2 refl)
gives_on_lines line depth c tokens lexical (Err (Parse (Lex f))) same g =
    let read = (fault_read line depth c f).0 g.1 in
    (g.0, sym (same read.0 (Some f) read.1).1)
gives_on_lines line depth c tokens lexical (Err (Parse (Indented l))) same g =
    let here = same g.1.tokens None g.1.are in
    (g.0, (sym here.1, subst (λ ts. indent_fault ts ≡ Some l) here.0 g.1.is))
gives_on_lines line depth c tokens lexical (Err (Parse (NotAStatement l))) same g =
    let here = same g.1.tokens None g.1.are in
    (g.0, (sym here.1, subst (λ ts. IsNoStatement line c ts l) here.0 g.1.is))

-- and the other way round
found_gives : (line depth : ℕ) (c : List ℕ) (tokens : List Placed) (found : Option Statement) → IsReadAs line depth c tokens None → IsAnswerOnLines line c tokens None (Ok found) → IsAnswerOf depth line c (Ok found)
found_gives line depth c tokens None read g = (g.0, tokens_found line depth c None tokens read g.2)
found_gives line depth c tokens (Some s) read g = (g.0, tokens_found line depth c (Some s) tokens read g.2)

whole_tokens : (line depth : ℕ) (c : List ℕ) (tokens : List Placed) (lexical f : Option LexFault) → IsReadAs line depth c tokens lexical → lexical ≡ f → IsReadAs line depth c tokens f
whole_tokens line depth c tokens lexical f read is = subst (IsReadAs line depth c tokens) is read

on_lines_gives : (line depth : ℕ) (c : List ℕ) (tokens : List Placed) (lexical : Option LexFault) (answer : Result (Option Statement) SyntaxFault) → IsReadAs line depth c tokens lexical → IsAnswerOnLines line c tokens lexical answer → IsAnswerOf depth line c answer
on_lines_gives line depth c tokens lexical (Ok found) read g = found_gives line depth c tokens found (whole_tokens line depth c tokens lexical None read g.1) (g.0, refl, g.2)
on_lines_gives line depth c tokens lexical (Err (NotUtf8 l col)) read g = g
on_lines_gives line depth c tokens lexical (Err (Parse (OutOfMemory _))) read g = absurd g.1
on_lines_gives line depth c tokens lexical (Err (Parse (Lex f))) read g =
    let here = whole_tokens line depth c tokens lexical (Some f) read g.1 in
    (g.0, here.0, λ same. absurd cc)
on_lines_gives line depth c tokens lexical (Err (Parse (Indented l))) read g =
    (g.0, record { tokens = tokens; are = whole_tokens line depth c tokens lexical None read g.1.0; is = g.1.1 }, λ same. absurd cc)
on_lines_gives line depth c tokens lexical (Err (Parse (NotAStatement l))) read g =
    (g.0, record { tokens = tokens; are = whole_tokens line depth c tokens lexical None read g.1.0; is = g.1.1 }, λ same. absurd cc)

-- a chunk without a fault has tokens
given_tokens : (line depth : ℕ) (c : List ℕ) (found : Option Statement) → IsAnswerOf depth line c (Ok found) → (ts : List Placed) × AreTokensOf line depth c ts
given_tokens line depth c None g = (g.1.tokens, g.1.are)
given_tokens line depth c (Some s) g = (g.1.tokens, g.1.are)

-- What follows a chunk needs to be told only where the chunk has no fault.
next_follows : (answer : Result (Option Statement) SyntaxFault) (Near Far : List Statement → Option SyntaxFault → Type 0) (ss : List Statement) (fault : Option SyntaxFault)
    → ((found : Option Statement) → answer ≡ Ok found → (rs : List Statement) → Near rs fault → Far rs fault) → Follows answer Near ss fault → Follows answer Far ss fault
next_follows (Err f) Near Far ss fault next h = h
next_follows (Ok None) Near Far ss fault next h = next None refl ss h
next_follows (Ok (Some s)) Near Far ss fault next h = (h.0, h.1, next (Some s) refl h.0 h.2)

give_on_lines : (depth : ℕ) (before cs : List (List ℕ)) (bytes : List ℕ) (ts tokens : List Placed) (lexical : Option LexFault) (ss : List Statement) (fault : Option SyntaxFault) → chunks bytes ≡ before ++ cs → AreTokensOfChunks 1 depth before ts → IsReadAs 1 depth bytes tokens lexical
    → AreStatementsOf depth (line_at 1 (concat before)) cs ss fault → AreStatementsOnLines tokens lexical (line_at 1 (concat before)) cs ss fault
give_on_lines depth before [] bytes ts tokens lexical ss fault e t whole g = g
give_on_lines depth before (c ∷ cs) bytes ts tokens lexical ss fault e t whole g =
    let line = line_at 1 (concat before) in
    let same : IsReadOnlyAs line depth c (tokens_on_lines line c tokens) (fault_on_lines line c lexical) = λ us f read. (on_its_lines 1 depth before cs c bytes ts us tokens f lexical e t whole).0 read in
    let moved = line_snoc 1 before c in (
      g.0,
      gives_on_lines line depth c (tokens_on_lines line c tokens) (fault_on_lines line c lexical) g.0 same g.1,
      next_follows g.0 (AreStatementsOf depth (line_at line c) cs) (AreStatementsOnLines tokens lexical (line_at line c) cs) ss fault
          (λ found is rs later.
          let own = given_tokens line depth c found (subst (IsAnswerOf depth line c) is g.1) in
          subst (λ l. AreStatementsOnLines tokens lexical l cs rs fault) (sym moved)
          (give_on_lines depth (before ++ c ∷ []) cs bytes (ts ++ own.0) tokens lexical rs fault (e ∙ sym (append_assoc before (c ∷ []) cs)) (tokens_snoc 1 depth before c ts own.0 t own.1) whole
          (subst (λ l. AreStatementsOf depth l cs rs fault) moved later))) g.2,
    )

on_lines_give : (depth : ℕ) (before cs : List (List ℕ)) (bytes : List ℕ) (ts tokens : List Placed) (lexical : Option LexFault) (ss : List Statement) (fault : Option SyntaxFault) → chunks bytes ≡ before ++ cs → AreTokensOfChunks 1 depth before ts → IsReadAs 1 depth bytes tokens lexical
    → AreStatementsOnLines tokens lexical (line_at 1 (concat before)) cs ss fault → AreStatementsOf depth (line_at 1 (concat before)) cs ss fault
on_lines_give depth before [] bytes ts tokens lexical ss fault e t whole g = g
on_lines_give depth before (c ∷ cs) bytes ts tokens lexical ss fault e t whole g =
    let line = line_at 1 (concat before) in
    let read = (on_its_lines 1 depth before cs c bytes ts (tokens_on_lines line c tokens) tokens (fault_on_lines line c lexical) lexical e t whole).1 (refl, refl) in
    let here = on_lines_gives line depth c (tokens_on_lines line c tokens) (fault_on_lines line c lexical) g.0 read g.1 in
    let moved = line_snoc 1 before c in (
      g.0,
      here,
      next_follows g.0 (AreStatementsOnLines tokens lexical (line_at line c) cs) (AreStatementsOf depth (line_at line c) cs) ss fault
          (λ found is rs later.
          let own = given_tokens line depth c found (subst (IsAnswerOf depth line c) is here) in
          subst (λ l. AreStatementsOf depth l cs rs fault) (sym moved)
          (on_lines_give depth (before ++ c ∷ []) cs bytes (ts ++ own.0) tokens lexical rs fault (e ∙ sym (append_assoc before (c ∷ []) cs)) (tokens_snoc 1 depth before c ts own.0 t own.1) whole
          (subst (λ l. AreStatementsOnLines tokens lexical l cs rs fault) moved later))) g.2,
    )

pub by_its_lines : (depth : ℕ) (bytes : List ℕ) (ss : List Statement) (fault : Option SyntaxFault) (tokens : List Placed) (lexical : Option LexFault) → IsReadAs 1 depth bytes tokens lexical → (IsFile depth bytes ss fault ↔ AreStatementsOnLines tokens lexical 1 (chunks bytes) ss fault)
by_its_lines depth bytes ss fault tokens lexical whole = (give_on_lines depth [] (chunks bytes) bytes [] tokens lexical ss fault refl refl whole, on_lines_give depth [] (chunks bytes) bytes [] tokens lexical ss fault refl refl whole)

-- the lexical fault of a chunk is that of the file
some_on_lines : (line : ℕ) (c : List ℕ) (lexical : Option LexFault) (f : LexFault) → fault_on_lines line c lexical ≡ Some f → lexical ≡ Some f
some_on_lines line c None f is = none_is_some f is
some_on_lines line c (Some g) f is = by_test (is_line_of line c (line_of g)) is
  where
    by_test : (b : Bool) → (if b then Some g else None) ≡ Some f → Some g ≡ Some f
    by_test true is = is
    by_test false is = none_is_some f is

lexical_given : (tokens : List Placed) (lexical : Option LexFault) (line : ℕ) (cs : List (List ℕ)) (ss : List Statement) (f : LexFault) → AreStatementsOnLines tokens lexical line cs ss (Some (Parse (Lex f))) → lexical ≡ Some f
lexical_given tokens lexical line [] ss f g = none_is_some (Parse (Lex f)) (sym g.1)
lexical_given tokens lexical line (c ∷ cs) ss f g = by_answer g.0 g.1 g.2 (λ rs later. lexical_given tokens lexical (line_at line c) cs rs f later)
  where
    at_fault : (h : SyntaxFault) → IsAnswerOnLines line c (tokens_on_lines line c tokens) (fault_on_lines line c lexical) (Err h) → h ≡ Parse (Lex f) → lexical ≡ Some f
    at_fault h gives is = some_on_lines line c lexical f (subst (λ x. IsAnswerOnLines line c (tokens_on_lines line c tokens) (fault_on_lines line c lexical) (Err x)) is gives).1

    same_fault : (h k : SyntaxFault) → Some h ≡ Some k → h ≡ k
    same_fault h k is = cc

    by_answer : (a : Result (Option Statement) SyntaxFault) → IsAnswerOnLines line c (tokens_on_lines line c tokens) (fault_on_lines line c lexical) a
        → Follows a (AreStatementsOnLines tokens lexical (line_at line c) cs) ss (Some (Parse (Lex f)))
        → ((rs : List Statement) → AreStatementsOnLines tokens lexical (line_at line c) cs rs (Some (Parse (Lex f))) → lexical ≡ Some f) → lexical ≡ Some f
    by_answer (Err h) gives after next = at_fault h gives (same_fault h (Parse (Lex f)) (sym after.1))
    by_answer (Ok None) gives after next = next ss after
    by_answer (Ok (Some s)) gives after next = next after.0 after.2

pub lexical_of_file : (depth : ℕ) (bytes : List ℕ) (ss : List Statement) (f : LexFault) → IsFile depth bytes ss (Some (Parse (Lex f))) → IsFirstFault 1 depth bytes f
lexical_of_file depth bytes ss f file =
    let read = some_reading 1 depth bytes in
    let lexical = lexical_given read.0 read.1 1 (chunks bytes) ss f ((by_its_lines depth bytes ss (Some (Parse (Lex f))) read.0 read.1 read.2).0 file) in
    (whole_tokens 1 depth bytes read.0 read.1 (Some f) read.2 lexical).0
