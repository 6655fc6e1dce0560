-- A file without a fault is read by its tokens, chunk by chunk.
use Rattle.std.proofs.Common.{◌≡◌, ℕ, List, [], ◌∷◌, ◌++◌, refl, sym, ap, subst, ◌∙◌, arith, append_assoc, append-nil}
use Rattle.std.specs.Prelude.{Option, None, Some, Result, Ok, Err}
use Rattle.std.specs.List.{AllByRecursion, concat}
use Rattle.std.specs.Str.{IsUtf8}
use Rattle.bz_token.specs.Chunks.{chunks}
use Rattle.bz_token.specs.FreshStart.{AreTokensOfChunks, tokens_on_lines}
use Rattle.bz_token.specs.Places.{Placed, line_at}
use Rattle.bz_token.specs.Reading.{AreTokensOf}
use Rattle.bz_token.proofs.FreshChunks.{tokens_of_chunks}
use Rattle.bz_token.proofs.FreshStart.{on_its_lines}
use Rattle.bz_token.proofs.OneFault.{one_tokens}
use Rattle.bz_token.proofs.Progress.{newlines, newlines-append}
use Rattle.bz_tree.specs.Tree.{Statement}
use Rattle.bz_layout_laws.specs.FileRead.{AreFound, IsFound, AreStatementsIn}
use Rattle.bz_engine.proofs.Given.{none_is_some}
use Rattle.bz_engine.specs.File.{Follows, IsAnswerOf, AreStatementsOf, IsFile}
use Rattle.bz_engine.specs.declared.report.SyntaxFault.{SyntaxFault}
use Rattle.bz_laws.specs.WholeFile.{IsOnLines, AreOnLines, tokens_by_chunks}
use Rattle.bz_laws.proofs.FileText.{give_statements}
use Rattle.bz_laws.proofs.Utf8Chunks.{chunks_utf8, text_of_chunks}

-- chunks after others
concat_snoc : (before : List (List ℕ)) (c : List ℕ) → concat (before ++ c ∷ []) ≡ concat before ++ c
concat_snoc [] c = append-nil c
concat_snoc (b ∷ before) c = ap (λ x. b ++ x) (concat_snoc before c) ∙ sym (append_assoc b (concat before) c)

pub line_snoc : (first : ℕ) (before : List (List ℕ)) (c : List ℕ) → line_at (line_at first (concat before)) c ≡ line_at first (concat (before ++ c ∷ []))
line_snoc first before c = omega (arith, ap newlines (concat_snoc before c), newlines-append (concat before) c)

pub tokens_snoc : (first depth : ℕ) (before : List (List ℕ)) (c : List ℕ) (ts us : List Placed) → AreTokensOfChunks first depth before ts → AreTokensOf (line_at first (concat before)) depth c us → AreTokensOfChunks first depth (before ++ c ∷ []) (ts ++ us)
tokens_snoc first depth [] c ts us t u =
    (us, [], subst (λ line. AreTokensOf line depth c us) (omega arith) u, refl, ap (λ x. x ++ us) t ∙ sym (append-nil us))
tokens_snoc first depth (b ∷ before) c ts us t u =
    let line : line_at first (b ++ concat before) ≡ line_at (line_at first b) (concat before) = omega (arith, newlines-append b (concat before)) in
    let rest = tokens_snoc (line_at first b) depth before c t.1 us t.3 (subst (λ l. AreTokensOf l depth c us) line u) in
    (t.0, t.1 ++ us, t.2, rest, ap (λ x. x ++ us) t.4 ∙ append_assoc t.0 t.1 us)

-- the tokens of a chunk by which it is read
pub found_tokens : (line depth : ℕ) (c : List ℕ) (found : Option Statement) → IsFound line depth c found → (ts : List Placed) × AreTokensOf line depth c ts × IsOnLines line c ts found
found_tokens line depth c None f = (f.tokens, f.are, f.none)
found_tokens line depth c (Some s) f = (f.tokens, f.are, f.reads)

pub tokens_found : (line depth : ℕ) (c : List ℕ) (found : Option Statement) (ts : List Placed) → AreTokensOf line depth c ts → IsOnLines line c ts found → IsFound line depth c found
tokens_found line depth c None ts are on = record { tokens = ts; are = are; none = on }
tokens_found line depth c (Some s) ts are on = record { tokens = ts; are = are; reads = on }

-- chunks that are found have tokens
after_found : (found : Option Statement) (After Later : List Statement → Type 0) (ss : List Statement) → ((ts : List Statement) → After ts → Later ts) → AreFound found After ss → AreFound found Later ss
after_found None After Later ss next are = next ss are
after_found (Some s) After Later ss next are = (are.0, are.1, next are.0 are.2)

some_after : (found : Option Statement) (After : List Statement → Type 0) (ss : List Statement) → AreFound found After ss → (ts : List Statement) × After ts
some_after None After ss are = (ss, are)
some_after (Some s) After ss are = (are.0, are.2)

found_chunks : (line depth : ℕ) (cs : List (List ℕ)) (ss : List Statement) → AreStatementsIn line depth cs ss → (ts : List Placed) × AreTokensOfChunks line depth cs ts
found_chunks line depth [] ss are = ([], refl)
found_chunks line depth (c ∷ cs) ss are =
    let here = found_tokens line depth c are.0 are.1 in
    let after = some_after are.0 (AreStatementsIn (line_at line c) depth cs) ss are.2 in
    let rest = found_chunks (line_at line c) depth cs after.0 after.1 in
    (here.0 ++ rest.0, (here.0, rest.0, here.1, rest.1, refl))

-- After chunks that have tokens, a chunk has those of the file that stand on its lines.
on_lines : (depth : ℕ) (before cs : List (List ℕ)) (c bytes : List ℕ) (ts us tokens : List Placed) → chunks bytes ≡ before ++ c ∷ cs → AreTokensOfChunks 1 depth before ts → AreTokensOf 1 depth bytes tokens
    → AreTokensOf (line_at 1 (concat before)) depth c us → us ≡ tokens_on_lines (line_at 1 (concat before)) c tokens
on_lines depth before cs c bytes ts us tokens e t whole are = ((on_its_lines 1 depth before cs c bytes ts us tokens None None e t whole).0 are).0

of_lines : (depth : ℕ) (before cs : List (List ℕ)) (c bytes : List ℕ) (ts tokens : List Placed) → chunks bytes ≡ before ++ c ∷ cs → AreTokensOfChunks 1 depth before ts → AreTokensOf 1 depth bytes tokens
    → AreTokensOf (line_at 1 (concat before)) depth c (tokens_on_lines (line_at 1 (concat before)) c tokens)
of_lines depth before cs c bytes ts tokens e t whole = (on_its_lines 1 depth before cs c bytes ts _ tokens None None e t whole).1 (refl, refl)

-- The statements of chunks after chunks that have tokens.
found_on_lines : (depth : ℕ) (before cs : List (List ℕ)) (bytes : List ℕ) (ts tokens : List Placed) (ss : List Statement) → chunks bytes ≡ before ++ cs → AreTokensOfChunks 1 depth before ts → AreTokensOf 1 depth bytes tokens
    → AreStatementsIn (line_at 1 (concat before)) depth cs ss → AreOnLines tokens (line_at 1 (concat before)) cs ss
found_on_lines depth before [] bytes ts tokens ss e t whole are = are
found_on_lines depth before (c ∷ cs) bytes ts tokens ss e t whole are =
    let line = line_at 1 (concat before) in
    let here = found_tokens line depth c are.0 are.1 in
    let same = on_lines depth before cs c bytes ts here.0 tokens e t whole here.1 in
    let moved = line_snoc 1 before c in (
      are.0,
      subst (λ us. IsOnLines line c us are.0) same here.2,
      after_found are.0 (AreStatementsIn (line_at line c) depth cs) (AreOnLines tokens (line_at line c) cs) ss
          (λ rs later. subst (λ l. AreOnLines tokens l cs rs) (sym moved)
          (found_on_lines depth (before ++ c ∷ []) cs bytes (ts ++ here.0) tokens rs (e ∙ sym (append_assoc before (c ∷ []) cs)) (tokens_snoc 1 depth before c ts here.0 t here.1) whole
          (subst (λ l. AreStatementsIn l depth cs rs) moved later))) are.2,
    )

on_lines_found : (depth : ℕ) (before cs : List (List ℕ)) (bytes : List ℕ) (ts tokens : List Placed) (ss : List Statement) → chunks bytes ≡ before ++ cs → AreTokensOfChunks 1 depth before ts → AreTokensOf 1 depth bytes tokens
    → AreOnLines tokens (line_at 1 (concat before)) cs ss → AreStatementsIn (line_at 1 (concat before)) depth cs ss
on_lines_found depth before [] bytes ts tokens ss e t whole are = are
on_lines_found depth before (c ∷ cs) bytes ts tokens ss e t whole are =
    let line = line_at 1 (concat before) in
    let us = tokens_on_lines line c tokens in
    let here = of_lines depth before cs c bytes ts tokens e t whole in
    let moved = line_snoc 1 before c in (
      are.0,
      tokens_found line depth c are.0 us here are.1,
      after_found are.0 (AreOnLines tokens (line_at line c) cs) (AreStatementsIn (line_at line c) depth cs) ss
          (λ rs later. subst (λ l. AreStatementsIn l depth cs rs) (sym moved)
          (on_lines_found depth (before ++ c ∷ []) cs bytes (ts ++ us) tokens rs (e ∙ sym (append_assoc before (c ∷ []) cs)) (tokens_snoc 1 depth before c ts us t here) whole
          (subst (λ l. AreOnLines tokens l cs rs) moved later))) are.2,
    )

-- Chunks that give statements and no fault are UTF-8, and these are found in them.
given_found : (depth line : ℕ) (cs : List (List ℕ)) (ss : List Statement) → AreStatementsOf depth line cs ss None → AllByRecursion IsUtf8 cs × AreStatementsIn line depth cs ss
given_found depth line [] ss g = (tt, g.0)
given_found depth line (c ∷ cs) ss g = by_answer g.0 ss g.1 g.2 (λ rs. given_found depth (line_at line c) cs rs)
  where
    by_answer : (a : Result (Option Statement) SyntaxFault) (ss : List Statement) → IsAnswerOf depth line c a → Follows a (AreStatementsOf depth (line_at line c) cs) ss None
        → ((rs : List Statement) → AreStatementsOf depth (line_at line c) cs rs None → AllByRecursion IsUtf8 cs × AreStatementsIn (line_at line c) depth cs rs)
        → AllByRecursion IsUtf8 (c ∷ cs) × AreStatementsIn line depth (c ∷ cs) ss
    by_answer (Err f) ss g after next = none_is_some f after.1
    by_answer (Ok None) ss g after next = let rest = next ss after in ((g.0, rest.0), (None, g.1, rest.1))
    by_answer (Ok (Some s)) ss g after next = let rest = next after.0 after.2 in ((g.0, rest.0), (Some s, g.1, (after.0, after.1, rest.1)))

pub read_by_tokens : (depth : ℕ) (bytes : List ℕ) (ss : List Statement) → IsFile depth bytes ss None → IsUtf8 bytes × (tokens : List Placed) × AreTokensOf 1 depth bytes tokens × AreOnLines tokens 1 (chunks bytes) ss
read_by_tokens depth bytes ss file =
    let found = given_found depth 1 (chunks bytes) ss file in
    let tokens = found_chunks 1 depth (chunks bytes) ss found.1 in
    let whole = tokens_of_chunks 1 depth (chunks bytes) bytes tokens.0 refl tokens.1 in
    (text_of_chunks bytes found.0, tokens.0, whole, found_on_lines depth [] (chunks bytes) bytes [] tokens.0 ss refl refl whole found.1)

pub file_of_tokens : (depth : ℕ) (bytes : List ℕ) (ss : List Statement) (tokens : List Placed) → IsUtf8 bytes → AreTokensOf 1 depth bytes tokens → AreOnLines tokens 1 (chunks bytes) ss → IsFile depth bytes ss None
file_of_tokens depth bytes ss tokens u whole are =
    give_statements depth 1 (chunks bytes) ss (chunks_utf8 (chunks bytes) bytes refl u) (on_lines_found depth [] (chunks bytes) bytes [] tokens ss refl refl whole are)

-- the tokens of the file are those of its chunks
of_chunks : (depth : ℕ) (before cs : List (List ℕ)) (bytes : List ℕ) (ts tokens : List Placed) → chunks bytes ≡ before ++ cs → AreTokensOfChunks 1 depth before ts → AreTokensOf 1 depth bytes tokens
    → AreTokensOfChunks (line_at 1 (concat before)) depth cs (tokens_by_chunks tokens (line_at 1 (concat before)) cs)
of_chunks depth before [] bytes ts tokens e t whole = refl
of_chunks depth before (c ∷ cs) bytes ts tokens e t whole =
    let line = line_at 1 (concat before) in
    let us = tokens_on_lines line c tokens in
    let here = of_lines depth before cs c bytes ts tokens e t whole in
    let rest = of_chunks depth (before ++ c ∷ []) cs bytes (ts ++ us) tokens (e ∙ sym (append_assoc before (c ∷ []) cs)) (tokens_snoc 1 depth before c ts us t here) whole in
    (us, tokens_by_chunks tokens (line_at line c) cs, here, subst (λ l. AreTokensOfChunks l depth cs (tokens_by_chunks tokens l cs)) (sym (line_snoc 1 before c)) rest, refl)

pub each_in_a_chunk : (depth : ℕ) (bytes : List ℕ) (tokens : List Placed) → AreTokensOf 1 depth bytes tokens → tokens ≡ tokens_by_chunks tokens 1 (chunks bytes)
each_in_a_chunk depth bytes tokens whole =
    let parts = of_chunks depth [] (chunks bytes) bytes [] tokens refl refl whole in
    one_tokens 1 depth bytes tokens (tokens_by_chunks tokens 1 (chunks bytes)) whole (tokens_of_chunks 1 depth (chunks bytes) bytes (tokens_by_chunks tokens 1 (chunks bytes)) refl parts)
