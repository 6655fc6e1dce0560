-- The first byte of a file that belongs to no UTF-8 is that of the first chunk with a fault.
use Rattle.std.proofs.Common.{◌≡◌, ℕ, suc, ◌+◌, ◌-◌, ◌≤◌, List, [], ◌∷◌, ◌++◌, length, take, take_all, true, refl, sym, ap, ap₂, subst, ◌∙◌, arith, ◌⊎◌, inl, inr, append-nil, length-append}
use Rattle.std.specs.Prelude.{Option, None, Some, Result, Ok, Err, ◌==◌, if◌then◌else◌}
use Rattle.std.specs.Str.{IsUtf8, IsValidUpTo}
use Rattle.std.proofs.lemmas.Bool.{cases_lt}
use Rattle.std.proofs.lemmas.List.{take-append-le}
use Rattle.std.proofs.lemmas.Str.{IsUtf8-append}
use Rattle.bz_token.specs.Chunks.{chunks}
use Rattle.bz_token.specs.Cuts.{ends_in_newline}
use Rattle.bz_token.specs.Places.{line_at, column_from, column_at}
use Rattle.bz_token.proofs.FreshChunks.{first_cut}
use Rattle.bz_token.proofs.Progress.{newlines-append}
use Rattle.bz_tree.specs.Tree.{Statement}
use Rattle.bz_engine.proofs.Given.{none_is_some}
use Rattle.bz_engine.specs.declared.report.SyntaxFault.{SyntaxFault}
use Rattle.bz_engine.specs.declared.report.SyntaxFault.TheVariants.{NotUtf8}
use Rattle.bz_engine.specs.File.{not_utf8, Follows, IsAnswerOf, AreStatementsOf, IsFile}
use Rattle.bz_laws.proofs.Utf8Chunks.{cut_after_newline, ends_or_last}

-- fronts of a text in two parts
take_past : (c rest : List ℕ) (k : ℕ) → take (length c + k) (c ++ rest) ≡ c ++ take k rest
take_past [] rest k = ap (λ n. take n rest) (omega arith)
take_past (b ∷ c) rest k =
    let e : length (b ∷ c) + k ≡ suc (length c + k) = omega arith in
    ap (λ n. take n (b ∷ c ++ rest)) e ∙ ap (λ x. b ∷ x) (take_past c rest k)

past : (a m : ℕ) → a ≤ m → m ≡ a + (m - a)
past a m h = omega (arith, h)

-- after a newline columns count from 1
column_after_newline : (column : ℕ) (c rest : List ℕ) → ends_in_newline c ≡ true → column_from column (c ++ rest) ≡ column_from 1 rest
column_after_newline column [] rest h = absurd cc
column_after_newline column (b ∷ []) rest h = ap (λ newline. column_from (if newline then 1 else column + 1) rest) h
column_after_newline column (b ∷ d ∷ bs) rest h = column_after_newline (if b == 10 then 1 else column + 1) (d ∷ bs) rest h

-- a bad byte of the first part
valid_within : (c rest : List ℕ) (n : ℕ) → ends_in_newline c ≡ true → IsValidUpTo c n → IsValidUpTo (c ++ rest) n
valid_within c rest n ends v = record {
  short = omega (arith, v.short, length-append c rest);
  front = subst IsUtf8 (sym (take-append-le n c rest (omega (arith, v.short)))) v.front;
  longest = λ m above u. elim (cases_lt m (length c)) [
    | inl within ↦ v.longest m above (subst IsUtf8 (take-append-le m c rest (omega (arith, within))) u)
    | inr beyond ↦
        let parts : take m (c ++ rest) ≡ c ++ take (m - length c) rest = ap (λ k. take k (c ++ rest)) (past (length c) m beyond) ∙ take_past c rest (m - length c) in
        let whole = (cut_after_newline c (take (m - length c) rest) ends (subst IsUtf8 parts u)).0 in
        v.longest (length c) v.short (subst IsUtf8 (sym (take_all (length c) c (omega arith))) whole)
  ];
}

-- a bad byte of the second part
valid_after : (c rest : List ℕ) (n : ℕ) → ends_in_newline c ≡ true → IsUtf8 c → IsValidUpTo rest n → IsValidUpTo (c ++ rest) (length c + n)
valid_after c rest n ends text v = record {
  short = omega (arith, v.short, length-append c rest);
  front = subst IsUtf8 (sym (take_past c rest n)) (IsUtf8-append c (take n rest) text v.front);
  longest = λ m above u.
      let parts : take m (c ++ rest) ≡ c ++ take (m - length c) rest = ap (λ k. take k (c ++ rest)) (past (length c) m (omega (arith, above))) ∙ take_past c rest (m - length c) in
      v.longest (m - length c) (omega (arith, above)) (cut_after_newline c (take (m - length c) rest) ends (subst IsUtf8 parts u)).1;
}

place_within : (line : ℕ) (c rest : List ℕ) (n : ℕ) → IsValidUpTo c n → not_utf8 line n c ≡ not_utf8 line n (c ++ rest)
place_within line c rest n v = ap (λ x. NotUtf8 (line_at line x) (column_at x)) (sym (take-append-le n c rest (omega (arith, v.short))))

place_after : (line : ℕ) (c rest : List ℕ) (n : ℕ) → ends_in_newline c ≡ true → not_utf8 (line_at line c) n rest ≡ not_utf8 line (length c + n) (c ++ rest)
place_after line c rest n ends =
    let lines : line_at (line_at line c) (take n rest) ≡ line_at line (c ++ take n rest) = omega (arith, newlines-append c (take n rest)) in
    ap₂ (λ l k. NotUtf8 l k) lines (sym (column_after_newline 1 c (take n rest) ends)) ∙ ap (λ x. NotUtf8 (line_at line x) (column_at x)) (sym (take_past c rest n))

-- the first byte of a text that belongs to no UTF-8
abbrev IsBadByte : ℕ → List ℕ → SyntaxFault → Type 0
IsBadByte line bytes fault = (n : ℕ) × IsValidUpTo bytes n × (fault ≡ not_utf8 line n bytes)

empty_bad : {X : Type 0} (n : ℕ) → IsValidUpTo [] n → X
empty_bad n v = absurd (omega (arith, v.short))

bad_within : (line : ℕ) (c rest : List ℕ) (fault : SyntaxFault) → (rest ≡ []) ⊎ (ends_in_newline c ≡ true) → IsBadByte line c fault → IsBadByte line (c ++ rest) fault
bad_within line c rest fault (inl none) bad = subst (λ x. IsBadByte line x fault) (sym (append-nil c) ∙ ap (λ r. c ++ r) (sym none)) bad
bad_within line c rest fault (inr ends) bad = (bad.0, valid_within c rest bad.0 ends bad.1, bad.2 ∙ place_within line c rest bad.0 bad.1)

bad_after : (line : ℕ) (c rest : List ℕ) (fault : SyntaxFault) → (rest ≡ []) ⊎ (ends_in_newline c ≡ true) → IsUtf8 c → IsBadByte (line_at line c) rest fault → IsBadByte line (c ++ rest) fault
bad_after line c rest fault (inl none) text bad = empty_bad bad.0 (subst (λ r. IsValidUpTo r bad.0) none bad.1)
bad_after line c rest fault (inr ends) text bad = (length c + bad.0, valid_after c rest bad.0 ends text bad.1, bad.2 ∙ place_after line c rest bad.0 ends)

-- that of a file
bad_byte : (depth line : ℕ) (cs : List (List ℕ)) (bytes : List ℕ) (ss : List Statement) (l k : ℕ) → chunks bytes ≡ cs → AreStatementsOf depth line cs ss (Some (NotUtf8 l k)) → IsBadByte line bytes (NotUtf8 l k)
bad_byte depth line [] bytes ss l k e g = none_is_some (NotUtf8 l k) (sym g.1)
bad_byte depth line (c ∷ cs) bytes ss l k e g =
    let first = first_cut bytes c cs e in
    subst (λ x. IsBadByte line x (NotUtf8 l k)) (sym first.bytes_are)
    (by_answer first.rest (ends_or_last c first.rest first.first_is first.some) g.0 g.1 g.2 (λ rs later. bad_byte depth (line_at line c) cs first.rest rs l k first.after later))
  where
    same_fault : (h m : SyntaxFault) → Some h ≡ Some m → h ≡ m
    same_fault h m is = cc

    by_answer : (rest : List ℕ) → (rest ≡ []) ⊎ (ends_in_newline c ≡ true) → (a : Result (Option Statement) SyntaxFault) → IsAnswerOf depth line c a
        → Follows a (AreStatementsOf depth (line_at line c) cs) ss (Some (NotUtf8 l k))
        → ((rs : List Statement) → AreStatementsOf depth (line_at line c) cs rs (Some (NotUtf8 l k)) → IsBadByte (line_at line c) rest (NotUtf8 l k)) → IsBadByte line (c ++ rest) (NotUtf8 l k)
    by_answer rest ends (Err h) gives after next =
        let here = subst (λ x. IsAnswerOf depth line c (Err x)) (same_fault h (NotUtf8 l k) (sym after.1)) gives in
        bad_within line c rest (NotUtf8 l k) ends here.1
    by_answer rest ends (Ok None) gives after next = bad_after line c rest (NotUtf8 l k) ends gives.0 (next ss after)
    by_answer rest ends (Ok (Some s)) gives after next = bad_after line c rest (NotUtf8 l k) ends gives.0 (next after.0 after.2)

pub bad_byte_of_file : (depth : ℕ) (bytes : List ℕ) (ss : List Statement) (l k : ℕ) → IsFile depth bytes ss (Some (NotUtf8 l k)) → (n : ℕ) × IsValidUpTo bytes n × (NotUtf8 l k ≡ not_utf8 1 n bytes)
bad_byte_of_file depth bytes ss l k file = bad_byte depth 1 (chunks bytes) bytes ss l k refl file
