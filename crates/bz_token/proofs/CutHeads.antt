-- The head of a logical line stands in the first of its physical lines that is not blank.
use Rattle.std.proofs.Common.{◌≡◌, ℕ, ◌==◌, ◌||◌, ◌⊎◌, List, [], ◌∷◌, ◌++◌, Bool, true, false, not, cond, None, refl, sym, ap, subst, arith, ◌∙◌, inl, inr, append_assoc, eqb-true}
use Rattle.std.proofs.lemmas.Bool.{and_parts, not-true, false≢true}
use Rattle.std.proofs.lemmas.Bool.Decides.{nat_tests}
use Rattle.bz_token.specs.declared.cutter.scan.LineKind.TheVariants.{Blank, Statement}
use Rattle.bz_token.specs.declared.cutter.scan.CutState.TheVariants.{Plain, Backslash, BackslashReturn}
use Rattle.bz_token.specs.Blocks.{word_at, opener_of}
use Rattle.bz_token.specs.Cuts.{is_physical_line, ends_in_newline}
use Rattle.bz_token.specs.private.CutSteps.{is_ended, is_blank_kind, at, outside, next, start, run}
use Rattle.bz_token.proofs.CutMachine.{line_quiet, kept_kind, run_kind}
use Rattle.bz_token.proofs.CutSeen.{by_byte}
use Rattle.bz_token.proofs.CutLaws.{word_stop}
use Rattle.bz_token.specs.private.Gaps.{continues_after, head_from}
use Rattle.bz_token.specs.Pieces.{is_white}

pub line_end : (line : List ℕ) → ends_in_newline line ≡ true → (xs : List ℕ) × (line ≡ xs ++ 10 ∷ [])
line_end [] h = absurd (false≢true h)
line_end (b ∷ []) h = ([], ap (λ c. c ∷ []) (eqb-true b 10 h))
line_end (b ∷ c ∷ bs) h = let r = line_end (c ∷ bs) h in (b ∷ r.0, ap (λ t. b ∷ t) r.1)

-- the first word of a line that ends with a newline is in it
pub word_of_line : (line more : List ℕ) → ends_in_newline line ≡ true → word_at (line ++ more) ≡ word_at line
word_of_line line more h =
    let r = line_end line h in
    ap word_at (ap (λ t. t ++ more) r.1 ∙ append_assoc r.0 (10 ∷ []) more) ∙ word_stop r.0 more ∙ sym (ap word_at r.1)

-- after a physical line from the beginning of a logical line: the line has ended blank, or nothing but gaps was read,
-- or the head is known
abbrev pub IsEndedBlank : List ℕ → Type 0
IsEndedBlank line = (is_ended (run start line).inside ≡ true) × (is_blank_kind (run start line).kind ≡ true)

abbrev pub IsGap : Bool → List ℕ → Type 0
IsGap first line = (run start line ≡ start) × ((more : List ℕ) → head_from first (line ++ more) ≡ head_from true more)

abbrev pub HasHead : Bool → List ℕ → Type 0
HasHead first line = (is_blank_kind (run start line).kind ≡ false) × ((more : List ℕ) → opener_of (word_at (head_from first (line ++ more))) ≡ cond first (opener_of (word_at line)) None)

abbrev pub Header : Bool → List ℕ → Type 0
Header first line = IsEndedBlank line ⊎ (IsGap first line ⊎ HasHead first line)

none_twice : (first : Bool) (word : List ℕ) → word ≡ [] → cond first (opener_of word) None ≡ None
none_twice true word e = rw e refl
none_twice false word e = refl

-- white space is passed
head_white : (first : Bool) (b : ℕ) (bs : List ℕ) → is_white true b ≡ true → (b == 10) ≡ false → head_from first (b ∷ bs) ≡ head_from false bs
head_white first b bs white n10 = rw (white, n10, head_from) refl

white_case : (first : Bool) (b : ℕ) (bs : List ℕ) → next start b ≡ start → is_white true b ≡ true → (b == 10) ≡ false → word_at (b ∷ bs) ≡ [] → Header false bs → Header first (b ∷ bs)
white_case first b bs stays white n10 word (inl e) = inl (ap (λ s. is_ended (run s bs).inside) stays ∙ e.0, ap (λ s. is_blank_kind (run s bs).kind) stays ∙ e.1)
white_case first b bs stays white n10 word (inr (inl e)) = inr (inl (ap (λ s. run s bs) stays ∙ e.0, λ more. head_white first b (bs ++ more) white n10 ∙ e.1 more))
white_case first b bs stays white n10 word (inr (inr e)) =
    inr (inr (ap (λ s. is_blank_kind (run s bs).kind) stays ∙ e.0, λ more. ap (λ t. opener_of (word_at t)) (head_white first b (bs ++ more) white n10) ∙ e.1 more ∙ sym (none_twice first (word_at (b ∷ bs)) word)))

-- anything else is the head
head_stops : (first : Bool) (b : ℕ) (bs : List ℕ) → (is_white true b || continues_after b bs) ≡ false → head_from first (b ∷ bs) ≡ cond first (b ∷ bs) []
head_stops first b bs stops = rw (stops, head_from) refl

head_word : (first : Bool) (text line : List ℕ) → word_at text ≡ word_at line → opener_of (word_at (cond first text [])) ≡ cond first (opener_of (word_at line)) None
head_word true text line e = ap opener_of e
head_word false text line e = refl

head_case : (first : Bool) (b : ℕ) (bs : List ℕ) → ends_in_newline (b ∷ bs) ≡ true → ((more : List ℕ) → (is_white true b || continues_after b (bs ++ more)) ≡ false) → is_blank_kind (run start (b ∷ bs)).kind ≡ false → Header first (b ∷ bs)
head_case first b bs h stops some =
    inr (inr (some, λ more. ap (λ t. opener_of (word_at t)) (head_stops first b (bs ++ more) (stops more)) ∙ head_word first (b ∷ (bs ++ more)) (b ∷ bs) (word_of_line (b ∷ bs) more h)))

some_byte : (d : ℕ) (b : ℕ) → is_white true b ≡ false → (b == 92) ≡ false → is_blank_kind (outside d Blank b).kind ≡ false
some_byte d b w n92 = grind (arith, nat_tests)

not_continued : (b : ℕ) (bs : List ℕ) → is_white true b ≡ false → (b == 92) ≡ false → (is_white true b || continues_after b bs) ≡ false
not_continued b bs w n92 = rw (w, n92) refl

other_case : (first : Bool) (b : ℕ) (bs : List ℕ) → ends_in_newline (b ∷ bs) ≡ true → is_physical_line (b ∷ bs) ≡ true → is_white true b ≡ false → (b == 92) ≡ false → Header first (b ∷ bs)
other_case first b bs h p w n92 =
    head_case first b bs h (λ more. not_continued b (bs ++ more) w n92) (run_kind bs (next start b) (line_quiet b bs start p) (some_byte 0 b w n92))

-- a backslash
backslash_kind : (c : ℕ) → (c == 10) ≡ false → (c == 13) ≡ false → is_blank_kind (next (at Backslash 0 Blank) c).kind ≡ false
backslash_kind c n10 n13 =
    let e : next (at Backslash 0 Blank) c ≡ outside 0 Statement c = rw (n10, n13) refl in
    ap (λ s. is_blank_kind s.kind) e ∙ kept_kind Plain 0 Statement c refl refl

return_kind : (c : ℕ) → (c == 10) ≡ false → is_blank_kind (next (at BackslashReturn 0 Blank) c).kind ≡ false
return_kind c n10 =
    let e : next (at BackslashReturn 0 Blank) c ≡ outside 0 Statement c = rw n10 refl in
    ap (λ s. is_blank_kind s.kind) e ∙ kept_kind Plain 0 Statement c refl refl

return_stops : (d : ℕ) (ds : List ℕ) → (d == 10) ≡ false → (is_white true 92 || continues_after 92 (13 ∷ d ∷ ds)) ≡ false
return_stops d ds n10 = rw n10 refl

return_case : (first : Bool) (bs : List ℕ) → ends_in_newline (92 ∷ 13 ∷ bs) ≡ true → is_physical_line bs ≡ true → Header first (92 ∷ 13 ∷ bs)
return_case first [] h p = absurd (false≢true h)
return_case first (d ∷ []) h p = subst (λ x. Header first (92 ∷ 13 ∷ x ∷ [])) (sym (eqb-true d 10 h)) (inr (inl (refl, λ more. refl)))
return_case first (d ∷ e ∷ es) h p =
    let n10 = not-true (d == 10) (and_parts (not (d == 10)) (is_physical_line (e ∷ es)) p).0 in
    head_case first 92 (13 ∷ d ∷ e ∷ es) h (λ more. return_stops d (e ∷ (es ++ more)) n10)
    (run_kind (e ∷ es) (next (at BackslashReturn 0 Blank) d) (line_quiet d (e ∷ es) (at BackslashReturn 0 Blank) p) (return_kind d n10))

backslash_stops : (c d : ℕ) (ds : List ℕ) → (c == 10) ≡ false → (c == 13) ≡ false → (is_white true 92 || continues_after 92 (c ∷ d ∷ ds)) ≡ false
backslash_stops c d ds n10 n13 = rw (n10, n13) refl

backslash_case : (first : Bool) (bs : List ℕ) → ends_in_newline (92 ∷ bs) ≡ true → is_physical_line bs ≡ true → Header first (92 ∷ bs)
backslash_case first [] h p = absurd (false≢true h)
backslash_case first (c ∷ []) h p = subst (λ x. Header first (92 ∷ x ∷ [])) (sym (eqb-true c 10 h)) (inr (inl (refl, λ more. refl)))
backslash_case first (c ∷ d ∷ ds) h p =
    let parts = and_parts (not (c == 10)) (is_physical_line (d ∷ ds)) p in
    let n10 = not-true (c == 10) parts.0 in
    by_byte (λ x. is_physical_line (x ∷ d ∷ ds) ≡ true → Header first (92 ∷ x ∷ d ∷ ds)) 13 c (λ p. return_case first (d ∷ ds) h parts.1) (λ n13 p.
    head_case first 92 (c ∷ d ∷ ds) h (λ more. backslash_stops c d (ds ++ more) n10 n13)
    (run_kind (d ∷ ds) (next (at Backslash 0 Blank) c) (line_quiet c (d ∷ ds) (at Backslash 0 Blank) p) (backslash_kind c n10 n13))) p

pub header : (first : Bool) (line : List ℕ) → ends_in_newline line ≡ true → is_physical_line line ≡ true → Header first line
header first [] h p = absurd (false≢true h)
header first (b ∷ []) h p = subst (λ x. Header first (x ∷ [])) (sym (eqb-true b 10 h)) (inl (refl, refl))
header first (b ∷ c ∷ cs) h p =
    let parts = and_parts (not (b == 10)) (is_physical_line (c ∷ cs)) p in
    let n10 = not-true (b == 10) parts.0 in
    let rest = header false (c ∷ cs) h parts.1 in
    let P : ℕ → Type 0 = λ x. ends_in_newline (x ∷ c ∷ cs) ≡ true → is_physical_line (x ∷ c ∷ cs) ≡ true → Header first (x ∷ c ∷ cs) in
    by_byte P 32 b (λ h p. white_case first 32 (c ∷ cs) refl refl refl refl rest) (λ n32.
    by_byte P 9 b (λ h p. white_case first 9 (c ∷ cs) refl refl refl refl rest) (λ n9.
    by_byte P 13 b (λ h p. white_case first 13 (c ∷ cs) refl refl refl refl rest) (λ n13.
    by_byte P 92 b (λ h p. backslash_case first (c ∷ cs) h parts.1) (λ n92.
    λ h p. other_case first b (c ∷ cs) h p (rw (n32, n9, n13, n10) refl) n92)))) h p
