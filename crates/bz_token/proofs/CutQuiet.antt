-- Bytes that leave the walk where it is.
use Rattle.std.proofs.Common.{◌≡◌, ℕ, ◌+◌, ◌<◌, ◌==◌, ◌||◌, ◌&&◌, List, [], ◌∷◌, ◌++◌, Bool, true, false, not, cond, take, drop, length, get_or, refl, sym, ap, ◌∙◌, arith, drop-drop, drop-cons, suc, zero, true≢false, inl, inr, length-drop, ◌⊎◌}
use Rattle.std.specs.Prelude.{if◌then◌else◌}
use Rattle.std.specs.List.{prefix_len}
use Rattle.std.proofs.lemmas.Bool.{and_parts, not-true, cases_Bool, eqb-true}
use Rattle.std.proofs.lemmas.List.{take-append-drop, take_more, get_or-drop}
use Rattle.bz_token.specs.Common.{is_newline}
use Rattle.bz_token.specs.declared.cutter.scan.LineKind.{LineKind}
use Rattle.bz_token.specs.declared.cutter.scan.LineKind.TheVariants.{Statement}
use Rattle.bz_token.specs.declared.cutter.scan.Quote.{Quote}
use Rattle.bz_token.specs.declared.cutter.scan.Quote.TheVariants.{Double}
use Rattle.bz_token.specs.declared.cutter.scan.CutState.{CutState}
use Rattle.bz_token.specs.declared.cutter.scan.CutState.TheVariants.{Plain, Comment, Opened, OpenedTwice, Short, Long, LongQuote}
use Rattle.bz_token.specs.declared.cutter.scan.Scan.{Scan}
use Rattle.bz_token.specs.private.Scans.{is_plain}
use Rattle.bz_token.specs.declared.cutter.marks.Stretch.{Stretch}
use Rattle.bz_token.specs.declared.cutter.marks.Stretch.TheVariants.{Text}
use Rattle.bz_token.specs.private.Marks.{passes}
use Rattle.bz_token.specs.private.CutSteps.{byte_of, at, outside, in_short, in_long, next, run, IsSame}
use Rattle.bz_token.proofs.CutMachine.{run_append}

-- a run of bytes of which each leaves the walk as it is
run_same : (s : Scan) (p : ℕ → Bool) → ((b : ℕ) → p b ≡ true → next s b ≡ s) → (bs : List ℕ) → run s (take (prefix_len p bs) bs) ≡ s
run_same s p same [] = refl
run_same s p same (b ∷ bs) = by (p b) refl (run_same s p same bs)
  where
    by : (t : Bool) → p b ≡ t → run s (take (prefix_len p bs) bs) ≡ s → run s (take (cond t (1 + prefix_len p bs) 0) (b ∷ bs)) ≡ s
    by true e rest =
        let one : 1 + prefix_len p bs ≡ suc (prefix_len p bs) = omega arith in
        ap (λ n. run s (take n (b ∷ bs))) one ∙ ap (λ t. run t (take (prefix_len p bs) bs)) (same b e) ∙ rest
    by false e rest = refl

-- the branch of a test that fails, and a test of which both branches are the same
past : (t : Bool) (s u v : Scan) → t ≡ false → v ≡ s → (if t then u else v) ≡ s
past true s u v e h = absurd (true≢false e)
past false s u v e h = h

both_same : (t : Bool) (s u v : Scan) → u ≡ s → v ≡ s → (if t then u else v) ≡ s
both_same true s u v h k = h
both_same false s u v h k = k

-- what a quiet byte is not
record Quiet (b : ℕ) : Type 0 where
  newline : (b == 10) ≡ false
  hash : (b == 35) ≡ false
  backslash : (b == 92) ≡ false
  double : (b == 34) ≡ false
  single : (b == 39) ≡ false
  opening : (b == 40 || b == 91 || b == 123) ≡ false
  closing : (b == 41 || b == 93 || b == 125) ≡ false

no_mark : (b n : ℕ) → passes Stretch.Statement b ≡ true → passes Stretch.Statement n ≡ false → (b == n) ≡ false
no_mark b n pass mark = elim (cases_Bool (b == n)) [ inl e ↦ absurd (true≢false (sym pass ∙ ap (passes Stretch.Statement) (eqb-true b n e) ∙ mark)) | inr e ↦ e ]

quiet : (b : ℕ) → passes Stretch.Statement b ≡ true → Quiet b
quiet b h = record {
  newline = no_mark b 10 h refl;
  hash = no_mark b 35 h refl;
  backslash = no_mark b 92 h refl;
  double = no_mark b 34 h refl;
  single = no_mark b 39 h refl;
  opening = rw (no_mark b 40 h refl, no_mark b 91 h refl, no_mark b 123 h refl) refl;
  closing = rw (no_mark b 41 h refl, no_mark b 93 h refl, no_mark b 125 h refl) refl;
}

quiet_same : (d b : ℕ) → passes Stretch.Statement b ≡ true → outside d Statement b ≡ at Plain d Statement
quiet_same d b h =
    let s : Scan = at Plain d Statement in
    let no = quiet b h in
    past (b == 10) s _ _ no.newline
    (both_same (b == 32 || b == 9 || b == 13) s _ _ refl
    (past (b == 35) s _ _ no.hash
    (past (b == 92) s _ _ no.backslash
    (past (b == 34) s _ _ no.double
    (past (b == 39) s _ _ no.single
    (past (b == 40 || b == 91 || b == 123) s _ _ no.opening
    (past (b == 41 || b == 93 || b == 125) s _ _ no.closing refl)))))))

short_same : (q : Quote) (d : ℕ) (k : LineKind) (b : ℕ) → is_plain (byte_of q) b ≡ true → in_short q d k b ≡ at (Short q) d k
short_same q d k b h =
    let s : Scan = at (Short q) d k in
    let backslash = and_parts (not (b == byte_of q) && not (b == 10)) (not (b == 92)) h in
    let quoted = and_parts (not (b == byte_of q)) (not (b == 10)) backslash.0 in
    past (b == byte_of q) s _ _ (not-true _ quoted.0) (past (b == 10) s _ _ (not-true _ quoted.1) (past (b == 92) s _ _ (not-true _ backslash.1) refl))

long_same : (q : Quote) (d : ℕ) (k : LineKind) (b : ℕ) → is_plain (byte_of q) b ≡ true → in_long (LongQuote q) q d k b ≡ at (Long q) d k
long_same q d k b h =
    let s : Scan = at (Long q) d k in
    let backslash = and_parts (not (b == byte_of q) && not (b == 10)) (not (b == 92)) h in
    let quoted = and_parts (not (b == byte_of q)) (not (b == 10)) backslash.0 in
    past (b == byte_of q) s _ _ (not-true _ quoted.0) (past (b == 92) s _ _ (not-true _ backslash.1) refl)

comment_same : (d : ℕ) (k : LineKind) (b : ℕ) → not (is_newline b) ≡ true → next (at Comment d k) b ≡ at Comment d k
comment_same d k b h = past (b == 10) (at Comment d k) _ _ (not-true _ h) refl

-- some bytes that change nothing
same_taken : (s : Scan) (bytes : List ℕ) (i n : ℕ) → run s (take n (drop i bytes)) ≡ s → IsSame s bytes i (i + n)
same_taken s bytes i n same =
    ap (run s) (sym (take-append-drop n (drop i bytes))) ∙ run_append (take n (drop i bytes)) (drop n (drop i bytes)) s
    ∙ ap (λ u. run u (drop n (drop i bytes))) same ∙ ap (run s) (drop-drop n i bytes)

-- quiet bytes of a statement, outside strings
pub statement_run : (d : ℕ) (bytes : List ℕ) (i : ℕ) → IsSame (at Plain d Statement) bytes i (i + prefix_len (passes Stretch.Statement) (drop i bytes))
statement_run d bytes i =
    let s : Scan = at Plain d Statement in
    same_taken s bytes i (prefix_len (passes Stretch.Statement) (drop i bytes)) (run_same s (passes Stretch.Statement) (quiet_same d) (drop i bytes))

-- in a string and in a comment
short_run : (s : Scan) (q : Quote) (bs : List ℕ) → s.inside ≡ Short q → run s (take (prefix_len (is_plain (byte_of q)) bs) bs) ≡ s
short_run s q bs e = by s.inside s.depth s.kind e
  where
    by : (i : CutState) (d : ℕ) (k : LineKind) → i ≡ Short q → run (at i d k) (take (prefix_len (is_plain (byte_of q)) bs) bs) ≡ at i d k
    by i d k e = rw e (run_same (at (Short q) d k) (is_plain (byte_of q)) (short_same q d k) bs)

long_run : (s : Scan) (q : Quote) (bs : List ℕ) → s.inside ≡ Long q → run s (take (prefix_len (is_plain (byte_of q)) bs) bs) ≡ s
long_run s q bs e = by s.inside s.depth s.kind e
  where
    by : (i : CutState) (d : ℕ) (k : LineKind) → i ≡ Long q → run (at i d k) (take (prefix_len (is_plain (byte_of q)) bs) bs) ≡ at i d k
    by i d k e = rw e (run_same (at (Long q) d k) (is_plain (byte_of q)) (long_same q d k) bs)

comment_run : (s : Scan) (bs : List ℕ) → s.inside ≡ Comment → run s (take (prefix_len (λ b. not (is_newline b)) bs) bs) ≡ s
comment_run s bs e = by s.inside s.depth s.kind e
  where
    by : (i : CutState) (d : ℕ) (k : LineKind) → i ≡ Comment → run (at i d k) (take (prefix_len (λ b. not (is_newline b)) bs) bs) ≡ at i d k
    by i d k e = rw e (run_same (at Comment d k) (λ b. not (is_newline b)) (comment_same d k) bs)

pub text_same_to : (s : Scan) (q : Quote) (bytes : List ℕ) (i : ℕ) → (s.inside ≡ Short q) ⊎ (s.inside ≡ Long q) → IsSame s bytes i (i + prefix_len (is_plain (byte_of q)) (drop i bytes))
text_same_to s q bytes i e =
    same_taken s bytes i (prefix_len (is_plain (byte_of q)) (drop i bytes)) (elim e [ inl short ↦ short_run s q (drop i bytes) short | inr long ↦ long_run s q (drop i bytes) long ])

pub comment_same_to : (s : Scan) (bytes : List ℕ) (i : ℕ) → s.inside ≡ Comment → IsSame s bytes i (i + prefix_len (λ b. not (is_newline b)) (drop i bytes))
comment_same_to s bytes i e = same_taken s bytes i (prefix_len (λ b. not (is_newline b)) (drop i bytes)) (comment_run s (drop i bytes) e)

-- a byte that passes after an opening quote is one of a short string
opened_short : (d : ℕ) (bytes more : List ℕ) (len : ℕ) → 0 < len → len ≡ prefix_len (is_plain 34) bytes
    → run (at (Opened Double) d Statement) (take len bytes ++ more) ≡ run (at (Short Double) d Statement) (take len bytes ++ more)
opened_short d [] more len some is = absurd (omega (arith, is))
opened_short d (b ∷ bytes) more zero some is = absurd (omega arith)
opened_short d (b ∷ bytes) more (suc len) some is = by (is_plain 34 b) refl is
  where
    by : (t : Bool) → is_plain 34 b ≡ t → suc len ≡ cond t (1 + prefix_len (is_plain 34) bytes) 0
        → run (at (Opened Double) d Statement) (b ∷ (take len bytes ++ more)) ≡ run (at (Short Double) d Statement) (b ∷ (take len bytes ++ more))
    by true plain e =
        let other : (b == 34) ≡ false = not-true _ (and_parts (not (b == 34)) (not (b == 10)) (and_parts (not (b == 34) && not (b == 10)) (not (b == 92)) plain).0).0 in
        ap (λ t. run t (take len bytes ++ more)) (past (b == 34) (in_short Double d Statement b) (at (OpenedTwice Double) d Statement) _ other refl)
    by false plain e = absurd (omega (arith, e))

-- a short string in double quotes changes nothing in a statement
string_run : (d : ℕ) (inside : List ℕ) (len : ℕ) → 0 < len → len < length inside → len ≡ prefix_len (is_plain 34) inside → get_or inside len 0 ≡ 34
    → run (at Plain d Statement) (take (len + 2) (34 ∷ inside)) ≡ at Plain d Statement
string_run d inside len some within is quote =
    let all : take (len + 2) (34 ∷ inside) ≡ 34 ∷ (take len inside ++ 34 ∷ []) =
    (let n : len + 2 ≡ suc (len + 1) = omega arith in ap (λ k. take k (34 ∷ inside)) n) ∙ ap (λ l. 34 ∷ l) (take_more inside len 0 within ∙ ap (λ b. take len inside ++ b ∷ []) quote) in
    let short : run (at (Short Double) d Statement) (take len inside) ≡ at (Short Double) d Statement =
    ap (λ n. run (at (Short Double) d Statement) (take n inside)) is ∙ short_run (at (Short Double) d Statement) Double inside refl in
    ap (run (at Plain d Statement)) all ∙ opened_short d inside (34 ∷ []) len some is ∙ run_append (take len inside) (34 ∷ []) (at (Short Double) d Statement)
    ∙ ap (λ t. run t (34 ∷ [])) short

string_here : (d : ℕ) (bytes : List ℕ) (len : ℕ) → get_or bytes 0 0 ≡ 34 → (len ≡ 0 → ⊥) → len < length (drop 1 bytes) → len ≡ prefix_len (is_plain 34) (drop 1 bytes)
    → get_or (drop 1 bytes) len 0 ≡ 34 → run (at Plain d Statement) (take (len + 2) bytes) ≡ at Plain d Statement
string_here d [] len opens some within is quote = absurd (omega arith)
string_here d (b ∷ inside) len opens some within is quote =
    ap (λ q. run (at Plain d Statement) (take (len + 2) (q ∷ inside))) opens ∙ string_run d inside len (omega (arith, some)) within is quote

-- a byte that passes in a string in double quotes
text_plain : (bs : List ℕ) → prefix_len (passes Text) bs ≡ prefix_len (is_plain 34) bs
text_plain [] = refl
text_plain (b ∷ bs) = rw (by (b == 34) (b == 10) (b == 92), text_plain bs) refl
  where
    by : (x y z : Bool) → not (x || y || z) ≡ (not x && not y && not z)
    by true y z = refl
    by false true z = refl
    by false false true = refl
    by false false false = refl

pub string_same : (d : ℕ) (bytes : List ℕ) (i end : ℕ) → get_or bytes i 0 ≡ 34 → end ≡ i + 1 + prefix_len (passes Text) (drop (i + 1) bytes) → (end ≡ i + 1 → ⊥)
    → end < length bytes → get_or bytes end 0 ≡ 34 → IsSame (at Plain d Statement) bytes i (end + 1)
string_same d bytes i end opens is some within quote =
    let s : Scan = at Plain d Statement in
    let len = prefix_len (passes Text) (drop (i + 1) bytes) in
    let inside : drop 1 (drop i bytes) ≡ drop (i + 1) bytes = drop-drop 1 i bytes in
    let first : get_or (drop i bytes) 0 0 ≡ 34 = get_or-drop i bytes 0 0 ∙ ap (λ n. get_or bytes n 0) (omega arith) ∙ opens in
    let plain : len ≡ prefix_len (is_plain 34) (drop 1 (drop i bytes)) = text_plain (drop (i + 1) bytes) ∙ ap (prefix_len (is_plain 34)) (sym inside) in
    let fits : len < length (drop 1 (drop i bytes)) = omega (arith, is, within, ap length inside, length-drop (i + 1) bytes) in
    let last : get_or (drop 1 (drop i bytes)) len 0 ≡ 34 =
    ap (λ xs. get_or xs len 0) inside ∙ get_or-drop (i + 1) bytes len 0 ∙ ap (λ n. get_or bytes n 0) (omega (arith, is)) ∙ quote in
    let whole : run s (take (len + 2) (drop i bytes)) ≡ s = string_here d (drop i bytes) len first (λ none. some (omega (arith, is, none))) fits plain last in
    let past_it : i + (len + 2) ≡ end + 1 = omega (arith, is) in
    same_taken s bytes i (len + 2) whole ∙ ap (λ n. run s (drop n bytes)) past_it

-- one byte more
pub read_step : (s t : Scan) (bytes : List ℕ) (i : ℕ) → i < length bytes → t ≡ next s (get_or bytes i 0) → run t (drop (i + 1) bytes) ≡ run s (drop i bytes)
read_step s t bytes i within stepped =
    let more : suc i ≡ i + 1 = omega arith in
    let one : drop i bytes ≡ get_or bytes i 0 ∷ drop (i + 1) bytes = drop-cons bytes i 0 within ∙ ap (λ n. get_or bytes i 0 ∷ drop n bytes) more in
    ap (λ u. run u (drop (i + 1) bytes)) stepped ∙ sym (ap (run s) one)
