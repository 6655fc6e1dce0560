-- The place of a token, as the number of bytes before it.
use Rattle.std.proofs.Common.{◌≡◌, ℕ, ◌+◌, ◌-◌, ◌<◌, ◌≤◌, ◌==◌, List, [], ◌∷◌, ◌++◌, length, take, drop, get_or, count_by, Bool, true, false, ◌&&◌, cond, eqb, refl, sym, ap, subst, ◌∙◌, arith, append_assoc, length-append, append-nil}
use Rattle.std.proofs.lemmas.Bool.Decides.{nat_tests}
use Rattle.std.proofs.lemmas.List.{drop_at, take_at}
use Rattle.std.proofs.lemmas.List.Recursion.{is_count_by}
use Rattle.std.proofs.Math.Seq.{get_or-append_seam}
use Rattle.std.specs.Str.{IsCharBoundary}
use Rattle.std.proofs.lemmas.Str.{IsCharBoundary-end, IsCharBoundary-before_ascii}
use Rattle.bz_token.specs.Places.{Placed, column_from}
use Rattle.bz_tree.specs.Blocks.{IsAt, IsKeptText}
use Rattle.bz_tree.specs.private.BlockSteps.{offset_run, IsAsciiFront, AreIn}

pub offset_here : (line col : ℕ) (bs : List ℕ) → offset_run line col line col bs ≡ 0
offset_here line col [] = refl
offset_here line col (b ∷ bs) = grind (arith, nat_tests)

-- how many newlines stand in these bytes
abbrev pub newlines : List ℕ → ℕ
newlines [] = 0
newlines (b ∷ bs) = cond (b == 10) (1 + newlines bs) (newlines bs)

pub newlines_are : (bs : List ℕ) → newlines bs ≡ count_by (λ b. b == 10) bs
newlines_are bs = is_count_by newlines (λ b. b == 10) refl (λ b bs. refl) bs

-- without a newline the column grows
grows_at : (n : Bool) (bs : List ℕ) (c : ℕ) → ((k : ℕ) → newlines bs ≡ 0 → k ≤ column_from k bs) → cond n (1 + newlines bs) (newlines bs) ≡ 0 → c ≤ column_from (cond n 1 (c + 1)) bs
grows_at true bs c more none = absurd (omega (arith, none))
grows_at false bs c more none = let h = more (c + 1) none in omega (arith, h)

grows : (bs : List ℕ) (c : ℕ) → newlines bs ≡ 0 → c ≤ column_from c bs
grows [] c none = omega arith
grows (b ∷ bs) c none = grows_at (b == 10) bs c (λ k e. grows bs k e) none

apart : (l m c d : ℕ) → (l ≡ m → c < d) → (l == m && c == d) ≡ false
apart l m c d before = at_line (eqb l m) refl
  where
    at_line : (e : Bool) → eqb l m ≡ e → (e && eqb c d) ≡ false
    at_line false is = refl
    at_line true is = let same : l ≡ m = grind (arith, nat_tests, is) in let h = before same in grind (arith, nat_tests)

step_at : (m d l c b : ℕ) (rest : List ℕ) (n : Bool) (k : ℕ) → (b == 10) ≡ n → (l == m && c == d) ≡ false → offset_run m d (cond n (l + 1) l) (cond n 1 (c + 1)) rest ≡ k → offset_run m d l c (b ∷ rest) ≡ k + 1
step_at m d l c b rest n k is other more = rw (other, is) (ap (λ j. j + 1) more)

found_at : (n : Bool) (b : ℕ) (bs after : List ℕ) → (b == 10) ≡ n → ((l c m d : ℕ) → m ≡ l + newlines bs → d ≡ column_from c bs → offset_run m d l c (bs ++ after) ≡ length bs)
    → (l c m d : ℕ) → m ≡ l + cond n (1 + newlines bs) (newlines bs) → d ≡ column_from (cond n 1 (c + 1)) bs → offset_run m d l c (b ∷ (bs ++ after)) ≡ length bs + 1
found_at true b bs after is more l c m d em ed =
    step_at m d l c b (bs ++ after) true (length bs) is (apart l m c d (λ e. absurd (omega (arith, e, em)))) (more (l + 1) 1 m d (omega (arith, em)) ed)
found_at false b bs after is more l c m d em ed =
    step_at m d l c b (bs ++ after) false (length bs) is (apart l m c d (λ e. let h = grows bs (c + 1) (omega (arith, e, em)) in omega (arith, h, ed))) (more l (c + 1) m d em ed)

offset_before : (before after : List ℕ) (l c m d : ℕ) → m ≡ l + newlines before → d ≡ column_from c before → offset_run m d l c (before ++ after) ≡ length before
offset_before [] after l c m d em ed =
    let e : m ≡ l = omega (arith, em) in
    ap (λ k. offset_run k d l c after) e ∙ ap (λ k. offset_run l k l c after) ed ∙ offset_here l c after
offset_before (b ∷ bs) after l c m d em ed =
    let h : offset_run m d l c (b ∷ (bs ++ after)) ≡ length bs + 1 = found_at (b == 10) b bs after refl (λ l c m d em ed. offset_before bs after l c m d em ed) l c m d em ed in
    h ∙ (omega arith)

-- the offset of a token's place
pub place_offset : (first : ℕ) (bytes before rest : List ℕ) (t : Placed) → bytes ≡ before ++ rest → IsAt first before t → offset_run t.line t.col first 1 bytes ≡ length before
place_offset first bytes before rest t is here =
    ap (offset_run t.line t.col first 1) is ∙ offset_before before rest first 1 t.line t.col (sym here.line ∙ ap (λ n. first + n) (sym (newlines_are before))) (sym here.col)

-- a text may be cut before ASCII
pub cut : (bs xs ys : List ℕ) → bs ≡ xs ++ ys → IsAsciiFront ys → IsCharBoundary bs (length xs)
cut bs xs [] is ascii = subst (IsCharBoundary bs) (ap length (is ∙ append-nil xs)) (IsCharBoundary-end bs)
cut bs xs (y ∷ ys) is ascii =
    let here : get_or bs (length xs) 0 ≡ y = ap (λ zs. get_or zs (length xs) 0) is ∙ get_or-append_seam xs y ys 0 in
    let fits : length bs ≡ length xs + length (y ∷ ys) = ap length is ∙ length-append xs (y ∷ ys) in
    IsCharBoundary-before_ascii bs (length xs) (omega (arith, fits)) (omega (arith, here, ascii))

-- the middle of three parts
pub middle : (a k z : List ℕ) (begin end : ℕ) → begin ≡ length a → end ≡ length a + length k → take (end - begin) (drop begin (a ++ (k ++ z))) ≡ k
middle a k z begin end eb ee =
    let n : length k ≡ end - begin = omega (arith, eb, ee) in
    ap (take (end - begin)) (drop_at a (k ++ z) begin (sym eb)) ∙ take_at k z (end - begin) n

pub kept_is : (first : ℕ) (bytes : List ℕ) (header last : Placed) (a : AreIn first bytes header last) (kept : List ℕ) → kept ≡ a.front ++ last.text → IsKeptText first bytes header last kept
kept_is first bytes header last a kept is = record {
  before = a.before;
  front = a.front;
  after = a.after;
  kept_is = is;
  bytes_are = a.bytes_are ∙ ap (λ k. a.before ++ (k ++ a.after)) (sym is);
  begins = a.begins;
  ends = a.ends;
}

-- the bytes, cut before the last token, and after it
pub before_last : (first : ℕ) (bytes : List ℕ) (header last : Placed) (a : AreIn first bytes header last) → bytes ≡ (a.before ++ a.front) ++ (last.text ++ a.after)
before_last first bytes header last a = a.bytes_are ∙ simp append_assoc

pub after_last : (first : ℕ) (bytes : List ℕ) (header last : Placed) (a : AreIn first bytes header last) → bytes ≡ ((a.before ++ a.front) ++ last.text) ++ a.after
after_last first bytes header last a = a.bytes_are ∙ simp append_assoc

-- where the text of a block begins and ends
pub begin_is : (first : ℕ) (bytes : List ℕ) (header last : Placed) (a : AreIn first bytes header last) (begin : ℕ) → begin ≡ offset_run header.line header.col first 1 bytes → begin ≡ length a.before
begin_is first bytes header last a begin is = is ∙ place_offset first bytes a.before ((a.front ++ last.text) ++ a.after) header a.bytes_are a.begins

pub end_is : (first : ℕ) (bytes : List ℕ) (header last : Placed) (a : AreIn first bytes header last) (place : ℕ) → place ≡ offset_run last.line last.col first 1 bytes → place + length last.text ≡ length a.before + length (a.front ++ last.text)
end_is first bytes header last a place is =
    let at_last : place ≡ length (a.before ++ a.front) = is ∙ place_offset first bytes (a.before ++ a.front) (last.text ++ a.after) last (before_last first bytes header last a) a.ends in
    omega (arith, at_last, length-append a.before a.front, length-append a.front last.text)

pub end_within : (first : ℕ) (bytes : List ℕ) (header last : Placed) (a : AreIn first bytes header last) → length a.before + length (a.front ++ last.text) ≤ length bytes
end_within first bytes header last a =
    omega (arith, ap length a.bytes_are, length-append a.before ((a.front ++ last.text) ++ a.after), length-append (a.front ++ last.text) a.after)

pub begin_cut : (first : ℕ) (bytes : List ℕ) (header last : Placed) (a : AreIn first bytes header last) (begin : ℕ) → begin ≡ length a.before → IsCharBoundary bytes begin
begin_cut first bytes header last a begin is = subst (IsCharBoundary bytes) (sym is) (cut bytes a.before ((a.front ++ last.text) ++ a.after) a.bytes_are a.at_front)

pub end_cut : (first : ℕ) (bytes : List ℕ) (header last : Placed) (a : AreIn first bytes header last) (end : ℕ) → end ≡ length a.before + length (a.front ++ last.text) → IsCharBoundary bytes end
end_cut first bytes header last a end is =
    let n : length ((a.before ++ a.front) ++ last.text) ≡ end = omega (arith, is, length-append (a.before ++ a.front) last.text, length-append a.before a.front, length-append a.front last.text) in
    subst (IsCharBoundary bytes) n (cut bytes ((a.before ++ a.front) ++ last.text) a.after (after_last first bytes header last a) a.at_end)

pub kept_between : (first : ℕ) (bytes : List ℕ) (header last : Placed) (a : AreIn first bytes header last) (begin end : ℕ) → begin ≡ length a.before → end ≡ length a.before + length (a.front ++ last.text)
    → (kept : List ℕ) → kept ≡ take (end - begin) (drop begin bytes) → IsKeptText first bytes header last kept
kept_between first bytes header last a begin end eb ee kept is =
    kept_is first bytes header last a kept (is ∙ ap (λ bs. take (end - begin) (drop begin bs)) a.bytes_are ∙ middle a.before (a.front ++ last.text) a.after begin end eb ee)
