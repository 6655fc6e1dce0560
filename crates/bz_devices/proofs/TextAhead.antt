-- The front of the bytes ahead that is known to be text.
use Rattle.std.proofs.Common.{length-append, ◌≡◌, ℕ, zero, suc, ◌+◌, ◌-◌, ◌≤◌, ◌<◌, List, ◌++◌, length, take, drop, take-append-drop, sym, ◌∙◌, ap, subst, arith}
use Rattle.std.specs.Prelude.{IsUtf8}
use Rattle.std.proofs.lemmas.List.{take-take, drop-take, drop-drop, drop-append-le, take-append-le, length-drop, length-take-le}
use Rattle.std.proofs.lemmas.Str.{IsUtf8-append, IsUtf8-nil}

-- the bytes after it were checked
pub text_grows : (bytes : List ℕ) (k m : ℕ) → IsUtf8 (take k bytes) → IsUtf8 (take m (drop k bytes)) → IsUtf8 (take (k + m) bytes)
text_grows bytes k m front more =
    let all : take k bytes ++ take m (drop k bytes) ≡ take (k + m) bytes =
    ap (λ l. l ++ take m (drop k bytes)) (sym (take-take k (k + m) bytes (omega arith)))
    ∙ ap (λ l. take k (take (k + m) bytes) ++ l) (sym (drop-take k m bytes)) ∙ take-append-drop k (take (k + m) bytes) in
    subst IsUtf8 all (IsUtf8-append (take k bytes) (take m (drop k bytes)) front more)

-- more was read
pub text_stays : (items piece : List ℕ) (start k : ℕ) → start + k ≤ length items → IsUtf8 (take k (drop start items)) → IsUtf8 (take k (drop start (items ++ piece)))
text_stays items piece start k within text =
    let left : length (drop start items) ≡ length items - start = length-drop start items in
    subst (λ l. IsUtf8 (take k l)) (sym (drop-append-le start items piece (omega arith)))
    (subst IsUtf8 (sym (take-append-le k (drop start items) piece (omega arith))) text)

pub text_grown : (items piece all : List ℕ) (start k : ℕ) → all ≡ items ++ piece → (start + k ≤ length items) × IsUtf8 (take k (drop start items)) → (start + k ≤ length all) × IsUtf8 (take k (drop start all))
text_grown items piece all start k e h =
    let longer : length all ≡ length items + length piece = ap length e ∙ length-append items piece in
    let within : start + k ≤ length items = h.0 in
    (omega (arith, within, longer), subst (λ l. IsUtf8 (take k (drop start l))) (sym e) (text_stays items piece start k within h.1))

-- the first n bytes are taken, and m bytes of the text are left
left_after : (bytes : List ℕ) (k n m : ℕ) → k ≤ length bytes → (0 < m → n + m ≤ k) → IsUtf8 (take m (drop n (take k bytes))) → IsUtf8 (take m (drop n bytes))
left_after bytes k n zero within left text = IsUtf8-nil
left_after bytes k n (suc m) within left text =
    let front = take k bytes in
    let fits : n + suc m ≤ k = left (omega arith) in
    let size : length front ≡ k = length-take-le k bytes within in
    let rest : length (drop n front) ≡ length front - n = length-drop n front in
    let there : drop n bytes ≡ drop n front ++ drop k bytes =
    ap (drop n) (sym (take-append-drop k bytes)) ∙ drop-append-le n front (drop k bytes) (omega arith) in
    subst (λ l. IsUtf8 (take (suc m) l)) (sym there) (subst IsUtf8 (sym (take-append-le (suc m) (drop n front) (drop k bytes) (omega arith))) text)

pub text_left : (items : List ℕ) (start k n m : ℕ) → k ≤ length (drop start items) → (0 < m → n + m ≤ k)
    → IsUtf8 (take m (drop n (take k (drop start items)))) → IsUtf8 (take m (drop (start + n) items))
text_left items start k n m within left text =
    subst (λ l. IsUtf8 (take m l)) (drop-drop n start items) (left_after (drop start items) k n m within left text)

pub grown_within : (items : List ℕ) (start k m : ℕ) → start + k ≤ length items → m ≤ length (drop k (drop start items)) → start + (k + m) ≤ length items
grown_within items start k m within more =
    let first : length (drop start items) ≡ length items - start = length-drop start items in
    let size : length (drop k (drop start items)) ≡ length (drop start items) - k = length-drop k (drop start items) in
    omega arith

pub left_within : (items : List ℕ) (start k n m : ℕ) → start ≤ length items → k ≤ length (drop start items) → n ≤ length (drop start items) → (0 < m → n + m ≤ k)
    → start + n + m ≤ length items
left_within items start k n zero from within few left =
    let size : length (drop start items) ≡ length items - start = length-drop start items in
    omega arith
left_within items start k n (suc m) from within few left =
    let size : length (drop start items) ≡ length items - start = length-drop start items in
    let fits : n + suc m ≤ k = left (omega arith) in
    omega arith

pub taken_fits : (bytes text : List ℕ) (k n m : ℕ) → k ≤ length bytes → text ≡ take k bytes → (0 < m → n + m ≤ length text) → 0 < m → n + m ≤ k
taken_fits bytes text k n m within is fits some =
    let size : length text ≡ k = ap length is ∙ length-take-le k bytes within in
    let all : n + m ≤ length text = fits some in
    omega arith

-- the bytes that were not taken begin before they end
pub start_within : (items : List ℕ) (start k end : ℕ) → start + k ≤ length (take end items) → end ≤ length items → start ≤ end
start_within items start k end within fits =
    let size : length (take end items) ≡ end = length-take-le end items fits in
    omega (arith, within, size)
