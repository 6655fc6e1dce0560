-- Bytes of pieces, and indents.
use Rattle.std.proofs.Common.{◌≡◌, codes, ℕ, zero, suc, ◌+◌, ◌*◌, ◌≤◌, List, [], ◌∷◌, ◌++◌, length, set, take, refl, ap, ◌∙◌, arith, append_assoc}
use Rattle.std.proofs.Math.Seq.{take-append-add}
use Rattle.std.proofs.lemmas.List.{set-append_right}
use Rattle.bz_layout.specs.Pieces.{Piece, bytes_of, indent}

pub bytes_append : (ps qs : List Piece) → bytes_of (ps ++ qs) ≡ bytes_of ps ++ bytes_of qs
bytes_append [] qs = refl
bytes_append (p ∷ ps) qs = rw (bytes_append ps qs) (simp append_assoc)

-- a newline with a long indent, cut to a level
line_at : (level : ℕ) → level ≤ 4 → take (1 + 4 * level) (codes "\n                ") ≡ 10 ∷ indent level
line_at zero h = refl
line_at (suc zero) h = refl
line_at (suc (suc zero)) h = refl
line_at (suc (suc (suc zero))) h = refl
line_at (suc (suc (suc (suc zero)))) h = refl
line_at (suc (suc (suc (suc (suc n))))) h = absurd (omega (arith, h))

pub line_cut : (before all : List ℕ) (level : ℕ) → level ≤ 4 → all ≡ before ++ codes "\n                " → take (length before + 1 + 4 * level) all ≡ before ++ (10 ∷ indent level)
line_cut before all level h is =
    let k : length before + 1 + 4 * level ≡ length before + (1 + 4 * level) = omega arith in
    rw (is, k) (take-append-add before (codes "\n                ") (1 + 4 * level) ∙ ap (λ (t : List ℕ). before ++ t) (line_at level h))

-- a newline with the longest indent and two bytes more: the bytes after the indent of a level are put, and the others cut
abbrev room : List ℕ
room = codes "\n                  "

abbrev put_at : ℕ → ℕ → List ℕ → ℕ → List ℕ
put_at first second text byte = set (set text first byte) second 44

item_at : (level byte : ℕ) → level ≤ 4 → take (1 + 4 * level + 2) (put_at (1 + 4 * level) (1 + 4 * level + 1) room byte) ≡ 10 ∷ (indent level ++ byte ∷ 44 ∷ [])
item_at zero byte h = refl
item_at (suc zero) byte h = refl
item_at (suc (suc zero)) byte h = refl
item_at (suc (suc (suc zero))) byte h = refl
item_at (suc (suc (suc (suc zero)))) byte h = refl
item_at (suc (suc (suc (suc (suc n))))) byte h = absurd (omega (arith, h))

put_after : (before all : List ℕ) (at k byte : ℕ) → all ≡ before ++ room → at ≡ length before + k → put_at at (at + 1) all byte ≡ before ++ put_at k (k + 1) room byte
put_after before all at k byte is place =
    let len = length before in
    let first : set all at byte ≡ before ++ set room k byte =
    ap (λ (t : List ℕ). set t at byte) is ∙ (set-append_right before room len at byte refl (omega (arith, place)) ∙ ap (λ (n : ℕ). before ++ set room n byte) (omega (arith, place))) in
    ap (λ (t : List ℕ). set t (at + 1) 44) first
    ∙ (set-append_right before (set room k byte) len (at + 1) 44 refl (omega (arith, place)) ∙ ap (λ (n : ℕ). before ++ set (set room k byte) n 44) (omega (arith, place)))

pub item_cut : (before all : List ℕ) (at level byte : ℕ) → level ≤ 4 → all ≡ before ++ room → at ≡ length before + (1 + 4 * level) → take (at + 2) (put_at at (at + 1) all byte) ≡ before ++ (10 ∷ (indent level ++ byte ∷ 44 ∷ []))
item_cut before all at level byte h is place =
    let k = 1 + 4 * level in
    let end : at + 2 ≡ length before + (k + 2) = omega (arith, place) in
    ap (take (at + 2)) (put_after before all at k byte is place)
    ∙ (ap (λ (n : ℕ). take n (before ++ put_at k (k + 1) room byte)) end
    ∙ (take-append-add before (put_at k (k + 1) room byte) (k + 2) ∙ ap (λ (t : List ℕ). before ++ t) (item_at level byte h)))
