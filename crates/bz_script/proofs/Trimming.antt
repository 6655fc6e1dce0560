-- A part of a line without the spaces round it.
use Rattle.std.proofs.Common.{◌≡◌, ◌≢◌, ℕ, ◌+◌, ◌-◌, ◌<◌, ◌≤◌, ◌&&◌, ◌++◌, List, [], ◌∷◌, length, take, drop, get_or, Bool, false, Option, Some, None, refl, sym, ap, ◌∙◌, append_assoc, arith, inl, inr}
use Rattle.std.specs.Prelude.{IfSome}
use Rattle.std.specs.List.{list_all}
use Rattle.std.specs.Str.Pattern.{CutsPrefixes, CutsSuffixes, FindsCharPrefix, FindsCharSuffix, HasCharAt, IsFullyTrimmed, IsTrimEndMatches, IsTrimMatches}
use Rattle.std.proofs.lemmas.Bool.{cases_Bool, eqb-true}
use Rattle.std.proofs.lemmas.List.{take-append-drop, take-take, take_more, drop_all, length-take}
use Rattle.std.proofs.lemmas.Str.{encode_ascii, inside_one, length-encode, len_utf8_bounds}
use Rattle.std.proofs.lemmas.Str.Pattern.{drop_at_char}
use Rattle.bz_script.specs.CommandFiles.{is_space, front_trimmed, end_trimmed, trimmed}

front_cut : (s r ns : List ℕ) → CutsPrefixes (FindsCharPrefix 32) s ns r → front_trimmed s ≡ front_trimmed r
front_cut s r [] h = ap front_trimmed (sym h)
front_cut s r (n ∷ ns) h =
    let front : h.0 ≡ 32 ∷ drop n h.0 = drop_at_char 32 h.0 0 n h.2 (omega arith) in
    front_cut s h.0 ns h.1 ∙ ap front_trimmed front ∙ ap front_trimmed (sym h.3)

-- no space begins what is left
no_front : (r : List ℕ) (o : Option ℕ) → FindsCharPrefix 32 r o → IfSome o (λ n. n ≡ 0) → (rest : List ℕ) → r ≢ 32 ∷ rest
no_front r None found none rest e = found rest (e ∙ ap (λ (c : List ℕ). c ++ rest) (sym (encode_ascii 32 (omega arith))))
no_front r (Some n) found none rest e = absurd (omega (arith, found.ends))

front_kept : (r : List ℕ) → ((rest : List ℕ) → r ≢ 32 ∷ rest) → front_trimmed r ≡ r
front_kept [] h = refl
front_kept (b ∷ bs) h = elim (cases_Bool (is_space b)) [
  | inl is ↦ absurd (h bs (ap (λ (c : ℕ). c ∷ bs) (eqb-true b 32 is)))
  | inr other ↦ rw other refl
]

all_spaces : (xs : List ℕ) → list_all is_space (xs ++ 32 ∷ []) ≡ list_all is_space xs
all_spaces [] = refl
all_spaces (x ∷ xs) = ap (λ (b : Bool). is_space x && b) (all_spaces xs)

end_space : (xs : List ℕ) → end_trimmed (xs ++ 32 ∷ []) ≡ end_trimmed xs
end_space [] = refl
end_space (x ∷ xs) = rw (all_spaces xs, end_space xs) refl

end_cut : (s r ns : List ℕ) → CutsSuffixes (FindsCharSuffix 32) s ns r → end_trimmed s ≡ end_trimmed r
end_cut s r [] h = ap end_trimmed (sym h)
end_cut s r (n ∷ ns) h =
    let m : List ℕ = h.0 in
    let front : List ℕ = take (length m - n) m in
    let last : drop (length m - n) m ≡ 32 ∷ drop (length m) m = drop_at_char 32 m (length m - n) (length m) h.2.1 (omega arith) in
    let none : drop (length m) m ≡ [] = drop_all (length m) m (omega arith) in
    let whole : m ≡ front ++ 32 ∷ [] =
    sym (take-append-drop (length m - n) m) ∙ ap (λ (ys : List ℕ). front ++ ys) (last ∙ ap (λ (ys : List ℕ). 32 ∷ ys) none) in
    end_cut s m ns h.1 ∙ ap end_trimmed whole ∙ end_space front ∙ ap end_trimmed (sym h.3)

-- a byte stays where another than a space comes after it
before_other : (b : ℕ) (xs : List ℕ) → list_all is_space xs ≡ false → end_trimmed (b ∷ xs) ≡ b ∷ end_trimmed xs
before_other b xs h = elim (cases_Bool (is_space b)) [ inl is ↦ rw (is, h) refl | inr other ↦ rw other refl ]

-- no space ends what is left
end_kept : (s : List ℕ) → ((front : List ℕ) → s ≢ front ++ 32 ∷ []) → end_trimmed s ≡ s
end_kept [] h = refl
end_kept (b ∷ []) h = elim (cases_Bool (is_space b)) [
  | inl is ↦ absurd (h [] (ap (λ (c : ℕ). c ∷ []) (eqb-true b 32 is)))
  | inr other ↦ rw other refl
]
end_kept (b ∷ x ∷ xs) h =
    let more : end_trimmed (x ∷ xs) ≡ x ∷ xs = end_kept (x ∷ xs) (λ front e. h (b ∷ front) (ap (λ (ys : List ℕ). b ∷ ys) e)) in
    elim (cases_Bool (list_all is_space (x ∷ xs))) [
      | inl is ↦ let none : [] ≡ x ∷ xs = rw is at more in absurd (cc)
      | inr other ↦ before_other b (x ∷ xs) other ∙ ap (λ (ys : List ℕ). b ∷ ys) more
    ]

end_done : (r : List ℕ) (o : Option ℕ) → FindsCharSuffix 32 r o → IfSome o (λ n. n ≡ 0) → end_trimmed r ≡ r
end_done r None found none = end_kept r (λ front e. found front (e ∙ ap (λ (c : List ℕ). front ++ c) (sym (encode_ascii 32 (omega arith)))))
end_done r (Some n) found none = absurd (omega (arith, found.0))

end_is : (s r : List ℕ) → IsTrimEndMatches (FindsCharSuffix 32) s r → r ≡ end_trimmed s
end_is s r h = sym (end_cut s r h.0.0 h.0.1 ∙ end_done r h.1.0 h.1.1 h.1.2)

has_other : (front : List ℕ) (b : ℕ) (rest : List ℕ) → is_space b ≡ false → list_all is_space (front ++ b ∷ rest) ≡ false
has_other [] b rest h = rw h refl
has_other (x ∷ front) b rest h = elim (cases_Bool (is_space x)) [ inl is ↦ rw is (has_other front b rest h) | inr other ↦ rw other refl ]

-- what comes before another byte than a space, and that byte, stay
through_other : (front : List ℕ) (b : ℕ) (rest : List ℕ) → is_space b ≡ false → end_trimmed (front ++ b ∷ rest) ≡ front ++ b ∷ end_trimmed rest
through_other [] b rest h = rw h refl
through_other (x ∷ front) b rest h =
    before_other x (front ++ b ∷ rest) (has_other front b rest h) ∙ ap (λ (ys : List ℕ). x ∷ ys) (through_other front b rest h)

-- the last byte of a character other than a space is none
last_other : (m : List ℕ) (c w : ℕ) → ((rest : List ℕ) → m ≢ 32 ∷ rest) → HasCharAt c m 0 w → is_space (get_or m (w - 1) 0) ≡ false
last_other m c w h at = elim (cases_Bool (is_space (get_or m (w - 1) 0))) [
  | inl is ↦
      let space : get_or m (w - 1) 0 ≡ 32 = eqb-true _ 32 is in
      let inside : c ≡ get_or m (w - 1) 0 = inside_one c (drop w m) m (w - 1) at.split (omega (arith, at.ends, length-encode c, len_utf8_bounds c)) (omega (arith, space)) in
      let front : m ≡ c ∷ drop w m = drop_at_char c m 0 w at (omega (arith, space, inside)) in
      absurd (h (drop w m) (front ∙ ap (λ (b : ℕ). b ∷ drop w m) (inside ∙ space)))
  | inr other ↦ other
]

-- the text stays up to its first character, where that is no space
kept_first : (m r : List ℕ) (c w : ℕ) → ((rest : List ℕ) → m ≢ 32 ∷ rest) → HasCharAt c m 0 w → w ≤ length r → w ≤ length m → r ≡ take (length r) m
    → drop w r ≡ end_trimmed (drop w m) → r ≡ end_trimmed m
kept_first m r c w h at fits inside front tail =
    let b : ℕ = get_or m (w - 1) 0 in
    let before : List ℕ = take (w - 1) m in
    let some : (w - 1) + 1 ≡ w = omega (arith, at.ends, len_utf8_bounds c) in
    let cut : take w m ≡ before ++ b ∷ [] = ap (λ (n : ℕ). take n m) (sym some) ∙ take_more m (w - 1) 0 (omega (arith, some)) in
    let joined = λ (rest : List ℕ). ap (λ (ys : List ℕ). ys ++ rest) cut ∙ append_assoc before (b ∷ []) rest in
    let whole : m ≡ before ++ b ∷ drop w m = sym (take-append-drop w m) ∙ joined (drop w m) in
    let same : take w r ≡ take w m = ap (take w) front ∙ take-take w (length r) m fits in
    sym (take-append-drop w r) ∙ ap (λ (ys : List ℕ). ys ++ drop w r) same ∙ ap (λ (ys : List ℕ). take w m ++ ys) tail
    ∙ joined (end_trimmed (drop w m)) ∙ sym (through_other before b (drop w m) (last_other m c w h at)) ∙ ap end_trimmed (sym whole)

short_front : (r m : List ℕ) → r ≡ take (length r) m → length r ≤ length m
short_front r m h = let e : length r ≡ length (take (length r) m) = ap length h in omega (arith, e, length-take (length r) m)

trimmed_from : (m r : List ℕ) → length r ≤ length m → IsFullyTrimmed (FindsCharPrefix 32) m → r ≡ take (length r) m
    → (0 < length m → (c : ℕ) × (w : ℕ) × HasCharAt c m 0 w × (w ≤ length r) × IsTrimEndMatches (FindsCharSuffix 32) (drop w m) (drop w r)) → r ≡ end_trimmed m
trimmed_from [] [] short h front tail = refl
trimmed_from [] (x ∷ xs) short h front tail = absurd (omega (arith, short))
trimmed_from (x ∷ xs) r short h front tail =
    let t = tail (omega arith) in
    kept_first (x ∷ xs) r t.0 t.1 (no_front (x ∷ xs) h.0 h.1 h.2) t.2 t.3 (omega (arith, short, t.3)) front (end_is _ _ t.4)

pub trimmed_is : (s r : List ℕ) → IsTrimMatches (FindsCharPrefix 32) (FindsCharSuffix 32) s r → r ≡ trimmed s
trimmed_is s r h =
    let m : List ℕ = h.0 in
    let front : front_trimmed s ≡ m = front_cut s m h.1.0.0 h.1.0.1 ∙ front_kept m (no_front m h.1.1.0 h.1.1.1 h.1.1.2) in
    let short : length r ≤ length m = short_front r m h.2 in
    trimmed_from m r short h.1.1 h.2 h.3 ∙ ap end_trimmed (sym front)
