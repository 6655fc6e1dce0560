-- The value of a string literal ends as its text does before the closing quote, after the last escape.
use Rattle.std.proofs.Common.{◌≡◌, ℕ, ◌-◌, ◌≤◌, ◌==◌, ◌&&◌, ◌||◌, not, List, [], ◌∷◌, ◌++◌, Bool, true, false, if◌then◌else◌, Option, Some, None, length, get_or, take, drop, nat_eq, refl, ap, subst, sym, ◌∙◌, arith, inl, inr, append_assoc, bytes_eq, option_and_then}
use Rattle.std.specs.Prelude.{option_map, ◌⊎◌}
use Rattle.std.specs.List.{concat, list_all, list_any, starts_with}
use Rattle.std.proofs.lemmas.Bool.{cases_Bool, and_parts, or_parts, eq-eqb, ne_eqb}
use Rattle.std.proofs.lemmas.Bool.Decides.{nat_tests}
use Rattle.std.proofs.lemmas.List.{same_from_push, take-append-drop}
use Rattle.bz_token.specs.Common.{map_or}
use Rattle.bz_token.specs.Strings.{is_quote}
use Rattle.bz_token.proofs.Classes.{same_bytes}
use Rattle.bz_label.specs.Labels.{Package, is_slash}
use Rattle.bz_label.specs.Values.{value_of}
use Rattle.bz_label.specs.Literals.{is_plain}
use Rattle.bz_label.specs.private.ValueSteps.{content, inner_of, is_newline, units, values, first_len, inner_value, value_in}
use Rattle.bz_label.proofs.ValueForms.{opened_other}
use Rattle.bz_label.proofs.Literals.{plain_first, shut, step, units_joined}
use Rattle.bz_label.specs.Same.{same}
use Rattle.bz_attribute.specs.private.Apart.{EndApart}
use Rattle.bz_label.proofs.LastBytes.{EndsIn, after, ends_apart, split_last}

some_is : {A : Type 0} (x y : A) → Some x ≡ Some y → x ≡ y
some_is x y e = cc

-- a list that is there has its parts
mapped : {A : Type 0} (u : A) (o : Option (List A)) (all : List A) → option_map (λ us. u ∷ us) o ≡ Some all → (rest : List A) × (o ≡ Some rest) × (u ∷ rest ≡ all)
mapped u None all h = let clash : None ≡ Some all = h in absurd cc
mapped u (Some rest) all h = (rest, refl, some_is (u ∷ rest) all h)

joined : (x : Option ℕ) (o : Option (List ℕ)) (v : List ℕ) → option_and_then (λ b. option_map (λ bs. b ∷ bs) o) x ≡ Some v → (b : ℕ) × (vs : List ℕ) × (x ≡ Some b) × (o ≡ Some vs) × (b ∷ vs ≡ v)
joined None o v h = let clash : None ≡ Some v = h in absurd cc
joined (Some b) o v h = let m = mapped b o v h in (b, m.0, refl, m.1, m.2)

valued : (o : Option (List (List ℕ))) (v : List ℕ) → option_and_then (values false) o ≡ Some v → (inner : List (List ℕ)) × (o ≡ Some inner)
valued None v h = let clash : None ≡ Some v = h in absurd cc
valued (Some inner) v h = (inner, refl)

-- the content and the closing quotes are all
content_joined : (quotes : List ℕ) (us inner : List (List ℕ)) → content quotes us ≡ Some inner → concat us ≡ concat inner ++ quotes
content_joined quotes [] inner h = let clash : None ≡ Some inner = h in absurd cc
content_joined quotes (u ∷ us) inner h = elim (cases_Bool (starts_with nat_eq (concat (u ∷ us)) quotes)) [
  | inl begins ↦ elim (cases_Bool (bytes_eq (concat (u ∷ us)) quotes)) [
    | inl is ↦ same_bytes (concat (u ∷ us)) quotes is ∙ ap (λ (zs : List (List ℕ)). concat zs ++ quotes) (some_is [] inner (rw (begins, is) at h))
    | inr other ↦ let clash : None ≡ Some inner = rw (begins, other) at h in absurd cc
  ]
  | inr more ↦ elim (cases_Bool (length quotes == 1 && is_newline u)) [
    | inl ends ↦ let clash : None ≡ Some inner = rw (more, ends) at h in absurd cc
    | inr goes ↦
        let m = mapped u (content quotes us) inner (rw (more, goes) at h) in
        ap (λ (zs : List ℕ). u ++ zs) (content_joined quotes us m.0 m.1) ∙ sym (append_assoc u (concat m.0) quotes) ∙ ap (λ (zs : List (List ℕ)). concat zs ++ quotes) m.2
  ]
]

-- a literal of three quotes has one of them before its last byte
three_quotes : (q : ℕ) (r front : List ℕ) (x c : ℕ) (inner : List (List ℕ)) → r ≡ (front ++ x ∷ []) ++ c ∷ [] → content (q ∷ q ∷ q ∷ []) (units (drop 2 r)) ≡ Some inner → x ≡ q
three_quotes q r front x c inner are h =
    let split : drop 2 r ≡ concat inner ++ q ∷ q ∷ q ∷ [] = sym (units_joined (drop 2 r)) ∙ content_joined (q ∷ q ∷ q ∷ []) (units (drop 2 r)) inner h in
    let ends : r ≡ ((take 2 r ++ (concat inner ++ q ∷ [])) ++ q ∷ []) ++ q ∷ [] = sym (take-append-drop 2 r) ∙ ap (λ (zs : List ℕ). take 2 r ++ zs) split ∙ simp append_assoc in
    let fronts = same_from_push (front ++ x ∷ []) ((take 2 r ++ (concat inner ++ q ∷ [])) ++ q ∷ []) c q (sym are ∙ ends) in
    (same_from_push front (take 2 r ++ (concat inner ++ q ∷ [])) x q fronts.0).1

-- the first unit of what stands after one quote
one_first : (b c : ℕ) (bs : List ℕ) → b == 92 ≡ false → c == 10 ≡ false → first_len (b ∷ c ∷ bs) ≡ 1
one_first b c [] h k = elim (cases_Bool (b == 13)) [ inl is ↦ rw (h, is, k) refl | inr other ↦ rw (h, other) refl ]
one_first b c (d ∷ bs) h k = elim (cases_Bool (b == 13)) [ inl is ↦ rw (h, is, k) refl | inr other ↦ rw (h, other) refl ]

three_at_most : (b c : ℕ) (bs : List ℕ) → (first_len (b ∷ c ∷ bs) ≡ 1) ⊎ ((first_len (b ∷ c ∷ bs) ≡ 2) ⊎ (first_len (b ∷ c ∷ bs) ≡ 3))
three_at_most b c [] = elim (cases_Bool (b == 92 || b == 13 && c == 10)) [ inl is ↦ inr (inl (rw is refl)) | inr other ↦ inl (rw other refl) ]
three_at_most b c (d ∷ bs) = elim (cases_Bool (b == 92)) [
  | inl is ↦ elim (cases_Bool (c == 13 && d == 10)) [ inl three ↦ inr (inr (rw (is, three) refl)) | inr two ↦ inr (inl (rw (is, two) refl)) ]
  | inr other ↦ elim (cases_Bool (b == 13 && c == 10)) [ inl two ↦ inr (inl (rw (other, two) refl)) | inr one ↦ inl (rw (other, one) refl) ]
]

-- one of three bytes has no value
no_three : {P : Type 0} (b c : ℕ) (bs : List ℕ) (x : ℕ) → first_len (b ∷ c ∷ bs) ≡ 3 → value_in false true (take (first_len (b ∷ c ∷ bs)) (b ∷ c ∷ bs)) ≡ Some x → P
no_three b c [] x three h = elim (cases_Bool (b == 92 || b == 13 && c == 10)) [
  | inl is ↦ let clash : 2 ≡ 3 = rw is at three in absurd (omega (arith, clash))
  | inr other ↦ let clash : 1 ≡ 3 = rw other at three in absurd (omega (arith, clash))
]
no_three b c (d ∷ bs) x three h =
    let none : (if is_newline (b ∷ c ∷ d ∷ []) then None else None) ≡ Some x = rw three at h in
    absurd (nothing (is_newline (b ∷ c ∷ d ∷ [])) x none)
  where
    nothing : (t : Bool) (x : ℕ) → (if t then None else None) ≡ Some x → ⊥
    nothing true x e = cc
    nothing false x e = cc

-- a step over it
abbrev HasStepped : ℕ → List ℕ → List ℕ → Type 0
HasStepped q bs v = (x : ℕ) × (vs : List ℕ) × (value_in false true (take (first_len bs) bs) ≡ Some x) × (inner_value false (q ∷ []) (drop (first_len bs) bs) ≡ Some vs) × (x ∷ vs ≡ v)

stepped : (q b c : ℕ) (bs v : List ℕ) → inner_value false (q ∷ []) (b ∷ c ∷ bs) ≡ Some v → HasStepped q (b ∷ c ∷ bs) v
stepped q b c bs v h = elim (cases_Bool (starts_with nat_eq (b ∷ c ∷ bs) (q ∷ []))) [
  | inl is ↦ absurd (nothing (not (length (b ∷ c ∷ bs) == 0)) (b == q) (sym (shut false (q ∷ []) (b ∷ c ∷ bs) is) ∙ h))
  | inr more ↦ joined (value_in false true (take (first_len (b ∷ c ∷ bs)) (b ∷ c ∷ bs))) (inner_value false (q ∷ []) (drop (first_len (b ∷ c ∷ bs)) (b ∷ c ∷ bs))) v (sym (step false (q ∷ []) (b ∷ c ∷ bs) (omega arith) more) ∙ h)
]
  where
    nothing : (s t : Bool) → (if s && (t && false) then Some [] else None) ≡ Some v → ⊥
    nothing true true e = cc
    nothing true false e = cc
    nothing false t e = cc

-- bytes that stand for themselves, and the last byte
closed : (q c : ℕ) (v : List ℕ) → inner_value false (q ∷ []) (c ∷ []) ≡ Some v → v ≡ []
closed q c v h = elim (cases_Bool (starts_with nat_eq (c ∷ []) (q ∷ []))) [
  | inl is ↦ ended (bytes_eq (c ∷ []) (q ∷ [])) (sym (shut false (q ∷ []) (c ∷ []) is) ∙ h)
  | inr more ↦
      let j = joined (value_in false true (c ∷ [])) None v (sym (step false (q ∷ []) (c ∷ []) (omega arith) more) ∙ h) in
      let clash : None ≡ Some j.1 = j.3 in
      absurd cc
]
  where
    ended : (t : Bool) → (if t then Some [] else None) ≡ Some v → v ≡ []
    ended true e = sym (some_is [] v e)
    ended false e = let clash : None ≡ Some v = e in absurd cc

plain_end : (q c : ℕ) (xs v : List ℕ) → list_all (is_plain q) xs ≡ true → inner_value false (q ∷ []) (xs ++ c ∷ []) ≡ Some v → v ≡ xs
plain_end q c [] v plain h = closed q c v h
plain_end q c (x ∷ xs) v plain h =
    let both = and_parts (is_plain q x) (list_all (is_plain q) xs) plain in
    let m = mapped x (inner_value false (q ∷ []) (xs ++ c ∷ [])) v (sym (plain_first false q x (xs ++ c ∷ []) both.0) ∙ h) in
    sym m.2 ∙ ap (λ (zs : List ℕ). x ∷ zs) (plain_end q c xs m.0 both.1 m.1)

ends_more : (b : ℕ) (vs v end : List ℕ) → b ∷ vs ≡ v → EndsIn vs end → EndsIn v end
ends_more b vs v end is h = subst (λ (zs : List ℕ). EndsIn zs end) is (after (b ∷ []) vs end h)

ends_all : (vs end : List ℕ) → vs ≡ end → EndsIn vs end
ends_all vs end is = record { front = []; is = is }

no_newline : (q x : ℕ) → is_plain q x ≡ true → x == 10 ≡ false
no_newline q x h =
    let quote = and_parts (not (q == x)) (not (x == 92) && (not (x == 13) && not (x == 10))) h in
    let escape = and_parts (not (x == 92)) (not (x == 13) && not (x == 10)) quote.1 in
    off (x == 10) (and_parts (not (x == 13)) (not (x == 10)) escape.1).1
  where
    off : (b : Bool) → not b ≡ true → b ≡ false
    off true h = sym h
    off false h = refl

inner_ends : (q c p x : ℕ) (xs front v : List ℕ) → p == 92 ≡ false → list_all (is_plain q) (x ∷ xs) ≡ true → inner_value false (q ∷ []) (front ++ p ∷ x ∷ (xs ++ c ∷ [])) ≡ Some v → EndsIn v (x ∷ xs)
inner_ends q c p x xs [] v escape plain h =
    let s = stepped q p x (xs ++ c ∷ []) v h in
    let one = one_first p x (xs ++ c ∷ []) escape (no_newline q x (and_parts (is_plain q x) (list_all (is_plain q) xs) plain).0) in
    ends_more s.0 s.1 v (x ∷ xs) s.4 (ends_all s.1 (x ∷ xs) (plain_end q c (x ∷ xs) s.1 plain (rw one at s.3)))
inner_ends q c p x xs (f ∷ []) v escape plain h =
    let s = stepped q f p (x ∷ (xs ++ c ∷ [])) v h in
    elim (three_at_most f p (x ∷ (xs ++ c ∷ []))) [
      | inl one ↦ ends_more s.0 s.1 v (x ∷ xs) s.4 (inner_ends q c p x xs [] s.1 escape plain (rw one at s.3))
      | inr (inl two) ↦ ends_more s.0 s.1 v (x ∷ xs) s.4 (ends_all s.1 (x ∷ xs) (plain_end q c (x ∷ xs) s.1 plain (rw two at s.3)))
      | inr (inr three) ↦ no_three f p (x ∷ (xs ++ c ∷ [])) s.0 three s.2
    ]
inner_ends q c p x xs (f ∷ g ∷ front) v escape plain h =
    let s = stepped q f g (front ++ p ∷ x ∷ (xs ++ c ∷ [])) v h in
    elim (three_at_most f g (front ++ p ∷ x ∷ (xs ++ c ∷ []))) [
      | inl one ↦ ends_more s.0 s.1 v (x ∷ xs) s.4 (inner_ends q c p x xs (g ∷ front) s.1 escape plain (rw one at s.3))
      | inr (inl two) ↦ ends_more s.0 s.1 v (x ∷ xs) s.4 (inner_ends q c p x xs front s.1 escape plain (rw two at s.3))
      | inr (inr three) ↦ no_three f g (front ++ p ∷ x ∷ (xs ++ c ∷ [])) s.0 three s.2
    ]

-- a literal
last_plain : (q x : ℕ) (xs : List ℕ) → list_all (is_plain q) (x ∷ xs) ≡ true → (front : List ℕ) × (last : ℕ) × (x ∷ xs ≡ front ++ last ∷ []) × (is_plain q last ≡ true)
last_plain q x [] h = ([], x, refl, (and_parts (is_plain q x) true h).0)
last_plain q x (y ∷ ys) h =
    let l = last_plain q y ys (and_parts (is_plain q x) (list_all (is_plain q) (y ∷ ys)) h).1 in
    (x ∷ l.0, l.1, ap (λ (zs : List ℕ). x ∷ zs) l.2, l.3)

no_quote : (q x : ℕ) → is_plain q x ≡ true → x ≡ q → ⊥
no_quote q x h is = let clash : false ≡ true = sym (rw (is, eq-eqb q) refl) ∙ h in cc

quote_no_r : (q : ℕ) → is_quote q ≡ true → (q == 114 && true) ≡ false
quote_no_r q h = grind (arith, nat_tests)

value_ends : (q c p x : ℕ) (xs front v : List ℕ) → is_quote q ≡ true → p == 92 ≡ false → list_all (is_plain q) (x ∷ xs) ≡ true → value_of (q ∷ (front ++ p ∷ x ∷ (xs ++ c ∷ []))) ≡ Some v → EndsIn v (x ∷ xs)
value_ends q c p x xs front v quote escape plain h =
    let r : List ℕ = front ++ p ∷ x ∷ (xs ++ c ∷ []) in
    let inside : option_and_then (values false) (inner_of (q ∷ r)) ≡ Some v = rw quote at (opened_other (q ∷ r) (quote_no_r q quote) ∙ h) in
    elim (cases_Bool (starts_with nat_eq r (q ∷ q ∷ []))) [
      | inl three ↦
          let i = valued (content (q ∷ q ∷ q ∷ []) (units (drop 2 r))) v (rw three at inside) in
          let l = last_plain q x xs plain in
          let are : r ≡ ((front ++ p ∷ l.0) ++ l.1 ∷ []) ++ c ∷ [] = ap (λ (zs : List ℕ). front ++ p ∷ (zs ++ c ∷ [])) l.2 ∙ simp append_assoc in
          absurd (no_quote q l.1 l.3 (three_quotes q r (front ++ p ∷ l.0) l.1 c i.0 are i.1))
      | inr one ↦ inner_ends q c p x xs front v escape plain (rw one at inside)
    ]

none_same : (home : Package) (word : List ℕ) (o : Option (List ℕ)) → ((v : List ℕ) → o ≡ Some v → same home v word ≡ false) → map_or false (λ value. same home value word) o ≡ false
none_same home word None h = refl
none_same home word (Some v) h = h v refl

apart_inside : (home : Package) (q c : ℕ) (inner word : List ℕ) → is_quote q ≡ true → (a : EndApart q inner word) → map_or false (λ value. same home value word) (value_of (q ∷ (inner ++ c ∷ []))) ≡ false
apart_inside home q c inner word quote a =
    let text : q ∷ (inner ++ c ∷ []) ≡ q ∷ (a.front ++ a.before ∷ a.byte ∷ (a.end ++ c ∷ [])) = ap (λ (zs : List ℕ). q ∷ (zs ++ c ∷ [])) a.inner_is ∙ simp append_assoc in
    let word_ends : EndsIn word (a.other ∷ a.end) = record { front = a.word_front; is = a.word_is } in
    let word_part : list_any is_slash (a.other ∷ a.end) ≡ false = rw (a.no_slash, (or_parts (is_slash a.byte) (list_any is_slash a.end) a.one_part).1) refl in
    none_same home word (value_of (q ∷ (inner ++ c ∷ []))) (λ v is.
    ends_apart home v word a.end a.byte a.other (value_ends q c a.before a.byte a.end a.front v quote (ne_eqb a.before 92 a.no_escape) a.plain (sym (ap value_of text) ∙ is)) word_ends a.one_part word_part a.differ)

pub literal_ends_apart : (home : Package) (text word : List ℕ) (d : ℕ) → 2 ≤ length text → is_quote (get_or text 0 d) ≡ true → EndApart (get_or text 0 d) (take (length text - 1 - 1) (drop 1 text)) word → map_or false (λ value. same home value word) (value_of text) ≡ false
literal_ends_apart home [] word d long quote a = absurd (omega (arith, long))
literal_ends_apart home (q ∷ rest) word d long quote a =
    let all : rest ≡ take (length (q ∷ rest) - 1 - 1) rest ++ get_or rest (length rest - 1) d ∷ [] = split_last rest d (omega (arith, long)) ∙ ap (λ (n : ℕ). take n rest ++ get_or rest (length rest - 1) d ∷ []) (omega (arith, long)) in
    ap (λ (zs : List ℕ). map_or false (λ value. same home value word) (value_of (q ∷ zs))) all ∙ apart_inside home q (get_or rest (length rest - 1) d) (take (length (q ∷ rest) - 1 - 1) rest) word quote a
