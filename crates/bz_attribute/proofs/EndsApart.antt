-- Two texts walked back from their ends.
use Rattle.std.proofs.Common.{◌≡◌, ℕ, ◌-◌, ◌<◌, ◌&&◌, not, List, [], ◌∷◌, ◌++◌, Bool, true, false, length, get_or, take, refl, ap, sym, ◌∙◌, append_assoc}
use Rattle.std.specs.List.{list_all, list_any}
use Rattle.std.proofs.lemmas.Bool.{and_parts, or_parts, ne_eqb}
use Rattle.bz_label.specs.Labels.{is_slash}
use Rattle.bz_label.proofs.LastBytes.{split_last}
use Rattle.bz_label.specs.Literals.{is_plain}
use Rattle.bz_attribute.specs.private.Apart.{EndApart}

off : (b : Bool) → not b ≡ true → b ≡ false
off true h = sym h
off false h = refl

-- the bytes differ here
pub apart_here : (q : ℕ) (inner word : List ℕ) (d : ℕ) → 0 < length inner → 0 < length word → 0 < length (take (length inner - 1) inner)
    → (get_or (take (length inner - 1) inner) (length (take (length inner - 1) inner) - 1) d ≡ 92 → ⊥) → (get_or word (length word - 1) d ≡ 47 → ⊥)
    → is_plain q (get_or inner (length inner - 1) d) && not (is_slash (get_or inner (length inner - 1) d)) ≡ true → (get_or inner (length inner - 1) d ≡ get_or word (length word - 1) d → ⊥) → EndApart q inner word
apart_here q inner word d some_inner some_word some_front escape slash stays differ =
    let front : List ℕ = take (length inner - 1) inner in
    let x : ℕ = get_or inner (length inner - 1) d in
    let both = and_parts (is_plain q x) (not (is_slash x)) stays in
    record {
      front = take (length front - 1) front;
      before = get_or front (length front - 1) d;
      byte = x;
      end = [];
      inner_is = split_last inner d some_inner ∙ ap (λ (zs : List ℕ). zs ++ x ∷ []) (split_last front d some_front) ∙ simp append_assoc;
      word_front = take (length word - 1) word;
      other = get_or word (length word - 1) d;
      word_is = split_last word d some_word;
      no_escape = escape;
      plain = rw both.0 refl;
      one_part = rw (off (is_slash x) both.1) refl;
      no_slash = ne_eqb _ _ slash;
      differ = differ;
    }

plain_more : (q x : ℕ) (bs : List ℕ) → list_all (is_plain q) bs ≡ true → is_plain q x ≡ true → list_all (is_plain q) (bs ++ x ∷ []) ≡ true
plain_more q x [] h k = rw k refl
plain_more q x (b ∷ bs) h k = let both = and_parts (is_plain q b) (list_all (is_plain q) bs) h in rw (both.0, plain_more q x bs both.1 k) refl

one_part_more : (x : ℕ) (bs : List ℕ) → list_any is_slash bs ≡ false → is_slash x ≡ false → list_any is_slash (bs ++ x ∷ []) ≡ false
one_part_more x [] h k = rw k refl
one_part_more x (b ∷ bs) h k = let both = or_parts (is_slash b) (list_any is_slash bs) h in rw (both.0, one_part_more x bs both.1 k) refl

-- or before one byte that is the same
pub apart_before : (q : ℕ) (inner word : List ℕ) (d : ℕ) → 0 < length inner → 0 < length word
    → is_plain q (get_or inner (length inner - 1) d) && not (is_slash (get_or inner (length inner - 1) d)) ≡ true → get_or inner (length inner - 1) d ≡ get_or word (length word - 1) d
    → EndApart q (take (length inner - 1) inner) (take (length word - 1) word) → EndApart q inner word
apart_before q inner word d some_inner some_word stays same h =
    let x : ℕ = get_or inner (length inner - 1) d in
    let both = and_parts (is_plain q x) (not (is_slash x)) stays in
    record {
      front = h.front;
      before = h.before;
      byte = h.byte;
      end = h.end ++ x ∷ [];
      inner_is = split_last inner d some_inner ∙ ap (λ (zs : List ℕ). zs ++ x ∷ []) h.inner_is ∙ simp append_assoc;
      word_front = h.word_front;
      other = h.other;
      word_is = split_last word d some_word ∙ (λ i. h.word_is i ++ sym same i ∷ []) ∙ simp append_assoc;
      no_escape = h.no_escape;
      plain = plain_more q x (h.byte ∷ h.end) h.plain (both.0);
      one_part = one_part_more x (h.byte ∷ h.end) h.one_part (off (is_slash x) both.1);
      no_slash = h.no_slash;
      differ = h.differ;
    }
