-- A label in full ends as its text does after the last slash.
use Rattle.std.proofs.Common.{◌≡◌, ℕ, ◌-◌, ◌<◌, drop, List, [], ◌∷◌, ◌++◌, Bool, true, false, if◌then◌else◌, Some, None, length, get_or, take, refl, ap, subst, sym, ◌∙◌, inl, inr, arith, append_assoc, append-nil, ne_eqb, take_all, bytes_eq}
use Rattle.std.specs.Prelude.{codes, nat_eq, not, ◌&&◌}
use Rattle.std.specs.List.{list_any, onto_first, starts_with}
use Rattle.std.proofs.lemmas.Bool.{cases_Bool, or_parts}
use Rattle.std.proofs.lemmas.List.{append_cancel_right, drop_at, same_from_push, take_more}
use Rattle.bz_token.proofs.Classes.{same_bytes}
use Rattle.bz_label.specs.Labels.{Package, is_colon, is_slash, last_part, parts_of, in_package}
use Rattle.bz_label.specs.Same.{completed, is_local, with_name}
use Rattle.bz_label.proofs.Cuts.{last_cons, some_part}

pub record EndsIn (bs end : List ℕ) : Type 0 where
  pub front : List ℕ
  pub is : bs ≡ front ++ end

pub after : (front bs end : List ℕ) → EndsIn bs end → EndsIn (front ++ bs) end
after front bs end h = record { front = front ++ h.front; is = ap (λ (zs : List ℕ). front ++ zs) h.is ∙ sym (append_assoc front h.front end) }

one_of : (b : Bool) (one two end : List ℕ) → EndsIn one end → EndsIn two end → EndsIn (if b then one else two) end
one_of true one two end h k = h
one_of false one two end h k = k

-- the last part of a path
one_part : (bs : List ℕ) → list_any is_slash bs ≡ false → parts_of bs ≡ bs ∷ []
one_part [] h = refl
one_part (b ∷ bs) h = let parts = or_parts (is_slash b) (list_any is_slash bs) h in rw parts.0 (ap (onto_first b) (one_part bs parts.1))

not_nothing : (front : List ℕ) (x : ℕ) (xs : List ℕ) → [] ≡ front ++ x ∷ xs → ⊥
not_nothing [] x xs h = cc
not_nothing (y ∷ front) x xs h = cc

last_onto : (b : ℕ) (parts : List (List ℕ)) (x : ℕ) (xs : List ℕ) → EndsIn (last_part parts) (x ∷ xs) → EndsIn (last_part (onto_first b parts)) (x ∷ xs)
last_onto b [] x xs h = absurd (not_nothing h.front x xs h.is)
last_onto b (p ∷ []) x xs h = after (b ∷ []) p (x ∷ xs) h
last_onto b (p ∷ q ∷ parts) x xs h = h

last_ends : (text : List ℕ) (x : ℕ) (xs : List ℕ) → list_any is_slash (x ∷ xs) ≡ false → EndsIn (last_part (parts_of (text ++ x ∷ xs))) (x ∷ xs)
last_ends [] x xs h = record { front = []; is = ap last_part (one_part (x ∷ xs) h) }
last_ends (b ∷ text) x xs h = elim (cases_Bool (is_slash b)) [
  | inl is ↦ rw is (subst (λ (zs : List ℕ). EndsIn zs (x ∷ xs)) (sym (last_cons [] (parts_of (text ++ x ∷ xs)) (some_part is_slash (text ++ x ∷ xs)))) (last_ends text x xs h))
  | inr other ↦ rw other (last_onto b (parts_of (text ++ x ∷ xs)) x xs (last_ends text x xs h))
]

last_part_ends : (text : List ℕ) (x : ℕ) (xs : List ℕ) → list_any is_slash (x ∷ xs) ≡ false → EndsIn text (x ∷ xs) → EndsIn (last_part (parts_of text)) (x ∷ xs)
last_part_ends text x xs h ends = subst (λ (zs : List ℕ). EndsIn (last_part (parts_of zs)) (x ∷ xs)) (sym ends.is) (last_ends ends.front x xs h)

-- a label in full
colon_ends : (text end : List ℕ) → EndsIn text end → EndsIn (if is_local text then 58 ∷ text else text) end
colon_ends text end h = one_of (is_local text) (58 ∷ text) text end (after (58 ∷ []) text end h) h

package_ends : (home : Package) (text end : List ℕ) → EndsIn text end → EndsIn (in_package home text) end
package_ends None text end h = h
package_ends (Some path) text end h = after (47 ∷ 47 ∷ []) (path ++ text) end (after path text end h)

path_ends : (home : Package) (text end : List ℕ) → EndsIn text end → EndsIn (if starts_with nat_eq text (codes ":") then in_package home text else text) end
path_ends home text end h = one_of (starts_with nat_eq text (codes ":")) (in_package home text) text end (package_ends home text end h) h

named_ends : (path name end : List ℕ) → EndsIn path end → EndsIn name end → EndsIn (if bytes_eq name [] then path else path ++ 58 ∷ name) end
named_ends path name end h k = one_of (bytes_eq name []) path (path ++ 58 ∷ name) end h (after path (58 ∷ name) end (after (58 ∷ []) name end k))

name_ends : (text : List ℕ) (x : ℕ) (xs : List ℕ) → list_any is_slash (x ∷ xs) ≡ false → EndsIn text (x ∷ xs) → EndsIn (with_name text) (x ∷ xs)
name_ends text x xs slash h =
    one_of (starts_with nat_eq text (codes "//") && not (list_any is_colon text)) (if bytes_eq (last_part (parts_of text)) [] then text else text ++ 58 ∷ (last_part (parts_of text))) text (x ∷ xs)
    (named_ends text (last_part (parts_of text)) (x ∷ xs) h (last_part_ends text x xs slash h)) h

completed_ends : (home : Package) (text : List ℕ) (x : ℕ) (xs : List ℕ) → list_any is_slash (x ∷ xs) ≡ false → EndsIn text (x ∷ xs) → EndsIn (completed home text) (x ∷ xs)
completed_ends home text x xs slash h =
    let target = if is_local text then 58 ∷ text else text in
    let full = if starts_with nat_eq target (codes ":") then in_package home target else target in
    name_ends full x xs slash (path_ends home target (x ∷ xs) (colon_ends text (x ∷ xs) h))

-- the bytes before one end
same_before : (a b end : List ℕ) (x y : ℕ) → a ++ x ∷ end ≡ b ++ y ∷ end → x ≡ y
same_before a b end x y e = (same_from_push a b x y (append_cancel_right (a ++ x ∷ []) (b ++ y ∷ []) end (append_assoc a (x ∷ []) end ∙ e ∙ sym (append_assoc b (y ∷ []) end)))).1

-- labels that have other bytes before the same end
pub ends_apart : (home : Package) (v word end : List ℕ) (x y : ℕ) → EndsIn v (x ∷ end) → EndsIn word (y ∷ end) → list_any is_slash (x ∷ end) ≡ false → list_any is_slash (y ∷ end) ≡ false → (x ≡ y → ⊥)
    → bytes_eq (completed home v) (completed home word) ≡ false
ends_apart home v word end x y v_ends word_ends slash_x slash_y differ = elim (cases_Bool (bytes_eq (completed home v) (completed home word))) [
  | inl same ↦
      let a = completed_ends home v x end slash_x v_ends in
      let b = completed_ends home word y end slash_y word_ends in
      absurd (differ (same_before a.front b.front end x y (sym a.is ∙ same_bytes (completed home v) (completed home word) same ∙ b.is)))
  | inr other ↦ other
]

pub split_last : (bs : List ℕ) (d : ℕ) → 0 < length bs → bs ≡ take (length bs - 1) bs ++ get_or bs (length bs - 1) d ∷ []
split_last bs d some = sym (take_all (length bs) bs (omega arith)) ∙ ap (λ (n : ℕ). take n bs) (omega (arith, some)) ∙ take_more bs (length bs - 1) d (omega (arith, some))

-- the two end in the same bytes, none of them a slash, after what is left of them
pub record HaveEnd (a b a_left b_left : List ℕ) : Type 0 where
  pub end : List ℕ
  pub first : a ≡ a_left ++ end
  pub second : b ≡ b_left ++ end
  pub one_part : list_any is_slash end ≡ false

pub no_end : (a b : List ℕ) → HaveEnd a b a b
no_end a b = record { end = []; first = sym (append-nil a); second = sym (append-nil b); one_part = refl }

no_slash : (x : ℕ) (end : List ℕ) → (x ≡ 47 → ⊥) → list_any is_slash end ≡ false → list_any is_slash (x ∷ end) ≡ false
no_slash x end slash rest = rw (ne_eqb x 47 slash, rest) refl

pub joined : (bs left end : List ℕ) (d : ℕ) → 0 < length left → bs ≡ left ++ end → bs ≡ take (length left - 1) left ++ get_or left (length left - 1) d ∷ end
joined bs left end d some is =
    is ∙ ap (λ (zs : List ℕ). zs ++ end) (split_last left d some) ∙ append_assoc (take (length left - 1) left) (get_or left (length left - 1) d ∷ []) end

-- with one byte more
pub end_more : (a b x y : List ℕ) (d : ℕ) → HaveEnd a b x y → 0 < length x → 0 < length y → (get_or x (length x - 1) d ≡ 47 → ⊥) → get_or x (length x - 1) d ≡ get_or y (length y - 1) d
    → HaveEnd a b (take (length x - 1) x) (take (length y - 1) y)
end_more a b x y d h some_x some_y slash same = record {
  end = get_or x (length x - 1) d ∷ h.end;
  first = joined a x h.end d some_x h.first;
  second = joined b y h.end d some_y h.second ∙ ap (λ (z : ℕ). take (length y - 1) y ++ z ∷ h.end) (sym same);
  one_part = no_slash (get_or x (length x - 1) d) h.end slash h.one_part;
}

-- the bytes before it differ
pub end_differs : (a b x y : List ℕ) (d : ℕ) → HaveEnd a b x y → 0 < length x → 0 < length y → (get_or x (length x - 1) d ≡ 47 → ⊥) → (get_or y (length y - 1) d ≡ 47 → ⊥) → (get_or x (length x - 1) d ≡ get_or y (length y - 1) d → ⊥)
    → (home : Package) → bytes_eq (completed home a) (completed home b) ≡ false
end_differs a b x y d h some_x some_y slash_x slash_y differ home =
    ends_apart home a b h.end (get_or x (length x - 1) d) (get_or y (length y - 1) d)
    (record { front = take (length x - 1) x; is = joined a x h.end d some_x h.first }) (record { front = take (length y - 1) y; is = joined b y h.end d some_y h.second })
    (no_slash (get_or x (length x - 1) d) h.end slash_x h.one_part) (no_slash (get_or y (length y - 1) d) h.end slash_y h.one_part) differ

-- the last part of a path is what stands after its last slash
pub whole_part : (bs left : List ℕ) → HaveEnd bs bs left left → length left < 1 → bs ≡ last_part (parts_of bs)
whole_part bs (x ∷ left) h short = absurd (omega arith)
whole_part bs [] h short = let none : list_any is_slash bs ≡ false = ap (list_any is_slash) h.first ∙ h.one_part in sym (ap last_part (one_part bs none))

longer : (b : ℕ) (parts : List (List ℕ)) → 1 < length parts → (1 < length (onto_first b parts)) × (last_part (onto_first b parts) ≡ last_part parts)
longer b [] h = absurd (omega arith)
longer b (p ∷ []) h = absurd (omega arith)
longer b (p ∷ q ∷ parts) h = (h, refl)

after_slash : (front end : List ℕ) → list_any is_slash end ≡ false → (1 < length (parts_of (front ++ 47 ∷ end))) × (last_part (parts_of (front ++ 47 ∷ end)) ≡ end)
after_slash [] end none = let some : 0 < length (parts_of end) = some_part is_slash end in (omega (arith, some), last_cons [] (parts_of end) some ∙ ap last_part (one_part end none))
after_slash (b ∷ front) end none =
    let more = after_slash front end none in
    elim (cases_Bool (is_slash b)) [
      | inl is ↦
          let some : 0 < length (parts_of (front ++ 47 ∷ end)) = some_part is_slash (front ++ 47 ∷ end) in
          rw is (omega (arith, some), last_cons [] (parts_of (front ++ 47 ∷ end)) some ∙ more.1)
      | inr other ↦
          let onto = longer b (parts_of (front ++ 47 ∷ end)) more.0 in
          rw other (onto.0, onto.1 ∙ more.1)
    ]

pub last_after : (bs left : List ℕ) (d : ℕ) → HaveEnd bs bs left left → 0 < length left → get_or left (length left - 1) d ≡ 47 → drop (length left) bs ≡ last_part (parts_of bs)
last_after bs left d h some slash =
    let cut : bs ≡ take (length left - 1) left ++ 47 ∷ h.end = joined bs left h.end d some h.first ∙ ap (λ (z : ℕ). take (length left - 1) left ++ z ∷ h.end) slash in
    ap (drop (length left)) h.first ∙ drop_at left h.end (length left) refl ∙ sym (ap (λ (zs : List ℕ). last_part (parts_of zs)) cut ∙ (after_slash (take (length left - 1) left) h.end h.one_part).1)
