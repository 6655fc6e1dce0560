-- The value of a literal without backslashes and carriage returns stands in it, byte for byte, with the closing quote after it.
use Rattle.std.proofs.Common.{◌≡◌, ℕ, zero, suc, ◌==◌, ◌&&◌, List, [], ◌∷◌, ◌++◌, append_assoc, drop, length, map, take, take-append-drop, Bool, true, false, Option, Some, None, if◌then◌else◌, refl, sym, ap, ◌∙◌, inl, inr}
use Rattle.std.specs.Prelude.{bytes_eq, codes, nat_eq, option_map, option_and_then}
use Rattle.std.specs.List.{concat, list_any, starts_with}
use Rattle.std.proofs.lemmas.Bool.{cases_Bool, or_parts}
use Rattle.std.proofs.lemmas.Slice.Eq.{bytes_eq-Decides}
use Rattle.bz_token.specs.Groups.{grouped_from}
use Rattle.bz_token.specs.Strings.{is_quote}
use Rattle.bz_token.proofs.CutStrings.{grouped_apart}
use Rattle.bz_label.specs.Endings.{is_odd}
use Rattle.bz_label.specs.Values.{value_of}
use Rattle.bz_label.specs.private.ValueSteps.{content, is_newline, opened_value, takes, units, values}
use Rattle.bz_label.proofs.ValueForms.{opened_other, opened_raw}

-- it stands somewhere in the text
pub record IsIn (part text : List ℕ) : Type 0 where
  pub front : List ℕ
  pub back : List ℕ
  pub is : text ≡ front ++ (part ++ back)

abbrev alone : ℕ → List ℕ
alone b = b ∷ []

taken_apart : (b x : ℕ) → (b == 92) ≡ false → (b == 13) ≡ false → takes (b ∷ []) x ≡ false
taken_apart b x slash return = rw (slash, return) refl

units_from : (b : ℕ) (bs : List ℕ) → list_any is_odd (b ∷ bs) ≡ false → grouped_from takes (b ∷ []) bs ≡ map alone (b ∷ bs)
units_from b [] none = refl
units_from b (x ∷ xs) none =
    let both = or_parts (is_odd b) (list_any is_odd (x ∷ xs)) none in
    let plain = or_parts (b == 92) (b == 13) both.0 in
    grouped_apart takes (b ∷ []) x xs (taken_apart b x plain.0 plain.1) ∙ ap (λ us. (b ∷ []) ∷ us) (units_from x xs both.1)

units_plain : (bs : List ℕ) → list_any is_odd bs ≡ false → units bs ≡ map alone bs
units_plain [] none = refl
units_plain (b ∷ bs) none = units_from b bs none

joined : (bs : List ℕ) → concat (map alone bs) ≡ bs
joined [] = refl
joined (b ∷ bs) = ap (λ (xs : List ℕ). b ∷ xs) (joined bs)

some_is : {A : Type 0} (x y : A) → Some x ≡ Some y → x ≡ y
some_is x y e = cc

-- the value, and the quotes that close it

one_more : (raw : Bool) (quotes : List ℕ) (b : ℕ) (bs v : List ℕ) → (b == 92) ≡ false → ((w : List ℕ) → option_and_then (values raw) (content quotes (map alone bs)) ≡ Some w → bs ≡ w ++ quotes)
    → option_and_then (values raw) (content quotes (map alone (b ∷ bs))) ≡ Some v → b ∷ bs ≡ v ++ quotes
one_more raw quotes b bs v plain more is = by (starts_with nat_eq (concat (map alone (b ∷ bs))) quotes) (bytes_eq (concat (map alone (b ∷ bs))) quotes) refl (length quotes == 1 && is_newline (b ∷ [])) is
  where
    inside : (o : Option (List (List ℕ))) → content quotes (map alone bs) ≡ o → option_and_then (values raw) (option_map (λ inner. (b ∷ []) ∷ inner) o) ≡ Some v → b ∷ bs ≡ v ++ quotes
    inside None o_is is = absurd cc
    inside (Some inner) o_is is = of (values raw inner) refl (rw plain at is)
      where
        of : (o : Option (List ℕ)) → values raw inner ≡ o → option_map (λ bs. b ∷ bs) o ≡ Some v → b ∷ bs ≡ v ++ quotes
        of None w_is is = absurd cc
        of (Some w) w_is is = ap (λ (xs : List ℕ). b ∷ xs) (more w (ap (option_and_then (values raw)) o_is ∙ w_is)) ∙ ap (λ (xs : List ℕ). xs ++ quotes) (some_is (b ∷ w) v is)

    by : (starts all : Bool) → bytes_eq (concat (map alone (b ∷ bs))) quotes ≡ all → (line : Bool)
        → option_and_then (values raw) (if starts then (if all then Some [] else None) else (if line then None else option_map (λ inner. (b ∷ []) ∷ inner) (content quotes (map alone bs)))) ≡ Some v → b ∷ bs ≡ v ++ quotes
    by true true same line is =
        sym (joined (b ∷ bs)) ∙ (bytes_eq-Decides (concat (map alone (b ∷ bs))) quotes).0 same ∙ ap (λ (xs : List ℕ). xs ++ quotes) (some_is [] v is)
    by true false same line is = absurd cc
    by false all same true is = absurd cc
    by false all same false is = inside (content quotes (map alone bs)) refl is

closed : (raw : Bool) (quotes bs v : List ℕ) → list_any is_odd bs ≡ false → option_and_then (values raw) (content quotes (map alone bs)) ≡ Some v → bs ≡ v ++ quotes
closed raw quotes [] v none is = absurd cc
closed raw quotes (b ∷ bs) v none is =
    let both = or_parts (is_odd b) (list_any is_odd bs) none in
    one_more raw quotes b bs v (or_parts (b == 92) (b == 13) both.0).0 (λ w given. closed raw quotes bs w both.1 given) is

none_after : (n : ℕ) (bs : List ℕ) → list_any is_odd bs ≡ false → list_any is_odd (drop n bs) ≡ false
none_after zero bs none = none
none_after (suc n) [] none = none
none_after (suc n) (b ∷ bs) none = none_after n bs (or_parts (is_odd b) (list_any is_odd bs) none).1

-- a literal whose value is this one: it stands there with a quote after it
pub record IsClosed (v text : List ℕ) : Type 0 where
  pub quote : ℕ
  pub is_quote : is_quote quote ≡ true
  pub stands : IsIn (v ++ quote ∷ []) text

closed_by : (raw : Bool) (q : ℕ) (more text v : List ℕ) → is_quote q ≡ true → list_any is_odd text ≡ false → option_and_then (values raw) (content (q ∷ more) (units (drop (length (q ∷ more)) text))) ≡ Some v → IsClosed v text
closed_by raw q more text v quote none is =
    let rest : List ℕ = drop (length (q ∷ more)) text in
    let plain : list_any is_odd rest ≡ false = none_after (length (q ∷ more)) text none in
    let ends : rest ≡ v ++ (q ∷ more) = closed raw (q ∷ more) rest v plain (ap (λ us. option_and_then (values raw) (content (q ∷ more) us)) (sym (units_plain rest plain)) ∙ is) in
    record {
      quote = q;
      is_quote = quote;
      stands = record {
        front = take (length (q ∷ more)) text;
        back = more;
        is = sym (take-append-drop (length (q ∷ more)) text) ∙ ap (λ (t : List ℕ). take (length (q ∷ more)) text ++ t) (ends ∙ sym (append_assoc v (q ∷ []) more));
      };
    }

opened : (raw : Bool) (text v : List ℕ) → list_any is_odd text ≡ false → opened_value raw text ≡ Some v → IsClosed v text
opened raw [] v none is = absurd cc
opened raw (q ∷ bs) v none is = by (is_quote q) refl (starts_with nat_eq bs (q ∷ q ∷ [])) is
  where
    by : (quote : Bool) → is_quote q ≡ quote → (long : Bool)
        → (if quote then option_and_then (values raw) (content (if long then q ∷ q ∷ q ∷ [] else q ∷ []) (units (drop (length (if long then q ∷ q ∷ q ∷ [] else q ∷ [])) (q ∷ bs)))) else None) ≡ Some v → IsClosed v (q ∷ bs)
    by false other long is = absurd cc
    by true quote true is = closed_by raw q (q ∷ q ∷ []) (q ∷ bs) v quote none is
    by true quote false is = closed_by raw q [] (q ∷ bs) v quote none is

after_prefix : (text v : List ℕ) → IsClosed v (drop 1 text) → IsClosed v text
after_prefix text v c = record {
  quote = c.quote;
  is_quote = c.is_quote;
  stands = record {
    front = take 1 text ++ c.stands.front;
    back = c.stands.back;
    is = sym (take-append-drop 1 text) ∙ ap (λ (t : List ℕ). take 1 text ++ t) c.stands.is ∙ sym (append_assoc (take 1 text) c.stands.front ((v ++ c.quote ∷ []) ++ c.stands.back));
  };
}

pub value_closed : (text v : List ℕ) → list_any is_odd text ≡ false → value_of text ≡ Some v → IsClosed v text
value_closed text v none is = elim (cases_Bool (bytes_eq (take 1 text) (codes "r"))) [
  | inl raw ↦ after_prefix text v (opened true (drop 1 text) v (none_after 1 text none) (opened_raw text (drop 1 text) raw refl ∙ is))
  | inr other ↦ opened false text v none (opened_other text other ∙ is)
]
