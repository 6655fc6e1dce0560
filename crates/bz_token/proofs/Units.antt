-- The first unit of a text, and what begins with it: gaps, continued lines and heads of lines.
use Rattle.std.proofs.Common.{◌≡◌, ℕ, zero, suc, ◌+◌, ◌≤◌, ◌==◌, ◌&&◌, ◌||◌, not, length, List, [], ◌∷◌, ◌++◌, Bool, true, false, cond, refl, sym, ap, ◌∙◌, arith, inl, inr, eqb-true, append_assoc}
use Rattle.std.specs.Prelude.{bytes_eq}
use Rattle.std.specs.List.{concat, list_all}
use Rattle.std.proofs.lemmas.Bool.{cases_Bool}
use Rattle.std.proofs.lemmas.Bool.Decides.{nat_tests}
use Rattle.bz_token.specs.Common.{begins}
use Rattle.bz_token.specs.Groups.{grouped_from}
use Rattle.bz_token.specs.Strings.{escape_takes, units}
use Rattle.bz_token.specs.Pieces.{is_one, is_blank, is_white, is_space}
use Rattle.bz_token.specs.Blocks.{word_at, opener_of, opener, head_from as unit_head}
use Rattle.bz_token.specs.Reading.{is_gap, begins_gap}
use Rattle.bz_token.specs.private.Gaps.{feeds_gap, continues_gap, continues, continues_after, head_from}
use Rattle.bz_token.proofs.CutStrings.{grouped_joins, grouped_apart}

-- nothing more joins a unit
apart : (g xs : List ℕ) → ((x : ℕ) → escape_takes g x ≡ false) → grouped_from escape_takes g xs ≡ g ∷ units xs
apart g [] h = refl
apart g (x ∷ xs) h = grouped_apart escape_takes g x xs (h x)

-- The units of a text begin with a byte that is no backslash, a continued line, or an escape of something else.
pub data FirstUnit (text : List ℕ) : Type 0 where
  byte : (b : ℕ) (bs : List ℕ) → text ≡ b ∷ bs → (b == 92) ≡ false → units text ≡ (b ∷ []) ∷ units bs → FirstUnit text
  feed : (bs : List ℕ) → text ≡ 92 ∷ 10 ∷ bs → units text ≡ (92 ∷ 10 ∷ []) ∷ units bs → FirstUnit text
  return_feed : (bs : List ℕ) → text ≡ 92 ∷ 13 ∷ 10 ∷ bs → units text ≡ (92 ∷ 13 ∷ 10 ∷ []) ∷ units bs → FirstUnit text
  alone : text ≡ 92 ∷ [] → FirstUnit text
  return_alone : text ≡ 92 ∷ 13 ∷ [] → FirstUnit text
  return_other : (d : ℕ) (ds : List ℕ) → text ≡ 92 ∷ 13 ∷ d ∷ ds → (d == 10) ≡ false → units text ≡ (92 ∷ 13 ∷ []) ∷ units (d ∷ ds) → FirstUnit text
  other : (c : ℕ) (cs : List ℕ) → text ≡ 92 ∷ c ∷ cs → (c == 10) ≡ false → (c == 13) ≡ false → units text ≡ (92 ∷ c ∷ []) ∷ units cs → FirstUnit text

pub first_unit : (b : ℕ) (bs : List ℕ) → FirstUnit (b ∷ bs)
first_unit b bs = elim (cases_Bool (b == 92)) [
  | inr plain ↦ byte b bs refl plain (apart (b ∷ []) bs (λ x. rw plain refl))
  | inl slash ↦ let same : b ≡ 92 = eqb-true b 92 slash in rw same (escape bs)
]
  where
    escape : (bs : List ℕ) → FirstUnit (92 ∷ bs)
    escape [] = alone refl
    escape (c ∷ cs) = elim (cases_Bool (c == 10)) [
      | inl line ↦ let same : c ≡ 10 = eqb-true c 10 line in rw same (feed cs refl (apart (92 ∷ 10 ∷ []) cs (λ x. refl)))
      | inr no_line ↦ elim (cases_Bool (c == 13)) [
        | inl return ↦ let same : c ≡ 13 = eqb-true c 13 return in rw same (returned cs)
        | inr no_return ↦ other c cs refl no_line no_return (apart (92 ∷ c ∷ []) cs (λ x. rw no_return refl))
      ]
    ]
      where
        returned : (cs : List ℕ) → FirstUnit (92 ∷ 13 ∷ cs)
        returned [] = return_alone refl
        returned (d ∷ ds) = elim (cases_Bool (d == 10)) [
          | inl line ↦ let same : d ≡ 10 = eqb-true d 10 line in rw same (return_feed ds refl (apart (92 ∷ 13 ∷ 10 ∷ []) ds (λ x. refl)))
          | inr no_line ↦ return_other d ds refl no_line (grouped_apart escape_takes (92 ∷ 13 ∷ []) d ds (rw no_line refl))
        ]

-- Gaps.
abbrev stepped : Bool → ℕ → List ℕ → Bool
stepped inside b bs = elim (is_white inside b) [ true ↦ is_gap inside bs | false ↦ b == 92 && continues_gap inside bs ]

-- what a text is after its first byte
abbrev step_at : Bool → List ℕ → Bool
step_at inside [] = true
step_at inside (b ∷ bs) = stepped inside b bs

slash_white : (inside : Bool) → is_white inside 92 ≡ false
slash_white true = refl
slash_white false = refl

white_step : (inside : Bool) (b : ℕ) (bs : List ℕ) → is_white inside b ≡ true → stepped inside b bs ≡ is_gap inside bs
white_step inside b bs white = ap (λ w. elim w [ true ↦ is_gap inside bs | false ↦ b == 92 && continues_gap inside bs ]) white

other_step : (inside : Bool) (b : ℕ) (bs : List ℕ) → is_white inside b ≡ false → stepped inside b bs ≡ (b == 92 && continues_gap inside bs)
other_step inside b bs none = ap (λ w. elim w [ true ↦ is_gap inside bs | false ↦ b == 92 && continues_gap inside bs ]) none

slash_step : (inside : Bool) (xs : List ℕ) → stepped inside 92 xs ≡ continues_gap inside xs
slash_step inside xs = other_step inside 92 xs (slash_white inside)

alone_no_gap : (inside : Bool) → is_gap inside (92 ∷ []) ≡ false
alone_no_gap true = refl
alone_no_gap false = refl

plain_space : (inside : Bool) (b : ℕ) → (b == 92) ≡ false → is_space inside (b ∷ []) ≡ is_white inside b
plain_space inside b plain = elim (cases_Bool (is_white inside b)) [ inl white ↦ rw white refl | inr none ↦ rw (none, plain) refl ]

other_space : (inside : Bool) (c : ℕ) → (c == 10) ≡ false → (c == 13) ≡ false → is_space inside (92 ∷ c ∷ []) ≡ false
other_space inside c no_line no_return = rw (no_line, no_return) refl

continues_other : (inside : Bool) (c : ℕ) (cs : List ℕ) → (c == 10) ≡ false → (c == 13) ≡ false → continues_gap inside (c ∷ cs) ≡ false
continues_other inside c cs no_line no_return =
    ap (λ t. elim t [ true ↦ feeds_gap inside cs | false ↦ c == 10 && is_gap inside cs ]) no_return ∙ ap (λ t. t && is_gap inside cs) no_line

plain_step : (inside : Bool) (b : ℕ) (bs : List ℕ) → (b == 92) ≡ false → (is_white inside b && is_gap inside bs) ≡ stepped inside b bs
plain_step inside b bs plain = elim (cases_Bool (is_white inside b)) [
  | inl white ↦ ap (λ t. t && is_gap inside bs) white ∙ sym (white_step inside b bs white)
  | inr none ↦ ap (λ t. t && is_gap inside bs) none ∙ sym (other_step inside b bs none ∙ ap (λ t. t && continues_gap inside bs) plain)
]

gap_at : (inside : Bool) (text : List ℕ) → FirstUnit text → is_gap inside text ≡ step_at inside text
gap_at inside text (byte b bs is plain are) =
    ap (list_all (is_space inside)) are ∙ ap (λ t. t && is_gap inside bs) (plain_space inside b plain) ∙ plain_step inside b bs plain ∙ sym (ap (step_at inside) is)
gap_at inside text (feed bs is are) = ap (list_all (is_space inside)) are ∙ sym (ap (step_at inside) is ∙ slash_step inside (10 ∷ bs))
gap_at inside text (return_feed bs is are) = ap (list_all (is_space inside)) are ∙ sym (ap (step_at inside) is ∙ slash_step inside (13 ∷ 10 ∷ bs))
gap_at inside text (alone is) = ap (is_gap inside) is ∙ alone_no_gap inside ∙ sym (ap (step_at inside) is ∙ slash_step inside [])
gap_at inside text (return_alone is) = ap (is_gap inside) is ∙ sym (ap (step_at inside) is ∙ slash_step inside (13 ∷ []))
gap_at inside text (return_other d ds is no_line are) =
    ap (list_all (is_space inside)) are ∙ sym (ap (step_at inside) is ∙ slash_step inside (13 ∷ d ∷ ds) ∙ ap (λ t. t && is_gap inside ds) no_line)
gap_at inside text (other c cs is no_line no_return are) =
    ap (list_all (is_space inside)) are ∙ ap (λ t. t && is_gap inside cs) (other_space inside c no_line no_return)
    ∙ sym (ap (step_at inside) is ∙ slash_step inside (c ∷ cs) ∙ continues_other inside c cs no_line no_return)

pub gap_step : (inside : Bool) (b : ℕ) (bs : List ℕ) → is_gap inside (b ∷ bs) ≡ elim (is_white inside b) [ true ↦ is_gap inside bs | false ↦ b == 92 && continues_gap inside bs ]
gap_step inside b bs = gap_at inside (b ∷ bs) (first_unit b bs)

-- where a gap begins
abbrev begins_at : Bool → List ℕ → Bool
begins_at inside place = begins (is_white inside) place || continues place

begins_by : (inside : Bool) (text : List ℕ) → FirstUnit text → begins_gap inside text ≡ begins_at inside text
begins_by inside text (byte b bs is plain are) = rw are (rw is (elim (cases_Bool (is_white inside b)) [ inl white ↦ rw white refl | inr no_white ↦ rw (no_white, plain) refl ]))
begins_by inside text (feed bs is are) = rw are (rw is (rw (slash_white inside) refl))
begins_by inside text (return_feed bs is are) = rw are (rw is (rw (slash_white inside) refl))
begins_by inside text (alone is) = rw is (rw (slash_white inside) refl)
begins_by inside text (return_alone is) = rw is (rw (slash_white inside) refl)
begins_by inside text (return_other d ds is no_line are) = rw are (rw is (rw (slash_white inside, no_line) refl))
begins_by inside text (other c cs is no_line no_return are) = rw are (rw is (rw (slash_white inside, no_return, no_line) refl))

pub begins_is : (inside : Bool) (place : List ℕ) → begins_gap inside place ≡ (begins (is_white inside) place || continues place)
begins_is inside [] = refl
begins_is inside (b ∷ bs) = begins_by inside (b ∷ bs) (first_unit b bs)

-- The head of a line.
joined_from : (g xs : List ℕ) → concat (grouped_from escape_takes g xs) ≡ g ++ xs
joined_from g [] = refl
joined_from g (x ∷ xs) = elim (cases_Bool (escape_takes g x)) [
  | inl is ↦ rw (grouped_joins escape_takes g x xs is) (joined_from (g ++ x ∷ []) xs ∙ append_assoc g (x ∷ []) xs)
  | inr differs ↦ rw (grouped_apart escape_takes g x xs differs) (ap (λ (ys : List ℕ). g ++ ys) (joined_from (x ∷ []) xs))
]

-- the units are all of a text
pub units_joined : (bs : List ℕ) → concat (units bs) ≡ bs
units_joined [] = refl
units_joined (b ∷ bs) = joined_from (b ∷ []) bs

-- a unit that is no white space is the head
no_space : (first : Bool) (text u : List ℕ) (us : List (List ℕ)) → units text ≡ u ∷ us → is_space true u ≡ false → unit_head first (units text) ≡ cond first text []
no_space first text u us are none = ap (unit_head first) are ∙ rw (none, unit_head) (ap (λ (bs : List ℕ). cond first bs []) (ap concat (sym are) ∙ units_joined text))

-- white space is one byte
white_byte : (b : ℕ) → (b == 92) ≡ false → is_white true b ≡ true → not (is_one is_blank (b ∷ [])) ≡ (b == 10)
white_byte b plain white = grind (arith, nat_tests)

abbrev SameHead : List ℕ → Type 0
SameHead text = (first : Bool) → unit_head first (units text) ≡ head_from first text

unit_white : (first : Bool) (b : ℕ) (us : List (List ℕ)) → (b == 92) ≡ false → is_white true b ≡ true → unit_head first ((b ∷ []) ∷ us) ≡ unit_head (b == 10) us
unit_white first b us plain white =
    ap (λ t. elim t [ true ↦ unit_head (not (is_one is_blank (b ∷ []))) us | false ↦ cond first (concat ((b ∷ []) ∷ us)) [] ]) (plain_space true b plain ∙ white)
    ∙ ap (λ f. unit_head f us) (white_byte b plain white)

head_passes : (first : Bool) (b : ℕ) (bs : List ℕ) → is_white true b ≡ true → head_from first (b ∷ bs) ≡ head_from (b == 10) bs
head_passes first b bs white = rw (white, head_from) refl

head_stops : (first : Bool) (b : ℕ) (bs : List ℕ) → (b == 92) ≡ false → is_white true b ≡ false → head_from first (b ∷ bs) ≡ cond first (b ∷ bs) []
head_stops first b bs plain none = rw (none, plain, head_from) refl

head_return : (first : Bool) (d : ℕ) (ds : List ℕ) → (d == 10) ≡ false → head_from first (92 ∷ 13 ∷ d ∷ ds) ≡ cond first (92 ∷ 13 ∷ d ∷ ds) []
head_return first d ds no_line = rw (no_line, head_from) refl

head_other : (first : Bool) (c : ℕ) (cs : List ℕ) → (c == 10) ≡ false → (c == 13) ≡ false → head_from first (92 ∷ c ∷ cs) ≡ cond first (92 ∷ c ∷ cs) []
head_other first c cs no_line no_return = by_rest cs
  where
    by_rest : (cs : List ℕ) → head_from first (92 ∷ c ∷ cs) ≡ cond first (92 ∷ c ∷ cs) []
    by_rest [] = rw (no_line, no_return, head_from) refl
    by_rest (d ∷ ds) = rw (no_line, no_return, head_from) refl

head_by : (text : List ℕ) (n : ℕ) → length text ≤ n + 1 → ((ys : List ℕ) → length ys ≤ n → SameHead ys) → FirstUnit text → SameHead text
head_by text n fits again (byte b bs is plain are) first = elim (cases_Bool (is_white true b)) [
  | inl white ↦
      ap (unit_head first) are ∙ unit_white first b (units bs) plain white ∙ again bs (omega (arith, ap length is, fits)) (b == 10)
      ∙ sym (ap (head_from first) is ∙ head_passes first b bs white)
  | inr none ↦
      no_space first text (b ∷ []) (units bs) are (plain_space true b plain ∙ none) ∙ ap (λ (t : List ℕ). cond first t []) is
      ∙ sym (ap (head_from first) is ∙ head_stops first b bs plain none)
]
head_by text n fits again (feed bs is are) first = ap (unit_head first) are ∙ again bs (omega (arith, ap length is, fits)) true ∙ sym (ap (head_from first) is)
head_by text n fits again (return_feed bs is are) first = ap (unit_head first) are ∙ again bs (omega (arith, ap length is, fits)) true ∙ sym (ap (head_from first) is)
head_by text n fits again (alone is) first = ap (λ (t : List ℕ). unit_head first (units t)) is ∙ sym (ap (head_from first) is)
head_by text n fits again (return_alone is) first = ap (λ (t : List ℕ). unit_head first (units t)) is ∙ sym (ap (head_from first) is)
head_by text n fits again (return_other d ds is no_line are) first =
    no_space first text (92 ∷ 13 ∷ []) (units (d ∷ ds)) are refl ∙ ap (λ (t : List ℕ). cond first t []) is ∙ sym (ap (head_from first) is ∙ head_return first d ds no_line)
head_by text n fits again (other c cs is no_line no_return are) first =
    no_space first text (92 ∷ c ∷ []) (units cs) are (other_space true c no_line no_return) ∙ ap (λ (t : List ℕ). cond first t []) is
    ∙ sym (ap (head_from first) is ∙ head_other first c cs no_line no_return)

head_in : (n : ℕ) (text : List ℕ) → length text ≤ n → SameHead text
head_in n [] fits first = refl
head_in zero (b ∷ bs) fits first = absurd (omega arith)
head_in (suc n) (b ∷ bs) fits first = head_by (b ∷ bs) n (omega (arith, fits)) (λ ys less. head_in n ys less) (first_unit b bs) first

pub opener_is : (line : List ℕ) → opener line ≡ opener_of (word_at (head_from true line))
opener_is line = ap (λ (h : List ℕ). opener_of (word_at h)) (head_in (length line) line (omega arith) true)
