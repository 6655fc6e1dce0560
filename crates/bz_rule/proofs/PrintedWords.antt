-- Words that are plain, and literals that have them as they stand.
use Rattle.std.proofs.Common.{◌≡◌, ℕ, ◌==◌, ◌||◌, ◌+◌, ◌-◌, ◌<◌, ◌≤◌, suc, not, nat_le, Bool, true, false, List, [], ◌∷◌, ◌++◌, Option, Some, None, IfSome, Bor, get_or, length, take, drop, refl, sym, ap, subst, ◌∙◌, arith, length-drop, if◌then◌else◌}
use Rattle.std.specs.List.{list_any, flat_map}
use Rattle.std.specs.Str.Pattern.{GetsRange}
use Rattle.std.proofs.lemmas.List.{length-take, take_all, take_more}
use Rattle.std.proofs.lemmas.Bool.{false≢true}
use Rattle.std.proofs.lemmas.Bool.Decides.{nat_tests}
use Rattle.bz_token.specs.Common.{map_or}
use Rattle.bz_label.specs.Values.{quoted, value_of, written}
use Rattle.bz_label.proofs.ReadBack.{quoted_value}
use Rattle.bz_rule.specs.Print.{is_plain, word_form}
use Rattle.bz_rule.specs.private.PrintSteps.{is_special}

or_same : (x : Bool) → x || x ≡ x
or_same true = refl
or_same false = refl

-- the quote once more
pub same_special : (word : List ℕ) → list_any (is_special 34) word ≡ list_any (λ b. b == 34 || nat_le b 32) word
same_special [] = refl
same_special (b ∷ bs) = λ i. (or_same (b == 34) i || nat_le b 32) || same_special bs i

-- no special byte
record IsOrdinary (b : ℕ) : Type 0 where
  quote : b == 34 ≡ false
  escape : b == 92 ≡ false
  above : nat_le b 32 ≡ false

or_false : (x y : Bool) → (x || y) ≡ false → (x ≡ false) × (y ≡ false)
or_false true y h = absurd (false≢true (sym h))
or_false false y h = (refl, h)

ordinary : (b : ℕ) → is_special 92 b ≡ false → IsOrdinary b
ordinary b h =
    let both = or_false (b == 34 || b == 92) (nat_le b 32) h in
    let bytes = or_false (b == 34) (b == 92) both.0 in
    record { quote = bytes.0; escape = bytes.1; above = both.1 }

-- it is written as itself
written_alone : (b : ℕ) → IsOrdinary b → written b ≡ b ∷ []
written_alone b o =
    let line : b == 10 ≡ false = grind (arith, nat_tests, o.above) in
    let return : b == 13 ≡ false = grind (arith, nat_tests, o.above) in
    let tab : b == 9 ≡ false = grind (arith, nat_tests, o.above) in
    rw (o.escape, o.quote, line, return, tab) refl

all_alone : (word : List ℕ) → list_any (is_special 92) word ≡ false → flat_map written word ≡ word
all_alone [] h = refl
all_alone (b ∷ bs) h =
    let both = or_false (is_special 92 b) (list_any (is_special 92) bs) h in
    λ i. written_alone b (ordinary b both.0) i ++ all_alone bs both.1 i

none_plain : (word : List ℕ) → list_any (is_special 92) word ≡ false → list_any (λ b. b == 34 || nat_le b 32) word ≡ false
none_plain [] h = refl
none_plain (b ∷ bs) h =
    let both = or_false (is_special 92 b) (list_any (is_special 92) bs) h in
    let o = ordinary b both.0 in
    rw (o.quote, o.above) (none_plain bs both.1)

-- a literal of a word without special bytes has it as its value
bare_value : (text word : List ℕ) → text ≡ 34 ∷ (word ++ 34 ∷ []) → list_any (is_special 92) word ≡ false → value_of text ≡ Some word
bare_value text word is none = ap value_of (is ∙ ap (λ (v : List ℕ). 34 ∷ (v ++ 34 ∷ [])) (sym (all_alone word none))) ∙ quoted_value word

bare_plain : (word : List ℕ) → 0 < length word → list_any (is_special 92) word ≡ false → is_plain word ≡ true
bare_plain [] some none = absurd (omega (arith, some))
bare_plain (b ∷ bs) some none = ap not (none_plain (b ∷ bs) none)

-- what stands between the first byte and the last
abbrev inner : List ℕ → List ℕ
inner text = take (length text - 1 - 1) (drop 1 text)

framed : (text : List ℕ) → 2 ≤ length text → get_or text 0 0 ≡ 34 → get_or text (length text - 1) 0 ≡ 34 → text ≡ 34 ∷ (inner text ++ 34 ∷ [])
framed [] long first last = absurd (omega (arith, long))
framed (q ∷ rest) long first last =
    let index : length (q ∷ rest) - 1 ≡ suc (length rest - 1) = omega (arith, long) in
    let size : length rest - 1 ≡ length (q ∷ rest) - 1 - 1 = omega (arith, long) in
    let end : get_or rest (length rest - 1) 0 ≡ 34 = sym (ap (λ (n : ℕ). get_or (q ∷ rest) n 0) index) ∙ last in
    let whole : rest ≡ take (length rest - 1) rest ++ get_or rest (length rest - 1) 0 ∷ [] =
    sym (take_all (length rest - 1 + 1) rest (omega (arith, long))) ∙ take_more rest (length rest - 1) 0 (omega (arith, long)) in
    (λ i. first i ∷ (whole ∙ (λ j. take (size j) rest ++ end j ∷ [])) i)

-- a slice of the text
sliced : (P : List ℕ → Type 0) (text : List ℕ) (o : Option (Bor (List ℕ))) → GetsRange text 1 (length text - 1) o → P (inner text) → IfSome o (λ word. P word.now)
sliced P text None gets p = tt
sliced P text (Some word) gets p = subst P (sym gets.0) p

pub bare_got : (text bytes : List ℕ) (o : Option (Bor (List ℕ))) → bytes ≡ text → 2 ≤ length bytes → get_or bytes 0 0 ≡ 34 → get_or bytes (length bytes - 1) 0 ≡ 34
    → list_any (is_special 92) (inner bytes) ≡ false → GetsRange text 1 (length text - 1) o → IfSome o (λ word. value_of text ≡ Some word.now)
bare_got text bytes o same long first last none gets =
    let is : value_of text ≡ Some (inner text) =
    subst (λ (t : List ℕ). value_of t ≡ Some (inner t)) same (bare_value bytes (inner bytes) (framed bytes long first last) none) in
    sliced (λ word. value_of text ≡ Some word) text o gets is

pub bare_good : (text bytes : List ℕ) (o : Option (Bor (List ℕ))) → bytes ≡ text → 3 ≤ length bytes → list_any (is_special 92) (inner bytes) ≡ false
    → GetsRange text 1 (length text - 1) o → IfSome o (λ word. is_plain word.now ≡ true)
bare_good text bytes o same long none gets =
    let some : 0 < length (inner bytes) = omega (arith, length-take (length bytes - 1 - 1) (drop 1 bytes), length-drop 1 bytes, long) in
    let is : is_plain (inner text) ≡ true = subst (λ (t : List ℕ). is_plain (inner t) ≡ true) same (bare_plain (inner bytes) some none) in
    sliced (λ word. is_plain word ≡ true) text o gets is

-- the word of a literal that has this value
pub plain_word : (text word : List ℕ) → value_of text ≡ Some word → is_plain word ≡ true → word ≡ map_or [] word_form (value_of text)
plain_word text word value plain = sym (ap (map_or [] word_form) value ∙ ap (λ (is : Bool). if is then word else quoted word) plain)
