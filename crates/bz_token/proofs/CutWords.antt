-- The first word of a text, and what the bytes ahead say of it.
use Rattle.std.proofs.Common.{◌≡◌, ℕ, ◌<◌, ◌≤◌, ◌==◌, ◌||◌, ◌&&◌, ◌⊎◌, List, [], ◌∷◌, ◌++◌, Bool, true, false, not, cond, length, take, drop, get_or, bytes_eq, codes, refl, sym, ap, ◌∙◌, arith, inl, inr, append-nil, take-append-drop}
use Rattle.std.proofs.lemmas.Bool.{cases_Bool, and_parts, or_parts, true≢false}
use Rattle.std.proofs.lemmas.List.Sums.{take_while-cons}
use Rattle.std.proofs.lemmas.Bool.Decides.{Decides-eqb}
use Rattle.std.proofs.lemmas.Slice.Eq.{bytes_eq-Decides}
use Rattle.std.specs.List.{list_all, list_any}
use Rattle.bz_token.specs.declared.cutter.block.Opener.{Opener}
use Rattle.bz_token.specs.declared.cutter.block.Opener.TheVariants.{Def, For, If}
use Rattle.bz_token.specs.declared.cutter.Next.{Next}
use Rattle.bz_token.specs.declared.cutter.Next.TheVariants.{Goes, Ends, Short}
use Rattle.bz_token.specs.Lexical.{is_word_byte}
use Rattle.bz_token.specs.Blocks.{word_at, has_branch, goes_on}
use Rattle.bz_token.specs.private.Decided.{DecidesAhead, is_branch_front}
use Rattle.bz_token.specs.Pieces.{is_white}

word_cons : (b : ℕ) (bs : List ℕ) → word_at (b ∷ bs) ≡ cond (is_word_byte b) (b ∷ word_at bs) []
word_cons b bs = take_while-cons is_word_byte b bs

same_byte : (b : ℕ) → (b == b) ≡ true
same_byte b = (Decides-eqb b b).1 refl

-- a text that begins with a word
front_word : (word rest : List ℕ) → list_all is_word_byte word ≡ true → bytes_eq (word_at (word ++ rest)) word ≡ bytes_eq (word_at rest) []
front_word [] rest h = refl
front_word (c ∷ cs) rest h =
    let parts = and_parts (is_word_byte c) (list_all is_word_byte cs) h in
    ap (λ t. bytes_eq t (c ∷ cs)) (word_cons c (cs ++ rest) ∙ ap (λ t. cond t (c ∷ word_at (cs ++ rest)) []) parts.0)
    ∙ ap (λ t. t && bytes_eq (word_at (cs ++ rest)) cs) (same_byte c)
    ∙ front_word cs rest parts.1

no_word : (b : ℕ) (bs : List ℕ) → bytes_eq (word_at (b ∷ bs)) [] ≡ not (is_word_byte b)
no_word b bs = ap (λ t. bytes_eq t []) (word_cons b bs) ∙ none (is_word_byte b) where
  none : (w : Bool) → bytes_eq (cond w (b ∷ word_at bs) []) [] ≡ not w
  none true = refl
  none false = refl

-- a text that a word was taken off from the front
stripped : (text word rest : List ℕ) → list_all is_word_byte word ≡ true → bytes_eq (take (length word) text) word ≡ true → rest ≡ drop (length word) text → bytes_eq (word_at text) word ≡ bytes_eq (word_at rest) []
stripped text word rest h e after =
    let front : take (length word) text ≡ word = (bytes_eq-Decides (take (length word) text) word).0 e in
    let whole : text ≡ word ++ rest = sym (take-append-drop (length word) text) ∙ (λ i. front i ++ sym after i) in
    ap (λ t. bytes_eq (word_at t) word) whole ∙ front_word word rest h

pub word_ends : (text word rest : List ℕ) → list_all is_word_byte word ≡ true → bytes_eq (take (length word) text) word ≡ true → rest ≡ drop (length word) text → length rest < 1 → true ≡ bytes_eq (word_at text) word
word_ends text word [] h e after few = sym (stripped text word [] h e after)
word_ends text word (b ∷ bs) h e after few = absurd (omega (arith, few))

pub word_goes : (text word rest : List ℕ) → list_all is_word_byte word ≡ true → bytes_eq (take (length word) text) word ≡ true → rest ≡ drop (length word) text → 1 ≤ length rest → not (is_word_byte (get_or rest 0 0)) ≡ bytes_eq (word_at text) word
word_goes text word [] h e after some = absurd (omega (arith, some))
word_goes text word (b ∷ bs) h e after some = sym (stripped text word (b ∷ bs) h e after ∙ no_word b bs)

-- a word against a longer one, head by head
word_head : (a : ℕ) (text : List ℕ) (c : ℕ) (cs : List ℕ) → is_word_byte a ≡ true → bytes_eq (word_at (a ∷ text)) (c ∷ cs) ≡ ((a == c) && bytes_eq (word_at text) cs)
word_head a text c cs is = ap (λ t. bytes_eq t (c ∷ cs)) (word_cons a text ∙ ap (λ t. cond t (a ∷ word_at text) []) is)

word_stops : (a : ℕ) (text : List ℕ) (c : ℕ) (cs : List ℕ) → is_word_byte a ≡ false → bytes_eq (word_at (a ∷ text)) (c ∷ cs) ≡ false
word_stops a text c cs differs = ap (λ t. bytes_eq t (c ∷ cs)) (word_cons a text ∙ ap (λ t. cond t (a ∷ word_at text) []) differs)

-- more bytes than the word has decide
pub word_settled : (ahead rest word : List ℕ) → length word < length ahead → bytes_eq (word_at (ahead ++ rest)) word ≡ bytes_eq (word_at ahead) word
word_settled [] rest word h = absurd (omega (arith, h))
word_settled (a ∷ as_) rest [] h = no_word a (as_ ++ rest) ∙ sym (no_word a as_)
word_settled (a ∷ as_) rest (c ∷ cs) h = elim (cases_Bool (is_word_byte a)) [
  | inl is ↦
      let less : length cs < length as_ = omega (arith, h) in
      word_head a (as_ ++ rest) c cs is ∙ ap (λ t. (a == c) && t) (word_settled as_ rest cs less) ∙ sym (word_head a as_ c cs is)
  | inr differs ↦ word_stops a (as_ ++ rest) c cs differs ∙ sym (word_stops a as_ c cs differs)
]

-- bytes that are no front of the word, and no more than it has
pub not_front : (ahead rest word : List ℕ) → length ahead ≤ length word → bytes_eq ahead (take (length ahead) word) ≡ false → bytes_eq (word_at (ahead ++ rest)) word ≡ false
not_front [] rest word h e = absurd (true≢false e)
not_front (a ∷ as_) rest [] h e = absurd (omega (arith, h))
not_front (a ∷ as_) rest (c ∷ cs) h e = elim (cases_Bool (is_word_byte a)) [
  | inr differs ↦ word_stops a (as_ ++ rest) c cs differs
  | inl is ↦ word_head a (as_ ++ rest) c cs is ∙ elim (cases_Bool (a == c)) [
    | inr other ↦ ap (λ t. t && bytes_eq (word_at (as_ ++ rest)) cs) other
    | inl same ↦
        let less : length as_ ≤ length cs = omega (arith, h) in
        let below : bytes_eq as_ (take (length as_) cs) ≡ false = sym (ap (λ t. t && bytes_eq as_ (take (length as_) cs)) same) ∙ e in
        ap (λ t. t && bytes_eq (word_at (as_ ++ rest)) cs) same ∙ not_front as_ rest cs less below
  ]
]

-- an x after so few bytes makes another word
pub spoiled : (ahead word : List ℕ) → length ahead ≤ length word → list_any (λ c. 120 == c) word ≡ false → bytes_eq (word_at (ahead ++ 120 ∷ [])) word ≡ false
spoiled [] [] h none = refl
spoiled [] (c ∷ cs) h none = word_head 120 [] c cs refl ∙ ap (λ t. t && bytes_eq [] cs) (or_parts (120 == c) (list_any (λ c. 120 == c) cs) none).0
spoiled (a ∷ as_) [] h none = absurd (omega (arith, h))
spoiled (a ∷ as_) (c ∷ cs) h none = elim (cases_Bool (is_word_byte a)) [
  | inr differs ↦ word_stops a (as_ ++ 120 ∷ []) c cs differs
  | inl is ↦
      let less : length as_ ≤ length cs = omega (arith, h) in
      let rest = spoiled as_ cs less (or_parts (120 == c) (list_any (λ c. 120 == c) cs) none).1 in
      word_head a (as_ ++ 120 ∷ []) c cs is ∙ ap (λ t. (a == c) && t) rest ∙ and_false (a == c)
] where
  and_false : (t : Bool) → (t && false) ≡ false
  and_false true = refl
  and_false false = refl

-- the words of an `if`
abbrev elif_word : List ℕ
elif_word = codes "elif"

abbrev else_word : List ℕ
else_word = codes "else"

pub branch_settled : (ahead rest : List ℕ) (at_end : Bool) → (at_end ≡ true) ⊎ ((at_end ≡ false) × (4 < length ahead)) → (at_end ≡ true → rest ≡ []) → has_branch If (ahead ++ rest) ≡ has_branch If ahead
branch_settled ahead rest at_end (inl ended) last = ap (has_branch If) (ap (λ t. ahead ++ t) (last ended) ∙ append-nil ahead)
branch_settled ahead rest at_end (inr long) last = λ i. word_settled ahead rest elif_word long.1 i || word_settled ahead rest else_word long.1 i

pub branch_none : (ahead rest : List ℕ) → length ahead ≤ 4 → is_branch_front ahead ≡ false → has_branch If (ahead ++ rest) ≡ false
branch_none ahead rest few none =
    let parts = or_parts (bytes_eq ahead (take (length ahead) elif_word)) (bytes_eq ahead (take (length ahead) else_word)) none in
    λ i. not_front ahead rest elif_word few parts.0 i || not_front ahead rest else_word few parts.1 i

front_whole : (ahead word : List ℕ) → bytes_eq ahead (take (length ahead) word) ≡ true → ahead ++ drop (length ahead) word ≡ word
front_whole ahead word e =
    ap (λ t. t ++ drop (length ahead) word) ((bytes_eq-Decides ahead (take (length ahead) word)).0 e) ∙ take-append-drop (length ahead) word

pub branch_goes : (ahead : List ℕ) → is_branch_front ahead ≡ true → (rest : List ℕ) × (has_branch If (ahead ++ rest) ≡ true)
branch_goes ahead front = elim (cases_Bool (bytes_eq ahead (take (length ahead) elif_word))) [
  | inl is ↦ (drop (length ahead) elif_word, ap (has_branch If) (front_whole ahead elif_word is))
  | inr differs ↦
      let other : bytes_eq ahead (take (length ahead) else_word) ≡ true = sym (ap (λ t. t || bytes_eq ahead (take (length ahead) else_word)) differs) ∙ front in
      (drop (length ahead) else_word, ap (has_branch If) (front_whole ahead else_word other))
]

pub branch_stops : (ahead : List ℕ) → length ahead ≤ 4 → (rest : List ℕ) × (has_branch If (ahead ++ rest) ≡ false)
branch_stops ahead few = (120 ∷ [], λ i. spoiled ahead elif_word few refl i || spoiled ahead else_word few refl i)

-- nothing ahead decides nothing
x_stops : (word : Opener) → goes_on word (120 ∷ []) ≡ false
x_stops Def = refl
x_stops For = refl
x_stops If = refl

pub undecided : (word : Opener) (ahead : List ℕ) → length ahead ≡ 0 → ((rest : List ℕ) × (goes_on word (ahead ++ rest) ≡ true)) × ((rest : List ℕ) × (goes_on word (ahead ++ rest) ≡ false))
undecided word [] h = ((32 ∷ [], refl), (120 ∷ [], x_stops word))
undecided word (a ∷ as_) h = absurd (omega (arith, h))

-- past white space the branches alone decide
goes_branch : (a : ℕ) (bs : List ℕ) → is_white true a ≡ false → goes_on If (a ∷ bs) ≡ has_branch If (a ∷ bs)
goes_branch a bs w = ap (λ t. t || has_branch If (a ∷ bs)) w

decides_branch : (next : Next) (at_end : Bool) (a : ℕ) (bs : List ℕ) → is_white true a ≡ false → DecidesAhead (has_branch If) next at_end (a ∷ bs) → DecidesAhead (goes_on If) next at_end (a ∷ bs)
decides_branch Goes at_end a bs w d = λ rest last. goes_branch a (bs ++ rest) w ∙ d rest last
decides_branch Ends at_end a bs w d = λ rest last. goes_branch a (bs ++ rest) w ∙ d rest last
decides_branch Short at_end a bs w d = (d.0, d.1, (d.2.0, goes_branch a (bs ++ d.2.0) w ∙ d.2.1), (d.3.0, goes_branch a (bs ++ d.3.0) w ∙ d.3.1))

pub decides_if : (word : Opener) (next : Next) (at_end : Bool) (ahead : List ℕ) → word ≡ If → 1 ≤ length ahead → is_white true (get_or ahead 0 0) ≡ false → DecidesAhead (has_branch If) next at_end ahead → DecidesAhead (goes_on word) next at_end ahead
decides_if word next at_end [] is some w d = absurd (omega (arith, some))
decides_if word next at_end (a ∷ bs) is some w d = rw is (decides_branch next at_end a bs w d)
