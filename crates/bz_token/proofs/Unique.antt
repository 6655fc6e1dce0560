-- A text is read in one way only.
use Rattle.std.proofs.Common.{◌≡◌, ℕ, ◌<◌, ◌≤◌, ◌==◌, ◌&&◌, ◌||◌, List, [], ◌∷◌, ◌++◌, length, Bool, true, false, not, refl, sym, ap, ap₂, subst, ◌∙◌, arith, inl, inr, length-append, append-nil, ◌⊎◌}
use Rattle.std.specs.Prelude.{Option, Some, None}
use Rattle.std.proofs.lemmas.Bool.{cases_Bool, cases_lt, and_parts, or_cases, false≢true, eqb-true, not-true}
use Rattle.bz_token.proofs.Units.{gap_step, begins_is}
use Rattle.bz_token.specs.declared.scan_string.Opening.{Opening}
use Rattle.bz_token.specs.declared.token.Kind.{Kind}
use Rattle.bz_token.specs.declared.token.Kind.TheVariants.{Identifier, Keyword, Integer, String, Operator, Newline, Comment, Kept}
use Rattle.bz_token.specs.Lexical.{is_keyword, is_name, is_text, is_string_kind, counts, IsToken}
use Rattle.bz_token.specs.Brackets.{is_inside, fits, open_after_token}
use Rattle.bz_token.specs.Reading.{is_gap, begins_gap, Piece, IsPiece, IsReading, open_after}
use Rattle.bz_token.proofs.Classes.{Class, letter, digit, quote, newline, hash, mark, unknown, class_of, can_start, text_class, empty_no_text, same_bytes}
use Rattle.bz_token.proofs.Ends.{no_string}
use Rattle.bz_token.specs.Strings.{is_string, opening}
use Rattle.bz_token.specs.Pieces.{is_blank, is_white}
use Rattle.bz_token.specs.private.Gaps.{continues_gap, feeds_gap, continues}

-- the longer of two fronts goes on from the shorter
pub longer_front : (xs ys a b : List ℕ) → xs ++ a ≡ ys ++ b → length xs ≤ length ys → (more : List ℕ) × (ys ≡ xs ++ more) × (a ≡ more ++ b)
longer_front [] ys a b same h = (ys, refl, same)
longer_front (x ∷ xs) [] a b same h = absurd (omega arith)
longer_front (x ∷ xs) (y ∷ ys) a b same h =
    let heads : x ≡ y = cc in
    let tails : xs ++ a ≡ ys ++ b = cc in
    let r = longer_front xs ys a b tails (omega arith) in
    (r.0, ap₂ (λ u v. u ∷ v) (sym heads) r.1, r.2)

pub same_fronts : (xs ys a b : List ℕ) → xs ++ a ≡ ys ++ b → length xs ≡ length ys → (xs ≡ ys) × (a ≡ b)
same_fronts [] [] a b same h = (refl, same)
same_fronts [] (y ∷ ys) a b same h = absurd (omega arith)
same_fronts (x ∷ xs) [] a b same h = absurd (omega arith)
same_fronts (x ∷ xs) (y ∷ ys) a b same h =
    let heads : x ≡ y = cc in
    let tails : xs ++ a ≡ ys ++ b = cc in
    let r = same_fronts xs ys a b tails (omega arith) in
    (ap₂ (λ u v. u ∷ v) heads r.0, r.1)

-- what is left of a gap after a gap is one
mutual
  pub gap_tail : (inside : Bool) (g more : List ℕ) → is_gap inside (g ++ more) ≡ true → is_gap inside g ≡ true → is_gap inside more ≡ true
  gap_tail inside [] more h g = h
  gap_tail inside (b ∷ bs) more h g = elim (cases_Bool (is_white inside b)) [
    | inl white ↦ gap_tail inside bs more (rw white at (sym (gap_step inside b (bs ++ more)) ∙ h)) (rw white at (sym (gap_step inside b bs) ∙ g))
    | inr other ↦
        let h' = rw other at (sym (gap_step inside b (bs ++ more)) ∙ h) in
        let g' = rw other at (sym (gap_step inside b bs) ∙ g) in
        continues_tail inside bs more (and_parts (b == 92) (continues_gap inside (bs ++ more)) h').1 (and_parts (b == 92) (continues_gap inside bs) g').1
  ]

  continues_tail : (inside : Bool) (g more : List ℕ) → continues_gap inside (g ++ more) ≡ true → continues_gap inside g ≡ true → is_gap inside more ≡ true
  continues_tail inside [] more h g = absurd (false≢true g)
  continues_tail inside (b ∷ bs) more h g = elim (cases_Bool (b == 13)) [
    | inl return ↦ feeds_tail inside bs more (rw (return, continues_gap) at h) (rw (return, continues_gap) at g)
    | inr other ↦
        let h' = rw (other, continues_gap) at h in
        let g' = rw (other, continues_gap) at g in
        gap_tail inside bs more (and_parts (b == 10) (is_gap inside (bs ++ more)) h').1 (and_parts (b == 10) (is_gap inside bs) g').1
  ]

  feeds_tail : (inside : Bool) (g more : List ℕ) → feeds_gap inside (g ++ more) ≡ true → feeds_gap inside g ≡ true → is_gap inside more ≡ true
  feeds_tail inside [] more h g = absurd (false≢true g)
  feeds_tail inside (b ∷ bs) more h g = gap_tail inside bs more (and_parts (b == 10) (is_gap inside (bs ++ more)) h).1 (and_parts (b == 10) (is_gap inside bs) g).1

-- a gap begins with white space or a backslash
gap_first : (inside : Bool) (b : ℕ) (bs : List ℕ) → is_gap inside (b ∷ bs) ≡ true → (is_white inside b || b == 92) ≡ true
gap_first inside b bs h = elim (cases_Bool (is_white inside b)) [
  | inl white ↦ rw white refl
  | inr other ↦ let p = and_parts (b == 92) (continues_gap inside bs) (rw other at (sym (gap_step inside b bs) ∙ h)) in rw (other, p.0) refl
]

-- a gap that is not empty begins one
pub gap_begins : (inside : Bool) (b : ℕ) (bs rest : List ℕ) → is_gap inside (b ∷ bs) ≡ true → begins_gap inside (b ∷ bs ++ rest) ≡ true
gap_begins inside b bs rest h = begins_is inside (b ∷ bs ++ rest) ∙ elim (cases_Bool (is_white inside b)) [
  | inl white ↦ rw white refl
  | inr other ↦
      let p = and_parts (b == 92) (continues_gap inside bs) (rw other at (sym (gap_step inside b bs) ∙ h)) in
      rw other (line bs p.0 p.1)
]
  where
    line : (bs : List ℕ) → (b == 92) ≡ true → continues_gap inside bs ≡ true → continues (b ∷ bs ++ rest) ≡ true
    line [] slash h = absurd (false≢true h)
    line (c ∷ bs) slash h = elim (cases_Bool (c == 13)) [
      | inr other ↦
          let same : b ≡ 92 = eqb-true b 92 slash in
          let next : c ≡ 10 = eqb-true c 10 (and_parts (c == 10) (is_gap inside bs) (rw (other, continues_gap) at h)).0 in
          rw (same, next) refl
      | inl return ↦
          let same : b ≡ 92 = eqb-true b 92 slash in
          let next : c ≡ 13 = eqb-true c 13 return in
          rw (same, next) (feeds bs (rw (return, continues_gap) at h))
    ]
      where
        feeds : (ds : List ℕ) → feeds_gap inside ds ≡ true → continues (92 ∷ 13 ∷ ds ++ rest) ≡ true
        feeds [] h = absurd (false≢true h)
        feeds (d ∷ ds) h = let third : d ≡ 10 = eqb-true d 10 (and_parts (d == 10) (is_gap inside ds) h).0 in rw third refl

pub blank_class : (b : ℕ) → is_blank b ≡ true → class_of b ≡ unknown
blank_class b h =
    elim (or_cases (b == 32 || b == 9) (b == 13) h) [
      | inr third ↦ let same : b ≡ 13 = eqb-true b 13 third in rw same refl
      | inl two ↦ elim (or_cases (b == 32) (b == 9) two) [
        | inl first ↦ let same : b ≡ 32 = eqb-true b 32 first in rw same refl
        | inr second ↦ let same : b ≡ 9 = eqb-true b 9 second in rw same refl
      ]
    ]

pub nothing_unknown : (kind : Kind) → can_start kind unknown ≡ true → ⊥
nothing_unknown Identifier h = false≢true h
nothing_unknown Keyword h = false≢true h
nothing_unknown Integer h = false≢true h
nothing_unknown String h = false≢true h
nothing_unknown Operator h = false≢true h
nothing_unknown Newline h = false≢true h
nothing_unknown Comment h = false≢true h
nothing_unknown Kept h = false≢true h

only_line : (kind : Kind) → can_start kind newline ≡ true → kind ≡ Newline
only_line Newline h = refl
only_line Identifier h = absurd (false≢true h)
only_line Keyword h = absurd (false≢true h)
only_line Integer h = absurd (false≢true h)
only_line String h = absurd (false≢true h)
only_line Operator h = absurd (false≢true h)
only_line Comment h = absurd (false≢true h)
only_line Kept h = absurd (false≢true h)

-- a token that fits begins with no byte of a gap
token_no_gap : (depth : ℕ) (opened : List ℕ) (kind : Kind) (b : ℕ) (bs : List ℕ) → is_text kind (b ∷ bs) ≡ true → fits depth opened kind (b ∷ bs) ≡ true → (is_white (is_inside opened) b || b == 92) ≡ true → ⊥
token_no_gap depth opened kind b bs is fit h =
    elim (or_cases (is_white (is_inside opened) b) (b == 92) h) [
      | inr slash ↦
          let same : b ≡ 92 = eqb-true b 92 slash in
          nothing_unknown kind (ap (λ x. can_start kind (class_of x)) (sym same) ∙ text_class kind b bs is)
      | inl white ↦ elim (or_cases (is_blank b) (is_inside opened && b == 10) white) [
        | inl blank ↦ nothing_unknown kind (ap (can_start kind) (sym (blank_class b blank)) ∙ text_class kind b bs is)
        | inr line ↦
            let parts = and_parts (is_inside opened) (b == 10) line in
            let same : b ≡ 10 = eqb-true b 10 parts.1 in
            let kind_is : kind ≡ Newline = only_line kind (ap (λ x. can_start kind (class_of x)) (sym same) ∙ text_class kind b bs is) in
            lines opened bs (subst (λ k. is_text k (b ∷ bs) ≡ true) kind_is is) (subst (λ k. fits depth opened k (b ∷ bs) ≡ true) kind_is fit) parts.0
      ]
    ]
  where
    lines : (opened bs : List ℕ) → is_text Newline (b ∷ bs) ≡ true → fits depth opened Newline (b ∷ bs) ≡ true → is_inside opened ≡ true → ⊥
    lines [] bs is fit inside = false≢true inside
    lines (a ∷ opened) [] is fit inside = false≢true fit
    lines (a ∷ opened) (c ∷ bs) is fit inside = more (same_bytes (b ∷ c ∷ bs) (10 ∷ []) is)
      where
        more : b ∷ c ∷ bs ≡ 10 ∷ [] → ⊥
        more e = cc

-- in a gap no token stands
pub no_token_in_gap : (depth : ℕ) (opened : List ℕ) (kind : Kind) (text x more y : List ℕ) → is_text kind text ≡ true → fits depth opened kind text ≡ true → text ++ x ≡ more ++ y → is_gap (is_inside opened) more ≡ true → 0 < length more → ⊥
no_token_in_gap depth opened kind text x [] y is fit same gap some = absurd (omega arith)
no_token_in_gap depth opened kind [] x (m ∷ more) y is fit same gap some = empty_no_text kind is
no_token_in_gap depth opened kind (t ∷ text) x (m ∷ more) y is fit same gap some =
    let heads : m ≡ t = cc in
    token_no_gap depth opened kind t text is fit (ap (λ b. is_white (is_inside opened) b || b == 92) (sym heads) ∙ gap_first (is_inside opened) m more gap)

-- of two gaps before tokens neither is longer
gap_shorter : (depth : ℕ) (opened g h x y : List ℕ) (kind : Kind) (text : List ℕ) → is_gap (is_inside opened) g ≡ true → is_gap (is_inside opened) h ≡ true → g ++ (text ++ x) ≡ h ++ y → is_text kind text ≡ true → fits depth opened kind text ≡ true → length h ≤ length g
gap_shorter depth opened g h x y kind text gap gap2 same is fit =
    elim (cases_lt (length g) (length h)) [
      | inr more ↦ more
      | inl less ↦
          let r = longer_front g h (text ++ x) y same (omega arith) in
          absurd (no_token_in_gap depth opened kind text x r.0 y is fit r.2 (gap_tail (is_inside opened) g r.0 (ap (is_gap (is_inside opened)) (sym r.1) ∙ gap2) gap) (omega (arith, ap length r.1, length-append g r.0)))
    ]

-- of two tokens at a place neither is longer
token_shorter : (k l : Kind) (s t a b : List ℕ) → IsToken k s a → IsToken l t b → s ++ a ≡ t ++ b → length t ≤ length s
token_shorter k l s t a b longest other same =
    elim (cases_lt (length s) (length t)) [
      | inr more ↦ more
      | inl less ↦
          let r = longer_front s t a b same (omega arith) in
          let none = longest.longest l r.0 b r.2 (ap (is_text l) (sym r.1) ∙ other.whole) (ap₂ (λ p x. counts p l x) same (sym r.1) ∙ other.counted) in
          absurd (omega (arith, ap length r.1, length-append s r.0, ap length none))
    ]

is_strings : (kind : Kind) → is_string_kind kind ≡ true → kind ≡ String
is_strings String h = refl
is_strings Identifier h = absurd (false≢true h)
is_strings Keyword h = absurd (false≢true h)
is_strings Integer h = absurd (false≢true h)
is_strings Operator h = absurd (false≢true h)
is_strings Newline h = absurd (false≢true h)
is_strings Comment h = absurd (false≢true h)
is_strings Kept h = absurd (false≢true h)

only_int : (kind : Kind) → can_start kind digit ≡ true → kind ≡ Integer
only_int Integer h = refl
only_int Identifier h = absurd (false≢true h)
only_int Keyword h = absurd (false≢true h)
only_int String h = absurd (false≢true h)
only_int Operator h = absurd (false≢true h)
only_int Newline h = absurd (false≢true h)
only_int Comment h = absurd (false≢true h)
only_int Kept h = absurd (false≢true h)

only_text : (kind : Kind) → can_start kind quote ≡ true → kind ≡ String
only_text String h = refl
only_text Identifier h = absurd (false≢true h)
only_text Keyword h = absurd (false≢true h)
only_text Integer h = absurd (false≢true h)
only_text Operator h = absurd (false≢true h)
only_text Newline h = absurd (false≢true h)
only_text Comment h = absurd (false≢true h)
only_text Kept h = absurd (false≢true h)

only_comment : (kind : Kind) → can_start kind hash ≡ true → kind ≡ Comment
only_comment Comment h = refl
only_comment Identifier h = absurd (false≢true h)
only_comment Keyword h = absurd (false≢true h)
only_comment Integer h = absurd (false≢true h)
only_comment String h = absurd (false≢true h)
only_comment Operator h = absurd (false≢true h)
only_comment Newline h = absurd (false≢true h)
only_comment Kept h = absurd (false≢true h)

only_operator : (kind : Kind) → can_start kind mark ≡ true → kind ≡ Operator
only_operator Operator h = refl
only_operator Identifier h = absurd (false≢true h)
only_operator Keyword h = absurd (false≢true h)
only_operator Integer h = absurd (false≢true h)
only_operator String h = absurd (false≢true h)
only_operator Newline h = absurd (false≢true h)
only_operator Comment h = absurd (false≢true h)
only_operator Kept h = absurd (false≢true h)

name_kind : (kind : Kind) (text : List ℕ) → can_start kind letter ≡ true → is_text kind text ≡ true → (is_string text ≡ true → ⊥) → (kind ≡ Identifier) ⊎ (kind ≡ Keyword)
name_kind Identifier text h is none = inl refl
name_kind Keyword text h is none = inr refl
name_kind String text h is none = absurd (none is)
name_kind Integer text h is none = absurd (false≢true h)
name_kind Operator text h is none = absurd (false≢true h)
name_kind Newline text h is none = absurd (false≢true h)
name_kind Comment text h is none = absurd (false≢true h)
name_kind Kept text h is none = absurd (false≢true h)

-- a text that counts at a place has one kind
kinds_same : (k l : Kind) (text rest : List ℕ) → is_text k text ≡ true → is_text l text ≡ true → counts (text ++ rest) k text ≡ true → counts (text ++ rest) l text ≡ true → k ≡ l
kinds_same k l [] rest a b ca cb = absurd (empty_no_text k a)
kinds_same k l (x ∷ text) rest a b ca cb = by_place (opening (x ∷ text ++ rest)) refl
  where
    apart : is_text Identifier (x ∷ text) ≡ true → is_text Keyword (x ∷ text) ≡ true → ⊥
    apart i w = false≢true (sym (not-true _ (and_parts (is_name (x ∷ text)) (not (is_keyword (x ∷ text))) i).1) ∙ w)

    by_class : (c : Class) → can_start k c ≡ true → can_start l c ≡ true → (is_string (x ∷ text) ≡ true → ⊥) → k ≡ l
    by_class letter p q none = elim (name_kind k (x ∷ text) p a none) [
      | inl i ↦ elim (name_kind l (x ∷ text) q b none) [
        | inl j ↦ i ∙ sym j
        | inr w ↦ absurd (apart (subst (λ z. is_text z (x ∷ text) ≡ true) i a) (subst (λ z. is_text z (x ∷ text) ≡ true) w b))
      ]
      | inr v ↦ elim (name_kind l (x ∷ text) q b none) [
        | inl j ↦ absurd (apart (subst (λ z. is_text z (x ∷ text) ≡ true) j b) (subst (λ z. is_text z (x ∷ text) ≡ true) v a))
        | inr w ↦ v ∙ sym w
      ]
    ]
    by_class digit p q none = only_int k p ∙ sym (only_int l q)
    by_class quote p q none = only_text k p ∙ sym (only_text l q)
    by_class newline p q none = only_line k p ∙ sym (only_line l q)
    by_class hash p q none = only_comment k p ∙ sym (only_comment l q)
    by_class mark p q none = only_operator k p ∙ sym (only_operator l q)
    by_class unknown p q none = absurd (nothing_unknown k p)

    by_place : (o : Option Opening) → opening (x ∷ text ++ rest) ≡ o → k ≡ l
    by_place (Some o) e =
        let s = and_parts (is_string_kind k) _ (rw (e, counts) at ca) in
        let t = and_parts (is_string_kind l) _ (rw (e, counts) at cb) in
        is_strings k s.0 ∙ sym (is_strings l t.0)
    by_place None e = by_class (class_of x) (text_class k x text a) (text_class l x text b) (λ s. no_string (x ∷ text ++ rest) (x ∷ text) rest e refl s)

piece_same : (p q : Piece) → p.gap ≡ q.gap → p.kind ≡ q.kind → p.text ≡ q.text → p ≡ q
piece_same p q g k t = λ i. record { gap = g i; kind = k i; text = t i }

-- at a place stands one piece
pub one_piece : (depth : ℕ) (opened : List ℕ) (p q : Piece) (bytes a b : List ℕ) → IsPiece depth opened p bytes a → IsPiece depth opened q bytes b → (p ≡ q) × (a ≡ b)
one_piece depth opened p q bytes a b x y =
    let both : p.gap ++ (p.text ++ a) ≡ q.gap ++ (q.text ++ b) = sym x.bytes_are ∙ y.bytes_are in
    let gaps : length p.gap ≡ length q.gap = omega (arith, gap_shorter depth opened p.gap q.gap a (q.text ++ b) p.kind p.text x.gap y.gap both x.token.whole x.fits, gap_shorter depth opened q.gap p.gap b (p.text ++ a) q.kind q.text y.gap x.gap (sym both) y.token.whole y.fits) in
    let following = same_fronts p.gap q.gap (p.text ++ a) (q.text ++ b) both gaps in
    let texts : length p.text ≡ length q.text = omega (arith, token_shorter p.kind q.kind p.text q.text a b x.token y.token following.1, token_shorter q.kind p.kind q.text p.text b a y.token x.token (sym following.1)) in
    let after = same_fronts p.text q.text a b following.1 texts in
    let kind : p.kind ≡ q.kind = kinds_same p.kind q.kind p.text a x.token.whole (ap (is_text q.kind) after.0 ∙ y.token.whole) x.token.counted (ap₂ (λ u v. counts u q.kind v) following.1 after.0 ∙ y.token.counted) in
    (piece_same p q following.0 kind after.0, after.1)

-- no piece stands here
abbrev pub IsStuck : ℕ → List ℕ → List ℕ → Type 0
IsStuck depth opened rest = (p : Piece) (after : List ℕ) → IsPiece depth opened p rest after → ⊥

-- a reading that cannot go on is the only one
pub one_reading : (depth : ℕ) (opened : List ℕ) (ps qs : List Piece) (r s bytes : List ℕ) → IsReading depth opened ps r bytes → IsStuck depth (open_after opened ps) r → IsReading depth opened qs s bytes → IsStuck depth (open_after opened qs) s → (ps ≡ qs) × (r ≡ s)
one_reading depth opened [] [] r s bytes a x b y = (refl, sym a ∙ b)
one_reading depth opened [] (q ∷ qs) r s bytes a x b y = absurd (x q b.0 (subst (λ z. IsPiece depth opened q z b.0) a b.1))
one_reading depth opened (p ∷ ps) [] r s bytes a x b y = absurd (y p a.0 (subst (λ z. IsPiece depth opened p z a.0) b a.1))
one_reading depth opened (p ∷ ps) (q ∷ qs) r s bytes a x b y =
    let one = one_piece depth opened p q bytes a.0 b.0 a.1 b.1 in
    let opens : open_after_token opened q.text ≡ open_after_token opened p.text = ap (λ z. open_after_token opened z.text) (sym one.0) in
    let more = one_reading depth (open_after_token opened p.text) ps qs r s a.0 a.2 x
    (subst (λ z. IsReading depth z qs s a.0) opens (subst (λ z. IsReading depth (open_after_token opened q.text) qs s z) (sym one.1) b.2))
    (subst (λ z. IsStuck depth (open_after z qs) s) opens y) in
    (ap₂ (λ u us. u ∷ us) one.0 more.0, more.1)

-- in a gap no piece stands
pub gap_stuck : (depth : ℕ) (opened rest : List ℕ) → is_gap (is_inside opened) rest ≡ true → IsStuck depth opened rest
gap_stuck depth opened rest gap p after piece =
    let tail = gap_tail (is_inside opened) p.gap (p.text ++ after) (ap (is_gap (is_inside opened)) (sym piece.bytes_are) ∙ gap) piece.gap in
    no_token_in_gap depth opened p.kind p.text after (p.text ++ after) [] piece.token.whole piece.fits (sym (append-nil (p.text ++ after))) tail (text_some p.kind p.text after piece.token.whole)
  where
    text_some : (kind : Kind) (text after : List ℕ) → is_text kind text ≡ true → 0 < length (text ++ after)
    text_some kind [] after is = absurd (empty_no_text kind is)
    text_some kind (t ∷ text) after is = omega arith

-- after a gap that does not go on no piece stands where no token does
pub place_stuck : (depth : ℕ) (opened gap place : List ℕ) → is_gap (is_inside opened) gap ≡ true → begins_gap (is_inside opened) place ≡ false
    → ((kind : Kind) (text after : List ℕ) → place ≡ text ++ after → IsToken kind text after → fits depth opened kind text ≡ true → ⊥) → IsStuck depth opened (gap ++ place)
place_stuck depth opened gap place is none never p after piece =
    elim (cases_lt (length p.gap) (length gap)) [
      | inl less ↦
          let r = longer_front p.gap gap (p.text ++ after) place (sym piece.bytes_are) (omega arith) in
          no_token_in_gap depth opened p.kind p.text after r.0 place piece.token.whole piece.fits r.2 (gap_tail (is_inside opened) p.gap r.0 (ap (is_gap (is_inside opened)) (sym r.1) ∙ is) piece.gap) (omega (arith, ap length r.1, length-append p.gap r.0))
      | inr more ↦
          let r = longer_front gap p.gap place (p.text ++ after) piece.bytes_are more in
          at_place r.0 r.2 (gap_tail (is_inside opened) gap r.0 (ap (is_gap (is_inside opened)) (sym r.1) ∙ piece.gap) is)
    ]
  where
    at_place : (more : List ℕ) → place ≡ more ++ (p.text ++ after) → is_gap (is_inside opened) more ≡ true → ⊥
    at_place [] same gap = never p.kind p.text after same piece.token piece.fits
    at_place (m ∷ more) same gap = false≢true (sym none ∙ ap (begins_gap (is_inside opened)) same ∙ gap_begins (is_inside opened) m more (p.text ++ after) gap)
