-- Where an opened literal stands in its text.
use Rattle.std.proofs.Common.{◌≡◌, ℕ, suc, ◌+◌, ◌-◌, ◌<◌, ◌≤◌, List, [], ◌∷◌, ◌++◌, length, drop, get_or, Option, Some, None, sym, ap, ◌∙◌, arith}
use Rattle.std.specs.Prelude.{IfSome, IfNone, MatchOption}
use Rattle.std.specs.Str.{IsUtf8, IsCharBoundary}
use Rattle.std.proofs.lemmas.List.{length-append, get_or-append-add, get_or-drop}
use Rattle.std.proofs.lemmas.Str.{IsCharBoundary-before_ascii}
use Rattle.bz_label.proofs.Decoding.{boundary_after}
use Rattle.bz_label.specs.declared.literal.Literal.{Literal}
use Rattle.bz_label.specs.private.ByteSteps.{StandsIn}

stands : (text literal : List ℕ) (l : Literal) → length literal + 1 ≡ length text → literal ≡ drop 1 text → StandsIn literal l → StandsIn text l
stands [] literal l some e s = absurd (omega arith)
stands (b ∷ bs) literal l some e s =
    let inside : StandsIn bs l = rw e at s in
    let place : length (b ∷ bs) - length l.rest.now ≡ suc (length bs - length l.rest.now) = omega (arith, inside.fits) in
    let before : length (b ∷ bs) - length l.rest.now - 1 ≡ suc (length bs - length l.rest.now - 1) = omega (arith, inside.fits) in
    record {
      fits = omega (arith, inside.fits);
      rest = inside.rest ∙ sym (ap (λ k. drop k (b ∷ bs)) place);
      after = rw before inside.after;
      some = inside.some;
      ascii = inside.ascii;
    }

pub stands_after : (text literal : List ℕ) (o : Option Literal) → length literal + 1 ≡ length text → literal ≡ drop 1 text → IfSome o (λ l. StandsIn literal l) → IfSome o (λ l. StandsIn text l)
stands_after text literal None some e s = tt
stands_after text literal (Some l) some e s = stands text literal l some e s

pub boundary : (text : List ℕ) (l : Literal) → IsUtf8 text → StandsIn text l → IsCharBoundary text (length text - length l.rest.now)
boundary text l utf8 s = boundary_after text (length text - length l.rest.now - 1) (length text - length l.rest.now) utf8 (omega (arith, s.fits)) s.after (omega (arith, s.fits))

pub if_none : {X : Type 0} {P : Type 0} (o : Option X) → P → IfNone o P
if_none None p = p
if_none (Some x) p = tt

-- the place of the closing quotes of a value that stands as it is
boundary_after_value : (text value : List ℕ) (l : Literal) → StandsIn text l → l.rest.now ≡ value ++ l.quotes.now → IsCharBoundary text (length text - length l.rest.now + length value)
boundary_after_value text value l s back =
    let start : ℕ = length text - length l.rest.now in
    let within : start + length value < length text = omega (arith, s.fits, s.some, ap length back, length-append value l.quotes.now) in
    let end : length value + 0 ≡ length value = omega arith in
    let here : get_or l.rest.now (length value) 0 ≡ get_or l.quotes.now 0 0 = ap (λ (bs : List ℕ). get_or bs (length value) 0) back ∙ (rw end at (get_or-append-add value l.quotes.now 0 0)) in
    let place : get_or text (start + length value) 0 ≡ get_or l.rest.now (length value) 0 = sym (ap (λ (bs : List ℕ). get_or bs (length value) 0) s.rest ∙ get_or-drop start text (length value) 0) in
    IsCharBoundary-before_ascii text (start + length value) within (rw (place ∙ here) s.ascii)

-- so the text from the opening to the closing quotes is read
pub read_whole : (text value : List ℕ) (l : Literal) {X : Type 0} (R : X → Type 0) (P : Type 0) (o : Option X) → IsUtf8 text → StandsIn text l → l.rest.now ≡ value ++ l.quotes.now
    → MatchOption o (length text - length l.rest.now ≤ length text - length l.rest.now + length value → IsCharBoundary text (length text - length l.rest.now) → ¬ IsCharBoundary text (length text - length l.rest.now + length value)) R
    → IfNone o P
read_whole text value l R P None utf8 s back none = absurd (none (omega arith) (boundary text l utf8 s) (boundary_after_value text value l s back))
read_whole text value l R P (Some x) utf8 s back some = tt
