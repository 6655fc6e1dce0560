-- What is sealed has none of the values that are sought.
use Rattle.std.proofs.Common.{◌≡◌, ◌==◌, ℕ, suc, ◌+◌, ◌<◌, List, [], ◌∷◌, ◌++◌, length, take, drop, get_or, map, Bool, true, false, ◌||◌, Option, Some, None, is_some, if◌then◌else◌, refl, sym, ap, ◌∙◌, arith, subst, append_assoc, append-nil, take-append-drop, inl, inr}
use Rattle.std.specs.Prelude.{bytes_eq, option_and_then}
use Rattle.std.specs.List.{concat, list_any}
use Rattle.std.proofs.Math.Seq.{take-append_seam, drop-append_seam}
use Rattle.std.proofs.lemmas.Bool.{cases_Bool, eqb-true, false≢true, or_cases, or_parts}
use Rattle.std.proofs.lemmas.List.{length-append}
use Rattle.std.proofs.lemmas.List.Folds.{list_any_at}
use Rattle.memchr.specs.Find.{FindsNeedle, IsFirst, IsFirstByte, OccursAt, Passes, is_byte2, is_byte3}
use Rattle.memchr.proofs.lemmas.MatchLemmas.{OccursAt-from_part, OccursAt-split}
use Rattle.bz_token.specs.Common.{is_empty, map_or}
use Rattle.bz_tree.specs.Tree.{Item, Segment}
use Rattle.bz_label.specs.Endings.{ending, is_in, is_odd, is_unsure, literal_end}
use Rattle.bz_label.specs.Labels.{Package}
use Rattle.bz_label.specs.Same.{same}
use Rattle.bz_label.specs.Values.{value_of}
use Rattle.bz_label.specs.declared.arguments.Chosen.TheVariants.{Values}
use Rattle.bz_label.proofs.Endings.{same_ending}
use Rattle.bz_token.specs.Strings.{is_quote}
use Rattle.bz_label.proofs.PlainValues.{IsClosed, IsIn, value_closed}
use Rattle.bz_label.proofs.Standing.{all_in, ending_before, ending_in, in_part, is_there, none_in, or_later, where_in}
use Rattle.bz_attribute.specs.Effects.{is_chosen}
use Rattle.bz_attribute.specs.Lists.{equals, parts}
use Rattle.bz_attribute.specs.Reports.{chooses}
use Rattle.bz_attribute.specs.Rules.{only_text, string_value, value}
use Rattle.bz_rule.specs.Sealed.{is_among, is_asked_for}
use Rattle.bz_canonical.specs.SealedRules.{between}
use Rattle.bz_canonical.specs.Sought.{mark, marked, marked_by, may_have, may_hold}
use Rattle.bz_canonical.specs.Spans.{AreSpans, IsSpan, has_literal}
use Rattle.bz_canonical.specs.declared.spans.ArgumentSpan.{ArgumentSpan}
use Rattle.bz_canonical.proofs.CutTexts.{cut_at}
use Rattle.bz_canonical.proofs.SingleStrings.{bytes_same}
use Rattle.bz_canonical.proofs.Sealing.{Unasked, named_among}

-- what a search tells

some_found : (part text : List ℕ) (k : ℕ) → OccursAt text part k → is_in part text ≡ true
some_found part text k at =
    is_there part text (record {
      front = take k text;
      back = drop (k + length part) text;
      is = sym (take-append-drop k text) ∙ ap (λ (t : List ℕ). take k text ++ t) (OccursAt-split text part k at);
    })

none_found : (part text : List ℕ) → ((k : ℕ) → k < length text + 1 → OccursAt text part k → ⊥) → is_in part text ≡ false
none_found part text none = elim (cases_Bool (is_in part text)) [
  | inl some ↦
      let h = where_in part text some in
      let whole : length text ≡ length h.front + (length part + length h.back) = ap length h.is ∙ length-append h.front (part ++ h.back) ∙ ap (λ n. length h.front + n) (length-append part h.back) in
      let there : take (length part) (drop (length h.front) text) ≡ part = ap (λ t. take (length part) (drop (length h.front) t)) h.is ∙ ap (take (length part)) (drop-append_seam h.front (part ++ h.back)) ∙ take-append_seam part h.back in
      absurd (none (length h.front) (omega (arith, whole)) (OccursAt-from_part text part (length h.front) (omega (arith, whole)) there))
  | inr gone ↦ gone
]

pub found_is : (part text : List ℕ) (found : Option ℕ) → FindsNeedle text part 0 found → is_some found ≡ is_in part text
found_is part text None none = sym (none_found part text (λ k below at. none k (omega arith) below at))
found_is part text (Some k) at = sym (some_found part text k at.1)

none_from : (p : ℕ → Bool) (xs : List ℕ) → ((i : ℕ) → i < length xs → p (get_or xs i 0) ≡ true → ⊥) → list_any p xs ≡ false
none_from p [] none = refl
none_from p (x ∷ xs) none = elim (cases_Bool (p x)) [
  | inl is ↦ absurd (none 0 (omega arith) is)
  | inr other ↦ rw other (none_from p xs (λ i below is. none (suc i) (omega arith) is))
]

first_is : (p : ℕ → Bool) (text : List ℕ) (found : Option ℕ) → IsFirst (Passes p text) 0 (length text) found → is_some found ≡ list_any p text
first_is p text None none = sym (none_from p text (λ i below is. none i (omega arith) below is))
first_is p text (Some k) at = sym (list_any_at p text k 0 at.0.high at.1)

pub unsure_is : (text : List ℕ) (found : Option ℕ) → IsFirstByte (is_byte3 92 13 39) text found → is_some found ≡ list_any is_unsure text
unsure_is text found at = first_is is_unsure text found at

pub odd_is : (text : List ℕ) (found : Option ℕ) → IsFirstByte (is_byte2 92 13) text found → is_some found ≡ list_any is_odd text
odd_is text None none = sym (none_from is_odd text (λ i below is. none i (omega arith) below is))
odd_is text (Some k) at = sym (list_any_at is_odd text k 0 at.0.high at.1)

pub held_by : (endings : List (List ℕ)) (text : List ℕ) (any : Bool) → is_empty endings ≡ false → list_any is_odd text ≡ false → any ≡ list_any (λ part. is_in part text) endings → any ≡ may_hold endings text
held_by [] text any some none is = absurd (false≢true (sym some))
held_by (e ∷ endings) text any some none is = is ∙ sym (ap (λ b. b || list_any (λ part. is_in part text) (e ∷ endings)) none)

-- an element that is one of the values

some_of : {A : Type 0} (q : A → Bool) (xs : List A) → list_any q xs ≡ true → (x : A) × (q x ≡ true) × ((r : A → Bool) → r x ≡ true → list_any r xs ≡ true)
some_of q [] is = absurd (false≢true is)
some_of q (x ∷ xs) is = elim (or_cases (q x) (list_any q xs) is) [
  | inl here ↦ (x, here, λ r h. ap (λ b. b || list_any r xs) h)
  | inr later ↦ let more = some_of q xs later in (more.0, more.1, λ r h. or_later (r x) (list_any r xs) (more.2 r h))
]

-- the literal of such an element, and its value
record IsSome (home : Package) (values : List (List ℕ)) (a : Segment) : Type 0 where
  text : List ℕ
  word : List ℕ
  sought : List ℕ
  literal : has_literal text a ≡ true
  value_is : value_of text ≡ Some word
  same_is : same home word sought ≡ true
  among : (r : List ℕ → Bool) → r sought ≡ true → list_any r values ≡ true

text_of : (nodes : List Item) (sought : List ℕ) (home : Package) → map_or false (λ value. same home value sought) (string_value nodes) ≡ true
    → (text : List ℕ) × (word : List ℕ) × (only_text nodes ≡ Some text) × (value_of text ≡ Some word) × (same home word sought ≡ true)
text_of nodes sought home is = by (only_text nodes) refl is
  where
    by : (o : Option (List ℕ)) → only_text nodes ≡ o → map_or false (λ value. same home value sought) (option_and_then value_of o) ≡ true
        → (text : List ℕ) × (word : List ℕ) × (only_text nodes ≡ Some text) × (value_of text ≡ Some word) × (same home word sought ≡ true)
    by None one is = absurd (false≢true is)
    by (Some text) one is = of (value_of text) refl is
      where
        of : (v : Option (List ℕ)) → value_of text ≡ v → map_or false (λ value. same home value sought) v ≡ true
            → (text : List ℕ) × (word : List ℕ) × (only_text nodes ≡ Some text) × (value_of text ≡ Some word) × (same home word sought ≡ true)
        of None v_is is = absurd (false≢true is)
        of (Some word) v_is is = (text, word, one, v_is, is)

chosen_text : (home : Package) (values : List (List ℕ)) (a : Segment) → chooses home (Values values) a ≡ true → IsSome home values a
chosen_text home values a is =
    let part = some_of (list_any (is_chosen home (Values values))) (parts (value a)) is in
    let element = some_of (is_chosen home (Values values)) part.0 part.1 in
    let word = some_of (λ word. equals home word element.0) values element.1 in
    let at = text_of element.0.nodes word.0 home word.1 in
    let here : map_or false (bytes_eq at.0) (only_text element.0.nodes) ≡ true = ap (map_or false (bytes_eq at.0)) at.2 ∙ bytes_same at.0 in
    record {
      text = at.0;
      word = at.1;
      sought = word.0;
      literal = part.2 (list_any (λ s. map_or false (bytes_eq at.0) (only_text s.nodes))) (element.2 (λ s. map_or false (bytes_eq at.0) (only_text s.nodes)) here);
      value_is = at.3;
      same_is = at.4;
      among = word.2;
    }

-- its literal stands where the argument stands

mapped : (f : List ℕ → List ℕ) (r : List ℕ → Bool) (ws : List (List ℕ)) → list_any (λ w. r (f w)) ws ≡ true → list_any r (map f ws) ≡ true
mapped f r [] is = is
mapped f r (w ∷ ws) is = elim (or_cases (r (f w)) (list_any (λ w. r (f w)) ws) is) [
  | inl here ↦ ap (λ b. b || list_any r (map f ws)) here
  | inr later ↦ or_later (r (f w)) (list_any r (map f ws)) (mapped f r ws later)
]

closed_in : (home : Package) (values names : List (List ℕ)) (from start : ℕ) (a : Segment) (stands text : List ℕ) (span : ArgumentSpan) → IsSpan names from start a stands span → IsIn stands text → (at : IsSome home values a) → list_any is_odd text ≡ false → IsClosed at.word text
closed_in home values names from start a stands text span is within at plain =
    let literal : IsIn at.text text = in_part at.text stands text (where_in at.text stands (is.literals at.text at.literal)) within in
    let closed = value_closed at.text at.word (none_in is_odd at.text text literal plain) at.value_is in
    record { quote = closed.quote; is_quote = closed.is_quote; stands = in_part (at.word ++ closed.quote ∷ []) at.text text closed.stands literal }

-- its end does
holds_some : (home : Package) (values : List (List ℕ)) (names : List (List ℕ)) (from start : ℕ) (a : Segment) (stands text : List ℕ) (span : ArgumentSpan) → IsSpan names from start a stands span → IsIn stands text
    → chooses home (Values values) a ≡ true → may_hold (map ending values) text ≡ true
holds_some home [] names from start a stands text span is within some = let at = chosen_text home [] a some in absurd (false≢true (at.among (λ w. true) refl))
holds_some home (v ∷ values) names from start a stands text span is within some =
    let at = chosen_text home (v ∷ values) a some in
    elim (cases_Bool (list_any is_odd text)) [
      | inl odd ↦ ap (λ b. b || list_any (λ part. is_in part text) (map ending (v ∷ values))) odd
      | inr plain ↦
          let closed = closed_in home (v ∷ values) names from start a stands text span is within at plain in
          let word : IsIn at.word text = in_part at.word (at.word ++ closed.quote ∷ []) text (record { front = []; back = closed.quote ∷ []; is = refl }) closed.stands in
          let end : is_in (ending at.sought) text ≡ true = ap (λ e. is_in e text) (sym (same_ending home at.word at.sought at.same_is)) ∙ is_there (ending at.word) text (in_part (ending at.word) at.word text (ending_in at.word) word) in
          or_later (list_any is_odd text) (list_any (λ part. is_in part text) (map ending (v ∷ values))) (mapped ending (λ part. is_in part text) (v ∷ values) (at.among (λ w. is_in (ending w) text) end))
    ]

-- and the quote after it, if no other may stand there
surely_odd : (text : List ℕ) → list_any is_unsure text ≡ false → list_any is_odd text ≡ false
surely_odd [] none = refl
surely_odd (b ∷ bs) none =
    let both = or_parts (is_unsure b) (list_any is_unsure bs) none in
    λ i. (or_parts (is_odd b) (b == 39) both.0).0 i || surely_odd bs both.1 i

double : (q : ℕ) → is_quote q ≡ true → is_unsure q ≡ false → q ≡ 34
double q quote sure = elim (or_cases (q == 34) (q == 39) quote) [
  | inl is ↦ eqb-true q 34 is
  | inr single ↦ absurd (false≢true (sym (or_parts (is_odd q) (q == 39) sure).1 ∙ single))
]

last_sure : (word : List ℕ) (q : ℕ) → list_any is_unsure (word ++ q ∷ []) ≡ false → is_unsure q ≡ false
last_sure [] q none = (or_parts (is_unsure q) false none).0
last_sure (b ∷ word) q none = last_sure word q (or_parts (is_unsure b) (list_any is_unsure (word ++ q ∷ [])) none).1

closes_some : (home : Package) (values : List (List ℕ)) (names : List (List ℕ)) (from start : ℕ) (a : Segment) (stands text : List ℕ) (span : ArgumentSpan) → IsSpan names from start a stands span → IsIn stands text
    → list_any is_unsure text ≡ false → chooses home (Values values) a ≡ true → list_any (λ part. is_in part text) (map literal_end values) ≡ true
closes_some home values names from start a stands text span is within sure some =
    let at = chosen_text home values a some in
    let closed = closed_in home values names from start a stands text span is within at (surely_odd text sure) in
    let quote : closed.quote ≡ 34 = double closed.quote closed.is_quote (last_sure at.word closed.quote (none_in is_unsure (at.word ++ closed.quote ∷ []) text closed.stands sure)) in
    let word : IsIn (at.word ++ 34 ∷ []) text = subst (λ q. IsIn (at.word ++ q ∷ []) text) quote closed.stands in
    let end : is_in (literal_end at.sought) text ≡ true = ap (λ (e : List ℕ). is_in (e ++ 34 ∷ []) text) (sym (same_ending home at.word at.sought at.same_is)) ∙ is_there (literal_end at.word) text (in_part (literal_end at.word) (at.word ++ 34 ∷ []) text (ending_before at.word 34) word) in
    mapped literal_end (λ part. is_in part text) values (at.among (λ w. is_in (literal_end w) text) end)

-- so it may be there, by these parts
pub record IsTold (home : Package) (values : List (List ℕ)) (chunk : List ℕ) (unsure : Bool) (parts : List (List ℕ)) : Type 0 where
  pub some : (names : List (List ℕ)) (from start : ℕ) (a : Segment) (stands text : List ℕ) (span : ArgumentSpan) → IsSpan names from start a stands span → IsIn stands text → IsIn text chunk
      → chooses home (Values values) a ≡ true → may_have unsure parts text ≡ true

by_ends : (home : Package) (values : List (List ℕ)) (chunk : List ℕ) → IsTold home values chunk true (map ending values)
by_ends home values chunk = record { some = λ names from start a stands text span is within inside some. holds_some home values names from start a stands text span is within some }

by_quotes : (home : Package) (values : List (List ℕ)) (chunk : List ℕ) → list_any is_unsure chunk ≡ false → IsTold home values chunk false (map literal_end values)
by_quotes home values chunk sure = record { some = λ names from start a stands text span is within inside some. closes_some home values names from start a stands text span is within (none_in is_unsure text chunk inside sure) some }

-- an argument that is not asked for by its span
unasked_span : (names values : List (List ℕ)) (home : Package) (from start : ℕ) (a : Segment) (stands : List ℕ) (span : ArgumentSpan) → IsSpan names from start a stands span
    → (chooses home (Values values) a ≡ true → ⊥) → is_some span.named ≡ false → is_asked_for names values home a ≡ false
unasked_span names values home from start a stands span is free none =
    let among : is_among names a ≡ false = sym (named_among names from start a stands span is) ∙ none in
    ap (λ b. b || chooses home (Values values) a) among ∙ elim (cases_Bool (chooses home (Values values) a)) [
      | inl some ↦ absurd (free some)
      | inr gone ↦ gone
    ]

-- all of them, in a chunk that holds none of the values; and each by its own lines

unasked_in : (names values : List (List ℕ)) (home : Package) (from start : ℕ) (args : List Segment) (stands : List (List ℕ)) (spans : List ArgumentSpan) (text : List ℕ) → AreSpans names from start args stands spans → IsIn (concat stands) text
    → ((from start : ℕ) (a : Segment) (l : List ℕ) (s : ArgumentSpan) → IsSpan names from start a l s → IsIn l text → chooses home (Values values) a ≡ true → ⊥) → Unasked (is_asked_for names values home) args spans
unasked_in names values home from start [] stands spans text are within free = tt
unasked_in names values home from start (a ∷ args) stands [] text are within free = tt
unasked_in names values home from start (a ∷ args) [] (s ∷ spans) text are within free = absurd are
unasked_in names values home from start (a ∷ args) (l ∷ stands) (s ∷ spans) text are within free = (
  λ unasked. unasked_span names values home from start a l s are.0
      (free from start a l s are.0 (in_part l (l ++ concat stands) text (record { front = []; back = concat stands; is = refl }) within))
      (or_parts (is_some s.named) s.sought unasked).0,
  unasked_in names values home s.to s.end args stands spans text are.1 (in_part (concat stands) (l ++ concat stands) text (record { front = l; back = []; is = ap (λ (t : List ℕ). l ++ t) (sym (append-nil (concat stands))) }) within) free,
)

unasked_each : (names values : List (List ℕ)) (home : Package) (unsure : Bool) (parts : List (List ℕ)) (from start : ℕ) (args : List Segment) (stands : List (List ℕ)) (spans : List ArgumentSpan) (chunk before after : List ℕ) → IsTold home values chunk unsure parts → AreSpans names from start args stands spans
    → chunk ≡ before ++ (concat stands ++ after) → from ≡ length before → Unasked (is_asked_for names values home) args (map (mark unsure parts chunk) spans)
unasked_each names values home unsure parts from start [] stands spans chunk before after told are is at = tt
unasked_each names values home unsure parts from start (a ∷ args) stands [] chunk before after told are is at = tt
unasked_each names values home unsure parts from start (a ∷ args) [] (s ∷ spans) chunk before after told are is at = absurd are
unasked_each names values home unsure parts from start (a ∷ args) (l ∷ stands) (s ∷ spans) chunk before after told are is at =
    let whole : chunk ≡ before ++ (l ++ (concat stands ++ after)) = is ∙ ap (λ (t : List ℕ). before ++ t) (append_assoc l (concat stands) after) in
    let lines : between s.from s.to chunk ≡ l = cut_at before l (concat stands ++ after) chunk s.from s.to whole (are.0.from_is ∙ at) (omega (arith, are.0.to_is, are.0.from_is)) in
    let next : s.to ≡ length (before ++ l) = omega (arith, are.0.to_is, at, length-append before l) in (
      λ unasked. let both = or_parts (is_some s.named) (may_have unsure parts (between s.from s.to chunk)) unasked in
          unasked_span names values home from start a l s are.0
          (λ some. false≢true (sym (ap (may_have unsure parts) (sym lines) ∙ both.1) ∙ told.some names from start a l l s are.0 (all_in l) (record { front = before; back = concat stands ++ after; is = whole }) some)) both.0,
      unasked_each names values home unsure parts s.to s.end args stands spans chunk (before ++ l) after told are.1 (whole ∙ sym (append_assoc before l (concat stands ++ after))) next,
    )

-- the spans stand where they did
pub are_marked : (names : List (List ℕ)) (from start : ℕ) (args : List Segment) (stands : List (List ℕ)) (spans : List ArgumentSpan) (endings closings : List (List ℕ)) (chunk : List ℕ) → AreSpans names from start args stands spans
    → AreSpans names from start args stands (marked endings closings chunk spans)
are_marked names from start args stands spans endings closings chunk are = by (list_any is_unsure chunk)
  where
    each : (unsure : Bool) (parts : List (List ℕ)) (from start : ℕ) (args : List Segment) (stands : List (List ℕ)) (spans : List ArgumentSpan) → AreSpans names from start args stands spans
        → AreSpans names from start args stands (map (mark unsure parts chunk) spans)
    each unsure parts from start [] [] [] are = tt
    each unsure parts from start [] [] (s ∷ spans) are = absurd are
    each unsure parts from start [] (l ∷ stands) spans are = absurd are
    each unsure parts from start (a ∷ args) [] spans are = absurd are
    each unsure parts from start (a ∷ args) (l ∷ stands) [] are = absurd are
    each unsure parts from start (a ∷ args) (l ∷ stands) (s ∷ spans) are = (one are.0, each unsure parts s.to s.end args stands spans are.1)
      where
        one : IsSpan names from start a l s → IsSpan names from start a l (mark unsure parts chunk s)
        one is = record { inner = is.inner; lines = is.lines; some = is.some; named = is.named; from_is = is.from_is; to_is = is.to_is; start_is = is.start_is; comma_is = is.comma_is; end_is = is.end_is; literals = is.literals }

    by_parts : (unsure : Bool) (parts : List (List ℕ)) (may : Bool) → AreSpans names from start args stands (if may then map (mark unsure parts chunk) spans else spans)
    by_parts unsure parts true = each unsure parts from start args stands spans are
    by_parts unsure parts false = are

    by : (b : Bool) → AreSpans names from start args stands (if b then marked_by true endings chunk spans else marked_by false closings chunk spans)
    by true = by_parts true endings (may_have true endings chunk)
    by false = by_parts false closings (may_have false closings chunk)

-- those of a chunk
unasked_by : (names values : List (List ℕ)) (home : Package) (unsure : Bool) (parts : List (List ℕ)) (from start : ℕ) (args : List Segment) (stands : List (List ℕ)) (spans : List ArgumentSpan) (chunk before after : List ℕ) → IsTold home values chunk unsure parts → AreSpans names from start args stands spans
    → chunk ≡ before ++ (concat stands ++ after) → from ≡ length before → Unasked (is_asked_for names values home) args (marked_by unsure parts chunk spans)
unasked_by names values home unsure parts from start args stands spans chunk before after told are is at = by (may_have unsure parts chunk) refl
  where
    by : (b : Bool) → may_have unsure parts chunk ≡ b → Unasked (is_asked_for names values home) args (if b then map (mark unsure parts chunk) spans else spans)
    by true may = unasked_each names values home unsure parts from start args stands spans chunk before after told are is at
    by false free = unasked_in names values home from start args stands spans chunk are (record { front = before; back = after; is = is })
        (λ f n a l s has there some. false≢true (sym free ∙ told.some names f n a l chunk s has there (all_in chunk) some))

pub marked_unasked : (names values : List (List ℕ)) (home : Package) (from start : ℕ) (args : List Segment) (stands : List (List ℕ)) (spans : List ArgumentSpan) (chunk before after : List ℕ) → AreSpans names from start args stands spans
    → chunk ≡ before ++ (concat stands ++ after) → from ≡ length before → Unasked (is_asked_for names values home) args (marked (map ending values) (map literal_end values) chunk spans)
marked_unasked names values home from start args stands spans chunk before after are is at = by (list_any is_unsure chunk) refl
  where
    by : (b : Bool) → list_any is_unsure chunk ≡ b
        → Unasked (is_asked_for names values home) args (if b then marked_by true (map ending values) chunk spans else marked_by false (map literal_end values) chunk spans)
    by true unsure = unasked_by names values home true (map ending values) from start args stands spans chunk before after (by_ends home values chunk) are is at
    by false sure = unasked_by names values home false (map literal_end values) from start args stands spans chunk before after (by_quotes home values chunk sure) are is at
