-- What follows a text and ends it, exactly.
use Rattle.std.proofs.Common.{◌≡◌, ℕ, ◌+◌, ◌<◌, ◌==◌, ◌&&◌, ◌||◌, List, [], ◌∷◌, ◌++◌, length, take, drop, Bool, true, false, not, refl, sym, ap, subst, ◌∙◌, arith, inl, inr, length-drop, append_assoc, one-add, take-append-drop}
use Rattle.std.specs.Prelude.{Option, Some, None, is_some, bytes_eq, codes}
use Rattle.std.specs.List.{list_all, list_any, prefix_len}
use Rattle.std.proofs.lemmas.Bool.{cases_Bool, and_parts, or_cases, false≢true, eqb-true, and_right, not-true, not_from_false, or_from, or_parts}
use Rattle.std.proofs.lemmas.Bool.Decides.{nat_tests}
use Rattle.std.proofs.lemmas.List.{drop-append-le}
use Rattle.std.proofs.lemmas.List.Folds.{list_any-append}
use Rattle.bz_token.specs.declared.scan_string.Opening.{Opening}
use Rattle.bz_token.specs.declared.scan_string.Escape.TheVariants.{Unescaped}
use Rattle.bz_token.specs.declared.token.Kind.{Kind}
use Rattle.bz_token.specs.declared.token.Kind.TheVariants.{Identifier, Keyword, Integer, String, Operator, Newline, Comment, Kept}
use Rattle.bz_token.specs.Strings.{is_quote, quote_count, are_two, opens_after, opening}
use Rattle.bz_token.specs.Lexical.{is_word_byte, operators, is_operator_text, keywords, is_keyword, is_name, is_comment, ends_blank, is_text, counts, is_string_kind, IsToken}
use Rattle.bz_token.specs.private.Closing.{closes, opening_length}
use Rattle.bz_token.specs.Ends.{is_prefix, is_empty_string, stops, stops_at, is_comment_kind, ends}
use Rattle.bz_token.proofs.Classes.{hash as hash_class}
use Rattle.bz_token.proofs.Classes.{mark, class_of, can_start, text_class, digit_class, name_parts, keyword_name, number_starts, one_of, same_bytes, empty_no_text}
use Rattle.bz_token.proofs.Openings.{opens_r, opens_b, opens_rb, opens_br, opening_more, opening_facts, no_opening, ends_name}
use Rattle.bz_token.proofs.Ends.{name_token, number_token, operator_token, line_token, comment_token, string_token, string_opens, stops_run, number_words, counts_free, no_digit, mark_of, comment_parts}
use Rattle.bz_token.specs.Common.{map_or, is_newline, is_one_of}
use Rattle.bz_token.specs.Pieces.{is_blank}

keyword_no_prefix : (text : List ℕ) → is_keyword text ≡ true → not (is_prefix text) ≡ true
unfolding keywords
keyword_no_prefix text is = one_of (λ s. not (is_prefix s)) keywords text refl is

-- a text is the token where what follows ends it
pub token_ended : (kind : Kind) (text after : List ℕ) → is_text kind text ≡ true → ends kind text after ≡ true → IsToken kind text after
token_ended kind [] after is end = absurd (empty_no_text kind is)
token_ended Identifier (b ∷ bs) after is end = name_token Identifier b bs after is (and_parts (is_name (b ∷ bs)) (not (is_keyword (b ∷ bs))) is).0 (named after end)
  where
    named : (after : List ℕ) → stops_at Identifier (b ∷ bs) after ≡ true → ends_name (b ∷ bs) after ≡ true
    named [] h = refl
    named (c ∷ cs) h = h
token_ended Keyword (b ∷ bs) after is end = name_token Keyword b bs after is (keyword_name (b ∷ bs) is) (named after end)
  where
    named : (after : List ℕ) → stops_at Keyword (b ∷ bs) after ≡ true → ends_name (b ∷ bs) after ≡ true
    named [] h = refl
    named (c ∷ cs) h = both (is_word_byte c) (is_quote c) (is_prefix (b ∷ bs)) h (not-true (is_prefix (b ∷ bs)) (keyword_no_prefix (b ∷ bs) is))
      where
        both : (x y z : Bool) → not x ≡ true → z ≡ false → (not x && not (y && z)) ≡ true
        both x true z h none = rw (h, none) refl
        both x false z h none = rw h refl
token_ended Integer (b ∷ bs) after is end = number_token b bs after is (stops_run after (first after end))
  where
    first : (after : List ℕ) → stops_at Integer (b ∷ bs) after ≡ true → stops_at Integer [] after ≡ true
    first [] h = refl
    first (c ∷ cs) h = h
token_ended String (b ∷ bs) after is end = let s = string_opens (b ∷ bs) is in string_token (b ∷ bs) after s.0 s.1 s.2 end
token_ended Operator (b ∷ bs) after is end = operator_token b bs after is end
token_ended Newline (b ∷ bs) after is end = subst (λ t. IsToken Newline t after) (sym (same_bytes (b ∷ bs) (10 ∷ []) is)) (line_token after)
token_ended Comment (b ∷ bs) after is end = comment_token b bs after is end
token_ended Kept (b ∷ bs) after is end = absurd (false≢true is)

-- bytes that stand second or later in an operator
abbrev pub is_later : ℕ → Bool
is_later b = list_any (λ c. b == c) (codes "/*<>=")

operator_later : (text : List ℕ) → is_operator_text text ≡ true → list_all is_later (drop 1 text) ≡ true
unfolding operators
operator_later text is = one_of (λ s. list_all is_later (drop 1 s)) operators text refl is

all_last : (p : ℕ → Bool) (bs : List ℕ) (m : ℕ) → list_all p (bs ++ m ∷ []) ≡ true → p m ≡ true
all_last p [] m h = (and_parts (p m) true h).0
all_last p (b ∷ bs) m h = all_last p bs m (and_parts (p b) (list_all p (bs ++ m ∷ [])) h).1

-- another byte stops every operator
pub operator_stops : (text : List ℕ) (b : ℕ) → is_text Operator text ≡ true → is_later b ≡ false → stops Operator text b ≡ true
operator_stops [] b is later = absurd (empty_no_text Operator is)
operator_stops (a ∷ bs) b is later = elim (cases_Bool (is_operator_text ((a ∷ bs) ++ b ∷ []))) [
  | inr miss ↦ not_from_false _ miss
  | inl hit ↦ absurd (false≢true (sym later ∙ all_last is_later bs b (operator_later ((a ∷ bs) ++ b ∷ []) hit)))
]

-- a byte that is no letter, digit, underscore, quote nor a later byte of an operator stops every text but a comment's
pub plain_stops : (kind : Kind) (text : List ℕ) (b : ℕ) → is_text kind text ≡ true → is_comment_kind kind ≡ false → is_word_byte b ≡ false → is_quote b ≡ false → is_later b ≡ false → stops kind text b ≡ true
plain_stops Identifier text b is comment word quoted later = rw (word, quoted) refl
plain_stops Keyword text b is comment word quoted later = rw word refl
plain_stops Integer text b is comment word quoted later = rw word refl
plain_stops String text b is comment word quoted later =
    let s = string_opens text is in
    not_from_false _ (ap (λ o. is_empty_string o text b) s.1 ∙ and_right (not s.0.quotes.long && (length text == s.0.prefix + 2)) (b == s.0.quotes.byte) (other s.0.quotes.byte (opening_facts text s.0 s.1).quoted))
  where
    other : (q : ℕ) → is_quote q ≡ true → (b == q) ≡ false
    other q h = elim (cases_Bool (b == q)) [
      | inr miss ↦ miss
      | inl hit ↦ absurd (false≢true (sym quoted ∙ ap is_quote (eqb-true b q hit) ∙ h))
    ]
plain_stops Operator text b is comment word quoted later = operator_stops text b is later
plain_stops Newline text b is comment word quoted later = refl
plain_stops Comment text b is comment word quoted later = absurd (false≢true (sym comment))
plain_stops Kept text b is comment word quoted later = refl

-- one byte that stops a text ends it, whatever follows
pub stopped_ends : (kind : Kind) (text : List ℕ) (b : ℕ) (rest : List ℕ) → stops kind text b ≡ true → ends kind text (b ∷ rest) ≡ true
stopped_ends Comment text b rest h = let same : b ≡ 10 = eqb-true b 10 h in rw same refl
stopped_ends Identifier text b rest h = h
stopped_ends Keyword text b rest h = h
stopped_ends Integer text b rest h = h
stopped_ends String text b rest h = h
stopped_ends Operator text b rest h = h
stopped_ends Newline text b rest h = h
stopped_ends Kept text b rest h = h

pub newline_stops : (kind : Kind) (text : List ℕ) → is_text kind text ≡ true → stops kind text 10 ≡ true
newline_stops Comment text is = refl
newline_stops Identifier text is = plain_stops Identifier text 10 is refl refl refl refl
newline_stops Keyword text is = plain_stops Keyword text 10 is refl refl refl refl
newline_stops Integer text is = plain_stops Integer text 10 is refl refl refl refl
newline_stops String text is = plain_stops String text 10 is refl refl refl refl
newline_stops Operator text is = plain_stops Operator text 10 is refl refl refl refl
newline_stops Newline text is = refl
newline_stops Kept text is = refl

pub space_stops : (kind : Kind) (text : List ℕ) → is_text kind text ≡ true → is_comment_kind kind ≡ false → stops kind text 32 ≡ true
space_stops kind text is comment = plain_stops kind text 32 is comment refl refl refl

abbrev is_end_mark : ℕ → Bool
is_end_mark b = list_any (λ c. b == c) (codes ".,:)]}")

mark_word : (b : ℕ) → is_end_mark b ≡ true → is_word_byte b ≡ false
mark_word b h = grind (arith, nat_tests)

mark_quote : (b : ℕ) → is_end_mark b ≡ true → is_quote b ≡ false
mark_quote b h = grind (arith, nat_tests)

mark_later : (b : ℕ) → is_end_mark b ≡ true → is_later b ≡ false
mark_later b h = grind (arith, nat_tests)

pub mark_stops : (kind : Kind) (text : List ℕ) (b : ℕ) → is_text kind text ≡ true → is_comment_kind kind ≡ false → list_any (λ c. b == c) (codes ".,:)]}") ≡ true → stops kind text b ≡ true
mark_stops kind text b is comment h = plain_stops kind text b is comment (mark_word b h) (mark_quote b h) (mark_later b h)

-- a prefix before a quote opens a string
prefix_opens : (text : List ℕ) (b : ℕ) (bs : List ℕ) → is_prefix text ≡ true → is_quote b ≡ true → is_some (opening (text ++ b ∷ bs)) ≡ true
prefix_opens text b bs is quoted =
    elim (or_cases (bytes_eq text (codes "r")) (is_one_of (codes "b" ∷ codes "rb" ∷ codes "br" ∷ []) text) is) [
      | inl r ↦ at (codes "r") (same_bytes text (codes "r") r) (ap is_some (opens_r 114 (b ∷ bs) refl (no_letter b 98 quoted refl)) ∙ following 1)
      | inr two ↦ elim (or_cases (bytes_eq text (codes "b")) (is_one_of (codes "rb" ∷ codes "br" ∷ []) text) two) [
        | inl p ↦ at (codes "b") (same_bytes text (codes "b") p) (ap is_some (opens_b 98 (b ∷ bs) refl refl (no_letter b 114 quoted refl)) ∙ following 1)
        | inr three ↦ elim (or_cases (bytes_eq text (codes "rb")) (is_one_of (codes "br" ∷ []) text) three) [
          | inl p ↦ at (codes "rb") (same_bytes text (codes "rb") p) (ap is_some (opens_rb 114 98 (b ∷ bs) refl refl) ∙ following 2)
          | inr four ↦ elim (or_cases (bytes_eq text (codes "br")) false four) [
            | inl p ↦ at (codes "br") (same_bytes text (codes "br") p) (ap is_some (opens_br 98 114 (b ∷ bs) refl refl refl) ∙ following 2)
            | inr none ↦ absurd (false≢true none)
          ]
        ]
      ]
    ]
  where
    no_letter : (b c : ℕ) → is_quote b ≡ true → is_quote c ≡ false → (b == c) ≡ false
    no_letter b c quoted none = elim (cases_Bool (b == c)) [
      | inr miss ↦ miss
      | inl hit ↦ absurd (false≢true (sym none ∙ ap is_quote (sym (eqb-true b c hit)) ∙ quoted))
    ]

    following : (n : ℕ) → is_some (opens_after n (b ∷ bs)) ≡ true
    following n = rw quoted refl

    at : (t : List ℕ) → text ≡ t → is_some (opening (t ++ b ∷ bs)) ≡ true → is_some (opening (text ++ b ∷ bs)) ≡ true
    at t same h = ap (λ x. is_some (opening (x ++ b ∷ bs))) same ∙ h

-- where a kind of its own counts no string opens
no_string_opens : (place text : List ℕ) (kind : Kind) → is_string_kind kind ≡ false → counts place kind text ≡ true → opening place ≡ None
no_string_opens place text kind no_text counted = by (opening place) refl
  where
    by : (o : Option Opening) → opening place ≡ o → opening place ≡ None
    by None e = e
    by (Some o) e = absurd (false≢true (sym no_text ∙ (and_parts (is_string_kind kind) (map_or false (λ o. o.quotes.long) (opening text) || not o.quotes.long) (rw (e, counts) at counted)).0))

not_nil : (b : ℕ) (bs : List ℕ) → b ∷ bs ≡ [] → ⊥
not_nil b bs e = cc

-- a name with one byte more
name_more : (b : ℕ) (bs : List ℕ) (c : ℕ) → is_name (b ∷ bs) ≡ true → is_word_byte c ≡ true → is_name ((b ∷ bs) ++ c ∷ []) ≡ true
name_more b bs c name word =
    let parts = name_parts b bs name in
    let first = parts.1 in
    let plain = parts.0 in
    let more = all_more bs parts.2 in
    rw (first, plain, more) refl
  where
    all_more : (xs : List ℕ) → list_all is_word_byte xs ≡ true → list_all is_word_byte (xs ++ c ∷ []) ≡ true
    all_more [] h = rw word refl
    all_more (x ∷ xs) h =
        let p = and_parts (is_word_byte x) (list_all is_word_byte xs) h in
        let here = p.0 in
        let rest = all_more xs p.1 in
        rw (here, rest) refl

-- what follows a name that is a token is no letter, digit or underscore, nor a quote after a prefix
name_ends : (kind : Kind) (b : ℕ) (bs after : List ℕ) → is_string_kind kind ≡ false → is_name (b ∷ bs) ≡ true → IsToken kind (b ∷ bs) after → ends_name (b ∷ bs) after ≡ true
name_ends kind b bs [] no_text name token = refl
name_ends kind b bs (c ∷ cs) no_text name token = both (is_word_byte c) (is_quote c && is_prefix (b ∷ bs)) no_word no_quote
  where
    both : (x y : Bool) → x ≡ false → y ≡ false → (not x && not y) ≡ true
    both x y p q = rw (p, q) refl

    unquoted : opening ((b ∷ bs) ++ c ∷ cs) ≡ None
    unquoted = no_string_opens ((b ∷ bs) ++ c ∷ cs) (b ∷ bs) kind no_text token.counted

    no_quote : (is_quote c && is_prefix (b ∷ bs)) ≡ false
    no_quote = elim (cases_Bool (is_quote c && is_prefix (b ∷ bs))) [
      | inr miss ↦ miss
      | inl hit ↦
          let p = and_parts (is_quote c) (is_prefix (b ∷ bs)) hit in
          absurd (false≢true (sym (ap is_some unquoted) ∙ prefix_opens (b ∷ bs) c cs p.1 p.0))
    ]

    no_word : is_word_byte c ≡ false
    no_word = elim (cases_Bool (is_word_byte c)) [
      | inr miss ↦ miss
      | inl hit ↦
          let longer = name_more b bs c name hit in
          let free = counts_free ((b ∷ bs) ++ c ∷ cs) ((b ∷ bs) ++ c ∷ []) in
          let plain = (name_parts b bs name).0 in
          absurd (elim (cases_Bool (is_keyword ((b ∷ bs) ++ c ∷ []))) [
            | inl word ↦ not_nil c [] (token.longest Keyword (c ∷ []) cs refl word (free Keyword unquoted plain))
            | inr none ↦ not_nil c [] (token.longest Identifier (c ∷ []) cs refl (rw (longer, none) refl) (free Identifier unquoted plain))
          ])
    ]

-- how far a run goes beyond a part of it
run_more : (p : ℕ → Bool) (xs ys : List ℕ) → list_all p xs ≡ true → prefix_len p (xs ++ ys) ≡ length xs + prefix_len p ys
run_more p [] ys h = omega arith
run_more p (x ∷ xs) ys h =
    let parts = and_parts (p x) (list_all p xs) h in
    let first = parts.0 in
    rw first (omega (arith, run_more p xs ys parts.1))

number_ends : (b : ℕ) (bs after : List ℕ) → IsToken Integer (b ∷ bs) after → stops_at Integer (b ∷ bs) after ≡ true
number_ends b bs [] token = refl
number_ends b bs (c ∷ cs) token = elim (cases_Bool (is_word_byte c)) [
  | inr miss ↦ not_from_false (is_word_byte c) miss
  | inl hit ↦
      let first = number_starts b bs token.whole in
      let unquoted = no_opening b (bs ++ c ∷ cs) (ap (can_start String) (digit_class b first)) in
      let test = rw (unquoted, first, counts) at token.counted in
      let same = eqb-true (length (b ∷ bs)) (prefix_len is_word_byte ((b ∷ bs) ++ c ∷ cs)) test in
      let run = run_more is_word_byte (b ∷ bs) (c ∷ cs) (number_words (b ∷ bs) token.whole) in
      let some : 0 < prefix_len is_word_byte (c ∷ cs) = rw hit (omega arith) in
      absurd (omega (arith, same, run, some))
]

operator_ends : (b : ℕ) (bs after : List ℕ) → IsToken Operator (b ∷ bs) after → stops_at Operator (b ∷ bs) after ≡ true
operator_ends b bs [] token = refl
operator_ends b bs (c ∷ cs) token = elim (cases_Bool (is_operator_text ((b ∷ bs) ++ c ∷ []))) [
  | inr miss ↦ not_from_false (is_operator_text ((b ∷ bs) ++ c ∷ [])) miss
  | inl hit ↦
      let class = mark_of b (text_class Operator b bs token.whole) in
      absurd (not_nil c [] (token.longest Operator (c ∷ []) cs refl hit
      (counts_free ((b ∷ bs) ++ c ∷ cs) ((b ∷ bs) ++ c ∷ []) Operator (no_opening b (bs ++ c ∷ cs) (ap (can_start String) class)) (no_digit b mark class refl))))
]

-- a string that is empty is followed by no third quote
string_ends : (text after : List ℕ) → IsToken String text after → stops_at String text after ≡ true
string_ends text [] token = refl
string_ends text (b ∷ bs) token =
    let s = string_opens text token.whole in
    not_from_false _ (ap (λ o. is_empty_string o text b) s.1 ∙ third s.0 s.1 s.2)
  where
    third : (o : Opening) → opening text ≡ Some o → closes o.quotes 0 Unescaped (drop (opening_length o) text) ≡ true → is_empty_string (Some o) text b ≡ false
    third o opens closed = elim (cases_Bool (is_empty_string (Some o) text b)) [
      | inr miss ↦ miss
      | inl hit ↦
          let parts = and_parts (not o.quotes.long && (length text == o.prefix + 2)) (b == o.quotes.byte) hit in
          let front = and_parts (not o.quotes.long) (length text == o.prefix + 2) parts.0 in
          let short = not-true o.quotes.long front.0 in
          let size = eqb-true (length text) (o.prefix + 2) front.1 in
          let quotes : o.quotes ≡ record { byte = o.quotes.byte; long = false } = λ i. record { byte = o.quotes.byte; long = short i } in
          let closed' : closes (record { byte = o.quotes.byte; long = false }) 0 Unescaped (drop (o.prefix + 1) text) ≡ true =
          sym (ap (λ x. closes x 0 Unescaped (drop (o.prefix + quote_count x.long) text)) quotes) ∙ closed in
          let more = opening_more text (b ∷ bs) o opens in
          let facts = opening_facts (text ++ b ∷ bs) more.more more.opens in
          let tail = drop-append-le (o.prefix + 1) text (b ∷ bs) (omega (arith, size)) in
          let two = last (drop (o.prefix + 1) text) (omega (arith, size, length-drop (o.prefix + 1) text)) closed' parts.1 in
          let long : more.more.quotes.long ≡ true =
          facts.long ∙ ap (λ n. are_two more.more.quotes.byte (drop (n + 1) (text ++ b ∷ bs))) more.prefix ∙ ap (λ q. are_two q (drop (o.prefix + 1) (text ++ b ∷ bs))) more.byte ∙ ap (are_two o.quotes.byte) tail ∙ two in
          let both = and_parts true (map_or false (λ o. o.quotes.long) (opening text) || not more.more.quotes.long) (rw (more.opens, counts) at token.counted) in
          absurd (false≢true (sym (none (map_or false (λ o. o.quotes.long) (opening text)) more.more.quotes.long (ap (map_or false (λ o. o.quotes.long)) opens ∙ short) long) ∙ both.1))
    ]
      where
        none : (x y : Bool) → x ≡ false → y ≡ true → (x || not y) ≡ false
        none x y p q = rw (p, q) refl

        last : (qs : List ℕ) → length qs ≡ 1 → closes (record { byte = o.quotes.byte; long = false }) 0 Unescaped qs ≡ true → (b == o.quotes.byte) ≡ true → are_two o.quotes.byte (qs ++ b ∷ bs) ≡ true
        last [] size closed hit = absurd (omega arith)
        last (c ∷ d ∷ qs) size closed hit = absurd (omega arith)
        last (c ∷ []) size closed hit = elim (cases_Bool (c == o.quotes.byte)) [
          | inl same ↦ rw (same, hit) refl
          | inr other ↦ absurd (false≢true (sym (open_byte c other) ∙ closed))
        ]
          where
            open_byte : (c : ℕ) → (c == o.quotes.byte) ≡ false → closes (record { byte = o.quotes.byte; long = false }) 0 Unescaped (c ∷ []) ≡ false
            open_byte c other = rw (other, closes) (and_false (not (c == 10)))
              where
                and_false : (x : Bool) → (x && false) ≡ false
                and_false true = refl
                and_false false = refl

-- bytes that are not all white space go up to one that is none
up_to_last : (text xs : List ℕ) → list_all is_blank xs ≡ false → (m : ℕ) × (more rest : List ℕ) × (xs ≡ (m ∷ more) ++ rest) × (ends_blank (text ++ m ∷ more) ≡ false)
up_to_last text [] h = absurd (false≢true (sym h))
up_to_last text (x ∷ xs) h = elim (cases_Bool (list_all is_blank xs)) [
  | inr later ↦
      let r = up_to_last (text ++ x ∷ []) xs later in
      (x, r.0 ∷ r.1, r.2, ap (λ ys. x ∷ ys) r.3, ap ends_blank (sym (append_assoc text (x ∷ []) (r.0 ∷ r.1))) ∙ r.4)
  | inl rest ↦ (x, [], xs, refl, last text (here (is_blank x) rest h))
]
  where
    here : (y : Bool) → list_all is_blank xs ≡ true → (y && list_all is_blank xs) ≡ false → y ≡ false
    here true rest h = absurd (false≢true (sym h ∙ rest))
    here false rest h = refl

    last : (text : List ℕ) → is_blank x ≡ false → ends_blank (text ++ x ∷ []) ≡ false
    last [] b = b
    last (t ∷ []) b = b
    last (t ∷ u ∷ text) b = last (u ∷ text) b

line_part : (xs : List ℕ) → list_any is_newline (take (prefix_len (λ b. not (is_newline b)) xs) xs) ≡ false
line_part [] = refl
line_part (x ∷ xs) = elim (cases_Bool (is_newline x)) [
  | inl hit ↦ rw hit refl
  | inr miss ↦ let more = line_part xs in rw (miss, one-add, miss) more
]

comment_ends : (b : ℕ) (bs after : List ℕ) → IsToken Comment (b ∷ bs) after → list_all is_blank (take (prefix_len (λ c. not (is_newline c)) after) after) ≡ true
comment_ends b bs after token = elim (cases_Bool (list_all is_blank (take (prefix_len (λ c. not (is_newline c)) after) after))) [
  | inl hit ↦ hit
  | inr miss ↦
      let n = prefix_len (λ c. not (is_newline c)) after in
      let r = up_to_last (b ∷ bs) (take n after) miss in
      let parts = comment_parts (b ∷ bs) token.whole in
      let one_line = or_parts (list_any is_newline (r.0 ∷ r.1)) (list_any is_newline r.2) (sym (list_any-append is_newline (r.0 ∷ r.1) r.2) ∙ ap (list_any is_newline) (sym r.3) ∙ line_part after) in
      let clean : list_any is_newline ((b ∷ bs) ++ r.0 ∷ r.1) ≡ false = list_any-append is_newline (b ∷ bs) (r.0 ∷ r.1) ∙ or_from (list_any is_newline (b ∷ bs)) (list_any is_newline (r.0 ∷ r.1)) parts.1 one_line.0 in
      let hash = parts.0 in
      let unblank = r.4 in
      let longer : is_comment ((b ∷ bs) ++ r.0 ∷ r.1) ≡ true = all_three (b == 35) (list_any is_newline ((b ∷ bs) ++ r.0 ∷ r.1)) (ends_blank ((b ∷ bs) ++ r.0 ∷ r.1)) hash clean unblank in
      let same : b ≡ 35 = eqb-true b 35 hash in
      let class : class_of b ≡ hash_class = rw same refl in
      let split : after ≡ (r.0 ∷ r.1) ++ (r.2 ++ drop n after) = sym (take-append-drop n after) ∙ ap (λ x. x ++ drop n after) r.3 ∙ append_assoc (r.0 ∷ r.1) r.2 (drop n after) in
      absurd (not_nil r.0 r.1 (token.longest Comment (r.0 ∷ r.1) (r.2 ++ drop n after) split longer
      (counts_free ((b ∷ bs) ++ after) ((b ∷ bs) ++ r.0 ∷ r.1) Comment (no_opening b (bs ++ after) (ap (can_start String) class)) (no_digit b hash_class class refl))))
]
  where
    all_three : (x y z : Bool) → x ≡ true → y ≡ false → z ≡ false → (x && not y && not z) ≡ true
    all_three x y z p q r = rw (p, q, r) refl

-- what follows a token ends it
pub token_ends : (kind : Kind) (text after : List ℕ) → IsToken kind text after → ends kind text after ≡ true
token_ends kind [] after token = absurd (empty_no_text kind token.whole)
token_ends Identifier (b ∷ bs) after token = as_stops after (name_ends Identifier b bs after refl (and_parts (is_name (b ∷ bs)) (not (is_keyword (b ∷ bs))) token.whole).0 token)
  where
    as_stops : (after : List ℕ) → ends_name (b ∷ bs) after ≡ true → stops_at Identifier (b ∷ bs) after ≡ true
    as_stops [] h = refl
    as_stops (c ∷ cs) h = h
token_ends Keyword (b ∷ bs) after token = as_stops after (name_ends Keyword b bs after refl (keyword_name (b ∷ bs) token.whole) token)
  where
    as_stops : (after : List ℕ) → ends_name (b ∷ bs) after ≡ true → stops_at Keyword (b ∷ bs) after ≡ true
    as_stops [] h = refl
    as_stops (c ∷ cs) h = (and_parts (not (is_word_byte c)) (not (is_quote c && is_prefix (b ∷ bs))) h).0
token_ends Integer (b ∷ bs) after token = number_ends b bs after token
token_ends String (b ∷ bs) after token = string_ends (b ∷ bs) after token
token_ends Operator (b ∷ bs) after token = operator_ends b bs after token
token_ends Newline (b ∷ bs) [] token = refl
token_ends Newline (b ∷ bs) (c ∷ cs) token = refl
token_ends Comment (b ∷ bs) after token = comment_ends b bs after token
token_ends Kept (b ∷ bs) after token = absurd (false≢true token.whole)
