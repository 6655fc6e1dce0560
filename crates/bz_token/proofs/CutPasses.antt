-- The steps pass over each piece.
use Rattle.std.proofs.Common.{◌≡◌, ℕ, ◌==◌, ◌&&◌, ◌⊎◌, List, [], ◌∷◌, ◌++◌, Bool, true, false, not, refl, sym, ap, subst, ◌∙◌, arith, inl, inr, append_assoc, append-nil, eqb-true}
use Rattle.std.proofs.lemmas.Bool.{cases_Bool, or_parts, or_cases, and_parts, both_ways, or_left, or_right, false_from_ne_true, not-true}
use Rattle.std.proofs.lemmas.List.Folds.{list_any-append}
use Rattle.std.proofs.lemmas.Slice.Eq.{bytes_eq-Decides}
use Rattle.std.specs.List.{list_any}
use Rattle.bz_token.proofs.StringForms.{quoted_is}
use Rattle.bz_token.specs.declared.cutter.scan.LineKind.{LineKind}
use Rattle.bz_token.specs.declared.cutter.scan.LineKind.TheVariants.{Statement}
use Rattle.bz_token.specs.declared.cutter.scan.Quote.{Quote}
use Rattle.bz_token.specs.declared.cutter.scan.Quote.TheVariants.{Single, Double}
use Rattle.bz_token.specs.declared.cutter.scan.CutState.TheVariants.{Plain, Backslash, Comment, Opened, OpenedTwice, Long}
use Rattle.bz_token.specs.Groups.{grouped_from}
use Rattle.bz_token.specs.Munch.{IsLongest}
use Rattle.bz_token.specs.Pieces.{is_one, is_comment, is_continued, is_quoted, is_piece, is_space}
use Rattle.bz_token.specs.private.CutSteps.{byte_of, at, with_comment, in_short, next}
use Rattle.bz_token.proofs.CutSeen.{seen_lines, by_byte, plain_byte, comment_run, after_piece}
use Rattle.bz_token.proofs.CutStrings.{grouped_joins, grouped_apart, but_last_cons, short_run, short_from, stop_last, long_run, long_from, three_step, three_now, third, row, short_end}
use Rattle.bz_token.specs.Strings.{is_byte, escape_takes, units, but_last, is_quote}
use Rattle.bz_token.specs.private.StringPieces.{stops_short, breaks_short, three_in_a_row, is_short_string, is_long_string}

comment_piece : (t : List ℕ) → is_comment t ≡ true → is_piece t ≡ true
comment_piece t h = or_left _ _ (or_left _ _ (or_right (is_one (λ b. true) t) (is_comment t) h))

short_piece : (t : List ℕ) → is_short_string t ≡ true → is_piece t ≡ true
short_piece t h = or_right _ (is_quoted t) (quoted_is t ∙ or_left _ _ h)

long_piece : (t : List ℕ) → is_long_string t ≡ true → is_piece t ≡ true
long_piece t h = or_right _ (is_quoted t) (quoted_is t ∙ or_right (is_short_string t) _ h)

-- no piece has one byte more
follow : (p : List ℕ) (x : ℕ) (xs : List ℕ) → IsLongest is_piece p (x ∷ xs) → is_piece (p ++ x ∷ []) ≡ true → ⊥
follow p x xs l h = let e : x ∷ [] ≡ [] = l.longest (x ∷ []) xs refl h in cc

-- comments
comment_end : (bs after : List ℕ) (d : ℕ) (k : LineKind) (seen : List ℕ) → list_any (λ c. c == 10) bs ≡ false → IsLongest is_piece (35 ∷ bs) after → seen_lines (at Comment d k) seen after ≡ seen_lines (at Plain d k) seen after
comment_end bs [] d k seen none l = refl
comment_end bs (x ∷ xs) d k seen none l = by_byte (λ y. IsLongest is_piece (35 ∷ bs) (y ∷ xs) → seen_lines (at Comment d k) seen (y ∷ xs) ≡ seen_lines (at Plain d k) seen (y ∷ xs)) 10 x (λ m. refl)
    (λ n10 m.
    let e : list_any (λ c. c == 10) (bs ++ x ∷ []) ≡ false = rw (list_any-append, none, n10) refl in
    absurd (follow (35 ∷ bs) x xs m (comment_piece (35 ∷ (bs ++ x ∷ [])) (rw e refl)))) l

comment_no_space : (bs : List ℕ) → is_space true (35 ∷ bs) ≡ false
comment_no_space [] = refl
comment_no_space (b ∷ bs) = refl

comment_passes : (bs after : List ℕ) (d : ℕ) (k : LineKind) (seen : List ℕ) → list_any (λ c. c == 10) bs ≡ false → IsLongest is_piece (35 ∷ bs) after → seen_lines (at Plain d k) seen ((35 ∷ bs) ++ after) ≡ seen_lines (after_piece d k (35 ∷ bs)) (seen ++ (35 ∷ bs)) after
comment_passes bs after d k seen none l =
    comment_run bs after d (with_comment k) (seen ++ 35 ∷ []) none
    ∙ comment_end bs after d (with_comment k) ((seen ++ 35 ∷ []) ++ bs) none l
    ∙ rw (append_assoc, none, comment_no_space bs) refl

-- a backslash that continues no line
backslash_end : (after : List ℕ) (d : ℕ) (k : LineKind) (seen : List ℕ) → IsLongest is_piece (92 ∷ []) after → seen_lines (at Backslash d k) seen after ≡ seen_lines (at Plain d Statement) seen after
backslash_end [] d k seen l = refl
backslash_end (x ∷ []) d k seen l = by_byte (λ y. IsLongest is_piece (92 ∷ []) (y ∷ []) → seen_lines (at Backslash d k) seen (y ∷ []) ≡ seen_lines (at Plain d Statement) seen (y ∷ [])) 10 x
    (λ m. absurd (follow (92 ∷ []) 10 [] m refl))
    (λ n10 m. by_byte (λ y. (y == 10) ≡ false → seen_lines (at Backslash d k) seen (y ∷ []) ≡ seen_lines (at Plain d Statement) seen (y ∷ [])) 13 x (λ n. refl) (λ n13 n. rw (n, n13) refl) n10) l
backslash_end (x ∷ z ∷ zs) d k seen l = by_byte (λ y. IsLongest is_piece (92 ∷ []) (y ∷ z ∷ zs) → seen_lines (at Backslash d k) seen (y ∷ z ∷ zs) ≡ seen_lines (at Plain d Statement) seen (y ∷ z ∷ zs)) 10 x
    (λ m. absurd (follow (92 ∷ []) 10 (z ∷ zs) m refl))
    (λ n10 m. by_byte (λ y. IsLongest is_piece (92 ∷ []) (y ∷ z ∷ zs) → (y == 10) ≡ false → seen_lines (at Backslash d k) seen (y ∷ z ∷ zs) ≡ seen_lines (at Plain d Statement) seen (y ∷ z ∷ zs)) 13 x
    (λ o n. by_byte (λ w. IsLongest is_piece (92 ∷ []) (13 ∷ w ∷ zs) → seen_lines (at Backslash d k) seen (13 ∷ w ∷ zs) ≡ seen_lines (at Plain d Statement) seen (13 ∷ w ∷ zs)) 10 z
    (λ q. let e : 13 ∷ 10 ∷ [] ≡ [] = q.longest (13 ∷ 10 ∷ []) zs refl refl in absurd (cc))
    (λ m10 q. rw m10 refl) o)
    (λ n13 o n. let e : next (at Backslash d k) x ≡ next (at Plain d Statement) x = rw (n, n13) refl in ap (λ s. seen_lines s (seen ++ x ∷ []) (z ∷ zs)) e) m n10) l

-- strings
ext_any : (P : List ℕ → Bool) (bs u : List ℕ) (x : ℕ) → list_any P (grouped_from escape_takes u bs) ≡ false → list_any P (but_last (grouped_from escape_takes u (bs ++ x ∷ []))) ≡ false
ext_any P [] u x h = elim (cases_Bool (escape_takes u x)) [
  | inl is ↦ rw (grouped_joins escape_takes u x [] is) refl
  | inr differs ↦ rw (grouped_apart escape_takes u x [] differs) h
]
ext_any P (b ∷ bs) u x h = elim (cases_Bool (escape_takes u b)) [
  | inl is ↦ rw (grouped_joins escape_takes u b (bs ++ x ∷ []) is) (ext_any P bs (u ++ b ∷ []) x (rw (grouped_joins escape_takes u b bs is) at h))
  | inr differs ↦
      let parts = or_parts (P u) (list_any P (grouped_from escape_takes (b ∷ []) bs)) (rw (grouped_apart escape_takes u b bs differs) at h) in
      rw (grouped_apart escape_takes u b (bs ++ x ∷ []) differs, but_last_cons escape_takes u (b ∷ []) (bs ++ x ∷ []), parts.0) (ext_any P bs (b ∷ []) x parts.1)
]

ext_three : (q : ℕ) (bs u : List ℕ) (x n : ℕ) → three_in_a_row q n (grouped_from escape_takes u bs) ≡ false → three_in_a_row q n (but_last (grouped_from escape_takes u (bs ++ x ∷ []))) ≡ false
ext_three q [] u x n h = elim (cases_Bool (escape_takes u x)) [
  | inl is ↦ rw (grouped_joins escape_takes u x [] is) refl
  | inr differs ↦ rw (grouped_apart escape_takes u x [] differs) h
]
ext_three q (b ∷ bs) u x n h = elim (cases_Bool (escape_takes u b)) [
  | inl is ↦ rw (grouped_joins escape_takes u b (bs ++ x ∷ []) is) (ext_three q bs (u ++ b ∷ []) x n (rw (grouped_joins escape_takes u b bs is) at h))
  | inr differs ↦
      let older = rw (grouped_apart escape_takes u b bs differs) at h in
      let open_ : third q n u ≡ false = false_from_ne_true (third q n u) (λ t. both_ways _ older (three_now q n u (grouped_from escape_takes (b ∷ []) bs) t)) in
      rw (grouped_apart escape_takes u b (bs ++ x ∷ []) differs, but_last_cons escape_takes u (b ∷ []) (bs ++ x ∷ []), three_step q n u (but_last (grouped_from escape_takes (b ∷ []) (bs ++ x ∷ []))) open_)
      (ext_three q bs (b ∷ []) x (row q n u) (sym (three_step q n u (grouped_from escape_takes (b ∷ []) bs) open_) ∙ older))
]

-- a short string that no stop ends reaches the end of the text
short_closed : (quote : Quote) (b : ℕ) (bs after : List ℕ) → IsLongest is_piece (byte_of quote ∷ b ∷ bs) after → (list_any (stops_short (byte_of quote)) (grouped_from escape_takes (b ∷ []) bs) ≡ true) ⊎ (after ≡ [])
short_closed quote b bs [] l = inr refl
short_closed quote b bs (x ∷ xs) l = elim (cases_Bool (list_any (stops_short (byte_of quote)) (grouped_from escape_takes (b ∷ []) bs))) [
  | inl is ↦ inl is
  | inr differs ↦ absurd (follow (byte_of quote ∷ b ∷ bs) x xs l (short_piece (byte_of quote ∷ b ∷ (bs ++ x ∷ [])) (longer quote (ext_any (stops_short (byte_of quote)) bs (b ∷ []) x differs))))
] where
  longer : (quote : Quote) → list_any (stops_short (byte_of quote)) (but_last (grouped_from escape_takes (b ∷ []) (bs ++ x ∷ []))) ≡ false → is_short_string (byte_of quote ∷ b ∷ (bs ++ x ∷ [])) ≡ true
  longer Single h = rw h refl
  longer Double h = rw h refl

-- two quotes and no third
twice_end : (quote : Quote) (after : List ℕ) (d : ℕ) (seen : List ℕ) → IsLongest is_piece (byte_of quote ∷ byte_of quote ∷ []) after → seen_lines (at (OpenedTwice quote) d Statement) seen after ≡ seen_lines (at Plain d Statement) seen after
twice_end quote [] d seen l = refl
twice_end Single (x ∷ xs) d seen l = by_byte (λ y. IsLongest is_piece (39 ∷ 39 ∷ []) (y ∷ xs) → seen_lines (at (OpenedTwice Single) d Statement) seen (y ∷ xs) ≡ seen_lines (at Plain d Statement) seen (y ∷ xs)) 39 x (λ m. absurd (follow (39 ∷ 39 ∷ []) 39 xs m refl)) (λ n m. rw n refl) l
twice_end Double (x ∷ xs) d seen l = by_byte (λ y. IsLongest is_piece (34 ∷ 34 ∷ []) (y ∷ xs) → seen_lines (at (OpenedTwice Double) d Statement) seen (y ∷ xs) ≡ seen_lines (at Plain d Statement) seen (y ∷ xs)) 34 x (λ m. absurd (follow (34 ∷ 34 ∷ []) 34 xs m refl)) (λ n m. rw n refl) l

-- a string of one quote and more
short_after : (quote : Quote) (b : ℕ) (bs : List ℕ) (d : ℕ) (k : LineKind) → is_short_string (byte_of quote ∷ b ∷ bs) ≡ true → after_piece d k (byte_of quote ∷ b ∷ bs) ≡ short_end (list_any (is_byte 10) (grouped_from escape_takes (b ∷ []) bs)) d Statement
short_after Single b bs d k h = elim (cases_Bool (list_any (is_byte 10) (grouped_from escape_takes (b ∷ []) bs))) [ inl is ↦ simp (h, is) | inr differs ↦ simp (h, differs) ]
short_after Double b bs d k h = elim (cases_Bool (list_any (is_byte 10) (grouped_from escape_takes (b ∷ []) bs))) [ inl is ↦ simp (h, is) | inr differs ↦ simp (h, differs) ]

short_early : (quote : Quote) (b : ℕ) (bs : List ℕ) → is_short_string (byte_of quote ∷ b ∷ bs) ≡ true → list_any (stops_short (byte_of quote)) (but_last (grouped_from escape_takes (b ∷ []) bs)) ≡ false
short_early Single b bs h = not-true _ h
short_early Double b bs h = not-true _ h

opened : (quote : Quote) (b : ℕ) (bs after : List ℕ) (d : ℕ) (k : LineKind) (seen : List ℕ) → seen_lines (at Plain d k) seen ((byte_of quote ∷ b ∷ bs) ++ after) ≡ seen_lines (next (at (Opened quote) d Statement) b) ((seen ++ byte_of quote ∷ []) ++ b ∷ []) (bs ++ after)
opened Single b bs after d k seen = refl
opened Double b bs after d k seen = refl

opened_closed : (quote : Quote) (d : ℕ) (k : LineKind) → next (at (Opened quote) d Statement) (byte_of quote) ≡ at (OpenedTwice quote) d Statement
opened_closed Single d k = refl
opened_closed Double d k = refl

opened_not_closed : (quote : Quote) (b d : ℕ) → (b == byte_of quote) ≡ false → next (at (Opened quote) d Statement) b ≡ in_short quote d Statement b
opened_not_closed quote b d h = rw h refl

stop_itself : (quote : Quote) → stops_short (byte_of quote) (byte_of quote ∷ []) ≡ true
stop_itself Single = refl
stop_itself Double = refl

closed_end : (quote : Quote) (d : ℕ) → short_end (list_any (is_byte 10) (grouped_from escape_takes (byte_of quote ∷ []) [])) d Statement ≡ at Plain d Statement
closed_end Single d = refl
closed_end Double d = refl

short_more : (quote : Quote) (b : ℕ) (bs after : List ℕ) (d : ℕ) (k : LineKind) (seen : List ℕ) → is_short_string (byte_of quote ∷ b ∷ bs) ≡ true → IsLongest is_piece (byte_of quote ∷ b ∷ bs) after
    → seen_lines (next (at (Opened quote) d Statement) b) seen (bs ++ after) ≡ seen_lines (short_end (list_any (is_byte 10) (grouped_from escape_takes (b ∷ []) bs)) d Statement) (seen ++ bs) after
short_more quote b bs after d k seen h l = elim (cases_Bool (b == byte_of quote)) [
  | inl is ↦ closes b bs (eqb-true b (byte_of quote) is) (short_early quote b bs h) l
  | inr differs ↦
      ap (λ s. seen_lines s seen (bs ++ after)) (opened_not_closed quote b d differs)
      ∙ short_from quote b bs after d Statement seen
      (λ o. short_run quote bs (b ∷ []) after d Statement seen o (short_early quote b bs h) (short_closed quote b bs after l))
      (short_early quote b bs h)
] where
  closes : (b : ℕ) (bs : List ℕ) → b ≡ byte_of quote → list_any (stops_short (byte_of quote)) (but_last (grouped_from escape_takes (b ∷ []) bs)) ≡ false → IsLongest is_piece (byte_of quote ∷ b ∷ bs) after
      → seen_lines (next (at (Opened quote) d Statement) b) seen (bs ++ after) ≡ seen_lines (short_end (list_any (is_byte 10) (grouped_from escape_takes (b ∷ []) bs)) d Statement) (seen ++ bs) after
  closes b bs e early l =
      let last = stop_last quote b bs (rw e (stop_itself quote)) early in
      let l2 = rw (last, e) at l in
      rw (last, e, append-nil, opened_closed quote d k, closed_end quote d) (twice_end quote after d seen l2)

short_passes : (quote : Quote) (bs after : List ℕ) (d : ℕ) (k : LineKind) (seen : List ℕ) → is_short_string (byte_of quote ∷ bs) ≡ true → IsLongest is_piece (byte_of quote ∷ bs) after → seen_lines (at Plain d k) seen ((byte_of quote ∷ bs) ++ after) ≡ seen_lines (after_piece d k (byte_of quote ∷ bs)) (seen ++ (byte_of quote ∷ bs)) after
short_passes Single [] [] d k seen h l = refl
short_passes Double [] [] d k seen h l = refl
short_passes Single [] (x ∷ xs) d k seen h l = absurd (follow (39 ∷ []) x xs l (short_piece (39 ∷ x ∷ []) refl))
short_passes Double [] (x ∷ xs) d k seen h l = absurd (follow (34 ∷ []) x xs l (short_piece (34 ∷ x ∷ []) refl))
short_passes quote (b ∷ bs) after d k seen h l =
    opened quote b bs after d k seen
    ∙ short_more quote b bs after d k ((seen ++ byte_of quote ∷ []) ++ b ∷ []) h l
    ∙ rw (append_assoc, append_assoc, short_after quote b bs d k h) refl

-- a string of three quotes and more
long_after : (quote : Quote) (bs : List ℕ) (d : ℕ) (k : LineKind) → after_piece d k (byte_of quote ∷ byte_of quote ∷ byte_of quote ∷ bs) ≡ at Plain d Statement
long_after Single bs d k =
    let broken : breaks_short (39 ∷ 39 ∷ 39 ∷ bs) ≡ false = simp (but_last_cons escape_takes (39 ∷ []) (39 ∷ []) bs) in simp broken
long_after Double bs d k =
    let broken : breaks_short (34 ∷ 34 ∷ 34 ∷ bs) ≡ false = simp (but_last_cons escape_takes (34 ∷ []) (34 ∷ []) bs) in simp broken

long_early : (quote : Quote) (bs : List ℕ) → is_long_string (byte_of quote ∷ byte_of quote ∷ byte_of quote ∷ bs) ≡ true → three_in_a_row (byte_of quote) 0 (but_last (units bs)) ≡ false
long_early Single bs h = not-true _ h
long_early Double bs h = not-true _ h

long_closed : (quote : Quote) (b : ℕ) (bs after : List ℕ) → IsLongest is_piece (byte_of quote ∷ byte_of quote ∷ byte_of quote ∷ b ∷ bs) after → (three_in_a_row (byte_of quote) 0 (grouped_from escape_takes (b ∷ []) bs) ≡ true) ⊎ (after ≡ [])
long_closed quote b bs [] l = inr refl
long_closed quote b bs (x ∷ xs) l = elim (cases_Bool (three_in_a_row (byte_of quote) 0 (grouped_from escape_takes (b ∷ []) bs))) [
  | inl is ↦ inl is
  | inr differs ↦ absurd (follow (byte_of quote ∷ byte_of quote ∷ byte_of quote ∷ b ∷ bs) x xs l (long_piece (byte_of quote ∷ byte_of quote ∷ byte_of quote ∷ b ∷ (bs ++ x ∷ [])) (longer quote (ext_three (byte_of quote) bs (b ∷ []) x 0 differs))))
] where
  longer : (quote : Quote) → three_in_a_row (byte_of quote) 0 (but_last (grouped_from escape_takes (b ∷ []) (bs ++ x ∷ []))) ≡ false → is_long_string (byte_of quote ∷ byte_of quote ∷ byte_of quote ∷ b ∷ (bs ++ x ∷ [])) ≡ true
  longer Single h = simp h
  longer Double h = simp h

long_opened : (quote : Quote) (bs after : List ℕ) (d : ℕ) (k : LineKind) (seen : List ℕ) → seen_lines (at Plain d k) seen ((byte_of quote ∷ byte_of quote ∷ byte_of quote ∷ bs) ++ after) ≡ seen_lines (at (Long quote) d Statement) (((seen ++ byte_of quote ∷ []) ++ byte_of quote ∷ []) ++ byte_of quote ∷ []) (bs ++ after)
long_opened Single bs after d k seen = refl
long_opened Double bs after d k seen = refl

long_inside : (quote : Quote) (bs after : List ℕ) (d : ℕ) (seen : List ℕ) → is_long_string (byte_of quote ∷ byte_of quote ∷ byte_of quote ∷ bs) ≡ true → IsLongest is_piece (byte_of quote ∷ byte_of quote ∷ byte_of quote ∷ bs) after
    → seen_lines (at (Long quote) d Statement) seen (bs ++ after) ≡ seen_lines (at Plain d Statement) (seen ++ bs) after
long_inside quote [] [] d seen h l = rw append-nil refl
long_inside Single [] (x ∷ xs) d seen h l = absurd (follow (39 ∷ 39 ∷ 39 ∷ []) x xs l refl)
long_inside Double [] (x ∷ xs) d seen h l = absurd (follow (34 ∷ 34 ∷ 34 ∷ []) x xs l refl)
long_inside quote (b ∷ bs) after d seen h l =
    let early = long_early quote (b ∷ bs) h in
    long_from quote 0 b bs after d Statement (seen ++ b ∷ []) (omega arith)
    (λ o. long_run quote bs (b ∷ []) after 0 d Statement (seen ++ b ∷ []) (omega arith) o early (long_closed quote b bs after l))
    early
    ∙ rw append_assoc refl

long_passes : (quote : Quote) (bs after : List ℕ) (d : ℕ) (k : LineKind) (seen : List ℕ) → is_long_string (byte_of quote ∷ byte_of quote ∷ byte_of quote ∷ bs) ≡ true → IsLongest is_piece (byte_of quote ∷ byte_of quote ∷ byte_of quote ∷ bs) after
    → seen_lines (at Plain d k) seen ((byte_of quote ∷ byte_of quote ∷ byte_of quote ∷ bs) ++ after) ≡ seen_lines (after_piece d k (byte_of quote ∷ byte_of quote ∷ byte_of quote ∷ bs)) (seen ++ (byte_of quote ∷ byte_of quote ∷ byte_of quote ∷ bs)) after
long_passes quote bs after d k seen h l =
    long_opened quote bs after d k seen
    ∙ long_inside quote bs after d (((seen ++ byte_of quote ∷ []) ++ byte_of quote ∷ []) ++ byte_of quote ∷ []) h l
    ∙ rw (append_assoc, append_assoc, append_assoc, long_after quote bs d k) refl

-- one byte
one_passes : (b : ℕ) (after : List ℕ) (d : ℕ) (k : LineKind) (seen : List ℕ) → IsLongest is_piece (b ∷ []) after → seen_lines (at Plain d k) seen (b ∷ after) ≡ seen_lines (after_piece d k (b ∷ [])) (seen ++ b ∷ []) after
one_passes b after d k seen l =
    let P : ℕ → Type 0 = λ x. IsLongest is_piece (x ∷ []) after → seen_lines (at Plain d k) seen (x ∷ after) ≡ seen_lines (after_piece d k (x ∷ [])) (seen ++ x ∷ []) after in
    by_byte P 35 b (λ m. comment_passes [] after d k seen refl m) (λ n35.
    by_byte P 92 b (λ m. backslash_end after d k (seen ++ 92 ∷ []) m) (λ n92.
    by_byte P 34 b (λ m. short_passes Double [] after d k seen refl m) (λ n34.
    by_byte P 39 b (λ m. short_passes Single [] after d k seen refl m) (λ n39 m.
    ap (λ s. seen_lines s (seen ++ b ∷ []) after) (plain_byte d k b n35 n92 n34 n39))))) l

quoted : (P : ℕ → Type 0) (q : ℕ) → is_quote q ≡ true → P 34 → P 39 → P q
quoted P q h double single = elim (or_cases (q == 34) (q == 39) h) [
  | inl is ↦ subst P (sym (eqb-true q 34 is)) double
  | inr is ↦ subst P (sym (eqb-true q 39 is)) single
]

abbrev Passes : List ℕ → List ℕ → Type 0
Passes p after = (d : ℕ) (k : LineKind) (seen : List ℕ) → IsLongest is_piece p after → seen_lines (at Plain d k) seen (p ++ after) ≡ seen_lines (after_piece d k p) (seen ++ p) after

from_one : (p after : List ℕ) → is_one (λ b. true) p ≡ true → Passes p after
from_one [] after h d k seen l = cc
from_one (b ∷ []) after h d k seen l = one_passes b after d k seen l
from_one (b ∷ c ∷ bs) after h d k seen l = cc

from_comment : (p after : List ℕ) → is_comment p ≡ true → Passes p after
from_comment [] after h d k seen l = cc
from_comment (b ∷ bs) after h d k seen l =
    let parts = and_parts (b == 35) (not (list_any (λ c. c == 10) (b ∷ bs))) h in
    let none = or_parts (b == 10) (list_any (λ c. c == 10) bs) (not-true _ parts.1) in
    let e = eqb-true b 35 parts.0 in
    subst (λ x. Passes (x ∷ bs) after) (sym e) (λ n j s m. comment_passes bs after n j s none.1 m) d k seen l

from_continued : (p after : List ℕ) → is_continued p ≡ true → Passes p after
from_continued p after h d k seen l = elim (or_cases _ _ h) [
  | inl is ↦ rw ((bytes_eq-Decides p (92 ∷ 10 ∷ [])).0 is) (rw append_assoc refl)
  | inr is ↦ rw ((bytes_eq-Decides p (92 ∷ 13 ∷ 10 ∷ [])).0 is) (rw (append_assoc, append_assoc) refl)
]

from_short : (p after : List ℕ) → is_short_string p ≡ true → Passes p after
from_short [] after h d k seen l = cc
from_short (q ∷ bs) after h d k seen l =
    let parts = and_parts (is_quote q) (not (list_any (stops_short q) (but_last (units bs)))) h in
    quoted (λ x. is_short_string (x ∷ bs) ≡ true → Passes (x ∷ bs) after) q parts.0
    (λ g e j s m. short_passes Double bs after e j s g m) (λ g e j s m. short_passes Single bs after e j s g m) h d k seen l

from_long : (p after : List ℕ) → is_long_string p ≡ true → Passes p after
from_long [] after h d k seen l = cc
from_long (a ∷ []) after h d k seen l = cc
from_long (a ∷ b ∷ []) after h d k seen l = cc
from_long (a ∷ b ∷ c ∷ bs) after h d k seen l =
    let parts = and_parts (is_quote a && b == a && c == a) (not (three_in_a_row a 0 (but_last (units bs)))) h in
    let twos = and_parts (is_quote a && b == a) (c == a) parts.0 in
    let ones = and_parts (is_quote a) (b == a) twos.0 in
    let f = eqb-true b a ones.1 in
    let g = eqb-true c a twos.1 in
    let P : ℕ → Type 0 = λ x. is_long_string (x ∷ x ∷ x ∷ bs) ≡ true → Passes (x ∷ x ∷ x ∷ bs) after in
    let h2 : is_long_string (a ∷ a ∷ a ∷ bs) ≡ true = (rw (f, g) at h) in
    let l2 : IsLongest is_piece (a ∷ a ∷ a ∷ bs) after = (rw (f, g) at l) in
    rw (f, g) (quoted P a ones.0
    (λ g e j s m. long_passes Double bs after e j s g m) (λ g e j s m. long_passes Single bs after e j s g m) h2 d k seen l2)

-- after a piece the steps are where its kind says
pub passes : (p after : List ℕ) → Passes p after
passes p after d k seen l = elim (or_cases _ _ l.whole) [
  | inl three ↦ elim (or_cases _ _ three) [
    | inl two ↦ elim (or_cases (is_one (λ b. true) p) (is_comment p) two) [
      | inl one ↦ from_one p after one d k seen l
      | inr comment ↦ from_comment p after comment d k seen l
    ]
    | inr continued ↦ from_continued p after continued d k seen l
  ]
  | inr string ↦ elim (or_cases (is_short_string p) (is_long_string p) (sym (quoted_is p) ∙ string)) [
    | inl short ↦ from_short p after short d k seen l
    | inr long ↦ from_long p after long d k seen l
  ]
]
