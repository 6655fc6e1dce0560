-- The lines that the steps find are the logical lines.
use Rattle.std.proofs.Common.{◌≡◌, ℕ, ◌-◌, ◌==◌, ◌||◌, ◌&&◌, List, [], ◌∷◌, ◌++◌, length, drop, Bool, true, false, not, cond, map, Option, Some, None, refl, sym, ap, ◌∙◌, arith, inl, inr, append-nil}
use Rattle.std.specs.Prelude.{codes}
use Rattle.std.proofs.lemmas.Bool.{cases_Bool, both_ways, and_parts, ne_eqb}
use Rattle.std.proofs.lemmas.List.Folds.{list_all-append, concat-append}
use Rattle.std.proofs.lemmas.List.Sums.{fold-append}
use Rattle.std.proofs.lemmas.Slice.Eq.{bytes_eq-Decides}
use Rattle.std.specs.List.{list_all, concat, fold, last_or}
use Rattle.bz_token.specs.declared.cutter.scan.LineKind.{LineKind}
use Rattle.bz_token.specs.declared.cutter.scan.LineKind.TheVariants.{Blank, CommentLine, Statement}
use Rattle.bz_token.specs.declared.cutter.scan.CutState.{CutState}
use Rattle.bz_token.specs.declared.cutter.scan.CutState.TheVariants.{Plain, Ended, BrokenOff}
use Rattle.bz_token.specs.declared.cutter.scan.Scan.{Scan}
use Rattle.bz_token.specs.Common.{is_empty, map_or}
use Rattle.bz_token.specs.Groups.{grouped, grouped_from}
use Rattle.bz_token.specs.Munch.{IsLongest, AreMunched, munched}
use Rattle.bz_token.specs.Pieces.{is_comment, is_broken_off, is_piece, is_space}
use Rattle.bz_token.specs.LogicalLines.{Line, ends_line, breaks_off, line_goes_on, kind_of, line_of, lines}
use Rattle.bz_token.specs.Brackets.{open_after_token}
use Rattle.bz_token.specs.private.CutSteps.{is_broken, line_at, at, with_comment, outside, is_one_of, count}
use Rattle.bz_token.specs.private.StringPieces.{breaks_short}
use Rattle.bz_token.proofs.CutMunch.{munched_are}
use Rattle.bz_token.proofs.StringForms.{broken_is}
use Rattle.bz_token.proofs.CutSeen.{by_byte, seen_lines, final_kind, kind_with, after_piece}
use Rattle.bz_token.proofs.CutStrings.{grouped_joins, grouped_apart}
use Rattle.bz_token.proofs.CutPasses.{passes}
use Rattle.bz_token.specs.Strings.{is_byte}

abbrev pub depth_after : ℕ → List (List ℕ) → ℕ
depth_after n [] = n
depth_after n (p ∷ ps) = depth_after (count n p) ps

depth_snoc : (n : ℕ) (line : List (List ℕ)) (p : List ℕ) → depth_after n (line ++ p ∷ []) ≡ count (depth_after n line) p
depth_snoc n [] p = refl
depth_snoc n (q ∷ qs) p = depth_snoc (count n q) qs p

last_snoc : (o : Option (List ℕ)) (line : List (List ℕ)) (p : List ℕ) → last_or o (line ++ p ∷ []) ≡ Some p
last_snoc o [] p = refl
last_snoc o (q ∷ qs) p = last_snoc (Some q) qs p

-- no bracket has several bytes
none_of_several : (bytes : List ℕ) (b c : ℕ) (bs : List ℕ) → is_one_of bytes (b ∷ c ∷ bs) ≡ false
none_of_several [] b c bs = refl
none_of_several (x ∷ xs) b c bs = ap (λ t. t || is_one_of xs (b ∷ c ∷ bs)) (several (b == x)) ∙ none_of_several xs b c bs
  where
    several : (t : Bool) → (t && false) ≡ false
    several true = refl
    several false = refl

one_closed : (opened : List ℕ) → length (drop 1 opened) ≡ length opened - 1
one_closed [] = refl
one_closed (a ∷ opened) = omega arith

-- as many brackets are open as are counted
counted : (opened p : List ℕ) → length (open_after_token opened p) ≡ count (length opened) p
counted opened [] = refl
counted opened (b ∷ []) =
    let P : ℕ → Type 0 = λ x. length (open_after_token opened (x ∷ [])) ≡ count (length opened) (x ∷ []) in
    by_byte P 40 b (omega arith) (λ n40.
    by_byte P 91 b (omega arith) (λ n91.
    by_byte P 123 b (omega arith) (λ n123.
    by_byte P 41 b (one_closed opened) (λ n41.
    by_byte P 93 b (one_closed opened) (λ n93.
    by_byte P 125 b (one_closed opened) (λ n125.
    rw (n40, n91, n123, n41, n93, n125) refl))))))
counted opened (b ∷ c ∷ bs) = rw (none_of_several (codes "([{") b c bs, none_of_several (codes ")]}") b c bs) refl

opened_depth : (opened : List ℕ) (line : List (List ℕ)) → length (fold open_after_token opened line) ≡ depth_after (length opened) line
opened_depth opened [] = refl
opened_depth opened (p ∷ ps) = opened_depth (open_after_token opened p) ps ∙ ap (λ n. depth_after n ps) (counted opened p)

none_open : (opened : List ℕ) → is_empty opened ≡ (length opened == 0)
none_open [] = refl
none_open (a ∷ opened) = sym (ne_eqb (length (a ∷ opened)) 0 (λ e. omega arith))

ends_snoc : (line : List (List ℕ)) (p : List ℕ) → ends_line (line ++ p ∷ []) ≡ (is_byte 10 p && depth_after 0 line == 0)
ends_snoc line p =
    ap (λ o. map_or false (is_byte 10) o && is_empty (fold open_after_token [] (line ++ p ∷ []))) (last_snoc None line p)
    ∙ ap (λ o. is_byte 10 p && is_empty o) (fold-append open_after_token [] line (p ∷ []))
    ∙ elim (cases_Bool (is_byte 10 p)) [
      | inl newline ↦
          let same : p ≡ 10 ∷ [] = (bytes_eq-Decides p (10 ∷ [])).0 newline in
          rw same (none_open (fold open_after_token [] line) ∙ ap (λ n. n == 0) (opened_depth [] line))
      | inr other ↦ rw other refl
    ]

breaks_snoc : (line : List (List ℕ)) (p : List ℕ) → breaks_off (line ++ p ∷ []) ≡ breaks_short p
breaks_snoc line p = ap (map_or false is_broken_off) (last_snoc None line p) ∙ broken_is p

kinds : (a b g c : Bool) → (a ≡ true → b ≡ true) → cond (a && (g && true)) Blank (cond (b && ((g || c) && true)) CommentLine Statement) ≡ cond g (cond a Blank (cond b CommentLine Statement)) (cond c (with_comment (cond a Blank (cond b CommentLine Statement))) Statement)
kinds true true true true h = refl
kinds true true true false h = refl
kinds true true false true h = refl
kinds true true false false h = refl
kinds true false g c h = absurd (both_ways _ refl (h refl))
kinds false true true true h = refl
kinds false true true false h = refl
kinds false true false true h = refl
kinds false true false false h = refl
kinds false false true true h = refl
kinds false false true false h = refl
kinds false false false true h = refl
kinds false false false false h = refl

abbrev commented : List ℕ → Bool
commented p = is_space true p || is_comment p

gaps_commented : (line : List (List ℕ)) → list_all (is_space true) line ≡ true → list_all commented line ≡ true
gaps_commented [] h = refl
gaps_commented (p ∷ ps) h =
    let parts = and_parts (is_space true p) (list_all (is_space true) ps) h in
    rw (parts.0) (gaps_commented ps parts.1)

kind_snoc : (line : List (List ℕ)) (p : List ℕ) → kind_of (line ++ p ∷ []) ≡ kind_with (kind_of line) p
kind_snoc line p =
    rw (list_all-append (is_space true) line (p ∷ []), list_all-append commented line (p ∷ [])) (kinds (list_all (is_space true) line) (list_all commented line) (is_space true p) (is_comment p) (gaps_commented line))

-- where the steps are after a part of a line
abbrev pub inside_of : Bool → Bool → CutState
inside_of broken ended = cond broken BrokenOff (cond ended Ended Plain)

abbrev pub at_line : List (List ℕ) → Scan
at_line line = at (inside_of (breaks_off line) (ends_line line)) (depth_after 0 line) (kind_of line)

at_snoc : (line : List (List ℕ)) (p : List ℕ) → after_piece (depth_after 0 line) (kind_of line) p ≡ at_line (line ++ p ∷ [])
at_snoc line p = λ i. at (inside_of (sym (breaks_snoc line p) i) (sym (ends_snoc line p) i)) (sym (depth_snoc 0 line p) i) (sym (kind_snoc line p) i)

line_final : (broken ended : Bool) (text : List ℕ) (k : LineKind) → line_at text (final_kind (inside_of broken ended) k) (is_broken (inside_of broken ended)) ≡ line_at text k broken
line_final true ended text k = refl
line_final false true text k = refl
line_final false false text k = refl

concat_snoc : (line : List (List ℕ)) (p : List ℕ) → concat (line ++ p ∷ []) ≡ concat line ++ p
concat_snoc line p = concat-append line (p ∷ []) ∙ ap (λ x. concat line ++ x) (append-nil p)

-- a line that has ended, and the next byte
ended_at : (broken ended : Bool) (d : ℕ) (k : LineKind) (seen : List ℕ) (b : ℕ) (bs : List ℕ) → (broken || ended) ≡ true → seen_lines (at (inside_of broken ended) d k) seen (b ∷ bs) ≡ line_at seen k broken ∷ seen_lines (outside 0 Blank b) (b ∷ []) bs
ended_at true ended d k seen b bs h = refl
ended_at false true d k seen b bs h = refl
ended_at false false d k seen b bs h = absurd (both_ways _ refl h)

inside_at : (broken ended : Bool) → (broken || ended) ≡ false → inside_of broken ended ≡ Plain
inside_at false false h = refl
inside_at true ended h = absurd (both_ways _ h refl)
inside_at false true h = absurd (both_ways _ h refl)

-- the first piece of a line
first_piece : (p after : List ℕ) → IsLongest is_piece p after → (before : List (List ℕ)) → (breaks_off before || ends_line before) ≡ true → (seen : List ℕ) → seen_lines (at_line before) seen (p ++ after) ≡ line_at seen (kind_of before) (breaks_off before) ∷ seen_lines (at_line (p ∷ [])) p after
first_piece [] after l before h seen = let e = l.whole in cc
first_piece (b ∷ bs) after l before h seen =
    ended_at (breaks_off before) (ends_line before) (depth_after 0 before) (kind_of before) seen b (bs ++ after) h
    ∙ ap (λ ls. line_at seen (kind_of before) (breaks_off before) ∷ ls) (passes (b ∷ bs) after 0 Blank [] l ∙ ap (λ s. seen_lines s (b ∷ bs) after) (at_snoc [] (b ∷ bs)))

next_piece : (p after : List ℕ) → IsLongest is_piece p after → (line : List (List ℕ)) → (breaks_off line || ends_line line) ≡ false → (seen : List ℕ) → seen_lines (at_line line) seen (p ++ after) ≡ seen_lines (at_line (line ++ p ∷ [])) (seen ++ p) after
next_piece p after l line h seen =
    ap (λ e. seen_lines (at e (depth_after 0 line) (kind_of line)) seen (p ++ after)) (inside_at (breaks_off line) (ends_line line) h)
    ∙ passes p after (depth_after 0 line) (kind_of line) seen l
    ∙ ap (λ s. seen_lines s (seen ++ p) after) (at_snoc line p)

pub lines_from : (ps : List (List ℕ)) (bytes : List ℕ) → AreMunched is_piece ps bytes → (line : List (List ℕ)) → seen_lines (at_line line) (concat line) bytes ≡ map line_of (grouped_from line_goes_on line ps)
lines_from [] bytes e line = rw e (ap (λ l. l ∷ []) (line_final (breaks_off line) (ends_line line) (concat line) (kind_of line)))
lines_from (p ∷ ps) bytes m line = elim (cases_Bool (breaks_off line || ends_line line)) [
  | inl ended ↦
      let apart : line_goes_on line p ≡ false = ap not ended in
      rw m.1 (first_piece p m.0 m.2 line ended (concat line)
      ∙ ap (λ ls. line_of line ∷ ls) (ap (λ s. seen_lines (at_line (p ∷ [])) s m.0) (sym (append-nil p)) ∙ lines_from ps m.0 m.3 (p ∷ []))
      ∙ sym (ap (map line_of) (grouped_apart line_goes_on line p ps apart)))
  | inr inside ↦
      let joins : line_goes_on line p ≡ true = ap not inside in
      rw m.1 (next_piece p m.0 m.2 line inside (concat line)
      ∙ ap (λ s. seen_lines (at_line (line ++ p ∷ [])) s m.0) (sym (concat_snoc line p))
      ∙ lines_from ps m.0 m.3 (line ++ p ∷ [])
      ∙ sym (ap (map line_of) (grouped_joins line_goes_on line p ps joins)))
]

abbrev pub lines_seen : List ℕ → List Line
lines_seen [] = []
lines_seen (b ∷ bs) = seen_lines (outside 0 Blank b) (b ∷ []) bs

pub lines_of : (bytes : List ℕ) (ps : List (List ℕ)) → AreMunched is_piece ps bytes → lines_seen bytes ≡ map line_of (grouped line_goes_on ps)
lines_of [] [] m = refl
lines_of (b ∷ bs) [] m = cc
lines_of bytes ([] ∷ ps) m = let e = m.2.whole in cc
lines_of bytes ((c ∷ p) ∷ ps) m =
    ap lines_seen m.1
    ∙ passes (c ∷ p) m.0 0 Blank [] m.2
    ∙ ap (λ s. seen_lines s (c ∷ p) m.0) (at_snoc [] (c ∷ p))
    ∙ ap (λ s. seen_lines (at_line ((c ∷ p) ∷ [])) s m.0) (sym (append-nil (c ∷ p)))
    ∙ lines_from ps m.0 m.3 ((c ∷ p) ∷ [])

-- the first law: the logical lines of a text
pub lines_are : (bytes : List ℕ) → lines bytes ≡ lines_seen bytes
lines_are bytes = sym (lines_of bytes (munched is_piece bytes) (munched_are is_piece (λ b. refl) bytes))
