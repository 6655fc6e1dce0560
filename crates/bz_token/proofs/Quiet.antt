-- Steps after which no logical line has ended.
use Rattle.std.proofs.Common.{◌≡◌, ℕ, ◌==◌, ◌&&◌, ◌||◌, List, [], ◌∷◌, ◌++◌, Bool, true, false, not, refl, sym, ap, subst, ◌∙◌, arith, inl, inr, append_assoc, append-nil}
use Rattle.std.specs.List.{list_all}
use Rattle.std.specs.Char.{is_ascii_digit}
use Rattle.std.proofs.lemmas.Bool.{cases_Bool, and_parts, false≢true, and_from, not-true, not_from_false, or_right}
-- for bz_layout_laws
pub use Rattle.std.proofs.lemmas.Bool.{and_from as both}
use Rattle.std.proofs.lemmas.Bool.Decides.{nat_tests}
use Rattle.bz_token.specs.declared.token.Kind.{Kind}
use Rattle.bz_token.specs.declared.token.Kind.TheVariants.{Identifier, Keyword, Integer, String, Operator, Newline, Comment as CommentToken, Kept}
use Rattle.bz_token.specs.declared.cutter.scan.LineKind.{LineKind}
use Rattle.bz_token.specs.declared.cutter.scan.LineKind.TheVariants.{Statement}
use Rattle.bz_token.specs.declared.cutter.scan.CutState.{CutState}
use Rattle.bz_token.specs.declared.cutter.scan.CutState.TheVariants.{Plain, Ended, BrokenOff, Backslash, BackslashReturn, Comment, Opened, OpenedTwice, Short, ShortEscape, ShortEscapeReturn, Long, LongQuote, LongTwoQuotes, LongEscape}
use Rattle.bz_token.specs.declared.cutter.scan.Scan.{Scan}
use Rattle.bz_token.specs.Lexical.{is_word_byte, is_name, is_keyword, is_text}
use Rattle.bz_token.specs.Common.{is_newline}
use Rattle.bz_token.specs.private.CutSteps.{is_ended, outside, next_in, next, run}
use Rattle.bz_token.proofs.Classes.{keyword_name}
use Rattle.bz_token.proofs.Ends.{number_words, string_opens}
use Rattle.bz_token.proofs.Agree.{is_operator_plain, operator_plain}
use Rattle.bz_token.proofs.FaultFronts.{has_newline, opening_same_more}
use Rattle.bz_token.proofs.OpenStrings.{string_within}
use Rattle.bz_token.proofs.CutMachine.{next_inside}
use Rattle.bz_token.proofs.CutSeen.{seen_lines}
use Rattle.bz_token.proofs.CutStrings.{seen_step}
use Rattle.bz_token.specs.Strings.{is_string, opening}

-- after none of these bytes a logical line has ended
abbrev pub is_quiet : Scan → List ℕ → Bool
is_quiet s [] = true
is_quiet s (b ∷ bs) = not (is_ended (next s b).inside) && is_quiet (next s b) bs

pub quiet_end : (xs : List ℕ) (s : Scan) → is_ended s.inside ≡ false → is_quiet s xs ≡ true → is_ended (run s xs).inside ≡ false
quiet_end [] s h q = h
quiet_end (x ∷ xs) s h q =
    let p = and_parts (not (is_ended (next s x).inside)) (is_quiet (next s x) xs) q in
    quiet_end xs (next s x) (not-true (is_ended (next s x).inside) p.0) p.1

-- such bytes stay in the line that they stand in
pub seen_quiet : (xs after : List ℕ) (s : Scan) (seen : List ℕ) → is_ended s.inside ≡ false → is_quiet s xs ≡ true → seen_lines s seen (xs ++ after) ≡ seen_lines (run s xs) (seen ++ xs) after
seen_quiet [] after s seen h q = ap (λ x. seen_lines s x after) (sym (append-nil seen))
seen_quiet (x ∷ xs) after s seen h q =
    let p = and_parts (not (is_ended (next s x).inside)) (is_quiet (next s x) xs) q in
    seen_step s seen x (xs ++ after) h
    ∙ seen_quiet xs after (next s x) (seen ++ x ∷ []) (not-true (is_ended (next s x).inside) p.0) p.1
    ∙ ap (λ y. seen_lines (run (next s x) xs) y after) (append_assoc seen (x ∷ []) xs)

-- what begins a statement makes its line one
pub statement_next : (i : CutState) (d b : ℕ) → is_ended i ≡ false → (next_in i d Statement b).kind ≡ Statement
statement_next Plain d b h = grind (arith, nat_tests)
statement_next Ended d b h = absurd (false≢true (sym h))
statement_next BrokenOff d b h = absurd (false≢true (sym h))
statement_next Backslash d b h = grind (arith, nat_tests)
statement_next BackslashReturn d b h = grind (arith, nat_tests)
statement_next Comment d b h = grind (arith, nat_tests)
statement_next (Opened q) d b h = grind (arith, nat_tests)
statement_next (OpenedTwice q) d b h = grind (arith, nat_tests)
statement_next (Short q) d b h = grind (arith, nat_tests)
statement_next (ShortEscape q) d b h = grind (arith, nat_tests)
statement_next (ShortEscapeReturn q) d b h = grind (arith, nat_tests)
statement_next (Long q) d b h = grind (arith, nat_tests)
statement_next (LongQuote q) d b h = grind (arith, nat_tests)
statement_next (LongTwoQuotes q) d b h = grind (arith, nat_tests)
statement_next (LongEscape q) d b h = refl

pub statement_step : (s : Scan) (b : ℕ) → is_ended s.inside ≡ false → s.kind ≡ Statement → (next s b).kind ≡ Statement
statement_step s b h k = ap (λ x. (next_in s.inside s.depth x b).kind) k ∙ statement_next s.inside s.depth b h

pub statement_run : (xs : List ℕ) (s : Scan) → is_ended s.inside ≡ false → is_quiet s xs ≡ true → s.kind ≡ Statement → (run s xs).kind ≡ Statement
statement_run [] s h q k = k
statement_run (x ∷ xs) s h q k =
    let p = and_parts (not (is_ended (next s x).inside)) (is_quiet (next s x) xs) q in
    statement_run xs (next s x) (not-true (is_ended (next s x).inside) p.0) p.1 (statement_step s x h k)

-- a line ends after a newline
pub ended_newline : (b : ℕ) (bs : List ℕ) (s : Scan) → is_ended (run s (b ∷ bs)).inside ≡ true → has_newline (b ∷ bs) ≡ true
ended_newline b [] s ended = elim (cases_Bool (b == 10)) [
  | inl hit ↦ rw hit refl
  | inr miss ↦ absurd (false≢true (sym (next_inside s.inside s.depth s.kind b miss) ∙ ended))
]
ended_newline b (c ∷ cs) s ended = or_right (is_newline b) (has_newline (c ∷ cs)) (ended_newline c cs (next s b) ended)

-- where no front ends a line
pub quiet_fronts : (bs : List ℕ) (s : Scan) → ((x : ℕ) (xs ys : List ℕ) → bs ≡ (x ∷ xs) ++ ys → is_ended (run s (x ∷ xs)).inside ≡ true → ⊥) → is_quiet s bs ≡ true
quiet_fronts [] s none = refl
quiet_fronts (b ∷ bs) s none =
    and_from (not (is_ended (next s b).inside)) (is_quiet (next s b) bs) here (quiet_fronts bs (next s b) (λ x xs ys e ended. none b (x ∷ xs) ys (ap (λ t. b ∷ t) e) ended))
  where
    here : not (is_ended (next s b).inside) ≡ true
    here = elim (cases_Bool (is_ended (next s b).inside)) [
      | inr miss ↦ not_from_false (is_ended (next s b).inside) miss
      | inl hit ↦ absurd (none b [] bs refl hit)
    ]

word_no_newline : (b : ℕ) → is_word_byte b ≡ true → is_newline b ≡ false
word_no_newline b h = grind (arith, nat_tests)

operator_no_newline : (b : ℕ) → is_operator_plain b ≡ true → is_newline b ≡ false
operator_no_newline b h = grind (arith, nat_tests)

all_no_newline : (p : ℕ → Bool) → ((b : ℕ) → p b ≡ true → is_newline b ≡ false) → (xs : List ℕ) → list_all p xs ≡ true → has_newline xs ≡ false
all_no_newline p none [] all = refl
all_no_newline p none (x ∷ xs) all =
    let parts = and_parts (p x) (list_all p xs) all in
    let first = none x parts.0 in
    let rest = all_no_newline p none xs parts.1 in
    rw (first, rest) refl

name_no_newline : (text : List ℕ) → is_name text ≡ true → has_newline text ≡ false
name_no_newline [] name = refl
name_no_newline (b ∷ bs) name = all_no_newline is_word_byte word_no_newline (b ∷ bs) (and_parts (not (is_ascii_digit b)) (list_all is_word_byte (b ∷ bs)) name).1

-- names, keywords, numbers and operators hold no newline
abbrev pub is_short_kind : Kind → Bool
is_short_kind Identifier = true
is_short_kind Keyword = true
is_short_kind Integer = true
is_short_kind Operator = true
is_short_kind _ = false

pub short_no_newline : (kind : Kind) (text : List ℕ) → is_short_kind kind ≡ true → is_text kind text ≡ true → has_newline text ≡ false
short_no_newline Identifier text short is = name_no_newline text (and_parts (is_name text) (not (is_keyword text)) is).0
short_no_newline Keyword text short is = name_no_newline text (keyword_name text is)
short_no_newline Integer text short is = all_no_newline is_word_byte word_no_newline text (number_words text is)
short_no_newline Operator text short is = all_no_newline is_operator_plain operator_no_newline text (and_parts (list_all is_operator_plain text) _ (operator_plain text is)).0
short_no_newline String text short is = absurd (false≢true short)
short_no_newline Newline text short is = absurd (false≢true short)
short_no_newline CommentToken text short is = absurd (false≢true short)
short_no_newline Kept text short is = absurd (false≢true short)

any_front : (xs ys : List ℕ) → has_newline xs ≡ true → has_newline (xs ++ ys) ≡ true
any_front [] ys h = absurd (false≢true h)
any_front (x ∷ xs) ys h = either (is_newline x) (has_newline xs) (has_newline (xs ++ ys)) (any_front xs ys) h
  where
    either : (x y z : Bool) → (y ≡ true → z ≡ true) → (x || y) ≡ true → (x || z) ≡ true
    either true y z f h = refl
    either false y z f h = f h

pub plain_quiet : (bs : List ℕ) (s : Scan) → has_newline bs ≡ false → is_quiet s bs ≡ true
plain_quiet bs s none = quiet_fronts bs s (λ x xs ys e ended. false≢true (sym none ∙ ap has_newline e ∙ any_front (x ∷ xs) ys (ended_newline x xs s ended)))

-- a string
pub string_quiet : (text : List ℕ) (s : Scan) (d : ℕ) → is_text String text ≡ true → ((b : ℕ) (bs : List ℕ) → text ≡ b ∷ bs → (k : LineKind) × (next s b ≡ outside d k b)) → (is_ended (run s text).inside ≡ true → ⊥) → is_quiet s text ≡ true
string_quiet text s d is first last = quiet_fronts text s fronts
  where
    fronts : (x : ℕ) (xs ys : List ℕ) → text ≡ (x ∷ xs) ++ ys → is_ended (run s (x ∷ xs)).inside ≡ true → ⊥
    fronts x xs [] e ended = last (subst (λ t. is_ended (run s t).inside ≡ true) (sym (append-nil (x ∷ xs)) ∙ sym e) ended)
    fronts x xs (m ∷ more) e ended =
        let line = ended_newline x xs s ended in
        let o = string_opens text is in
        let wide = ap opening (sym e) ∙ o.1 in
        string_within (x ∷ xs) o.0 m more s d (sym (opening_same_more (x ∷ xs) (m ∷ more) line) ∙ wide) wide (ap is_string (sym e) ∙ is)
        (λ b bs f. first b (bs ++ m ∷ more) (e ∙ ap (λ t. t ++ m ∷ more) f)) ended
