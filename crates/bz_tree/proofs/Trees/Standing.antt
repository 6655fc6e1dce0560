-- The tokens of a text stand in it at their places.
use Rattle.std.proofs.Common.{◌≡◌, ℕ, ◌+◌, ◌<◌, ◌^◌, ◌==◌, List, [], ◌∷◌, ◌++◌, count_by, Bool, true, false, ◌&&◌, cond, Option, Some, None, refl, sym, ap, subst, ◌∙◌, arith, append_assoc, append-nil}
use Rattle.std.specs.Prelude.{codes, is_some}
use Rattle.std.specs.Option.{option_or}
use Rattle.std.specs.Str.{bytes_eq}
use Rattle.std.proofs.lemmas.Bool.{false≢true, and_parts}
use Rattle.std.proofs.lemmas.Bool.Decides.{nat_tests}
use Rattle.std.proofs.lemmas.Slice.Eq.{bytes_eq-Decides}
use Rattle.bz_token.proofs.Units.{gap_step}
use Rattle.bz_token.specs.declared.token.Kind.{Kind}
use Rattle.bz_token.specs.declared.token.Kind.TheVariants.{Keyword, Operator, Newline}
use Rattle.bz_token.specs.Blocks.{opener_of}
use Rattle.bz_token.specs.declared.cutter.block.Opener.TheVariants.{Def, For, If}
use Rattle.bz_token.specs.Places.{Placed, line_at}
use Rattle.bz_token.specs.Lexical.{is_text}
use Rattle.bz_token.specs.Brackets.{is_inside, open_after_token}
use Rattle.bz_token.specs.Reading.{is_gap, Piece, IsReading, token_of, tokens_of, AreTokensOf}
use Rattle.bz_tree.specs.Kinds.{operator_mark, kind_mark, mark_of}
use Rattle.bz_tree.specs.Brackets.{is_line, without_lines}
use Rattle.std.specs.List.{last_or as last_of}
use Rattle.bz_tree.specs.Statement.{is_aside, bare_tokens, EndsFit}
use Rattle.bz_tree.specs.Blocks.{IsAt, is_block_word_at}
use Rattle.bz_tree.specs.private.BlockSteps.{IsAsciiFront, AreStanding}
use Rattle.bz_token.proofs.Progress.{newlines, newlines-append}
use Rattle.bz_tree.proofs.Trees.LastToken.{last_or}
use Rattle.bz_tree.proofs.Trees.Sound.{none_is_some, some_injective}
use Rattle.bz_token.specs.Common.{first_of}
use Rattle.bz_token.specs.Pieces.{is_white}
use Rattle.bz_token.specs.private.Gaps.{continues_gap}

-- each token ends on a line of the text
ends_in : (first : ℕ) (ps : List Piece) (depth : ℕ) (before lines opened bs rest : List ℕ) → IsReading depth opened ps rest bs → first + newlines (before ++ bs) < 2 ^ 64 → EndsFit (tokens_of first before lines ps)
ends_in first [] depth before lines opened bs rest reading fits = tt
ends_in first (p ∷ ps) depth before lines opened bs rest reading fits =
    let after = reading.0 in
    let all : before ++ bs ≡ (before ++ (p.gap ++ p.text)) ++ after = ap (λ xs. before ++ xs) reading.1.bytes_are ∙ simp append_assoc in
    let parts : before ++ bs ≡ ((before ++ p.gap) ++ p.text) ++ after = ap (λ xs. before ++ xs) reading.1.bytes_are ∙ simp append_assoc in
    let n = newlines-append ((before ++ p.gap) ++ p.text) after in
    let k = newlines-append (before ++ p.gap) p.text in
    let here : first + count_by (λ b. b == 10) (before ++ p.gap) + count_by (λ b. b == 10) p.text < 2 ^ 64 =
    omega (arith, fits, ap newlines parts, n, k) in
    let more : first + newlines ((before ++ (p.gap ++ p.text)) ++ after) < 2 ^ 64 = omega (arith, fits, ap newlines all) in
    (here, ends_in first ps depth (before ++ (p.gap ++ p.text)) (line_at first (before ++ p.gap) ∷ lines) (open_after_token opened p.text) after rest reading.2 more)

pub ends_fit : (first depth : ℕ) (bytes : List ℕ) (tokens : List Placed) → AreTokensOf first depth bytes tokens → first + count_by (λ b. b == 10) bytes < 2 ^ 64 → EndsFit tokens
ends_fit first depth bytes tokens is fits =
    subst EndsFit (sym is.5) (ends_in first is.0 depth [] [] [] bytes is.1 is.2 (omega (arith, fits)))

-- gaps begin with ASCII
white_ascii : (inside : Bool) (b : ℕ) → is_white inside b ≡ true → b < 128
white_ascii true b h = grind (arith, nat_tests)
white_ascii false b h = grind (arith, nat_tests)

slash_ascii : (b : ℕ) → (b == 92) ≡ true → b < 128
slash_ascii b h = grind (arith, nat_tests)

gap_byte : (w inside : Bool) (b : ℕ) (bs : List ℕ) → is_white inside b ≡ w → elim w [ true ↦ is_gap inside bs | false ↦ b == 92 && continues_gap inside bs ] ≡ true → b < 128
gap_byte true inside b bs is h = white_ascii inside b is
gap_byte false inside b bs is h = slash_ascii b (and_parts (b == 92) (continues_gap inside bs) h).0

gap_front : (inside : Bool) (gap : List ℕ) → is_gap inside gap ≡ true → IsAsciiFront gap
gap_front inside [] h = tt
gap_front inside (b ∷ bs) h = gap_byte (is_white inside b) inside b bs refl (sym (gap_step inside b bs) ∙ h)

-- only a newline is one
operator_no_line : (t : List ℕ) → is_line (operator_mark t) ≡ false
operator_no_line t = grind arith

newline_front : (t after : List ℕ) → t ≡ 10 ∷ [] → IsAsciiFront (t ++ after)
newline_front t after is = subst (λ x. IsAsciiFront (x ++ after)) (sym is) (let h : 10 < 128 = omega arith in h)

line_front : (kind : Kind) (t after : List ℕ) → is_line (kind_mark kind t) ≡ true → is_text kind t ≡ true → IsAsciiFront (t ++ after)
line_front Newline t after is whole = newline_front t after ((bytes_eq-Decides t (10 ∷ [])).0 whole)
line_front Operator t after is whole = absurd (false≢true (sym (operator_no_line t) ∙ is))
line_front _ t after is whole = absurd (false≢true is)

front_of : (gap more : List ℕ) → IsAsciiFront gap → IsAsciiFront more → IsAsciiFront (gap ++ more)
front_of [] more g m = m
front_of (b ∷ gap) more g m = g

-- after the last token stand newlines and white space
empty_line : (l : Bool) (t : Placed) (ts : List Placed) → cond l ts (t ∷ ts) ≡ [] → l ≡ true
empty_line true t ts e = refl
empty_line false t ts e = cc

blank_front : (first : ℕ) (ps : List Piece) (depth : ℕ) (before lines opened bs rest : List ℕ) → IsReading depth opened ps rest bs → is_gap false rest ≡ true → without_lines (tokens_of first before lines ps) ≡ [] → IsAsciiFront bs
blank_front first [] depth before lines opened bs rest reading gap none = subst IsAsciiFront (sym reading) (gap_front false rest gap)
blank_front first (p ∷ ps) depth before lines opened bs rest reading gap none =
    let line = empty_line (is_line (kind_mark p.kind p.text)) (token_of first (before ++ p.gap) lines p) (without_lines (tokens_of first (before ++ (p.gap ++ p.text)) (line_at first (before ++ p.gap) ∷ lines) ps)) none in
    subst IsAsciiFront (sym reading.1.bytes_are) (front_of p.gap (p.text ++ reading.0) (gap_front (is_inside opened) p.gap reading.1.gap) (line_front p.kind p.text reading.0 line reading.1.token.whole))

pub none_empty : (xs : List Placed) → last_of None xs ≡ None → xs ≡ []
none_empty [] e = refl
none_empty (t ∷ ts) e = absurd (some_last t (last_of None ts) (sym (last_or (Some t) ts) ∙ e))
  where
    some_last : (t : Placed) (l : Option Placed) → option_or l (Some t) ≡ None → ⊥
    some_last t None e = none_is_some t (sym e)
    some_last t (Some u) e = none_is_some u (sym e)

record LastIn (first : ℕ) (before bs : List ℕ) (last : Placed) : Type 0 where
  front : List ℕ
  after : List ℕ
  bytes_are : bs ≡ front ++ (last.text ++ after)
  is_at : IsAt first (before ++ front) last
  at_end : IsAsciiFront after

-- a token, and nothing but newlines after it
last_here : (first : ℕ) (p : Piece) (before lines bs after : List ℕ) (last : Placed) → bs ≡ p.gap ++ (p.text ++ after) → token_of first (before ++ p.gap) lines p ≡ last → IsAsciiFront after → LastIn first before bs last
last_here first p before lines bs after last is here ascii = record {
  front = p.gap;
  after = after;
  bytes_are = is ∙ ap (λ (t : Placed). p.gap ++ (t.text ++ after)) here;
  is_at = record { line = ap (λ (t : Placed). t.line) here; col = ap (λ (t : Placed). t.col) here };
  at_end = ascii;
}

last_later : (first : ℕ) (p : Piece) (before bs after : List ℕ) (last : Placed) → bs ≡ p.gap ++ (p.text ++ after) → LastIn first (before ++ (p.gap ++ p.text)) after last → LastIn first before bs last
last_later first p before bs after last is l = record {
  front = (p.gap ++ p.text) ++ l.front;
  after = l.after;
  bytes_are = is ∙ ap (λ xs. p.gap ++ (p.text ++ xs)) l.bytes_are ∙ simp append_assoc;
  is_at = subst (λ xs. IsAt first xs last) (append_assoc before (p.gap ++ p.text) l.front) l.is_at;
  at_end = l.at_end;
}

abbrev LastFound : ℕ → List Piece → Type 0
LastFound first ps = (depth : ℕ) (before lines opened bs rest : List ℕ) (last : Placed) → IsReading depth opened ps rest bs → is_gap false rest ≡ true → last_of None (without_lines (tokens_of first before lines ps)) ≡ Some last → LastIn first before bs last

-- from a token that is no newline on
last_from : (first : ℕ) (p : Piece) (ps : List Piece) → LastFound first ps → (depth : ℕ) (before lines opened bs rest : List ℕ) (last : Placed) → (reading : IsReading depth opened (p ∷ ps) rest bs) → is_gap false rest ≡ true
    → (l : Option Placed) → last_of None (without_lines (tokens_of first (before ++ (p.gap ++ p.text)) (line_at first (before ++ p.gap) ∷ lines) ps)) ≡ l
    → option_or l (Some (token_of first (before ++ p.gap) lines p)) ≡ Some last → LastIn first before bs last
last_from first p ps more depth before lines opened bs rest last reading gap None found is =
    last_here first p before lines bs reading.0 last reading.1.bytes_are (some_injective _ last is)
    (blank_front first ps depth (before ++ (p.gap ++ p.text)) (line_at first (before ++ p.gap) ∷ lines) (open_after_token opened p.text) reading.0 rest reading.2 gap (none_empty _ found))
last_from first p ps more depth before lines opened bs rest last reading gap (Some u) found is =
    last_later first p before bs reading.0 last reading.1.bytes_are
    (more depth (before ++ (p.gap ++ p.text)) (line_at first (before ++ p.gap) ∷ lines) (open_after_token opened p.text) reading.0 rest last reading.2 gap (found ∙ is))

last_found : (first : ℕ) (ps : List Piece) → LastFound first ps
last_found first [] = λ depth before lines opened bs rest last reading gap is. absurd (none_is_some last is)
last_found first (p ∷ ps) = λ depth before lines opened bs rest last reading gap is. at_line (is_line (kind_mark p.kind p.text)) (last_found first ps) depth before lines opened bs rest last reading gap is
  where
    at_line : (b : Bool) → LastFound first ps → (depth : ℕ) (before lines opened bs rest : List ℕ) (last : Placed) → (reading : IsReading depth opened (p ∷ ps) rest bs) → is_gap false rest ≡ true
        → (let ts = without_lines (tokens_of first (before ++ (p.gap ++ p.text)) (line_at first (before ++ p.gap) ∷ lines) ps) in last_of None (cond b ts (token_of first (before ++ p.gap) lines p ∷ ts)) ≡ Some last)
        → LastIn first before bs last
    at_line true more depth before lines opened bs rest last reading gap is =
        last_later first p before bs reading.0 last reading.1.bytes_are
        (more depth (before ++ (p.gap ++ p.text)) (line_at first (before ++ p.gap) ∷ lines) (open_after_token opened p.text) reading.0 rest last reading.2 gap is)
    at_line false more depth before lines opened bs rest last reading gap is =
        let ts = without_lines (tokens_of first (before ++ (p.gap ++ p.text)) (line_at first (before ++ p.gap) ∷ lines) ps) in
        last_from first p ps more depth before lines opened bs rest last reading gap (last_of None ts) refl (sym (last_or (Some (token_of first (before ++ p.gap) lines p)) ts) ∙ is)

-- a list without tokens has no first one
line_aside : (kind : Kind) (t : List ℕ) → is_line (kind_mark kind t) ≡ true → is_aside kind ≡ true
line_aside va vb vc = grind (arith, operator_no_line)

pub bare_empty : (ts : List Placed) → without_lines ts ≡ [] → bare_tokens ts ≡ []
bare_empty [] e = refl
bare_empty (t ∷ ts) e =
    let line = empty_line (is_line (mark_of t)) t (without_lines ts) e in
    let rest : without_lines ts ≡ [] = ap (λ b. cond b (without_lines ts) (t ∷ without_lines ts)) (sym line) ∙ e in
    ap (λ b. cond b (bare_tokens ts) (t ∷ bare_tokens ts)) (line_aside t.kind t.text line) ∙ bare_empty ts rest

pub later_last : (b : Bool) (t : Placed) (ts : List Placed) (header last : Placed) → first_of (bare_tokens ts) ≡ Some header → last_of None (cond b (without_lines ts) (t ∷ without_lines ts)) ≡ Some last → last_of None (without_lines ts) ≡ Some last
later_last true t ts header last some is = is
later_last false t ts header last some is = at_last (last_of None (without_lines ts)) refl (sym (last_or (Some t) (without_lines ts)) ∙ is)
  where
    at_last : (l : Option Placed) → last_of None (without_lines ts) ≡ l → option_or l (Some t) ≡ Some last → l ≡ Some last
    at_last None found is = absurd (none_is_some header (ap first_of (sym (bare_empty ts (none_empty (without_lines ts) found))) ∙ some))
    at_last (Some u) found is = is

-- the first token of a statement, and the last token of its chunk
record BothIn (first : ℕ) (before bs : List ℕ) (header last : Placed) : Type 0 where
  skipped : List ℕ
  front : List ℕ
  after : List ℕ
  more : List ℕ
  bytes_are : bs ≡ skipped ++ ((front ++ last.text) ++ after)
  begins_with : (front ++ last.text) ++ after ≡ header.text ++ more
  begins : IsAt first (before ++ skipped) header
  ends : IsAt first (before ++ (skipped ++ front)) last
  at_end : IsAsciiFront after

both_later : (first : ℕ) (p : Piece) (before bs after : List ℕ) (header last : Placed) → bs ≡ p.gap ++ (p.text ++ after) → BothIn first (before ++ (p.gap ++ p.text)) after header last → BothIn first before bs header last
both_later first p before bs after header last is b = record {
  skipped = (p.gap ++ p.text) ++ b.skipped;
  front = b.front;
  after = b.after;
  more = b.more;
  bytes_are = is ∙ ap (λ xs. p.gap ++ (p.text ++ xs)) b.bytes_are ∙ simp append_assoc;
  begins_with = b.begins_with;
  begins = subst (λ xs. IsAt first xs header) (append_assoc before (p.gap ++ p.text) b.skipped) b.begins;
  ends =
      let e : (before ++ (p.gap ++ p.text)) ++ (b.skipped ++ b.front) ≡ before ++ (((p.gap ++ p.text) ++ b.skipped) ++ b.front) = simp append_assoc in
      subst (λ xs. IsAt first xs last) e b.ends;
  at_end = b.at_end;
}

both_here : (first : ℕ) (p : Piece) (before lines bs after : List ℕ) (header last : Placed) → bs ≡ p.gap ++ (p.text ++ after) → token_of first (before ++ p.gap) lines p ≡ header → LastIn first (before ++ (p.gap ++ p.text)) after last → BothIn first before bs header last
both_here first p before lines bs after header last is here l = record {
  skipped = p.gap;
  front = p.text ++ l.front;
  after = l.after;
  more = l.front ++ (last.text ++ l.after);
  bytes_are = is ∙ ap (λ xs. p.gap ++ (p.text ++ xs)) l.bytes_are ∙ simp append_assoc;
  begins_with =
      let e : ((p.text ++ l.front) ++ last.text) ++ l.after ≡ p.text ++ (l.front ++ (last.text ++ l.after)) = simp append_assoc in
      e ∙ ap (λ (t : Placed). t.text ++ (l.front ++ (last.text ++ l.after))) here;
  begins = record { line = ap (λ (t : Placed). t.line) here; col = ap (λ (t : Placed). t.col) here };
  ends =
      let e : (before ++ (p.gap ++ p.text)) ++ l.front ≡ before ++ (p.gap ++ (p.text ++ l.front)) = simp append_assoc in
      subst (λ xs. IsAt first xs last) e l.is_at;
  at_end = l.at_end;
}

-- the same token
both_one : (first : ℕ) (p : Piece) (before lines bs after : List ℕ) (header last : Placed) → bs ≡ p.gap ++ (p.text ++ after) → token_of first (before ++ p.gap) lines p ≡ header → token_of first (before ++ p.gap) lines p ≡ last → IsAsciiFront after → BothIn first before bs header last
both_one first p before lines bs after header last is here there ascii = record {
  skipped = p.gap;
  front = [];
  after = after;
  more = after;
  bytes_are = is ∙ ap (λ (t : Placed). p.gap ++ (t.text ++ after)) there;
  begins_with = ap (λ (t : Placed). t.text ++ after) (sym there ∙ here);
  begins = record { line = ap (λ (t : Placed). t.line) here; col = ap (λ (t : Placed). t.col) here };
  ends =
      let e : before ++ p.gap ≡ before ++ (p.gap ++ []) = ap (λ xs. before ++ xs) (sym (append-nil p.gap)) in
      subst (λ xs. IsAt first xs last) e (record { line = ap (λ (t : Placed). t.line) there; col = ap (λ (t : Placed). t.col) there });
  at_end = ascii;
}

abbrev BothFound : ℕ → List Piece → Type 0
BothFound first ps = (depth : ℕ) (before lines opened bs rest : List ℕ) (header last : Placed) → IsReading depth opened ps rest bs → is_gap false rest ≡ true
    → first_of (bare_tokens (tokens_of first before lines ps)) ≡ Some header → last_of None (without_lines (tokens_of first before lines ps)) ≡ Some last → BothIn first before bs header last

both_from : (first : ℕ) (p : Piece) (ps : List Piece) (depth : ℕ) (before lines opened bs rest : List ℕ) (header last : Placed) → (reading : IsReading depth opened (p ∷ ps) rest bs) → is_gap false rest ≡ true
    → token_of first (before ++ p.gap) lines p ≡ header
    → (l : Option Placed) → last_of None (without_lines (tokens_of first (before ++ (p.gap ++ p.text)) (line_at first (before ++ p.gap) ∷ lines) ps)) ≡ l
    → option_or l (Some (token_of first (before ++ p.gap) lines p)) ≡ Some last → BothIn first before bs header last
both_from first p ps depth before lines opened bs rest header last reading gap here None found is =
    both_one first p before lines bs reading.0 header last reading.1.bytes_are here (some_injective _ last is)
    (blank_front first ps depth (before ++ (p.gap ++ p.text)) (line_at first (before ++ p.gap) ∷ lines) (open_after_token opened p.text) reading.0 rest reading.2 gap (none_empty _ found))
both_from first p ps depth before lines opened bs rest header last reading gap here (Some u) found is =
    both_here first p before lines bs reading.0 header last reading.1.bytes_are here
    (last_found first ps depth (before ++ (p.gap ++ p.text)) (line_at first (before ++ p.gap) ∷ lines) (open_after_token opened p.text) reading.0 rest last reading.2 gap (found ∙ is))

-- a token that counts is no newline
counted_mark : (kind : Kind) (t : List ℕ) → is_aside kind ≡ false → is_line (kind_mark kind t) ≡ false
counted_mark va vb vc = grind (arith, operator_no_line)

both_found : (first : ℕ) (ps : List Piece) → BothFound first ps
both_found first [] = λ depth before lines opened bs rest header last reading gap some is. absurd (none_is_some last is)
both_found first (p ∷ ps) = λ depth before lines opened bs rest header last reading gap some is. at_kind (is_aside p.kind) refl (both_found first ps) depth before lines opened bs rest header last reading gap some is
  where
    at_kind : (b : Bool) → is_aside p.kind ≡ b → BothFound first ps → (depth : ℕ) (before lines opened bs rest : List ℕ) (header last : Placed) → (reading : IsReading depth opened (p ∷ ps) rest bs) → is_gap false rest ≡ true
        → (let ts = bare_tokens (tokens_of first (before ++ (p.gap ++ p.text)) (line_at first (before ++ p.gap) ∷ lines) ps) in first_of (cond b ts (token_of first (before ++ p.gap) lines p ∷ ts)) ≡ Some header)
        → (let ts = without_lines (tokens_of first (before ++ (p.gap ++ p.text)) (line_at first (before ++ p.gap) ∷ lines) ps) in last_of None (cond (is_line (kind_mark p.kind p.text)) ts (token_of first (before ++ p.gap) lines p ∷ ts)) ≡ Some last)
        → BothIn first before bs header last
    at_kind true e more depth before lines opened bs rest header last reading gap some is =
        both_later first p before bs reading.0 header last reading.1.bytes_are
        (more depth (before ++ (p.gap ++ p.text)) (line_at first (before ++ p.gap) ∷ lines) (open_after_token opened p.text) reading.0 rest header last reading.2 gap some
        (later_last (is_line (kind_mark p.kind p.text)) (token_of first (before ++ p.gap) lines p) (tokens_of first (before ++ (p.gap ++ p.text)) (line_at first (before ++ p.gap) ∷ lines) ps) header last some is))
    at_kind false e more depth before lines opened bs rest header last reading gap some is =
        let t = token_of first (before ++ p.gap) lines p in
        let ts = without_lines (tokens_of first (before ++ (p.gap ++ p.text)) (line_at first (before ++ p.gap) ∷ lines) ps) in
        let kept : last_of (Some t) ts ≡ Some last = ap (λ b. last_of None (cond b ts (t ∷ ts))) (sym (counted_mark p.kind p.text e)) ∙ is in
        both_from first p ps depth before lines opened bs rest header last reading gap (some_injective t header some) (last_of None ts) refl (sym (last_or (Some t) ts) ∙ kept)

-- what holds of the three words holds of a word that begins a block
pub by_opener : (P : List ℕ → Type 0) (text : List ℕ) → is_some (opener_of text) ≡ true → P (codes "def") → P (codes "for") → P (codes "if") → P text
by_opener P text h of_def of_for of_if = at (bytes_eq text (codes "def")) refl (bytes_eq text (codes "for")) refl (bytes_eq text (codes "if")) refl h
  where
    at : (d : Bool) → bytes_eq text (codes "def") ≡ d → (f : Bool) → bytes_eq text (codes "for") ≡ f → (i : Bool) → bytes_eq text (codes "if") ≡ i
        → is_some (cond d (Some Def) (cond f (Some For) (cond i (Some If) None))) ≡ true → P text
    at true is f _ i _ h = subst P (sym ((bytes_eq-Decides text (codes "def")).0 is)) of_def
    at false _ true is i _ h = subst P (sym ((bytes_eq-Decides text (codes "for")).0 is)) of_for
    at false _ false _ true is h = subst P (sym ((bytes_eq-Decides text (codes "if")).0 is)) of_if
    at false _ false _ false _ h = absurd (false≢true h)

block_front : (kind : Kind) (t more : List ℕ) → is_block_word_at kind t ≡ true → IsAsciiFront (t ++ more)
block_front Keyword t more h =
    by_opener (λ word. IsAsciiFront (word ++ more)) t h (let n : 100 < 128 = omega arith in n) (let n : 102 < 128 = omega arith in n) (let n : 105 < 128 = omega arith in n)
block_front _ t more h = absurd (false≢true h)

pub standing : (first depth : ℕ) (bytes : List ℕ) (tokens : List Placed) → AreTokensOf first depth bytes tokens → AreStanding first bytes tokens
standing first depth bytes tokens is header last some found word =
    let b = both_found first is.0 depth [] [] [] bytes is.1 header last is.2 is.3 (ap (λ ts. first_of (bare_tokens ts)) (sym is.5) ∙ some) (ap (λ ts. last_of None (without_lines ts)) (sym is.5) ∙ found) in
    record {
      before = b.skipped;
      front = b.front;
      after = b.after;
      bytes_are = b.bytes_are;
      begins = b.begins;
      ends = b.ends;
      at_front = subst IsAsciiFront (sym b.begins_with) (block_front header.kind header.text b.more word);
      at_end = b.at_end;
    }
