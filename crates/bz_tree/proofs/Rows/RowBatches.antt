-- The row of a text whose tokens come in batches.
use Rattle.std.proofs.Common.{◌≡◌, ℕ, ◌+◌, ◌<◌, ◌^◌, ◌==◌, ◌&&◌, List, [], ◌∷◌, ◌++◌, Bool, true, false, cond, Option, Some, None, IfSome, IfNone, IsSome, option_map, rules, refl, sym, ap, subst, ◌∙◌, append-nil, append_assoc}
use Rattle.std.specs.Prelude.{count_by, is_some}
use Rattle.std.specs.Option.{option_or}
use Rattle.std.proofs.lemmas.Bool.{false≢true, and_right, and_left}
use Rattle.bz_token.specs.declared.token.Token.{Token}
use Rattle.bz_token.specs.declared.reader.TokenReader.{TokenReader}
use Rattle.bz_token.specs.Places.{Placed, placed}
use Rattle.bz_token.specs.Reading.{AreTokensOf}
use Rattle.bz_token.specs.Faults.{HasFault}
use Rattle.bz_token.specs.Batches.{HasGiven, batch, left}
use Rattle.bz_token.proofs.OneFault.{no_fault}
use Rattle.bz_token.proofs.ReadWhole.{given_front, given_all}
use Rattle.bz_tree.specs.declared.row.rows.RowWalk.{RowWalk}
use Rattle.bz_tree.specs.declared.row.Row.{Row}
use Rattle.bz_tree.specs.Tree.{Statement}
use Rattle.bz_tree.specs.Chunk.{IsStatementIn}
use Rattle.bz_tree.specs.Kinds.{mark_of}
use Rattle.bz_tree.specs.Brackets.{is_line, without_lines, end_line}
use Rattle.std.specs.List.{last_or as last_of}
use Rattle.bz_tree.specs.Statement.{is_aside, bare_tokens, first_token, first_seen, last_token, last_seen, start_of, end_of}
use Rattle.bz_tree.specs.Rows.{IsRowOf}
use Rattle.bz_tree.specs.RowReads.{has_row}
use Rattle.bz_tree.specs.private.RowSteps.{row_state, row_run, row_start, row_view, is_upright}
use Rattle.bz_tree.proofs.Trees.LastToken.{bare_append, first_append, last_append, either_placed}
use Rattle.bz_tree.proofs.Trees.Plain.{FitsLast, bare_fits, seen_fits}
use Rattle.bz_tree.proofs.Rows.RowNone.{walk_stops}
use Rattle.bz_tree.proofs.Rows.RowFound.{IsRowIn, upright_rows}
use Rattle.bz_tree.proofs.Trees.Standing.{ends_fit}
use Rattle.bz_token.specs.Common.{first_of, map_or}

first_more : (xs ys : List Placed) → first_token (xs ++ ys) ≡ option_or (first_token xs) (first_token ys)
first_more xs ys = ap first_of (bare_append xs ys) ∙ first_append (bare_tokens xs) (bare_tokens ys)

last_more : (xs ys : List Placed) → last_token (xs ++ ys) ≡ option_or (last_token ys) (last_token xs)
last_more xs ys = ap (last_of None) (bare_append xs ys) ∙ last_append None (bare_tokens xs) (bare_tokens ys)

-- the same with comments
seen_append : (xs ys : List Placed) → without_lines (xs ++ ys) ≡ without_lines xs ++ without_lines ys
seen_append [] ys = refl
seen_append (t ∷ ts) ys = at (is_line (mark_of t)) (seen_append ts ys)
  where
    at : (b : Bool) → without_lines (ts ++ ys) ≡ without_lines ts ++ without_lines ys → cond b (without_lines (ts ++ ys)) (t ∷ without_lines (ts ++ ys)) ≡ cond b (without_lines ts) (t ∷ without_lines ts) ++ without_lines ys
    at true h = h
    at false h = ap (λ (zs : List Placed). t ∷ zs) h

first_seen_more : (xs ys : List Placed) → first_seen (xs ++ ys) ≡ option_or (first_seen xs) (first_seen ys)
first_seen_more xs ys = ap first_of (seen_append xs ys) ∙ first_append (without_lines xs) (without_lines ys)

last_seen_more : (xs ys : List Placed) → last_seen (xs ++ ys) ≡ option_or (last_seen ys) (last_seen xs)
last_seen_more xs ys = ap (last_of None) (seen_append xs ys) ∙ last_append None (without_lines xs) (without_lines ys)

-- where a token stands that is no comment, something stands
seen_some : (ts : List Placed) → IsSome (first_token ts) → IsSome (first_seen ts)
seen_some (t ∷ ts) some = at (is_line (mark_of t)) refl (seen_some ts)
  where
    after_line : (t : Placed) → is_line (mark_of t) ≡ true → is_aside t.kind ≡ true
    after_line t is = search (rules)

    at : (b : Bool) → is_line (mark_of t) ≡ b → (IsSome (first_token ts) → IsSome (first_seen ts)) → IsSome (first_of (cond b (without_lines ts) (t ∷ without_lines ts)))
    at false is rest = refl
    at true is rest = rest (subst (λ b. IsSome (first_of (cond b (bare_tokens ts) (t ∷ bare_tokens ts)))) (after_line t is) some)
seen_some [] some = absurd (false≢true some)

-- of two, neither is there
none_first : {A : Type 0} (o p : Option A) → option_or o p ≡ None → o ≡ None
none_first None p h = refl
none_first (Some t) p h = absurd cc

none_later : {A : Type 0} (o p : Option A) → option_or o p ≡ None → p ≡ None
none_later None p h = h
none_later (Some t) p h = absurd cc

last_none : (ts : List Placed) (o : Option Placed) → last_of o ts ≡ None → first_of ts ≡ None
last_none [] o none = refl
last_none (t ∷ ts) o none = absurd (later t ts none)
  where
    later : (t : Placed) (ts : List Placed) → last_of (Some t) ts ≡ None → ⊥
    later t [] e = cc
    later t (u ∷ us) e = later u us e

not_placed : (o : Option Token) → option_map placed o ≡ None → o ≡ None
not_placed None h = refl
not_placed (Some t) h = absurd cc

-- What was made of the tokens so far.
pub record IsRowSoFar (first depth : ℕ) (text : List ℕ) (reader : TokenReader) (walk : RowWalk) (begin end top bottom : Option Token) : Type 0 where
  pub given : List Placed
  pub read : HasGiven first depth text given reader
  pub run : (rest : List Placed) → row_run (row_state walk) rest ≡ row_run row_start (given ++ rest)
  pub begin_is : option_map placed begin ≡ first_token given
  pub end_is : option_map placed end ≡ last_token given
  pub top_is : begin ≡ None → option_map placed top ≡ first_seen given
  pub bottom_is : begin ≡ None → option_map placed bottom ≡ last_seen given
  pub upright : is_upright (first_token given) ≡ true

-- after one more batch
pub goes_on : (first depth : ℕ) (text : List ℕ) (before reader : TokenReader) (walk passed : RowWalk) (begin end top bottom front back over under : Option Token)
    → (i : IsRowSoFar first depth text before walk begin end top bottom) → HasGiven first depth text (i.given ++ batch reader) reader
    → ((rest : List Placed) → row_run (row_state passed) rest ≡ row_run (row_state walk) (batch reader ++ rest))
    → option_map placed front ≡ first_token (batch reader) → option_map placed back ≡ last_token (batch reader) → (option_or begin front ≡ None → option_map placed over ≡ option_or (option_map placed top) (first_seen (batch reader)))
    → (option_or begin front ≡ None → option_map placed under ≡ option_or (last_seen (batch reader)) (option_map placed bottom)) → is_upright (option_map placed (option_or begin front)) ≡ true
    → IsRowSoFar first depth text reader passed (option_or begin front) (option_or back end) over under
goes_on first depth text before reader walk passed begin end top bottom front back over under i read steps front_is back_is over_is under_is upright =
    let b = batch reader in
    let begin_is : option_map placed (option_or begin front) ≡ first_token (i.given ++ b) = either_placed begin front ∙ ap (λ o. option_or o (option_map placed front)) i.begin_is ∙ ap (option_or (first_token i.given)) front_is ∙ sym (first_more i.given b) in
    record {
      given = i.given ++ b;
      read = read;
      run = λ rest. steps rest ∙ i.run (b ++ rest) ∙ ap (row_run row_start) (sym (append_assoc i.given b rest));
      begin_is = begin_is;
      end_is = either_placed back end ∙ ap (λ o. option_or o (option_map placed end)) back_is ∙ ap (option_or (last_token b)) i.end_is ∙ sym (last_more i.given b);
      top_is = λ none. over_is none ∙ ap (λ o. option_or o (first_seen b)) (i.top_is (none_first begin front none)) ∙ sym (first_seen_more i.given b);
      bottom_is = λ none. under_is none ∙ ap (option_or (last_seen b)) (i.bottom_is (none_first begin front none)) ∙ sym (last_seen_more i.given b);
      upright = ap is_upright (sym begin_is) ∙ upright;
    }

-- where no token but comments is last, none is first
no_begin : (first depth : ℕ) (text : List ℕ) (reader : TokenReader) (walk : RowWalk) (begins ends top bottom : Option Token) → IsRowSoFar first depth text reader walk begins ends top bottom → ends ≡ None → begins ≡ None
no_begin first depth text reader walk begins ends top bottom i none =
    not_placed begins (i.begin_is ∙ last_none (bare_tokens i.given) None (sym i.end_is ∙ ap (option_map placed) none))

-- what begins and ends the statement
either_at : (b t : Option Token) (o p : Option Placed) → option_map placed b ≡ o → (b ≡ None → option_map placed t ≡ p) → option_map placed (option_or b t) ≡ option_or o p
either_at None t o p is top = top refl ∙ ap (λ x. option_or x p) is
either_at (Some x) t o p is top = ap (λ y. option_or y p) is

begins_at : (first depth : ℕ) (text : List ℕ) (reader : TokenReader) (walk : RowWalk) (begins ends top bottom : Option Token) (i : IsRowSoFar first depth text reader walk begins ends top bottom)
    → option_map placed (option_or begins top) ≡ option_or (first_token i.given) (first_seen i.given)
begins_at first depth text reader walk begins ends top bottom i = either_at begins top (first_token i.given) (first_seen i.given) i.begin_is i.top_is

ends_at : (first depth : ℕ) (text : List ℕ) (reader : TokenReader) (walk : RowWalk) (begins ends top bottom : Option Token) (i : IsRowSoFar first depth text reader walk begins ends top bottom)
    → option_map placed (option_or ends bottom) ≡ option_or (last_token i.given) (last_seen i.given)
ends_at first depth text reader walk begins ends top bottom i =
    either_at ends bottom (last_token i.given) (last_seen i.given) i.end_is (λ none. i.bottom_is (no_begin first depth text reader walk begins ends top bottom i none))

-- the last ends on a line that can be counted
pub last_fits : (first depth : ℕ) (text : List ℕ) (reader : TokenReader) (walk : RowWalk) (begins ends top bottom : Option Token) (end : Token) (i : IsRowSoFar first depth text reader walk begins ends top bottom)
    → AreTokensOf first depth text i.given → first + count_by (λ b. b == 10) text < 2 ^ 64 → option_or ends bottom ≡ Some end → end_line (placed end) < 2 ^ 64
last_fits first depth text reader walk begins ends top bottom end i are fits is =
    let all = ends_fit first depth text i.given are fits in
    let last : option_or (last_token i.given) (last_seen i.given) ≡ Some (placed end) = sym (ends_at first depth text reader walk begins ends top bottom i) ∙ ap (option_map placed) is in
    subst FitsLast last (either (last_token i.given) (last_seen i.given) (bare_fits i.given None all tt) (seen_fits i.given None all tt))
  where
    either : (o p : Option Placed) → FitsLast o → FitsLast p → FitsLast (option_or o p)
    either None p h k = k
    either (Some t) p h k = h

-- at the end
pub row_of_batches : (first depth : ℕ) (text : List ℕ) (reader : TokenReader) (walk : RowWalk) (begins ends top bottom : Option Token) (begin end : Token) (o : Option Row) (line : ℕ)
    → (i : IsRowSoFar first depth text reader walk begins ends top bottom) → option_or begins top ≡ Some begin → option_or ends bottom ≡ Some end → AreTokensOf first depth text i.given
    → option_map row_view o ≡ row_run (row_state walk) [] → IfSome o (λ row. (row.start ≡ begin.line) × (row.end ≡ line)) → line ≡ end_line (placed end)
    → IfSome o (λ row. (s : Statement) × IsStatementIn first depth text s × IsRowOf s row)
row_of_batches first depth text reader walk begins ends top bottom begin end o line i begins_is ends_is are same lines ends_on =
    let ts = i.given in
    let begin_is : Some (placed begin) ≡ option_or (first_token ts) (first_seen ts) = sym (ap (option_map placed) begins_is) ∙ begins_at first depth text reader walk begins ends top bottom i in
    let end_is : Some (placed end) ≡ option_or (last_token ts) (last_seen ts) = sym (ap (option_map placed) ends_is) ∙ ends_at first depth text reader walk begins ends top bottom i in
    let starts : begin.line ≡ start_of ts = ap (map_or 0 (λ t. t.line)) begin_is in
    let finishes : line ≡ end_of ts = ends_on ∙ ap (map_or 0 end_line) end_is in
    told o (upright_rows ts begin.line line o (same ∙ i.run [] ∙ ap (row_run row_start) (append-nil ts)) lines starts finishes (either (first_token ts) (first_seen ts) (seen_some ts) (subst IsSome begin_is refl)) i.upright)
  where
    either : (o p : Option Placed) → (IsSome o → IsSome p) → IsSome (option_or o p) → IsSome p
    either None p h some = some
    either (Some t) p h some = h some

    told : (o : Option Row) → IfSome o (IsRowIn i.given) → IfSome o (λ row. (s : Statement) × IsStatementIn first depth text s × IsRowOf s row)
    told None h = tt
    told (Some row) h = h first depth text are

-- no row, by the tokens of the text
abbrev pub NoRow : ℕ → ℕ → List ℕ → Type 0
NoRow first depth text = (tokens : List Placed) → AreTokensOf first depth text tokens → has_row tokens ≡ false

pub faulty : (first depth : ℕ) (text : List ℕ) → HasFault first depth text → NoRow first depth text
faulty first depth text (fault, is) tokens are = absurd (no_fault first depth text tokens fault are is)

stops_at : (first depth : ℕ) (text : List ℕ) (given : List Placed) (reader : TokenReader) → HasGiven first depth text given reader → ((more : List Placed) → row_run row_start (given ++ more) ≡ None) → NoRow first depth text
stops_at first depth text given reader read none tokens are =
    let front = given_front first depth text given tokens reader read are in
    walk_stops tokens (ap (row_run row_start) front.1 ∙ none front.0)

-- the walk stops in a batch
pub stopped : (first depth : ℕ) (text : List ℕ) (before reader : TokenReader) (walk : RowWalk) (begin end top bottom : Option Token) (i : IsRowSoFar first depth text before walk begin end top bottom) → HasGiven first depth text (i.given ++ batch reader) reader
    → ((rest : List Placed) → row_run (row_state walk) (batch reader ++ rest) ≡ None) → NoRow first depth text
stopped first depth text before reader walk begin end top bottom i read none =
    stops_at first depth text (i.given ++ batch reader) reader read (λ more. ap (row_run row_start) (append_assoc i.given (batch reader) more) ∙ sym (i.run (batch reader ++ more)) ∙ none more)

-- the first token of a batch, or one before it, is not upright
pub indented : (first depth : ℕ) (text : List ℕ) (before reader : TokenReader) (walk : RowWalk) (begin end top bottom front : Option Token) (i : IsRowSoFar first depth text before walk begin end top bottom) → HasGiven first depth text (i.given ++ batch reader) reader
    → option_map placed front ≡ first_token (batch reader) → is_upright (option_map placed (option_or begin front)) ≡ false → NoRow first depth text
indented first depth text before reader walk begin end top bottom front i read front_is off tokens are =
    let b = batch reader in
    let more = given_front first depth text (i.given ++ b) tokens reader read are in
    let here : option_map placed (option_or begin front) ≡ first_token (i.given ++ b) = either_placed begin front ∙ ap (λ o. option_or o (option_map placed front)) i.begin_is ∙ ap (option_or (first_token i.given)) front_is ∙ sym (first_more i.given b) in
    let whole : first_token tokens ≡ option_or (first_token (i.given ++ b)) (first_token more.0) = ap first_token more.1 ∙ first_more (i.given ++ b) more.0 in
    leans (first_token (i.given ++ b)) (first_token more.0) (first_token tokens) (is_some (first_seen tokens)) (is_some (row_run row_start tokens)) whole (ap is_upright (sym here) ∙ off)
  where
    leans : (o p whole : Option Placed) (b d : Bool) → whole ≡ option_or o p → is_upright o ≡ false → (b && (is_upright whole && d)) ≡ false
    leans None p whole b d is off = absurd (false≢true (sym off))
    leans (Some t) p whole b d is off = and_right b (is_upright whole && d) (and_left (is_upright whole) d (ap is_upright is ∙ off))

no_first : (tokens : List Placed) → first_seen tokens ≡ None → has_row tokens ≡ false
no_first tokens none = and_left (is_some (first_seen tokens)) (is_upright (first_token tokens) && is_some (row_run row_start tokens)) (ap is_some none)

-- nothing at all
pub nothing_first : (first depth : ℕ) (text : List ℕ) (reader : TokenReader) (walk : RowWalk) (begin end top bottom : Option Token) → IsRowSoFar first depth text reader walk begin end top bottom → left reader ≡ 0 → option_or begin top ≡ None → NoRow first depth text
nothing_first first depth text reader walk begin end top bottom i done none tokens are =
    no_first tokens (ap first_seen (given_all first depth text i.given tokens reader i.read done are) ∙ sym (i.top_is (none_first begin top none)) ∙ ap (option_map placed) (none_later begin top none))

pub nothing_last : (first depth : ℕ) (text : List ℕ) (reader : TokenReader) (walk : RowWalk) (begin end top bottom : Option Token) → IsRowSoFar first depth text reader walk begin end top bottom → left reader ≡ 0 → option_or end bottom ≡ None → NoRow first depth text
nothing_last first depth text reader walk begin end top bottom i done none tokens are =
    let begin_none = no_begin first depth text reader walk begin end top bottom i (none_first end bottom none) in
    let last : last_seen i.given ≡ None = sym (i.bottom_is begin_none) ∙ ap (option_map placed) (none_later end bottom none) in
    no_first tokens (ap first_seen (given_all first depth text i.given tokens reader i.read done are) ∙ last_none (without_lines i.given) None last)

-- a bracket is open at the end
pub incomplete : (first depth : ℕ) (text : List ℕ) (reader : TokenReader) (walk : RowWalk) (begin end top bottom : Option Token) (i : IsRowSoFar first depth text reader walk begin end top bottom) → left reader ≡ 0 → (AreTokensOf first depth text i.given → ⊥) → NoRow first depth text
incomplete first depth text reader walk begin end top bottom i done none tokens are =
    absurd (none (subst (AreTokensOf first depth text) (given_all first depth text i.given tokens reader i.read done are) are))

-- the walk has no row at the end
pub unfinished : (first depth : ℕ) (text : List ℕ) (reader : TokenReader) (walk : RowWalk) (begin end top bottom : Option Token) (o : Option Row) (i : IsRowSoFar first depth text reader walk begin end top bottom) → left reader ≡ 0 → option_map row_view o ≡ row_run (row_state walk) [] → IfNone o (NoRow first depth text)
unfinished first depth text reader walk begin end top bottom (Some row) i done same = tt
unfinished first depth text reader walk begin end top bottom None i done same = λ tokens are.
    let run : row_run row_start i.given ≡ None = ap (row_run row_start) (sym (append-nil i.given)) ∙ sym (i.run []) ∙ sym same in
    ap has_row (given_all first depth text i.given tokens reader i.read done are) ∙ walk_stops i.given run
