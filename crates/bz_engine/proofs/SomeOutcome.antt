-- A file has an outcome.
use Rattle.std.proofs.Common.{◌≡◌, ℕ, zero, suc, ◌<◌, ◌≤◌, length, take, take_all, arith, Bool, true, false, ◌||◌, List, [], ◌∷◌, ◌++◌, map, refl, sym, ◌∙◌, ap, subst, ◌⊎◌, inl, inr}
use Rattle.std.specs.Prelude.{◌↔◌, Option, None, Some, Result, Ok, Err}
use Rattle.std.specs.List.{list_any}
use Rattle.std.specs.Str.{IsUtf8, is_utf8, IsValidUpTo}
use Rattle.std.proofs.lemmas.Bool.{false≢true, cases_lt}
use Rattle.std.proofs.lemmas.Str.{IsUtf8-nil, IsUtf8-from_is_utf8, is_utf8-from_IsUtf8}
use Rattle.bz_token.specs.Places.{line_at}
use Rattle.bz_token.specs.Chunks.{chunks}
use Rattle.bz_tree.specs.Tree.{Statement}
use Rattle.bz_layout_laws.specs.Answers.{HasAnswer}
use Rattle.bz_layout_laws.proofs.SomeAnswer.{some_answer}
use Rattle.bz_passes.specs.Passes.{Slot, Changes}
use Rattle.bz_engine.specs.declared.report.SyntaxFault.{SyntaxFault}
use Rattle.bz_engine.specs.declared.report.SyntaxFault.TheVariants.{Parse}
use Rattle.bz_passes.specs.Exchange.{some_alone}
use Rattle.bz_engine.specs.Language.{meaning}
use Rattle.bz_engine.specs.Failing.{fails_on}
use Rattle.bz_engine.specs.File.{not_utf8, IsAnswerOf, Follows, AreStatementsOf}
use Rattle.bz_label.specs.Labels.{Package}
use Rattle.bz_engine.specs.Outcome.{Run, Script, slots_of, text_after, Told, some_failure, told_of, told_of_failure, IsOutcome, at_a_failure, at_the_end}
use Rattle.bz_passes.proofs.Executions.{some_change}
use Rattle.bz_engine.proofs.Decided.{slot_told}
use Rattle.bz_engine.proofs.Failures.{failure_each}
use Rattle.bz_engine.proofs.OneSlot.{fails_alone}

-- a chunk gives an answer
abbrev HasSomeAnswer : ℕ → ℕ → List ℕ → Type 0
HasSomeAnswer depth line c = (a : Result (Option Statement) SyntaxFault) × IsAnswerOf depth line c a

of_text : (depth line : ℕ) (c : List ℕ) → IsUtf8 c → HasAnswer line depth c → HasSomeAnswer depth line c
of_text depth line c text (inl found) = (Ok (Some found.0), (text, found.1))
of_text depth line c text (inr (inl blank)) = (Ok None, (text, blank))
of_text depth line c text (inr (inr fault)) = (Err (Parse fault.0), (text, fault.2, fault.1))

-- the longest front that is text, of at most m bytes
record Longest (bs : List ℕ) (m : ℕ) : Type 0 where
  n : ℕ
  within : n ≤ m
  front : IsUtf8 (take n bs)
  none : (k : ℕ) → n < k → k ≤ m → IsUtf8 (take k bs) → ⊥

longest : (bs : List ℕ) (m : ℕ) → Longest bs m
longest bs zero = record { n = 0; within = omega arith; front = IsUtf8-nil; none = λ k above within u. absurd (omega arith) }
longest bs (suc m) = at_front (is_utf8 (take (suc m) bs)) refl (longest bs m)
  where
    at_front : (b : Bool) → is_utf8 (take (suc m) bs) ≡ b → Longest bs m → Longest bs (suc m)
    at_front true e rest = record { n = suc m; within = omega arith; front = IsUtf8-from_is_utf8 (take (suc m) bs) e; none = λ k above within u. absurd (omega arith) }
    at_front false e rest = record {
      n = rest.n;
      within = omega (arith, rest.within);
      front = rest.front;
      none = λ k above within u. elim (cases_lt m k) [
        | inl top ↦
            let same : k ≡ suc m = omega (arith, top, within) in
            false≢true (sym e ∙ is_utf8-from_IsUtf8 (take (suc m) bs) (subst (λ n. IsUtf8 (take n bs)) same u))
        | inr low ↦ rest.none k above low u
      ];
    }

text_or_not : (bs : List ℕ) → IsUtf8 bs ⊎ ((n : ℕ) × IsValidUpTo bs n)
text_or_not bs =
    let l = longest bs (length bs) in
    elim (cases_lt l.n (length bs)) [
      | inl short ↦ inr (
        l.n,
        record {
          short = short;
          front = l.front;
          longest = λ m above u. elim (cases_lt (length bs) m) [
            | inl past ↦
                let same : take m bs ≡ take (length bs) bs = take_all m bs (omega (arith, past)) ∙ sym (take_all (length bs) bs (omega arith)) in
                l.none (length bs) short (omega arith) (subst IsUtf8 same u)
            | inr within ↦ l.none m above within u
          ];
        },
      )
      | inr whole ↦ inl (subst IsUtf8 (take_all l.n bs whole) l.front)
    ]

no_text : (bs : List ℕ) (n : ℕ) → IsValidUpTo bs n → IsUtf8 bs → ⊥
no_text bs n v u = v.longest (length bs) v.short (subst IsUtf8 (sym (take_all (length bs) bs (omega arith))) u)

some_gives : (depth line : ℕ) (c : List ℕ) → HasSomeAnswer depth line c
some_gives depth line c = elim (text_or_not c) [
  | inl text ↦ of_text depth line c text (some_answer line depth c)
  | inr bad ↦ (Err (not_utf8 line bad.0 c), (no_text c bad.0 bad.1, (bad.0, bad.1, refl)))
]

-- chunks have statements
abbrev HaveSomeStatements : ℕ → ℕ → List (List ℕ) → Type 0
HaveSomeStatements depth line cs = (ss : List Statement) × (fault : Option SyntaxFault) × AreStatementsOf depth line cs ss fault

and_more : (depth line : ℕ) (c : List ℕ) (cs : List (List ℕ)) (a : Result (Option Statement) SyntaxFault) → IsAnswerOf depth line c a → HaveSomeStatements depth (line_at line c) cs → HaveSomeStatements depth line (c ∷ cs)
and_more depth line c cs (Err e) g rest = ([], Some e, (Err e, g, (refl, refl)))
and_more depth line c cs (Ok None) g rest = (rest.0, rest.1, (Ok None, g, rest.2))
and_more depth line c cs (Ok (Some s)) g rest = (s ∷ rest.0, rest.1, (Ok (Some s), g, (rest.0, refl, rest.2)))

some_give : (depth line : ℕ) (cs : List (List ℕ)) → HaveSomeStatements depth line cs
some_give depth line [] = ([], None, (refl, refl))
some_give depth line (c ∷ cs) = let here = some_gives depth line c in and_more depth line c cs here.0 here.1 (some_give depth (line_at line c) cs)

-- the first statement that passes a test
record IsFirstOf (test : Slot Statement → Bool) (ss : List Statement) : Type 0 where
  before : List Statement
  statement : Statement
  more : List Statement
  are : ss ≡ before ++ statement ∷ more
  none : list_any test (map Some before) ≡ false
  passes : test (Some statement) ≡ true

first_found : (test : Slot Statement → Bool) (ss : List Statement) → list_any test (map Some ss) ≡ true → IsFirstOf test ss
first_found test [] h = absurd (false≢true h)
first_found test (s ∷ ss) h = at_test (first_found test ss) (test (Some s)) refl h
  where
    at_test : (list_any test (map Some ss) ≡ true → IsFirstOf test ss) → (b : Bool) → test (Some s) ≡ b → list_any test (map Some (s ∷ ss)) ≡ true → IsFirstOf test (s ∷ ss)
    at_test go true e h = record { before = []; statement = s; more = ss; are = refl; none = refl; passes = e }
    at_test go false e h =
        let rest = go (ap (λ b. b || list_any test (map Some ss)) (sym e) ∙ h) in
        record {
          before = s ∷ rest.before;
          statement = rest.statement;
          more = rest.more;
          are = ap (λ l. s ∷ l) rest.are;
          none = ap (λ b. b || list_any test (map Some rest.before)) e ∙ rest.none;
          passes = rest.passes;
        }

-- the chunks up to a statement
record EndsAt (depth line : ℕ) (cs : List (List ℕ)) (ss : List Statement) : Type 0 where
  front : List (List ℕ)
  after : List (List ℕ)
  are : cs ≡ front ++ after
  read : AreStatementsOf depth line front ss None

none_before : {X : Type 0} (before more : List Statement) (s : Statement) → before ++ s ∷ more ≡ [] → X
none_before [] more s h = absurd cc
none_before (b ∷ before) more s h = absurd cc

ends_at : (depth line : ℕ) (cs : List (List ℕ)) (before more : List Statement) (s : Statement) (fault : Option SyntaxFault) → AreStatementsOf depth line cs (before ++ s ∷ more) fault → EndsAt depth line cs (before ++ s ∷ [])
ends_at depth line [] before more s fault p = none_before before more s p.0
ends_at depth line (c ∷ cs) before more s fault p = at_answer (λ bs. ends_at depth (line_at line c) cs bs) before p.0 p.1 p.2
  where
    at_answer : ((bs more : List Statement) (s : Statement) (fault : Option SyntaxFault) → AreStatementsOf depth (line_at line c) cs (bs ++ s ∷ more) fault → EndsAt depth (line_at line c) cs (bs ++ s ∷ []))
        → (bs : List Statement) → (a : Result (Option Statement) SyntaxFault) → IsAnswerOf depth line c a → Follows a (AreStatementsOf depth (line_at line c) cs) (bs ++ s ∷ more) fault → EndsAt depth line (c ∷ cs) (bs ++ s ∷ [])
    at_answer go bs (Err e) g q = none_before bs more s q.0
    at_answer go bs (Ok None) g q =
        let rest = go bs more s fault q in
        record { front = c ∷ rest.front; after = rest.after; are = ap (λ l. c ∷ l) rest.are; read = (Ok None, g, rest.read) }
    at_answer go [] (Ok (Some t)) g q =
        let same : s ≡ t = cc in
        record { front = c ∷ []; after = cs; are = refl; read = (Ok (Some t), g, ([], ap (λ u. u ∷ []) same, (refl, refl))) }
    at_answer go (b ∷ bs) (Ok (Some t)) g q =
        let same : b ≡ t = cc in
        let left : q.0 ≡ bs ++ s ∷ more = cc in
        let rest = go bs more s fault (subst (λ l. AreStatementsOf depth (line_at line c) cs l fault) left q.2) in
        record { front = c ∷ rest.front; after = rest.after; are = ap (λ l. c ∷ l) rest.are; read = (Ok (Some t), g, (bs ++ s ∷ [], ap (λ u. u ∷ (bs ++ s ∷ [])) same, rest.read)) }

-- of statements it can be told whether the script changes some
pub change_told : (home : Package) (passes : Script) (ss : List Statement) → (b : Bool) × ((b ≡ true) ↔ Changes (meaning home) passes (slots_of ss))
change_told home passes ss = some_change (meaning home) slot_told passes (slots_of ss)

pub some_outcome : (run : Run) (file : List ℕ) → (text : List ℕ) × (told : Told) × IsOutcome run file text told
some_outcome run file = at_keep run.keep_going refl (some_failure run.home run.passes ss) refl
  where
    ss : List Statement
    ss = (some_give run.max_depth 1 (chunks file)).0

    fault : Option SyntaxFault
    fault = (some_give run.max_depth 1 (chunks file)).1

    read : AreStatementsOf run.max_depth 1 (chunks file) ss fault
    read = (some_give run.max_depth 1 (chunks file)).2

    changed : (some : List Statement) → (b : Bool) × ((b ≡ true) ↔ Changes (meaning run.home) run.passes (slots_of some))
    changed some = change_told run.home run.passes some

    told_changed : (f : Option SyntaxFault) → ((told_of run.home run.passes ss f (changed ss).0).changed ≡ true) ↔ Changes (meaning run.home) run.passes (slots_of ss)
    told_changed None = (changed ss).1
    told_changed (Some e) = (changed ss).1

    told_same : (f : Option SyntaxFault) → told_of run.home run.passes ss f (changed ss).0 ≡ told_of run.home run.passes ss f (told_of run.home run.passes ss f (changed ss).0).changed
    told_same None = refl
    told_same (Some e) = refl

    whole : (run.keep_going ≡ false → some_failure run.home run.passes ss ≡ false) → (text : List ℕ) × (told : Told) × IsOutcome run file text told
    whole none_fails = (
      text_after run.home run.passes ss,
      told_of run.home run.passes ss fault (changed ss).0,
      record { edited = ss; ends = at_the_end fault read (told_same fault); none_fails = none_fails; text_is = refl; changed = told_changed fault },
    )

    cut : run.keep_going ≡ false → some_failure run.home run.passes ss ≡ true → (text : List ℕ) × (told : Told) × IsOutcome run file text told
    cut ends fails =
        let first = first_found (some_alone (meaning run.home) (fails_on run.home) run.passes) ss (sym (failure_each run.home run.passes ss) ∙ fails) in
        let at = ends_at run.max_depth 1 (chunks file) first.before first.more first.statement fault (subst (λ l. AreStatementsOf run.max_depth 1 (chunks file) l fault) first.are read) in (
          text_after run.home run.passes first.before,
          told_of_failure run.home run.passes first.statement (changed first.before).0,
          record {
            edited = first.before;
            ends = at_a_failure first.statement ends (record { front = at.front; after = at.after; chunks_are = at.are; read = at.read })
                (fails_alone run.home run.passes first.statement ∙ first.passes) refl;
            none_fails = λ h. failure_each run.home run.passes first.before ∙ first.none;
            text_is = refl;
            changed = (changed first.before).1;
          },
        )

    at_keep : (k : Bool) → run.keep_going ≡ k → (f : Bool) → some_failure run.home run.passes ss ≡ f → (text : List ℕ) × (told : Told) × IsOutcome run file text told
    at_keep true goes f is = whole (λ ends. absurd (false≢true (sym ends ∙ goes)))
    at_keep false ends false none_fails = whole (λ e. none_fails)
    at_keep false ends true fails = cut ends fails
