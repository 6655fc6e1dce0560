-- A file has one outcome, and the text of its first statements is a front of it.
use Rattle.std.proofs.Common.{◌≡◌, ℕ, Bool, true, false, List, [], ◌∷◌, ◌++◌, map, refl, sym, ◌∙◌, ap, subst, append_assoc, append-nil, ◌⊎◌, inl, inr}
use Rattle.std.specs.Prelude.{◌↔◌, Option, None, Some, Result, Ok, Err, if◌then◌else◌}
use Rattle.std.specs.List.{list_any}
use Rattle.std.proofs.lemmas.Bool.{false≢true}
use Rattle.bz_token.specs.Places.{line_at}
use Rattle.bz_token.specs.Chunks.{chunks}
use Rattle.bz_tree.specs.Tree.{Statement}
use Rattle.bz_label.specs.Labels.{Package}
use Rattle.bz_passes.specs.Passes.{Slot, slots_after, Changes}
use Rattle.bz_engine.specs.declared.report.SyntaxFault.{SyntaxFault}
use Rattle.bz_passes.specs.Exchange.{slot_after, some_alone}
use Rattle.bz_engine.specs.Language.{meaning}
use Rattle.bz_engine.specs.Failing.{fails_on}
use Rattle.bz_engine.specs.File.{Follows, AreStatementsOf}
use Rattle.bz_engine.specs.Progress.{last_class, text_following}
use Rattle.bz_engine.specs.Outcome.{Script, Run, slots_of, is_query, text_after, Told, some_failure, told_of, told_of_failure, BeginsWith, MayGoOn, IsOutcome, IsFrontOf}
use Rattle.bz_engine.specs.private.Outcomes.{EitherEnd, EndsAtFailure, IsWholeRun}
use Rattle.bz_engine.proofs.Outcomes.{either_end}
use Rattle.bz_engine.proofs.Failures.{failure_each}
use Rattle.bz_engine.proofs.OneSlot.{fails_alone}
use Rattle.bz_passes.proofs.Failures.{or_left, or_right}
use Rattle.bz_engine.proofs.Given.{none_is_some}
use Rattle.bz_engine.proofs.MoreText.{text_after_more, text_after_none}
use Rattle.bz_engine.proofs.OneAnswer.{one_answer}

-- chunks have one list of statements
one_follows : (answer : Result (Option Statement) SyntaxFault) (ss ts : List Statement) (f g : Option SyntaxFault) (After : List Statement → Option SyntaxFault → Type 0)
    → ((xs ys : List Statement) (h k : Option SyntaxFault) → After xs h → After ys k → (xs ≡ ys) × (h ≡ k))
    → Follows answer After ss f → Follows answer After ts g → (ss ≡ ts) × (f ≡ g)
one_follows (Err e) ss ts f g After one p q = (p.0 ∙ sym q.0, p.1 ∙ sym q.1)
one_follows (Ok None) ss ts f g After one p q = one ss ts f g p q
one_follows (Ok (Some s)) ss ts f g After one p q =
    let rest = one p.0 q.0 f g p.2 q.2 in
    (p.1 ∙ ap (λ l. s ∷ l) rest.0 ∙ sym q.1, rest.1)

pub one_give : (depth line : ℕ) (cs : List (List ℕ)) (ss ts : List Statement) (f g : Option SyntaxFault) → AreStatementsOf depth line cs ss f → AreStatementsOf depth line cs ts g → (ss ≡ ts) × (f ≡ g)
one_give depth line [] ss ts f g p q = (p.0 ∙ sym q.0, p.1 ∙ sym q.1)
one_give depth line (c ∷ cs) ss ts f g p q =
    one_follows p.0 ss ts f g (AreStatementsOf depth (line_at line c) cs) (one_give depth (line_at line c) cs) p.2
    (subst (λ a. Follows a (AreStatementsOf depth (line_at line c) cs) ts g) (one_answer depth line c q.0 p.0 q.1 p.1) q.2)

-- what the first chunks have is a front of what all have
split_follows : (answer : Result (Option Statement) SyntaxFault) (ss ts : List Statement) (f : Option SyntaxFault) (Near Far : List Statement → Option SyntaxFault → Type 0)
    → ((xs ys : List Statement) (h : Option SyntaxFault) → Near xs None → Far ys h → (more : List Statement) × (ys ≡ xs ++ more))
    → Follows answer Near ss None → Follows answer Far ts f → (more : List Statement) × (ts ≡ ss ++ more)
split_follows (Err e) ss ts f Near Far go p q = none_is_some e p.1
split_follows (Ok None) ss ts f Near Far go p q = go ss ts f p q
split_follows (Ok (Some s)) ss ts f Near Far go p q =
    let rest = go p.0 q.0 f p.2 q.2 in
    (rest.0, q.1 ∙ ap (λ l. s ∷ l) rest.1 ∙ ap (λ l. l ++ rest.0) (sym p.1))

pub give_split : (depth line : ℕ) (cs ds : List (List ℕ)) (ss ts : List Statement) (f : Option SyntaxFault)
    → AreStatementsOf depth line cs ss None → AreStatementsOf depth line (cs ++ ds) ts f → (more : List Statement) × (ts ≡ ss ++ more)
give_split depth line [] ds ss ts f p q = (ts, ap (λ l. l ++ ts) (sym p.0))
give_split depth line (c ∷ cs) ds ss ts f p q =
    split_follows p.0 ss ts f (AreStatementsOf depth (line_at line c) cs) (AreStatementsOf depth (line_at line c) (cs ++ ds)) (give_split depth (line_at line c) cs ds) p.2
    (subst (λ a. Follows a (AreStatementsOf depth (line_at line c) (cs ++ ds)) ts f) (one_answer depth line c q.0 p.0 q.1 p.1) q.2)

-- of two fronts one is a front of the other
either_front : {A : Type 0} (xs ys p q : List A) → xs ++ p ≡ ys ++ q → ((more : List A) × (ys ≡ xs ++ more)) ⊎ ((more : List A) × (xs ≡ ys ++ more))
either_front [] ys p q same = inl (ys, refl)
either_front (x ∷ xs) [] p q same = inr (x ∷ xs, refl)
either_front (x ∷ xs) (y ∷ ys) p q same =
    let heads : x ≡ y = cc in
    let tails : xs ++ p ≡ ys ++ q = cc in
    elim (either_front xs ys p q tails) [
      | inl r ↦ inl (r.0, ap (λ l. y ∷ l) r.1 ∙ ap (λ z. z ∷ (xs ++ r.0)) (sym heads))
      | inr r ↦ inr (r.0, ap (λ l. x ∷ l) r.1 ∙ ap (λ z. z ∷ (ys ++ r.0)) heads)
    ]

nothing_before : {A : Type 0} (xs more : List A) → [] ≡ xs ++ more → xs ≡ []
nothing_before [] more h = refl
nothing_before (x ∷ xs) more h = absurd cc

last_or_before : {A : Type 0} (before xs more : List A) (s : A) → before ++ s ∷ [] ≡ xs ++ more → ((m : List A) × (before ≡ xs ++ m)) ⊎ (xs ≡ before ++ s ∷ [])
last_or_before before [] more s same = inl (before, refl)
last_or_before [] (x ∷ xs) more s same =
    let heads : s ≡ x = cc in
    let tails : [] ≡ xs ++ more = cc in
    inr (ap (λ l. x ∷ l) (nothing_before xs more tails) ∙ ap (λ z. z ∷ []) (sym heads))
last_or_before (b ∷ before) (x ∷ xs) more s same =
    let heads : b ≡ x = cc in
    let tails : before ++ s ∷ [] ≡ xs ++ more = cc in
    elim (last_or_before before xs more s tails) [
      | inl r ↦ inl (r.0, ap (λ l. b ∷ l) r.1 ∙ ap (λ z. z ∷ (xs ++ r.0)) heads)
      | inr r ↦ inr (ap (λ l. x ∷ l) r ∙ ap (λ z. z ∷ (before ++ s ∷ [])) (sym heads))
    ]

same_last : {A : Type 0} (xs ys : List A) (x y : A) → xs ++ x ∷ [] ≡ ys ++ y ∷ [] → (xs ≡ ys) × (x ≡ y)
same_last [] [] x y same = (refl, cc)
same_last [] (z ∷ []) x y same = absurd cc
same_last [] (z ∷ (w ∷ ys)) x y same = absurd cc
same_last (z ∷ []) [] x y same = absurd cc
same_last (z ∷ (w ∷ xs)) [] x y same = absurd cc
same_last (z ∷ xs) (w ∷ ys) x y same =
    let heads : z ≡ w = cc in
    let tails : xs ++ x ∷ [] ≡ ys ++ y ∷ [] = cc in
    let rest = same_last xs ys x y tails in
    (ap (λ l. z ∷ l) rest.0 ∙ ap (λ v. v ∷ ys) heads, rest.1)

-- where no execution fails on these statements, none does on one of them
none_within : (test : Slot Statement → Bool) (before more : List Statement) (s : Statement) → list_any test (map Some ((before ++ s ∷ []) ++ more)) ≡ false → test (Some s) ≡ false
none_within test [] more s h = or_left (test (Some s)) (list_any test (map Some more)) h
none_within test (b ∷ before) more s h = none_within test before more s (or_right (test (Some b)) (list_any test (map Some ((before ++ s ∷ []) ++ more))) h)

calm_at : {X : Type 0} (home : Package) (passes : Script) (ss before more : List Statement) (s : Statement) → some_failure home passes ss ≡ false → ss ≡ (before ++ s ∷ []) ++ more → some_failure home passes (s ∷ []) ≡ true → X
calm_at home passes ss before more s none_fails is fails =
    let each = failure_each home passes ((before ++ s ∷ []) ++ more) in
    let none = none_within (some_alone (meaning home) (fails_on home) passes) before more s (sym each ∙ ap (some_failure home passes) (sym is) ∙ none_fails) in
    absurd (false≢true (sym none ∙ sym (fails_alone home passes s) ∙ fails))

-- The text of the first statements is a front of the text of all.
pub text_front : (home : Package) (passes : Script) (xs more : List Statement) → IsFrontOf (text_after home passes xs) (text_after home passes (xs ++ more))
text_front home passes xs [] = ([], text_after_none home passes xs)
text_front home passes xs (s ∷ more) =
    let last = last_class None (slots_after (meaning home) passes (slots_of xs)) in
    let here : List ℕ = if is_query passes then [] else text_following last (slot_after (meaning home) passes (Some s) ∷ []) in
    let rest = text_front home passes (xs ++ s ∷ []) more in (
      here ++ rest.0,
      ap (text_after home passes) (sym (append_assoc xs (s ∷ []) more)) ∙ rest.1
          ∙ ap (λ l. l ++ rest.0) (text_after_more home passes xs s last refl)
          ∙ append_assoc (text_after home passes xs) here rest.0,
    )

-- The file begins with these statements, and where failures end the run none of them fails.
pub record BeginsCalmly (run : Run) (file : List ℕ) (ss : List Statement) : Type 0 where
  pub begins : BeginsWith run.max_depth file ss
  pub none_fails : MayGoOn run ss

-- the statements of a whole run begin with those that the file begins with
whole_begins : (depth : ℕ) (file : List ℕ) (xs ss : List Statement) (fault : Option SyntaxFault) → BeginsWith depth file xs → AreStatementsOf depth 1 (chunks file) ss fault → (more : List Statement) × (ss ≡ xs ++ more)
whole_begins depth file xs ss fault begins read =
    give_split depth 1 begins.front begins.after xs ss fault begins.read (subst (λ l. AreStatementsOf depth 1 l ss fault) begins.chunks_are read)

-- of two lists of statements that a file begins with, one begins the other
either_begins : (depth : ℕ) (file : List ℕ) (xs ys : List Statement) → BeginsWith depth file xs → BeginsWith depth file ys
    → ((more : List Statement) × (ys ≡ xs ++ more)) ⊎ ((more : List Statement) × (xs ≡ ys ++ more))
either_begins depth file xs ys p q =
    elim (either_front p.front q.front p.after q.after (sym p.chunks_are ∙ q.chunks_are)) [
      | inl r ↦ inl (give_split depth 1 p.front r.0 xs ys None p.read (subst (λ l. AreStatementsOf depth 1 l ys None) r.1 q.read))
      | inr r ↦ inr (give_split depth 1 q.front r.0 ys xs None q.read (subst (λ l. AreStatementsOf depth 1 l xs None) r.1 p.read))
    ]

front_moved : (text whole moved : List ℕ) → IsFrontOf text whole → moved ≡ whole → IsFrontOf text moved
front_moved text whole moved front is = (front.0, is ∙ front.1)

front_of_more : (home : Package) (passes : Script) (xs ss more : List Statement) (text : List ℕ) → text ≡ text_after home passes ss → ss ≡ xs ++ more → IsFrontOf (text_after home passes xs) text
front_of_more home passes xs ss more text is same =
    front_moved (text_after home passes xs) (text_after home passes (xs ++ more)) text (text_front home passes xs more) (is ∙ ap (text_after home passes) same)

-- What was written of statements of which none fails that a file begins with is a front of what is written of the file.
front_of_either : (run : Run) (file : List ℕ) (xs : List Statement) (text : List ℕ) (told : Told)
    → BeginsCalmly run file xs → EitherEnd run file text told → IsFrontOf (text_after run.home run.passes xs) text
front_of_either run file xs text told first (inl w) =
    let rest = whole_begins run.max_depth file xs w.statements w.fault first.begins w.read in
    front_of_more run.home run.passes xs w.statements rest.0 text w.text_is rest.1
front_of_either run file xs text told first (inr e) =
    elim (either_begins run.max_depth file xs (e.before ++ e.statement ∷ []) first.begins e.read) [
      | inl r ↦
          elim (last_or_before e.before xs r.0 e.statement r.1) [
            | inl m ↦ front_of_more run.home run.passes xs e.before m.0 text e.text_is m.1
            | inr all ↦ calm_at run.home run.passes xs e.before [] e.statement (first.none_fails e.ends) (all ∙ sym (append-nil (e.before ++ e.statement ∷ []))) e.fails
          ]
      | inr r ↦ calm_at run.home run.passes xs e.before r.0 e.statement (first.none_fails e.ends) r.1 e.fails
    ]

pub front_of_outcome : (run : Run) (file : List ℕ) (xs : List Statement) (text : List ℕ) (told : Told)
    → BeginsCalmly run file xs → IsOutcome run file text told → IsFrontOf (text_after run.home run.passes xs) text
front_of_outcome run file xs text told first outcome = front_of_either run file xs text told first (either_end run file text told outcome)

-- two that tell of one change tell the same
same_change : (A : Type 0) (b c : Bool) → (b ≡ true) ↔ A → (c ≡ true) ↔ A → b ≡ c
same_change A true c p q = sym (q.1 (p.0 refl))
same_change A false true p q = p.1 (q.0 refl)
same_change A false false p q = refl

one_change : (run : Run) (ss ts : List Statement) (b c : Bool) → ss ≡ ts → (b ≡ true) ↔ Changes (meaning run.home) run.passes (slots_of ss)
    → (c ≡ true) ↔ Changes (meaning run.home) run.passes (slots_of ts) → b ≡ c
one_change run ss ts b c same p q =
    same_change (Changes (meaning run.home) run.passes (slots_of ts)) b c (subst (λ l. (b ≡ true) ↔ Changes (meaning run.home) run.passes (slots_of l)) same p) q

-- two outcomes
one_whole : (run : Run) (file text text2 : List ℕ) (told told2 : Told)
    → IsWholeRun run file text told → IsWholeRun run file text2 told2 → (text ≡ text2) × (told ≡ told2)
one_whole run file text text2 told told2 p q =
    let same = one_give run.max_depth 1 (chunks file) p.statements q.statements p.fault q.fault p.read q.read in
    let changed = one_change run p.statements q.statements told.changed told2.changed same.0 p.changed q.changed in (
      p.text_is ∙ ap (text_after run.home run.passes) same.0 ∙ sym q.text_is,
      p.told_is ∙ (λ i. told_of run.home run.passes (same.0 i) (same.1 i) (changed i)) ∙ sym q.told_is,
    )

not_both : {X : Type 0} (run : Run) (file text text2 : List ℕ) (told told2 : Told)
    → IsWholeRun run file text told → EndsAtFailure run file text2 told2 → X
not_both run file text text2 told told2 w e =
    let rest = whole_begins run.max_depth file (e.before ++ e.statement ∷ []) w.statements w.fault e.read w.read in
    calm_at run.home run.passes w.statements e.before rest.0 e.statement (w.none_fails e.ends) rest.1 e.fails

-- the first failure is one
first_same : (home : Package) (passes : Script) (before before2 more : List Statement) (s s2 : Statement)
    → some_failure home passes before2 ≡ false → some_failure home passes (s ∷ []) ≡ true → before2 ++ s2 ∷ [] ≡ (before ++ s ∷ []) ++ more → (before ≡ before2) × (s ≡ s2)
first_same home passes before before2 more s s2 none_fails fails is =
    elim (last_or_before before2 (before ++ s ∷ []) more s2 is) [
      | inl m ↦ calm_at home passes before2 before m.0 s none_fails m.1 fails
      | inr all ↦ same_last before before2 s s2 all
    ]

first_failure : (run : Run) (file text text2 : List ℕ) (told told2 : Told)
    → (p : EndsAtFailure run file text told) → (q : EndsAtFailure run file text2 told2)
    → (p.before ≡ q.before) × (p.statement ≡ q.statement)
first_failure run file text text2 told told2 p q =
    elim (either_begins run.max_depth file (p.before ++ p.statement ∷ []) (q.before ++ q.statement ∷ []) p.read q.read) [
      | inl r ↦ first_same run.home run.passes p.before q.before r.0 p.statement q.statement q.none_fails p.fails r.1
      | inr r ↦
          let same = first_same run.home run.passes q.before p.before r.0 q.statement p.statement p.none_fails q.fails r.1 in
          (sym same.0, sym same.1)
    ]

one_failure : (run : Run) (file text text2 : List ℕ) (told told2 : Told)
    → EndsAtFailure run file text told → EndsAtFailure run file text2 told2 → (text ≡ text2) × (told ≡ told2)
one_failure run file text text2 told told2 p q =
    let same = first_failure run file text text2 told told2 p q in
    let changed = one_change run p.before q.before told.changed told2.changed same.0 p.changed q.changed in (
      p.text_is ∙ ap (text_after run.home run.passes) same.0 ∙ sym q.text_is,
      p.told_is ∙ (λ i. told_of_failure run.home run.passes (same.1 i) (changed i)) ∙ sym q.told_is,
    )

one_either : (run : Run) (file text text2 : List ℕ) (told told2 : Told)
    → EitherEnd run file text told → EitherEnd run file text2 told2 → (text ≡ text2) × (told ≡ told2)
one_either run file text text2 told told2 (inl p) (inl q) = one_whole run file text text2 told told2 p q
one_either run file text text2 told told2 (inl p) (inr q) = not_both run file text text2 told told2 p q
one_either run file text text2 told told2 (inr p) (inl q) = not_both run file text2 text told2 told q p
one_either run file text text2 told told2 (inr p) (inr q) = one_failure run file text text2 told told2 p q

pub one_outcome : (run : Run) (file text text2 : List ℕ) (told told2 : Told)
    → IsOutcome run file text told → IsOutcome run file text2 told2 → (text ≡ text2) × (told ≡ told2)
one_outcome run file text text2 told told2 p q =
    one_either run file text text2 told told2 (either_end run file text told p) (either_end run file text2 told2 q)
