-- A report's status tells how the run of the file went.
use Rattle.std.proofs.Common.{◌≡◌, ◌≢◌, inl, inr, ℕ, Bool, true, false, ◌||◌, List, [], refl, sym, ◌∙◌, ap}
use Rattle.std.specs.Prelude.{◌↔◌, Option, None, Some, if◌then◌else◌}
use Rattle.std.proofs.lemmas.Bool.{false≢true}
use Rattle.bz_tree.specs.Tree.{Statement}
use Rattle.bz_passes.specs.Exchange.{some_missing}
use Rattle.bz_engine.specs.Language.{meaning}
use Rattle.bz_engine.specs.declared.report.Report.{Report}
use Rattle.bz_engine.specs.declared.report.SyntaxFault.{SyntaxFault}
use Rattle.bz_engine.specs.declared.report.End.TheVariants.{Whole}
use Rattle.bz_engine.specs.File.{IsFile}
use Rattle.bz_engine.specs.Outcome.{Run, RunEnds, Told, IsOutcome, at_a_failure, at_the_end, is_query, left_in, slots_of, text_of, some_failure, told_of, told_by, status_of}
use Rattle.bz_passes.proofs.Executions.{calm_passes}
use Rattle.bz_engine.proofs.Failures.{log_fails}
use Rattle.bz_engine.proofs.OneOutcome.{one_outcome}
use Rattle.bz_engine.proofs.SomeOutcome.{change_told}
use Rattle.bz_laws.specs.Status.{IsDoneWhole, SomeChange}
use Rattle.bz_laws.proofs.FileText.{left_all}
use Rattle.bz_laws.proofs.SecondRun.{same_bytes}

or_none : (a b : Bool) → (a || b) ≡ false → (a ≡ false) × (b ≡ false)
or_none true b h = absurd (false≢true (sym h))
or_none false b h = (refl, h)

abbrev status_from : Bool → Bool → ℕ
status_from failed changed = if failed then 2 else (if changed then 0 else 3)

by_status : (failed changed : Bool) (n : ℕ) → status_from failed changed ≡ n → n ≢ 2 → failed ≡ false
by_status true changed n is other = absurd (other (sym is))
by_status false changed n is other = refl

by_zero : (failed changed : Bool) → status_from failed changed ≡ 0 → changed ≡ true
by_zero true changed is = absurd cc
by_zero false true is = refl
by_zero false false is = absurd cc

by_three : (failed changed : Bool) → status_from failed changed ≡ 3 → changed ≡ false
by_three true changed is = absurd cc
by_three false true is = absurd cc
by_three false false is = refl

-- a run that did not fail is a whole one, over a file without fault
record IsGood (run : Run) (file text : List ℕ) (report : Report) : Type 0 where
  end : report.end ≡ Whole
  statements : List Statement
  done : IsDoneWhole run file text statements
  changed : (report.changed ≡ true) ↔ SomeChange run.home run.passes statements

good : (run : Run) (file text : List ℕ) (report : Report) → IsOutcome run file text (told_by report) → report.failed ≡ false
    → IsGood run file text report
good run file text report outcome none_fails = by outcome.ends
  where
    by : RunEnds run file outcome.edited (told_by report) → IsGood run file text report
    by (at_the_end None read told_is) =
        let none = or_none (some_failure run.home run.passes outcome.edited) (some_missing (meaning run.home) run.passes (slots_of outcome.edited)) (sym (log_fails run.home run.passes outcome.edited) ∙ sym (ap (λ (t : Told). t.failed) told_is) ∙ none_fails) in
        record {
          end = ap (λ (t : Told). t.end) told_is;
          statements = outcome.edited;
          done = record { read = read; none_fails = none.0; found = none.1; text_is = outcome.text_is };
          changed = outcome.changed;
        }
    by (at_the_end (Some fault) read told_is) = absurd (false≢true (sym none_fails ∙ ap (λ (t : Told). t.failed) told_is))
    by (at_a_failure s stops begins fails told_is) = absurd (false≢true (sym none_fails ∙ ap (λ (t : Told). t.failed) told_is))

pub status_whole : (run : Run) (file text : List ℕ) (report : Report) → IsOutcome run file text (told_by report) → status_of report ≢ 2
    → (report.end ≡ Whole) × (statements : List Statement) × IsDoneWhole run file text statements
status_whole run file text report outcome other =
    let g = good run file text report outcome (by_status report.failed report.changed (status_of report) refl other) in
    (g.end, g.statements, g.done)

pub status_changed : (run : Run) (file text : List ℕ) (report : Report) → IsOutcome run file text (told_by report)
    → status_of report ≡ 0 → (statements : List Statement) × IsDoneWhole run file text statements × SomeChange run.home run.passes statements
status_changed run file text report outcome zero =
    let g = good run file text report outcome (by_status report.failed report.changed 0 zero (λ h. absurd cc)) in
    (g.statements, g.done, g.changed.0 (by_zero report.failed report.changed zero))

-- what is shown of statements that stay
shown_same : (b : Bool) (one other : List ℕ) → one ≡ other → (if b then [] else one) ≡ (if b then [] else other)
shown_same b one other e = ap (λ text. if b then [] else text) e

pub status_unchanged : (run : Run) (file text : List ℕ) (report : Report) → IsOutcome run file text (told_by report)
    → status_of report ≡ 3 → (statements : List Statement) × IsDoneWhole run file text statements × (SomeChange run.home run.passes statements → ⊥) × (text ≡ (if is_query run.passes then [] else text_of statements))
status_unchanged run file text report outcome three =
    let g = good run file text report outcome (by_status report.failed report.changed 3 three (λ h. absurd cc)) in
    let none : SomeChange run.home run.passes g.statements → ⊥ = λ change. false≢true (sym (by_three report.failed report.changed three) ∙ g.changed.1 change) in
    let stays = same_bytes _ _ (λ differ. calm_passes (meaning run.home) run.passes (slots_of g.statements) none (λ same. differ (ap (λ slots. text_of (left_in slots)) same ∙ ap text_of (left_all g.statements)))) in
    (g.statements, g.done, none, g.done.text_is ∙ shown_same (is_query run.passes) _ _ stays)

-- where all was done the status is not 2
not_two : (failed changed : Bool) → failed ≡ false → status_from failed changed ≡ 2 → ⊥
not_two true changed none_fails is = false≢true (sym none_fails)
not_two false true none_fails is = cc
not_two false false none_fails is = cc

pub status_done : (run : Run) (file text : List ℕ) (report : Report) (statements : List Statement) → IsOutcome run file text (told_by report)
    → IsDoneWhole run file text statements → status_of report ≢ 2
status_done run file text report statements outcome all =
    let change = change_told run.home run.passes statements in
    let is : IsOutcome run file text (told_of run.home run.passes statements None change.0) =
    record { edited = statements; ends = at_the_end None all.read refl; none_fails = λ h. all.none_fails; text_is = all.text_is; changed = change.1 } in
    let same = (one_outcome run file text text (told_by report) (told_of run.home run.passes statements None change.0) outcome is).1 in
    not_two report.failed report.changed (ap (λ (t : Told). t.failed) same ∙ log_fails run.home run.passes statements ∙ ap (λ b. b || some_missing (meaning run.home) run.passes (slots_of statements)) all.none_fails ∙ all.found)
