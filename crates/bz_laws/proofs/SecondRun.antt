-- A script that changes nothing leaves the slots, so a run of it over a text that was written writes the same bytes.
use Rattle.std.proofs.Common.{◌≡◌, inl, inr, ℕ, Bool, true, false, List, [], ◌∷◌, map, refl, sym, ◌∙◌, ap}
use Rattle.std.specs.Prelude.{Option, None, Some, if◌then◌else◌, bytes_eq}
use Rattle.std.specs.List.{AllByRecursion}
use Rattle.std.proofs.lemmas.Bool.{cases_Bool, false≢true}
use Rattle.std.proofs.lemmas.Slice.Eq.{bytes_eq-Decides}
use Rattle.bz_tree.specs.Tree.{Statement}
use Rattle.bz_label.specs.Labels.{Package}
use Rattle.bz_passes.specs.Passes.{Changes, slots_after}
use Rattle.bz_passes.proofs.Executions.{calm_passes}
use Rattle.bz_engine.specs.Language.{meaning}
use Rattle.bz_engine.specs.declared.report.End.TheVariants.{Whole, FirstFailure}
use Rattle.bz_engine.specs.Outcome.{Run, RunEnds, Script, Told, IsOutcome, at_a_failure, at_the_end, is_query, left_in, slots_of, text_of, told_of_failure}
use Rattle.bz_engine.specs.File.{IsFile}
use Rattle.bz_engine.specs.declared.report.SyntaxFault.{SyntaxFault}
use Rattle.bz_engine.proofs.OneOutcome.{one_give}
use Rattle.bz_laws.specs.Sound.{IsSound}
use Rattle.bz_laws.proofs.FileText.{left_all, text_again}

-- bytes that cannot differ are the same
pub same_bytes : (xs ys : List ℕ) → ((xs ≡ ys → ⊥) → ⊥) → xs ≡ ys
same_bytes xs ys h = elim (cases_Bool (bytes_eq xs ys)) [
  | inl same ↦ (bytes_eq-Decides xs ys).0 same
  | inr other ↦ absurd (h (λ same. false≢true (sym other ∙ (bytes_eq-Decides xs ys).1 same)))
]

pub shown : (b : Bool) (text : List ℕ) → b ≡ false → (if b then [] else text) ≡ text
shown true text h = absurd (false≢true (sym h))
shown false text h = refl

whole_again : (run : Run) (ss : List Statement) (text : List ℕ) (told : Told) (fault : Option SyntaxFault) → AllByRecursion (IsSound run.max_depth) ss → is_query run.passes ≡ false
    → (outcome : IsOutcome run (text_of ss) text told) → IsFile run.max_depth (text_of ss) outcome.edited fault → told.changed ≡ false → text ≡ text_of ss
whole_again run ss text told fault sound query outcome read quiet =
    let again = text_again run.max_depth ss sound in
    let same = (one_give run.max_depth 1 _ outcome.edited again.0 fault None read again.1).0 in
    let none : Changes (meaning run.home) run.passes (slots_of outcome.edited) → ⊥ = λ change. false≢true (sym quiet ∙ outcome.changed.1 change) in
    outcome.text_is ∙ shown (is_query run.passes) (text_of (left_in (slots_after (meaning run.home) run.passes (slots_of outcome.edited)))) query
    ∙ same_bytes _ _ (λ differ. calm_passes (meaning run.home) run.passes (slots_of outcome.edited) none (λ stays. differ (ap (λ slots. text_of (left_in slots)) stays ∙ ap text_of (left_all outcome.edited ∙ same))))
    ∙ again.3

-- a run that comes to its end does not end at a failure
pub not_at_failure : (run : Run) (told : Told) (s : Statement) → told ≡ told_of_failure run.home run.passes s told.changed → run.keep_going ≡ false → (run.keep_going ≡ false → told.end ≡ Whole) → ⊥
not_at_failure run told s told_is stops ends =
    let here : FirstFailure ≡ Whole = sym (ap (λ (t : Told). t.end) told_is) ∙ ends stops in
    cc

pub same_again : (run : Run) (ss : List Statement) (text : List ℕ) (told : Told) → AllByRecursion (IsSound run.max_depth) ss → is_query run.passes ≡ false
    → IsOutcome run (text_of ss) text told → (run.keep_going ≡ false → told.end ≡ Whole) → told.changed ≡ false → text ≡ text_of ss
same_again run ss text told sound query outcome ends quiet = by outcome.ends
  where
    by : RunEnds run (text_of ss) outcome.edited told → text ≡ text_of ss
    by (at_the_end fault read told_is) = whole_again run ss text told fault sound query outcome read quiet
    by (at_a_failure s stops begins fails told_is) = absurd (not_at_failure run told s told_is stops ends)
