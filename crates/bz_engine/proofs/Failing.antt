-- Where an execution fails, and failures end the run.
use Rattle.std.proofs.Common.{◌≡◌, ℕ, Bool, true, false, ◌||◌, not, List, [], ◌∷◌, ◌++◌, refl, sym, ◌∙◌, ap, take}
use Rattle.std.specs.Prelude.{Some}
use Rattle.std.specs.List.{flat_map}
use Rattle.std.proofs.lemmas.Bool.{false≢true}
use Rattle.bz_tree.specs.Tree.{Statement}
use Rattle.bz_label.specs.Labels.{Package}
use Rattle.bz_rule.specs.Commands.{Command}
use Rattle.bz_passes.specs.declared.entry.Entry.{Entry}
use Rattle.bz_passes.specs.Passes.{Slot}
use Rattle.bz_passes.specs.Exchange.{Kept, IsLeftBy, some_alone}
use Rattle.bz_engine.specs.Language.{meaning}
use Rattle.bz_engine.specs.Failing.{changes, fails_on}
use Rattle.bz_engine.specs.Outcome.{Run}
use Rattle.bz_passes.specs.Entries.{failure_text}
use Rattle.bz_engine.specs.Progress.{Progress}
use Rattle.bz_engine.specs.private.Edits.{IsEnded, first_failed}
use Rattle.bz_passes.proofs.Failures.{failures_alone}
use Rattle.bz_engine.proofs.Failures.{says_failure}
use Rattle.bz_engine.proofs.OneSlot.{fails_alone, said_alone}
use Rattle.bz_token.specs.Common.{is_empty}

nothing_in : (texts : List (List ℕ)) → not (is_empty texts) ≡ false → texts ≡ []
nothing_in [] h = refl
nothing_in (x ∷ texts) h = absurd cc

-- an execution that does not fail tells of no failure
quiet : (home : Package) (c : Command) (slot : Slot Statement) → fails_on home c slot ≡ false → flat_map failure_text ((meaning home).says c slot) ≡ []
quiet home c slot h = nothing_in (flat_map failure_text ((meaning home).says c slot)) (says_failure home c slot ∙ h)

or_then : (a b f : Bool) → f ≡ (a || b) → f ≡ true → a ≡ false → b ≡ true
or_then true b f is h none = absurd (false≢true (sym none))
or_then false b f is h none = sym is ∙ h

-- the run ends at a statement
pub ends_there : (run : Run) (s : Statement) (old new : Progress)
    (kept : List (Kept Entry)) (changed failed : Bool) (text : List ℕ)
    → run.keep_going ≡ false → failed ≡ true → failed ≡ (old.failed || some_alone (meaning run.home) (fails_on run.home) run.passes (Some s))
    → ((slots : List (Slot Statement)) → IsLeftBy (meaning run.home) (changes run.home) (fails_on run.home) run.passes slots old.kept old.changed old.failed
    → IsLeftBy (meaning run.home) (changes run.home) (fails_on run.home) run.passes (slots ++ Some s ∷ []) kept changed failed)
    → new.kept ≡ kept
    → new.changed ≡ old.changed → new.line ≡ old.line
    → IsEnded run s old new text text
ends_there run s old new kept changed failed text ends bad here left same_kept same_changed same_line = record {
  ends = ends;
  fails = λ none. fails_alone run.home run.passes s ∙ or_then old.failed (some_alone (meaning run.home) (fails_on run.home) run.passes (Some s)) failed here bad none;
  message_is = λ none slots before.
      ap first_failed same_kept
      ∙ ap first_failed (left slots before).kept
      ∙ ap (take 1) (failures_alone (meaning run.home) failure_text (fails_on run.home) (quiet run.home) run.passes slots (Some s) (sym before.failed ∙ none))
      ∙ ap (λ l. take 1 (flat_map failure_text l)) (sym (said_alone (meaning run.home) run.passes (Some s)));
  changed = same_changed;
  line = same_line;
  nothing = refl;
}
