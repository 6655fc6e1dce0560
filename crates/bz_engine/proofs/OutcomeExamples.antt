-- Worked examples that compute: texts of messages, the outcome of an empty file, and the exit status.
use Rattle.std.specs.Prelude.{◌≡◌, ◌↔◌, ℕ, Bool, true, false, List, [], ◌∷◌, None, Some, codes}
use Rattle.std.proofs.Common.{refl, arith}
use Rattle.bz_label.specs.Labels.{Package, Target, Name, All}
use Rattle.bz_rule.specs.declared.command.Action.TheVariants.{Delete}
use Rattle.bz_attribute.specs.declared.done.Note.TheVariants.{Missing, NoAttribute, AttributeExists, NotAList, NoValue}
use Rattle.bz_engine.specs.declared.report.End.TheVariants.{Whole}
use Rattle.bz_engine.specs.declared.report.Report.{Report}
use Rattle.bz_passes.specs.Passes.{Changes}
use Rattle.bz_passes.specs.declared.entry.Entry.TheVariants.{Warning, Failure}
use Rattle.bz_engine.specs.Language.{meaning}
use Rattle.bz_engine.specs.Messages.{not_found_text, note_entry}
use Rattle.bz_engine.specs.Outcome.{Script, Run, Told, IsOutcome, at_the_end, status_of}

abbrev home : Package
home = Some (codes "p")

no_rule : not_found_text home (Name (codes "a")) ≡ codes "//p:a: no such rule"
no_rule = refl

missing_field : note_entry (codes "//p:a") (Missing (codes "q")) ≡ Warning (codes "//p:a: no attribute 'q' to print")
missing_field = refl

no_attribute : note_entry (codes "//p:a") (NoAttribute (codes "q")) ≡ Failure (codes "//p:a: no attribute 'q'")
no_attribute = refl

attribute_exists : note_entry (codes "//p:b") (AttributeExists (codes "y")) ≡ Failure (codes "//p:b: attribute 'y' is already there")
attribute_exists = refl

no_list : note_entry (codes "//p:a") (NotAList (codes "name")) ≡ Failure (codes "//p:a: attribute 'name' has no list")
no_list = refl

no_value : note_entry (codes "//p:a") (NoValue (codes "deps") (codes "y")) ≡ Failure (codes "//p:a: no value 'y' in attribute 'deps'")
no_value = refl

-- an empty file under a name, and under a target that need not mark anything
abbrev deleting : Target → Script
deleting target = record { target = target; commands = Delete ∷ [] } ∷ []

abbrev run_of : Script → Run
run_of passes = record { home = home; passes = passes; keep_going = false; max_depth = 100 }

abbrev told : List (List ℕ) → Bool → Told
told messages failed = record { lines = []; messages = messages; changed = false; failed = failed; end = Whole }

nothing_changes : (target : Target) → (false ≡ true) ↔ Changes (meaning home) (deleting target) []
nothing_changes target = (λ h. absurd cc, λ some. absurd (omega (arith, some.2)))

nothing_there : IsOutcome (run_of (deleting (Name (codes "a")))) [] [] (told (codes "//p:a: no such rule" ∷ []) true)
nothing_there = record {
  edited = [];
  ends = at_the_end None (refl, refl) refl;
  none_fails = λ h. refl;
  text_is = refl;
  changed = nothing_changes (Name (codes "a"));
}

all_of_nothing : IsOutcome (run_of (deleting All)) [] [] (told [] false)
all_of_nothing = record { edited = []; ends = at_the_end None (refl, refl) refl; none_fails = λ h. refl; text_is = refl; changed = nothing_changes All }

abbrev report : Bool → Bool → Report
report changed failed = record { lines = []; messages = []; changed = changed; failed = failed; end = Whole }

failed_run : status_of (report true true) ≡ 2
failed_run = refl

changed_run : status_of (report true false) ≡ 0
changed_run = refl

idle_run : status_of (report false false) ≡ 3
idle_run = refl
