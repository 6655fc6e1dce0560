-- What a run writes is the text of what its script left, and it is read as that.
use Rattle.std.proofs.Common.{◌≡◌, ℕ, ◌≤◌, Bool, false, List, [], ◌∷◌, ◌++◌, sym, subst, ◌∙◌, inl, inr}
use Rattle.std.specs.Prelude.{None}
use Rattle.std.specs.List.{AllByRecursion}
use Rattle.bz_tree.specs.Tree.{Statement}
use Rattle.bz_label.specs.Labels.{Package}
use Rattle.bz_engine.specs.declared.report.End.TheVariants.{Whole}
use Rattle.bz_engine.specs.Scripts.{AreCommands}
use Rattle.bz_engine.specs.File.{IsFile}
use Rattle.bz_engine.specs.Outcome.{Run, RunEnds, Script, Told, IsOutcome, at_a_failure, at_the_end, is_query, text_of, text_after}
use Rattle.bz_laws.specs.Sound.{IsSound}
use Rattle.bz_laws.specs.Written.{HaveUtf8Words, left_by, IsTextOf}
use Rattle.bz_laws.proofs.FileText.{text_again}
use Rattle.bz_laws.proofs.ScriptSound.{script_sound}
use Rattle.bz_laws.proofs.SecondRun.{shown, same_again}
use Rattle.bz_laws.proofs.SoundStatements.{file_sound, front_sound}

-- the text after a script is that of the statements that it left
pub text_left_by : (home : Package) (passes : Script) (ss : List Statement) → is_query passes ≡ false → text_after home passes ss ≡ text_of (left_by home passes ss)
text_left_by home passes ss query =
    shown (is_query passes) (text_of (left_by home passes ss)) query

-- the statements that a run edits are sound
edited_sound : (run : Run) (file text : List ℕ) (told : Told) (outcome : IsOutcome run file text told)
    → AllByRecursion (IsSound run.max_depth) outcome.edited
edited_sound run file text told outcome = by outcome.ends
  where
    before_sound : (ss more : List Statement) → AllByRecursion (IsSound run.max_depth) (ss ++ more) → AllByRecursion (IsSound run.max_depth) ss
    before_sound [] more sound = tt
    before_sound (s ∷ ss) more sound = (sound.0, before_sound ss more sound.1)

    by : RunEnds run file outcome.edited told → AllByRecursion (IsSound run.max_depth) outcome.edited
    by (at_the_end fault read told_is) = file_sound run.max_depth file outcome.edited fault read
    by (at_a_failure s ends read fails told_is) = before_sound outcome.edited (s ∷ []) (front_sound run.max_depth file (outcome.edited ++ s ∷ []) read)

pub edited_text : (run : Run) (file text : List ℕ) (told : Told) (outcome : IsOutcome run file text told)
    → text ≡ text_after run.home run.passes outcome.edited
edited_text run file text told outcome = outcome.text_is

-- so the text is that of sound statements
pub record IsSoundText (depth : ℕ) (left : List Statement) (text : List ℕ) : Type 0 where
  pub sound : AllByRecursion (IsSound depth) left
  pub is : text ≡ text_of left

pub written_sound : (run : Run) (file text : List ℕ) (told : Told) → AreCommands run.passes → HaveUtf8Words run.passes → is_query run.passes ≡ false → 2 ≤ run.max_depth
    → (outcome : IsOutcome run file text told) → IsSoundText run.max_depth (left_by run.home run.passes outcome.edited) text
written_sound run file text told commands words query two outcome = record {
  sound = script_sound run.home run.passes run.max_depth outcome.edited commands words two (edited_sound run file text told outcome);
  is = edited_text run file text told outcome ∙ text_left_by run.home run.passes outcome.edited query;
}

pub reads_back : (run : Run) (file text : List ℕ) (told : Told) → AreCommands run.passes → HaveUtf8Words run.passes → is_query run.passes ≡ false → 2 ≤ run.max_depth
    → (outcome : IsOutcome run file text told) → IsTextOf run.max_depth (left_by run.home run.passes outcome.edited) text
reads_back run file text told commands words query two outcome =
    let left = left_by run.home run.passes outcome.edited in
    let written = written_sound run file text told commands words query two outcome in
    let again = text_again run.max_depth left written.sound in
    record { found = again.0; file = subst (λ t. IsFile run.max_depth t again.0 None) (sym written.is) again.1; same = again.2 }

pub writes_again : (run : Run) (file text : List ℕ) (told : Told) → AreCommands run.passes → HaveUtf8Words run.passes → is_query run.passes ≡ false → 2 ≤ run.max_depth
    → IsOutcome run file text told
    → (there : Package) (others : Script) (going : Bool) (second : List ℕ) (told2 : Told) → is_query others ≡ false → IsOutcome (record run { home = there; passes = others; keep_going = going }) text second told2
    → (going ≡ false → told2.end ≡ Whole) → told2.changed ≡ false
    → second ≡ text
writes_again run file text told commands words query two outcome there others going second told2 query2 run2 ends quiet =
    let left = left_by run.home run.passes outcome.edited in
    let written = written_sound run file text told commands words query two outcome in
    same_again (record run { home = there; passes = others; keep_going = going }) left second told2 written.sound query2 (subst (λ t. IsOutcome (record run { home = there; passes = others; keep_going = going }) t second told2) written.is run2) ends quiet ∙ sym written.is
