-- What a run over a file gives: the passes one after another on the whole list of its statements, and the
-- result laid out (buildozer README; what is told, and when a run ends, is this project's own rule).
-- Begin with `IsOutcome`.
use Rattle.std.specs.Prelude.{◌≡◌, ◌↔◌, ℕ, Bool, true, false, not, if◌then◌else◌, List, [], ◌∷◌, ◌++◌, map, Option, None, Some, take, filter_map}
use Rattle.std.specs.List.{list_all, flat_map}
use Rattle.bz_token.specs.Common.{is_empty}
use Rattle.bz_token.specs.Chunks.{chunks}
use Rattle.bz_tree.specs.Tree.{Statement}
use Rattle.bz_layout.specs.Layout.{layout_text}
use Rattle.bz_layout.specs.Gaps.{lines_between, gap_text}
use Rattle.bz_label.specs.Labels.{Package, Target}
use Rattle.bz_rule.specs.Commands.{Command, is_print}
use Rattle.bz_passes.specs.Entries.{line_text, message_text, failure_text}
use Rattle.bz_engine.specs.declared.options.Options.{Options}
use Rattle.bz_engine.specs.declared.report.SyntaxFault.{SyntaxFault}
use Rattle.bz_engine.specs.declared.report.End.{End}
use Rattle.bz_engine.specs.declared.report.End.TheVariants.{Whole, Syntax, FirstFailure}
use Rattle.bz_engine.specs.declared.report.Report.{Report}
use Rattle.bz_passes.specs.Passes.{Pass, Slot, slots_after, executions_of, said, Changes, log_of}
use Rattle.bz_engine.specs.Messages.{fault_text}
use Rattle.bz_engine.specs.Language.{meaning}
use Rattle.bz_engine.specs.File.{AreStatementsOf, IsFile}

-- A script is a list of passes: targets in a package, and commands on rules.
abbrev pub Script : Type 0
Script = List (Pass Target Command)

-- A `Run` says what a run is to do to a file: the script in the package `home`, whether it goes on after a failure
-- (buildozer's flag `-k`), and how deep brackets may stand in each other. Of the options these two alone
-- count for the outcome. The other two limit what is read: they may stop a run (`Stops`), and change no outcome.
pub record Run : Type 0 where
  pub home : Package
  pub passes : Script
  pub keep_going : Bool
  pub max_depth : ℕ

-- the run of these passes with these options (`Options`, in `src/options.rt`)
abbrev pub run_with : Package → Script → Options → Run
run_with home passes options =
    record { home = home; passes = passes; keep_going = options.keep_going; max_depth = options.max_depth }

-- The script is a query: its commands all print, so it only asks. One without commands is a query too: it writes
-- nothing.
abbrev pub is_query : Script → Bool
is_query passes = list_all (λ p. list_all is_print p.commands) passes

-- the statements, each in a slot
abbrev pub slots_of : List Statement → List (Slot Statement)
slots_of statements = map Some statements

-- the statements that slots hold; an empty slot has none
abbrev pub left_in : {S : Type 0} → List (Slot S) → List S
left_in slots = filter_map (λ slot. slot) slots

-- The text of statements one after another: between two neighbours stand the empty lines that their classes
-- ask for.
abbrev pub text_of : List Statement → List ℕ
text_of [] = []
text_of (s ∷ []) = layout_text s
text_of (s ∷ t ∷ ss) = layout_text s ++ (gap_text (lines_between s.class t.class) ++ text_of (t ∷ ss))

-- What the passes `ps` in the package `home` make of the statements `ss`.
module _ (home : Package) (ps : Script) (ss : List Statement) where
  -- the text of the statements as the script leaves them; a query writes none
  abbrev pub text_after : List ℕ
  text_after = if is_query ps then [] else text_of (left_in (slots_after (meaning home) ps (slots_of ss)))

  -- the texts of the failures that the executions on these statements say, in their order
  abbrev pub failures : List (List ℕ)
  failures = flat_map failure_text (said (meaning home) (executions_of (meaning home) ps (slots_of ss)))

  -- Some execution on these statements fails: what the executions say has a failure.
  abbrev pub some_failure : Bool
  some_failure = not (is_empty failures)

-- The run may go on after these statements: failures do not end it, or no execution on them fails.
abbrev pub MayGoOn : Run → List Statement → Type 0
MayGoOn run statements = run.keep_going ≡ false → some_failure run.home run.passes statements ≡ false

-- What a run tells beside its text: the lines that it prints and the messages, each in order; whether it
-- changed something, whether it failed, and where it ended (`End`, in `src/report.rt`). The program's `Report`
-- holds just this; `told_by` takes it from one.
pub record Told : Type 0 where
  pub lines : List (List ℕ)
  pub messages : List (List ℕ)
  pub changed : Bool
  pub failed : Bool
  pub end : End

-- what is told of a run that a fault or a failure ended: no line, and no messages but these
abbrev pub cut_short : List (List ℕ) → Bool → End → Told
cut_short ms changed end = record { lines = []; messages = ms; changed = changed; failed = true; end = end }

-- What is told of a run that no failure ended: where the file has no fault, the log; else the fault is the
-- only message.
abbrev pub told_of : Package → Script → List Statement → Option SyntaxFault → Bool → Told
told_of home passes statements None changed =
    let log = log_of (meaning home) passes (slots_of statements) in
    let failed = not (is_empty (flat_map failure_text log)) in
    record {
      lines = flat_map line_text log;
      messages = flat_map message_text log;
      changed = changed;
      failed = failed;
      end = Whole;
    }
told_of home passes statements (Some fault) changed = cut_short (fault_text fault ∷ []) changed (Syntax fault)

-- what is told where the run ends at a statement: the first failure there, in pass and command order, is the
-- only message
abbrev pub told_of_failure : Package → Script → Statement → Bool → Told
told_of_failure home ps s changed = cut_short (take 1 (failures home ps (s ∷ []))) changed FirstFailure

-- what a report tells (`Report`, in `src/report.rt`): all that it holds
abbrev pub told_by : Report → Told
told_by r =
    record { lines = r.lines; messages = r.messages; changed = r.changed; failed = r.failed; end = r.end }

-- The file begins with these statements: its first chunks (`front`), the first on line 1, have them, and no
-- fault; `after` are the chunks after those.
pub record BeginsWith (max_depth : ℕ) (file : List ℕ) (statements : List Statement) : Type 0 where
  pub front : List (List ℕ)
  pub after : List (List ℕ)
  pub chunks_are : chunks file ≡ front ++ after
  pub read : AreStatementsOf max_depth 1 front statements None

-- How a run ends after the statements that it edits, and what is told: the file has no others before its end
-- or its first fault; or an execution fails on the next one, s, and failures end the run. Here `told.changed`
-- may be anything: `IsOutcome` says what it is (`Changes` is a statement, and no `Bool`).
pub data RunEnds (run : Run) (file : List ℕ) (edited : List Statement) (told : Told) : Type 0 where
  at_the_end : (fault : Option SyntaxFault) → IsFile run.max_depth file edited fault
      → told ≡ told_of run.home run.passes edited fault told.changed → RunEnds run file edited told
  at_a_failure : (s : Statement) → run.keep_going ≡ false → BeginsWith run.max_depth file (edited ++ s ∷ [])
      → some_failure run.home run.passes (s ∷ []) ≡ true
      → told ≡ told_of_failure run.home run.passes s told.changed → RunEnds run file edited told

-- The outcome of a run over a file is the text that is written, and what is told. All executions on the
-- statements `edited` take place, and no failure among them ends the run. Something changed
-- exactly if an execution on these changes something; a statement at which the run ends does not count. So after a
-- fault or a failure the text lacks the rest of the file: the program keeps no such text (`is_kept` of bz_program).
pub record IsOutcome (run : Run) (file text : List ℕ) (told : Told) : Type 0 where
  pub edited : List Statement
  pub ends : RunEnds run file edited told
  pub none_fails : MayGoOn run edited
  pub text_is : text ≡ text_after run.home run.passes edited
  pub changed : (told.changed ≡ true) ↔ Changes (meaning run.home) run.passes (slots_of edited)

-- The bytes `whole` begin with the bytes `front`.
abbrev pub IsFrontOf : List ℕ → List ℕ → Type 0
IsFrontOf front whole = (more : List ℕ) × (whole ≡ front ++ more)

-- the status of a run (buildozer README, "Error codes"): 2 if it failed; else 0 if it changed something, and
-- 3 if it did not
abbrev pub status_of : Report → ℕ
status_of report = if report.failed then 2 else (if report.changed then 0 else 3)
