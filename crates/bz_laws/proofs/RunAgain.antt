-- A repeatable script, run again over what it wrote, changes nothing.
use Rattle.std.proofs.Common.{◌≡◌, ◌≢◌, ◌≤◌, ℕ, List, [], ◌∷◌, map, Bool, true, false, ◌||◌, refl, sym, ap, ◌∙◌, subst, inl}
use Rattle.std.specs.Prelude.{None, if◌then◌else◌}
use Rattle.std.specs.List.{AllByRecursion, list_all}
use Rattle.std.proofs.lemmas.Bool.{and_from, and_parts, false≢true}
use Rattle.bz_tree.specs.Tree.{Statement}
use Rattle.bz_layout_laws.specs.Spelled.{spelled, spelled_statement}
use Rattle.bz_layout_laws.specs.Lineless.{lineless}
use Rattle.bz_label.specs.Labels.{Package, Target, Name, Pkg, All, Kind as OfKind, Line}
use Rattle.bz_passes.specs.Passes.{Pass}
use Rattle.bz_passes.specs.Exchange.{some_missing}
use Rattle.bz_attribute.specs.Marks.{marks}
use Rattle.bz_rule.specs.Commands.{Command, is_print}
use Rattle.bz_laws.specs.Again.{AreSettled, is_line, is_steady, looks_past}
use Rattle.bz_laws.proofs.CommandsAgain.{FindsNothing as SecondTime}
use Rattle.bz_laws.proofs.SpelledDone.{marks_spelled, settled_spelled}
use Rattle.bz_engine.specs.Scripts.{AreCommands}
use Rattle.bz_engine.proofs.Failures.{log_fails}
use Rattle.bz_engine.specs.Language.{meaning}
use Rattle.bz_engine.specs.Outcome.{Run, Script, Told, IsOutcome, at_the_end, is_query, slots_of, some_failure, status_of, text_after, told_by, told_of}
use Rattle.bz_engine.specs.declared.report.Report.{Report}
use Rattle.bz_engine.proofs.OneOutcome.{one_outcome}
use Rattle.bz_laws.specs.Repeatable.{HasNamesOnce, are_passes_apart, is_looked_past, is_repeatable}
use Rattle.bz_laws.specs.Written.{HaveUtf8Words, left_by}
use Rattle.bz_laws.proofs.RunText.{reads_back, writes_again}
use Rattle.bz_laws.proofs.ScriptAgain.{AreAlike, IsAtRest, all_for, commands_for, finds_nothing, left_at_rest, marks_joined, same_commands}
use Rattle.bz_laws.proofs.StatusLaw.{status_whole}
use Rattle.bz_laws.proofs.Unmarked.{edited_all}

-- a repeatable script that is no query has no target that is a line

line_prints : (line : ℕ) (cs : List Command) → list_all (looks_past (Line line)) cs ≡ true → list_all is_print cs ≡ true
line_prints line [] h = refl
line_prints line (c ∷ cs) h = absurd (false≢true h)

line_asks : (line : ℕ) (ps : Script) → is_looked_past ps (Line line) ≡ true → is_query ps ≡ true
line_asks line [] h = refl
line_asks line (p ∷ ps) h =
    let a = and_parts (list_all (looks_past (Line line)) p.commands) (is_looked_past ps (Line line)) h in
    and_from (list_all is_print p.commands) (is_query ps) (line_prints line p.commands a.0) (line_asks line ps a.1)

no_line : (ps : Script) (target : Target) → is_query ps ≡ false → is_looked_past ps target ≡ true → is_line target ≡ false
no_line ps (Line line) query h = absurd (false≢true (sym query ∙ line_asks line ps h))
no_line ps (Name name) query h = refl
no_line ps Pkg query h = refl
no_line ps All query h = refl
no_line ps (OfKind kind) query h = refl

no_lines : (ps qs : Script) → is_query ps ≡ false → list_all (λ (q : Pass Target Command). is_looked_past ps q.target) qs ≡ true → AllByRecursion (λ (q : Pass Target Command). is_line q.target ≡ false) qs
no_lines ps [] query h = tt
no_lines ps (q ∷ qs) query h =
    let a = and_parts (is_looked_past ps q.target) (list_all (λ (r : Pass Target Command). is_looked_past ps r.target) qs) h in
    (no_line ps q.target query a.0, no_lines ps qs query a.1)

-- a statement at rest, read back

marks_back : (ps : Script) (s t : Statement) → AllByRecursion (λ (p : Pass Target Command). is_line p.target ≡ false) ps → t.nodes ≡ map spelled s.nodes → AllByRecursion (λ (p : Pass Target Command). marks p.target t ≡ marks p.target s) ps
marks_back [] s t other is = tt
marks_back (p ∷ ps) s t other is = (marks_spelled p.target s t other.0 is, marks_back ps s t other.1 is)

settled_back : (cs : List Command) (home : Package) (s t : Statement) → list_all is_steady cs ≡ true → t.nodes ≡ map spelled s.nodes → AreSettled cs home s → AreSettled cs home t
settled_back [] home s t steady is h = tt
settled_back (c ∷ cs) home s t steady is h =
    let k = and_parts (is_steady c) (list_all is_steady cs) steady in
    (settled_spelled c home s t k.0 is h.0, settled_back cs home s t k.1 is h.1)

rest_back : (home : Package) (ps : Script) (s t : Statement) → list_all (λ p. list_all is_steady p.commands) ps ≡ true → AllByRecursion (λ (p : Pass Target Command). is_line p.target ≡ false) ps → t.nodes ≡ map spelled s.nodes
    → IsAtRest home ps s → IsAtRest home ps t
rest_back home ps s t steady other is h =
    subst (λ cs. AreSettled cs home t) (sym (same_commands ps s t (marks_back ps s t other is))) (settled_back (commands_for s ps) home s t (all_for is_steady s ps steady) is h)

pub record IsReadBack (home : Package) (ps : Script) (found ss before : List Statement) : Type 0 where
  pub at_rest : AllByRecursion (IsAtRest home ps) found
  pub alike : AreAlike ps found before

all_back : (home : Package) (ps : Script) (found ss before : List Statement) → list_all (λ p. list_all is_steady p.commands) ps ≡ true → AllByRecursion (λ (p : Pass Target Command). is_line p.target ≡ false) ps
    → map lineless found ≡ map (λ s. lineless (spelled_statement s)) ss → AllByRecursion (IsAtRest home ps) ss → AreAlike ps ss before → IsReadBack home ps found ss before
all_back home ps [] [] [] steady other same rest alike = record { at_rest = tt; alike = tt }
all_back home ps [] [] (b ∷ before) steady other same rest alike = absurd alike
all_back home ps [] (s ∷ ss) before steady other same rest alike = absurd cc
all_back home ps (t ∷ found) [] before steady other same rest alike = absurd cc
all_back home ps (t ∷ found) (s ∷ ss) [] steady other same rest alike = absurd alike
all_back home ps (t ∷ found) (s ∷ ss) (b ∷ before) steady other same rest alike =
    let head : lineless t ≡ lineless (spelled_statement s) = cc in
    let tail : map lineless found ≡ map (λ u. lineless (spelled_statement u)) ss = cc in
    let is : t.nodes ≡ map spelled s.nodes = ap (λ (z : Statement). z.nodes) head in
    let later = all_back home ps found ss before steady other tail rest.1 alike.1 in
    record {
      at_rest = (rest_back home ps s t steady other is rest.0, later.at_rest);
      alike = (marks_joined ps b s t (marks_back ps s t other is) alike.0, later.alike);
    }

abbrev status_from : Bool → Bool → ℕ
status_from failed changed = if failed then 2 else (if changed then 0 else 3)

three : (failed changed : Bool) → failed ≡ false → changed ≡ false → status_from failed changed ≡ 3
three failed changed none_fails quiet = rw (none_fails, quiet) refl

pub twice : SecondTime → (run : Run) (going : Bool) (file text second : List ℕ) (report again : Report) → AreCommands run.passes → HaveUtf8Words run.passes → is_query run.passes ≡ false → 2 ≤ run.max_depth
    → is_repeatable run.passes ≡ true → (outcome : IsOutcome run file text (told_by report)) → status_of report ≢ 2 → AllByRecursion HasNamesOnce outcome.edited
    → IsOutcome (record run { keep_going = going }) text second (told_by again) → (status_of again ≡ 3) × (second ≡ text)
twice law run going file text second report again commands words query two repeatable outcome good names run2 =
    let home = run.home in
    let passes = run.passes in
    let a = and_parts (list_all (λ p. list_all is_steady p.commands) passes) _ repeatable in
    let b = and_parts (list_all (λ p. is_looked_past passes p.target) passes) (are_passes_apart passes) a.1 in
    let whole = status_whole run file text report outcome good in
    let done = whole.2 in
    let same : outcome.edited ≡ whole.1 = edited_all run file text (told_by report) outcome whole.1 done.read (λ e. whole.0) in
    let none_fails : some_failure home passes outcome.edited ≡ false = ap (some_failure home passes) same ∙ done.none_fails in
    let present : some_missing (meaning home) passes (slots_of outcome.edited) ≡ false = ap (λ ss. some_missing (meaning home) passes (slots_of ss)) same ∙ done.found in
    let left = left_at_rest law home passes outcome.edited commands repeatable names none_fails in
    let back = reads_back run file text (told_by report) commands words query two outcome in
    let rests = all_back home passes back.found (left_by home passes outcome.edited) outcome.edited a.0 (no_lines passes passes query b.0) back.same left.0 left.1 in
    let nothing = finds_nothing home passes back.found outcome.edited commands repeatable rests.at_rest rests.alike in
    let is : IsOutcome (record run { keep_going = going }) text (text_after home passes back.found) (told_of home passes back.found None false) =
    record {
      edited = back.found;
      ends = at_the_end None back.file refl;
      none_fails = λ h. nothing.none_fails;
      text_is = refl;
      changed = (λ h. absurd (false≢true h), λ change. absurd (nothing.unchanged change));
    } in
    let one = (one_outcome (record run { keep_going = going }) text second (text_after home passes back.found) (told_by again) (told_of home passes back.found None false) run2 is).1 in
    let quiet : again.changed ≡ false = ap (λ (t : Told). t.changed) one in
    let fine : again.failed ≡ false = ap (λ (t : Told). t.failed) one ∙ log_fails home passes back.found ∙ ap (λ c. c || some_missing (meaning home) passes (slots_of back.found)) nothing.none_fails ∙ nothing.found ∙ present in (
      three again.failed again.changed fine quiet,
      writes_again run file text (told_by report) commands words query two outcome home passes going second (told_by again) query run2 (λ h. ap (λ (t : Told). t.end) one) quiet,
    )
