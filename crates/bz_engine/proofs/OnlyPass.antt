-- A statement that one pass of the script alone marks, whose one command it is.
use Rattle.std.proofs.Common.{◌≡◌, ◌≢◌, ℕ, ◌+◌, ◌<◌, length, get_or, Bool, true, false, ◌||◌, List, [], ◌∷◌, ◌++◌, refl, sym, ◌∙◌, ap, subst, append-nil, arith}
use Rattle.std.proofs.lemmas.Bool.{false≢true}
use Rattle.std.specs.Prelude.{OnOk, Result, Ok, Err, Option, None, Some, if◌then◌else◌, bytes_eq, codes, map, option_map, option_to_list}
use Rattle.bz_token.specs.Common.{map_or}
use Rattle.bz_tree.specs.declared.tree.Class.{Class}
use Rattle.bz_tree.specs.declared.tree.Class.TheVariants.{Rule as RuleClass}
use Rattle.bz_tree.specs.Statement.{class_of}
use Rattle.bz_tree.specs.Tree.{Segment, Statement}
use Rattle.bz_label.specs.Labels.{Package, Target, Name, Pkg, All, Kind, Line as OnLine}
use Rattle.bz_passes.specs.Passes.{Pass, Slot, marked}
use Rattle.bz_attribute.specs.declared.done.Done.{Done}
use Rattle.bz_attribute.specs.Effects.{with_args}
use Rattle.bz_attribute.specs.Marks.{marks, marks_rule}
use Rattle.bz_attribute.specs.Rules.{Rule, is_text, name_in, rule_of}
use Rattle.bz_attribute.specs.Texts.{shown_text}
use Rattle.bz_attribute.proofs.EditedRules.{rule_after, rule_with}
use Rattle.bz_attribute.proofs.Headed.{other_class}
use Rattle.bz_canonical.specs.Canonical.{HasName, rule_name}
use Rattle.bz_rule.specs.Commands.{Command, after, args_after, done_of}
use Rattle.bz_rule.specs.OneAttribute.{one_attribute}
use Rattle.bz_rule.proofs.HeadKept.{name_stays}
use Rattle.bz_passes.specs.Exchange.{Fits, IsPassedBy, Kept, kept_alone, kept_and, pass_alone, slot_after, slot_after_pass, some_alone, some_of_commands_alone}
use Rattle.bz_passes.specs.Asked.{IsKeyOf, asked_by}
use Rattle.bz_engine.proofs.Noted.{says_is}
use Rattle.bz_passes.specs.OnePass.{IsOnlyAt, IsOnlyFor, and_at}
use Rattle.bz_passes.specs.declared.index.Key.{Key}
use Rattle.bz_passes.specs.declared.entry.Entry.{Entry}
use Rattle.bz_passes.specs.declared.entry.Entry.TheVariants.{Line}
use Rattle.bz_passes.proofs.ExchangeLaw.{left_more}
use Rattle.bz_passes.proofs.OnePass.{fits_and, fits_at, only_marks}
use Rattle.bz_passes.proofs.PassedBy.{unmarked_passed}
use Rattle.bz_engine.specs.Language.{meaning}
use Rattle.bz_engine.specs.Failing.{changes, fails, fails_on, note_told}
use Rattle.bz_engine.specs.Outcome.{Run, Script, is_query}
use Rattle.bz_engine.specs.Progress.{Progress, last_class, text_following}
use Rattle.bz_engine.specs.declared.canonical.Found.{Found}
use Rattle.bz_engine.specs.declared.failure.Message.{Message}
use Rattle.bz_engine.specs.declared.rule_passes.OnePass.{OnePass}
use Rattle.bz_engine.specs.private.Edits.{IsLaidOut}
use Rattle.bz_engine.specs.private.Found.{AreMarkedAlike, HasLogAt, IsForOne, IsFound, IsFoundOn, Makes, Tells, log_of, one_log_of, one_pass, one_told, told_line}
use Rattle.bz_engine.specs.private.NextChunks.{EditsFound}
use Rattle.bz_engine.specs.private.Rows.{HasKey}

-- a rule that has this name
pub named_rule : (s : Statement) (name : List ℕ) → HasName (Some name) s → (r : Rule) × (rule_of s.nodes ≡ Some r) × (name_in r.args ≡ Some name)
named_rule s name is = by (rule_of s.nodes) refl is
  where
    by : (o : Option Rule) → rule_of s.nodes ≡ o → rule_name o ≡ Some name → (r : Rule) × (rule_of s.nodes ≡ Some r) × (name_in r.args ≡ Some name)
    by None at other = absurd cc
    by (Some r) at named = (r, at, named)

-- what is marked is a rule
pub marked_rule : (target : Target) (s : Statement) → marks target s ≡ true → (r : Rule) × (rule_of s.nodes ≡ Some r)
marked_rule target s met = by (rule_of s.nodes) refl met
  where
    by : (o : Option Rule) → rule_of s.nodes ≡ o → map_or false (marks_rule target s.start) o ≡ true → (r : Rule) × (rule_of s.nodes ≡ Some r)
    by None at met = absurd (false≢true met)
    by (Some r) at met = (r, at)

-- what is no rule is not marked
pub no_rule_passed : (home : Package) (passes : Script) (s : Statement) → s.class ≡ class_of s.nodes → (s.class ≡ RuleClass → ⊥)
    → IsPassedBy (meaning home) (changes home) (fails_on home) passes (Some s)
no_rule_passed home passes s class other =
    let none : rule_of s.nodes ≡ None = other_class s.nodes (λ is. other (class ∙ is)) in
    unmarked_passed (meaning home) (changes home) (fails_on home) passes (Some s) (λ i d within. ap (map_or false (marks_rule _ s.start)) none)

-- a place for the log of a pass that one statement is for, before and after
pub log_at : (home : Package) (kept : List (Kept Entry)) (passes : Script) (only : OnePass) (Is : Statement → Type 0) → IsForOne home passes only Is → Fits kept passes → HasLogAt kept only.at
log_at home kept passes only Is one fits = fits_at kept passes only.at (one_pass only) one.within one.is fits

pub log_fits : (home : Package) (kept : List (Kept Entry)) (passes : Script) (only : OnePass) (Is : Statement → Type 0) (log : List Entry) → IsForOne home passes only Is → Fits kept passes
    → Fits (and_at only.at (one_log_of log) kept) passes
log_fits home kept passes only Is log one fits = fits_and kept passes only.at (one_pass only) (one_log_of log) one.is refl fits

-- a rule whose name stays is marked alike
same_marked : (f : List Segment → List Segment) (start : ℕ) (target : Target) (rule : Option Rule) → ((args : List Segment) → name_in (f args) ≡ name_in args)
    → map_or false (marks_rule target start) (option_map (rule_with f) rule) ≡ map_or false (marks_rule target start) rule
same_marked f start target None same = refl
same_marked f start (Name name) (Some r) same = ap (is_text name) (same r.args)
same_marked f start Pkg (Some r) same = refl
same_marked f start All (Some r) same = refl
same_marked f start (Kind kind) (Some r) same = refl
same_marked f start (OnLine line) (Some r) same = refl

pub name_left : (f : List Segment → List Segment) (s : Statement) → ((args : List Segment) → name_in (f args) ≡ name_in args) → AreMarkedAlike s (with_args f s)
name_left f s same target = ap (map_or false (marks_rule target s.start)) (rule_after f s) ∙ same_marked f s.start target (rule_of s.nodes) same

-- a command that looks at one argument leaves the name, unless that is it
pub name_kept : (command : Command) (home : Package) (attr : List ℕ) (s : Statement) → one_attribute command ≡ Some attr → bytes_eq attr (codes "name") ≡ false → AreMarkedAlike s (with_args (args_after command home) s)
name_kept command home attr s one other = name_left (args_after command home) s (λ args. name_stays command home attr args one other)

-- what the pass makes of a statement that it marks, and what is kept of it
slot_of_one : (home : Package) (only : OnePass) (s : Statement) (t : Slot Statement) → marks only.target.now s ≡ true → after only.command.now home (Some s) ≡ t
    → slot_after_pass (meaning home) (one_pass only) (Some s) ≡ t
slot_of_one home only s t met is = ap (λ b. if b then after only.command.now home (Some s) else Some s) met ∙ is

-- the one pass that marks such statements
pub for_one : (home : Package) (passes : Script) (only : OnePass) (Is : Statement → Type 0) → only.at < length passes → one_pass only ≡ get_or passes only.at (one_pass only) → (only.at + 1 < length passes → only.last ≡ false)
    → ((s : Statement) → Is s → marks only.target.now s ≡ true)
    → ((s : Statement) → Is s → (i : ℕ) (d : Pass Target Command) → i < length passes → i ≢ only.at → marks (get_or passes i d).target s ≡ false) → IsForOne home passes only Is
for_one home passes only Is within is last marks_it others = record {
  within = within;
  is = is;
  marked = marks_it;
  alone = λ s t found made alike.
      only_marks (meaning home) (Some s) passes only.at (one_pass only) within is
      (λ i d before. others s found i d (omega (arith, before, within)) (λ same. absurd (omega (arith, before, same))))
      (λ i d after inside. ap (λ (slot : Slot Statement). (meaning home).marks (get_or passes i d).target slot) (slot_of_one home only s (Some t) (marks_it s found) made)
      ∙ alike (last (omega (arith, after, inside))) (get_or passes i d).target ∙ others s found i d inside (λ same. absurd (omega (arith, after, same))));
}

-- the same of other statements
pub for_those : (home : Package) (passes : Script) (only : OnePass) (Is Of : Statement → Type 0) → ((s : Statement) → Of s → Is s) → IsForOne home passes only Is → IsForOne home passes only Of
for_those home passes only Is Of all one = record { within = one.within; is = one.is; marked = λ s of. one.marked s (all s of); alone = λ s t of. one.alone s t (all s of) }

-- the one pass that may mark what has the key of the statement, and marks it
pub for_key : (home : Package) (passes : Script) (only : OnePass) (Is : Statement → Type 0) (key : Key) → IsOnlyFor (meaning home) asked_by passes key only.at → only.at < length passes
    → one_pass only ≡ get_or passes only.at (one_pass only) → (only.at + 1 < length passes → only.last ≡ false)
    → ((s : Statement) → Is s → HasKey s key) → ((s : Statement) → Is s → marks only.target.now s ≡ true) → IsForOne home passes only Is
for_key home passes only Is key law within is last keyed marks_it = record {
  within = within;
  is = is;
  marked = marks_it;
  alone = λ s t found made alike. law (Some s) (one_pass only) is (keyed s found)
      (λ later. subst (λ (slot : Slot Statement). IsKeyOf (meaning home) asked_by slot key) (sym (slot_of_one home only s (Some t) (marks_it s found) made))
      (λ target met. keyed s found target (sym (alike (last later) target) ∙ met)));
}

abbrev kept_by : Bool → List Entry → Kept Entry
kept_by found log = record { found = found; logs = log ∷ [] }

-- what is told of an execution
abbrev log_of_one : Package → Statement → Done → List Entry
log_of_one home s d = map Line (option_to_list d.line) ++ note_told (shown_text home s) d.note

quiet_log : (home : Package) (s : Statement) (d : Done) → d.note ≡ None → log_of_one home s d ≡ map Line (option_to_list d.line)
quiet_log home s d quiet = ap (λ n. map Line (option_to_list d.line) ++ note_told (shown_text home s) n) quiet ∙ append-nil (map Line (option_to_list d.line))

kept_of_one : (home : Package) (only : OnePass) (s : Statement) (d : Done) → marks only.target.now s ≡ true → done_of only.command.now home (Some s) ≡ d
    → pass_alone (meaning home) (one_pass only) (Some s) ≡ one_log_of (log_of_one home s d)
kept_of_one home only s d met told =
    ap (λ b. kept_by b (if b then (meaning home).says only.command.now (Some s) else [])) met
    ∙ ap (kept_by true) (sym (says_is home only.command.now (Some s))) ∙ ap (λ x. kept_by true (log_of_one home s x)) told

or_nothing : (b : Bool) → (b || false) ≡ b
or_nothing true = refl
or_nothing false = refl

some_of_one : (home : Package) (only : OnePass) (s : Statement) (test : Command → Slot Statement → Bool) (b : Bool) → marks only.target.now s ≡ true → test only.command.now (Some s) ≡ b
    → some_of_commands_alone (meaning home) test (only.command.now ∷ []) (marked (meaning home) only.target.now (Some s)) ≡ b
some_of_one home only s test b met is = ap (λ b. (if b then test only.command.now (Some s) else false) || false) met ∙ or_nothing (test only.command.now (Some s)) ∙ is

-- The script on a statement is this pass on it.
abbrev pub IsOnly : Run → OnePass → Statement → Type 0
IsOnly run only s = IsOnlyAt (meaning run.home) run.passes (Some s) only.at (one_pass only)

or_false : (b : Bool) → b ≡ (b || false)
or_false true = refl
or_false false = refl

-- Its command makes t of s, tells this of it, and t is written.
pub only_laid : (run : Run) (only : OnePass) (s t : Statement) (d : Done) (old new : Progress) (before after_it : List ℕ)
    → IsOnly run only s → Fits old.kept run.passes → marks only.target.now s ≡ true → after only.command.now run.home (Some s) ≡ Some t → done_of only.command.now run.home (Some s) ≡ d
    → (run.keep_going ≡ false → fails d.note ≡ false)
    → new ≡ record { kept = and_at only.at (one_log_of (log_of_one run.home s d)) old.kept; changed = old.changed || d.changed; failed = old.failed || fails d.note; last = Some t.class; line = old.line }
    → after_it ≡ before ++ (if is_query run.passes then [] else text_following old.last (Some t ∷ []))
    → IsLaidOut run s old new before after_it
only_laid run only s t d old new before after_it alone fits met made told quiet is text =
    let home = run.home in
    let slot : slot_after (meaning home) run.passes (Some s) ≡ Some t = alone.after ∙ slot_of_one home only s (Some t) met made in
    let kept : and_at only.at (one_log_of (log_of_one home s d)) old.kept ≡ kept_and old.kept (kept_alone (meaning home) run.passes (Some s)) =
    ap (λ k. and_at only.at k old.kept) (sym (kept_of_one home only s d met told)) ∙ sym (alone.kept old.kept fits) in
    let changed : some_alone (meaning home) (changes home) run.passes (Some s) ≡ d.changed =
    alone.some (changes home) ∙ some_of_one home only s (changes home) d.changed met (ap (λ x. x.changed) told) in
    let failed : some_alone (meaning home) (fails_on home) run.passes (Some s) ≡ fails d.note =
    alone.some (fails_on home) ∙ some_of_one home only s (fails_on home) (fails d.note) met (ap (λ x. fails x.note) told) in
    record {
      left = λ slots left. left_more (meaning home) (changes home) (fails_on home) run.passes slots (Some s) old.kept new.kept old.changed new.changed old.failed new.failed
          (ap (λ p. p.kept) is ∙ kept) (ap (λ p. p.changed) is ∙ ap (λ b. old.changed || b) (sym changed))
          (ap (λ p. p.failed) is ∙ ap (λ b. old.failed || b) (sym failed)) left;
      last = ap (λ p. p.last) is ∙ ap (λ x. last_class old.last (x ∷ [])) (sym slot);
      line = ap (λ p. p.line) is;
      text = text ∙ ap (λ x. before ++ (if is_query run.passes then [] else text_following old.last (x ∷ []))) (sym slot);
      none_fails = λ ends none_fails. ap (λ p. p.failed) is ∙ (λ i. none_fails i || quiet ends i);
    }

-- The one command leaves s as it is, and tells this line of it.
pub stays_laid : (run : Run) (only : OnePass) (line : Option (List ℕ)) (class : Class) (s : Statement) (old mid new : Progress) (before after_it : List ℕ)
    → IsOnly run only s → Fits old.kept run.passes → marks only.target.now s ≡ true → after only.command.now run.home (Some s) ≡ Some s
    → done_of only.command.now run.home (Some s) ≡ record { changed = false; line = line; note = None } → s.class ≡ class
    → mid ≡ record old { kept = and_at only.at (one_told line) old.kept } → new ≡ record mid { last = Some class }
    → after_it ≡ before ++ (if is_query run.passes then [] else text_following mid.last (Some s ∷ []))
    → IsLaidOut run s old new before after_it
stays_laid run only line class s old mid new before after_it alone fits met made told class_is kept is text =
    let d : Done = record { changed = false; line = line; note = None } in
    let log : log_of_one run.home s d ≡ map Line (option_to_list line) = quiet_log run.home s d refl in
    only_laid run only s s d old new before after_it alone fits met made told (λ ends. refl)
    (is ∙ ap (λ (p : Progress). record p { last = Some class }) kept
    ∙ (λ i. record { kept = and_at only.at (one_log_of (sym log i)) old.kept; changed = or_false old.changed i; failed = or_false old.failed i; last = Some (sym class_is i); line = old.line }))
    (text ∙ ap (λ (p : Progress). before ++ (if is_query run.passes then [] else text_following p.last (Some s ∷ []))) kept)

or_true : (b : Bool) → true ≡ (b || true)
or_true true = refl
or_true false = refl

-- The one command makes t of s.
pub grown_laid : (run : Run) (only : OnePass) (class : Class) (s t : Statement) (old mid new : Progress) (before after_it : List ℕ)
    → IsOnly run only s → Fits old.kept run.passes → marks only.target.now s ≡ true → Makes only.command.now run.home s t (told_line true None) → t.class ≡ class
    → mid ≡ record old { kept = and_at only.at (one_told None) old.kept } → new ≡ record mid { last = Some class; changed = true }
    → after_it ≡ before ++ (if is_query run.passes then [] else text_following mid.last (Some t ∷ []))
    → IsLaidOut run s old new before after_it
grown_laid run only class s t old mid new before after_it alone fits met makes class_is kept is text =
    only_laid run only s t (told_line true None) old new before after_it alone fits met makes.after_is makes.done (λ ends. refl)
    (is ∙ ap (λ (p : Progress). record p { last = Some class; changed = true }) kept
    ∙ (λ i. record { kept = and_at only.at (one_told None) old.kept; changed = or_true old.changed i; failed = or_false old.failed i; last = Some (sym class_is i); line = old.line }))
    (text ∙ ap (λ (p : Progress). before ++ (if is_query run.passes then [] else text_following p.last (Some t ∷ []))) kept)

-- The one command leaves s as it is, tells this message of it, and the run goes on.
pub told_laid : (run : Run) (only : OnePass) (message : Message) (class : Class) (s : Statement) (old mid new : Progress) (before after_it : List ℕ)
    → IsOnly run only s → Fits old.kept run.passes → (message.fails ≡ true → run.keep_going ≡ true) → marks only.target.now s ≡ true
    → Tells only.command.now run.home s (option_map (λ line. line.now) message.line) message.told message.fails → s.class ≡ class
    → mid ≡ record old { kept = and_at only.at (one_log_of (log_of message)) old.kept; failed = old.failed || message.fails } → new ≡ record mid { last = Some class }
    → after_it ≡ before ++ (if is_query run.passes then [] else text_following mid.last (Some s ∷ []))
    → IsLaidOut run s old new before after_it
told_laid run only message class s old mid new before after_it alone fits goes_on met tells class_is kept is text =
    let line : Option (List ℕ) = option_map (λ line. line.now) message.line in
    let d : Done = record { changed = false; line = line; note = Some tells.note } in
    only_laid run only s s d old new before after_it alone fits met tells.made.after_is tells.made.done (λ ends. tells.failed ∙ none_fails message.fails goes_on ends)
    (is ∙ ap (λ (p : Progress). record p { last = Some class }) kept
    ∙ (λ i. record { kept = and_at only.at (one_log_of (map Line (option_to_list line) ++ sym tells.told i)) old.kept; changed = or_false old.changed i; failed = old.failed || sym tells.failed i; last = Some (sym class_is i); line = old.line }))
    (text ∙ ap (λ (p : Progress). before ++ (if is_query run.passes then [] else text_following p.last (Some s ∷ []))) kept)
  where
    none_fails : (b : Bool) → (b ≡ true → run.keep_going ≡ true) → run.keep_going ≡ false → b ≡ false
    none_fails true goes_on ends = absurd (false≢true (sym ends ∙ goes_on refl))
    none_fails false goes_on ends = refl

-- the same of what is kept before and after
pub laid_as : (run : Run) (s : Statement) (old start end new : Progress) (before after_it : List ℕ) → start ≡ old → new ≡ end → IsLaidOut run s start end before after_it
    → IsLaidOut run s old new before after_it
laid_as run s old start end new before after_it begun ended laid =
    subst (λ (p : Progress). IsLaidOut run s old p before after_it) (sym ended) (subst (λ (p : Progress). IsLaidOut run s p end before after_it) begun laid)

-- The script on the statement of a chunk that was found is done.
pub is_done_on : (run : Run) (found : Found) (old new : Progress) (before after : List ℕ)
    → Fits new.kept run.passes → new.line ≡ old.line → ((s : Statement) → IsFoundOn run.max_depth old.line found s → IsLaidOut run s old new before after)
    → EditsFound run found old new before after true
is_done_on run found old new before after fits line laid =
    record { fits = fits; line = line; edited = λ done. laid; nothing = λ other. absurd (false≢true (sym other)) }

-- the same, on whatever line it begins
pub is_done : (run : Run) (found : Found) (old new : Progress) (before after : List ℕ)
    → Fits new.kept run.passes → new.line ≡ old.line → ((s : Statement) → IsFound run.max_depth found s → IsLaidOut run s old new before after)
    → EditsFound run found old new before after true
is_done run found old new before after fits line laid = is_done_on run found old new before after fits line (λ s is. laid s is.is)

-- what two clauses of a call say, where its `Result` is returned as it is
pub on_ok_both : {T E P Q R : Type 0} (r : Result T E) → (P → Q → R) → OnOk r P → OnOk r Q → OnOk r R
on_ok_both (Ok x) both p q = both p q
on_ok_both (Err e) both p q = tt
