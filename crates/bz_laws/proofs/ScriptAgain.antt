-- A repeatable script finds nothing to do in what it left.
use Rattle.std.proofs.Common.{◌≡◌, ℕ, List, [], ◌∷◌, ◌++◌, map, Bool, true, false, ◌||◌, ◌&&◌, refl, sym, ap, ◌∙◌, subst}
use Rattle.std.specs.Prelude.{Option, None, Some, if◌then◌else◌, bytes_eq}
use Rattle.std.specs.List.{AllByRecursion, list_all, list_any}
use Rattle.std.proofs.lemmas.Bool.{and_from, and_parts, false≢true, or_parts}
use Rattle.std.proofs.lemmas.Slice.Eq.{bytes_eq-Decides}
use Rattle.bz_tree.specs.Tree.{Statement}
use Rattle.bz_label.specs.Labels.{Package, Target, Name}
use Rattle.bz_passes.specs.Passes.{Slot, Pass, marked, executed, slots_after_pass}
use Rattle.bz_passes.specs.Exchange.{slot_after_commands, slot_after_pass, slot_after, some_of_commands_alone, some_alone, with_mark, some_missing, is_missing}
use Rattle.bz_passes.proofs.ExchangeLaw.{pass_alone, some_alone_lem}
use Rattle.bz_attribute.specs.Marks.{marks, marks_rule}
use Rattle.bz_attribute.specs.Rules.{Rule, is_text, name_in, rule_of}
use Rattle.bz_label.specs.declared.arguments.Attributes.{Attributes}
use Rattle.bz_label.specs.declared.arguments.Attributes.TheVariants.{Every, Named}
use Rattle.bz_rule.specs.Commands.{Command, after, is_command}
use Rattle.bz_rule.proofs.Lawfulness.{lawful}
use Rattle.bz_laws.specs.Again.{AreCalm, AreOnce, AreSettled, IsOnce, IsSettled, after_all, are_all_apart, are_apart, is_steady, looks_past, subject}
use Rattle.bz_laws.specs.Unmentioned.{arguments_of}
use Rattle.bz_laws.proofs.CommandsAgain.{FindsNothing as SecondTime, all_find_nothing, steady_leaves}
use Rattle.bz_laws.proofs.MarksStay.{marks_stay}
use Rattle.bz_engine.specs.Scripts.{AreCommands}
use Rattle.bz_engine.proofs.ChangesLaw.{changes_tell}
use Rattle.bz_engine.proofs.Failures.{failure_each}
use Rattle.bz_engine.specs.Language.{meaning}
use Rattle.bz_engine.specs.Failing.{changes, fails_on}
use Rattle.bz_engine.specs.Outcome.{Script, left_in, slots_of, some_failure}
use Rattle.bz_laws.specs.Repeatable.{FindsNothing, HasNamesOnce, are_passes_apart, are_two_apart, each_apart, is_looked_past, is_repeatable, may_meet}
use Rattle.bz_laws.specs.Written.{left_by}
use Rattle.bz_laws.proofs.Unmarked.{left_alone, unmarked_commands}
use Rattle.bz_token.specs.Common.{map_or}

-- lists

all_joined : {X : Type 0} (p : X → Bool) (xs ys : List X) → list_all p xs ≡ true → list_all p ys ≡ true → list_all p (xs ++ ys) ≡ true
all_joined p [] ys h k = k
all_joined p (x ∷ xs) ys h k = let a = and_parts (p x) (list_all p xs) h in and_from (p x) (list_all p (xs ++ ys)) a.0 (all_joined p xs ys a.1 k)

-- the commands that are done on a statement, where its marks stay
abbrev pub done_if : Bool → List Command → List Command
done_if mark cs = if mark then cs else []

abbrev pub commands_for : Statement → Script → List Command
commands_for s [] = []
commands_for s (p ∷ ps) = done_if (marks p.target s) p.commands ++ commands_for s ps

pub all_for : (test : Command → Bool) (s : Statement) (ps : Script) → list_all (λ p. list_all test p.commands) ps ≡ true → list_all test (commands_for s ps) ≡ true
all_for test s [] h = refl
all_for test s (p ∷ ps) h =
    let a = and_parts (list_all test p.commands) (list_all (λ q. list_all test q.commands) ps) h in
    all_joined test (done_if (marks p.target s) p.commands) (commands_for s ps) (by (marks p.target s) a.0) (all_for test s ps a.1)
  where
    by : (b : Bool) → list_all test p.commands ≡ true → list_all test (done_if b p.commands) ≡ true
    by true k = k
    by false k = refl

-- they are apart

both_of : (c : Command) (cs ds : List Command) → each_apart (c ∷ cs) ds ≡ true → (list_all (are_apart c) ds ≡ true) × (each_apart cs ds ≡ true)
both_of c cs [] h = (refl, refl)
both_of c cs (d ∷ ds) h =
    let a = and_parts (are_apart c d && list_all (λ e. are_apart e d) cs) (each_apart (c ∷ cs) ds) h in
    let b = and_parts (are_apart c d) (list_all (λ e. are_apart e d) cs) a.0 in
    let r = both_of c cs ds a.1 in
    (and_from (are_apart c d) (list_all (are_apart c) ds) b.0 r.0, and_from (list_all (λ e. are_apart e d) cs) (each_apart cs ds) b.1 r.1)

apart_joined : (cs ds : List Command) → are_all_apart cs ≡ true → each_apart cs ds ≡ true → are_all_apart ds ≡ true → are_all_apart (cs ++ ds) ≡ true
apart_joined [] ds h each k = k
apart_joined (c ∷ cs) ds h each k =
    let a = and_parts (list_all (are_apart c) cs) (are_all_apart cs) h in
    let b = both_of c cs ds each in
    and_from (list_all (are_apart c) (cs ++ ds)) (are_all_apart (cs ++ ds)) (all_joined (are_apart c) cs ds a.0 b.0) (apart_joined cs ds a.1 b.1 k)

-- targets that mark one statement
same_text : (a b : List ℕ) (o : Option (List ℕ)) → is_text a o ≡ true → is_text b o ≡ true → bytes_eq a b ≡ true
same_text a b None h k = absurd (false≢true h)
same_text a b (Some text) h k = (bytes_eq-Decides a b).1 ((bytes_eq-Decides a text).0 h ∙ sym ((bytes_eq-Decides b text).0 k))

names_meet : (a b : List ℕ) (start : ℕ) (o : Option Rule) → map_or false (marks_rule (Name a) start) o ≡ true → map_or false (marks_rule (Name b) start) o ≡ true → bytes_eq a b ≡ true
names_meet a b start None h k = absurd (false≢true h)
names_meet a b start (Some r) h k = same_text a b (name_in r.args) h k

meet : (t u : Target) (s : Statement) → marks t s ≡ true → marks u s ≡ true → may_meet t u ≡ true
meet (Name a) (Name b) s h k = names_meet a b s.start (rule_of s.nodes) h k
meet (Name a) _ s h k = refl
meet _ _ s h k = refl

two_apart : (p q : Pass Target Command) → may_meet p.target q.target ≡ true → are_two_apart p q ≡ true → each_apart p.commands q.commands ≡ true
two_apart p q m h = by (may_meet p.target q.target) m h
  where
    by : (b : Bool) → b ≡ true → (if b then each_apart p.commands q.commands else true) ≡ true → each_apart p.commands q.commands ≡ true
    by true m h = h
    by false m h = absurd (false≢true m)

apart_from : (p : Pass Target Command) (s : Statement) → marks p.target s ≡ true → (ps : Script) → list_all (are_two_apart p) ps ≡ true → each_apart p.commands (commands_for s ps) ≡ true
apart_from p s mark [] h = refl
apart_from p s mark (q ∷ ps) h =
    let a = and_parts (are_two_apart p q) (list_all (are_two_apart p) ps) h in
    let here : each_apart p.commands (done_if (marks q.target s) q.commands) ≡ true = elim (marks q.target s) as (λ b. marks q.target s ≡ b → each_apart p.commands (done_if b q.commands) ≡ true) [
      | true ↦ λ e. two_apart p q (meet p.target q.target s mark e) a.0
      | false ↦ λ e. refl
    ] refl in
    all_joined (λ d. list_all (λ c. are_apart c d) p.commands) (done_if (marks q.target s) q.commands) (commands_for s ps) here (apart_from p s mark ps a.1)

apart_for : (s : Statement) (ps : Script) → are_passes_apart ps ≡ true → are_all_apart (commands_for s ps) ≡ true
apart_for s [] h = refl
apart_for s (p ∷ ps) h =
    let a = and_parts (are_all_apart p.commands) (list_all (are_two_apart p) ps && are_passes_apart ps) h in
    let b = and_parts (list_all (are_two_apart p) ps) (are_passes_apart ps) a.1 in
    elim (marks p.target s) as (λ m. marks p.target s ≡ m → are_all_apart (done_if m p.commands ++ commands_for s ps) ≡ true) [
      | true ↦ λ e. apart_joined p.commands (commands_for s ps) a.0 (apart_from p s e ps b.0) (apart_for s ps b.1)
      | false ↦ λ e. apart_for s ps b.1
    ] refl

-- a script on a statement is these commands, one after another

after_both : (cs ds : List Command) (home : Package) (slot : Slot Statement) → after_all (cs ++ ds) home slot ≡ after_all ds home (after_all cs home slot)
after_both [] ds home slot = refl
after_both (c ∷ cs) ds home slot = after_both cs ds home (after c home slot)

marked_commands : (home : Package) (cs : List Command) (slot : Slot Statement) → (slot_after_commands (meaning home) cs (with_mark true slot)).slot ≡ after_all cs home slot
marked_commands home [] slot = refl
marked_commands home (c ∷ cs) slot = marked_commands home cs (after c home slot)

pass_on : (home : Package) (p : Pass Target Command) (s : Statement) → slot_after_pass (meaning home) p (Some s) ≡ after_all (done_if (marks p.target s) p.commands) home (Some s)
pass_on home p s = by (marks p.target s)
  where
    by : (b : Bool) → (slot_after_commands (meaning home) p.commands (with_mark b (Some s))).slot ≡ after_all (done_if b p.commands) home (Some s)
    by true = marked_commands home p.commands (Some s)
    by false = ap (λ x. x.slot) (unmarked_commands home p.commands (Some s))

-- steady commands leave a statement with the marks of targets that look past them
pub record LeavesMarks (home : Package) (cs : List Command) (ps : Script) (s : Statement) : Type 0 where
  pub left : Statement
  pub is : after_all cs home (Some s) ≡ Some left
  pub marks_are : AllByRecursion (λ (p : Pass Target Command). marks p.target left ≡ marks p.target s) ps

one_marks : (c : Command) (home : Package) (s t : Statement) → is_steady c ≡ true → after c home (Some s) ≡ Some t → (ps : Script) → list_all (λ (p : Pass Target Command). looks_past p.target c) ps ≡ true
    → AllByRecursion (λ (p : Pass Target Command). marks p.target t ≡ marks p.target s) ps
one_marks c home s t steady h [] past = tt
one_marks c home s t steady h (p ∷ ps) past =
    let a = and_parts (looks_past p.target c) (list_all (λ (q : Pass Target Command). looks_past q.target c) ps) past in
    (marks_stay p.target c home s t steady a.0 h, one_marks c home s t steady h ps a.1)

pub marks_joined : (ps : Script) (s t u : Statement) → AllByRecursion (λ (p : Pass Target Command). marks p.target u ≡ marks p.target t) ps → AllByRecursion (λ (p : Pass Target Command). marks p.target t ≡ marks p.target s) ps
    → AllByRecursion (λ (p : Pass Target Command). marks p.target u ≡ marks p.target s) ps
marks_joined [] s t u h k = tt
marks_joined (p ∷ ps) s t u h k = (h.0 ∙ k.0, marks_joined ps s t u h.1 k.1)

same_marks : (ps : Script) (s : Statement) → AllByRecursion (λ (p : Pass Target Command). marks p.target s ≡ marks p.target s) ps
same_marks [] s = tt
same_marks (p ∷ ps) s = (refl, same_marks ps s)

-- first of some commands, for each target
first_past : (c : Command) (cs : List Command) (ps : Script) → list_all (λ (p : Pass Target Command). list_all (looks_past p.target) (c ∷ cs)) ps ≡ true
    → (list_all (λ (p : Pass Target Command). looks_past p.target c) ps ≡ true) × (list_all (λ (p : Pass Target Command). list_all (looks_past p.target) cs) ps ≡ true)
first_past c cs [] h = (refl, refl)
first_past c cs (p ∷ ps) h =
    let a = and_parts (list_all (looks_past p.target) (c ∷ cs)) (list_all (λ (q : Pass Target Command). list_all (looks_past q.target) (c ∷ cs)) ps) h in
    let b = and_parts (looks_past p.target c) (list_all (looks_past p.target) cs) a.0 in
    let r = first_past c cs ps a.1 in
    (and_from _ _ b.0 r.0, and_from _ _ b.1 r.1)

leaves_marks : (home : Package) (cs : List Command) (ps : Script) (s : Statement) → list_all is_steady cs ≡ true → list_all (λ (p : Pass Target Command). list_all (looks_past p.target) cs) ps ≡ true → LeavesMarks home cs ps s
leaves_marks home [] ps s steady past = record { left = s; is = refl; marks_are = same_marks ps s }
leaves_marks home (c ∷ cs) ps s steady past =
    let k = and_parts (is_steady c) (list_all is_steady cs) steady in
    let f = first_past c cs ps past in
    let next = steady_leaves c home s k.0 in
    let rest = leaves_marks home cs ps next.0 k.1 f.1 in
    record {
      left = rest.left;
      is = ap (after_all cs home) next.1 ∙ rest.is;
      marks_are = marks_joined ps s next.0 rest.left rest.marks_are (one_marks c home s next.0 k.0 next.1 ps f.0);
    }

pub same_commands : (ps : Script) (s t : Statement) → AllByRecursion (λ (p : Pass Target Command). marks p.target t ≡ marks p.target s) ps → commands_for t ps ≡ commands_for s ps
same_commands [] s t h = refl
same_commands (p ∷ ps) s t h = ap (λ b. done_if b p.commands ++ commands_for t ps) h.0 ∙ ap (λ cs. done_if (marks p.target s) p.commands ++ cs) (same_commands ps s t h.1)

-- what is left of the premise on targets for the passes after the first
past_rest : (p : Pass Target Command) (ps qs : Script) → list_all (λ q. is_looked_past (p ∷ ps) q.target) qs ≡ true
    → (list_all (λ (q : Pass Target Command). list_all (looks_past q.target) p.commands) qs ≡ true) × (list_all (λ q. is_looked_past ps q.target) qs ≡ true)
past_rest p ps [] h = (refl, refl)
past_rest p ps (q ∷ qs) h =
    let a = and_parts (is_looked_past (p ∷ ps) q.target) (list_all (λ r. is_looked_past (p ∷ ps) r.target) qs) h in
    let b = and_parts (list_all (looks_past q.target) p.commands) (is_looked_past ps q.target) a.0 in
    let r = past_rest p ps qs a.1 in
    (and_from _ _ b.0 r.0, and_from _ _ b.1 r.1)

none_past : (qs : Script) → list_all (λ (q : Pass Target Command). list_all (looks_past q.target) []) qs ≡ true
none_past [] = refl
none_past (q ∷ qs) = none_past qs

-- one pass
after_pass : (home : Package) (p : Pass Target Command) (ps : Script) (s : Statement) → list_all is_steady p.commands ≡ true → list_all (λ (q : Pass Target Command). list_all (looks_past q.target) p.commands) ps ≡ true
    → LeavesMarks home (done_if (marks p.target s) p.commands) ps s
after_pass home p ps s steady past = by (marks p.target s)
  where
    by : (b : Bool) → LeavesMarks home (done_if b p.commands) ps s
    by true = leaves_marks home p.commands ps s steady past
    by false = leaves_marks home [] ps s refl (none_past ps)

-- the premises on some passes
pub record IsSteadyScript (ps : Script) : Type 0 where
  pub steady : list_all (λ p. list_all is_steady p.commands) ps ≡ true
  pub past : list_all (λ p. is_looked_past ps p.target) ps ≡ true

later : (p : Pass Target Command) (ps : Script) → IsSteadyScript (p ∷ ps) → IsSteadyScript ps
later p ps is = record {
  steady = (and_parts (list_all is_steady p.commands) _ is.steady).1;
  past = (past_rest p ps ps (and_parts (is_looked_past (p ∷ ps) p.target) _ is.past).1).1;
}

first_pass : (home : Package) (p : Pass Target Command) (ps : Script) (s : Statement) → IsSteadyScript (p ∷ ps) → LeavesMarks home (done_if (marks p.target s) p.commands) ps s
first_pass home p ps s is = after_pass home p ps s (and_parts (list_all is_steady p.commands) _ is.steady).0 (past_rest p ps ps (and_parts (is_looked_past (p ∷ ps) p.target) _ is.past).1).0

script_on : (home : Package) (ps : Script) (s : Statement) → IsSteadyScript ps → slot_after (meaning home) ps (Some s) ≡ after_all (commands_for s ps) home (Some s)
script_on home [] s is = refl
script_on home (p ∷ ps) s is =
    let cs = done_if (marks p.target s) p.commands in
    let l = first_pass home p ps s is in
    ap (slot_after (meaning home) ps) (pass_on home p s ∙ l.is)
    ∙ script_on home ps l.left (later p ps is)
    ∙ ap (λ ds. after_all ds home (Some l.left)) (same_commands ps s l.left l.marks_are)
    ∙ ap (after_all (commands_for s ps) home) (sym l.is)
    ∙ sym (after_both cs (commands_for s ps) home (Some s))

-- no command fails on it

calm_both : (cs ds : List Command) (home : Package) (slot : Slot Statement) → AreCalm cs home slot → AreCalm ds home (after_all cs home slot) → AreCalm (cs ++ ds) home slot
calm_both [] ds home slot h k = k
calm_both (c ∷ cs) ds home slot h k = (h.0, calm_both cs ds home (after c home slot) h.1 k)

calm_commands : (home : Package) (cs : List Command) (slot : Slot Statement) → some_of_commands_alone (meaning home) (fails_on home) cs (with_mark true slot) ≡ false → AreCalm cs home slot
calm_commands home [] slot h = tt
calm_commands home (c ∷ cs) slot h =
    let a = or_parts (fails_on home c slot) (some_of_commands_alone (meaning home) (fails_on home) cs (executed (meaning home) c (with_mark true slot))) h in
    (a.0, calm_commands home cs (after c home slot) a.1)

calm_for : (home : Package) (ps : Script) (s : Statement) → IsSteadyScript ps → some_alone (meaning home) (fails_on home) ps (Some s) ≡ false → AreCalm (commands_for s ps) home (Some s)
calm_for home [] s is h = tt
calm_for home (p ∷ ps) s is h =
    let a = or_parts (some_of_commands_alone (meaning home) (fails_on home) p.commands (marked (meaning home) p.target (Some s))) (some_alone (meaning home) (fails_on home) ps (slot_after_pass (meaning home) p (Some s))) h in
    let cs = done_if (marks p.target s) p.commands in
    let l = first_pass home p ps s is in
    let rest : AreCalm (commands_for l.left ps) home (Some l.left) =
    calm_for home ps l.left (later p ps is) (ap (some_alone (meaning home) (fails_on home) ps) (sym (pass_on home p s ∙ l.is)) ∙ a.1) in
    calm_both cs (commands_for s ps) home (Some s) (by (marks p.target s) a.0)
    (subst (AreCalm (commands_for s ps) home) (sym l.is) (subst (λ ds. AreCalm ds home (Some l.left)) (same_commands ps s l.left l.marks_are) rest))
  where
    by : (b : Bool) → some_of_commands_alone (meaning home) (fails_on home) p.commands (with_mark b (Some s)) ≡ false → AreCalm (done_if b p.commands) home (Some s)
    by true k = calm_commands home p.commands (Some s) k
    by false k = tt

once_for : (s : Statement) → HasNamesOnce s → (cs : List Command) → AreOnce cs s
once_for s names [] = tt
once_for s names (c ∷ cs) = (by (subject c), once_for s names cs)
  where
    by : (x : Option Attributes) → IsOnce x (arguments_of s)
    by None = tt
    by (Some Every) = tt
    by (Some (Named attr)) = names attr

-- Where a script leaves a statement, each of its commands for it finds nothing to do.
abbrev pub IsAtRest : Package → Script → Statement → Type 0
IsAtRest home ps s = AreSettled (commands_for s ps) home s

pub record Rests (home : Package) (ps : Script) (s : Statement) : Type 0 where
  pub left : Statement
  pub is : slot_after (meaning home) ps (Some s) ≡ Some left
  pub at_rest : IsAtRest home ps left
  pub marks_are : AllByRecursion (λ (p : Pass Target Command). marks p.target left ≡ marks p.target s) ps

-- the marks after a whole script
marks_for : (home : Package) (qs ps : Script) (s : Statement) → IsSteadyScript ps → list_all (λ (q : Pass Target Command). is_looked_past ps q.target) qs ≡ true → LeavesMarks home (commands_for s ps) qs s
marks_for home qs ps s is past = leaves_marks home (commands_for s ps) qs s (all_for is_steady s ps is.steady) (each qs past)
  where
    each : (rs : Script) → list_all (λ (q : Pass Target Command). is_looked_past ps q.target) rs ≡ true → list_all (λ (q : Pass Target Command). list_all (looks_past q.target) (commands_for s ps)) rs ≡ true
    each [] h = refl
    each (r ∷ rs) h =
        let a = and_parts (is_looked_past ps r.target) (list_all (λ (q : Pass Target Command). is_looked_past ps q.target) rs) h in
        and_from _ _ (all_for (looks_past r.target) s ps a.0) (each rs a.1)

some_same : {X : Type 0} {x y : X} → Some x ≡ Some y → x ≡ y
some_same h = cc

rests : SecondTime → (home : Package) (ps : Script) (s : Statement) → AreCommands ps → is_repeatable ps ≡ true → HasNamesOnce s → some_alone (meaning home) (fails_on home) ps (Some s) ≡ false → Rests home ps s
rests law home ps s read repeatable names none_fails =
    let a = and_parts (list_all (λ p. list_all is_steady p.commands) ps) _ repeatable in
    let b = and_parts (list_all (λ p. is_looked_past ps p.target) ps) (are_passes_apart ps) a.1 in
    let is : IsSteadyScript ps = record { steady = a.0; past = b.0 } in
    let cs = commands_for s ps in
    let l = marks_for home ps ps s is b.0 in
    let done = all_find_nothing law cs home s (all_for is_command s ps read) (all_for is_steady s ps a.0) (apart_for s ps b.1) (once_for s names cs) (calm_for home ps s is none_fails) in
    let same : done.0 ≡ l.left = some_same (sym done.1 ∙ l.is) in
    record {
      left = l.left;
      is = script_on home ps s is ∙ l.is;
      at_rest = subst (λ ds. AreSettled ds home l.left) (sym (same_commands ps s l.left l.marks_are)) (subst (AreSettled cs home) same done.2);
      marks_are = l.marks_are;
    }

-- at rest a script does nothing

settled_parts : (cs ds : List Command) (home : Package) (s : Statement) → AreSettled (cs ++ ds) home s → AreSettled cs home s × AreSettled ds home s
settled_parts [] ds home s h = (tt, h)
settled_parts (c ∷ cs) ds home s h = let r = settled_parts cs ds home s h.1 in ((h.0, r.0), r.1)

stays : (c : Command) (home : Package) (s : Statement) → IsSettled c home (Some s) → after c home (Some s) ≡ Some s
stays c home s h = (lawful c home).stays (Some s) h.unchanged

all_stay : (cs : List Command) (home : Package) (s : Statement) → AreSettled cs home s → after_all cs home (Some s) ≡ Some s
all_stay [] home s h = refl
all_stay (c ∷ cs) home s h = ap (after_all cs home) (stays c home s h.0) ∙ all_stay cs home s h.1

pass_stays : (home : Package) (p : Pass Target Command) (s : Statement) → AreSettled (done_if (marks p.target s) p.commands) home s → slot_after_pass (meaning home) p (Some s) ≡ Some s
pass_stays home p s h = pass_on home p s ∙ all_stay (done_if (marks p.target s) p.commands) home s h

pub rest_stays : (home : Package) (ps : Script) (s : Statement) → IsAtRest home ps s → slot_after (meaning home) ps (Some s) ≡ Some s
rest_stays home [] s h = refl
rest_stays home (p ∷ ps) s h =
    let a = settled_parts (done_if (marks p.target s) p.commands) (commands_for s ps) home s h in
    ap (slot_after (meaning home) ps) (pass_stays home p s a.0) ∙ rest_stays home ps s a.1

-- a test that no settled command meets
abbrev Misses : Package → (Command → Slot Statement → Bool) → Type 0
Misses home test = (c : Command) (s : Statement) → IsSettled c home (Some s) → test c (Some s) ≡ false

miss_commands : (home : Package) (test : Command → Slot Statement → Bool) → Misses home test → (cs : List Command) (s : Statement) → AreSettled cs home s → some_of_commands_alone (meaning home) test cs (with_mark true (Some s)) ≡ false
miss_commands home test miss [] s h = refl
miss_commands home test miss (c ∷ cs) s h =
    rw (miss c s h.0) (ap (λ slot. some_of_commands_alone (meaning home) test cs (with_mark true slot)) (stays c home s h.0) ∙ miss_commands home test miss cs s h.1)

miss_unmarked : (home : Package) (test : Command → Slot Statement → Bool) (cs : List Command) (slot : Slot Statement) → some_of_commands_alone (meaning home) test cs (with_mark false slot) ≡ false
miss_unmarked home test [] slot = refl
miss_unmarked home test (c ∷ cs) slot = miss_unmarked home test cs slot

miss_all : (home : Package) (test : Command → Slot Statement → Bool) → Misses home test → (ps : Script) (s : Statement) → IsAtRest home ps s → some_alone (meaning home) test ps (Some s) ≡ false
miss_all home test miss [] s h = refl
miss_all home test miss (p ∷ ps) s h =
    let a = settled_parts (done_if (marks p.target s) p.commands) (commands_for s ps) home s h in
    rw (by (marks p.target s) a.0) (ap (some_alone (meaning home) test ps) (pass_stays home p s a.0) ∙ miss_all home test miss ps s a.1)
  where
    by : (b : Bool) → AreSettled (done_if b p.commands) home s → some_of_commands_alone (meaning home) test p.commands (with_mark b (Some s)) ≡ false
    by true k = miss_commands home test miss p.commands s k
    by false k = miss_unmarked home test p.commands (Some s)

-- over all statements

none_of_all : (home : Package) (test : Command → Slot Statement → Bool) → Misses home test → (ps : Script) (ss : List Statement) → AllByRecursion (IsAtRest home ps) ss → list_any (some_alone (meaning home) test ps) (slots_of ss) ≡ false
none_of_all home test miss ps [] h = refl
none_of_all home test miss ps (s ∷ ss) h = rw (miss_all home test miss ps s h.0) (none_of_all home test miss ps ss h.1)

all_left : (home : Package) (ps : Script) (ss : List Statement) → AllByRecursion (IsAtRest home ps) ss → left_in (map (slot_after (meaning home) ps) (slots_of ss)) ≡ ss
all_left home ps [] h = refl
all_left home ps (s ∷ ss) h = ap (λ slot. left_in (slot ∷ map (slot_after (meaning home) ps) (slots_of ss))) (rest_stays home ps s h.0) ∙ ap (λ rest. s ∷ rest) (all_left home ps ss h.1)

-- whether targets are missing, where marks stay
abbrev still : Package → Script → List Statement → Bool
still home [] ss = false
still home (p ∷ ps) ss = is_missing (meaning home) p.target (list_any (marks p.target) ss) || still home ps ss

any_slots : (home : Package) (target : Target) (ss : List Statement) → list_any (λ x0. map_or false (marks target) x0) (slots_of ss) ≡ list_any (marks target) ss
any_slots home target [] = refl
any_slots home target (s ∷ ss) = ap (λ b. marks target s || b) (any_slots home target ss)

-- statements of which each is marked as another
abbrev pub AreAlike : Script → List Statement → List Statement → Type 0
AreAlike ps [] [] = Unit {0}
AreAlike ps [] (s ∷ ss) = ⊥
AreAlike ps (t ∷ ts) [] = ⊥
AreAlike ps (t ∷ ts) (s ∷ ss) = AllByRecursion (λ (p : Pass Target Command). marks p.target t ≡ marks p.target s) ps × AreAlike ps ts ss

any_alike : (p : Pass Target Command) (ps : Script) (ts ss : List Statement) → AreAlike (p ∷ ps) ts ss → list_any (marks p.target) ts ≡ list_any (marks p.target) ss
any_alike p ps [] [] h = refl
any_alike p ps [] (s ∷ ss) h = absurd h
any_alike p ps (t ∷ ts) [] h = absurd h
any_alike p ps (t ∷ ts) (s ∷ ss) h = rw (h.0.0, any_alike p ps ts ss h.1) refl

alike_rest : (p : Pass Target Command) (ps : Script) (ts ss : List Statement) → AreAlike (p ∷ ps) ts ss → AreAlike ps ts ss
alike_rest p ps [] [] h = tt
alike_rest p ps [] (s ∷ ss) h = absurd h
alike_rest p ps (t ∷ ts) [] h = absurd h
alike_rest p ps (t ∷ ts) (s ∷ ss) h = (h.0.1, alike_rest p ps ts ss h.1)

still_alike : (home : Package) (ps : Script) (ts ss : List Statement) → AreAlike ps ts ss → still home ps ts ≡ still home ps ss
still_alike home [] ts ss h = refl
still_alike home (p ∷ ps) ts ss h = rw (any_alike p ps ts ss h, still_alike home ps ts ss (alike_rest p ps ts ss h)) refl

missing_of : (home : Package) (p : Pass Target Command) (ps : Script) (ss ts : List Statement) → slots_after_pass (meaning home) p (slots_of ss) ≡ slots_of ts → some_missing (meaning home) ps (slots_of ts) ≡ still home ps ts
    → still home ps ts ≡ still home ps ss → some_missing (meaning home) (p ∷ ps) (slots_of ss) ≡ still home (p ∷ ps) ss
missing_of home p ps ss ts passed later same =
    ap (λ b. is_missing (meaning home) p.target b || some_missing (meaning home) ps (slots_after_pass (meaning home) p (slots_of ss))) (any_slots home p.target ss)
    ∙ ap (λ slots. is_missing (meaning home) p.target (list_any (marks p.target) ss) || some_missing (meaning home) ps slots) passed
    ∙ ap (λ b. is_missing (meaning home) p.target (list_any (marks p.target) ss) || b) (later ∙ same)

missing_at_rest : (home : Package) (ps : Script) (ss : List Statement) → AllByRecursion (IsAtRest home ps) ss → some_missing (meaning home) ps (slots_of ss) ≡ still home ps ss
missing_at_rest home [] ss h = refl
missing_at_rest home (p ∷ ps) ss h =
    missing_of home p ps ss ss (pass_alone (meaning home) p (slots_of ss) ∙ same ss h) (missing_at_rest home ps ss (rest ss h)) refl
  where
    same : (ts : List Statement) → AllByRecursion (IsAtRest home (p ∷ ps)) ts → map (slot_after_pass (meaning home) p) (slots_of ts) ≡ slots_of ts
    same [] k = refl
    same (t ∷ ts) k =
        ap (λ slot. slot ∷ map (slot_after_pass (meaning home) p) (slots_of ts)) (pass_stays home p t (settled_parts (done_if (marks p.target t) p.commands) (commands_for t ps) home t k.0).0)
        ∙ ap (λ slots. Some t ∷ slots) (same ts k.1)

    rest : (ts : List Statement) → AllByRecursion (IsAtRest home (p ∷ ps)) ts → AllByRecursion (IsAtRest home ps) ts
    rest [] k = tt
    rest (t ∷ ts) k = ((settled_parts (done_if (marks p.target t) p.commands) (commands_for t ps) home t k.0).1, rest ts k.1)

missing_first : (home : Package) (ps : Script) (ss : List Statement) → IsSteadyScript ps → some_missing (meaning home) ps (slots_of ss) ≡ still home ps ss
missing_first home [] ss is = refl
missing_first home (p ∷ ps) ss is =
    let g : Statement → Statement = λ s. (first_pass home p ps s is).left in
    missing_of home p ps ss (map g ss) (pass_alone (meaning home) p (slots_of ss) ∙ passed ss) (missing_first home ps (map g ss) (later p ps is)) (still_alike home ps (map g ss) ss (alike ss))
  where
    passed : (ts : List Statement) → map (slot_after_pass (meaning home) p) (slots_of ts) ≡ slots_of (map (λ s. (first_pass home p ps s is).left) ts)
    passed [] = refl
    passed (t ∷ ts) =
        ap (λ slot. slot ∷ map (slot_after_pass (meaning home) p) (slots_of ts)) (pass_on home p t ∙ (first_pass home p ps t is).is)
        ∙ ap (λ slots. Some (first_pass home p ps t is).left ∷ slots) (passed ts)

    alike : (ts : List Statement) → AreAlike ps (map (λ s. (first_pass home p ps s is).left) ts) ts
    alike [] = tt
    alike (t ∷ ts) = ((first_pass home p ps t is).marks_are, alike ts)

-- what a script leaves is at rest
pub record AllRest (home : Package) (ps : Script) (ss : List Statement) : Type 0 where
  pub left : List Statement
  pub is : left_in (map (slot_after (meaning home) ps) (slots_of ss)) ≡ left
  pub at_rest : AllByRecursion (IsAtRest home ps) left
  pub alike : AreAlike ps left ss

all_rest : SecondTime → (home : Package) (ps : Script) → AreCommands ps → is_repeatable ps ≡ true → (ss : List Statement) → AllByRecursion HasNamesOnce ss → list_any (some_alone (meaning home) (fails_on home) ps) (slots_of ss) ≡ false → AllRest home ps ss
all_rest law home ps read repeatable [] names none_fails = record { left = []; is = refl; at_rest = tt; alike = tt }
all_rest law home ps read repeatable (s ∷ ss) names none_fails =
    let a = or_parts (some_alone (meaning home) (fails_on home) ps (Some s)) (list_any (some_alone (meaning home) (fails_on home) ps) (slots_of ss)) none_fails in
    let r = rests law home ps s read repeatable names.0 a.0 in
    let rest = all_rest law home ps read repeatable ss names.1 a.1 in
    record {
      left = r.left ∷ rest.left;
      is = ap (λ slot. left_in (slot ∷ map (slot_after (meaning home) ps) (slots_of ss))) r.is ∙ ap (λ later. r.left ∷ later) rest.is;
      at_rest = (r.at_rest, rest.at_rest);
      alike = (r.marks_are, rest.alike);
    }

steady_script : (ps : Script) → is_repeatable ps ≡ true → IsSteadyScript ps
steady_script ps repeatable =
    let a = and_parts (list_all (λ p. list_all is_steady p.commands) ps) _ repeatable in
    record { steady = a.0; past = (and_parts (list_all (λ p. is_looked_past ps p.target) ps) (are_passes_apart ps) a.1).0 }

pub finds_nothing : (home : Package) (ps : Script) (ts ss : List Statement) → AreCommands ps → is_repeatable ps ≡ true → AllByRecursion (IsAtRest home ps) ts → AreAlike ps ts ss → FindsNothing home ps ts ss
finds_nothing home ps ts ss commands repeatable rest alike = record {
  stays = left_alone home ps ts ∙ all_left home ps ts rest;
  unchanged = λ change.
      false≢true (sym (some_alone_lem (meaning home) (changes home) ps (slots_of ts) ∙ none_of_all home (changes home) (λ c s h. h.unchanged) ps ts rest)
      ∙ (changes_tell home ps (slots_of ts) commands).1 change);
  none_fails = failure_each home ps ts ∙ none_of_all home (fails_on home) (λ c s h. h.none_fails) ps ts rest;
  found = missing_at_rest home ps ts rest ∙ still_alike home ps ts ss alike ∙ sym (missing_first home ps ss (steady_script ps repeatable));
}

pub left_at_rest : SecondTime → (home : Package) (ps : Script) (ss : List Statement) → AreCommands ps → is_repeatable ps ≡ true → AllByRecursion HasNamesOnce ss → some_failure home ps ss ≡ false
    → AllByRecursion (IsAtRest home ps) (left_by home ps ss) × AreAlike ps (left_by home ps ss) ss
left_at_rest law home ps ss read repeatable names none_fails =
    let r = all_rest law home ps read repeatable ss names (sym (failure_each home ps ss) ∙ none_fails) in
    let is : r.left ≡ left_by home ps ss = sym r.is ∙ sym (left_alone home ps ss) in
    subst (λ ts. AllByRecursion (IsAtRest home ps) ts × AreAlike ps ts ss) is (r.at_rest, r.alike)

pub script_finds_nothing : SecondTime → (home : Package) (ps : Script) (ss : List Statement) → AreCommands ps → is_repeatable ps ≡ true → AllByRecursion HasNamesOnce ss → some_failure home ps ss ≡ false → FindsNothing home ps (left_by home ps ss) ss
script_finds_nothing law home ps ss read repeatable names none_fails =
    let r = left_at_rest law home ps ss read repeatable names none_fails in
    finds_nothing home ps (left_by home ps ss) ss read repeatable r.0 r.1
