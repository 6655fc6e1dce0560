-- A script leaves the arguments that no command of it mentions.
use Rattle.std.proofs.Common.{◌≡◌, ℕ, List, [], ◌∷◌, ◌++◌, Bool, true, false, filter, refl, sym, ap, ◌∙◌}
use Rattle.std.specs.Prelude.{Option, None, Some, if◌then◌else◌}
use Rattle.std.specs.List.{list_all, list_any}
use Rattle.std.proofs.lemmas.Bool.{and_parts, or_left, or_right}
use Rattle.bz_tree.specs.Tree.{Segment, Statement}
use Rattle.bz_label.specs.Labels.{Package}
use Rattle.bz_passes.specs.Passes.{Slot, Marked, marked, executed}
use Rattle.bz_passes.specs.Exchange.{slot_after_commands, slot_after_pass, slot_after}
use Rattle.bz_rule.specs.Commands.{Command, after}
use Rattle.bz_laws.specs.Unmentioned.{arguments_of, is_delete, is_unmentioned, KeepsUnmentioned, has_delete, no_command_mentions}
use Rattle.bz_laws.proofs.Commands.{unmentioned_stay}
use Rattle.bz_laws.proofs.KeptArguments.{deleted, narrower, nothing_left}
use Rattle.bz_engine.specs.Language.{meaning}
use Rattle.bz_engine.specs.Outcome.{Run, Script, Told, IsOutcome, is_query, left_in, text_of}
use Rattle.bz_laws.specs.Written.{left_by}
use Rattle.bz_laws.proofs.RunText.{edited_text, text_left_by}
use Rattle.bz_laws.proofs.Unmarked.{left_alone, left_of_both}

-- what is left of a statement, by a test of arguments
abbrev Keeps : (Segment → Bool) → Bool → Statement → Slot Statement → Type 0
Keeps q deletes s None = deletes ≡ true
Keeps q deletes s (Some t) = filter q (arguments_of t) ≡ filter q (arguments_of s)

command_keeps : (q : Segment → Bool) (deletes : Bool) (home : Package) (c : Command) → ((a : Segment) → q a ≡ true → is_unmentioned c a ≡ true) → (is_delete c ≡ true → deletes ≡ true)
    → (s : Statement) (slot : Slot Statement) → Keeps q deletes s slot → Keeps q deletes s (after c home slot)
command_keeps q deletes home c wider delete s None kept = rw (nothing_left c home) kept
command_keeps q deletes home c wider delete s (Some t) kept =
    elim (after c home (Some t)) as (λ o. after c home (Some t) ≡ o → Keeps q deletes s o) [
      | None ↦ λ e. delete (deleted c home t e)
      | Some u ↦ λ e.
          sym (narrower (is_unmentioned c) q wider (arguments_of u)) ∙ ap (filter q) (unmentioned_stay c home t u e) ∙ narrower (is_unmentioned c) q wider (arguments_of t) ∙ kept
    ] refl

commands_keep : (q : Segment → Bool) (deletes : Bool) (home : Package) (cs : List Command) → ((a : Segment) → q a ≡ true → list_all (λ c. is_unmentioned c a) cs ≡ true) → (list_any is_delete cs ≡ true → deletes ≡ true)
    → (s : Statement) (x : Marked Statement) → Keeps q deletes s x.slot → Keeps q deletes s (slot_after_commands (meaning home) cs x).slot
commands_keep q deletes home [] wider delete s x kept = kept
commands_keep q deletes home (c ∷ cs) wider delete s x kept =
    let first = λ (a : Segment) (h : q a ≡ true). and_parts (is_unmentioned c a) (list_all (λ d. is_unmentioned d a) cs) (wider a h) in
    commands_keep q deletes home cs (λ a h. (first a h).1) (λ h. delete (or_right (is_delete c) (list_any is_delete cs) h)) s (executed (meaning home) c x) (by x.mark)
  where
    by : (b : Bool) → Keeps q deletes s (if b then after c home x.slot else x.slot)
    by true = command_keeps q deletes home c (λ a h. (and_parts (is_unmentioned c a) (list_all (λ d. is_unmentioned d a) cs) (wider a h)).0) (λ h. delete (or_left (is_delete c) (list_any is_delete cs) h)) s x.slot kept
    by false = kept

passes_keep : (q : Segment → Bool) (deletes : Bool) (home : Package) (ps : Script) → ((a : Segment) → q a ≡ true → no_command_mentions ps a ≡ true) → (has_delete ps ≡ true → deletes ≡ true)
    → (s : Statement) (slot : Slot Statement) → Keeps q deletes s slot → Keeps q deletes s (slot_after (meaning home) ps slot)
passes_keep q deletes home [] wider delete s slot kept = kept
passes_keep q deletes home (p ∷ ps) wider delete s slot kept =
    let parts = λ (a : Segment) (h : q a ≡ true). and_parts (list_all (λ c. is_unmentioned c a) p.commands) (no_command_mentions ps a) (wider a h) in
    passes_keep q deletes home ps (λ a h. (parts a h).1) (λ h. delete (or_right (list_any is_delete p.commands) (has_delete ps) h)) s (slot_after_pass (meaning home) p slot)
    (commands_keep q deletes home p.commands (λ a h. (parts a h).0) (λ h. delete (or_left (list_any is_delete p.commands) (has_delete ps) h)) s (marked (meaning home) p.target slot) kept)

keeps : (home : Package) (passes : Script) (s : Statement) → KeepsUnmentioned passes s (slot_after (meaning home) passes (Some s))
keeps home passes s =
    as_said (slot_after (meaning home) passes (Some s)) (passes_keep (no_command_mentions passes) (has_delete passes) home passes (λ a h. h) (λ h. h) s (Some s) refl)
  where
    as_said : (slot : Slot Statement) → Keeps (no_command_mentions passes) (has_delete passes) s slot → KeepsUnmentioned passes s slot
    as_said None kept = kept
    as_said (Some t) kept = kept

-- one statement among others
pub one_left : (home : Package) (passes : Script) (front back : List Statement) (s : Statement)
    → left_by home passes (front ++ s ∷ back) ≡ left_by home passes front ++ (left_in (slot_after (meaning home) passes (Some s) ∷ []) ++ left_by home passes back)
one_left home passes front back s =
    left_of_both home passes front (s ∷ back)
    ∙ ap (λ left. left_by home passes front ++ left) (left_of_both home passes (s ∷ []) back ∙ ap (λ left. left ++ left_by home passes back) (left_alone home passes (s ∷ [])))

pub statement_keeps : (home : Package) (passes : Script) (front back : List Statement) (s : Statement)
    → (left : Option Statement) × KeepsUnmentioned passes s left × (left_by home passes (front ++ s ∷ back) ≡ left_by home passes front ++ (left_in (left ∷ []) ++ left_by home passes back))
statement_keeps home passes front back s = (slot_after (meaning home) passes (Some s), keeps home passes s, one_left home passes front back s)

pub text_keeps : (run : Run) (file text : List ℕ) (told : Told) (outcome : IsOutcome run file text told) (front back : List Statement) (s : Statement)
    → is_query run.passes ≡ false → outcome.edited ≡ front ++ s ∷ back
    → (left : Option Statement) × KeepsUnmentioned run.passes s left × (text ≡ text_of (left_by run.home run.passes front ++ (left_in (left ∷ []) ++ left_by run.home run.passes back)))
text_keeps run file text told outcome front back s query are = (
  slot_after (meaning run.home) run.passes (Some s),
  keeps run.home run.passes s,
  edited_text run file text told outcome ∙ text_left_by run.home run.passes outcome.edited query
      ∙ ap (λ ss. text_of (left_by run.home run.passes ss)) are ∙ ap text_of (one_left run.home run.passes front back s),
)
