-- The words that are commands, and the commands that they are.
use Rattle.std.proofs.Common.{◌≡◌, ℕ, ◌<◌, List, [], ◌∷◌, length, map, Option, None, Some, Ok, Err, refl, sym, ◌∙◌, ap, arith}
use Rattle.std.specs.List.{filter, filter_map}
use Rattle.std.specs.Option.{is_some}
use Rattle.bz_rule.specs.Commands.{Command}
use Rattle.bz_script.specs.Groups.{Label, labels_of, commands_of, pass_for, first_of, steps_from, group_of}
use Rattle.bz_script.specs.Refused.{refused}
use Rattle.bz_script.specs.declared.usage.Refused.{Refused}
use Rattle.bz_script.specs.declared.usage.UsageFault.TheVariants as fault

-- what is left out gives nothing
pub filtered : {A B : Type 0} (f : A → Option B) (xs : List A) → filter_map f (filter (λ x. is_some (f x)) xs) ≡ filter_map f xs
filtered f [] = refl
filtered {A} {B} f (x ∷ xs) = at (f x) refl (filtered f xs)
  where
    at : (y : Option B) → f x ≡ y → filter_map f (filter (λ z. is_some (f z)) xs) ≡ filter_map f xs
        → filter_map f (filter (λ z. is_some (f z)) (x ∷ xs)) ≡ filter_map f (x ∷ xs)
    at None e before = rw e before
    at (Some y) e before = rw (e, e) (ap (λ ys. y ∷ ys) before)

-- the first word of a group, as one that is told
abbrev pub first_in : ℕ → List (List ℕ) → Refused
first_in line words = refused line 1 (first_of words)

steps_none : (first : Refused) (commands : List Command) (labels : List Label) → length commands ≡ 0
    → steps_from first commands (Ok labels) ≡ Err (fault.NoCommand first)
steps_none first [] labels h = refl
steps_none first (c ∷ cs) labels h = absurd (cc h)

-- by what was read of its words
group_read : (line : ℕ) (words : List (List ℕ)) (commands : List Command) (labels : List Label) → commands ≡ commands_of words → Ok labels ≡ labels_of line 1 words
    → group_of line words ≡ steps_from (first_in line words) commands (Ok labels)
group_read line words commands labels are read =
    ap (λ cs. steps_from (first_in line words) cs (labels_of line 1 words)) (sym are) ∙ ap (steps_from (first_in line words) commands) (sym read)

-- a group without a command
pub no_command : (line : ℕ) (words : List (List ℕ)) (commands : List Command) (labels : List Label) → commands ≡ commands_of words → Ok labels ≡ labels_of line 1 words
    → length commands ≡ 0 → Err (fault.NoCommand (first_in line words)) ≡ group_of line words
no_command line words commands labels are read none = sym (group_read line words commands labels are read ∙ steps_none (first_in line words) commands labels none)

steps_nowhere : (first : Refused) (commands : List Command) (labels : List Label) → 0 < length commands → length labels ≡ 0
    → steps_from first commands (Ok labels) ≡ Err (fault.NoTarget first.line)
steps_nowhere first [] labels h k = absurd (omega arith)
steps_nowhere first (c ∷ cs) [] h k = refl
steps_nowhere first (c ∷ cs) (l ∷ ls) h k = absurd (omega arith)

-- a group with commands, and without a target
pub no_target : (line : ℕ) (words : List (List ℕ)) (commands : List Command) (labels : List Label) → commands ≡ commands_of words → Ok labels ≡ labels_of line 1 words
    → 0 < length commands → length labels ≡ 0 → Err (fault.NoTarget line) ≡ group_of line words
no_target line words commands labels are read some none = sym (group_read line words commands labels are read ∙ steps_nowhere (first_in line words) commands labels some none)

steps_all : (first : Refused) (commands : List Command) (labels : List Label) → 0 < length commands → 0 < length labels
    → steps_from first commands (Ok labels) ≡ Ok (map (pass_for commands) labels)
steps_all first [] labels h k = absurd (omega arith)
steps_all first (c ∷ cs) [] h k = absurd (omega arith)
steps_all first (c ∷ cs) (l ∷ ls) h k = refl

-- a group with both
pub all_steps : (line : ℕ) (words : List (List ℕ)) (commands : List Command) (labels : List Label) → commands ≡ commands_of words → Ok labels ≡ labels_of line 1 words
    → 0 < length commands → 0 < length labels → Ok (map (pass_for commands) labels) ≡ group_of line words
all_steps line words commands labels are read some target = sym (group_read line words commands labels are read ∙ steps_all (first_in line words) commands labels some target)
