-- Scripts that find nothing to do where they ran before (this project's own rule).
use Rattle.std.specs.Prelude.{◌≡◌, ℕ, List, [], ◌∷◌, Bool, true, false, ◌&&◌, if◌then◌else◌, bytes_eq}
use Rattle.std.specs.List.{list_all}
use Rattle.bz_tree.specs.Tree.{Statement}
use Rattle.bz_label.specs.Labels.{Package, Target, Name}
use Rattle.bz_passes.specs.Passes.{Pass}
use Rattle.bz_passes.specs.Exchange.{some_missing}
use Rattle.bz_rule.specs.Commands.{Command}
use Rattle.bz_laws.specs.Again.{HasOnce, are_all_apart, are_apart, is_steady, looks_past}
use Rattle.bz_laws.specs.Unmentioned.{arguments_of}
use Rattle.bz_engine.specs.Language.{meaning}
use Rattle.bz_engine.specs.Outcome.{Script, slots_of, some_failure}
use Rattle.bz_laws.specs.Status.{SomeChange}
use Rattle.bz_laws.specs.Written.{left_by}

-- two targets that may mark one rule: two names that differ do not
abbrev pub may_meet : Target → Target → Bool
may_meet (Name a) (Name b) = bytes_eq a b
may_meet target other = true

abbrev pub each_apart : List Command → List Command → Bool
each_apart cs ds = list_all (λ d. list_all (λ c. are_apart c d) cs) ds

-- where both passes may mark one rule, each command of the one is apart from each of the other
abbrev pub are_two_apart : Pass Target Command → Pass Target Command → Bool
are_two_apart p q = if may_meet p.target q.target then each_apart p.commands q.commands else true

abbrev pub are_passes_apart : Script → Bool
are_passes_apart [] = true
are_passes_apart (p ∷ ps) = are_all_apart p.commands && (list_all (are_two_apart p) ps && are_passes_apart ps)

-- no command of the script changes what the target marks
abbrev pub is_looked_past : Script → Target → Bool
is_looked_past passes target = list_all (λ q. list_all (looks_past target) q.commands) passes

-- Its commands are steady and apart, and change nothing that its targets look at.
abbrev pub is_repeatable : Script → Bool
is_repeatable passes =
    list_all (λ p. list_all is_steady p.commands) passes && (list_all (λ p. is_looked_past passes p.target) passes && are_passes_apart passes)

-- no attribute stands twice in the rule
abbrev pub HasNamesOnce : Statement → Type 0
HasNamesOnce s = (attr : List ℕ) → HasOnce (arguments_of s) attr

-- The script changes nothing in these statements and fails in none, and marks of them what it has to mark, if it did in those.
pub record FindsNothing (home : Package) (passes : Script) (statements before : List Statement) : Type 0 where
  pub stays : left_by home passes statements ≡ statements
  pub unchanged : SomeChange home passes statements → ⊥
  pub none_fails : some_failure home passes statements ≡ false
  pub found : some_missing (meaning home) passes (slots_of statements) ≡ some_missing (meaning home) passes (slots_of before)
