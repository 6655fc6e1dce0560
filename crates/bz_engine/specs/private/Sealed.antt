-- The attributes that a script mentions, and rules of which other arguments are sealed, for private clauses.
-- Begin with `asked_names` and `IsSealedRule`.
use Rattle.std.specs.Prelude.{◌≡◌, ◌≤◌, ◌⊎◌, ◌||◌, not, ℕ, Bool, false, true, ◌&&◌, if◌then◌else◌, List, [], ◌∷◌, ◌++◌, length, Option, None, Some, codes, nat_le, option_and_then, unwrap_or}
use Rattle.std.specs.List.{flat_map, list_all, list_any}
use Rattle.bz_token.specs.Common.{is_empty, is_one_of, map_or}
use Rattle.bz_tree.specs.Tree.{Segment, Statement}
use Rattle.bz_canonical.specs.SealedRules.{are_alike}
use Rattle.bz_passes.specs.Passes.{Pass}
use Rattle.bz_label.specs.Labels.{Target}
use Rattle.bz_attribute.specs.Lists.{parts}
use Rattle.bz_attribute.specs.Rules.{is_named, rule_of, value}
use Rattle.bz_rule.specs.Commands.{Command, is_print}
use Rattle.bz_rule.specs.Sealed.{IsSealed, attributes_of, is_asked_for, values_sought}
use Rattle.bz_engine.specs.Outcome.{Run, Script}

-- what some steps make of names one after another, if none of them gives up
abbrev pub by_each : {A : Type 0} → (List (List ℕ) → A → Option (List (List ℕ))) → List (List ℕ) → List A → Option (List (List ℕ))
by_each step names [] = Some names
by_each step names (x ∷ xs) = option_and_then (λ more. by_each step more xs) (step names x)

-- one name more, if it is not among them; no more than 64
abbrev pub with_name : List (List ℕ) → List ℕ → Option (List (List ℕ))
with_name names attr = if is_one_of names attr then Some names else (if nat_le 64 (length names) then None else Some (names ++ attr ∷ []))

-- those that a command mentions, if it does not look at all attributes
abbrev pub with_command : List (List ℕ) → Command → Option (List (List ℕ))
with_command names c = option_and_then (by_each with_name names) (attributes_of c)

abbrev pub with_pass : List (List ℕ) → Pass Target Command → Option (List (List ℕ))
with_pass names p = by_each with_command names p.commands

-- the values that the script seeks in all attributes
abbrev pub asked_values : Script → List (List ℕ)
asked_values passes = flat_map (λ (p : Pass Target Command). flat_map values_sought p.commands) passes

-- the attributes that the script mentions, and `name`, each once; none, if it may look at others, or seeks more than 8 values
abbrev pub asked_names : Script → List (List ℕ)
asked_names passes = if nat_le (length (asked_values passes)) 8 then unwrap_or (by_each with_pass (codes "name" ∷ []) passes) [] else []

-- an argument of which the script may see something
abbrev pub is_asked_in : Run → Segment → Bool
is_asked_in run = is_asked_for (asked_names run.passes) (asked_values run.passes) run.home

-- the command mentions some of the names alone
abbrev pub is_covered : List (List ℕ) → Command → Bool
is_covered names c = map_or false (list_all (is_one_of names)) (attributes_of c)

-- each command of the script does, and `name` is one of them
abbrev pub covers : List (List ℕ) → Script → Bool
covers names passes = is_one_of names (codes "name") && list_all (λ (p : Pass Target Command). list_all (is_covered names) p.commands) passes

-- arguments and what stands for them have the same lines
abbrev pub HasLinesOf : List Segment → Segment → Type 0
HasLinesOf run t = are_alike run t ≡ true

-- The command leaves each argument `name` that has no list as it is: it prints, or mentions no such attribute.
abbrev pub leaves_name : Command → Bool
leaves_name c = is_print c || map_or false (λ names. not (is_one_of names (codes "name"))) (attributes_of c)

-- each command of the script does
abbrev pub leave_names : Script → Bool
leave_names passes = list_all (λ (p : Pass Target Command). list_all leaves_name p.commands) passes

-- an argument `name` that has no list
abbrev pub is_plain_name : Segment → Bool
is_plain_name a = is_named (codes "name") a && is_empty (parts (value a))

-- the statement is a rule with such an argument
abbrev pub has_plain_name : Statement → Bool
has_plain_name s = map_or false (λ r. list_any is_plain_name r.args) (rule_of s.nodes)

-- none, or so many that the call stays on lines of its own, whatever commands drop
abbrev pub IsNoneOrMore : ℕ → Type 0
IsNoneOrMore count = (count ≡ 0) ⊎ (2 ≤ count)

-- A rule, and the same rule where arguments are sealed that are not asked for: one alone only where the name stays beside it.
pub record IsSealedRule (asks : Segment → Bool) (stays : Bool) (s t : Statement) : Type 0 where
  pub count : ℕ
  pub enough : (stays ≡ true) ⊎ IsNoneOrMore count
  pub named : has_plain_name t ≡ true
  pub sealed : IsSealed HasLinesOf asks count s t
