-- Which passes of a script mark a rule that is not read, for private clauses.
-- Begin with `IsMarking`.
use Rattle.std.specs.Prelude.{◌≡◌, ℕ, ◌≤◌, Bool, true, ◌&&◌, codes, nat_le, bytes_eq, Some}
use Rattle.bz_tree.specs.Tree.{Statement}
use Rattle.bz_label.specs.Labels.{Target, Name, Pkg, All, Kind, Line}
use Rattle.bz_attribute.specs.Rules.{Rule, kind_text, name_in, rule_of}
use Rattle.bz_passes.specs.Exchange.{IsPassedBy}
use Rattle.bz_engine.specs.Failing.{changes, fails_on}
use Rattle.bz_engine.specs.Language.{meaning}
use Rattle.bz_engine.specs.Outcome.{Run}
use Rattle.bz_engine.specs.declared.canonical.Found.{Found}
use Rattle.bz_engine.specs.declared.marking.KnownRule.{KnownRule}
use Rattle.bz_engine.specs.declared.marking.Marking.{Marking}
use Rattle.bz_engine.specs.declared.marking.Marking.TheVariants.{Unmarked, Alone, Unknown}
use Rattle.bz_engine.specs.private.Found.{IsForOne, IsFoundOn, unplaced}

-- a rule of this name and this kind, which begins on one of these lines
pub record IsKnownRule (known : KnownRule) (s : Statement) : Type 0 where
  pub rule : Rule
  pub rule_is : rule_of s.nodes ≡ Some rule
  pub name_is : name_in rule.args ≡ Some known.name.now
  pub kind_is : kind_text rule.kind ≡ known.kind.now
  pub first_is : known.first ≤ s.start
  pub last_is : s.start ≤ known.last

-- what may mark such a rule; all but targets for a line mark it then
abbrev pub may_mark_rule : KnownRule → Target → Bool
may_mark_rule known (Name name) = bytes_eq name known.name.now
may_mark_rule known Pkg = bytes_eq known.kind.now (codes "package")
may_mark_rule known All = true
may_mark_rule known (Kind kind) = bytes_eq known.kind.now kind
may_mark_rule known (Line line) = nat_le known.first line && nat_le line known.last

-- This is known of the passes that mark the statement of the chunk, which begins on this line.
abbrev pub IsMarking : Run → ℕ → Found → Marking → Type 0
IsMarking run line found Unmarked = (s : Statement) → IsFoundOn run.max_depth line (unplaced found) s
    → IsPassedBy (meaning run.home) (changes run.home) (fails_on run.home) run.passes (Some s)
IsMarking run line found (Alone only) = IsForOne run.home run.passes only (IsFoundOn run.max_depth line (unplaced found))
IsMarking run line found Unknown = Unit {0}
