-- What names tell of a script, for private clauses.
use Rattle.std.specs.Prelude.{ℕ, List, Bool, Option, Some, is_some}
use Rattle.std.specs.List.{list_all}
use Rattle.bz_tree.specs.Tree.{Statement}
use Rattle.bz_label.specs.Labels.{Package}
use Rattle.bz_canonical.specs.Canonical.{HasName}
use Rattle.bz_passes.specs.Asked.{asked_by}
use Rattle.bz_passes.specs.Exchange.{IsPassedBy}
use Rattle.bz_engine.specs.Language.{meaning}
use Rattle.bz_engine.specs.Failing.{changes, fails_on}
use Rattle.bz_engine.specs.Outcome.{Script}

-- each target asks for a name
abbrev pub all_named : Script → Bool
all_named passes = list_all (λ p. is_some (asked_by p.target)) passes

-- no pass may mark a statement of this name
abbrev pub IsNamePassedBy : Package → Script → Option (List ℕ) → Type 0
IsNamePassedBy home passes name = (s : Statement) → HasName name s
    → IsPassedBy (meaning home) (changes home) (fails_on home) passes (Some s)
