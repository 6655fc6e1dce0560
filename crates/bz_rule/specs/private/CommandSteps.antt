-- For private clauses alone: what the words of a command give.
use Rattle.std.specs.Prelude.{ℕ, List, [], ◌∷◌, if◌then◌else◌, Result, Ok, Err}
use Rattle.bz_rule.specs.declared.command.CommandFault.{CommandFault}
use Rattle.bz_rule.specs.declared.command.CommandFault.TheVariants.{WrongCount, BadAttribute}
use Rattle.bz_label.specs.declared.arguments.Commented.{Commented}
use Rattle.bz_label.specs.declared.arguments.Commented.TheVariants.{Rule, Attribute, Value}
use Rattle.bz_label.specs.Names.{is_identifier}

-- what a comment stands before
abbrev pub commented_of : List (List ℕ) → Result Commented CommandFault
commented_of [] = Ok Rule
commented_of (attr ∷ []) = if is_identifier attr then Ok (Attribute attr) else Err BadAttribute
commented_of (attr ∷ value ∷ []) = if is_identifier attr then Ok (Value attr value) else Err BadAttribute
commented_of _ = Err WrongCount
