-- For private clauses alone: what is printed of the rule of a head and parts.
use Rattle.std.specs.Prelude.{◌≡◌, ℕ, ◌==◌, nat_le, Bool, false, true, ◌||◌, List, ◌++◌, Option, Some, [], ◌∷◌, bytes_eq, codes}
use Rattle.bz_tree.specs.declared.tree.GroupKind.TheVariants.{RuleCall}
use Rattle.bz_tree.specs.Tree.{Item, Statement}
use Rattle.bz_tree.specs.Rows.{RowPart}
use Rattle.bz_label.specs.Labels.{Package}
use Rattle.bz_rule.specs.declared.commands.field.Field.{Field}
use Rattle.bz_rule.specs.declared.commands.field.Field.TheVariants.{Label, ValueOf}
use Rattle.bz_attribute.specs.declared.head.Head.{Head}
use Rattle.bz_attribute.specs.declared.done.Note.{Note}
use Rattle.bz_attribute.specs.Heads.{IsHeadOf}
use Rattle.bz_attribute.specs.RowPlaces.{IsRuleRow}
use Rattle.bz_attribute.specs.Rules.{Rule}
use Rattle.bz_layout.specs.Layout.{flat_text}
use Rattle.bz_rule.specs.Print.{line_of, missing, value_text}

-- the name alone determines what is printed
abbrev pub is_name_alone : List Field → Bool
is_name_alone (Label ∷ []) = true
is_name_alone (ValueOf attr ∷ []) = bytes_eq attr (codes "name")
is_name_alone _ = false

-- a rule of this head and these parts
pub record IsRuleOf (known : Head) (ps : List RowPart) (s : Statement) (r : Rule) : Type 0 where
  pub head : IsHeadOf known s
  pub row : IsRuleRow s r ps

-- these fields of the rule come after what was there, with this note
pub record HasPrinted (home : Package) (fields : List Field) (head : Head) (ps : List RowPart) (old new : List ℕ) (told : Option Note) : Type 0 where
  pub line : (s : Statement) (r : Rule) → IsRuleOf head ps s r → new ≡ old ++ line_of home s r fields
  pub note : (s : Statement) (r : Rule) → IsRuleOf head ps s r → told ≡ missing home s r fields

-- A value of strings comes after what was there. Of any other one nothing does, and it is to be its text on one line.
abbrev pub HasStrings : Bool → List ℕ → List ℕ → List Item → Type 0
HasStrings true old new nodes = new ≡ old ++ value_text nodes
HasStrings false old new nodes = (new ≡ old) × (value_text nodes ≡ flat_text (Some RuleCall) nodes)

-- a quote, this byte, or a space or a byte below it
abbrev pub is_special : ℕ → ℕ → Bool
is_special other b = (b == 34 || b == other) || nat_le b 32
