-- The head of a rule: its kind, its name and its lines.
use Rattle.std.specs.Prelude.{◌≡◌, Option, None, Some, option_map}
use Rattle.bz_tree.specs.Tree.{Statement}
use Rattle.bz_attribute.specs.declared.head.Head.{Head}
use Rattle.bz_attribute.specs.Rules.{Rule, rule_of, kind_text, name_in}

-- a rule of this kind and this name, on these lines
pub record IsHeadOf (head : Head) (s : Statement) : Type 0 where
  pub rule : Rule
  pub is : rule_of s.nodes ≡ Some rule
  pub kind_is : kind_text rule.kind ≡ head.kind.now
  pub name_is : option_map (λ text. text.now) head.name ≡ name_in rule.args
  pub start_is : s.start ≡ head.start
  pub end_is : s.end ≡ head.end

-- the head of the rule that a statement is; none of what is no rule
abbrev pub HasHead : Option Head → Statement → Type 0
HasHead None s = rule_of s.nodes ≡ None
HasHead (Some head) s = IsHeadOf head s
