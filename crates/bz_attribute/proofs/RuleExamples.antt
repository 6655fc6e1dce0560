-- Worked examples of a rule.
use Rattle.std.proofs.Common.{◌≡◌, List, [], ◌∷◌, ◌++◌, false, Some, None, refl}
use Rattle.std.specs.Prelude.{codes}
use Rattle.bz_token.specs.declared.token.Kind.TheVariants.{Identifier, Operator}
use Rattle.bz_tree.specs.declared.tree.GroupKind.TheVariants.{Call, RuleCall}
use Rattle.bz_tree.specs.Tree.{Item, leaf, group, no_segs}
use Rattle.bz_attribute.specs.Rules.{kind_text, rule_of}

-- `native.rule` before a call
abbrev kind : List Item
kind = leaf Identifier (codes "native") ∷ leaf Operator (codes ".") ∷ leaf Identifier (codes "rule") ∷ []

before_call : rule_of (kind ++ group RuleCall no_segs false [] ∷ []) ≡ Some (record { kind = kind; args = []; one_comma = false; end = [] })
before_call = refl

-- a call that is not marked as that of a rule, and none
other_call : rule_of (kind ++ group Call no_segs false [] ∷ []) ≡ None
other_call = refl

no_call : rule_of kind ≡ None
no_call = refl

shown : kind_text kind ≡ codes "native.rule"
shown = refl
