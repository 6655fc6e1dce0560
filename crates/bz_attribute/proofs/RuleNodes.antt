-- The nodes of a rule are those that its parts are read from.
use Rattle.std.proofs.Common.{◌≡◌, List, [], ◌∷◌, ◌++◌, true, false, None, Some, ap, sym, ◌∙◌, if◌then◌else◌, append_assoc}
use Rattle.bz_tree.specs.declared.tree.GroupKind.TheVariants.{Call, RuleCall, Load, Paren, List as ListKind, Index, Dict, ListComp, DictComp}
use Rattle.bz_tree.specs.Tree.{Item, leaf, group, Segs, segments}
use Rattle.bz_attribute.specs.Rules.{Rule, rule_of}
use Rattle.bz_attribute.proofs.Calls.{called_at}
use Rattle.bz_attribute.specs.private.RuleSteps.{call_at, dotted}
use Rattle.bz_attribute.specs.Effects.{nodes_of}
use Rattle.bz_tree.proofs.Rows.FromParts.{segs_back}

call_nodes : (kind : List Item) (x : Item) (r : Rule) → call_at kind x ≡ Some r → nodes_of r ≡ kind ++ x ∷ []
call_nodes kind (leaf k text) r h = absurd cc
call_nodes kind (group RuleCall segs one_comma end) r h =
    elim (dotted true kind) as (λ b. (if b then Some (record { kind = kind; args = segments segs; one_comma = one_comma; end = end }) else None) ≡ Some r → nodes_of r ≡ kind ++ group RuleCall segs one_comma end ∷ []) [
      | true ↦ λ k.
          let is : r ≡ record { kind = kind; args = segments segs; one_comma = one_comma; end = end } = cc in
          ap nodes_of is ∙ ap (λ (ss : Segs). kind ++ group RuleCall ss one_comma end ∷ []) (segs_back segs)
      | false ↦ λ k. absurd cc
    ] h
call_nodes kind (group Call segs one_comma end) r h = absurd cc
call_nodes kind (group Load segs one_comma end) r h = absurd cc
call_nodes kind (group Paren segs one_comma end) r h = absurd cc
call_nodes kind (group ListKind segs one_comma end) r h = absurd cc
call_nodes kind (group Index segs one_comma end) r h = absurd cc
call_nodes kind (group Dict segs one_comma end) r h = absurd cc
call_nodes kind (group ListComp segs one_comma end) r h = absurd cc
call_nodes kind (group DictComp segs one_comma end) r h = absurd cc

pub rule_nodes : (nodes : List Item) (r : Rule) → rule_of nodes ≡ Some r → nodes_of r ≡ nodes
rule_nodes nodes r h = let c = called_at nodes r h in call_nodes c.split.front c.split.last r c.is ∙ sym c.split.are
