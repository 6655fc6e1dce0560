-- Texts of a rule that pass a test: of its nodes, of its statement, of a slot.
use Rattle.std.proofs.Common.{Bool, List, None, Option, Some, [], refl, subst, sym, true, ℕ, ◌&&◌, ◌++◌, ◌∷◌, ◌≡◌}
use Rattle.std.proofs.lemmas.Bool.{and_from, and_parts}
use Rattle.std.specs.List.{list_all}
use Rattle.bz_attribute.proofs.RuleNodes.{rule_nodes}
use Rattle.bz_attribute.specs.Effects.{nodes_of}
use Rattle.bz_attribute.specs.private.RuleNodes.{nodes_after}
use Rattle.bz_attribute.specs.Rules.{Rule, rule_of}
use Rattle.bz_layout_laws.specs.EachText.{items_pass, segs_pass, statement_passes}
use Rattle.bz_laws.proofs.PassingParts.{KeepsPassing}
use Rattle.bz_laws.proofs.PassingTexts.{NodePasses, NodesPass, SegmentsPass, group_passes, nodes_in, nodes_out, segments_in}
use Rattle.bz_laws.proofs.Segments.{all_appended}
use Rattle.bz_tree.specs.Comments.{beside}
use Rattle.bz_tree.specs.Tree.{Item, Segment, Statement, group, items_of, segs_of}
use Rattle.bz_tree.specs.declared.tree.GroupKind.TheVariants.{RuleCall}

-- the nodes of a rule are its kind and its call
pub record RulePasses (q : List ℕ → Bool) (r : Rule) : Type 0 where
  pub kind : NodesPass q r.kind
  pub args : SegmentsPass q r.args
  pub end : list_all q r.end ≡ true

two_parts : (q : List ℕ → Bool) (xs ys : List Item) → NodesPass q (xs ++ ys) → NodesPass q xs × NodesPass q ys
two_parts q [] ys h = (tt, h)
two_parts q (x ∷ xs) ys h = let p = two_parts q xs ys h.1 in ((h.0, p.0), p.1)

pub rule_in : (q : List ℕ → Bool) (nodes : List Item) (r : Rule) → rule_of nodes ≡ Some r → NodesPass q nodes → RulePasses q r
rule_in q nodes r e h =
    let p = two_parts q r.kind (group RuleCall (segs_of r.args) r.one_comma r.end ∷ []) (subst (NodesPass q) (sym (rule_nodes nodes r e)) h) in
    let call = and_parts (segs_pass q (segs_of r.args)) (list_all q r.end) p.1.0 in
    record { kind = p.0; args = segments_in q r.args call.0; end = call.1 }

pub rule_out : (q : List ℕ → Bool) (r : Rule) → RulePasses q r → NodesPass q (nodes_of r)
rule_out q r h = all_appended (NodePasses q) r.kind (group RuleCall (segs_of r.args) r.one_comma r.end ∷ []) h.kind (group_passes q RuleCall r.args r.one_comma r.end h.args h.end, tt)

pub args_nodes_pass : (q : List ℕ → Bool) (f : List Segment → List Segment) → KeepsPassing q f → (nodes : List Item) → NodesPass q nodes → NodesPass q (nodes_after f nodes (rule_of nodes))
args_nodes_pass q f keep nodes h =
    elim (rule_of nodes) as (λ o. rule_of nodes ≡ o → NodesPass q (nodes_after f nodes o)) [
      | None ↦ λ e. h
      | Some r ↦ λ e. let p = rule_in q nodes r e h in rule_out q (record r { args = f r.args }) (record { kind = p.kind; args = keep r.args p.args; end = p.end })
    ] refl

-- statements
abbrev pub StatementPasses : (List ℕ → Bool) → Statement → Type 0
StatementPasses q s = statement_passes q s ≡ true

pub with_nodes : (q : List ℕ → Bool) (s : Statement) (nodes : List Item) → (NodesPass q s.nodes → NodesPass q nodes) → StatementPasses q s → StatementPasses q (record s { nodes = nodes })
with_nodes q s nodes keep h =
    let a = and_parts (list_all q s.before && items_pass q (items_of s.nodes)) (list_all q (beside s.suffix)) h in
    let b = and_parts (list_all q s.before) (items_pass q (items_of s.nodes)) a.0 in
    and_from (list_all q s.before && items_pass q (items_of nodes)) (list_all q (beside s.suffix))
    (and_from (list_all q s.before) (items_pass q (items_of nodes)) b.0 (nodes_out q nodes (keep (nodes_in q s.nodes b.1)))) a.1

abbrev pub SlotPasses : (List ℕ → Bool) → Option Statement → Type 0
SlotPasses q None = Unit {0}
SlotPasses q (Some s) = StatementPasses q s
