-- A rule whose arguments were edited is read as this rule with others.
use Rattle.std.proofs.Common.{◌≡◌, List, [], true, Some, None, option_map, refl, ap, ◌∙◌}
use Rattle.bz_tree.specs.declared.tree.GroupKind.TheVariants.{RuleCall}
use Rattle.bz_tree.specs.Rows.{RowPart, parts_of}
use Rattle.bz_tree.specs.Tree.{Item, group, Segment, Statement, segs_of}
use Rattle.bz_attribute.specs.Effects.{nodes_of, with_args}
use Rattle.bz_attribute.specs.private.RuleNodes.{nodes_after}
use Rattle.bz_attribute.specs.RowPlaces.{IsRuleRow}
use Rattle.bz_attribute.specs.Rules.{Rule, rule_of}
use Rattle.bz_attribute.specs.private.RuleSteps.{dotted}
use Rattle.bz_attribute.proofs.Calls.{rule_at_end}
use Rattle.bz_attribute.proofs.RuleParts.{rule_dotted}
use Rattle.bz_attribute.proofs.Views.{segments_of}

-- the nodes of a rule are read as this rule
pub nodes_read : (r : Rule) → dotted true r.kind ≡ true → rule_of (nodes_of r) ≡ Some r
nodes_read r dots = rule_at_end r.kind (group RuleCall (segs_of r.args) r.one_comma r.end) ∙ rw (dots, segments_of r.args) refl

abbrev pub rule_with : (List Segment → List Segment) → Rule → Rule
rule_with f r = record r { args = f r.args }

-- with other arguments it is the same rule with these, and no rule stays none
pub rule_after : (f : List Segment → List Segment) (s : Statement) → rule_of (with_args f s).nodes ≡ option_map (rule_with f) (rule_of s.nodes)
rule_after f s =
    elim (rule_of s.nodes) as (λ o. rule_of s.nodes ≡ o → rule_of (nodes_after f s.nodes o) ≡ option_map (rule_with f) o)
    [ None ↦ λ e. e | Some r ↦ λ e. nodes_read (rule_with f r) (rule_dotted s.nodes r e) ] refl

-- one edit after another
pub with_args_twice : (f h : List Segment → List Segment) (s : Statement) → with_args f (with_args h s) ≡ with_args (λ args. f (h args)) s
with_args_twice f h s =
    let nodes : nodes_after f (with_args h s).nodes (rule_of (with_args h s).nodes) ≡ nodes_after (λ args. f (h args)) s.nodes (rule_of s.nodes) =
    ap (nodes_after f (with_args h s).nodes) (rule_after h s)
    ∙ elim (rule_of s.nodes) as (λ o. nodes_after f (nodes_after h s.nodes o) (option_map (rule_with h) o) ≡ nodes_after (λ args. f (h args)) s.nodes o) [ None ↦ refl | Some r ↦ refl ] in
    ap (λ (nodes : List Item). record s { nodes = nodes }) nodes

-- the parts of an edited rule are a row of it
pub row_after : (f : List Segment → List Segment) (s : Statement) (r : Rule) (ps new : List RowPart) → IsRuleRow s r ps → new ≡ parts_of (with_args f s) → IsRuleRow (with_args f s) (rule_with f r) new
row_after f s r ps new h are = record { are = are; rule = rule_after f s ∙ ap (option_map (rule_with f)) h.rule }
