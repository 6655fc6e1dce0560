-- A statement whose arguments were edited, read and edited again.
use Rattle.std.proofs.Common.{◌≡◌, List, [], true, false, Option, Some, None, option_map, refl, ap, ◌∙◌}
use Rattle.bz_attribute.proofs.RuleParts.{rule_dotted}
use Rattle.bz_tree.specs.declared.tree.GroupKind.TheVariants.{RuleCall}
use Rattle.bz_tree.specs.Tree.{Item, group, Segment, Statement, segs_of}
use Rattle.bz_attribute.specs.Rules.{Rule, rule_of}
use Rattle.bz_attribute.specs.private.RuleSteps.{dotted}
use Rattle.bz_attribute.specs.declared.done.Done.{Done}
use Rattle.bz_attribute.specs.Effects.{nodes_of, with_args}
use Rattle.bz_attribute.specs.Reports.{slot_done, done}
use Rattle.bz_attribute.specs.private.RuleNodes.{nodes_after}
use Rattle.bz_attribute.proofs.Views.{segments_of}
use Rattle.bz_attribute.proofs.Calls.{rule_at_end}
use Rattle.bz_token.specs.Common.{map_or}

-- with other arguments it is the same rule with these
rule_back : (nodes : List Item) (r : Rule) (args : List Segment) → rule_of nodes ≡ Some r → rule_of (nodes_of (record r { args = args })) ≡ Some (record r { args = args })
rule_back nodes r args h =
    let dots : dotted true r.kind ≡ true = rule_dotted nodes r h in
    rule_at_end r.kind (group RuleCall (segs_of args) r.one_comma r.end) ∙ rw (dots, segments_of args) refl

nodes_twice : (f : List Segment → List Segment) → ((args : List Segment) → f (f args) ≡ f args) → (nodes : List Item)
    → nodes_after f (nodes_after f nodes (rule_of nodes)) (rule_of (nodes_after f nodes (rule_of nodes))) ≡ nodes_after f nodes (rule_of nodes)
nodes_twice f once nodes =
    elim (rule_of nodes) as (λ o. rule_of nodes ≡ o → nodes_after f (nodes_after f nodes o) (rule_of (nodes_after f nodes o)) ≡ nodes_after f nodes o) [
      | None ↦ λ e. rw e refl
      | Some r ↦ λ e. rw (rule_back nodes r (f r.args) e) (ap (λ (args : List Segment). nodes_of (record r { args = args })) (once r.args))
    ] refl

-- an effect that is the same twice as once is so on statements
pub slot_twice : (f : List Segment → List Segment) → ((args : List Segment) → f (f args) ≡ f args) → (slot : Option Statement)
    → option_map (with_args f) (option_map (with_args f) slot) ≡ option_map (with_args f) slot
slot_twice f once None = refl
slot_twice f once (Some s) = ap (λ (nodes : List Item). Some (record s { nodes = nodes })) (nodes_twice f once s.nodes)

-- an effect that would change nothing more on arguments would change nothing more on statements
pub slot_again : (f : List Segment → List Segment) (g : List Segment → Done) → ((args : List Segment) → (g (f args)).changed ≡ false) → (slot : Option Statement)
    → (slot_done g (option_map (with_args f) slot)).changed ≡ false
slot_again f g quiet None = refl
slot_again f g quiet (Some s) =
    elim (rule_of s.nodes) as (λ o. rule_of s.nodes ≡ o → (map_or (done None false) (λ r. g r.args) (rule_of (nodes_after f s.nodes o))).changed ≡ false) [
      | None ↦ λ e. rw e refl
      | Some r ↦ λ e. rw (rule_back s.nodes r (f r.args) e) (quiet r.args)
    ] refl
