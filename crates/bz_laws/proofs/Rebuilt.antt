-- A statement with other arguments: the rule that it is.
use Rattle.std.proofs.Common.{◌≡◌, ℕ, List, [], true, false, Option, Some, None, is_some, option_map, if◌then◌else◌, refl, ap, sym, ◌∙◌, not}
use Rattle.std.specs.Prelude.{bytes_eq}
use Rattle.bz_tree.specs.Tree.{Item, Segment, Statement}
use Rattle.bz_attribute.specs.Rules.{Rule, kind_text, rule_of}
use Rattle.bz_attribute.specs.declared.done.Done.{Done}
use Rattle.bz_attribute.specs.Effects.{holds_rule, nodes_of, with_args}
use Rattle.bz_attribute.specs.Reports.{slot_done, done}
use Rattle.bz_attribute.specs.private.RuleNodes.{nodes_after}
use Rattle.bz_rule.specs.Set.{kind_items, with_kind}
use Rattle.bz_rule.specs.Reports.{sets_kind_of}
use Rattle.bz_rule.specs.private.Steps.{kind_after}
use Rattle.bz_attribute.proofs.RuleNodes.{rule_nodes}
use Rattle.bz_token.specs.Common.{map_or}
use Rattle.bz_attribute.proofs.EditedRules.{nodes_read, rule_after, with_args_twice, rule_with}
use Rattle.bz_rule.proofs.RuleClass.{kind_dotted}

pub kinds_after : (f : List Segment → List Segment) (s : Statement) → option_map (λ r. r.kind) (rule_of (with_args f s).nodes) ≡ option_map (λ r. r.kind) (rule_of s.nodes)
kinds_after f s =
    ap (option_map (λ (r : Rule). r.kind)) (rule_after f s) ∙ elim (rule_of s.nodes) as (λ o. option_map (λ (r : Rule). r.kind) (option_map (rule_with f) o) ≡ option_map (λ (r : Rule). r.kind) o) [ None ↦ refl | Some r ↦ refl ]

pub is_rule_after : (f : List Segment → List Segment) (s : Statement) → is_some (rule_of (with_args f s).nodes) ≡ is_some (rule_of s.nodes)
is_rule_after f s = ap is_some (rule_after f s) ∙ elim (rule_of s.nodes) as (λ o. is_some (option_map (rule_with f) o) ≡ is_some o) [ None ↦ refl | Some r ↦ refl ]

pub holds_after : (f : List Segment → List Segment) (slot : Option Statement) → holds_rule (option_map (with_args f) slot) ≡ holds_rule slot
holds_after f None = refl
holds_after f (Some s) = is_rule_after f s

-- edits that are the same of each list
pub with_args_alike : (f h : List Segment → List Segment) → ((args : List Segment) → f args ≡ h args) → (s : Statement) → with_args f s ≡ with_args h s
with_args_alike f h alike s =
    ap (λ (nodes : List Item). record s { nodes = nodes }) (elim (rule_of s.nodes) as (λ o. nodes_after f s.nodes o ≡ nodes_after h s.nodes o) [
      | None ↦ refl
      | Some r ↦ ap (λ (args : List Segment). nodes_of (record r { args = args })) (alike r.args)
    ])

-- an edit that leaves each list
pub with_args_same : (f : List Segment → List Segment) → ((args : List Segment) → f args ≡ args) → (s : Statement) → with_args f s ≡ s
with_args_same f same s =
    ap (λ (nodes : List Item). record s { nodes = nodes }) (elim (rule_of s.nodes) as (λ o. rule_of s.nodes ≡ o → nodes_after f s.nodes o ≡ s.nodes) [
      | None ↦ λ e. refl
      | Some r ↦ λ e. ap (λ (args : List Segment). nodes_of (record r { args = args })) (same r.args) ∙ rule_nodes s.nodes r e
    ] refl)

-- edits whose order does not count
pub slot_exchanged : (f h : List Segment → List Segment) → ((args : List Segment) → f (h args) ≡ h (f args)) → (slot : Option Statement)
    → option_map (with_args f) (option_map (with_args h) slot) ≡ option_map (with_args h) (option_map (with_args f) slot)
slot_exchanged f h exchanged None = refl
slot_exchanged f h exchanged (Some s) =
    ap (λ (z : Statement). Some z) (with_args_twice f h s ∙ with_args_alike (λ args. f (h args)) (λ args. h (f args)) exchanged s ∙ sym (with_args_twice h f s))

-- what is told of each list before an edit as after it
pub told_alike : (t : List Segment → Done) (f : List Segment → List Segment) → ((args : List Segment) → t (f args) ≡ t args) → (slot : Option Statement)
    → slot_done t (option_map (with_args f) slot) ≡ slot_done t slot
told_alike t f alike None = refl
told_alike t f alike (Some s) =
    ap (λ x0. map_or (done None false) (λ r. t r.args) x0) (rule_after f s) ∙ elim (rule_of s.nodes) as (λ o. map_or (done None false) (λ r. t r.args) (option_map (rule_with f) o) ≡ map_or (done None false) (λ r. t r.args) o) [ None ↦ refl | Some r ↦ alike r.args ]

kind_nodes : (kind : List ℕ) (f : List Segment → List Segment) (nodes : List Item) (r : Rule) → rule_of nodes ≡ Some r
    → kind_after kind (nodes_of (rule_with f r)) (Some (rule_with f r)) ≡ nodes_after f (kind_after kind nodes (Some r)) (rule_of (kind_after kind nodes (Some r)))
kind_nodes kind f nodes r e =
    let new : Rule = record r { kind = kind_items kind } in
    elim (bytes_eq (kind_text r.kind) kind) as (λ b. (if b then nodes_of (rule_with f r) else nodes_of (rule_with f new)) ≡ nodes_after f (if b then nodes else nodes_of new) (rule_of (if b then nodes else nodes_of new))) [
      | true ↦ rw e refl
      | false ↦ rw (nodes_read new (kind_dotted kind)) refl
    ]

pub kind_exchanged : (kind : List ℕ) (f : List Segment → List Segment) (s : Statement) → with_kind kind (with_args f s) ≡ with_args f (with_kind kind s)
kind_exchanged kind f s =
    let nodes : kind_after kind (with_args f s).nodes (rule_of (with_args f s).nodes) ≡ nodes_after f (with_kind kind s).nodes (rule_of (with_kind kind s).nodes) =
    ap (kind_after kind (with_args f s).nodes) (rule_after f s)
    ∙ elim (rule_of s.nodes) as (λ o. rule_of s.nodes ≡ o → kind_after kind (nodes_after f s.nodes o) (option_map (rule_with f) o) ≡ nodes_after f (kind_after kind s.nodes o) (rule_of (kind_after kind s.nodes o)))
    [ None ↦ λ e. rw e refl | Some r ↦ λ e. kind_nodes kind f s.nodes r e ] refl in
    ap (λ (nodes : List Item). record s { nodes = nodes }) nodes

pub slot_kind_exchanged : (kind : List ℕ) (f : List Segment → List Segment) (slot : Option Statement)
    → option_map (with_kind kind) (option_map (with_args f) slot) ≡ option_map (with_args f) (option_map (with_kind kind) slot)
slot_kind_exchanged kind f None = refl
slot_kind_exchanged kind f (Some s) = ap (λ (z : Statement). Some z) (kind_exchanged kind f s)

pub kind_told : (kind : List ℕ) (f : List Segment → List Segment) (slot : Option Statement) → sets_kind_of kind (option_map (with_args f) slot) ≡ sets_kind_of kind slot
kind_told kind f None = refl
kind_told kind f (Some s) =
    ap (λ x0. map_or (done None false) (λ r. done None (not (bytes_eq (kind_text r.kind) kind))) x0) (rule_after f s) ∙ elim (rule_of s.nodes) as (λ o. (map_or (done None false) (λ r. done None (not (bytes_eq (kind_text r.kind) kind))) (option_map (rule_with f) o)) ≡ (map_or (done None false) (λ r. done None (not (bytes_eq (kind_text r.kind) kind))) o)) [ None ↦ refl | Some r ↦ refl ]
