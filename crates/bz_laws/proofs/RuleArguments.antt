-- The arguments of a rule after an edit of them, and after another kind.
use Rattle.std.proofs.Common.{◌≡◌, ℕ, List, [], Bool, true, false, Option, Some, None, option_map, is_some, if◌then◌else◌, refl, ap, sym, ◌∙◌}
use Rattle.bz_attribute.proofs.RuleParts.{rule_dotted}
use Rattle.std.specs.Prelude.{bytes_eq}
use Rattle.std.proofs.lemmas.Bool.{false≢true}
use Rattle.bz_tree.specs.Tree.{Segment, Statement}
use Rattle.bz_attribute.specs.Rules.{Rule, kind_text, rule_of}
use Rattle.bz_attribute.specs.Effects.{nodes_of, with_args}
use Rattle.bz_attribute.specs.private.RuleNodes.{nodes_after}
use Rattle.bz_rule.specs.Set.{kind_items, with_kind}
use Rattle.bz_rule.specs.private.Steps.{kind_after}
use Rattle.bz_rule.specs.Comment.{comment_rule}
use Rattle.bz_label.specs.Labels.{Package}
use Rattle.bz_label.specs.declared.arguments.Commented.TheVariants.{Rule as OfRule}
use Rattle.bz_label.specs.declared.arguments.Setting.TheVariants.{ToKind}
use Rattle.bz_rule.specs.declared.command.Action.TheVariants.{Set, Delete, Comment, Print}
use Rattle.bz_rule.specs.Commands.{Command, after, args_after}
use Rattle.bz_laws.specs.Again.{is_steady, sets_a_kind}
use Rattle.bz_attribute.proofs.EditedRules.{nodes_read}
use Rattle.bz_rule.proofs.RuleClass.{kind_dotted}

-- the arguments of what may be a rule
abbrev pub there : Option Rule → Option (List Segment)
there o = option_map (λ (r : Rule). r.args) o

edited_there : (f : List Segment → List Segment) (s : Statement) → there (rule_of (with_args f s).nodes) ≡ option_map f (there (rule_of s.nodes))
edited_there f s =
    elim (rule_of s.nodes) as (λ o. rule_of s.nodes ≡ o → there (rule_of (nodes_after f s.nodes o)) ≡ option_map f (there o))
    [ None ↦ λ e. ap there e | Some r ↦ λ e. ap there (nodes_read (record r { args = f r.args }) (rule_dotted s.nodes r e)) ] refl

kind_set : (kind : List ℕ) (s : Statement) → there (rule_of (with_kind kind s).nodes) ≡ there (rule_of s.nodes)
kind_set kind s =
    elim (rule_of s.nodes) as (λ o. rule_of s.nodes ≡ o → there (rule_of (kind_after kind s.nodes o)) ≡ there o) [
      | None ↦ λ e. ap there e
      | Some r ↦ λ e.
          elim (bytes_eq (kind_text r.kind) kind) as (λ b. there (rule_of (if b then s.nodes else nodes_of (record r { kind = kind_items kind }))) ≡ Some r.args)
          [ true ↦ ap there e | false ↦ ap there (nodes_read (record r { kind = kind_items kind }) (kind_dotted kind)) ]
    ] refl

no_edit : (o : Option (List Segment)) → o ≡ option_map (λ args. args) o
no_edit None = refl
no_edit (Some args) = refl

edited : (f : List Segment → List Segment) (s t : Statement) → Some (with_args f s) ≡ Some t → there (rule_of t.nodes) ≡ option_map f (there (rule_of s.nodes))
edited f s t h = let is : with_args f s ≡ t = cc in ap (λ (z : Statement). there (rule_of z.nodes)) (sym is) ∙ edited_there f s

same : (s t : Statement) → Some s ≡ Some t → there (rule_of t.nodes) ≡ option_map (λ args. args) (there (rule_of s.nodes))
same s t h = let is : s ≡ t = cc in ap (λ (z : Statement). there (rule_of z.nodes)) (sym is) ∙ no_edit (there (rule_of s.nodes))

left_alone : (s t : Statement) (b : Bool) → (if b then None else Some s) ≡ Some t → there (rule_of t.nodes) ≡ option_map (λ args. args) (there (rule_of s.nodes))
left_alone s t true h = absurd cc
left_alone s t false h = same s t h

-- a command does to a statement what it does to its arguments
pub there_after : (c : Command) (home : Package) (s t : Statement) → after c home (Some s) ≡ Some t → there (rule_of t.nodes) ≡ option_map (args_after c home) (there (rule_of s.nodes))
there_after (Set (ToKind kind)) home s t h =
    let is : with_kind kind s ≡ t = cc in
    ap (λ (z : Statement). there (rule_of z.nodes)) (sym is) ∙ kind_set kind s ∙ no_edit (there (rule_of s.nodes))
there_after Delete home s t h = left_alone s t (is_some (rule_of s.nodes)) h
there_after (Comment OfRule text) home s t h =
    let is : comment_rule text s ≡ t = cc in
    ap (λ (z : Statement). there (rule_of z.nodes)) (sym is) ∙ no_edit (there (rule_of s.nodes))
there_after (Print fields) home s t h = same s t h
there_after c home s t h = edited (args_after c home) s t h

-- the kind of a rule after a command on its arguments

abbrev pub kind_there : Option Rule → Option (List ℕ)
kind_there o = option_map (λ (r : Rule). kind_text r.kind) o

edited_kind : (f : List Segment → List Segment) (s t : Statement) → Some (with_args f s) ≡ Some t → kind_there (rule_of t.nodes) ≡ kind_there (rule_of s.nodes)
edited_kind f s t h =
    let is : with_args f s ≡ t = cc in
    ap (λ (z : Statement). kind_there (rule_of z.nodes)) (sym is)
    ∙ elim (rule_of s.nodes) as (λ o. rule_of s.nodes ≡ o → kind_there (rule_of (nodes_after f s.nodes o)) ≡ kind_there o)
    [ None ↦ λ e. ap kind_there e | Some r ↦ λ e. ap kind_there (nodes_read (record r { args = f r.args }) (rule_dotted s.nodes r e)) ] refl

pub kind_kept : (c : Command) (home : Package) (s t : Statement) → is_steady c ≡ true → sets_a_kind c ≡ false → after c home (Some s) ≡ Some t → kind_there (rule_of t.nodes) ≡ kind_there (rule_of s.nodes)
kind_kept (Set (ToKind kind)) home s t steady other h = absurd (false≢true (sym other))
kind_kept Delete home s t steady other h = absurd (false≢true steady)
kind_kept (Comment place text) home s t steady other h = absurd (false≢true steady)
kind_kept (Print fields) home s t steady other h = let is : s ≡ t = cc in ap (λ (z : Statement). kind_there (rule_of z.nodes)) (sym is)
kind_kept c home s t steady other h = edited_kind (args_after c home) s t h
