-- What is owed of a command for the program; of one on the arguments of a rule it follows from what it does to them.
use Rattle.std.proofs.Common.{◌≡◌, ℕ, List, [], ◌∷◌, Bool, true, false, Option, Some, None, option_map, is_some, if◌then◌else◌, refl, ap, sym, ◌∙◌, Result, Ok, Err}
use Rattle.std.specs.Prelude.{IfSome}
use Rattle.std.proofs.lemmas.List.{append_cancel_left}
use Rattle.bz_tree.specs.declared.tree.GroupKind.TheVariants.{RuleCall}
use Rattle.bz_tree.specs.Tree.{Item, group, Segment, Statement, segs_of, segments}
use Rattle.bz_label.specs.Labels.{Package}
use Rattle.bz_rule.specs.Commands.{Command, is_command, after, args_after, args_done, done_of}
use Rattle.bz_attribute.specs.Rules.{Rule, rule_of}
use Rattle.bz_attribute.specs.declared.done.Done.{Done}
use Rattle.bz_attribute.specs.declared.done.Note.{Note}
use Rattle.bz_attribute.specs.Effects.{holds_rule, nodes_of, with_args}
use Rattle.bz_attribute.specs.Reports.{done, slot_done}
use Rattle.bz_attribute.specs.private.RuleNodes.{nodes_after}
use Rattle.bz_attribute.specs.RowPlaces.{IsLocal, LooksAt}
use Rattle.bz_rule.specs.OneAttribute.{one_attribute}
use Rattle.bz_attribute.proofs.Views.{segments_of}
use Rattle.bz_attribute.proofs.RuleNodes.{rule_nodes}
use Rattle.bz_rule.specs.declared.command.CommandFault.{CommandFault}
use Rattle.bz_token.specs.Common.{map_or}

-- Of a command that looks at the first argument of a name alone.
pub record Local (c : Command) (home : Package) (name : List ℕ) : Type 0 where
  pub args : IsLocal name (args_after c home)
  pub told : LooksAt name (args_done c home)
  pub slot : (s : Statement) → after c home (Some s) ≡ Some (with_args (args_after c home) s)
  pub done : (s : Statement) → done_of c home (Some s) ≡ slot_done (args_done c home) (Some s)

-- Where it tells no change, all stays, else something differs. With a note there is no change, and none of what is no rule.
pub record Lawful (c : Command) (home : Package) : Type 0 where
  pub stays : (slot : Option Statement) → (done_of c home slot).changed ≡ false → after c home slot ≡ slot
  pub differs : is_command c ≡ true → (slot : Option Statement) → (done_of c home slot).changed ≡ true → after c home slot ≡ slot → ⊥
  pub noted : (slot : Option Statement) → is_some (done_of c home slot).note ≡ true → (done_of c home slot).changed ≡ false
  pub no_rule : (slot : Option Statement) → holds_rule slot ≡ false → (done_of c home slot).changed ≡ false
  pub local : IfSome (one_attribute c) (Local c home)

-- the same of arguments
pub record OnArguments (c : Command) (home : Package) : Type 0 where
  pub stays : (args : List Segment) → (args_done c home args).changed ≡ false → args_after c home args ≡ args
  pub differs : is_command c ≡ true → (args : List Segment) → (args_done c home args).changed ≡ true → args_after c home args ≡ args → ⊥
  pub noted : (args : List Segment) → is_some (args_done c home args).note ≡ true → (args_done c home args).changed ≡ false
  pub local : IfSome (one_attribute c) (Local c home)

-- where there is a note, nothing is changed
pub note_unchanged : (n : Option Note) (b : Bool) → is_some (done n b).note ≡ true → (done n b).changed ≡ false
note_unchanged None b h = absurd cc
note_unchanged (Some n) b h = refl

pub done_changed : (n : Option Note) (b : Bool) → (done n b).changed ≡ true → (n ≡ None) × (b ≡ true)
done_changed None b h = (refl, h)
done_changed (Some n) b h = absurd cc

-- an effect that is left out where there is a note, or where there is nothing to change
pub guarded_same : (n : Option Note) (b : Bool) (new args : List Segment) → (b ≡ false → new ≡ args) → (done n b).changed ≡ false → (if is_some n then args else new) ≡ args
guarded_same None b new args keep h = keep h
guarded_same (Some n) b new args keep h = refl

call_same : (r : Rule) (args : List Segment) → nodes_of (record r { args = args }) ≡ nodes_of r → args ≡ r.args
call_same r args h =
    let calls : group RuleCall (segs_of args) r.one_comma r.end ∷ [] ≡ group RuleCall (segs_of r.args) r.one_comma r.end ∷ [] =
    append_cancel_left r.kind (group RuleCall (segs_of args) r.one_comma r.end ∷ []) (group RuleCall (segs_of r.args) r.one_comma r.end ∷ []) h in
    let segs : segs_of args ≡ segs_of r.args = cc in
    sym (segments_of args) ∙ ap segments segs ∙ segments_of r.args

statement_stays : (c : Command) (home : Package) → OnArguments c home → (s : Statement) → (map_or (done None false) (λ r. (args_done c home) r.args) (rule_of s.nodes)).changed ≡ false → with_args (args_after c home) s ≡ s
statement_stays c home law s h =
    elim (rule_of s.nodes) as (λ r. rule_of s.nodes ≡ r → (map_or (done None false) (λ r. (args_done c home) r.args) r).changed ≡ false → record s { nodes = nodes_after (args_after c home) s.nodes r } ≡ s) [
      | None ↦ λ e k. refl
      | Some r ↦ λ e k.
          let kept : nodes_after (args_after c home) s.nodes (Some r) ≡ s.nodes = ap (λ (args : List Segment). nodes_of (record r { args = args })) (law.stays r.args k) ∙ rule_nodes s.nodes r e in
          ap (λ (nodes : List Item). record s { nodes = nodes }) kept
    ] refl h

statement_differs : (c : Command) (home : Package) → OnArguments c home → is_command c ≡ true → (s : Statement) → (map_or (done None false) (λ r. (args_done c home) r.args) (rule_of s.nodes)).changed ≡ true → with_args (args_after c home) s ≡ s → ⊥
statement_differs c home law read s h same =
    elim (rule_of s.nodes) as (λ r. rule_of s.nodes ≡ r → (map_or (done None false) (λ r. (args_done c home) r.args) r).changed ≡ true → record s { nodes = nodes_after (args_after c home) s.nodes r } ≡ s → ⊥) [
      | None ↦ λ e k i. cc
      | Some r ↦ λ e k i. law.differs read r.args k (call_same r (args_after c home r.args) (ap (λ (z : Statement). z.nodes) i ∙ sym (rule_nodes s.nodes r e)))
    ] refl h same

slot_stays : (c : Command) (home : Package) → OnArguments c home → (slot : Option Statement) → (slot_done (args_done c home) slot).changed ≡ false → option_map (with_args (args_after c home)) slot ≡ slot
slot_stays c home law None h = refl
slot_stays c home law (Some s) h = ap (λ (z : Statement). Some z) (statement_stays c home law s h)

slot_differs : (c : Command) (home : Package) → OnArguments c home → is_command c ≡ true → (slot : Option Statement) → (slot_done (args_done c home) slot).changed ≡ true → option_map (with_args (args_after c home)) slot ≡ slot → ⊥
slot_differs c home law read None h same = cc
slot_differs c home law read (Some s) h same = let is : with_args (args_after c home) s ≡ s = cc in statement_differs c home law read s h is

slot_noted : (c : Command) (home : Package) → OnArguments c home → (slot : Option Statement) → is_some (slot_done (args_done c home) slot).note ≡ true → (slot_done (args_done c home) slot).changed ≡ false
slot_noted c home law None h = refl
slot_noted c home law (Some s) h =
    elim (rule_of s.nodes) as (λ r. is_some (map_or (done None false) (λ r. (args_done c home) r.args) r).note ≡ true → (map_or (done None false) (λ r. (args_done c home) r.args) r).changed ≡ false) [ None ↦ λ k. refl | Some r ↦ λ k. law.noted r.args k ] h

slot_no_rule : (g : List Segment → Done) (slot : Option Statement) → holds_rule slot ≡ false → (slot_done g slot).changed ≡ false
slot_no_rule g None h = refl
slot_no_rule g (Some s) h = elim (rule_of s.nodes) as (λ r. is_some r ≡ false → (map_or (done None false) (λ r. g r.args) r).changed ≡ false) [ None ↦ λ k. refl | Some r ↦ λ k. absurd cc ] h

-- a command that does to a slot what it does to the arguments of its rule
pub on_arguments : (c : Command) (home : Package) → ((slot : Option Statement) → after c home slot ≡ option_map (with_args (args_after c home)) slot)
    → ((slot : Option Statement) → done_of c home slot ≡ slot_done (args_done c home) slot) → OnArguments c home → Lawful c home
on_arguments c home is told law = record {
  stays = λ slot h. is slot ∙ slot_stays c home law slot (ap (λ (d : Done). d.changed) (sym (told slot)) ∙ h);
  differs = λ read slot h same. slot_differs c home law read slot (ap (λ (d : Done). d.changed) (sym (told slot)) ∙ h) (sym (is slot) ∙ same);
  noted = λ slot h. ap (λ (d : Done). d.changed) (told slot) ∙ slot_noted c home law slot (ap (λ (d : Done). is_some d.note) (sym (told slot)) ∙ h);
  no_rule = λ slot h. ap (λ (d : Done). d.changed) (told slot) ∙ slot_no_rule (args_done c home) slot h;
  local = law.local;
}

-- where a test gives no fault, it failed; where it gives no other, it held
pub passed : (test : Bool) (fault : CommandFault) (read : Result Command CommandFault) (c : Command) → Ok c ≡ (if test then Err fault else read) → (test ≡ false) × (Ok c ≡ read)
passed true fault read c h = absurd (cc)
passed false fault read c h = (refl, h)

pub held : (test : Bool) (fault : CommandFault) (d c : Command) → Ok c ≡ (if test then Ok d else Err fault) → (test ≡ true) × (c ≡ d)
held true fault d c h = (refl, cc)
held false fault d c h = absurd (cc)
