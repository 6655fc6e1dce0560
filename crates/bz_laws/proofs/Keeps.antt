-- What a command keeps; of one on the arguments of a rule it follows from what it keeps of these.
use Rattle.std.proofs.Common.{◌≡◌, ℕ, List, Bool, true, Option, Some, None, map, option_map, refl, ap, sym, ◌∙◌, suc, subst}
use Rattle.bz_tree.specs.Tree.{Segment, Statement}
use Rattle.bz_label.specs.Labels.{Package}
use Rattle.bz_rule.specs.Commands.{Command, is_command, command_passes, after, args_after, args_done, done_of, keeps_comments}
use Rattle.bz_attribute.specs.Rules.{rule_of}
use Rattle.bz_attribute.specs.Effects.{with_args}
use Rattle.bz_attribute.specs.Reports.{slot_done}
use Rattle.bz_attribute.specs.private.RuleNodes.{nodes_after}
use Rattle.bz_laws.specs.Aside.{IsAside}
use Rattle.bz_laws.specs.Unmentioned.{unmentioned}
use Rattle.bz_laws.proofs.Rebuilt.{slot_exchanged, told_alike}
use Rattle.bz_tree.specs.private.Productions.{IsArg}
use Rattle.bz_layout_laws.specs.WellFormed.{IsWellFormed}
use Rattle.bz_laws.proofs.PassingParts.{KeepsPassing}
use Rattle.bz_laws.proofs.PassingRules.{SlotPasses, StatementPasses, args_nodes_pass, with_nodes}
use Rattle.bz_laws.proofs.PassingWritten.{PassesWritten}
use Rattle.bz_laws.proofs.RuleFormed.{rule_formed, rule_parts}
use Rattle.bz_laws.proofs.Segments.{AreFormed}
use Rattle.bz_tree.specs.Comments.{comments_of}
use Rattle.bz_laws.proofs.AllComments.{in_all, slot_comments}

-- what a slot holds is well formed
abbrev pub SlotFormed : ℕ → Option Statement → Type 0
SlotFormed depth None = Unit {0}
SlotFormed depth (Some s) = IsWellFormed depth s

-- Arguments that a command does not mention may be changed before it or after it, and it tells the same. One that was read leaves what is well formed so; texts that pass a test do so afterwards, if the words of the command do. Arguments that it does not mention stay. Comments stay where it is a command that leaves them.
pub record Keeps (c : Command) (home : Package) : Type 0 where
  pub aside : (g : Segment → Segment) → IsAside c g → (slot : Option Statement) → after c home (option_map (with_args (map g)) slot) ≡ option_map (with_args (map g)) (after c home slot)
  pub told : (g : Segment → Segment) → IsAside c g → (slot : Option Statement) → done_of c home (option_map (with_args (map g)) slot) ≡ done_of c home slot
  pub arguments : (depth : ℕ) (args : List Segment) → is_command c ≡ true → AreFormed IsArg (suc depth) args → AreFormed IsArg (suc depth) (args_after c home args)
  pub statement : (depth : ℕ) (s : Statement) → is_command c ≡ true → IsWellFormed (suc (suc depth)) s → SlotFormed (suc (suc depth)) (after c home (Some s))
  pub texts : (q : List ℕ → Bool) → PassesWritten q → (s : Statement) → command_passes q c ≡ true → StatementPasses q s → SlotPasses q (after c home (Some s))
  pub left : (args : List Segment) → unmentioned c (args_after c home args) ≡ unmentioned c args
  pub comments : keeps_comments c ≡ true → (slot : Option Statement) → option_map comments_of (after c home slot) ≡ option_map comments_of slot

-- of one on the arguments of a rule
pub record KeepsArguments (c : Command) (home : Package) : Type 0 where
  pub aside : (g : Segment → Segment) → IsAside c g → (args : List Segment) → args_after c home (map g args) ≡ map g (args_after c home args)
  pub told : (g : Segment → Segment) → IsAside c g → (args : List Segment) → args_done c home (map g args) ≡ args_done c home args
  pub formed : (depth : ℕ) (args : List Segment) → is_command c ≡ true → AreFormed IsArg (suc depth) args → AreFormed IsArg (suc depth) (args_after c home args)
  pub passes : (q : List ℕ → Bool) → PassesWritten q → command_passes q c ≡ true → KeepsPassing q (args_after c home)
  pub left : (args : List Segment) → unmentioned c (args_after c home args) ≡ unmentioned c args
  pub comments : keeps_comments c ≡ true → (args : List Segment) → in_all (args_after c home args) ≡ in_all args

-- other arguments of a rule
args_stay_formed : (depth : ℕ) (f : List Segment → List Segment) → ((args : List Segment) → AreFormed IsArg depth args → AreFormed IsArg depth (f args)) → (s : Statement) → IsWellFormed (suc depth) s → IsWellFormed (suc depth) (with_args f s)
args_stay_formed depth f keep s w =
    elim (rule_of s.nodes) as (λ o. rule_of s.nodes ≡ o → IsWellFormed (suc depth) (record s { nodes = nodes_after f s.nodes o })) [
      | None ↦ λ e. w
      | Some r ↦ λ e.
          let p = rule_parts depth s r e w in
          rule_formed depth s (record r { args = f r.args })
          (record { kind = p.kind; args = keep r.args p.args; no_comma = p.no_comma; end = p.end; before = p.before; suffix = p.suffix; class = p.class })
    ] refl

-- and it keeps of a slot what it keeps of these
pub keeps_slot : (c : Command) (home : Package) → ((slot : Option Statement) → after c home slot ≡ option_map (with_args (args_after c home)) slot)
    → ((slot : Option Statement) → done_of c home slot ≡ slot_done (args_done c home) slot) → KeepsArguments c home → Keeps c home
keeps_slot c home is told law = record {
  aside = λ g aside slot.
      is (option_map (with_args (map g)) slot) ∙ slot_exchanged (args_after c home) (map g) (law.aside g aside) slot ∙ ap (option_map (with_args (map g))) (sym (is slot));
  told = λ g aside slot. told (option_map (with_args (map g)) slot) ∙ told_alike (args_done c home) (map g) (law.told g aside) slot ∙ sym (told slot);
  arguments = law.formed;
  statement = λ depth s read w. subst (SlotFormed (suc (suc depth))) (sym (is (Some s))) (args_stay_formed (suc depth) (args_after c home) (λ args good. law.formed depth args read good) s w);
  texts = λ q w s h k. subst (SlotPasses q) (sym (is (Some s))) (with_nodes q s (nodes_after (args_after c home) s.nodes (rule_of s.nodes)) (args_nodes_pass q (args_after c home) (law.passes q w h) s.nodes) k);
  left = law.left;
  comments = λ keeps slot. ap (option_map comments_of) (is slot) ∙ slot_comments (args_after c home) (law.comments keeps) slot;
}
