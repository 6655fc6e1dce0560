-- What `delete` keeps.
use Rattle.std.proofs.Common.{◌≡◌, List, true, false, Option, None, is_some, if◌then◌else◌, map, option_map, refl, ap, ◌∙◌, suc}
use Rattle.bz_tree.specs.Tree.{Segment, Statement}
use Rattle.bz_label.specs.Labels.{Package}
use Rattle.bz_rule.specs.declared.command.Action.TheVariants.{Delete}
use Rattle.bz_attribute.specs.Rules.{rule_of}
use Rattle.bz_attribute.specs.Effects.{holds_rule, with_args}
use Rattle.bz_attribute.specs.Reports.{done}
use Rattle.bz_rule.specs.Commands.{after}
use Rattle.bz_laws.proofs.Keeps.{Keeps, SlotFormed}
use Rattle.bz_laws.proofs.Rebuilt.{holds_after}
use Rattle.bz_laws.proofs.PassingRules.{SlotPasses}
use Rattle.bz_laws.proofs.Segments.{either_way}

delete_aside : (home : Package) (f : List Segment → List Segment) (slot : Option Statement) → after Delete home (option_map (with_args f) slot) ≡ option_map (with_args f) (after Delete home slot)
delete_aside home f slot =
    ap (λ b. if b then None else option_map (with_args f) slot) (holds_after f slot)
    ∙ elim (holds_rule slot) as (λ b. (if b then None else option_map (with_args f) slot) ≡ option_map (with_args f) (if b then None else slot)) [ true ↦ refl | false ↦ refl ]

pub delete_keeping : (home : Package) → Keeps Delete home
delete_keeping home = record {
  aside = λ g aside slot. delete_aside home (map g) slot;
  told = λ g aside slot. ap (done None) (holds_after (map g) slot);
  arguments = λ depth args h good. good;
  statement = λ depth s h w. either_way (SlotFormed (suc (suc depth))) (is_some (rule_of s.nodes)) tt w;
  texts = λ q w s h k. either_way (SlotPasses q) (is_some (rule_of s.nodes)) tt k;
  left = λ args. refl;
  comments = λ k. absurd cc;
}
