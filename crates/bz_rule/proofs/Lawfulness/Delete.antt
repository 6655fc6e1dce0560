-- What is owed of `delete`, which takes a rule out, and nothing else.
use Rattle.std.proofs.Common.{◌≡◌, List, true, false, Option, Some, None, is_some, if◌then◌else◌, refl, ℕ, [], ◌∷◌, Ok}
use Rattle.bz_tree.specs.Tree.{Statement}
use Rattle.bz_label.specs.Labels.{Package}
use Rattle.bz_rule.specs.declared.command.Action.TheVariants.{Delete}
use Rattle.bz_attribute.specs.Rules.{rule_of}
use Rattle.bz_attribute.specs.Effects.{holds_rule}
use Rattle.bz_rule.specs.Commands.{Command, IsRead, delete_of}
use Rattle.bz_rule.proofs.Lawful.{Lawful}
use Rattle.std.specs.List.{list_all}
use Rattle.std.specs.Str.{is_utf8}

deleted_differs : (slot : Option Statement) → holds_rule slot ≡ true → (if holds_rule slot then None else slot) ≡ slot → ⊥
deleted_differs None h same = absurd cc
deleted_differs (Some s) h same =
    elim (is_some (rule_of s.nodes)) as (λ b. b ≡ true → (if b then None else Some s) ≡ Some s → ⊥) [ true ↦ λ k i. cc | false ↦ λ k i. cc ] h same

pub delete_lawful : (home : Package) → Lawful Delete home
delete_lawful home = record {
  stays = λ slot h. rw h refl;
  differs = λ read slot h same. deleted_differs slot h same;
  noted = λ slot h. absurd cc;
  no_rule = λ slot h. h;
  local = tt;
}

-- What is read of words that are UTF-8 can be read, and its words are UTF-8.
pub delete_read : (words : List (List ℕ)) (c : Command) → Ok c ≡ delete_of words → list_all is_utf8 words ≡ true → IsRead c
delete_read [] c h u = let is : c ≡ Delete = cc in rw is (record { command = refl; words = refl })
delete_read (word ∷ words) c h u = absurd (cc)
