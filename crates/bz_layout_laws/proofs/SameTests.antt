-- What a statement is does not hang on the spelling of strings.
use Rattle.std.proofs.Common.{◌≡◌, ◌&&◌, ◌||◌, List, [], ◌∷◌, map, refl, ap, codes}
use Rattle.std.specs.Prelude.{if◌then◌else◌}
use Rattle.std.specs.Str.{bytes_eq}
use Rattle.bz_token.specs.declared.token.Kind.TheVariants.{Identifier, Operator, String}
use Rattle.bz_tree.specs.declared.tree.Class.TheVariants.{Load, Assign, Rule, Other, Block}
use Rattle.bz_tree.specs.Statement.{is_assign, is_kept, class_of}
use Rattle.bz_tree.specs.Kinds.{is_load_word}
use Rattle.bz_tree.specs.Elements.{rule_call}
use Rattle.bz_tree.specs.Tree.{Item, leaf, group, is_rule, is_rule_after}
use Rattle.bz_layout_laws.specs.Spelled.{spelled}
use Rattle.std.specs.List.{list_any}

kept_spelled : (x : Item) → is_kept (spelled x) ≡ is_kept x
kept_spelled (group kind segs one_comma end) = refl
kept_spelled (leaf String text) = refl
kept_spelled (leaf _ text) = refl

pub load_spelled : (x : Item) → is_load_word (spelled x) ≡ is_load_word x
load_spelled (group kind segs one_comma end) = refl
load_spelled (leaf String text) = refl
load_spelled (leaf _ text) = refl

assign_spelled : (x : Item) → is_assign (spelled x) ≡ is_assign x
assign_spelled (group kind segs one_comma end) = refl
assign_spelled (leaf String text) = refl
assign_spelled (leaf _ text) = refl

mutual
  pub rule_spelled : (xs : List Item) → is_rule (map spelled xs) ≡ is_rule xs
  rule_spelled [] = refl
  rule_spelled (leaf Identifier text ∷ xs) = after_spelled xs
  rule_spelled (leaf _ text ∷ xs) = refl
  rule_spelled (group kind segs one_comma end ∷ xs) = refl

  after_spelled : (xs : List Item) → is_rule_after (map spelled xs) ≡ is_rule_after xs
  after_spelled [] = refl
  after_spelled (leaf Operator text ∷ xs) = ap (λ b. bytes_eq text (codes ".") && b) (rule_spelled xs)
  after_spelled (leaf _ text ∷ xs) = refl
  after_spelled (group kind segs one_comma end ∷ []) = refl
  after_spelled (group kind segs one_comma end ∷ x ∷ xs) = refl

-- the nodes of a statement, the call of a rule with them
abbrev pub rule_nodes : List Item → List Item
rule_nodes xs = if is_rule xs then rule_call xs else xs

-- so a class stays
assigned : (xs : List Item) → list_any is_assign (map spelled xs) ≡ list_any is_assign xs
assigned [] = refl
assigned (x ∷ xs) = λ i. assign_spelled x i || assigned xs i

pub class_spelled : (xs : List Item) → class_of (map spelled xs) ≡ class_of xs
class_spelled [] = refl
class_spelled (x ∷ xs) =
    λ i. if kept_spelled x i then Block else (if load_spelled x i then Load else (if assigned (x ∷ xs) i then Assign else (if rule_spelled (x ∷ xs) i then Rule else Other)))
