-- `for` before the first comma, by a walk and by what stands before that comma.
use Rattle.std.proofs.Common.{◌≡◌, ℕ, List, [], ◌∷◌, Bool, true, false, ◌||◌, take, refl, sym, ap, ◌∙◌, arith, one-add}
use Rattle.std.specs.Prelude.{flat_map}
use Rattle.std.specs.List.{list_any, position_or_len, before_first}
use Rattle.bz_tree.specs.Tree.{Item}
use Rattle.bz_tree.specs.Owners.{Inner, node, comma, comment, nodes_of, is_comma}
use Rattle.bz_tree.specs.Brackets.{is_for_item}
use Rattle.bz_tree.specs.Brackets as brackets
use Rattle.bz_tree.specs.Elements.{has_for}

-- what is no comma stands before the first comma
before_node : (line : ℕ) (x : Item) (owns : List Inner) → before_first is_comma (node line x ∷ owns) ≡ node line x ∷ before_first is_comma owns
before_node line x owns = rw (one-add (position_or_len is_comma owns)) refl

before_comment : (line : ℕ) (text : List ℕ) (owns : List Inner) → before_first is_comma (comment line text ∷ owns) ≡ comment line text ∷ before_first is_comma owns
before_comment line text owns = rw (one-add (position_or_len is_comma owns)) refl

pub has_for_is : (owns : List Inner) → brackets.has_for owns ≡ has_for owns
has_for_is [] = refl
has_for_is (comma t ∷ owns) = refl
has_for_is (node line x ∷ owns) = ap (λ os. list_any is_for_item (flat_map nodes_of os)) (before_node line x owns) ∙ ap (λ b. is_for_item x || b) (has_for_is owns)
has_for_is (comment line text ∷ owns) = ap (λ os. list_any is_for_item (flat_map nodes_of os)) (before_comment line text owns) ∙ has_for_is owns
