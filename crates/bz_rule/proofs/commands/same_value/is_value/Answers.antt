use Rattle.std.proofs.Common.{◌≡◌, ℕ, List, [], ◌∷◌, false, Option, None, Some, is_some, map, refl, ap, subst, sym, ◌∙◌}
use Rattle.bz_token.specs.declared.token.Kind.TheVariants.{Identifier, Integer, String}
use Rattle.bz_tree.specs.Rows.{RowPart, part_view}
use Rattle.bz_tree.specs.Tree.{Item, Segment, leaf, group}
use Rattle.bz_attribute.specs.Elements.{OnlyList, value_parts}
use Rattle.bz_rule.specs.Set as spec
use Rattle.bz_rule.specs.Set.{NewConstant, NewNumber, NewString, NewStrings, is_value}
use Rattle.bz_rule.specs.private.Steps.{are_strings}
use Rattle.bz_attribute.proofs.Slices.{rest_seen}
use Rattle.bz_attribute.specs.Lists.{only_list}
use Rattle.bz_attribute.proofs.ListPieces.{only_more}
use Rattle.bz_token.specs.Common.{map_or}
use Rattle.bz_rule.specs.declared.commands.set.New.{New}
use Rattle.bz_rule.specs.private.SetViews.{new_view}
use Rattle.bz_rule.specs.private.ValueParts.{one_token}
use Rattle.bz_rule.proofs.SameValues.{in_list}
use Rattle.bz_rule.proofs.commands.same_value.is_value.Goals as goal

-- two nodes are no token, and neither is a list
two : (new : spec.New) (x y : Item) (xs : List Item) → is_value new [] ≡ is_value new (x ∷ y ∷ xs)
two (NewString word) (leaf String text) y xs = refl
two (NewString word) (leaf _ text) y xs = refl
two (NewString word) (group k segs one_comma end) y xs = refl
two (NewNumber digits) (leaf Integer text) y xs = refl
two (NewNumber digits) (leaf _ text) y xs = refl
two (NewNumber digits) (group k segs one_comma end) y xs = refl
two (NewConstant name) (leaf Identifier text) y xs = refl
two (NewConstant name) (leaf _ text) y xs = refl
two (NewConstant name) (group k segs one_comma end) y xs = refl
two (NewStrings words) x y xs = sym (ap (map_or false (are_strings words)) (only_more x y xs))

token_told : (new : New) (nodes : List Item) (after : List RowPart) → ((words : _) → new ≡ New.Strings words → ⊥) → is_value (new_view new) (one_token (value_parts nodes after)) ≡ is_value (new_view new) nodes
token_told new [] after other = refl
token_told new (leaf k text ∷ []) after other = refl
token_told new (leaf k text ∷ leaf l more ∷ xs) after other = two (new_view new) (leaf k text) (leaf l more) xs
token_told new (leaf k text ∷ group l segs one_comma end ∷ xs) after other = two (new_view new) (leaf k text) (group l segs one_comma end) xs
token_told (New.String word) (group k segs one_comma end ∷ []) after other = refl
token_told (New.Number digits) (group k segs one_comma end ∷ []) after other = refl
token_told (New.Constant name) (group k segs one_comma end ∷ []) after other = refl
token_told (New.Strings words) (group k segs one_comma end ∷ []) after other = absurd (other words refl)
token_told new (group k segs one_comma end ∷ y ∷ xs) after other = two (new_view new) (group k segs one_comma end) y xs

-- no list is no list of strings
none_told : (words : List (List ℕ)) (o : Option (List Segment)) → is_some o ≡ false → false ≡ map_or false (are_strings words) o
none_told words None h = refl
none_told words (Some ss) h = absurd cc

no_list_told : (words : List (List ℕ)) (nodes : List Item) → is_some (only_list nodes) ≡ false → false ≡ is_value (NewStrings words) nodes
no_list_told words nodes h = none_told words (only_list nodes) h

pub returns-in_default : goal.returns-in_default
returns-in_default c = λ nodes after read list.
    c.is_token.ensures ∙ ap (λ (ps : List RowPart). is_value (new_view c.args.new) (one_token ps)) (rest_seen c.args.parts.now c.args.value ∙ read) ∙ token_told c.args.new nodes after c.in_default.not-Strings-0

pub returns-in-Strings-Some : goal.returns-in-Strings-Some
returns-in-Strings-Some c = λ nodes after read list.
    in_list c.in-Strings-Some.words.now nodes after (map part_view c.args.parts.now) c.in-Strings-Some.from _ (subst (λ (o : Option ℕ). OnlyList nodes after (map part_view c.args.parts.now) o) c.in-Strings-Some.is-1 list) c.are_strings.ensures
    ∙ ap (λ (new : New). is_value (new_view new) nodes) (sym c.in-Strings-Some.is-0)

pub returns-in-Strings-None : goal.returns-in-Strings-None
returns-in-Strings-None c = λ nodes after read list.
    no_list_told c.in-Strings-None.field-0-0.now nodes (subst (λ (o : Option ℕ). OnlyList nodes after (map part_view c.args.parts.now) o) c.in-Strings-None.is-1 list) ∙ ap (λ (new : New). is_value (new_view new) nodes) (sym c.in-Strings-None.is-0)
