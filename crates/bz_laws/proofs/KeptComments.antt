-- Arguments that stay keep their own comments.
use Rattle.std.proofs.Common.{List, None, [], append-nil, ap, false, if◌then◌else◌, is_some, map, refl, sym, true, ℕ, ◌++◌, ◌∙◌, ◌∷◌, ◌≡◌}
use Rattle.std.proofs.lemmas.List.{map-append}
use Rattle.bz_tree.specs.Tree.{Item, Segment}
use Rattle.bz_label.specs.Labels.{Package}
use Rattle.bz_label.specs.declared.arguments.Attributes.{Attributes}
use Rattle.bz_label.specs.declared.arguments.Attributes.TheVariants.{Every, Named}
use Rattle.bz_label.specs.declared.arguments.Chosen.{Chosen}
use Rattle.bz_rule.specs.Add.{add}
use Rattle.bz_rule.specs.AddByValue.{new_elements, with_added}
use Rattle.bz_rule.proofs.Adds.{add_is}
use Rattle.bz_attribute.specs.Effects.{argument, edit_first, filtered, has, list_item, loses_all, unchosen}
use Rattle.bz_attribute.specs.Lists.{edit_parts, is_attribute, parts, with_value}
use Rattle.bz_rule.specs.Rename.{rename, rename_note, rename_to}
use Rattle.bz_rule.specs.Replace.{replace, replaced_in}
use Rattle.bz_attribute.specs.Rules.{first_named, is_named, value}
use Rattle.bz_rule.specs.Set.{is_value, new_of, new_value, set, set_if_absent, set_in}
use Rattle.bz_rule.specs.OwnComments.{Comments, no_comments, own_comments}
use Rattle.bz_token.specs.Common.{is_empty}
use Rattle.bz_laws.proofs.Segments.{either_way}

-- an edit of the first of a name that leaves what v sees
seen_first : {X : Type 0} (v : Segment → X) (attr : List ℕ) (g : Segment → Segment) → ((a : Segment) → v (g a) ≡ v a) → (args : List Segment)
    → map v (edit_first (is_named attr) (λ a. g a ∷ []) args) ≡ map v args
seen_first v attr g same [] = refl
seen_first {X} v attr g same (a ∷ args) =
    elim (is_named attr a) as (λ b. map v (if b then g a ∷ args else a ∷ edit_first (is_named attr) (λ z. g z ∷ []) args) ≡ v a ∷ map v args)
    [ true ↦ ap (λ (x : X). x ∷ map v args) (same a) | false ↦ ap (λ (xs : List X). v a ∷ xs) (seen_first v attr g same args) ]

-- the first of a name edited, or a new argument at the end
seen_or_new : (attr : List ℕ) (g : Segment → Segment) (new : List Item) → ((a : Segment) → own_comments (g a) ≡ own_comments a) → (args : List Segment)
    → map own_comments (if has attr args then edit_first (is_named attr) (λ a. g a ∷ []) args else args ++ argument attr new ∷ []) ≡ map own_comments args ++ (if has attr args then [] else no_comments ∷ [])
seen_or_new attr g new same args =
    elim (has attr args) as (λ b. map own_comments (if b then edit_first (is_named attr) (λ a. g a ∷ []) args else args ++ argument attr new ∷ []) ≡ map own_comments args ++ (if b then [] else no_comments ∷ [])) [
      | true ↦ seen_first own_comments attr g same args ∙ sym (append-nil (map own_comments args))
      | false ↦ map-append own_comments args (argument attr new ∷ [])
    ]

-- command by command

pub add_keeps : (home : Package) (attr : List ℕ) (values : List (List ℕ)) (args : List Segment) → map own_comments (add home attr values args) ≡ map own_comments args ++ (if has attr args then [] else no_comments ∷ [])
add_keeps home attr values args =
    ap (map own_comments) (add_is home attr values args)
    ∙ seen_or_new attr (with_added home values) (list_item (new_elements home [] values) ∷ []) (λ a. either_way (λ (z : Segment). own_comments z ≡ own_comments a) (is_empty (parts (value a))) refl refl) args

pub set_keeps : (attr : List ℕ) (words : List (List ℕ)) (args : List Segment) → map own_comments (set attr words args) ≡ map own_comments args ++ (if has attr args then [] else no_comments ∷ [])
set_keeps attr words args = seen_or_new attr (set_in (new_of attr words (first_named attr args))) (new_value (new_of attr words (first_named attr args))) (λ a.
    either_way (λ (z : Segment). own_comments z ≡ own_comments a) (is_value (new_of attr words (first_named attr args)) (value a)) refl refl) args

pub set_if_absent_keeps : (attr : List ℕ) (words : List (List ℕ)) (args : List Segment) → map own_comments (set_if_absent attr words args) ≡ map own_comments args ++ (if has attr args then [] else no_comments ∷ [])
set_if_absent_keeps attr words args =
    elim (has attr args) as (λ b. map own_comments (if b then args else args ++ argument attr (new_value (new_of attr words None)) ∷ []) ≡ map own_comments args ++ (if b then [] else no_comments ∷ [])) [
      | true ↦ sym (append-nil (map own_comments args))
      | false ↦ map-append own_comments args (argument attr (new_value (new_of attr words None)) ∷ [])
    ]

pub rename_keeps : (old new : List ℕ) (args : List Segment) → map own_comments (rename old new args) ≡ map own_comments args
rename_keeps old new args =
    either_way (λ (zs : List Segment). map own_comments zs ≡ map own_comments args) (is_some (rename_note old new args)) refl (seen_first own_comments old (rename_to new) (λ a. refl) args)

pub replace_keeps : (home : Package) (attrs : Attributes) (old new : List ℕ) (args : List Segment) → map own_comments (replace home attrs old new args) ≡ map own_comments args
replace_keeps home (Named attr) old new args = seen_first own_comments attr (replaced_in home old new) (λ a. refl) args
replace_keeps home Every old new [] = refl
replace_keeps home Every old new (a ∷ args) =
    elim (is_attribute a) as (λ b. own_comments (if b then replaced_in home old new a else a) ∷ map own_comments (replace home Every old new args) ≡ own_comments a ∷ map own_comments args) [
      | true ↦ ap (λ (cs : List Comments). own_comments a ∷ cs) (replace_keeps home Every old new args)
      | false ↦ ap (λ (cs : List Comments). own_comments a ∷ cs) (replace_keeps home Every old new args)
    ]

-- an argument that `remove` leaves has its comments
pub left_keeps : (home : Package) (chosen : Chosen) (a : Segment) → map own_comments (filtered (unchosen home chosen) a) ≡ (if loses_all (unchosen home chosen) (value a) then [] else own_comments a ∷ [])
left_keeps home chosen a =
    elim (loses_all (unchosen home chosen) (value a)) as (λ b. map own_comments (if b then [] else with_value (edit_parts (unchosen home chosen) (value a)) a ∷ []) ≡ (if b then [] else own_comments a ∷ []))
    [ true ↦ refl | false ↦ refl ]

-- what arguments keep of their comments
pub ruleset own_comments_stay = (add_keeps, left_keeps, rename_keeps, replace_keeps, set_if_absent_keeps, set_keeps)
