-- The name of an argument, and its parts.
use Rattle.std.proofs.Common.{◌≡◌, List, [], ◌∷◌, ◌++◌, ℕ, Bool, true, false, if◌then◌else◌, Option, None, map, refl, sym, append_assoc}
use Rattle.std.specs.Prelude.{codes}
use Rattle.bz_tree.specs.declared.tree.GroupKind.{GroupKind}
use Rattle.bz_tree.specs.Tree.{Item, leaf, group, Segs, Segment, items_of, segs_of, is_operator_item}
use Rattle.bz_tree.specs.Rows.{RowPart, segment_end, above, beside_part, items_parts, segs_parts}
use Rattle.bz_attribute.specs.Rules.{name_of}
use Rattle.bz_token.specs.declared.token.Kind.TheVariants.{Identifier, Operator}
use Rattle.bz_attribute.specs.private.Parts.{flat_name}

no_name : (y : Item) → (if◌then◌else◌ {A = Option (List ℕ)} (is_operator_item (codes "=") y) None None) ≡ None
no_name y = elim (is_operator_item (codes "=") y) as (λ b. (if◌then◌else◌ {A = Option (List ℕ)} b None None) ≡ None) [ true ↦ refl | false ↦ refl ]

pub group_name : (k : GroupKind) (segs : Segs) (one_comma : Bool) (end : List (List ℕ)) (y : Item) (xs : List Item) → name_of (group k segs one_comma end ∷ y ∷ xs) ≡ None
group_name k segs one_comma end y xs = no_name y

-- the name of an argument is that of its parts
pub named : (xs : List Item) (more : List RowPart) → flat_name (items_parts (items_of xs) ++ segment_end ∷ more) ≡ name_of xs
named [] more = refl
named (leaf Identifier text ∷ []) more = refl
named (leaf _ text ∷ []) more = refl
named (leaf Identifier text ∷ leaf Operator t ∷ xs) more = refl
named (leaf Identifier text ∷ leaf _ t ∷ xs) more = refl
named (leaf Identifier text ∷ group k segs one_comma end ∷ xs) more = refl
named (leaf _ text ∷ y ∷ xs) more = sym (no_name y)
named (group k segs one_comma end ∷ []) more = refl
named (group k segs one_comma end ∷ y ∷ xs) more = sym (group_name k segs one_comma end y xs)

pub split : (s : Segment) (ss : List Segment) (tail : List RowPart) → segs_parts (segs_of (s ∷ ss)) ++ tail ≡ map above s.before ++ (items_parts (items_of s.nodes) ++ segment_end ∷ (beside_part s.suffix ++ (segs_parts (segs_of ss) ++ tail)))
split s ss tail = simp append_assoc
