-- The definitions of list parts compute.
use Rattle.std.specs.Prelude.{◌≡◌, List, [], ◌∷◌, ◌++◌, true, false, codes, ℕ, refl}
use Rattle.bz_token.specs.declared.token.Kind.TheVariants.{Identifier, Integer, Operator}
use Rattle.bz_tree.specs.declared.tree.GroupKind.TheVariants.{Call}
use Rattle.bz_tree.specs.Tree.{Item, leaf, group, segs_of}
use Rattle.bz_attribute.specs.Lists.{edit_parts, parts}
use Rattle.bz_attribute.specs.Effects.{edit_part, list_item, string}

abbrev operator : List ℕ → Item
operator text = leaf Operator text

-- `["a"] + f() + ["b", ":c"]`
abbrev sum : List Item
sum =
    list_item (string (codes "a") ∷ []) ∷ operator (codes "+") ∷ leaf Identifier (codes "f") ∷ group Call (segs_of []) false []
    ∷ operator (codes "+") ∷ list_item (string (codes "b") ∷ string (codes ":c") ∷ []) ∷ []

both : parts sum ≡ (string (codes "a") ∷ []) ∷ (string (codes "b") ∷ string (codes ":c") ∷ []) ∷ []
both = refl

-- a call's list, and `2 * [..]`, are no list parts
abbrev product : List Item
product = leaf Integer (codes "2") ∷ operator (codes "*") ∷ list_item (string (codes "a") ∷ []) ∷ []

none : parts product ≡ []
none = refl

indexed : parts (list_item (string (codes "a") ∷ []) ∷ group Call (segs_of []) false [] ∷ []) ≡ []
indexed = refl

-- `["d"] + f() + ["d"]`
all : edit_parts (λ ss. string (codes "d") ∷ []) sum
    ≡ list_item (string (codes "d") ∷ []) ∷ operator (codes "+") ∷ leaf Identifier (codes "f") ∷ group Call (segs_of []) false []
    ∷ operator (codes "+") ∷ list_item (string (codes "d") ∷ []) ∷ []
all = refl

stays : edit_parts (λ ss. []) product ≡ product
stays = refl

-- at the end of the first list
first : edit_part (λ ss. true) (λ ss. ss ++ string (codes "d") ∷ []) sum
    ≡ list_item (string (codes "a") ∷ string (codes "d") ∷ []) ∷ operator (codes "+") ∷ leaf Identifier (codes "f") ∷ group Call (segs_of []) false []
    ∷ operator (codes "+") ∷ list_item (string (codes "b") ∷ string (codes ":c") ∷ []) ∷ []
first = refl
