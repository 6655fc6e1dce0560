-- Arguments among others: their parts, the first of a name, and its edit.
use Rattle.std.proofs.Common.{◌≡◌, ℕ, List, [], ◌∷◌, ◌++◌, Bool, true, false, ◌||◌, if◌then◌else◌, Some, None, map, refl, ap, sym, ◌∙◌, append_assoc}
use Rattle.std.specs.List.{list_any}
use Rattle.bz_tree.specs.Tree.{Item, Segment, Statement, items_of, segs_of}
use Rattle.bz_tree.specs.Rows.{RowPart, segment_end, above, beside_part, items_parts, segs_parts}
use Rattle.bz_attribute.specs.Rules.{Rule, rule_of, is_named, first_named}
use Rattle.bz_attribute.specs.Effects.{edit_first, has, nodes_of, with_args}
use Rattle.bz_attribute.specs.private.RuleNodes.{nodes_after}

pub segs_join : (xs ys : List Segment) → segs_parts (segs_of (xs ++ ys)) ≡ segs_parts (segs_of xs) ++ segs_parts (segs_of ys)
segs_join [] ys = refl
segs_join (x ∷ xs) ys =
    let moved : map above x.before ++ (items_parts (items_of x.nodes) ++ (segment_end ∷ (beside_part x.suffix ++ (segs_parts (segs_of xs) ++ segs_parts (segs_of ys)))))
    ≡ (map above x.before ++ (items_parts (items_of x.nodes) ++ (segment_end ∷ (beside_part x.suffix ++ segs_parts (segs_of xs))))) ++ segs_parts (segs_of ys) = simp append_assoc in
    ap (λ (ps : List RowPart). map above x.before ++ (items_parts (items_of x.nodes) ++ (segment_end ∷ (beside_part x.suffix ++ ps)))) (segs_join xs ys) ∙ moved

-- the first that passes is edited
pub edited_at : (p : Segment → Bool) (f : Segment → List Segment) (front : List Segment) (a : Segment) (back : List Segment) → list_any p front ≡ false → p a ≡ true → edit_first p f (front ++ a ∷ back) ≡ front ++ (f a ++ back)
edited_at p f [] a back none is = ap (λ (b : Bool). if b then f a ++ back else a ∷ edit_first p f back) is
edited_at p f (x ∷ front) a back none is =
    elim (p x) as (λ b. b || list_any p front ≡ false → (if b then f x ++ (front ++ a ∷ back) else x ∷ edit_first p f (front ++ a ∷ back)) ≡ x ∷ (front ++ (f a ++ back)))
    [ true ↦ λ e. absurd cc | false ↦ λ e. ap (λ (zs : List Segment). x ∷ zs) (edited_at p f front a back e is) ] none

pub first_at : (name : List ℕ) (front : List Segment) (a : Segment) (back : List Segment) → list_any (is_named name) front ≡ false → is_named name a ≡ true → first_named name (front ++ a ∷ back) ≡ Some a
first_at name [] a back none is = ap (λ (b : Bool). if b then Some a else first_named name back) is
first_at name (x ∷ front) a back none is =
    elim (is_named name x) as (λ b. b || list_any (is_named name) front ≡ false → (if b then Some x else first_named name (front ++ a ∷ back)) ≡ Some a)
    [ true ↦ λ e. absurd cc | false ↦ λ e. first_at name front a back e is ] none

pub none_first : (name : List ℕ) (args : List Segment) → has name args ≡ false → first_named name args ≡ None
none_first name [] h = refl
none_first name (x ∷ args) h =
    elim (is_named name x) as (λ b. b || has name args ≡ false → (if b then Some x else first_named name args) ≡ None)
    [ true ↦ λ e. absurd cc | false ↦ λ e. none_first name args e ] h

-- edits that do the same to the arguments of a rule do the same to it
pub with_args_at : (f g : List Segment → List Segment) (s : Statement) (r : Rule) → rule_of s.nodes ≡ Some r → f r.args ≡ g r.args → with_args f s ≡ with_args g s
with_args_at f g s r is same =
    ap (λ (nodes : List Item). record s { nodes = nodes })
    (ap (nodes_after f s.nodes) is ∙ ap (λ (args : List Segment). nodes_of (record r { args = args })) same ∙ sym (ap (nodes_after g s.nodes) is))
