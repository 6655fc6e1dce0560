-- Tokens are nested as a list of what stands in a bracket exactly if they have a tree that gives this list.
use Rattle.std.proofs.Common.{arith, ◌≡◌, List, [], ◌∷◌, ◌++◌, Bool, true, false, refl, sym, ap, subst, ◌∙◌, append_assoc, Option, Some, None}
use Rattle.bz_tree.specs.declared.tree.kinds.Shape.{Shape}
use Rattle.bz_tree.specs.declared.tree.kinds.Mark.{Mark}
use Rattle.bz_tree.specs.declared.tree.kinds.Mark.TheVariants.{Open, Close}
use Rattle.bz_tree.specs.declared.tree.kinds.Preceding.{Preceding}
use Rattle.bz_tree.specs.declared.tree.kinds.Preceding.TheVariants.{Other}
use Rattle.bz_tree.specs.declared.tree.GroupKind.{GroupKind}
use Rattle.bz_token.specs.Places.{Placed}
use Rattle.bz_tree.specs.Tree.{Statement}
use Rattle.bz_tree.specs.Kinds.{mark_of, group_kind, is_one}
use Rattle.bz_tree.specs.Owners.{Inner, node}
use Rattle.bz_tree.specs.Cells.{no_empty_cell}
use Rattle.bz_tree.specs.Brackets.{alone, group_with, with_comma_nodes, preceding, without_lines, IsGroup, AreNested}
use Rattle.bz_tree.specs.Brackets as nested
use Rattle.bz_tree.specs.Elements.{has_for, Elems, no_elems, elem, single, bracket, elem_tokens, elems_tokens, own_of, group_of, segment_with, segment_of, elem_own, elems_own, is_single, IsWell, AreWell, IsTreeOf}
use Rattle.bz_tree.specs.Statement.{statement_with, IsStatementOf}
use Rattle.bz_tree.specs.Statement as statements
use Rattle.bz_tree.proofs.Trees.SameOwners.{inside_is, no_empty_is}
use Rattle.bz_tree.proofs.Trees.Fors.{has_for_is}
use Rattle.bz_tree.proofs.Trees.OneCell.{with_calls}

-- a group and a segment, by the one definition of owners and by the other
pub group_same : (kind : GroupKind) (owns : List Inner) → nested.group_of kind owns ≡ group_of kind owns
group_same kind owns = ap (group_with kind) (inside_is (with_comma_nodes (is_one kind) owns))

pub segment_same : (owns : List Inner) → statements.segment_of owns ≡ segment_of owns
segment_same owns = with_calls owns ∙ ap segment_with (inside_is (with_comma_nodes true owns))

-- a tree with these tokens that gives this list
record Tree (b : Preceding) (tokens : List Placed) (owns : List Inner) : Type 0 where
  elems : Elems
  tokens_are : elems_tokens elems ≡ tokens
  well : AreWell b elems
  owns_are : elems_own b elems ≡ owns

alone_is : (m : Mark) (t : Placed) → is_single m ≡ true → alone m t ≡ Some (own_of m t)
alone_is va vb vc = grind arith

is_alone : (m : Mark) (t : Placed) (own : Inner) → alone m t ≡ Some own → (is_single m ≡ true) × (own_of m t ≡ own)
is_alone va vb vc vd = grind arith

-- a tree, by what is nested
tree : {b : Preceding} {tokens : List Placed} {owns : List Inner} → AreNested b tokens owns → Tree b tokens owns
tree nested.no_token = record { elems = no_elems; tokens_are = refl; well = tt; owns_are = refl }
tree (nested.single {b} {t} {ts} {inner} {inners} is more) =
    let a = is_alone (mark_of t) t inner is in
    let rest = tree more in
    record {
      elems = elem (single t) rest.elems;
      tokens_are = ap (λ us. t ∷ us) rest.tokens_are;
      well = (a.0, subst (λ o. AreWell (preceding b o) rest.elems) (sym a.1) rest.well);
      owns_are = λ i. a.1 i ∷ (ap (λ o. elems_own (preceding b o) rest.elems) a.1 ∙ rest.owns_are) i;
    }
tree (nested.bracket {b} {opening} {closing} {us} {ts} {within} {inners} {inner} deeper group more) = made (tree deeper) (tree more)
  where
    made : Tree Other us within → Tree (preceding b inner) ts inners → Tree b (opening ∷ us ++ closing ∷ ts) (inner ∷ inners)
    made i rest =
        let kinds : group_kind group.shape b (has_for (elems_own Other i.elems)) ≡ group.kind = ap (λ os. group_kind group.shape b (has_for os)) i.owns_are ∙ ap (group_kind group.shape b) (sym (has_for_is within)) ∙ sym group.kind_is in
        let same : elem_own b (bracket group.shape opening i.elems closing) ≡ inner = (λ k. node closing.line (group_of (kinds k) (i.owns_are k))) ∙ ap (node closing.line) (sym (group_same group.kind within)) ∙ sym group.is in
        record {
          elems = elem (bracket group.shape opening i.elems closing) rest.elems;
          tokens_are = ap (λ us. opening ∷ us) (append_assoc (elems_tokens i.elems) (closing ∷ []) (elems_tokens rest.elems) ∙ λ k. i.tokens_are k ++ closing ∷ rest.tokens_are k);
          well = ((group.opens, group.closes, i.well, (λ k. no_empty_cell false (with_comma_nodes (is_one (kinds k)) (i.owns_are k))) ∙ sym (no_empty_is (with_comma_nodes (is_one group.kind) within)) ∙ group.some), subst (λ o. AreWell (preceding b o) rest.elems) (sym same) rest.well);
          owns_are = λ k. same k ∷ (ap (λ o. elems_own (preceding b o) rest.elems) same ∙ rest.owns_are) k;
        }

-- and back
nest : (b : Preceding) (xs : Elems) → AreWell b xs → AreNested b (elems_tokens xs) (elems_own b xs)
nest b no_elems well = nested.no_token
nest b (elem (single t) xs) well = nested.single (alone_is (mark_of t) t well.0) (nest (preceding b (own_of (mark_of t) t)) xs well.1)
nest b (elem (bracket shape opening inner closing) xs) well =
    let owns = elems_own Other inner in
    let kind = group_kind shape b (has_for owns) in
    let own = node closing.line (group_of kind owns) in
    let group : IsGroup b opening owns closing own = record { shape = shape; kind = kind; opens = well.0.0; closes = well.0.1; kind_is = ap (group_kind shape b) (sym (has_for_is (elems_own Other inner))); some = no_empty_is (with_comma_nodes (is_one (group_kind shape b (has_for (elems_own Other inner)))) (elems_own Other inner)) ∙ well.0.3; is = ap (node closing.line) (sym (group_same (group_kind shape b (has_for (elems_own Other inner))) (elems_own Other inner))) } in
    subst (λ ts. AreNested b ts (own ∷ elems_own (preceding b own) xs)) (ap (λ us. opening ∷ us) (sym (append_assoc (elems_tokens inner) (closing ∷ []) (elems_tokens xs))))
    (nested.bracket (nest Other inner well.0.2) group (nest (preceding b own) xs well.1))

pub tree_of : (tokens : List Placed) (s : Statement) → IsStatementOf tokens s → IsTreeOf tokens s
tree_of tokens s is =
    let t = tree is.nested in
    record { elems = t.elems; tokens_are = sym t.tokens_are; well = t.well; is = is.is ∙ ap (statement_with tokens) (segment_same is.inners ∙ ap segment_of (sym t.owns_are)) }

pub of_tree : (tokens : List Placed) (s : Statement) → IsTreeOf tokens s → IsStatementOf tokens s
of_tree tokens s is = record { inners = elems_own Other is.elems; nested = subst (λ ts. AreNested Other ts (elems_own Other is.elems)) (sym is.tokens_are) (nest Other is.elems is.well); is = is.is ∙ ap (statement_with tokens) (sym (segment_same (elems_own Other is.elems))) }
