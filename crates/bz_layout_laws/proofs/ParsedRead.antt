-- A statement that tokens are read as has kinds and class of a parsed one.
use Rattle.std.proofs.Common.{◌≡◌, List, [], ◌∷◌, Bool, true, false, refl, sym, ap, subst, ◌∙◌, codes}
use Rattle.std.specs.Prelude.{if◌then◌else◌}
use Rattle.std.specs.Str.{bytes_eq}
use Rattle.bz_token.specs.declared.token.Kind.TheVariants.{Identifier, Operator}
use Rattle.std.proofs.lemmas.Bool.{false≢true, and_parts}
use Rattle.bz_token.specs.Places.{Placed}
use Rattle.bz_tree.specs.declared.tree.GroupKind.{GroupKind}
use Rattle.bz_tree.specs.declared.tree.GroupKind.TheVariants.{Call, RuleCall}
use Rattle.bz_tree.specs.declared.tree.kinds.Shape.{Shape}
use Rattle.bz_tree.specs.declared.tree.kinds.Shape.TheVariants.{Round, Square, Curly}
use Rattle.bz_tree.specs.declared.tree.kinds.Preceding.{Preceding}
use Rattle.bz_tree.specs.declared.tree.kinds.Preceding.TheVariants.{Operand, LoadWord, Other}
use Rattle.bz_tree.specs.Brackets.{with_comma_nodes}
use Rattle.bz_tree.specs.Elements.{elems_own}
use Rattle.bz_tree.specs.Kinds.{group_kind, after_item}
use Rattle.bz_tree.specs.Cells.{inside}
use Rattle.bz_tree.specs.Statement.{class_of, IsStatementOf}
use Rattle.bz_tree.specs.Elements.{rule_call, one_segment}
use Rattle.bz_tree.specs.Tree.{Item, leaf, group, Statement, items_of, is_call, is_rule, is_rule_after}
use Rattle.bz_layout_laws.specs.Parsed.{HaveKinds, plain_kind, plain_call, plain_calls, HasKind}
use Rattle.bz_layout_laws.proofs.KindsRead.{outside_kinds}
use Rattle.bz_layout_laws.proofs.SameTests.{rule_nodes}
use Rattle.bz_tree.proofs.Trees.Nested.{tree_of}

plain_group : (shape : Shape) (b : Preceding) (comp : Bool) → plain_kind (group_kind shape b comp) ≡ group_kind shape b comp
plain_group Round Operand comp = refl
plain_group Round LoadWord comp = refl
plain_group Round Other comp = refl
plain_group Square Operand comp = refl
plain_group Square LoadWord true = refl
plain_group Square LoadWord false = refl
plain_group Square Other true = refl
plain_group Square Other false = refl
plain_group Curly b true = refl
plain_group Curly b false = refl

plain_item : (b : Preceding) (x : Item) → HasKind b x → plain_call x ≡ x
plain_item b (leaf kind text) h = refl
plain_item b (group kind segs one_comma end) h = ap (λ k. group k segs one_comma end) (ap plain_kind h.1 ∙ plain_group h.0 b _ ∙ sym h.1)

pub plain_same : (one : Bool) (b : Preceding) (xs : List Item) → HaveKinds one b (items_of xs) → plain_calls xs ≡ xs
plain_same one b [] h = refl
plain_same one b (x ∷ xs) h = λ i. plain_item b x h.1 i ∷ plain_same one (after_item x) xs h.2 i

call_kind : (kind : GroupKind) → is_call kind ≡ true → Call ≡ plain_kind kind
call_kind Call h = refl
call_kind RuleCall h = refl
call_kind _ h = absurd (false≢true h)

mutual
  plain_rule : (xs : List Item) → is_rule xs ≡ true → plain_calls (rule_call xs) ≡ plain_calls xs
  plain_rule [] h = refl
  plain_rule (leaf kind text ∷ []) h = refl
  plain_rule (leaf Identifier text ∷ y ∷ ys) h = ap (λ l. leaf Identifier text ∷ l) (plain_after (y ∷ ys) h)
  plain_rule (leaf _ text ∷ y ∷ ys) h = absurd (false≢true h)
  plain_rule (group kind segs one_comma end ∷ xs) h = absurd (false≢true h)

  plain_after : (xs : List Item) → is_rule_after xs ≡ true → plain_calls (rule_call xs) ≡ plain_calls xs
  plain_after [] h = refl
  plain_after (leaf kind text ∷ []) h = refl
  plain_after (leaf Operator text ∷ y ∷ ys) h = ap (λ l. leaf Operator text ∷ l) (plain_rule (y ∷ ys) (and_parts (bytes_eq text (codes ".")) (is_rule (y ∷ ys)) h).1)
  plain_after (leaf _ text ∷ y ∷ ys) h = absurd (false≢true h)
  plain_after (group kind segs one_comma end ∷ []) h = ap (λ k. group k segs one_comma end ∷ []) (call_kind kind h)
  plain_after (group kind segs one_comma end ∷ y ∷ ys) h = absurd (false≢true h)

plain_nodes : (xs : List Item) → plain_calls (rule_nodes xs) ≡ plain_calls xs
plain_nodes xs = by (is_rule xs) refl
  where
    by : (b : Bool) → is_rule xs ≡ b → plain_calls (if b then rule_call xs else xs) ≡ plain_calls xs
    by true h = plain_rule xs h
    by false h = refl

pub read_kinds : (tokens : List Placed) (t : Statement) → IsStatementOf tokens t → HaveKinds true Other (items_of (plain_calls t.nodes)) × (t.nodes ≡ (if is_rule (plain_calls t.nodes) then rule_call (plain_calls t.nodes) else plain_calls t.nodes)) × (t.class ≡ class_of t.nodes)
read_kinds tokens t of =
    let is = tree_of tokens t of in
    let i = inside (with_comma_nodes true (elems_own Other is.elems)) in
    let xs = (one_segment i.segs i.end).nodes in
    let kinds : HaveKinds true Other (items_of xs) = outside_kinds is.elems i refl is.well in
    let nodes : t.nodes ≡ rule_nodes xs = ap (λ (s : Statement). s.nodes) is.is in
    let plain : plain_calls t.nodes ≡ xs = ap plain_calls nodes ∙ plain_nodes xs ∙ plain_same true Other xs kinds in
    (subst (λ ys. HaveKinds true Other (items_of ys)) (sym plain) kinds, nodes ∙ ap rule_nodes (sym plain), ap (λ (s : Statement). s.class) is.is ∙ ap class_of (sym nodes))
