-- The tree of brackets that a list of tokens is, as a value: `AreNested` (`Brackets`) says of it how it is read. Laws go over it.
-- Begin with `IsTreeOf`.
use Rattle.std.specs.Prelude.{ℕ, List, [], ◌∷◌, ◌++◌, Bool, true, false, ◌≡◌, ◌||◌, if◌then◌else◌, None}
use Rattle.bz_token.specs.Places.{Placed}
use Rattle.bz_tree.specs.declared.tree.kinds.Shape.{Shape}
use Rattle.bz_tree.specs.declared.tree.kinds.Mark.{Mark}
use Rattle.bz_tree.specs.declared.tree.kinds.Mark.TheVariants.{Open, Close, Comma, Comment, Plain}
use Rattle.bz_tree.specs.declared.tree.kinds.Preceding.{Preceding}
use Rattle.bz_tree.specs.declared.tree.kinds.Preceding.TheVariants.{Other}
use Rattle.bz_tree.specs.declared.tree.GroupKind.{GroupKind}
use Rattle.bz_tree.specs.Tree.{Item, leaf, group, Segment, Statement, is_rule}
use Rattle.bz_tree.specs.Kinds.{mark_of, group_kind, is_one}
use Rattle.bz_tree.specs.Owners.{Inner, node, comma, comment, Inside}
use Rattle.bz_tree.specs.Cells.{inside, no_empty_cell}
use Rattle.bz_tree.specs.Brackets.{leaf_of, end_line, preceding, is_for_item, with_comma_nodes, group_with, without_lines}
use Rattle.bz_tree.specs.Statement.{as_rule_call, statement_with}

-- a token that is no bracket, or an opening bracket, what stands in it, and its closing bracket
mutual
  pub data Elem : Type 0 where
    single : Placed → Elem
    bracket : Shape → Placed → Elems → Placed → Elem

  pub data Elems : Type 0 where
    no_elems : Elems
    elem : Elem → Elems → Elems

-- its tokens in order
abbrev mutual
  pub elem_tokens : Elem → List Placed
  elem_tokens (single t) = t ∷ []
  elem_tokens (bracket shape opening inner closing) = opening ∷ elems_tokens inner ++ closing ∷ []

  pub elems_tokens : Elems → List Placed
  elems_tokens no_elems = []
  elems_tokens (elem x xs) = elem_tokens x ++ elems_tokens xs

-- `has_for` of `Brackets`, as a walk
abbrev pub has_for : List Inner → Bool
has_for [] = false
has_for (node line x ∷ xs) = is_for_item x || has_for xs
has_for (comma t ∷ xs) = false
has_for (comment line text ∷ xs) = has_for xs

abbrev pub own_of : Mark → Placed → Inner
own_of Comma t = comma t
own_of Comment t = comment t.line t.text
own_of _ t = node (end_line t) (leaf_of t)

abbrev pub group_of : GroupKind → List Inner → Item
group_of kind owns = group_with kind (inside (with_comma_nodes (is_one kind) owns))

-- At depth 0 a statement is one segment, and every comment but the suffix stands before it.
abbrev pub one_segment : List Segment → List (List ℕ) → Segment
one_segment [] end = record { before = end; nodes = []; suffix = None }
one_segment (s ∷ ss) end = record { before = s.before ++ end; nodes = s.nodes; suffix = s.suffix }

abbrev pub rule_call : List Item → List Item
rule_call [] = []
rule_call (x ∷ []) = as_rule_call x ∷ []
rule_call (x ∷ y ∷ ys) = x ∷ rule_call (y ∷ ys)

-- the call of a rule is a RuleCall
abbrev pub with_rule_call : Segment → Segment
with_rule_call s = record {
  before = s.before;
  nodes = (if is_rule s.nodes then rule_call s.nodes else s.nodes);
  suffix = s.suffix;
}

abbrev pub segment_with : Inside → Segment
segment_with i = with_rule_call (one_segment i.segs i.end)

abbrev pub segment_of : List Inner → Segment
segment_of owns = segment_with (inside (with_comma_nodes true owns))

-- what stands in a bracket, after `b`
abbrev mutual
  pub elem_own : Preceding → Elem → Inner
  elem_own b (single t) = own_of (mark_of t) t
  elem_own b (bracket shape opening inner closing) =
      let owns = elems_own Other inner in
      node closing.line (group_of (group_kind shape b (has_for owns)) owns)

  pub elems_own : Preceding → Elems → List Inner
  elems_own b no_elems = []
  elems_own b (elem x xs) = let own = elem_own b x in own ∷ elems_own (preceding b own) xs

-- tokens that stand alone
abbrev pub is_single : Mark → Bool
is_single Comma = true
is_single Comment = true
is_single Plain = true
is_single _ = false

-- brackets match, and no segment is empty
abbrev mutual
  pub IsWell : Preceding → Elem → Type 0
  IsWell b (single t) = is_single (mark_of t) ≡ true
  IsWell b (bracket shape opening inner closing) =
      (mark_of opening ≡ Open shape) × (mark_of closing ≡ Close shape) × AreWell Other inner
      × (let owns = elems_own Other inner in no_empty_cell false (with_comma_nodes (is_one (group_kind shape b (has_for owns))) owns) ≡ true)

  pub AreWell : Preceding → Elems → Type 0
  AreWell b no_elems = Unit {0}
  AreWell b (elem x xs) = IsWell b x × AreWell (preceding b (elem_own b x)) xs

-- these tokens have this tree, and it is the statement's
pub record IsTreeOf (tokens : List Placed) (s : Statement) : Type 0 where
  pub elems : Elems
  pub tokens_are : without_lines tokens ≡ elems_tokens elems
  pub well : AreWell Other elems
  pub is : s ≡ statement_with tokens (segment_of (elems_own Other elems))
