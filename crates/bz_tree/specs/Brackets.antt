-- What a list of tokens is by its brackets, without losing one, and what its brackets are as groups (which
-- bracket is one: Starlark specification, "Grammar reference"; the groups are this project's own form).
-- Begin with `AreNested`.
use Rattle.std.specs.Prelude.{codes, ℕ, List, [], ◌∷◌, ◌++◌, Bool, true, false, if◌then◌else◌, ◌==◌, ◌+◌, ◌≡◌, ◌&&◌, length, map, flat_map, Option, Some, None}
use Rattle.std.specs.Str.{bytes_eq}
use Rattle.std.specs.List.{list_any, before_first}
use Rattle.bz_token.specs.declared.token.Kind.TheVariants.{Keyword}
use Rattle.bz_token.specs.Places.{Placed, line_at}
use Rattle.bz_tree.specs.declared.tree.GroupKind.{GroupKind}
use Rattle.bz_tree.specs.declared.tree.GroupKind.TheVariants.{Paren}
use Rattle.bz_tree.specs.declared.tree.kinds.Shape.{Shape}
use Rattle.bz_tree.specs.declared.tree.kinds.Mark.{Mark}
use Rattle.bz_tree.specs.declared.tree.kinds.Mark.TheVariants.{Open, Close, Comma, Comment, Newline, Plain}
use Rattle.bz_tree.specs.declared.tree.kinds.Preceding.{Preceding}
use Rattle.bz_tree.specs.declared.tree.kinds.Preceding.TheVariants.{Other}
use Rattle.bz_tree.specs.Tree.{Item, leaf, group, segs_of}
use Rattle.bz_tree.specs.Kinds.{mark_of, after_item, group_kind, is_one}
use Rattle.bz_tree.specs.Owners.{Inner, node, comma, comment, Inside, nodes_of, is_comma, inside, no_empty_cell}

-- the leaf of a token
abbrev pub leaf_of : Placed → Item
leaf_of t = leaf t.kind t.text

-- what stands directly before a bracket that comes next, after one more thing; a comment changes nothing
abbrev pub preceding : Preceding → Inner → Preceding
preceding before (node line x) = after_item x
preceding before (comma t) = Other
preceding before (comment line text) = before

-- the keyword `for`
abbrev pub is_for_item : Item → Bool
is_for_item (leaf Keyword text) = bytes_eq text (codes "for")
is_for_item _ = false

-- the keyword `for` stands before the first comma
abbrev pub has_for : List Inner → Bool
has_for inners = list_any is_for_item (flat_map nodes_of (before_first is_comma inners))

-- a comma as a node; anything else as it is
abbrev pub as_node : Inner → Inner
as_node (comma t) = node t.line (leaf_of t)
as_node x = x

-- what stands in a bracket, its commas as nodes where it has one segment
abbrev pub with_comma_nodes : Bool → List Inner → List Inner
with_comma_nodes one inners = map (λ inner. if one then as_node inner else inner) inners

-- parentheses that are neither a call nor a `load`
abbrev pub is_paren : GroupKind → Bool
is_paren Paren = true
is_paren _ = false

-- a bracket with this inside: one segment and a comma in parentheses are `(x,)`
abbrev pub group_with : GroupKind → Inside → Item
group_with kind i = group kind (segs_of i.segs) (is_paren kind && (length i.segs == 1) && i.trailing) i.end

-- the bracket of a kind in which these stand
abbrev pub group_of : GroupKind → List Inner → Item
group_of kind inners = group_with kind (inside (with_comma_nodes (is_one kind) inners))

-- the line on which a token ends
abbrev pub end_line : Placed → ℕ
end_line t = line_at t.line t.text

-- a token that stands alone; none: a bracket or a newline
abbrev pub alone : Mark → Placed → Option Inner
alone Comma t = Some (comma t)
alone Comment t = Some (comment t.line t.text)
alone Plain t = Some (node (end_line t) (leaf_of t))
alone _ t = None

-- Two brackets of one shape (in tokens that were read they match already, by `fits` of bz_token), with this
-- between them and `b` directly before, are this node. No segment is empty.
pub record IsGroup (b : Preceding) (opening : Placed) (inners : List Inner) (closing : Placed)
    (inner : Inner) : Type 0 where
  pub shape : Shape
  pub kind : GroupKind
  pub opens : mark_of opening ≡ Open shape
  pub closes : mark_of closing ≡ Close shape
  pub kind_is : kind ≡ group_kind shape b (has_for inners)
  pub some : no_empty_cell (with_comma_nodes (is_one kind) inners) ≡ true
  pub is : inner ≡ node closing.line (group_of kind inners)

-- The tokens, by their brackets, are these in order, where `b` stands directly before them.
pub data AreNested : Preceding → List Placed → List Inner → Type 0 where
  no_token : {b : Preceding} → AreNested b [] []
  single : {b : Preceding} {t : Placed} {ts : List Placed} {inner : Inner} {inners : List Inner}
      → alone (mark_of t) t ≡ Some inner → AreNested (preceding b inner) ts inners
      → AreNested b (t ∷ ts) (inner ∷ inners)
  -- `us` stand between the two brackets
  bracket : {b : Preceding} {opening closing : Placed} {us ts : List Placed}
      {within inners : List Inner} {inner : Inner}
      → AreNested Other us within → IsGroup b opening within closing inner
      → AreNested (preceding b inner) ts inners → AreNested b (opening ∷ us ++ closing ∷ ts) (inner ∷ inners)

-- the mark of a newline token (`is_line` of bz_token says the same of its kind; the marks are those by which
-- `AreNested` takes tokens, and it takes no newline)
abbrev pub is_line : Mark → Bool
is_line Newline = true
is_line _ = false

-- the tokens without newlines
abbrev pub without_lines : List Placed → List Placed
without_lines [] = []
without_lines (t ∷ ts) = if is_line (mark_of t) then without_lines ts else t ∷ without_lines ts
