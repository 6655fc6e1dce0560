-- What a statement is: nodes, which are tokens and bracket groups, the groups split at commas into segments,
-- with their comments (this project's own form). `GroupKind` and `Class` are enums of `src/tree.rt`.
-- Begin with `Statement` and `is_rule`.
use Rattle.std.specs.Prelude.{codes, ℕ, List, [], ◌∷◌, Bool, true, false, ◌&&◌, Option}
use Rattle.std.specs.Str.{bytes_eq}
use Rattle.bz_token.specs.Common.{is_one_of}
use Rattle.bz_token.specs.declared.token.Kind.{Kind}
use Rattle.bz_token.specs.declared.token.Kind.TheVariants.{Identifier, Operator}
use Rattle.bz_tree.specs.declared.tree.GroupKind.{GroupKind}
use Rattle.bz_tree.specs.declared.tree.GroupKind.TheVariants.{Call, RuleCall}
use Rattle.bz_tree.specs.declared.tree.Class.{Class}

-- Nodes, and lists as a tree holds them: a type of a spec file holds no ordinary list of itself. `items_of`
-- and `segs_of` make these of ordinary lists, `list_of` and `segments` go back.
mutual
  -- a node
  pub data Item : Type 0 where
    -- a token: its kind, as `Identifier` (`src/token.rt` of bz_token), and its text
    leaf : Kind → List ℕ → Item
    -- a bracket group: its kind, its segments, whether it is `(x,)`, the comments after its last segment
    group : GroupKind → Segs → Bool → List (List ℕ) → Item

  -- a list of nodes
  pub data Items : Type 0 where
    no_items : Items
    item : Item → Items → Items

  -- a list of segments
  pub data Segs : Type 0 where
    no_segs : Segs
    -- a segment, part by part as in `Segment`, and the segments after it
    seg : List (List ℕ) → Items → Option (List ℕ) → Segs → Segs

-- a segment: the comments above it, its nodes, the comment beside it (on the last line of its nodes, or of
-- its comma)
pub record Segment : Type 0 where
  pub before : List (List ℕ)
  pub nodes : List Item
  pub suffix : Option (List ℕ)

-- A statement: comments, nodes and suffix as of a segment, its class, the line on which its first token begins
-- and the line on which its last one ends. Comments count for these lines only at the end of a block, and
-- where they are alone: then there are no nodes.
pub record Statement : Type 0 where
  pub before : List (List ℕ)
  pub nodes : List Item
  pub suffix : Option (List ℕ)
  pub class : Class
  pub start : ℕ
  pub end : ℕ

-- whether a node is this operator
abbrev pub is_operator_item : List ℕ → Item → Bool
is_operator_item operator (leaf Operator text) = bytes_eq text operator
is_operator_item operator _ = false

-- whether a node is one of these operators (of one alone `is_operator_item` says the same)
abbrev pub is_operator_among : List (List ℕ) → Item → Bool
is_operator_among operators (leaf Operator text) = is_one_of operators text
is_operator_among operators _ = false

-- the brackets of a call: of one that is a rule, or of any other
abbrev pub is_call : GroupKind → Bool
is_call Call = true
is_call RuleCall = true
is_call _ = false

-- A rule: identifiers joined by dots, one call and nothing more (the word is that of buildozer's README, what
-- is one is this project's own rule). In a statement that was read this call is a `RuleCall` (`segment_of` of
-- `Statement`).
abbrev mutual
  -- from the start, and after a dot
  pub is_rule : List Item → Bool
  is_rule (leaf Identifier text ∷ xs) = is_rule_after xs
  is_rule _ = false

  -- after an identifier
  pub is_rule_after : List Item → Bool
  is_rule_after (leaf Operator text ∷ xs) = bytes_eq text (codes ".") && is_rule xs
  is_rule_after (group kind segs one_comma end ∷ []) = is_call kind
  is_rule_after _ = false

-- an ordinary list of nodes as one of a tree
abbrev pub items_of : List Item → Items
items_of [] = no_items
items_of (x ∷ xs) = item x (items_of xs)

-- and back
abbrev pub list_of : Items → List Item
list_of no_items = []
list_of (item x xs) = x ∷ list_of xs

-- an ordinary list of segments as one of a tree
abbrev pub segs_of : List Segment → Segs
segs_of [] = no_segs
segs_of (s ∷ ss) = seg s.before (items_of s.nodes) s.suffix (segs_of ss)

-- and back
abbrev pub segments : Segs → List Segment
segments no_segs = []
segments (seg before nodes suffix ss) =
    record { before = before; nodes = list_of nodes; suffix = suffix } ∷ segments ss
