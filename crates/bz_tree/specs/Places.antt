-- Where the leaves of a `Stmt` stand.
-- Begin with `spelling` and `HasPlacesIn`.
use Rattle.std.specs.Prelude.{◌≡◌, ℕ, List, [], ◌∷◌, ◌++◌, map, Bool, true, false, if◌then◌else◌, Option, Some, None}
use Rattle.bz_token.specs.declared.token.Kind.TheVariants.{Kept}
use Rattle.bz_token.specs.Common.{map_or}
use Rattle.bz_token.specs.Reading.{AreTokensOf}
use Rattle.bz_token.specs.Places.{Placed}
use Rattle.bz_tree.specs.declared.tree.Leaf.{Leaf}
use Rattle.bz_tree.specs.declared.tree.Stmt.{Stmt}
use Rattle.bz_tree.specs.declared.tree.Node.{Node, fold-Node}
use Rattle.bz_tree.specs.declared.tree.Seg.{Seg, fold-Seg}
use Rattle.bz_tree.specs.declared.tree.Group.{Group, fold-Group}
use Rattle.bz_tree.specs.declared.tree.Node.TheOpen.{Node-F, Group-F, Seg-F}
use Rattle.bz_tree.specs.declared.tree.kinds.Mark.{Mark}
use Rattle.bz_tree.specs.declared.tree.kinds.Mark.TheVariants.{Open, Close, Comma, Comment, Newline, Plain}
use Rattle.bz_tree.specs.Kinds.{mark_of}
use Rattle.bz_tree.specs.Blocks.{is_block_word}
use Rattle.bz_tree.specs.Statement.{first_token}
use Rattle.bz_tree.specs.View.{text_of}

-- a leaf with its place, or an end of a bracket
pub data Spelled : Type 0 where
  a_leaf : Placed → Spelled
  opens : Spelled
  closes : Spelled

abbrev pub joined : List (List Spelled) → List Spelled
joined [] = []
joined (ps ∷ pss) = ps ++ joined pss

abbrev pub place_of : Leaf → Placed
place_of t = record { kind = t.kind; text = text_of t.text; line = t.line; col = t.col; fresh = t.fresh }

-- One level, with each part inside already spelled.
abbrev pub node_step : Node-F (List Spelled) (List Spelled) (List Spelled) → List Spelled
node_step (Node-F.Token t) = a_leaf (place_of t) ∷ []
node_step (Node-F.Group g) = g

abbrev pub group_step : Group-F (List Spelled) (List Spelled) (List Spelled) → List Spelled
group_step g = opens ∷ (joined g.segs.items ++ closes ∷ [])

abbrev pub seg_step : Seg-F (List Spelled) (List Spelled) (List Spelled) → List Spelled
seg_step s = joined s.nodes.items

abbrev pub node_spelling : Node → List Spelled
node_spelling = fold-Node (List Spelled) (List Spelled) (List Spelled) node_step group_step seg_step

abbrev pub group_spelling : Group → List Spelled
group_spelling = fold-Group (List Spelled) (List Spelled) (List Spelled) node_step group_step seg_step

abbrev pub seg_spelling : Seg → List Spelled
seg_spelling = fold-Seg (List Spelled) (List Spelled) (List Spelled) node_step group_step seg_step

-- the leaves of a statement with their places, and the ends of its brackets, in the order in which they are written
abbrev pub spelling : Stmt → List Spelled
spelling s = joined (map node_spelling s.nodes.items)

-- What a token is in a statement's spelling. A comma is a leaf (`kept`) or parts two segments; a comment is no leaf.
abbrev pub spelled : Mark → Bool → Placed → List Spelled
spelled (Open shape) kept t = opens ∷ []
spelled (Close shape) kept t = closes ∷ []
spelled Plain kept t = a_leaf t ∷ []
spelled Comma kept t = if kept then a_leaf t ∷ [] else []
spelled Comment kept t = []
spelled Newline kept t = []

-- These tokens, in their order, are spelled so. `IsStatementOf` says which commas are leaves.
abbrev pub AreSpelled : List Placed → List Spelled → Type 0
AreSpelled [] ps = ps ≡ []
AreSpelled (t ∷ ts) ps = (kept : Bool) × (rest : List Spelled) × ((ps ≡ spelled (mark_of t) kept t ++ rest) × AreSpelled ts rest)

-- A block is one leaf, with the place of the block's first token. `IsBlockOf` says its text.
abbrev pub IsKeptAt : Option Placed → List Spelled → Type 0
IsKeptAt None ps = ⊥
IsKeptAt (Some t) ps = (text : List ℕ) × (ps ≡ a_leaf (record { kind = Kept; text = text; line = t.line; col = t.col; fresh = t.fresh }) ∷ [])

abbrev pub ArePlacesOf : Bool → List Placed → List Spelled → Type 0
ArePlacesOf true tokens ps = IsKeptAt (first_token tokens) ps
ArePlacesOf false tokens ps = AreSpelled tokens ps

-- the leaves of the statement of these tokens have the places of their tokens
abbrev pub HasPlacesOf : List Placed → Stmt → Type 0
HasPlacesOf tokens s = ArePlacesOf (map_or false is_block_word (first_token tokens)) tokens (spelling s)

-- The same by a chunk's bytes. Lines count from `first`, and at most `depth` brackets are open at once.
pub record HasPlacesIn (first depth : ℕ) (bytes : List ℕ) (s : Stmt) : Type 0 where
  pub tokens : List Placed
  pub are : AreTokensOf first depth bytes tokens
  pub have : HasPlacesOf tokens s
