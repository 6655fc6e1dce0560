-- Statements whose text can be read back: what parsing gives, but for blocks, which are kept as they stand.
use Rattle.std.specs.Prelude.{◌≡◌, ◌==◌, codes, ℕ, suc, max, List, Bool, true, false, not, ◌&&◌, Option, is_some}
use Rattle.std.specs.Prelude.Option.{Some, None}
use Rattle.std.specs.List.{list_all, list_any}
use Rattle.bz_token.specs.Blocks.{opener_of}
use Rattle.bz_token.specs.Lexical.{is_text, is_comment}
use Rattle.bz_tree.specs.declared.tree.GroupKind.{GroupKind}
use Rattle.bz_tree.specs.declared.tree.kinds.Mark.{Mark}
use Rattle.bz_tree.specs.declared.tree.kinds.Mark.TheVariants.{Comma, Plain}
use Rattle.bz_tree.specs.Kinds.{kind_mark}
use Rattle.bz_tree.specs.Comments.{beside}
use Rattle.bz_tree.specs.Tree.{Item, leaf, group, Items, no_items, item, Segs, no_segs, seg, Statement, items_of}
use Rattle.bz_layout.specs.declared.spacing.Edge.{Edge}
use Rattle.bz_layout.specs.declared.spacing.Edge.TheVariants.{Start}
use Rattle.bz_layout.specs.Walked.{edge_after, no_space_after}
use Rattle.bz_layout.specs.Layout.{is_comment as is_comment_class}
use Rattle.bz_token.specs.Common.{begins}

-- no bracket, no comment and no newline
abbrev pub is_leaf_mark : Mark → Bool
is_leaf_mark Comma = true
is_leaf_mark Plain = true
is_leaf_mark _ = false

-- bytes that stand second or third in an operator
abbrev pub is_later : ℕ → Bool
is_later b = list_any (λ c. b == c) (codes "/*<>=")

abbrev pub begins_later : Item → Bool
begins_later (leaf kind text) = begins is_later text
begins_later (group kind segs one_comma end) = false

-- A node stands directly after `.`, a prefix, an argument's star and the colon of an index. There it begins with no byte that
-- makes one operator of two, as in `-` and `=`; by the grammar none does.
abbrev pub may_follow : Edge → Item → Bool
may_follow left x = not (no_space_after left && begins_later x)

abbrev pub are_some : Items → Bool
are_some no_items = false
are_some (item x xs) = true

abbrev pub AreComments : List (List ℕ) → Type 0
AreComments texts = list_all is_comment texts ≡ true

abbrev mutual
  -- a token is a text of its kind
  pub IsLegibleItem : Item → Type 0
  IsLegibleItem (leaf kind text) = (is_text kind text ≡ true) × (is_leaf_mark (kind_mark kind text) ≡ true)
  IsLegibleItem (group kind segs one_comma end) = AreLegibleSegs kind segs × AreComments end

  -- nodes after what leaves this edge
  pub AreLegible : Option GroupKind → Edge → Items → Type 0
  AreLegible within left no_items = Unit {0}
  AreLegible within left (item x xs) = (may_follow left x ≡ true) × IsLegibleItem x × AreLegible within (edge_after within left x) xs

  -- no segment is empty
  pub AreLegibleSegs : GroupKind → Segs → Type 0
  AreLegibleSegs kind no_segs = Unit {0}
  AreLegibleSegs kind (seg before nodes suffix ss) =
      AreComments before × (are_some nodes ≡ true) × AreLegible (Some kind) Start nodes × AreComments (beside suffix) × AreLegibleSegs kind ss

pub record IsLegible (s : Statement) : Type 0 where
  pub some : is_comment_class s.class ≡ false → are_some (items_of s.nodes) ≡ true
  pub before : AreComments s.before
  pub nodes : AreLegible None Start (items_of s.nodes)
  pub suffix : AreComments (beside s.suffix)

-- how many brackets are open at once at most
abbrev mutual
  pub item_depth : Item → ℕ
  item_depth (leaf kind text) = 0
  item_depth (group kind segs one_comma end) = suc (segs_depth segs)

  pub items_depth : Items → ℕ
  items_depth no_items = 0
  items_depth (item x xs) = max (item_depth x) (items_depth xs)

  pub segs_depth : Segs → ℕ
  segs_depth no_segs = 0
  segs_depth (seg before nodes suffix ss) = max (items_depth nodes) (segs_depth ss)

abbrev pub depth_of : Statement → ℕ
depth_of s = items_depth (items_of s.nodes)

-- the first node is a word that begins a block: `def`, `for` or `if`
abbrev pub begins_block : Items → Bool
begins_block no_items = false
begins_block (item (leaf kind text) xs) = is_some (opener_of text)
begins_block (item (group kind segs one_comma end) xs) = false
