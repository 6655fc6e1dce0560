-- Statements whose tokens and comments are texts of their kinds, and in whose brackets no segment is empty: what `IsLegible` says,
-- but for what may follow what.
use Rattle.std.specs.Prelude.{◌≡◌, true, false}
use Rattle.bz_token.specs.Lexical.{is_text}
use Rattle.bz_tree.specs.Kinds.{kind_mark}
use Rattle.bz_tree.specs.Comments.{beside}
use Rattle.bz_tree.specs.Tree.{Item, leaf, group, Items, no_items, item, Segs, no_segs, seg, Statement, items_of}
use Rattle.bz_layout.specs.Layout.{is_comment as is_comment_class}
use Rattle.bz_layout_laws.specs.Legible.{is_leaf_mark, are_some, AreComments}

abbrev mutual
  pub HasText : Item → Type 0
  HasText (leaf kind text) = (is_text kind text ≡ true) × (is_leaf_mark (kind_mark kind text) ≡ true)
  HasText (group kind segs one_comma end) = SegsHaveTexts segs × AreComments end

  pub HaveTexts : Items → Type 0
  HaveTexts no_items = Unit {0}
  HaveTexts (item x xs) = HasText x × HaveTexts xs

  pub SegsHaveTexts : Segs → Type 0
  SegsHaveTexts no_segs = Unit {0}
  SegsHaveTexts (seg before nodes suffix ss) = AreComments before × (are_some nodes ≡ true) × HaveTexts nodes × AreComments (beside suffix) × SegsHaveTexts ss

pub record HasTexts (s : Statement) : Type 0 where
  pub some : is_comment_class s.class ≡ false → are_some (items_of s.nodes) ≡ true
  pub before : AreComments s.before
  pub nodes : HaveTexts (items_of s.nodes)
  pub suffix : AreComments (beside s.suffix)
