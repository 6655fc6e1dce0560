-- A test of each text of a statement: of its tokens and its comments.
use Rattle.std.specs.Prelude.{◌≡◌, ℕ, List, Bool, true, ◌&&◌}
use Rattle.std.specs.List.{list_all}
use Rattle.std.specs.Str.{is_utf8}
use Rattle.bz_tree.specs.Comments.{beside}
use Rattle.bz_tree.specs.Tree.{Item, leaf, group, Items, no_items, item, Segs, no_segs, seg, Statement, items_of}

abbrev mutual
  pub item_passes : (List ℕ → Bool) → Item → Bool
  item_passes test (leaf kind text) = test text
  item_passes test (group kind segs one_comma end) = segs_pass test segs && list_all test end

  pub items_pass : (List ℕ → Bool) → Items → Bool
  items_pass test no_items = true
  items_pass test (item x xs) = item_passes test x && items_pass test xs

  pub segs_pass : (List ℕ → Bool) → Segs → Bool
  segs_pass test no_segs = true
  segs_pass test (seg before nodes suffix ss) =
      list_all test before && items_pass test nodes && list_all test (beside suffix) && segs_pass test ss

abbrev pub statement_passes : (List ℕ → Bool) → Statement → Bool
statement_passes test s = list_all test s.before && items_pass test (items_of s.nodes) && list_all test (beside s.suffix)

-- each text is UTF-8
abbrev pub HasUtf8 : Statement → Type 0
HasUtf8 s = statement_passes is_utf8 s ≡ true
