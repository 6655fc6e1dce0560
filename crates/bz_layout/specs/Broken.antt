-- Which groups are broken over lines (this project's own rule).
-- Begin with `is_broken`.
use Rattle.std.specs.Prelude.{ℕ, List, Bool, false, ◌&&◌, ◌||◌, is_some, length, nat_le}
use Rattle.std.specs.List.{list_any}
use Rattle.bz_tree.specs.declared.tree.GroupKind.{GroupKind}
use Rattle.bz_tree.specs.declared.tree.GroupKind.TheVariants.{RuleCall, List as ListKind, Dict}
use Rattle.bz_tree.specs.Tree.{Segment}
use Rattle.bz_token.specs.Common.{is_filled}

-- a comment stands above the segment or beside it
abbrev pub has_comment : Segment → Bool
has_comment s = is_filled s.before || is_some s.suffix

-- what is broken by the number of its segments: lists and rules of two or more, dicts of one or more
abbrev pub breaks_by_count : GroupKind → ℕ → Bool
breaks_by_count ListKind n = nat_le 2 n
breaks_by_count RuleCall n = nat_le 2 n
breaks_by_count Dict n = nat_le 1 n
breaks_by_count _ n = false

-- A group is broken by a comment in it, by the number of its segments, or, if it has two or more, by a broken
-- group in one of them (`inside`: written with its segments side by side, it would still hold a new line before a
-- token or a comment).
abbrev pub is_broken : GroupKind → List Segment → List (List ℕ) → Bool → Bool
is_broken kind ss end inside = is_filled end || list_any has_comment ss || breaks_by_count kind (length ss)
    || nat_le 2 (length ss) && inside
