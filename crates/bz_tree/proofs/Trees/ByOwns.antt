-- The walk over the tokens with what stands in each open bracket kept in a list, and each bracket walked over when it is closed: the form in which
-- it is compared with the trees of brackets.
use Rattle.std.specs.Prelude.{List, [], ◌∷◌, ◌++◌, Bool, true, if◌then◌else◌, Option, Some, None, option_map, option_and_then}
use Rattle.bz_tree.specs.declared.tree.kinds.Shape.{Shape}
use Rattle.bz_tree.specs.declared.tree.kinds.Mark.{Mark}
use Rattle.bz_tree.specs.declared.tree.kinds.Mark.TheVariants.{Open, Close, Newline}
use Rattle.bz_tree.specs.declared.tree.kinds.Preceding.{Preceding}
use Rattle.bz_tree.specs.declared.tree.kinds.Preceding.TheVariants.{Other}
use Rattle.bz_token.specs.Places.{Placed}
use Rattle.bz_tree.specs.Tree.{Item, Segment}
use Rattle.bz_tree.specs.Kinds.{mark_of, is_one, group_kind}
use Rattle.bz_tree.specs.private.KindSteps.{same_shape}
use Rattle.bz_tree.specs.Owners.{Inner, node, comma, comment, Inside}
use Rattle.bz_tree.specs.Brackets.{with_comma_nodes, preceding, group_with}
use Rattle.bz_tree.specs.Elements.{has_for}
use Rattle.bz_tree.specs.Elements.{own_of}
use Rattle.bz_tree.specs.Elements.{segment_with}
use Rattle.bz_tree.specs.private.Steps.{Walked, at_start, after_node, after_comma, after_comment, done}

abbrev pub after : Inner → Walked → Option Walked
after (node line x) w = Some (after_node line x w)
after (comma t) w = after_comma t.line w
after (comment line text) w = Some (after_comment line text w)

abbrev pub walk : Walked → List Inner → Option Inside
walk w [] = Some (done w)
walk w (x ∷ xs) = option_and_then (λ v. walk v xs) (after x w)

-- the inside of a bracket, unless a segment is empty
abbrev pub content : Bool → List Inner → Option Inside
content one owns = walk at_start (with_comma_nodes one owns)

-- The stack of open brackets.
pub record Level : Type 0 where
  pub shape : Option Shape
  pub owns : List Inner
  pub at : Preceding

abbrev pub Levels : Type 0
Levels = Level × List Level

abbrev pub with_own : Level → Inner → Level
with_own l own = record { shape = l.shape; owns = l.owns ++ own ∷ []; at = preceding l.at own }

abbrev pub new_level : Option Shape → Level
new_level shape = record { shape = shape; owns = []; at = Other }

-- the group of a bracket that is closed
abbrev pub closed : Shape → Preceding → List Inner → Option Item
closed shape b owns = let kind = group_kind shape b (has_for owns) in option_map (group_with kind) (content (is_one kind) owns)

abbrev pub next_at : Mark → Placed → Level → List Level → Option Levels
next_at Newline t top outer = Some (top, outer)
next_at (Open shape) t top outer = Some (new_level (Some shape), top ∷ outer)
next_at (Close shape) t top [] = None
next_at (Close shape) t top (below ∷ outer) =
    if same_shape top.shape shape then option_map (λ g. (with_own below (node t.line g), outer)) (closed shape below.at top.owns) else None
next_at m t top outer = Some (with_own top (own_of m t), outer)

abbrev pub next : Placed → Levels → Option Levels
next t ls = next_at (mark_of t) t ls.0 ls.1

abbrev pub finish : Option Shape → List Inner → List Level → Option Segment
finish None owns [] = option_map segment_with (content true owns)
finish _ owns outer = None

abbrev pub run : Level → List Level → List Placed → Option Segment
run top outer [] = finish top.shape top.owns outer
run top outer (t ∷ ts) = option_and_then (λ ls. run ls.0 ls.1 ts) (next t (top, outer))
