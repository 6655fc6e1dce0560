-- For proofs alone: the nodes that `with_args` makes, under a name of their own.
use Rattle.std.specs.Prelude.{List, Option}
use Rattle.bz_token.specs.Common.{map_or}
use Rattle.bz_tree.specs.Tree.{Item, Segment}
use Rattle.bz_attribute.specs.Rules.{Rule}
use Rattle.bz_attribute.specs.Effects.{nodes_of}

abbrev pub nodes_after : (List Segment → List Segment) → List Item → Option Rule → List Item
nodes_after f nodes rule = map_or nodes (λ r. nodes_of (record r { args = f r.args })) rule
