-- For private clauses alone: a value that is one token, by its parts.
use Rattle.std.specs.Prelude.{List, [], ◌∷◌}
use Rattle.bz_tree.specs.Tree.{Item, leaf}
use Rattle.bz_tree.specs.Rows.{RowPart, a_token, segment_end}

-- the nodes of one token, and none of anything else
abbrev pub one_token : List RowPart → List Item
one_token (a_token kind text ∷ segment_end ∷ ps) = leaf kind text ∷ []
one_token _ = []
