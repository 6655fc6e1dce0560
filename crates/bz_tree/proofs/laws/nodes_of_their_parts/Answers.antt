use Rattle.std.proofs.Common.{◌∙◌}
use Rattle.bz_tree.specs.Tree.{items_of}
use Rattle.bz_tree.proofs.Rows.FromParts as law
use Rattle.bz_tree.proofs.laws.nodes_of_their_parts.Goals as goal

pub returns-clause-nodes : goal.returns-clause-nodes
returns-clause-nodes c nodes = law.nodes_back (items_of nodes) ∙ law.listed_back nodes

pub returns-clause-statement : goal.returns-clause-statement
returns-clause-statement c = law.statement_back
