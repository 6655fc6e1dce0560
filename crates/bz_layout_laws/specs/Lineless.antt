-- Statements without their lines.
use Rattle.bz_tree.specs.Tree.{Statement}

abbrev pub lineless : Statement → Statement
lineless s = record s { start = 0; end = 0 }
