use Rattle.std.proofs.Common.{◌≡◌, drop}
use Rattle.bz_tree.specs.Tree.{Statement}
use Rattle.bz_attribute.specs.Heads.{IsHeadOf}
use Rattle.bz_engine.specs.private.Rows.{none_marks}
use Rattle.bz_engine.proofs.row.is_unmarked.Given as goal

-- the passes that are left decide
abbrev pub invariant-loop-pass : goal.invariant-loop-pass
invariant-loop-pass l = (s : Statement) → IsHeadOf l.head s → none_marks (drop l.pass-index l.passes) s ≡ none_marks l.passes s
