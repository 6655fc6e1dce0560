use Rattle.std.proofs.Common.{false}
use Rattle.bz_tree.specs.declared.tree.GroupKind.TheVariants.{RuleCall}
use Rattle.bz_canonical.proofs.GroupSegments.{begin, begin_notes, finish, finish_notes}
use Rattle.bz_canonical.proofs.arguments.after_last_segments.Goals as goal

pub returns-in-10 : goal.returns-in-10
returns-in-10 c =
    let text = c.args.text.now in (
      text,
      finish RuleCall 1 c.args.depth text text 0 false false (begin RuleCall 1 c.args.depth text),
      finish_notes 1 text text false (begin_notes 1 text),
    )
