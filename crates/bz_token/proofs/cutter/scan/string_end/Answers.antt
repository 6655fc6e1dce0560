use Rattle.bz_token.proofs.CutQuiet.{string_same}
use Rattle.bz_token.proofs.cutter.scan.string_end.Goals as goal

pub returns-clause-same : goal.returns-clause-same
returns-clause-same c = λ depth. string_same depth c.args.bytes.now c.args.start c.mark_from-end.result c.if-bytes-start-ne34.false c.mark_from-end.ensures c.if-end-start.false c.if-end-bytes.false c.if-bytes-end-ne34.false
