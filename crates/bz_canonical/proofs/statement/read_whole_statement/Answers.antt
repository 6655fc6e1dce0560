use Rattle.std.specs.Prelude.{option_map}
use Rattle.bz_canonical.proofs.StatementFronts.{comments_front, statement_front}
use Rattle.bz_canonical.proofs.statement.read_whole_statement.Goals as goal

pub returns-in-Some : goal.returns-in-Some
returns-in-Some c = comments_front c.args.max_depth c.args.text.now c.args.start.now c.in-Some.rest.now c.requires.lines c.if-start-text.false c.in-Some.ensures

pub returns : goal.returns
returns c =
    statement_front c.args.max_depth c.in_ok-read.read.class (option_map (λ name. name.now) c.in_ok-read.read.name) (option_map (λ kind. kind.now) c.in_ok-read.read.kind) c.args.text.now c.args.start.now c.in_ok-read.read.rest.now c.in_ok-side.side.rest.now c.in_ok-rest.rest.now c.in_ok-side.side.some
    c.requires.lines c.in_ok-read.ensures c.in_ok-side.ensures c.in_ok-rest.ensures
