use Rattle.std.proofs.Common.{not, drop, arith, length-drop}
use Rattle.std.proofs.lemmas.List.{take_rest}
use Rattle.std.proofs.lemmas.List.Sums.{prefix_len-le-length}
use Rattle.bz_token.specs.Common.{is_newline}
use Rattle.bz_token.specs.private.Scans.{is_plain}
use Rattle.bz_token.proofs.CutQuiet.{text_same_to, comment_same_to}
use Rattle.bz_token.proofs.cutter.scan.same_end.Goals as goal

pub overflow_add-result-in-Short : goal.overflow_add-result-in-Short
overflow_add-result-in-Short c =
    let rest = drop c.args.start c.args.bytes.now in
    let few = rw take_rest at c.plain_len.ensures in
    omega (arith, few, prefix_len-le-length (is_plain c.byte_of.result) rest, length-drop c.args.start c.args.bytes.now, c.requires)

pub overflow_add-result : goal.overflow_add-result
overflow_add-result c =
    let rest = drop c.args.start c.args.bytes.now in
    let few = rw take_rest at c.line_len.ensures in
    omega (arith, few, prefix_len-le-length (λ b. not (is_newline b)) rest, length-drop c.args.start c.args.bytes.now, c.requires)

pub returns-in-Short-clause-in_range : goal.returns-in-Short-clause-in_range
returns-in-Short-clause-in_range c =
    let rest = drop c.args.start c.args.bytes.now in
    let few = rw take_rest at c.plain_len.ensures in
    (omega arith, omega (arith, few, prefix_len-le-length (is_plain c.byte_of.result) rest, length-drop c.args.start c.args.bytes.now, c.requires))

pub returns-in-Short-clause-same : goal.returns-in-Short-clause-same
returns-in-Short-clause-same c =
    let few = rw take_rest at c.plain_len.ensures in
    rw (few, c.byte_of.ensures) (text_same_to c.args.scan c.in-Short.quote c.args.bytes.now c.args.start c.in-Short.is)

pub returns-in-Comment-clause-in_range : goal.returns-in-Comment-clause-in_range
returns-in-Comment-clause-in_range c =
    let rest = drop c.args.start c.args.bytes.now in
    let few = rw take_rest at c.line_len.ensures in
    (omega arith, omega (arith, few, prefix_len-le-length (λ b. not (is_newline b)) rest, length-drop c.args.start c.args.bytes.now, c.requires))

pub returns-in-Comment-clause-same : goal.returns-in-Comment-clause-same
returns-in-Comment-clause-same c =
    let few = rw take_rest at c.line_len.ensures in
    rw few (comment_same_to c.args.scan c.args.bytes.now c.args.start c.in-Comment.is)
