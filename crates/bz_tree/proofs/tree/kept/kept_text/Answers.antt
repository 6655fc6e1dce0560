use Rattle.std.proofs.Common.{◌+◌, length, ap, ◌∙◌, arith}
use Rattle.bz_token.specs.Places.{placed}
use Rattle.bz_tree.specs.private.BlockSteps.{offset_run}
use Rattle.bz_tree.proofs.Trees.KeptText.{begin_is, end_is, end_within, begin_cut, end_cut, kept_between}
use Rattle.bz_tree.proofs.tree.kept.kept_text.Goals as goal

pub overflow_add-end : goal.overflow_add-end
overflow_add-end c =
    let a = c.requires.tokens in
    let e = end_is c.args.first_line c.args.text.now (placed c.args.header.now) (placed c.args.last.now) a c.offset_of.result (c.offset_of.ensures ∙ ap (offset_run c.args.last.now.line c.args.last.now.col c.args.first_line 1) c.as_bytes-2.ensures.value) in
    let w = end_within c.args.first_line c.args.text.now (placed c.args.header.now) (placed c.args.last.now) a in
    omega (arith, e, w)

pub range-requires-clause-start_le_end : goal.range-requires-clause-start_le_end
range-requires-clause-start_le_end c =
    let a = c.requires.tokens in
    let b = begin_is c.args.first_line c.args.text.now (placed c.args.header.now) (placed c.args.last.now) a c.offset_of-begin.result (c.offset_of-begin.ensures ∙ ap (offset_run c.args.header.now.line c.args.header.now.col c.args.first_line 1) c.as_bytes.ensures.value) in
    let e = end_is c.args.first_line c.args.text.now (placed c.args.header.now) (placed c.args.last.now) a c.offset_of.result (c.offset_of.ensures ∙ ap (offset_run c.args.last.now.line c.args.last.now.col c.args.first_line 1) c.as_bytes-2.ensures.value) in
    omega (arith, b, e)

pub range-requires-clause-start_boundary : goal.range-requires-clause-start_boundary
range-requires-clause-start_boundary c =
    let a = c.requires.tokens in
    let b = begin_is c.args.first_line c.args.text.now (placed c.args.header.now) (placed c.args.last.now) a c.offset_of-begin.result (c.offset_of-begin.ensures ∙ ap (offset_run c.args.header.now.line c.args.header.now.col c.args.first_line 1) c.as_bytes.ensures.value) in
    λ some. begin_cut c.args.first_line c.args.text.now (placed c.args.header.now) (placed c.args.last.now) a c.offset_of-begin.result b

pub range-requires-clause-end_boundary : goal.range-requires-clause-end_boundary
range-requires-clause-end_boundary c =
    let a = c.requires.tokens in
    let e = end_is c.args.first_line c.args.text.now (placed c.args.header.now) (placed c.args.last.now) a c.offset_of.result (c.offset_of.ensures ∙ ap (offset_run c.args.last.now.line c.args.last.now.col c.args.first_line 1) c.as_bytes-2.ensures.value) in
    end_cut c.args.first_line c.args.text.now (placed c.args.header.now) (placed c.args.last.now) a (c.offset_of.result + length c.args.last.now.text.now) e

pub returns : goal.returns
returns c =
    let a = c.requires.tokens in
    let b = begin_is c.args.first_line c.args.text.now (placed c.args.header.now) (placed c.args.last.now) a c.offset_of-begin.result (c.offset_of-begin.ensures ∙ ap (offset_run c.args.header.now.line c.args.header.now.col c.args.first_line 1) c.as_bytes.ensures.value) in
    let e = end_is c.args.first_line c.args.text.now (placed c.args.header.now) (placed c.args.last.now) a c.offset_of.result (c.offset_of.ensures ∙ ap (offset_run c.args.last.now.line c.args.last.now.col c.args.first_line 1) c.as_bytes-2.ensures.value) in
    kept_between c.args.first_line c.args.text.now (placed c.args.header.now) (placed c.args.last.now) a c.offset_of-begin.result (c.offset_of.result + length c.args.last.now.text.now) b e c.range.result.now c.range.ensures.value
