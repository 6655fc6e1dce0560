use Rattle.bz_memory.specs.NoMemory.{no_memory}
use Rattle.std.proofs.Common.{rules, ◌≡◌, ◌∙◌, map, sym, ap, subst, []}
use Rattle.bz_token.specs.Places.{placed}
use Rattle.bz_token.specs.Reading.{AreTokensOf}
use Rattle.bz_token.specs.Faults.{IsFault}
use Rattle.bz_token.specs.declared.fault.LexFault.TheVariants.{OutOfMemory}
use Rattle.bz_token.specs.Brackets.{open_tokens}
use Rattle.bz_token.specs.private.Scans.{opened, IsLeftOpen}
use Rattle.bz_token.proofs.Steps.{end_gap}
use Rattle.bz_token.proofs.Progress.{read_fresh, after_gap, if_ok, if_err, passed_on, all_read, none_opened, outside, left_open, empty_from_test, some_from_test}
use Rattle.bz_token.proofs.lexer.tokens_in.Goals as goal

pub loop-cursor-init : goal.loop-cursor-init
loop-cursor-init c =
    let s = c.start-cursor.ensures in
    (read_fresh c.args.first_line c.args.max_depth c.args.text.now _ _ _ _ _ _ (ap (map placed) c.in_ok-with_capacity.ensures.items) c.new.ensures s.none s.rest s.line s.col c.utf8.text).0

pub returns-in_err-cursor-clause-fault : goal.returns-in_err-cursor-clause-fault
returns-in_err-cursor-clause-fault c = passed_on c.from_residual-in_err-cursor.result c.in_err-cursor.field-0.0 (IsFault c.args.first_line c.args.max_depth c.args.text.now) c.from_residual-in_err-cursor.ensures.1 (c.in_err-cursor.ensures.fault c.args.first_line c.args.text.now [] c.loop-cursor.invariant)

pub loop-cursor-preserved : goal.loop-cursor-preserved
loop-cursor-preserved c = c.in_ok-cursor.ensures.read c.args.first_line c.args.text.now [] c.loop-cursor.invariant

pub returns-then-is_inside-clause-tokens : goal.returns-then-is_inside-clause-tokens
returns-then-is_inside-clause-tokens c =
    let done : c.loop-cursor.cursor.rest.now ≡ [] = empty_from_test c.loop-cursor.cursor.rest.now (sym c.loop-cursor-test.ensures) in
    let b = after_gap _ _ _ _ _ _ _ _ _ c.loop-cursor.invariant (end_gap _ _ done) in
    let same = c.into_bump_slice-tokens.ensures in
    if_ok _ _ c.closed.result
    (λ v h. subst (λ ts. AreTokensOf c.args.first_line c.args.max_depth c.args.text.now (map placed ts)) (sym (h.0 ∙ same)) (all_read _ _ _ _ _ _ _ _ _ _ b done (none_opened _ _ _ _ _ _ _ _ _ _ b (ap (λ ts. open_tokens [] (map placed ts)) (sym same) ∙ h.1)))) c.closed.ensures.tokens

pub returns-clause-tokens : goal.returns-clause-tokens
returns-clause-tokens c =
    let done : c.loop-cursor.cursor.rest.now ≡ [] = empty_from_test c.loop-cursor.cursor.rest.now (sym c.loop-cursor-test.ensures) in
    let b = after_gap _ _ _ _ _ _ _ _ _ c.loop-cursor.invariant (end_gap _ _ done) in
    subst (λ ts. AreTokensOf c.args.first_line c.args.max_depth c.args.text.now (map placed ts)) (sym c.into_bump_slice-tokens.ensures) (all_read _ _ _ _ _ _ _ _ _ _ b done (outside (opened c.loop-cursor.lexer.brackets) (search rules)))

pub read_line-requires-clause-some : goal.read_line-requires-clause-some
read_line-requires-clause-some c = some_from_test c.loop-cursor.cursor.rest.now (sym c.loop-cursor-test.ensures)

pub loop-cursor-smaller : goal.loop-cursor-smaller
loop-cursor-smaller c = c.in_ok-cursor.ensures.shorter

pub returns-then-is_inside-clause-fault : goal.returns-then-is_inside-clause-fault
returns-then-is_inside-clause-fault c =
    let done : c.loop-cursor.cursor.rest.now ≡ [] = empty_from_test c.loop-cursor.cursor.rest.now (sym c.loop-cursor-test.ensures) in
    let b = after_gap _ _ _ _ _ _ _ _ _ c.loop-cursor.invariant (end_gap _ _ done) in
    if_err _ _ c.closed.result (λ fault left. left_open _ _ _ _ _ _ _ _ _ _ fault b done (subst (λ ts. IsLeftOpen (map placed ts) fault) c.into_bump_slice-tokens.ensures left)) c.closed.ensures.fault

pub returns-in_err-with_capacity-clause-fault : goal.returns-in_err-with_capacity-clause-fault
returns-in_err-with_capacity-clause-fault c = passed_on c.from_residual.result (OutOfMemory no_memory) (IsFault c.args.first_line c.args.max_depth c.args.text.now) c.from_residual.ensures.1 tt
