use Rattle.std.proofs.Common.{true, false, ◌<◌, ◌∙◌, ◌-◌, length, take, drop, sym, ap, subst, arith, length-drop}
use Rattle.std.proofs.lemmas.Result.{err_from_is_err_and}
use Rattle.bz_token.specs.Cuts.{IsBlock}
use Rattle.bz_token.specs.CutterState.{IsAfter}
use Rattle.bz_devices.proofs.Searches.{searches_nothing, searches_one, searches_in_vain, searches_too_long, searches_then, searches_found, searches_failed}
use Rattle.bz_devices.proofs.ReadOn.{grows, front_stays}
use Rattle.bz_devices.proofs.ChunkLines.{slice_is}
use Rattle.bz_devices.proofs.ChunkAhead.{block_ends, block_goes, too_long_block, block_undecided, few_block}
use Rattle.bz_devices.proofs.ahead.ends_block.Goals as goal

pub loop-ahead-init : goal.loop-ahead-init
loop-ahead-init g c = record {
  searched = searches_nothing _ _ _ _ _ _ (g.met.S.Source.gave_nothing _) c.requires.made c.requires.few c.requires.bound;
  after = c.requires.after;
  block = c.requires.block;
  within = c.requires.within;
}

pub returns-in-Ends-clause-ends : goal.returns-in-Ends-clause-ends
returns-in-Ends-clause-ends g c _ =
    let ahead = c.loop-ahead.ahead in
    let e = c.args.end in
    let seen = c.bytes.result.now in
    block_ends e ahead (take (length seen - e) (drop e seen)) c.is_ended.result (slice_is seen ahead.bytes e c.bytes.ensures) c.is_ended.ensures
    (c.in-Ends.ensures.next (take e ahead.bytes) c.loop-ahead.invariant.after)

pub returns-in-Goes-clause-goes : goal.returns-in-Goes-clause-goes
returns-in-Goes-clause-goes g c _ =
    let ahead = c.loop-ahead.ahead in
    let inv = c.loop-ahead.invariant in
    let e = c.args.end in
    let seen = c.bytes.result.now in
    block_goes e c.goes_on.new.self ahead (take (length seen - e) (drop e seen)) c.is_ended.result (slice_is seen ahead.bytes e c.bytes.ensures) c.is_ended.ensures inv.block
    (c.in-Goes.ensures.next (take e ahead.bytes) inv.after) (c.in-Goes.ensures.after (take e ahead.bytes) inv.after)

pub returns-in-Ends-clause-searches : goal.returns-in-Ends-clause-searches
returns-in-Ends-clause-searches g c = searches_found _ _ _ _ true _ _ _ _ c.loop-ahead.invariant.searched

pub returns-in-Goes-clause-searches : goal.returns-in-Goes-clause-searches
returns-in-Goes-clause-searches g c = searches_found _ _ _ _ false _ _ _ _ c.loop-ahead.invariant.searched

pub returns-then-end-limits-clause-searches : goal.returns-then-end-limits-clause-searches
returns-then-end-limits-clause-searches g c =
    let inv = c.loop-ahead.invariant in
    searches_then _ _ _ _ _ _ _ _ _ _ _ g.met.S.Source.gave_more inv.searched
    (searches_too_long _ _ _ _ _ (g.met.S.Source.gave_nothing _) inv.searched.read.within inv.searched.bound
    (too_long_block c.args.limits.statement c.args.end c.loop-ahead.ahead c.if-end-limits.true inv.within inv.block))

pub read-requires-clause-some : goal.read-requires-clause-some
read-requires-clause-some g c =
    let ahead = c.loop-ahead.ahead in
    let e = c.args.end in
    let seen = c.bytes.result.now in
    let short = c.in-Short.ensures.next (take e ahead.bytes) c.loop-ahead.invariant.after in
    omega (arith, short.1, ap length (slice_is seen ahead.bytes e c.bytes.ensures), length-drop e ahead.bytes, ap length c.bytes-in-Short.ensures)

pub read-requires-clause-open : goal.read-requires-clause-open
read-requires-clause-open g c =
    let short = c.in-Short.ensures.next (take c.args.end c.loop-ahead.ahead.bytes) c.loop-ahead.invariant.after in
    sym c.is_ended.ensures ∙ short.0

pub loop-ahead-preserved : goal.loop-ahead-preserved
loop-ahead-preserved g c =
    let max = c.args.limits.reads in
    let old = c.loop-ahead.ahead in
    let new = c.read.new.self in
    let e = c.args.end in
    let inv = c.loop-ahead.invariant in
    let done = c.in_ok-read-in-Short.ensures in
    let read = done.read in
    let front = front_stays max old new read.0 e read.2 inv.within in
    let seen = c.bytes.result.now in
    let short = c.in-Short.ensures.next (take e old.bytes) inv.after in
    let undecided = block_undecided c.args.limits.statement e old (take (length seen - e) (drop e seen)) c.is_ended.result (slice_is seen old.bytes e c.bytes.ensures) c.if-end-limits.false short in
    let here : length old.bytes - e < 5 = omega (arith, short.1, ap length (slice_is seen old.bytes e c.bytes.ensures), length-drop e old.bytes) in
    record {
      searched = searches_then _ _ _ _ _ _ _ _ _ _ _ g.met.S.Source.gave_more inv.searched
          (searches_one _ _ _ _ _ _ old new read.0 read.1 read.2 done.one undecided
          (few_block max e old new read.0 read.2 (omega (arith, inv.within, read.3, here, ap length c.bytes-in-Short.ensures)) inv.within inv.block)
          (omega (arith, inv.within, read.3, here, grows max old new read.0 read.2, ap length c.bytes-in-Short.ensures, c.if-end-limits.false))
          (done.steady (λ e. cc)));
      after = subst (λ l. IsAfter c.goes_on.new.self l) (sym front) (c.in-Short.ensures.after (take e old.bytes) inv.after);
      block = subst (λ l. IsBlock l) (sym front) inv.block;
      within = omega (arith, inv.within, grows max old new read.0 read.2);
    }

pub returns-in_err-read-in-Short-clause-searches : goal.returns-in_err-read-in-Short-clause-searches
returns-in_err-read-in-Short-clause-searches g c =
    let old = c.loop-ahead.ahead in
    let e = c.args.end in
    let seen = c.bytes.result.now in
    let inv = c.loop-ahead.invariant in
    let done = c.in_err-read-in-Short.ensures in
    let short = c.in-Short.ensures.next (take e old.bytes) inv.after in
    let undecided = block_undecided c.args.limits.statement e old (take (length seen - e) (drop e seen)) c.is_ended.result (slice_is seen old.bytes e c.bytes.ensures) c.if-end-limits.false short in
    let p = err_from_is_err_and c.from_residual.result c.from_residual.ensures.1 in
    searches_then _ _ _ _ _ _ _ _ _ _ _ g.met.S.Source.gave_more inv.searched
    (searches_failed _ _ _ {A = Unit {0}} _ p.0 c.in_err-read-in-Short.field-0.0 _ _ _ _ p.1 p.2
    (searches_in_vain _ _ _ c.in_err-read-in-Short.field-0.0 _ _ old c.read.new.self done.read.0 done.read.1 done.read.2 done.err (sym c.is_ended.ensures ∙ short.0) undecided inv.searched.bound
    done.fitting done.too_long done.failed done.steady))

pub overflow_sub-most-in-Short : goal.overflow_sub-most-in-Short
overflow_sub-most-in-Short g c =
    let ahead = c.loop-ahead.ahead in
    let e = c.args.end in
    let seen = c.bytes.result.now in
    let short = c.in-Short.ensures.next (take e ahead.bytes) c.loop-ahead.invariant.after in
    omega (arith, short.1, ap length (slice_is seen ahead.bytes e c.bytes.ensures), length-drop e ahead.bytes, ap length c.bytes-in-Short.ensures)
