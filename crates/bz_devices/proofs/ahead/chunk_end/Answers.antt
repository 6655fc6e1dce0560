use Rattle.std.proofs.Common.{◌≤◌, ◌∙◌, ap, length, length-append, subst, arith}
use Rattle.std.specs.List.{concat}
use Rattle.std.proofs.lemmas.Result.{err_from_is_err_and}
use Rattle.bz_devices.specs.private.AheadSteps.{IsLineAt}
use Rattle.bz_devices.proofs.Searches.{searches_nothing, searches_then, searches_found, searches_failed}
use Rattle.bz_devices.proofs.ReadOn.{grows}
use Rattle.bz_devices.proofs.ChunkAhead.{goes_first, goes_read, last_end, chunk_end, few_left}
use Rattle.bz_devices.proofs.ahead.chunk_end.Goals as goal

pub loop-next-init : goal.loop-next-init
loop-next-init g c = record {
  searched = searches_nothing _ _ _ _ _ _ (g.met.S.Source.gave_nothing _) c.requires.made c.requires.few c.requires.bound;
  goes_on = goes_first c.new-cutter.result c.args.ahead.now c.new-cutter.ensures.part c.new-cutter.ensures.after;
  within = omega arith;
}

pub returns-in_err-next-clause-searches : goal.returns-in_err-next-clause-searches
returns-in_err-next-clause-searches g c =
    let p = err_from_is_err_and c.from_residual.result c.from_residual.ensures.1 in
    searches_then _ _ _ _ _ _ _ _ _ _ _ g.met.S.Source.gave_more c.loop-next.invariant.searched
    (searches_failed _ _ _ _ p.0 c.in_err-next.field-0.0 _ _ _ _ p.1 p.2 c.in_err-next.ensures.searches)

pub read_line-requires-clause-begun : goal.read_line-requires-clause-begun
read_line-requires-clause-begun g c = c.loop-next.invariant.goes_on.begun

pub returns-then-next-end-clause-searches : goal.returns-then-next-end-clause-searches
returns-then-next-end-clause-searches g c =
    searches_found _ _ _ _ _ _ _ _ _ (searches_then _ _ _ _ _ _ _ _ _ _ _ g.met.S.Source.gave_more c.loop-next.invariant.searched c.in_ok-next.ensures.searches)

pub returns-then-next-end-clause-end : goal.returns-then-next-end-clause-end
returns-then-next-end-clause-end g c =
    let e = c.loop-next.end in
    let inv = c.loop-next.invariant in
    let new = c.read_line.new.ahead in
    let read = c.in_ok-next.ensures.searches in
    last_end c.loop-next.cutter new e (subst (λ n. IsLineAt new e n) c.if-next-end.true c.in_ok-next.ensures.line)
    (goes_read c.args.limits.reads c.loop-next.cutter c.loop-next.ahead new read.pieces e read.read inv.within inv.goes_on)

pub ends_chunk-requires-clause-goes_on : goal.ends_chunk-requires-clause-goes_on
ends_chunk-requires-clause-goes_on g c =
    let inv = c.loop-next.invariant in
    let read = c.in_ok-next.ensures.searches in
    goes_read c.args.limits.reads c.loop-next.cutter c.loop-next.ahead c.read_line.new.ahead read.pieces c.loop-next.end read.read inv.within inv.goes_on

pub returns-in_err-is_end-clause-searches : goal.returns-in_err-is_end-clause-searches
returns-in_err-is_end-clause-searches g c =
    let fault = c.from_residual-in_err-is_end in
    let p = err_from_is_err_and fault.result fault.ensures.1 in
    searches_then _ _ _ _ _ _ _ _ _ _ _ g.met.S.Source.gave_more c.loop-next.invariant.searched
    (searches_then _ _ _ _ _ _ _ _ _ _ _ g.met.S.Source.gave_more c.in_ok-next.ensures.searches
    (searches_failed _ _ _ _ p.0 c.in_err-is_end.field-0.0 _ _ _ _ p.1 p.2 c.in_err-is_end.ensures.searches))

pub returns-then-is_end-clause-searches : goal.returns-then-is_end-clause-searches
returns-then-is_end-clause-searches g c =
    searches_found _ _ _ _ _ _ _ _ _
    (searches_then _ _ _ _ _ _ _ _ _ _ _ g.met.S.Source.gave_more c.loop-next.invariant.searched
    (searches_then _ _ _ _ _ _ _ _ _ _ _ g.met.S.Source.gave_more c.in_ok-next.ensures.searches c.in_ok-is_end.ensures.searches))

pub returns-then-is_end-clause-end : goal.returns-then-is_end-clause-end
returns-then-is_end-clause-end g c =
    let n = c.in_ok-next.next in
    let line = c.in_ok-next.ensures.line in
    let new = c.ends_chunk.new.ahead in
    let read = c.in_ok-is_end.ensures.searches in
    let within : n ≤ length new.bytes = omega (arith, line.within, grows c.args.limits.reads c.read_line.new.ahead new read.pieces read.read) in
    let ends = c.in_ok-is_end.ensures.ends c.if-is_end.true in
    chunk_end new n (omega (arith, line.after, c.if-next-end.false)) within (few_left n new within ends read.few) ends

pub loop-next-preserved : goal.loop-next-preserved
loop-next-preserved g c =
    let line = c.in_ok-next.ensures in
    let read = c.in_ok-is_end.ensures.searches in
    record {
      searched = searches_found _ _ _ _ _ _ _ _ _
          (searches_then _ _ _ _ _ _ _ _ _ _ _ g.met.S.Source.gave_more c.loop-next.invariant.searched
          (searches_then _ _ _ _ _ _ _ _ _ _ _ g.met.S.Source.gave_more line.searches read));
      goes_on = c.in_ok-is_end.ensures.goes c.if-is_end.false;
      within = omega (arith, line.line.within, grows c.args.limits.reads c.read_line.new.ahead c.ends_chunk.new.ahead read.pieces read.read);
    }

pub loop-next-smaller : goal.loop-next-smaller
loop-next-smaller g c =
    let line = c.in_ok-next.ensures in
    let first = line.searches.read in
    let read = c.in_ok-is_end.ensures.searches in
    let second = read.read in
    let given = ap length first.bytes ∙ length-append c.loop-next.ahead.bytes (concat line.searches.pieces) in
    let then_given = ap length second.bytes ∙ length-append c.read_line.new.ahead.bytes (concat read.pieces) in
    omega (arith, line.line.after, c.loop-next.invariant.within, line.line.within, first.few, second.few, given, then_given, first.reads, first.within, second.reads, second.within)

pub ends_chunk-requires-clause-line : goal.ends_chunk-requires-clause-line
ends_chunk-requires-clause-line g c = c.in_ok-next.ensures.line

pub ends_chunk-requires-clause-few : goal.ends_chunk-requires-clause-few
ends_chunk-requires-clause-few g c = c.in_ok-next.ensures.searches.few

pub ends_chunk-requires-clause-bound : goal.ends_chunk-requires-clause-bound
ends_chunk-requires-clause-bound g c = c.in_ok-next.ensures.searches.bound
