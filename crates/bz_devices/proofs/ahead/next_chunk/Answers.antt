use Rattle.std.proofs.Common.{arith}
use Rattle.bz_devices.proofs.ChunkAhead.{too_long_ends}
use Rattle.bz_devices.proofs.Searches.{searches_then, searches_too_long}
use Rattle.bz_devices.proofs.ahead.next_chunk.Goals as goal

pub returns-then-end-limits-clause-searches : goal.returns-then-end-limits-clause-searches
returns-then-end-limits-clause-searches g c =
    let found = c.in_ok-end.ensures in
    searches_then _ _ _ _ _ _ _ _ _ _ _ g.met.S.Source.gave_more found.searches
    (searches_too_long _ _ _ _ _ (g.met.S.Source.gave_nothing _) found.searches.read.within found.searches.bound
    (too_long_ends c.args.limits.statement c.in_ok-end.end c.chunk_end.new.ahead c.if-end-limits.true found.end.within (found.end.ends (omega (arith, c.if-end-eq0.false)))))
