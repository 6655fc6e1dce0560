use Rattle.std.proofs.Common.{◌≡◌, ◌<◌, ◌∷◌, ◌++◌, ◌-◌, [], take, drop, length, refl, ap, sym, subst, length-take, arith}
use Rattle.bz_token.specs.Chunks.{chunks}
use Rattle.bz_token.specs.Cuts.{IsPart, IsBlock, EndsBefore, ends_in_newline}
use Rattle.bz_token.specs.CutterState.{IsAfter}
use Rattle.bz_devices.proofs.ChunkLines.{front_line}
use Rattle.bz_devices.proofs.Searches.{searches_nothing}
use Rattle.bz_devices.proofs.ChunkAhead.{line_physical, some_after, goes_with_line, more_goes, block_line}
use Rattle.bz_devices.proofs.ahead.ends_chunk.Goals as goal

pub line-requires-clause-one_line : goal.line-requires-clause-one_line
line-requires-clause-one_line g c =
    let e = c.args.line.from in
    let n = c.args.line.end in
    line_physical c.args.ahead.now e n (take (n - e) (drop e c.bytes.result.now)) (ap (λ l. take (n - e) (drop e l)) c.bytes.ensures) c.requires.line

pub returns-in-Whole-clause-searches : goal.returns-in-Whole-clause-searches
returns-in-Whole-clause-searches g c = searches_nothing _ _ _ _ _ _ (g.met.S.Source.gave_nothing _) c.requires.made c.requires.few c.requires.bound

pub returns-in-More-clause-searches : goal.returns-in-More-clause-searches
returns-in-More-clause-searches g c = searches_nothing _ _ _ _ _ _ (g.met.S.Source.gave_nothing _) c.requires.made c.requires.few c.requires.bound

pub returns-in-Whole-clause-ends : goal.returns-in-Whole-clause-ends
returns-in-Whole-clause-ends g c _ rest may =
    let e = c.args.line.from in
    let n = c.args.line.end in
    let bytes = c.args.ahead.now.bytes in
    let line = take (n - e) (drop e c.bytes.result.now) in
    let after = c.requires.goes_on.after (some_after c.args.ahead.now e n c.requires.some c.requires.line) in
    let front = front_line bytes line e n (ap (λ l. take (n - e) (drop e l)) c.bytes.ensures) c.requires.line.after in
    let whole = c.in-Whole.ensures.whole (take e bytes) after in
    subst (λ l. EndsBefore l (drop n bytes ++ rest)) front (whole.0 refl (drop n bytes ++ rest))

pub returns-in-More-clause-goes : goal.returns-in-More-clause-goes
returns-in-More-clause-goes g c _ =
    let e = c.args.line.from in
    let n = c.args.line.end in
    let bytes = c.args.ahead.now.bytes in
    let line = take (n - e) (drop e c.bytes.result.now) in
    let same : line ≡ take (n - e) (drop e bytes) = ap (λ l. take (n - e) (drop e l)) c.bytes.ensures in
    let after = c.requires.goes_on.after (some_after c.args.ahead.now e n c.requires.some c.requires.line) in
    let front = front_line bytes line e n same c.requires.line.after in
    let more = c.in-More.ensures in
    more_goes c.line.new.self c.args.ahead.now e n (ends_in_newline line) (sym (ap ends_in_newline same)) c.requires.some c.requires.line
    (λ t. subst (λ l. IsPart l) front (more.cut t (take e bytes) after))
    (λ t. subst (λ l. IsAfter c.line.new.self l) front (more.after t (take e bytes) after))
    (λ f. subst (λ l. 0 < length l → chunks l ≡ l ∷ []) front (more.last f (take e bytes) after).1)

pub ends_block-requires-clause-after : goal.ends_block-requires-clause-after
ends_block-requires-clause-after g c =
    let e = c.args.line.from in
    let n = c.args.line.end in
    let bytes = c.args.ahead.now.bytes in
    let line = take (n - e) (drop e c.bytes.result.now) in
    let after = c.requires.goes_on.after (some_after c.args.ahead.now e n c.requires.some c.requires.line) in
    let front = front_line bytes line e n (ap (λ l. take (n - e) (drop e l)) c.bytes.ensures) c.requires.line.after in
    let newline = block_line (ends_in_newline line) (λ f. (c.in-Block.ensures.last f (take e bytes) after).0) in
    subst (λ l. IsAfter c.line.new.self l) front (c.in-Block.ensures.after newline (take e bytes) after)

pub ends_block-requires-clause-block : goal.ends_block-requires-clause-block
ends_block-requires-clause-block g c =
    let e = c.args.line.from in
    let n = c.args.line.end in
    let bytes = c.args.ahead.now.bytes in
    let line = take (n - e) (drop e c.bytes.result.now) in
    let after = c.requires.goes_on.after (some_after c.args.ahead.now e n c.requires.some c.requires.line) in
    let front = front_line bytes line e n (ap (λ l. take (n - e) (drop e l)) c.bytes.ensures) c.requires.line.after in
    let newline = block_line (ends_in_newline line) (λ f. (c.in-Block.ensures.last f (take e bytes) after).0) in
    subst (λ l. IsBlock l) front (c.in-Block.ensures.cut newline (take e bytes) after)

pub line-requires-clause-after : goal.line-requires-clause-after
line-requires-clause-after g c =
    let e = c.args.line.from in
    let n = c.args.line.end in
    let ahead = c.args.ahead.now in
    let line = take (n - e) (drop e c.bytes.result.now) in
    let same : line ≡ take (n - e) (drop e ahead.bytes) = ap (λ l. take (n - e) (drop e l)) c.bytes.ensures in
    let after = c.requires.goes_on.after (some_after ahead e n c.requires.some c.requires.line) in (
      take e ahead.bytes,
      after,
      omega (arith, c.requires.line.within, length-take e ahead.bytes, length-take (n - e) (drop e c.bytes.result.now)),
      goes_with_line ahead e n line same c.requires.some c.requires.line c.requires.goes_on.begun,
    )
