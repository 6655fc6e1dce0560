use Rattle.std.proofs.Common.{rules, tests, ◌≡◌, ◌∙◌, sym, refl, ap, map, length}
use Rattle.bz_token.specs.Places.{placed}
use Rattle.bz_token.specs.private.LineEnds.{line_end}
use Rattle.bz_token.proofs.LinesRead.{started, start_within, joined, front, front_within, front_boundary, shown, first_chunk_is}
use Rattle.bz_token.proofs.chunk.first_chunk.Goals as goal

pub loop-cursor-init : goal.loop-cursor-init
loop-cursor-init c =
    let s = c.start-cursor.ensures in
    started c.args.first_line c.args.max_depth c.args.text.now _ c.start-cursor.result c.in_ok-with_capacity.ensures.items c.new.ensures s.rest s.line s.col s.none c.utf8.text

pub tokens_from-requires : goal.tokens_from-requires
tokens_from-requires c =
    let i = c.loop-cursor.invariant in
    start_within _ _ _ _ _ _ (c.in-Ok.ensures.line (search (rules, tests)) c.args.first_line c.args.text.now c.loop-cursor.line_start i)

pub loop-cursor-preserved : goal.loop-cursor-preserved
loop-cursor-preserved c =
    let i = c.loop-cursor.invariant in
    let a = c.in-Ok.ensures.line (search (rules, tests)) c.args.first_line c.args.text.now c.loop-cursor.line_start i in
    let told = ap (λ ts. line_end (map placed ts)) (sym c.tokens_from.ensures) ∙ sym c.line_end.ensures ∙ c.in-Joins.is in
    let count : c.len-line_start.result ≡ length c.read_line.new.self.tokens.items = search (rules, tests) in
    rw count (joined _ _ _ _ _ _ a told)

pub overflow_sub-text : goal.overflow_sub-text
overflow_sub-text c =
    let i = c.loop-cursor.invariant in
    let a = c.in-Ok.ensures.line (search (rules, tests)) c.args.first_line c.args.text.now c.loop-cursor.line_start i in
    front_within _ _ _ (front _ _ _ _ _ _ a)

pub split_at-requires : goal.split_at-requires
split_at-requires c =
    let i = c.loop-cursor.invariant in
    let a = c.in-Ok.ensures.line (search (rules, tests)) c.args.first_line c.args.text.now c.loop-cursor.line_start i in
    front_boundary _ _ _ (front _ _ _ _ _ _ a) c.utf8.text

pub returns-in-Ends : goal.returns-in-Ends
returns-in-Ends c =
    let i = c.loop-cursor.invariant in
    let a = c.in-Ok.ensures.line (search (rules, tests)) c.args.first_line c.args.text.now c.loop-cursor.line_start i in
    let told = ap (λ ts. line_end (map placed ts)) (sym c.tokens_from.ensures) ∙ sym c.line_end.ensures ∙ c.in-Ends.is in
    let f = front _ _ _ _ _ _ a in
    first_chunk_is _ _ _ _ _ _ _ f refl c.split_at.ensures.front c.into_bump_slice.ensures (shown _ _ _ _ _ _ a told)
