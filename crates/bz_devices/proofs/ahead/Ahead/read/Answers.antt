use Rattle.std.proofs.Common.{[], ◌∷◌, ◌+◌, take, append-nil, ◌∙◌, sym}
use Rattle.bz_devices.proofs.TextAhead.{text_grown}
use Rattle.bz_devices.proofs.ReadOn.{read_failed, read_once, nothing_within}
use Rattle.bz_devices.proofs.ahead.Ahead.read.Goals as goal

pub invariant_of-self : goal.invariant_of-self
invariant_of-self g c =
    let inside = c.self.inside in
    let items = take inside.end inside.buffer.items in
    let left = c.in_err-n.ensures.err in
    let text = text_grown items [] (take inside.end c.read_at_most.new.bytes.items) inside.start inside.text_len (left.1 ∙ sym (append-nil items)) (c.self.invariant.0, c.self.invariant.1) in
    (text.0, text.1, left.2)

pub invariant_of-self-2 : goal.invariant_of-self-2
invariant_of-self-2 g c =
    let inside = c.self.inside in
    let items = take inside.end inside.buffer.items in
    let piece = c.in_ok-n.ensures.read in
    let text = text_grown items piece.0 (take (inside.end + c.in_ok-n.n) c.read_at_most.new.bytes.items) inside.start inside.text_len piece.2 (c.self.invariant.0, c.self.invariant.1) in
    (text.0, text.1, c.in_ok-n.ensures.within)

pub returns-in_err-n-clause-read : goal.returns-in_err-n-clause-read
returns-in_err-n-clause-read g c =
    let inside = c.self.inside in
    let left = c.in_err-n.ensures.err in (
      [],
      left.0,
      read_failed c.args.max_reads c.args.self.now (take inside.end inside.buffer.items) (take inside.end c.read_at_most.new.bytes.items) inside.start inside.reads inside.ended (c.self.view_is ∙ c.drop_taken.ensures) left.1 c.requires.made,
      nothing_within c.args.most,
    )

pub returns-clause-read : goal.returns-clause-read
returns-clause-read g c =
    let inside = c.self.inside in
    let n = c.in_ok-n.n in
    let piece = c.in_ok-n.ensures.read in
    let read = read_once c.args.max_reads c.args.most c.args.self.now c.check.new.self (take inside.end inside.buffer.items) (take (inside.end + n) c.read_at_most.new.bytes.items) piece.0 inside.start inside.text_len inside.reads n inside.ended
    (c.self.view_is ∙ c.drop_taken.ensures) c.check.ensures piece.2 piece.3 piece.4 c.requires.few c.self.invariant.0 c.in_ok-n.ensures.allowed c.requires.open in
    (piece.0 ∷ [], piece.1, read.0, read.1)
