use Rattle.std.proofs.Common.{[], ◌∙◌, sym, subst, append-nil}
use Rattle.bz_devices.specs.Buffer.{Buffer, Stops}
use Rattle.bz_devices.proofs.Stops.{stops_at_write}
use Rattle.bz_devices.proofs.buffered.Buffered.spill.Goals as goal

pub returns-clause-stops : goal.returns-clause-stops
returns-clause-stops g c =
    let took = g.W.Sink.took in
    let failures = g.W.Sink.failures in
    let within = c.self.inside in
    let handed = c.hand_over-self-inside in
    let old : Buffer g.row.W.Denot = record { sink = within.sink; waiting = within.waiting.items; failed = within.failed; failures = within.failures } in
    let new : Buffer g.row.W.Denot = record { sink = handed.new.sink; waiting = c.clear.new.self.items; failed = handed.result; failures = within.failures } in
    let e = handed.ensures in
    subst (λ b. Stops took failures b [] new) c.self.view_is
    (stops_at_write took failures old new [] c.as_slice.result.now (append-nil within.waiting.items ∙ sym c.as_slice.ensures.value) e.all e.front e.stays e.cause e.steady)
