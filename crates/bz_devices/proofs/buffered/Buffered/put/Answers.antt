use Rattle.std.proofs.Common.{◌≡◌, [], rules, ◌∙◌, subst}
use Rattle.bz_devices.specs.Buffer.{Took, Stops, took_more_lem}
use Rattle.bz_devices.proofs.Stops.{stops_more}
use Rattle.bz_devices.proofs.buffered.Buffered.put.Goals as goal
use Rattle.bz_devices.proofs.buffered.Buffered.put.Goals.{else-bytes-le-FULL-via-then-bytes-le-FULL+else-keep_back, else-bytes-le-FULL-via-else-bytes-le-FULL}

pub returns-then-keep_back-clause-took : goal.returns-then-keep_back-clause-took
returns-then-keep_back-clause-took g c =
    took_more_lem g.W.Sink.took g.met.W.Sink.took_more c.args.self.now _ c.keep_back.new.self [] c.args.bytes.now c.make_room.ensures.took (c.keep_back.ensures.took (search rules))

pub returns-clause-took : goal.returns-clause-took
returns-clause-took g c =
    let here : c.else-bytes-le-FULL.self ≡ c.make_room.new.self = elim c.else-bytes-le-FULL.branch [
      | else-bytes-le-FULL-via-then-bytes-le-FULL+else-keep_back w ↦ w.self-is ∙ w.keep_back.ensures.same (search rules)
      | else-bytes-le-FULL-via-else-bytes-le-FULL w ↦ w.self-is
    ] in
    let spilled : Took g.W.Sink.took c.make_room.new.self [] c.spill.new.self = subst (λ b. Took g.W.Sink.took b [] c.spill.new.self) here c.spill.ensures.took in
    let more = took_more_lem g.W.Sink.took g.met.W.Sink.took_more in
    more c.args.self.now _ c.hand_on.new.self [] c.args.bytes.now c.make_room.ensures.took
    (more c.make_room.new.self c.spill.new.self c.hand_on.new.self [] c.args.bytes.now spilled c.hand_on.ensures.took)

pub returns-then-keep_back-clause-stops : goal.returns-then-keep_back-clause-stops
returns-then-keep_back-clause-stops g c =
    stops_more g.W.Sink.took g.W.Sink.failures g.met.W.Sink.took_more c.args.self.now c.make_room.new.self c.keep_back.new.self [] c.args.bytes.now
    c.make_room.ensures.took c.make_room.ensures.stops (c.keep_back.ensures.stops (search rules))

pub returns-clause-stops : goal.returns-clause-stops
returns-clause-stops g c =
    let made = c.make_room in
    let here : c.else-bytes-le-FULL.self ≡ made.new.self = elim c.else-bytes-le-FULL.branch [
      | else-bytes-le-FULL-via-then-bytes-le-FULL+else-keep_back w ↦ w.self-is ∙ w.keep_back.ensures.same (search rules)
      | else-bytes-le-FULL-via-else-bytes-le-FULL w ↦ w.self-is
    ] in
    let took = g.W.Sink.took in
    let failures = g.W.Sink.failures in
    let nothing : Took took made.new.self [] c.spill.new.self = subst (λ b. Took took b [] c.spill.new.self) here c.spill.ensures.took in
    let spilled : Stops took failures made.new.self [] c.spill.new.self =
    subst (λ b. Stops took failures b [] c.spill.new.self) here c.spill.ensures.stops in
    let more = stops_more took failures g.met.W.Sink.took_more in
    more c.args.self.now made.new.self c.hand_on.new.self [] c.args.bytes.now made.ensures.took made.ensures.stops
    (more made.new.self c.spill.new.self c.hand_on.new.self [] c.args.bytes.now nothing spilled c.hand_on.ensures.stops)
