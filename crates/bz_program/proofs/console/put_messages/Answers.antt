use Rattle.std.proofs.Common.{rules, ◌≡◌, [], ◌++◌, ap}
use Rattle.bz_devices.specs.Buffer.{took_nothing_lem, took_more_lem}
use Rattle.bz_program.specs.Texts.{message_of, messages_text}
use Rattle.bz_program.proofs.Written.{written_next}
use Rattle.bz_program.proofs.console.put_messages.Goals as goal

pub loop-message-init : goal.loop-message-init
loop-message-init g c =
    let begun : c.into_iter-message-iterator.result ≡ c.args.messages.now = search rules in
    record {
      done = [];
      took = took_nothing_lem g.W.Sink.took g.met.W.Sink.took_nothing c.args.sink.now;
      all = ap (messages_text c.args.file.now) begun;
    }

pub loop-message-preserved : goal.loop-message-preserved
loop-message-preserved g c =
    let inv = c.loop-message.invariant in
    let one = message_of c.args.file.now in
    let message = c.in-Some.message.now in
    record {
      done = inv.done ++ one message;
      took = took_more_lem g.W.Sink.took g.met.W.Sink.took_more c.args.sink.now c.loop-message.sink c.put_message.new.sink inv.done (one message) inv.took c.put_message.ensures;
      all = written_next one inv.done (messages_text c.args.file.now c.args.messages.now) c.loop-message.message-iterator c.next.new.self message c.in-Some.ensures.steps inv.all;
    }
