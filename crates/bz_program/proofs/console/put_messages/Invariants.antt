use Rattle.std.proofs.Common.{◌≡◌, ℕ, List, ◌++◌}
use Rattle.bz_devices.specs.Buffer.{Took}
use Rattle.bz_program.specs.Texts.{messages_text}
use Rattle.bz_program.proofs.console.put_messages.Given as goal

abbrev pub invariant-loop-message : goal.invariant-loop-message
invariant-loop-message g l = record {
  done : List ℕ;
  took : Took g.W.Sink.took l.initial.sink done l.sink;
  all : done ++ messages_text l.file l.message-iterator ≡ messages_text l.file l.messages;
}
