use Rattle.std.proofs.Common.{◌≡◌, true, [], map}
use Rattle.bz_folder.specs.Sequence.{SafeRun}
use Rattle.bz_program.specs.Files.{MayHoldNothing}
use Rattle.bz_program.specs.Program.{MayHold, are_shown}
use Rattle.bz_program.proofs.Handling.{HandledTo}
use Rattle.bz_program.proofs.packages.edit_packages.Given as goal

abbrev pub invariant-loop-home : goal.invariant-loop-home
invariant-loop-home g l =
    let leads = g.D.Folder.leads in
    let gave = g.D.File.Source.gave in
    record {
      safe : SafeRun g.D.Folder.did (MayHold leads gave l.flags.k l.fn.script.items) l.initial.devices.draft.folder l.devices.draft.folder;
      handled : HandledTo g.D.Folder.did leads g.D.Folder.absent gave g.D.File.Source.failures g.S.Source.gave g.S.Source.failures g.O.Sink.took g.E.Sink.took l.flags l.fn.script.items l.initial.devices
          (map (λ e. (e.0, e.1.items)) l.yielded) l.devices l.whole;
      idle : l.whole ≡ 3 → SafeRun g.D.Folder.did MayHoldNothing l.initial.devices.draft.folder l.devices.draft.folder;
      shown : are_shown l.flags.stdout l.fn.script.items ≡ true → g.D.Folder.did l.initial.devices.draft.folder [] l.devices.draft.folder;
    }
