-- For private clauses alone: what the code finds a word to be.
use Rattle.std.specs.Prelude.{Result, Ok, Err}
use Rattle.bz_script.specs.Flags as spec
use Rattle.bz_script.specs.declared.flags.Argument.{Argument}
use Rattle.bz_script.specs.declared.flags.Argument.TheVariants.{NonFlag, Terminator, SetSwitch, SetFile, FileNext}
use Rattle.bz_script.specs.declared.flags.FlagFault.{FlagFault}

abbrev pub argument_view : Result Argument FlagFault → spec.Argument
argument_view (Err why) = spec.Bad why
argument_view (Ok NonFlag) = spec.NonFlag
argument_view (Ok Terminator) = spec.Terminator
argument_view (Ok (SetSwitch switch on)) = spec.SetSwitch switch on
argument_view (Ok (SetFile path)) = spec.SetFile path.now
argument_view (Ok FileNext) = spec.FileNext
