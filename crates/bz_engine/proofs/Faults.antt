-- Faults that are no others.
use Rattle.bz_memory.specs.NoMemory.{no_memory}
use Rattle.std.proofs.Common.{◌≡◌, ℕ, Bool, true, false, refl, ◌∙◌, sym, ap}
use Rattle.std.specs.Prelude.{Result, Ok, Err, OnErr}
use Rattle.std.proofs.lemmas.Bool.{false≢true}
use Rattle.bz_devices.proofs.PassedOn.{err_is}
use Rattle.bz_engine.specs.declared.run_fault.RunFault.{RunFault}
use Rattle.bz_engine.specs.declared.run_fault.RunFault.TheVariants.{OutOfMemory, ReadFailed, WriteFailed, InputTooLong, StatementTooLong, Stopped}
use Rattle.bz_devices.specs.declared.ahead.ChunkFault.{ChunkFault}
use Rattle.bz_devices.specs.declared.ahead.ChunkFault.TheVariants as chunk
use Rattle.bz_engine.specs.private.ChunkFaults.{fault_at}
use Rattle.bz_engine.proofs.Runs.{ok_is_no_err}

abbrev is_memory : RunFault → Bool
is_memory (OutOfMemory _) = true
is_memory ReadFailed = false
is_memory WriteFailed = false
is_memory InputTooLong = false
is_memory (StatementTooLong line) = false
is_memory Stopped = false

-- where only memory can be wanting, there is no other fault
pub memory_alone : {T X : Type 0} (r : Result T RunFault) (e : RunFault) → OnErr r (r ≡ Err (OutOfMemory no_memory)) → is_memory e ≡ false → r ≡ Err e → X
memory_alone (Ok x) e only other told = absurd (ok_is_no_err (Ok x) x e refl told)
memory_alone (Err f) e only other told = absurd (false≢true (sym other ∙ ap is_memory (sym (err_is (OutOfMemory no_memory) e (sym only ∙ told)))))

abbrev is_input : RunFault → Bool
is_input (OutOfMemory _) = false
is_input ReadFailed = false
is_input WriteFailed = false
is_input InputTooLong = true
is_input (StatementTooLong line) = false
is_input Stopped = false

-- a run's input is too long where that of a chunk is
pub input_is : (line : ℕ) (f : ChunkFault) → fault_at line f ≡ InputTooLong → f ≡ chunk.InputTooLong
input_is line chunk.InputTooLong e = refl
input_is line (chunk.OutOfMemory _) e = absurd (false≢true (ap is_input e))
input_is line chunk.ReadFailed e = absurd (false≢true (ap is_input e))
input_is line chunk.StatementTooLong e = absurd (false≢true (ap is_input e))
