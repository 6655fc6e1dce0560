-- What a run answers where it finds no next chunk, for private clauses.
use Rattle.std.specs.Prelude.{ℕ}
use Rattle.bz_devices.specs.declared.ahead.ChunkFault.{ChunkFault}
use Rattle.bz_devices.specs.declared.ahead.ChunkFault.TheVariants as chunk
use Rattle.bz_engine.specs.declared.run_fault.RunFault.{RunFault}
use Rattle.bz_engine.specs.declared.run_fault.RunFault.TheVariants.{OutOfMemory, ReadFailed, InputTooLong, StatementTooLong}

-- the fault of a chunk that begins on this line
abbrev pub fault_at : ℕ → ChunkFault → RunFault
fault_at line (chunk.OutOfMemory why) = OutOfMemory why
fault_at line chunk.ReadFailed = ReadFailed
fault_at line chunk.InputTooLong = InputTooLong
fault_at line chunk.StatementTooLong = StatementTooLong line
