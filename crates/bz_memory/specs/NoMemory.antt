-- The evidence that memory was refused, which has one value: the type's one field, `seen`, is `()`, in specs
-- `tt`. That memory was refused is not said here: only bz_memory can make the value, and it does so where std
-- refused.
-- Begin with `no_memory`.
use Rattle.bz_memory.specs.declared.no_memory.NoMemory.{NoMemory}

-- that evidence
abbrev pub no_memory : NoMemory
no_memory = record { seen = tt }
