-- What standard output and standard error are handed.
use Rattle.std.specs.Prelude.{ℕ, Bool, ◌||◌, List}
use Rattle.bz_devices.specs.Buffer.{Took}
use Rattle.bz_program.specs.declared.console.Console.{Console}

-- standard output is handed the first bytes, and standard error the second ones
pub record Shows {O E : Type 0} (out_took : O → List ℕ → O → Type 0) (err_took : E → List ℕ → E → Type 0)
    (old : Console O E) (shown told : List ℕ) (new : Console O E) : Type 0 where
  pub out : Took out_took old.out shown new.out
  pub err : Took err_took old.err told new.err

-- whether one of them has failed, so that bytes are lost
abbrev pub has_failed : {O E : Type 0} → Console O E → Bool
has_failed console = console.out.failed || console.err.failed
