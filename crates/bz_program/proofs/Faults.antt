-- Why a run has no report.
use Rattle.std.proofs.Common.{◌≡◌, ◌≢◌, ℕ, ◌<◌, ◌++◌, ◌∙◌, ap, refl, sym, subst, take, drop, take-append-drop, length, List, Result, Ok, Err}
use Rattle.std.specs.Prelude.{IsErrOf, IfErr}
use Rattle.std.proofs.lemmas.List.{length-take-le}
use Rattle.bz_devices.specs.Device.{NoneEnds, Rises}
use Rattle.bz_engine.specs.EveryFile.{ForEveryFile}
use Rattle.bz_engine.specs.declared.run_fault.RunFault.{RunFault}
use Rattle.bz_engine.specs.declared.run_fault.RunFault.TheVariants.{OutOfMemory, ReadFailed, WriteFailed, InputTooLong, StatementTooLong, Stopped}
use Rattle.bz_engine.specs.declared.options.Options.{Options}
use Rattle.bz_engine.specs.Outcome.{Run}
use Rattle.bz_engine.specs.Stops.{HasStopped}
use Rattle.bz_program.specs.Runs.{max_statement, max_reads, HasTooLong, IsFaultOver}
use Rattle.std.specs.List.{concat}

-- where a chunk that is too long stopped the run, it stands in the file after those that are done
pub too_long_in : (run : Run) (options : Options) (read : List (List ℕ)) (text : List ℕ) (line : ℕ) → HasStopped run options read text (StatementTooLong line)
    → ForEveryFile read (HasTooLong options.max_statement line (concat read))
too_long_in run options read text line has =
    let stopped = has.0 in
    record {
      each = λ rest last.
          let begins = stopped.tells.1 rest last in
          record {
            before = stopped.front;
            seen = take begins.seen stopped.left;
            left = drop begins.seen stopped.left;
            bytes_are = stopped.done.bytes_are ∙ ap (λ l. concat stopped.front ++ l) (sym (take-append-drop begins.seen stopped.left));
            over = subst (λ n. options.max_statement < n) (sym (length-take-le begins.seen stopped.left begins.within)) begins.over;
            more = begins.more;
            others = begins.others;
            chunks_are = stopped.done.chunks_are rest last ∙ ap (λ l. stopped.front ++ l) begins.chunks_are;
            line_is = stopped.tells.0;
          };
    }

-- what is so where this fault is told
pub at_fault : {T : Type 0} (P : RunFault → Type 0) (r : Result T RunFault) (fault : RunFault) → IfErr r P → r ≡ Err fault → P fault
at_fault P r fault h is = subst (λ x. IfErr x P) is h

module _ {S T : Type 0} (gave : S → List (List ℕ) → S → Type 0) (failures : S → ℕ) (source source_after : S) where
  pub fault_over : (r : Result T RunFault) → (IsErrOf r ReadFailed → Rises (failures source) (failures source_after))
      → (IsErrOf r InputTooLong → (read : List (List ℕ)) × gave source read source_after × (length read ≡ max_reads) × NoneEnds read)
      → ((line : ℕ) → r ≡ Err (StatementTooLong line)
      → (read : List (List ℕ)) × gave source read source_after × ForEveryFile read (HasTooLong max_statement line (concat read)))
      → r ≢ Err Stopped → IfErr r (λ fault. IsFaultOver gave failures source fault source_after)
  fault_over (Ok x) read long statement going = tt
  fault_over (Err (OutOfMemory _)) read long statement going = tt
  fault_over (Err ReadFailed) read long statement going = read refl
  fault_over (Err WriteFailed) read long statement going = tt
  fault_over (Err InputTooLong) read long statement going = long refl
  fault_over (Err (StatementTooLong line)) read long statement going = statement line refl
  fault_over (Err Stopped) read long statement going = going refl
