-- What a session has done, with one chunk more, and where it ends.
use Rattle.std.proofs.Common.{◌≡◌, ℕ, ◌+◌, ◌≤◌, true, false, ◌||◌, not, List, [], ◌∷◌, ◌++◌, length, take, drop, length-append, take-append-drop, refl, sym, ◌∙◌, ap, subst, append-nil, flat_map}
use Rattle.std.specs.Prelude.{◌↔◌, IsTrue, Option, None, Some, Ok, Err}
use Rattle.bz_token.specs.Chunks.{chunks}
use Rattle.bz_tree.specs.Tree.{Statement}
use Rattle.bz_engine.specs.declared.report.SyntaxFault.{SyntaxFault}
use Rattle.bz_engine.specs.declared.report.End.TheVariants.{Whole, Syntax, FirstFailure}
use Rattle.bz_devices.specs.Device.{ends}
use Rattle.bz_devices.specs.Ahead.{Ahead, IsReadOn, IsNextChunk}
use Rattle.bz_engine.specs.Language.{meaning}
use Rattle.bz_engine.specs.File.{AreStatementsOf, IsAnswerOf}
use Rattle.bz_engine.specs.Outcome.{Run, at_a_failure, at_the_end, slots_of, text_after, told_of}
use Rattle.bz_engine.specs.Scripts.{AreCommands}
use Rattle.bz_engine.proofs.ChangesLaw.{changes_tell}
use Rattle.bz_engine.proofs.Failures.{calm_of, failure_is, log_fails}
use Rattle.bz_passes.specs.Exchange.{told, some_not_found}
use Rattle.bz_passes.specs.Passes.{Changes, log_of}
use Rattle.bz_token.specs.Common.{is_empty}
use Rattle.bz_engine.specs.Progress.{Progress, IsKeptOf}
use Rattle.bz_engine.specs.private.Edits.{IsDone, IsFailed}
use Rattle.bz_engine.specs.SessionValue.{SessionValue, run_in, HasDone, HasEnded, told_of_progress, told_alone}
use Rattle.bz_passes.proofs.ExchangeLaw.{told_left, missing_left}
use Rattle.bz_devices.proofs.MoreReads.{ends_more, open_more, bytes_more, chunks_more, chunk_taken, one_more}
use Rattle.bz_engine.proofs.Given.{give_fault, give_statement}
use Rattle.bz_engine.proofs.NeededReads.{needed_on, reads_of}
use Rattle.bz_engine.specs.NeededReads.{AreReads}
use Rattle.bz_engine.specs.Stops.{ComesNext}
use Rattle.bz_engine.specs.private.Finds.{AreFew}
use Rattle.std.proofs.lemmas.List.{length-take-le}
use Rattle.bz_passes.specs.Entries.{line_text, message_text, failure_text}
use Rattle.std.specs.List.{concat}

-- the chunks of the file after more reads
pub read_on : (v : SessionValue) (mid : Ahead) (max_reads : ℕ) (pieces cs read : List (List ℕ)) (text : List ℕ)
    → HasDone v pieces cs text → IsReadOn max_reads v.ahead mid read
    → (rest : List ℕ) → (IsTrue mid.ended → rest ≡ []) → chunks (concat (pieces ++ read) ++ rest) ≡ cs ++ chunks (mid.bytes ++ rest)
read_on v mid max_reads pieces cs read text done on =
    chunks_more pieces read cs v.ahead.bytes mid.bytes v.ahead.ended mid.ended done.first on.bytes on.ended on.stays

pub ended_on : (v : SessionValue) (mid : Ahead) (max_reads : ℕ) (pieces cs read : List (List ℕ)) (text : List ℕ)
    → HasDone v pieces cs text → IsReadOn max_reads v.ahead mid read → mid.ended ≡ ends (pieces ++ read)
ended_on v mid max_reads pieces cs read text done on = on.ended ∙ ends_more v.ahead.ended pieces read done.ended on.stays

pub reads_on : (v : SessionValue) (mid : Ahead) (max_reads : ℕ) (pieces cs read : List (List ℕ)) (text : List ℕ)
    → HasDone v pieces cs text → IsReadOn max_reads v.ahead mid read → mid.reads ≡ length (pieces ++ read)
reads_on v mid max_reads pieces cs read text done on =
    on.reads ∙ ap (λ n. n + length read) done.reads ∙ sym (length-append pieces read)

pub reads_within : (v : SessionValue) (mid : Ahead) (max_reads : ℕ) (pieces cs read : List (List ℕ)) (text : List ℕ)
    → HasDone v pieces cs text → IsReadOn max_reads v.ahead mid read → length (pieces ++ read) ≤ max_reads
reads_within v mid max_reads pieces cs read text done on = subst (λ n. n ≤ max_reads) (reads_on v mid max_reads pieces cs read text done on) on.within

-- the reads that were made
pub reads_are : (v : SessionValue) (mid : Ahead) (pieces cs read : List (List ℕ)) (text : List ℕ)
    → HasDone v pieces cs text → IsReadOn v.options.max_reads v.ahead mid read → AreFew v.options.max_statement v.ahead.bytes read
    → AreReads v.home v.passes v.options (pieces ++ read)
reads_are v mid pieces cs read text done on needed =
    reads_of v (pieces ++ read) (reads_within v mid v.options.max_reads pieces cs read text done on) (needed_on v mid v.options.max_reads pieces cs read text done on needed)

-- what stood ahead and what was read then
pub read_within : (v w : SessionValue) (mid : Ahead) (max_reads : ℕ) (read : List (List ℕ)) → v ≡ w → IsReadOn max_reads v.ahead mid read
    → length mid.bytes ≤ v.options.max_statement + 8192 → length (w.ahead.bytes ++ concat read) ≤ w.options.max_statement + 8192
read_within v w mid max_reads read same on bound =
    subst (λ x. length (x.ahead.bytes ++ concat read) ≤ x.options.max_statement + 8192) same
    (subst (λ l. length l ≤ v.options.max_statement + 8192) on.bytes bound)

-- a chunk was done
pub went_on : (v : SessionValue) (mid : Ahead) (progress : Progress) (max_reads most n : ℕ) (pieces cs read : List (List ℕ)) (text after : List ℕ)
    → (done : HasDone v pieces cs text) → IsReadOn max_reads v.ahead mid read → AreFew v.options.max_statement v.ahead.bytes read → IsNextChunk most mid n
    → (edited : IsDone (run_in v) cs done.statements (take n mid.bytes) v.progress progress [] after)
    → HasDone (record v { ahead = record mid { bytes = drop n mid.bytes }; progress = progress }) (pieces ++ read) (cs ++ take n mid.bytes ∷ []) (text ++ after)
went_on v mid progress max_reads most n pieces cs read text after done on needed next edited = record {
  bytes = bytes_more pieces read cs v.ahead.bytes mid.bytes (take n mid.bytes) (drop n mid.bytes) done.bytes on.bytes (sym (take-append-drop n mid.bytes));
  reads = reads_on v mid max_reads pieces cs read text done on;
  ended = ended_on v mid max_reads pieces cs read text done on;
  none_ends = open_more v.ahead.ended mid.ended pieces read on.ended done.none_ends on.none_ends;
  needed = needed_on v mid max_reads pieces cs read text done on needed;
  few = next.left;
  first = λ rest over.
      chunk_taken cs mid.bytes rest (concat (pieces ++ read) ++ rest) n (read_on v mid max_reads pieces cs read text done on rest over) (next.ends rest over)
      ∙ one_more cs (chunks (drop n mid.bytes ++ rest)) (take n mid.bytes);
  statements = done.statements ++ edited.more;
  kept = edited.kept;
  text_is = ap (λ l. l ++ after) done.text_is ∙ ap (λ l. text_after v.home v.passes done.statements ++ l) edited.appended ∙ sym edited.text;
  none_fails = λ h. edited.none_fails h (done.none_fails h);
}

-- what is told at the end of the file
told_whole : (run : Run) (cs : List (List ℕ)) (ss : List Statement) (p : Progress)
    → IsKeptOf run cs ss p → told_of_progress run.home run.passes p ≡ told_of run.home run.passes ss None p.changed
told_whole run cs ss p kept =
    let log : told (meaning run.home) run.passes p.kept ≡ log_of (meaning run.home) run.passes (slots_of ss) =
    told_left (meaning run.home) run.passes (slots_of ss) p.kept kept.left.kept in
    let failed : (p.failed || some_not_found (meaning run.home) run.passes p.kept) ≡ not (is_empty (flat_map failure_text (log_of (meaning run.home) run.passes (slots_of ss)))) =
    (λ i. (kept.left.failed ∙ sym (failure_is run.home run.passes ss)) i || missing_left (meaning run.home) run.passes (slots_of ss) p.kept kept.left.kept i)
    ∙ sym (log_fails run.home run.passes ss) in
    λ i. record { lines = flat_map line_text (log i); messages = flat_map message_text (log i); changed = p.changed; failed = failed i; end = Whole }

-- what is kept tells of a change where one took place
change_kept : (run : Run) (cs : List (List ℕ)) (ss : List Statement) (p : Progress) → AreCommands run.passes → IsKeptOf run cs ss p
    → (p.changed ≡ true) ↔ Changes (meaning run.home) run.passes (slots_of ss)
change_kept run cs ss p commands kept =
    subst (λ b. (b ≡ true) ↔ Changes (meaning run.home) run.passes (slots_of ss)) (sym kept.left.changed) (changes_tell run.home run.passes (slots_of ss) commands)

-- the input has ended
pub ended_whole : (v : SessionValue) (mid : Ahead) (max_reads : ℕ) (pieces cs read : List (List ℕ)) (text : List ℕ)
    → AreCommands v.passes → HasDone v pieces cs text → IsReadOn max_reads v.ahead mid read → mid.bytes ≡ [] → IsTrue mid.ended
    → HasEnded (record v { ahead = mid }) Whole (pieces ++ read) cs text
ended_whole v mid max_reads pieces cs read text commands done on nothing over =
    let all : (rest : List ℕ) → (IsTrue (ends (pieces ++ read)) → rest ≡ []) → chunks (concat (pieces ++ read) ++ rest) ≡ cs = λ rest last.
    let none : rest ≡ [] = last (subst IsTrue (ended_on v mid max_reads pieces cs read text done on) over) in
    read_on v mid max_reads pieces cs read text done on rest (λ h. none) ∙ ap (λ l. cs ++ chunks (l ++ rest)) nothing ∙ ap (λ l. cs ++ chunks l) none ∙ append-nil cs in
    record {
      outcome = record {
        each = λ rest last.
            record {
              edited = done.statements;
              ends = at_the_end None (subst (λ l. AreStatementsOf v.options.max_depth 1 l done.statements None) (sym (all rest last)) done.kept.read)
                  (told_whole (run_in v) cs done.statements v.progress done.kept);
              none_fails = calm_of v pieces cs text done;
              text_is = done.text_is;
              changed = change_kept (run_in v) cs done.statements v.progress commands done.kept;
            };
      };
      last = record { each = all };
    }

-- the next chunk of every file
next_after : (v : SessionValue) (mid : Ahead) (max_reads n : ℕ) (pieces cs read : List (List ℕ)) (text : List ℕ)
    → HasDone v pieces cs text → IsReadOn max_reads v.ahead mid read → IsNextChunk v.options.max_statement mid n
    → (rest : List ℕ) → (IsTrue (ends (pieces ++ read)) → rest ≡ [])
    → chunks (concat (pieces ++ read) ++ rest) ≡ cs ++ take n mid.bytes ∷ chunks (drop n mid.bytes ++ rest)
next_after v mid max_reads n pieces cs read text done on next rest last =
    let over : IsTrue mid.ended → rest ≡ [] = λ h. last (subst IsTrue (ended_on v mid max_reads pieces cs read text done on) h) in
    chunk_taken cs mid.bytes rest (concat (pieces ++ read) ++ rest) n (read_on v mid max_reads pieces cs read text done on rest over) (next.ends rest over)

comes_next : (v : SessionValue) (mid : Ahead) (max_reads n : ℕ) (pieces cs read : List (List ℕ)) (text : List ℕ)
    → HasDone v pieces cs text → IsReadOn max_reads v.ahead mid read → IsNextChunk v.options.max_statement mid n
    → ComesNext v.options.max_statement (pieces ++ read) cs (take n mid.bytes)
comes_next v mid max_reads n pieces cs read text done on next = record {
  size = subst (λ l. l ≤ v.options.max_statement) (sym (length-take-le n mid.bytes next.within)) next.size;
  after = record { each = λ rest last. (chunks (drop n mid.bytes ++ rest), next_after v mid max_reads n pieces cs read text done on next rest last) };
}

-- a chunk has a fault
pub ended_fault : (v : SessionValue) (mid : Ahead) (fault : SyntaxFault) (max_reads n : ℕ) (pieces cs read : List (List ℕ)) (text : List ℕ)
    → AreCommands v.passes → HasDone v pieces cs text → IsReadOn max_reads v.ahead mid read → IsNextChunk v.options.max_statement mid n
    → IsAnswerOf v.options.max_depth v.progress.line (take n mid.bytes) (Err fault)
    → HasEnded (record v { ahead = mid }) (Syntax fault) (pieces ++ read) cs text
ended_fault v mid fault max_reads n pieces cs read text commands done on next gives = record {
  outcome = record {
    each = λ rest last. record {
      edited = done.statements;
      ends = at_the_end (Some fault)
          (subst (λ l. AreStatementsOf v.options.max_depth 1 l done.statements (Some fault))
          (sym (next_after v mid max_reads n pieces cs read text done on next rest last))
          (give_fault v.options.max_depth v.progress.line cs done.statements (take n mid.bytes) (chunks (drop n mid.bytes ++ rest)) fault done.kept.read done.kept.line gives)) refl;
      none_fails = calm_of v pieces cs text done;
      text_is = done.text_is;
      changed = change_kept (run_in v) cs done.statements v.progress commands done.kept;
    };
  };
  last = (
    take n mid.bytes,
    comes_next v mid max_reads n pieces cs read text done on next,
    subst (λ line. IsAnswerOf v.options.max_depth line (take n mid.bytes) (Err fault)) done.kept.line gives,
  );
}

-- an execution fails on a chunk's statement, and failures end the run
pub ended_failure : (v : SessionValue) (mid : Ahead) (progress : Progress) (message : Option (List ℕ)) (after : List ℕ) (max_reads n : ℕ) (pieces cs read : List (List ℕ)) (text : List ℕ)
    → AreCommands v.passes → HasDone v pieces cs text → IsReadOn max_reads v.ahead mid read → IsNextChunk v.options.max_statement mid n
    → IsFailed (run_in v) (take n mid.bytes) message v.progress progress [] after
    → HasEnded (record v { ahead = mid; progress = progress; failure = message }) FirstFailure (pieces ++ read) cs text
ended_failure v mid progress message after max_reads n pieces cs read text commands done on next failed =
    let none_fails : v.progress.failed ≡ false = done.none_fails failed.ends in
    record {
      outcome = record {
        each = λ rest last.
            let all = next_after v mid max_reads n pieces cs read text done on next rest last in
            record {
              edited = done.statements;
              ends = at_a_failure failed.statement failed.ends
                  (record {
                    front = cs ++ take n mid.bytes ∷ [];
                    after = chunks (drop n mid.bytes ++ rest);
                    chunks_are = all ∙ one_more cs (chunks (drop n mid.bytes ++ rest)) (take n mid.bytes);
                    read = give_statement v.options.max_depth v.progress.line cs done.statements (take n mid.bytes) failed.statement done.kept.read done.kept.line failed.read;
                  })
                  (failed.fails none_fails) (ap (λ l. told_alone l progress.changed FirstFailure) (failed.message_is none_fails));
              none_fails = calm_of v pieces cs text done;
              text_is = done.text_is;
              changed = subst (λ b. (b ≡ true) ↔ Changes (meaning v.home) v.passes (slots_of done.statements)) (sym failed.changed)
                  (change_kept (run_in v) cs done.statements v.progress commands done.kept);
            };
      };
      last = (
        failed.ends,
        take n mid.bytes,
        comes_next v mid max_reads n pieces cs read text done on next,
        failed.statement,
        subst (λ line. IsAnswerOf v.options.max_depth line (take n mid.bytes) (Ok (Some failed.statement))) done.kept.line failed.read,
        failed.fails none_fails,
      );
    }
