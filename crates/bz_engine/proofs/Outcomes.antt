-- An outcome is that of a whole run, or of one that a failure ends.
use Rattle.std.proofs.Common.{ℕ, List, inl, inr}
use Rattle.bz_engine.specs.Outcome.{IsOutcome, Run, RunEnds, Told, at_a_failure, at_the_end}
use Rattle.bz_engine.specs.private.Outcomes.{EitherEnd}

pub either_end : (run : Run) (file text : List ℕ) (told : Told) → IsOutcome run file text told → EitherEnd run file text told
either_end run file text told outcome = by outcome.ends
  where
    by : RunEnds run file outcome.edited told → EitherEnd run file text told
    by (at_the_end fault read told_is) = inl (record {
      statements = outcome.edited;
      fault = fault;
      read = read;
      none_fails = outcome.none_fails;
      text_is = outcome.text_is;
      changed = outcome.changed;
      told_is = told_is;
    })
    by (at_a_failure s ends read fails told_is) = inr (record {
      ends = ends;
      before = outcome.edited;
      statement = s;
      read = read;
      none_fails = outcome.none_fails ends;
      fails = fails;
      text_is = outcome.text_is;
      changed = outcome.changed;
      told_is = told_is;
    })
