use Rattle.std.specs.Prelude.{Some}
use Rattle.bz_engine.proofs.Unmarked.{none_passed}
use Rattle.bz_engine.proofs.row.is_passed_by.Goals as goal

pub returns-then-not-ask_for_names : goal.returns-then-not-ask_for_names
returns-then-not-ask_for_names c passed s has = none_passed c.args.script.home.now c.args.script.passes.now s (rw c.as_slice.ensures at (c.none_marks.ensures passed s has))

pub returns : goal.returns
returns c passed s has = rw c.indexed.ensures at (c.passes_by.ensures.law passed (Some s) (c.head_key.ensures s has))
