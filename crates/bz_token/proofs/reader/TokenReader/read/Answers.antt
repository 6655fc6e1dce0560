use Rattle.bz_memory.specs.NoMemory.{no_memory}
use Rattle.std.proofs.Common.{rules, tests, ◌≢◌, append-nil}
use Rattle.std.proofs.lemmas.Bool.{false≢true}
use Rattle.bz_token.specs.declared.fault.LexFault.TheVariants.{OutOfMemory}
use Rattle.bz_token.proofs.BadPlaces.{first_of_text}
use Rattle.bz_token.proofs.reader.TokenReader.read.Goals as goal

pub returns-in-Err : goal.returns-in-Err
returns-in-Err c =
    let lexical : c.in-Err.field-0 ≢ OutOfMemory no_memory = search (rules, tests) in
    record {
      given = λ first depth text given has told. absurd (false≢true told);
      shorter = λ told. absurd (false≢true told);
      few = λ told. absurd (false≢true told);
      fault = λ first depth text given has told. (c.in-Err.field-0, first_of_text first depth text c.in-Err.field-0 lexical (rw (← has.depth_is) (c.in-Err.ensures.fault first text given (rw (c.clear.ensures.items, append-nil given, has.depth_is) has.read))));
    }

pub returns-in-Ok-clause-given : goal.returns-in-Ok-clause-given
returns-in-Ok-clause-given c = λ first depth text given has told. record {
  read = rw (← has.depth_is) (c.in-Ok.ensures.read first text given (rw (c.clear.ensures.items, append-nil given, has.depth_is) has.read));
  depth_is = has.depth_is;
  fit = has.fit;
}
