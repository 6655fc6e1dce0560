use Rattle.std.proofs.Common.{ℕ, List, false}
use Rattle.bz_canonical.proofs.OtherwiseValues.{number_written, term_written}
use Rattle.bz_canonical.proofs.otherwise.put_number.Goals as goal

pub returns : goal.returns
returns c =
    let text : List ℕ = c.args.text.now in
    let rest = c.in-Some.rest.now in
    let f = c.in-Some.ensures in (
      f.token,
      c.in_ok-put_to.ensures f.token f.front,
      λ stands out depth. term_written stands out depth text rest f.token false (number_written text rest f stands out depth),
    )
