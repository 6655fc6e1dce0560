use Rattle.std.proofs.Common.{refl, subst}
use Rattle.bz_token.specs.Brackets.{is_inside}
use Rattle.bz_token.specs.private.Scans.{opened}
use Rattle.bz_token.specs.private.Steps.{IsGapHere}
use Rattle.bz_token.proofs.lexer.Lexer.pass_white.Goals as goal

pub pass_gap-requires-clause-gap : goal.pass_gap-requires-clause-gap
pass_gap-requires-clause-gap c =
    let inside = is_inside (opened c.args.self.now.brackets) in
    subst (λ xs. IsGapHere inside xs c.blanks.result) c.as_bytes-bytes.ensures.value (c.blanks.ensures inside)

pub returns-in_default-clause-read : goal.returns-in_default-clause-read
returns-in_default-clause-read c first depth bytes given before = (before, refl)

pub returns-in_default-2-clause-read : goal.returns-in_default-2-clause-read
returns-in_default-2-clause-read c first depth bytes given before = (before, refl)

pub returns-in_default-3-clause-read : goal.returns-in_default-3-clause-read
returns-in_default-3-clause-read c first depth bytes given before = (before, refl)
