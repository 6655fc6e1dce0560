use Rattle.std.proofs.Common.{rules}
use Rattle.bz_token.specs.private.Scans.{opened}
use Rattle.bz_token.proofs.Steps.{gap_of_step, token_of_step}
use Rattle.bz_token.proofs.Progress.{refused_at}
use Rattle.bz_token.proofs.lexer.Lexer.step.Goals as goal

pub returns-in-Err-clause-fault : goal.returns-in-Err-clause-fault
returns-in-Err-clause-fault c first bytes given before =
    refused_at _ _ _ _ _ _ _ _ _ _ c.in-Err.fault before c.as_bytes-bytes.ensures.value (search rules) c.in-Err.ensures.fault

pub pass_gap-requires-clause-gap : goal.pass_gap-requires-clause-gap
pass_gap-requires-clause-gap c =
    let taken = gap_of_step _ _ _ _ _ _ c.in-Ok-Gap.gap c.as_bytes-bytes.ensures.value c.in-Ok-Gap.field-0-is c.in-Ok-Gap.ensures.step in
    rw taken.1 taken.0

pub pass_gap-requires-clause-read : goal.pass_gap-requires-clause-read
pass_gap-requires-clause-read c =
    let taken = gap_of_step _ _ _ _ _ _ c.in-Ok-Gap.gap c.as_bytes-bytes.ensures.value c.in-Ok-Gap.field-0-is c.in-Ok-Gap.ensures.step in
    let p = c.requires.places in
    (p.0, c.args.max_depth, p.1, p.2, rw taken.1 p.3, p.4)

pub returns-in-Ok-Gap-clause-read : goal.returns-in-Ok-Gap-clause-read
returns-in-Ok-Gap-clause-read c first bytes given before =
    let taken = gap_of_step _ _ _ _ _ _ c.in-Ok-Gap.gap c.as_bytes-bytes.ensures.value c.in-Ok-Gap.field-0-is c.in-Ok-Gap.ensures.step in
    rw taken.1 ((rw taken.1 at c.pass_gap.ensures.read first c.args.max_depth bytes given) before)

pub returns-in-Ok-Gap-clause-shorter : goal.returns-in-Ok-Gap-clause-shorter
returns-in-Ok-Gap-clause-shorter c = c.pass_gap.ensures.shorter

pub returns-in_ok-next-in-Ok-Token-clause-read : goal.returns-in_ok-next-in-Ok-Token-clause-read
returns-in_ok-next-in-Ok-Token-clause-read c first bytes given before =
    let found = token_of_step _ _ _ _ _ _ c.in-Ok-Token.scanned c.as_bytes-bytes.ensures.value c.in-Ok-Token.field-0-is c.in-Ok-Token.ensures.step in
    c.in_ok-next-in-Ok-Token.ensures.read first c.args.max_depth bytes given (opened c.args.self.now.brackets) before found
