use Rattle.std.proofs.Common.{subst}
use Rattle.bz_token.specs.private.Scans.{opened}
use Rattle.bz_token.specs.private.Steps.{IsTakenAs}
use Rattle.bz_token.proofs.lexer.Lexer.add_comma.Goals as goal

pub add_token-requires : goal.add_token-requires
add_token-requires c =
    let r = c.requires.read in
    let inside = opened c.args.self.now.brackets in
    let taken = subst (λ xs. IsTakenAs c.scan_comma-scanned.result r.1 inside inside xs) c.as_bytes.ensures.value (c.scan_comma-scanned.ensures.taken r.1 inside) in
    (inside, (r.0, r.1, r.2, r.3, r.4, r.5, taken))

pub returns-clause-read : goal.returns-clause-read
returns-clause-read c first depth bytes given before =
    let inside = opened c.args.self.now.brackets in
    let taken = subst (λ xs. IsTakenAs c.scan_comma-scanned.result depth inside inside xs) c.as_bytes.ensures.value (c.scan_comma-scanned.ensures.taken depth inside) in
    let read = c.add_token.ensures.read first depth bytes given inside before taken in
    rw c.scan_comma-scanned.ensures.kind at read
