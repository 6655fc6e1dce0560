use Rattle.std.proofs.Common.{rules, ◌≡◌, ◌∙◌, sym, arith, None, Some}
use Rattle.bz_label.specs.private.ByteSteps.{taken_of}
use Rattle.bz_label.proofs.Literals.{shut, faulty, past}
use Rattle.bz_label.proofs.literal.next_in.Goals as goal

pub returns-then-starts_with-clause-next : goal.returns-then-starts_with-clause-next
returns-then-starts_with-clause-next c = shut c.args.literal.raw c.args.literal.quotes.now c.args.literal.rest.now (sym c.starts_with.ensures.value ∙ c.if-starts_with.true)

pub returns-in_err-byte-clause-next : goal.returns-in_err-byte-clause-next
returns-in_err-byte-clause-next c =
    let none : taken_of c.args.literal ≡ None = search rules in
    let gone : c.from_residual.result ≡ None = search rules in
    rw gone (faulty c.args.literal.raw c.args.literal.quotes.now c.args.literal.rest.now (sym c.starts_with.ensures.value ∙ c.if-starts_with.false) none)

pub returns-clause-next : goal.returns-clause-next
returns-clause-next c =
    let some : taken_of c.args.literal ≡ Some (c.in_ok-byte.byte, c.in_ok-byte.rest.now) = search rules in
    past c.args.literal.raw c.args.literal.quotes.now c.args.literal.rest.now c.in_ok-byte.rest.now c.in_ok-byte.byte (sym c.starts_with.ensures.value ∙ c.if-starts_with.false) (omega (arith, c.in_ok-byte.ensures.shorter)) some
