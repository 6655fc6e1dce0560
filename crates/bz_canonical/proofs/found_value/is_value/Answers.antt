use Rattle.std.proofs.Common.{◌≡◌, false, subst, sym}
use Rattle.bz_canonical.specs.private.Added.{is_value}
use Rattle.bz_canonical.proofs.found_value.is_value.Goals as goal

pub returns-then-literal_apart : goal.returns-then-literal_apart
returns-then-literal_apart c =
    let home = c.args.home.now in
    sym (subst (λ w. is_value home w c.args.token.now ≡ false) c.as_bytes.ensures.value (c.literal_apart.ensures c.if-literal_apart.true home))
