use Rattle.std.proofs.Common.{◌∙◌, ap}
use Rattle.bz_canonical.specs.private.Added.{is_word}
use Rattle.bz_canonical.proofs.NewValues.{missing_is}
use Rattle.bz_canonical.proofs.added.NewValues.is_missing.Goals as goal

pub returns : goal.returns
returns c = λ quoted_is lists searched.
    let home = c.args.self.env.home.now in
    missing_is home lists c.args.earlier.now c.args.value.now c.args.literal.now c.in_ok-same.same c.in_ok-there.there c.either.result quoted_is
    (c.in_ok-same.ensures ∙ ap (is_word home c.args.earlier.now) c.as_bytes.ensures.value) (c.in_ok-there.ensures lists searched) c.either.ensures
