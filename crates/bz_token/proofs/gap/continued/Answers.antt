use Rattle.std.proofs.Common.{rules, ◌≡◌, ◌∙◌, ◌||◌, Bool, false}
use Rattle.bz_token.specs.Common.{begins}
use Rattle.bz_token.specs.Pieces.{is_white}
use Rattle.bz_token.specs.private.Gaps.{continues}
use Rattle.bz_token.proofs.Units.{begins_is}
use Rattle.bz_token.proofs.gap.continued.Goals as goal

pub returns-in_default-4-clause-none : goal.returns-in_default-4-clause-none
returns-in_default-4-clause-none c =
    let none : (inside : Bool) → (begins (is_white inside) c.args.bytes.now || continues c.args.bytes.now) ≡ false = search rules in
    λ inside. begins_is inside c.args.bytes.now ∙ none inside
