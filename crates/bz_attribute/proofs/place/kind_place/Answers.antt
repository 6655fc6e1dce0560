use Rattle.std.proofs.Common.{◌+◌, ℕ, ap, ◌∙◌, map}
use Rattle.bz_tree.specs.Rows.{part_view}
use Rattle.bz_attribute.specs.private.Parts.{tokens_len}
use Rattle.bz_attribute.proofs.KindPlaced.{kind_at}
use Rattle.bz_attribute.proofs.Slices.{rest_seen}
use Rattle.bz_attribute.proofs.place.kind_place.Goals as goal

pub returns-clause-place : goal.returns-clause-place
returns-clause-place c s r h =
    let from : ℕ = c.comments_len-from.result in
    kind_at s r (map part_view c.args.parts.now) from (from + c.tokens_len.result) h c.comments_len-from.ensures.len
    (ap (λ (n : ℕ). from + n) (c.tokens_len.ensures.len ∙ ap tokens_len (rest_seen c.args.parts.now from)))
