use Rattle.std.proofs.Common.{false, ℕ, ◌+◌, map, take, ap, ◌∙◌}
use Rattle.bz_tree.specs.Rows.{part_view}
use Rattle.bz_attribute.specs.private.Parts.{parts_len, plain_len}
use Rattle.bz_attribute.proofs.ListElements.{elements_told}
use Rattle.bz_attribute.proofs.Slices.{front_seen, rest_seen}
use Rattle.bz_attribute.proofs.elements.elements_end.Goals as goal

pub returns-clause-elements : goal.returns-clause-elements
returns-clause-elements c rest after read =
    let ps = map part_view c.args.parts.now in
    let from : ℕ = c.args.from in
    let close : ℕ = c.parts_len-close.result in
    let seen = rest_seen c.args.parts.now from in
    elements_told rest after ps from close _ read (c.parts_len-close.ensures.len ∙ ap (parts_len false 0) seen)
    (ap (λ (n : ℕ). from + n) (c.comments_begin.ensures.begin ∙ ap plain_len (front_seen _ close ∙ ap (take close) seen)))
