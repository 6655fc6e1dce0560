use Rattle.std.proofs.Common.{ℕ, ◌+◌, map, ap, ◌∙◌}
use Rattle.bz_tree.specs.Rows.{part_view}
use Rattle.bz_attribute.specs.private.Parts.{flat_name, segment_len}
use Rattle.bz_attribute.proofs.FirstArguments.{is_first}
use Rattle.bz_attribute.proofs.Slices.{rest_seen}
use Rattle.bz_attribute.proofs.finder.first_argument.Goals as goal

pub returns-clause-argument : goal.returns-clause-argument
returns-clause-argument c a others are =
    let n : ℕ = c.comments_len-nodes.result in
    is_first a others (map part_view c.args.parts.now) n _ _ are c.comments_len-nodes.ensures.len
    (ap (λ (k : ℕ). n + k) (c.segment_len.ensures.len ∙ ap segment_len (rest_seen c.args.parts.now n)))
    (c.name_in.ensures ∙ ap flat_name (rest_seen c.args.parts.now n))
