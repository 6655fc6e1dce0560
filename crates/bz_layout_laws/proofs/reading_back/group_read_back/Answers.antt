use Rattle.std.proofs.Common.{◌∙◌}
use Rattle.bz_tree.specs.Kinds.{is_one}
use Rattle.bz_tree.specs.Brackets.{with_comma_nodes}
use Rattle.bz_tree.proofs.Trees.SameOwners.{no_empty_is}
use Rattle.bz_tree.proofs.Trees.Nested.{group_same}
use Rattle.bz_layout_laws.proofs.WrittenBack.{group_back}
use Rattle.bz_layout_laws.proofs.reading_back.group_read_back.Goals as goal

pub returns : goal.returns
returns c = λ kind owns trailing segs end have are.
    let r = group_back kind owns trailing segs end have are in
    (group_same kind owns ∙ r.0, no_empty_is (with_comma_nodes (is_one kind) owns) ∙ r.1)
