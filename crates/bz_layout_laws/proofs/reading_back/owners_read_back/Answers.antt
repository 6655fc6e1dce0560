use Rattle.std.proofs.Common.{◌∙◌}
use Rattle.bz_tree.proofs.Trees.SameOwners.{inside_is, no_empty_is}
use Rattle.bz_layout_laws.proofs.ReadBack.{read_back, lines_back}
use Rattle.bz_layout_laws.proofs.reading_back.owners_read_back.Goals as goal

pub returns-clause-entries : goal.returns-clause-entries
returns-clause-entries c = read_back

pub returns-clause-lines : goal.returns-clause-lines
returns-clause-lines c = λ owns trailing segs end have are.
    let r = lines_back owns trailing segs end have are in
    (inside_is owns ∙ r.0, no_empty_is owns ∙ r.1)
