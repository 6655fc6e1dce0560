use Rattle.std.proofs.Common.{◌∙◌, sym}
use Rattle.bz_tree.proofs.Rows.FromParts.{last_view}
use Rattle.bz_tree.proofs.row.from_parts.last_beside.Goals as goal

pub returns : goal.returns
returns c = c.beside_text.ensures ∙ sym (last_view c.args.parts.now _ c.in-len1-up.len_at_least)
