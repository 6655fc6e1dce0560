use Rattle.std.proofs.Common.{sym, ◌∙◌, ap, length, string_bytes}
use Rattle.bz_passes.proofs.Cuts.{length-cut}
use Rattle.bz_passes.proofs.texts.Texts.len.Goals as goal

pub returns : goal.returns
returns c = ap length c.as_slice.ensures.value ∙ sym (length-cut c.self.inside.lens.items (string_bytes c.self.inside.joined)) ∙ ap length c.self.view_is
