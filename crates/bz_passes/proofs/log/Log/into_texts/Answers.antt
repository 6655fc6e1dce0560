use Rattle.std.proofs.Common.{sym, ◌∙◌, ap}
use Rattle.std.specs.List.{flat_map}
use Rattle.bz_passes.specs.Entries.{line_text, message_text}
use Rattle.bz_passes.proofs.Woven.{woven_is}
use Rattle.bz_passes.proofs.log.Log.into_texts.Goals as goal

pub returns-clause-lines : goal.returns-clause-lines
returns-clause-lines c = c.self.invariant.lines ∙ ap (flat_map line_text) (sym (woven_is _ _ _ c.self.invariant) ∙ c.self.view_is)

pub returns-clause-messages : goal.returns-clause-messages
returns-clause-messages c = c.self.invariant.messages ∙ ap (flat_map message_text) (sym (woven_is _ _ _ c.self.invariant) ∙ c.self.view_is)
