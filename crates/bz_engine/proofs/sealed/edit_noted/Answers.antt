use Rattle.std.proofs.Common.{◌≡◌, ◌∙◌, ap, subst, sym}
use Rattle.bz_engine.specs.Progress.{Progress}
use Rattle.bz_engine.specs.private.Edits.{run_of}
use Rattle.bz_engine.specs.private.NextChunks.{ScriptsFound}
use Rattle.bz_engine.proofs.SealedEdits.{made_written, sealed_done}
use Rattle.bz_engine.proofs.sealed.edit_noted.Goals as goal

pub edit_if_made-requires-clause-written : goal.edit_if_made-requires-clause-written
edit_if_made-requires-clause-written c =
    made_written (run_of c.args.script) c.args.found.now c.args.noted c.args.progress.now.line c.in_ok-made.made c.requires.names c.requires.spans c.requires.rule c.in_ok-made.ensures

pub returns : goal.returns
returns c =
    let run = run_of c.args.script in
    let found = c.args.found.now in
    let old = c.args.progress.now in
    let start = c.take_spare-spare.new.self in
    let end = c.edit_if_made.new.progress in
    let before = c.args.text.now.items in
    let after = c.edit_if_made.new.text.items in
    let answer = c.in_ok-scripted.scripted in
    let told = c.in_ok-scripted.ensures in
    let is : start ≡ old = c.take_spare-spare.ensures ∙ c.begin_lists.ensures in
    let done = sealed_done run found c.args.noted start end before after old.line c.in_ok-made.made answer
    c.requires.names (sym (ap (λ (p : Progress). p.line) is)) told.fits c.requires.rule c.in_ok-made.ensures told.none told.some in
    subst (λ (p : Progress). ScriptsFound run found old p before after answer) (sym c.give_back.ensures)
    (subst (λ (p : Progress). ScriptsFound run found p end before after answer) is done)
