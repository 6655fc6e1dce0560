use Rattle.std.proofs.Common.{◌≡◌, ◌<◌, List, ◌||◌, ◌∙◌, ap, length, set, subst, sym}
use Rattle.bz_passes.specs.Exchange.{Kept}
use Rattle.bz_passes.specs.OnePass.{and_at}
use Rattle.bz_passes.specs.declared.entry.Entry.{Entry}
use Rattle.bz_passes.proofs.OnePass.{put_at}
use Rattle.bz_engine.specs.Progress.{Progress}
use Rattle.bz_engine.specs.private.Found.{log_of, one_log_of}
use Rattle.bz_engine.proofs.Runs.{where_done}
use Rattle.bz_engine.proofs.progress.Progress.keep_message.Goals as goal

pub returns : goal.returns
returns c =
    let kept : List (Kept Entry) = c.self.inside.kept.items in
    let more : Kept Entry = one_log_of (log_of c.args.message) in
    let within = subst (λ (p : Progress). c.args.at < length p.kept) (sym c.self.view_is) c.requires.0 in
    where_done c.keep_message.result (λ told.
    let put : set kept c.args.at c.keep_message.new.kept ≡ and_at c.args.at more kept = put_at kept c.args.at c.index_mut.result.now c.keep_message.new.kept more within c.index_mut.ensures.value told in
    ap (λ ks. record { kept = ks; changed = c.self.inside.changed; failed = c.self.inside.failed || c.args.message.fails; last = c.self.inside.last; line = c.self.inside.line }) put
    ∙ ap (λ (p : Progress). record p { kept = and_at c.args.at more p.kept; failed = p.failed || c.args.message.fails }) c.self.view_is) c.keep_message.ensures
