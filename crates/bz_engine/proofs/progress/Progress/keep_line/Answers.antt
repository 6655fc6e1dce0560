use Rattle.std.proofs.Common.{◌≡◌, ◌<◌, List, ◌∙◌, option_map, ap, length, set, subst, sym}
use Rattle.bz_passes.specs.Exchange.{Kept}
use Rattle.bz_passes.specs.OnePass.{and_at}
use Rattle.bz_passes.specs.declared.entry.Entry.{Entry}
use Rattle.bz_passes.proofs.OnePass.{put_at}
use Rattle.bz_engine.specs.Progress.{Progress}
use Rattle.bz_engine.specs.private.Found.{one_told}
use Rattle.bz_engine.proofs.Runs.{where_done}
use Rattle.bz_engine.proofs.progress.Progress.keep_line.Goals as goal

pub returns : goal.returns
returns c =
    let kept : List (Kept Entry) = c.self.inside.kept.items in
    let within = subst (λ (p : Progress). c.args.at < length p.kept) (sym c.self.view_is) c.requires.0 in
    where_done c.keep_line.result (λ told.
    let put : set kept c.args.at c.keep_line.new.kept ≡ and_at c.args.at (one_told (option_map (λ text. text.now) c.args.line)) kept = put_at kept c.args.at c.index_mut.result.now c.keep_line.new.kept (one_told (option_map (λ text. text.now) c.args.line)) within c.index_mut.ensures.value told in
    ap (λ ks. record { kept = ks; changed = c.self.inside.changed; failed = c.self.inside.failed; last = c.self.inside.last; line = c.self.inside.line }) put
    ∙ ap (λ (p : Progress). record p { kept = and_at c.args.at (one_told (option_map (λ text. text.now) c.args.line)) p.kept }) c.self.view_is) c.keep_line.ensures
