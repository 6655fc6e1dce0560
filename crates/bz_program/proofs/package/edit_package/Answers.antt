use Rattle.std.proofs.Common.{◌≡◌, ◌⊎◌, ℕ, Bool, true, false, ◌||◌, if◌then◌else◌, inl, inr, refl, sym, ◌∙◌, ap}
use Rattle.bz_program.proofs.Shown.{shows_all}
use Rattle.bz_program.proofs.package.edit_package.Goals as goal

none_failed : (out err : Bool) (own : ℕ) → out ≡ false → err ≡ false → own ≡ (if out || err then 2 else own)
none_failed out err own o e = sym (ap (λ b. if b || err then 2 else own) o ∙ ap (λ b. if b then 2 else own) e)

one_failed : (out err : Bool) (own : ℕ) → (out ≡ true) ⊎ (err ≡ true) → 2 ≡ (if out || err then 2 else own)
one_failed true err own h = refl
one_failed false true own h = refl
one_failed false false own (inl h) = absurd cc
one_failed false false own (inr h) = absurd cc

pub returns-in-Ok-clause-handled : goal.returns-in-Ok-clause-handled
returns-in-Ok-clause-handled g c =
    let here = c.edit_home-status.ensures.account in (
      here.account,
      record {
        is_its = here.is_its;
        left = here.left;
        shows = shows_all g.O.Sink.took g.E.Sink.took g.met.O.Sink.took_more g.met.E.Sink.took_more c.args.devices.now.console c.edit_home-status.new.devices.console c.flush.new.self here.account.shown here.account.told
            here.shows c.flush.ensures.shows;
        status_is = here.status_is ∙ none_failed c.flush.new.self.out.failed c.flush.new.self.err.failed here.account.status c.in-Ok.ensures.out.1 c.in-Ok.ensures.err.1;
      },
    )

pub returns-in-Err-clause-handled : goal.returns-in-Err-clause-handled
returns-in-Err-clause-handled g c =
    let here = c.edit_home-status.ensures.account in (
      here.account,
      record {
        is_its = here.is_its;
        left = here.left;
        shows = shows_all g.O.Sink.took g.E.Sink.took g.met.O.Sink.took_more g.met.E.Sink.took_more c.args.devices.now.console c.edit_home-status.new.devices.console c.flush.new.self here.account.shown here.account.told
            here.shows c.flush.ensures.shows;
        status_is = one_failed c.flush.new.self.out.failed c.flush.new.self.err.failed here.account.status c.in-Err.ensures.failed;
      },
    )

pub returns-in-Err-clause-files : goal.returns-in-Err-clause-files
returns-in-Err-clause-files g c = record { safe = c.edit_home-status.ensures.files.safe; idle = λ three. absurd cc; shown = c.edit_home-status.ensures.files.shown }
