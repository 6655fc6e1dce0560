use Rattle.std.proofs.Common.{[], ◌∷◌, is_ok, subst, sym, arith}
use Rattle.std.proofs.lemmas.Grind.{common_steps}
use Rattle.bz_folder.specs.Files.{SetMode, Rename, HasBytes}
use Rattle.bz_folder.specs.private.Steps.{IsPut}
use Rattle.bz_folder.proofs.Ends.{installs}
use Rattle.bz_folder.proofs.calls.install.Goals as goal

pub returns : goal.returns
returns g c = (
  _,
  g.met.D.Folder.did_more _ _ _ _ _ c.set_mode.ensures c.rename.ensures,
  subst (λ t. IsPut (HasBytes t) ⊥ c.args.file.now c.args.mode c.rename.result ((SetMode t c.args.mode, is_ok c.set_mode.result) ∷ (Rename t c.args.file.now, is_ok c.rename.result) ∷ [])) (sym c.requires)
      (rw c.in_ok-set_mode.was (installs c.args.file.now c.args.mode c.rename.result)),
)

pub returns-in_err-set_mode : goal.returns-in_err-set_mode
returns-in_err-set_mode g c = grind (arith, common_steps)
