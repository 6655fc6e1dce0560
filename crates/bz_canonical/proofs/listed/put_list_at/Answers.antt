use Rattle.std.proofs.Common.{subst, sym}
use Rattle.std.proofs.lemmas.Result.{IfOk-weaker}
use Rattle.bz_canonical.specs.Canonical.{AreReadAlone}
use Rattle.bz_canonical.proofs.listed.put_list_at.Goals as goal

pub returns : goal.returns
returns c = IfOk-weaker c.put_list_argument.result _ _ (λ put told done args reads. told done args (subst (λ t. AreReadAlone c.args.max_depth t args) (sym c.in-Some.ensures) reads)) c.put_list_argument.ensures
