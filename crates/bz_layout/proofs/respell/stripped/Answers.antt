use Rattle.std.proofs.Common.{◌++◌, ◌∷◌, [], Option, None, Some, arith}
use Rattle.std.proofs.lemmas.Grind.{common_steps}
use Rattle.std.specs.Prelude.{IfNone}
use Rattle.std.proofs.lemmas.Str.Pattern.{strip_prefix_char}
use Rattle.bz_layout.proofs.respell.stripped.Goals as goal

none_if : {X P : Type 0} (o : Option X) → P → IfNone o P
none_if None h = h
none_if (Some x) h = tt

pub returns-in_err-strip_prefix-clause-none : goal.returns-in_err-strip_prefix-clause-none
returns-in_err-strip_prefix-clause-none c = none_if c.from_residual.result (λ inner e. absurd ((rw c.in_err-strip_prefix.was at (strip_prefix_char 39 c.args.text.now c.strip_prefix.result c.strip_prefix.ensures.cases (omega arith))) (inner ++ 39 ∷ []) e))

pub returns-in_err-inner-clause-none : goal.returns-in_err-inner-clause-none
returns-in_err-inner-clause-none c = grind (arith, common_steps)
