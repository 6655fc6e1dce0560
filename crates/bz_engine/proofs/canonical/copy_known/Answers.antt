use Rattle.std.proofs.Common.{◌==◌, ◌∙◌, ℕ, List, ap, arith}
use Rattle.std.proofs.lemmas.List.Sums.{count_by-le-length}
use Rattle.std.specs.Prelude.{count_by}
use Rattle.bz_engine.specs.Progress.{Progress}
use Rattle.bz_engine.proofs.canonical.copy_known.Goals as goal

pub script_known-requires-clause-lines : goal.script_known-requires-clause-lines
script_known-requires-clause-lines c = c.newlines-lines.ensures ∙ ap (λ (bytes : List ℕ). count_by (λ b. b == 10) bytes) c.as_bytes.ensures.value

pub pass-requires : goal.pass-requires
pass-requires c =
    let lines = c.newlines-lines.ensures ∙ ap (λ (bytes : List ℕ). count_by (λ b. b == 10) bytes) c.as_bytes.ensures.value in
    omega (arith, ap (λ (p : Progress). p.line) c.succeed_look.ensures, c.in_ok-scripted.ensures.line, lines, count_by-le-length (λ (b : ℕ). b == 10) c.args.found.chunk.chunk.now, c.requires.lines)
