use Rattle.std.proofs.Common.{List, ℕ, [], ◌∷◌, ◌++◌, refl, arith}
use Rattle.bz_token.proofs.CutAnswers.{part_no_block}
use Rattle.bz_rule_examples.proofs.tokens.lines_taken.Goals as goal

pub line-requires-2-clause-after : goal.line-requires-2-clause-after
line-requires-2-clause-after c =
    let seen : List ℕ = 35 ∷ 32 ∷ 97 ∷ 10 ∷ [] in
    let more = c.in-More.ensures in (
      seen,
      more.after refl [] c.new-cutter.ensures.after,
      omega arith,
      λ block. absurd (part_no_block seen (more.cut refl [] c.new-cutter.ensures.after) block),
    )

pub line-requires-3-clause-after : goal.line-requires-3-clause-after
line-requires-3-clause-after c =
    let first : List ℕ = 35 ∷ 32 ∷ 97 ∷ 10 ∷ [] in
    let after = c.in-More.ensures.after refl [] c.new-cutter.ensures.after in
    let seen = first ++ (120 ∷ 32 ∷ 61 ∷ 32 ∷ 91 ∷ 10 ∷ []) in
    let more = c.in-More-line.ensures in (
      seen,
      more.after refl first after,
      omega arith,
      λ block. absurd (part_no_block seen (more.cut refl first after) block),
    )
