use Rattle.std.proofs.Common.{◌≡◌, ◌++◌, map, length, string_bytes}
use Rattle.bz_tree.specs.Rows.{part_view}
use Rattle.bz_attribute.specs.private.Parts.{token_texts}
use Rattle.bz_attribute.proofs.head.joined_tokens.Given as goal

-- the texts so far and those of the parts that are left
abbrev pub invariant-loop-rest : goal.invariant-loop-rest
invariant-loop-rest l = string_bytes l.kind ++ token_texts (map part_view l.rest) ≡ token_texts (map part_view l.parts)

abbrev pub decreases-loop-rest : goal.decreases-loop-rest
decreases-loop-rest l = length l.rest
