-- For private clauses: what a chunk is, a logical line at a time.
use Rattle.std.specs.Prelude.{cond, Option, Some, None, ℕ, List, [], ◌∷◌, Bool, true, false}
use Rattle.bz_token.specs.declared.cutter.scan.LineKind.{LineKind}
use Rattle.bz_token.specs.declared.cutter.scan.LineKind.TheVariants.{Blank, CommentLine, Statement}
use Rattle.bz_token.specs.declared.cutter.block.Opener.{Opener}
use Rattle.bz_token.specs.declared.cutter.block.ChunkPhase.{ChunkPhase}
use Rattle.bz_token.specs.declared.cutter.block.ChunkPhase.TheVariants.{Comments, InBlock, Done}
use Rattle.bz_token.specs.LogicalLines.{Line}
use Rattle.bz_token.specs.Blocks.{opener, goes_on}

-- after a line that is no comment: whole, or a block; a line that a string breaks off ends a block
abbrev pub phase_of : Option Opener → Bool → ChunkPhase
phase_of None broken = Done
phase_of (Some word) broken = cond broken Done (InBlock word)

-- after one line more
abbrev pub phase_step : ChunkPhase → LineKind → Option Opener → Bool → ChunkPhase
phase_step Comments Blank word broken = Done
phase_step Comments CommentLine word broken = Comments
phase_step Comments Statement word broken = phase_of word broken
phase_step (InBlock word) kind other broken = cond broken Done (InBlock word)
phase_step Done kind word broken = Done

abbrev pub phase_after : ChunkPhase → Line → ChunkPhase
phase_after phase line = phase_step phase line.kind (opener line.text) line.broken

abbrev pub phase_from : ChunkPhase → List Line → ChunkPhase
phase_from phase [] = phase
phase_from phase (l ∷ ls) = phase_from (phase_after phase l) ls

-- whether the line that follows joins the chunk
abbrev pub takes : ChunkPhase → List ℕ → Bool
takes Comments text = true
takes (InBlock word) text = goes_on word text
takes Done text = false
