-- A chunk goes on with a line exactly where the phase of its lines takes it.
use Rattle.std.proofs.Common.{◌≡◌, ℕ, List, [], ◌∷◌, false, not, ◌&&◌, refl, inl, inr}
use Rattle.std.specs.Prelude.{Option, Some, None}
use Rattle.std.specs.List.{list_any}
use Rattle.std.proofs.lemmas.Bool.{cases_Bool}
use Rattle.bz_token.specs.declared.cutter.scan.LineKind.{LineKind}
use Rattle.bz_token.specs.declared.cutter.scan.LineKind.TheVariants.{Blank, CommentLine, Statement}
use Rattle.bz_token.specs.declared.cutter.block.Opener.{Opener}
use Rattle.bz_token.specs.declared.cutter.block.ChunkPhase.TheVariants.{Comments, InBlock, Done}
use Rattle.bz_token.specs.LogicalLines.{Line}
use Rattle.bz_token.specs.Blocks.{opener, goes_on}
use Rattle.bz_token.specs.Chunks.{takes_on, is_followed, after_comments}
use Rattle.bz_token.specs.private.Phases.{phase_step, phase_after, phase_from, takes}

done_takes : (ls : List Line) (text : List ℕ) → takes (phase_from Done ls) text ≡ false
done_takes [] text = refl
done_takes (l ∷ ls) text = done_takes ls text

in_block : (word : Opener) (ls : List Line) (text : List ℕ) → takes (phase_from (InBlock word) ls) text ≡ (not (list_any (λ l. l.broken) ls) && goes_on word text)
in_block word [] text = refl
in_block word (l ∷ ls) text = elim (cases_Bool l.broken) [
  | inl broken ↦ rw (broken, list_any) (done_takes ls text)
  | inr whole ↦ rw (whole, list_any) (in_block word ls text)
]

head_takes : (found : Option Opener) (l : Line) (ls : List Line) (text : List ℕ) → opener l.text ≡ found → takes (phase_from (phase_step Comments Statement found l.broken) ls) text ≡ takes_on found (l ∷ ls) text
head_takes None l ls text is = done_takes ls text
head_takes (Some word) l ls text is = elim (cases_Bool l.broken) [
  | inl broken ↦ rw (broken, list_any) (done_takes ls text)
  | inr whole ↦ rw (whole, list_any) (in_block word ls text)
]

kind_takes : (kind : LineKind) (l : Line) (ls : List Line) (text : List ℕ) → l.kind ≡ kind → takes (phase_from Comments ls) text ≡ is_followed (after_comments ls) text → takes (phase_from (phase_after Comments l) ls) text ≡ is_followed (after_comments (l ∷ ls)) text
kind_takes Blank l ls text is more = rw is (done_takes ls text)
kind_takes CommentLine l ls text is more = rw is more
kind_takes Statement l ls text is more = rw is (head_takes (opener l.text) (record { text = l.text; kind = Statement; broken = l.broken }) ls text refl)

pub phase_takes : (chunk : List Line) (text : List ℕ) → takes (phase_from Comments chunk) text ≡ is_followed (after_comments chunk) text
phase_takes [] text = refl
phase_takes (l ∷ ls) text = kind_takes l.kind l ls text refl (phase_takes ls text)
