-- What a run keeps of the chunks that are done.
use Rattle.std.specs.Prelude.{◌≡◌, ℕ, Bool, if◌then◌else◌, List, [], ◌∷◌, ◌++◌, Option, None, Some}
use Rattle.std.specs.List.{concat}
use Rattle.bz_token.specs.Places.{line_at}
use Rattle.bz_tree.specs.Tree.{Statement}
use Rattle.bz_tree.specs.declared.tree.Class.{Class}
use Rattle.bz_layout.specs.Gaps.{lines_before, gap_text}
use Rattle.bz_layout.specs.Layout.{layout_text}
use Rattle.bz_label.specs.Labels.{Package}
use Rattle.bz_passes.specs.declared.entry.Entry.{Entry}
use Rattle.bz_passes.specs.Passes.{Slot, slots_after}
use Rattle.bz_passes.specs.Exchange.{Kept, IsLeftBy, slot_after}
use Rattle.bz_engine.specs.Language.{meaning}
use Rattle.bz_engine.specs.Failing.{changes, fails_on}
use Rattle.bz_engine.specs.File.{AreStatementsOf}
use Rattle.bz_engine.specs.Outcome.{Script, Run, slots_of, is_query}

-- For each pass and command what was told, whether something changed and failed, the class of the last statement that is left, and the
-- line on which the next chunk begins.
pub record Progress : Type 0 where
  pub kept : List (Kept Entry)
  pub changed : Bool
  pub failed : Bool
  pub last : Option Class
  pub line : ℕ

-- the class of the last statement in these slots
abbrev pub last_class : Option Class → List (Slot Statement) → Option Class
last_class last [] = last
last_class last (None ∷ slots) = last_class last slots
last_class last (Some s ∷ slots) = last_class (Some s.class) slots

-- This is kept of these chunks, whose statements these are.
pub record IsKeptOf (run : Run) (cs : List (List ℕ)) (statements : List Statement) (p : Progress) : Type 0 where
  pub read : AreStatementsOf run.max_depth 1 cs statements None
  pub line : p.line ≡ line_at 1 (concat cs)
  pub left : IsLeftBy (meaning run.home) (changes run.home) (fails_on run.home) run.passes (slots_of statements) p.kept p.changed p.failed
  pub last : p.last ≡ last_class None (slots_after (meaning run.home) run.passes (slots_of statements))

-- the text of slots after a statement of this class, or at the start
abbrev pub text_following : Option Class → List (Slot Statement) → List ℕ
text_following last [] = []
text_following last (None ∷ slots) = text_following last slots
text_following last (Some s ∷ slots) =
    gap_text (lines_before last s.class) ++ (layout_text s ++ text_following (Some s.class) slots)

-- what one statement more, as the script leaves it, adds to the text
abbrev pub added : Package → Script → Option Class → List Statement → List ℕ
added home passes last [] = []
added home passes last (s ∷ ss) = if is_query passes then [] else text_following last (slot_after (meaning home) passes (Some s) ∷ [])
