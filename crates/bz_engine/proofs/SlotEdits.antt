-- What the script did to the statement in a slot.
use Rattle.std.proofs.Common.{◌≡◌, ℕ, Bool, true, false, ◌||◌, List, [], ◌∷◌, ◌++◌, sym, ◌∙◌, ap, subst}
use Rattle.std.specs.Prelude.{Option, None, Some, IfSome, if◌then◌else◌}
use Rattle.bz_tree.specs.Tree.{Statement}
use Rattle.bz_tree.specs.declared.tree.Class.{Class}
use Rattle.bz_layout.specs.Layout.{layout_text}
use Rattle.bz_label.specs.Labels.{Package}
use Rattle.bz_passes.specs.Passes.{Slot}
use Rattle.bz_passes.specs.Exchange.{Kept, IsLeftBy, kept_and, kept_alone, slot_after, some_alone}
use Rattle.bz_passes.proofs.ExchangeLaw.{left_more}
use Rattle.bz_passes.proofs.Unchanged.{same_after}
use Rattle.bz_rule.proofs.Lawfulness.{lawful}
use Rattle.bz_passes.specs.declared.entry.Entry.{Entry}
use Rattle.bz_engine.specs.Language.{meaning}
use Rattle.bz_engine.specs.Failing.{changes, fails_on}
use Rattle.bz_engine.specs.Outcome.{Script, Run, is_query}
use Rattle.bz_engine.specs.Progress.{Progress, last_class, text_following}
use Rattle.bz_engine.specs.private.Edits.{IsLaidOut}

-- the script ran on what is in the slot, and this is kept and known then
pub record HasRun (home : Package) (passes : Script) (slot : Slot Statement) (old : Progress) (kept : List (Kept Entry)) (changed failed : Bool) : Type 0 where
  pub fails : failed ≡ (old.failed || some_alone (meaning home) (fails_on home) passes slot)
  pub left : (slots : List (Slot Statement)) → IsLeftBy (meaning home) (changes home) (fails_on home) passes slots old.kept old.changed old.failed
      → IsLeftBy (meaning home) (changes home) (fails_on home) passes (slots ++ slot ∷ []) kept changed failed

pub has_run : (home : Package) (passes read : Script) (slot : Slot Statement) (s : Statement) (old mid : Progress) (from kept : List (Kept Entry)) (changed failed : Bool)
    → read ≡ passes → slot ≡ Some s → mid ≡ old → from ≡ mid.kept
    → kept ≡ kept_and from (kept_alone (meaning home) read slot)
    → changed ≡ (mid.changed || some_alone (meaning home) (changes home) read slot)
    → failed ≡ (mid.failed || some_alone (meaning home) (fails_on home) read slot)
    → HasRun home passes (Some s) old kept changed failed
has_run home passes read slot s old mid from kept changed failed same is at begins keeps tells fails =
    subst (λ p. HasRun home passes (Some s) p kept changed failed) at
    (subst (λ x. HasRun home passes x mid kept changed failed) is
    (subst (λ r. HasRun home r slot mid kept changed failed) same (record {
      fails = fails;
      left = λ slots. left_more (meaning home) (changes home) (fails_on home) read slots slot mid.kept kept mid.changed changed mid.failed failed
          (keeps ∙ ap (λ k. kept_and k (kept_alone (meaning home) read slot)) begins) tells fails;
    })))

-- What was written of what is in the slot is written still, if no execution changed that.
pub known_still : {A : Type 0} (now : A → List ℕ) (home : Package) (passes : Script) (old new : Slot Statement) (written : Option A) (changed : Bool)
    → changed ≡ some_alone (meaning home) (changes home) passes old → new ≡ slot_after (meaning home) passes old
    → IfSome written (λ known. (s : Statement) → old ≡ Some s → layout_text s ≡ now known)
    → IfSome (if changed then None else written) (λ known. (s : Statement) → new ≡ Some s → layout_text s ≡ now known)
known_still now home passes old new written true tells left known = tt
known_still now home passes old new None false tells left known = tt
known_still now home passes old new (Some w) false tells left known =
    let same : new ≡ old = left ∙ same_after (meaning home) (changes home) (λ c slot none. (lawful c home).stays slot none) passes old (sym tells) in
    λ s is. known s (sym same ∙ is)

-- and what it left was laid out
pub laid_out : (run : Run) (s : Statement) (old new : Progress) (kept : List (Kept Entry))
    (slot : Slot Statement) (last : Option Class) (before after : List ℕ)
    → HasRun run.home run.passes (Some s) old kept new.changed new.failed → new.kept ≡ kept
    → slot ≡ slot_after (meaning run.home) run.passes (Some s) → last ≡ old.last
    → new.last ≡ last_class last (slot ∷ []) → new.line ≡ old.line
    → after ≡ before ++ (if is_query run.passes then [] else text_following last (slot ∷ []))
    → (run.keep_going ≡ false → new.failed ≡ false)
    → IsLaidOut run s old new before after
laid_out run s old new kept slot last before after ran kept_is slot_is from last_is line_is text_is none_fails = record {
  left = λ slots left. subst (λ k. IsLeftBy (meaning run.home) (changes run.home) (fails_on run.home) run.passes (slots ++ Some s ∷ []) k new.changed new.failed) (sym kept_is) (ran.left slots left);
  last = last_is ∙ ap (λ l. last_class l (slot ∷ [])) from ∙ ap (λ x. last_class old.last (x ∷ [])) slot_is;
  line = line_is;
  text = text_is ∙ ap (λ l. before ++ (if is_query run.passes then [] else text_following l (slot ∷ []))) from
      ∙ ap (λ x. before ++ (if is_query run.passes then [] else text_following old.last (x ∷ []))) slot_is;
  none_fails = λ ends was. none_fails ends;
}
