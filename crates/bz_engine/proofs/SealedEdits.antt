-- What the script made of a chunk that was found, where some arguments of its rule may be sealed.
use Rattle.std.proofs.Common.{◌≡◌, ℕ, true, List, ap, sym, subst, ◌∙◌, inl}
use Rattle.std.specs.Prelude.{Option, None, Some, IfNone, IfSome}
use Rattle.bz_token.specs.Common.{is_filled}
use Rattle.bz_tree.specs.Tree.{Statement}
use Rattle.bz_layout.specs.Layout.{layout_text}
use Rattle.bz_passes.specs.Exchange.{Fits}
use Rattle.bz_engine.specs.Outcome.{Run}
use Rattle.bz_engine.specs.Progress.{Progress}
use Rattle.bz_engine.specs.declared.canonical.Found.{Found}
use Rattle.bz_engine.specs.declared.edit.Scripted.{Scripted}
use Rattle.bz_engine.specs.declared.edit.Scripted.TheVariants as scripts
use Rattle.bz_engine.specs.private.Edits.{DoesNothing, IsLaidOut, IsScripted}
use Rattle.bz_engine.specs.declared.sealed.HeadedRule.{HeadedRule}
use Rattle.bz_engine.specs.private.Found.{HasItsSpans, IsFoundOn, IsRuleFound}
use Rattle.bz_engine.specs.private.NextChunks.{ScriptsFound}
use Rattle.bz_engine.specs.private.Sealed.{IsSealedRule, asked_names, is_asked_in, leave_names}
use Rattle.bz_engine.proofs.ScriptNames.{asked_for}
use Rattle.bz_engine.proofs.SealedScript.{laid_same, scripted_same}

pub script_line : (run : Run) (s : Statement) (old new : Progress) (before after : List ℕ) (scripted : Scripted) → IsScripted run s old new before after scripted → new.line ≡ old.line
script_line run s old new before after scripts.Done done = done.line
script_line run s old new before after scripts.Failed done = done.line

-- the script ran on the rule with sealed arguments
pub sealed_found : (run : Run) (found : Found) (old new : Progress) (before after : List ℕ) (line : ℕ) (t : Statement) (scripted : Scripted)
    → is_filled (asked_names run.passes) ≡ true → line ≡ old.line → Fits new.kept run.passes
    → ((s : Statement) → IsFoundOn run.max_depth line found s → IsSealedRule (is_asked_in run) (leave_names run.passes) s t)
    → IsScripted run t old new before after scripted → ScriptsFound run found old new before after (Some scripted)
sealed_found run found old new before after line t scripted some at fits seals done = record {
  fits = fits;
  line = script_line run t old new before after scripted done;
  scripted = λ s is. scripted_same (is_asked_in run) run s t old new before after scripted (asked_for run some) (seals s (subst (λ n. IsFoundOn run.max_depth n found s) (sym at) is)) done;
  nothing = tt;
}

-- what is written of the rule that was made
pub made_written : (run : Run) (found : Found) (noted : HeadedRule) (line : ℕ) (made : Option Statement) → is_filled (asked_names run.passes) ≡ true → HasItsSpans run.max_depth run.passes found → IsRuleFound line found noted
    → IfSome made (λ t. (line : ℕ) (s : Statement) → IsRuleFound line found noted → IsFoundOn run.max_depth line found s → IsSealedRule (is_asked_in run) (leave_names run.passes) s t)
    → IfSome made (λ t. layout_text t ≡ found.chunk.written.now)
made_written run found noted line None some spans rule seals = tt
made_written run found noted line (Some t) some spans rule seals =
    let at = spans.read line in
    let is = seals line at.0 rule at.1 in
    sym (laid_same (is_asked_in run) (asked_for run some).name is.count at.0 t is.sealed (inl is.named)) ∙ at.1.is.written

-- the same, where a rule was made: else nothing is done
pub sealed_done : (run : Run) (found : Found) (noted : HeadedRule) (old new : Progress) (before after : List ℕ) (line : ℕ) (made : Option Statement) (answer : Option Scripted)
    → is_filled (asked_names run.passes) ≡ true → line ≡ old.line → Fits new.kept run.passes → IsRuleFound line found noted
    → IfSome made (λ t. (line : ℕ) (s : Statement) → IsRuleFound line found noted → IsFoundOn run.max_depth line found s → IsSealedRule (is_asked_in run) (leave_names run.passes) s t)
    → IfNone answer (DoesNothing old new before after)
    → IfSome answer (λ scripted. (t : Statement) × (made ≡ Some t) × IsScripted run t old new before after scripted) → ScriptsFound run found old new before after answer
sealed_done run found noted old new before after line made None some at fits rule seals nothing done = record {
  fits = fits;
  line = ap (λ (p : Progress). p.line) nothing.0;
  scripted = tt;
  nothing = nothing;
}
sealed_done run found noted old new before after line made (Some scripted) some at fits rule seals nothing done =
    let sealed = subst (λ (o : Option Statement). IfSome o (λ t. (line : ℕ) (s : Statement) → IsRuleFound line found noted → IsFoundOn run.max_depth line found s → IsSealedRule (is_asked_in run) (leave_names run.passes) s t)) done.1 seals in
    sealed_found run found old new before after line done.0 scripted some at fits (λ s is. sealed line s rule is) done.2

-- the chunk was copied, or one argument was edited
pub laid_found : (run : Run) (found : Found) (old new : Progress) (before after : List ℕ) → Fits new.kept run.passes → new.line ≡ old.line
    → ((s : Statement) → IsFoundOn run.max_depth old.line found s → IsLaidOut run s old new before after) → ScriptsFound run found old new before after (Some scripts.Done)
laid_found run found old new before after fits line laid = record { fits = fits; line = line; scripted = laid; nothing = tt }

-- nothing was done before
pub found_then : (run : Run) (found : Found) (old mid new : Progress) (before between after : List ℕ) (answer : Option Scripted) → DoesNothing old mid before between
    → ScriptsFound run found mid new between after answer → ScriptsFound run found old new before after answer
found_then run found old mid new before between after answer nothing is =
    subst (λ (p : Progress). ScriptsFound run found p new before after answer) nothing.0 (subst (λ l. ScriptsFound run found mid new l after answer) nothing.1 is)
