-- A statement by itself under a script is the list of it alone.
use Rattle.std.proofs.Common.{◌≡◌, Bool, true, false, ◌||◌, List, [], ◌∷◌, ◌++◌, refl, ◌∙◌, ap, append-nil}
use Rattle.std.specs.Prelude.{Some}
use Rattle.std.specs.List.{flat_map}
use Rattle.bz_tree.specs.Tree.{Statement}
use Rattle.bz_label.specs.Labels.{Package}
use Rattle.bz_passes.specs.Passes.{Slot, Meaning, Pass, Marked, marked, executed, executions, executions_of, said, slots_after_pass}
use Rattle.bz_passes.specs.Exchange.{logs_alone, slot_after_pass, kept_alone, log_alone, some_alone, entries}
use Rattle.bz_engine.specs.Language.{meaning}
use Rattle.bz_engine.specs.Failing.{fails_on}
use Rattle.bz_engine.specs.Outcome.{Script, some_failure}
use Rattle.bz_passes.proofs.Executions.{said_of_command}
use Rattle.bz_passes.proofs.ExchangeLaw.{pass_alone}
use Rattle.std.proofs.lemmas.List.Concat.{flat_map-append}
use Rattle.bz_engine.proofs.Failures.{failure_each}

or_false : (b : Bool) → (b || false) ≡ b
or_false true = refl
or_false false = refl

pub fails_alone : (home : Package) (passes : Script) (s : Statement) → some_failure home passes (s ∷ []) ≡ some_alone (meaning home) (fails_on home) passes (Some s)
fails_alone home passes s = failure_each home passes (s ∷ []) ∙ or_false (some_alone (meaning home) (fails_on home) passes (Some s))

commands_say : {S T C M : Type 0} (m : Meaning S T C M) (cs : List C) (x : Marked S) → said m (executions m cs (x ∷ [])) ≡ flat_map (λ log. log) (logs_alone m cs x)
commands_say m [] x = refl
commands_say m (c ∷ cs) x =
    said_of_command m c (x ∷ []) (executions m cs (executed m c x ∷ []))
    ∙ ap (λ l. l ++ said m (executions m cs (executed m c x ∷ []))) (append-nil (entries m c x))
    ∙ ap (λ l. entries m c x ++ l) (commands_say m cs (executed m c x))

pub said_alone : {S T C M : Type 0} (m : Meaning S T C M) (ps : List (Pass T C)) (slot : Slot S) → said m (executions_of m ps (slot ∷ [])) ≡ log_alone (kept_alone m ps slot)
said_alone m [] slot = refl
said_alone m (p ∷ ps) slot =
    let others : List (Slot _) → List _ = λ slots. said m (executions_of m ps slots) in
    flat_map-append _ (executions m p.commands (marked m p.target slot ∷ [])) (executions_of m ps (slots_after_pass m p (slot ∷ [])))
    ∙ ap (λ l. l ++ others (slots_after_pass m p (slot ∷ []))) (commands_say m p.commands (marked m p.target slot))
    ∙ ap (λ slots. flat_map (λ log. log) (logs_alone m p.commands (marked m p.target slot)) ++ others slots) (pass_alone m p (slot ∷ []))
    ∙ ap (λ l. flat_map (λ log. log) (logs_alone m p.commands (marked m p.target slot)) ++ l) (said_alone m ps (slot_after_pass m p slot))
