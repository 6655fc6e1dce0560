use Rattle.std.proofs.Common.{◌≡◌, ◌≤◌, ◌+◌, ℕ, List, [], Option, None, Ok, arith, length, sym, ◌∙◌, ap, subst}
use Rattle.std.specs.Prelude.{IfNone, IfSome}
use Rattle.bz_devices.specs.Ahead.{Ahead}
use Rattle.bz_engine.specs.Progress.{Progress}
use Rattle.bz_engine.specs.SessionValue.{SessionValue, IsReady}
use Rattle.bz_engine.specs.declared.next_chunk.NextChunk.{NextChunk}
use Rattle.bz_engine.specs.private.Edits.{DoesNothing}
use Rattle.bz_engine.specs.private.Finds.{Finds}
use Rattle.bz_engine.specs.private.NextChunks.{IsNextEdited}
use Rattle.bz_engine.proofs.Finds.{finds_nothing}
use Rattle.bz_engine.proofs.session.Session.edit_next.Goals as goal

-- nothing was copied
nothing_done : (u v : SessionValue) (before between : List ℕ) (o : Option NextChunk) → (let same : SessionValue = record u { progress = v.progress } in v ≡ same)
    → IfNone o (DoesNothing u.progress v.progress before between) → o ≡ None → (v ≡ u) × (between ≡ before)
nothing_done u v before between o same none is =
    let nothing = subst (λ (o : Option NextChunk). IfNone o (DoesNothing u.progress v.progress before between)) is none in
    let goes_on : Progress → SessionValue = λ p. record u { progress = p } in
    (same ∙ ap goes_on nothing.0, nothing.1)

copied : (u v : SessionValue) → (let same : SessionValue = record u { progress = v.progress } in v ≡ same)
    → (let there : SessionValue = record u { ahead = v.ahead; progress = v.progress } in v ≡ there)
copied u v same =
    let with_ahead : Ahead → SessionValue = λ a. record u { ahead = a; progress = v.progress } in
    same ∙ ap with_ahead (sym (ap (λ x. x.ahead) same))

-- nothing is read of a source
nothing_read : {S T : Type 0} (gave : S → List (List ℕ) → S → Type 0) (failures : S → ℕ) (u v : SessionValue) (source : S) (x : T) → gave source [] source
    → u.ahead.reads ≤ u.options.max_reads → IsReady u → (let same : SessionValue = record u { progress = v.progress } in v ≡ same)
    → Finds {T = T} gave failures u.options u.progress.line source source u.ahead v.ahead (Ok x)
nothing_read {T = T} gave failures u v source x nothing made ready same =
    let few : length u.ahead.bytes ≤ u.options.max_statement + 8192 = omega (arith, ready.few) in
    subst (λ a. Finds {T = T} gave failures u.options u.progress.line source source u.ahead a (Ok x)) (sym (ap (λ x. x.ahead) same))
    (finds_nothing gave failures u.options u.progress.line x source u.ahead nothing made few)

pub returns-in-Some-clause-same : goal.returns-in-Some-clause-same
returns-in-Some-clause-same g c = copied c.args.self.now c.copy_ahead.new.self c.copy_ahead.ensures.same

pub returns-in-Some-clause-finds : goal.returns-in-Some-clause-finds
returns-in-Some-clause-finds g c =
    nothing_read g.S.Source.gave g.S.Source.failures c.args.self.now c.copy_ahead.new.self c.args.source.now _ (g.met.S.Source.gave_nothing _) c.requires.made c.requires.ready c.copy_ahead.ensures.same

pub returns-in-Some-clause-next : goal.returns-in-Some-clause-next
returns-in-Some-clause-next g c =
    subst (λ (o : Option NextChunk). IfSome o (IsNextEdited c.args.self.now c.copy_ahead.new.self c.args.text.now.items c.copy_ahead.new.text.items)) c.in-Some.is c.in_ok-next.ensures.chunk
