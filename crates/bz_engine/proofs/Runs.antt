-- A whole run: its start, and why it ends.
use Rattle.std.proofs.Common.{◌≡◌, ℕ, ◌+◌, ◌-◌, ◌*◌, ◌<◌, ◌≤◌, Bool, true, false, List, [], ◌∷◌, ◌++◌, length, length-append, refl, sym, ◌∙◌, ap, subst, append-nil, arith}
use Rattle.std.specs.Prelude.{None, if◌then◌else◌, Result, Ok, Err, IfOk, IfErr, OnOk, OnErr}
use Rattle.std.proofs.lemmas.Bool.{false≢true}
use Rattle.std.specs.List.{concat}
use Rattle.std.proofs.lemmas.List.Folds.{concat-append}
use Rattle.bz_label.specs.Labels.{Package}
use Rattle.bz_engine.specs.declared.options.Options.{Options}
use Rattle.bz_engine.specs.Language.{meaning}
use Rattle.bz_engine.specs.Failing.{changes, fails_on}
use Rattle.bz_engine.specs.declared.report.End.{End}
use Rattle.bz_engine.specs.declared.report.End.TheVariants.{Whole, Syntax, FirstFailure}
use Rattle.bz_engine.specs.EveryFile.{ForEveryFile}
use Rattle.bz_engine.specs.Outcome.{Script, run_with, Told, is_query, IsOutcome, left_in, text_of}
use Rattle.bz_engine.specs.Progress.{last_class}
use Rattle.bz_engine.specs.NeededReads.{AreReads}
use Rattle.bz_engine.specs.Stops.{EndsAfter}
use Rattle.bz_engine.specs.SessionValue.{SessionValue, run_in, HasDone, HasEnded, at_start, told_at}
use Rattle.bz_passes.proofs.ExchangeLaw.{slots_alone, nothing_left}
use Rattle.bz_devices.proofs.MoreReads.{joined_more}

nothing_shown : (query : Bool) → (let nothing : List ℕ = [] in nothing) ≡ (if query then [] else [])
nothing_shown true = refl
nothing_shown false = refl

-- before the first chunk
pub started : (home : Package) (passes : Script) (options : Options) → HasDone (at_start home passes options) [] [] []
started home passes options = record {
  bytes = refl;
  reads = refl;
  ended = refl;
  none_ends = λ h. tt;
  needed = tt;
  few = omega arith;
  first = λ rest over. refl;
  statements = [];
  kept = record {
    read = (refl, refl);
    line = refl;
    left = nothing_left (meaning home) passes (changes home) (fails_on home);
    last = ap (last_class None) (sym (slots_alone (meaning home) passes []));
  };
  text_is = nothing_shown (is_query passes) ∙ ap (λ x0. if is_query passes then [] else text_of (left_in x0)) (sym (slots_alone (meaning home) passes []));
  none_fails = λ h. refl;
}

-- each chunk has bytes, and each read gives at most 8,192
pub shorter : (v w : SessionValue) (max_reads : ℕ) (pieces cs read : List (List ℕ)) (chunk text more : List ℕ)
    → HasDone v pieces cs text → HasDone w (pieces ++ read) (cs ++ chunk ∷ []) more
    → 0 < length chunk → length (concat read) ≤ 8192 * length read → w.ahead.reads ≤ max_reads
    → 8193 * (max_reads - w.ahead.reads) + length w.ahead.bytes < 8193 * (max_reads - v.ahead.reads) + length v.ahead.bytes
shorter v w max_reads pieces cs read chunk text more before after some few within =
    let given : length (concat (pieces ++ read)) ≡ length (concat pieces) + length (concat read) = ap length (joined_more pieces read) ∙ length-append (concat pieces) (concat read) in
    let was : length (concat pieces) ≡ length (concat cs) + length v.ahead.bytes = ap length before.bytes ∙ length-append (concat cs) v.ahead.bytes in
    let now : length (concat (pieces ++ read)) ≡ length (concat (cs ++ chunk ∷ [])) + length w.ahead.bytes = ap length after.bytes ∙ length-append (concat (cs ++ chunk ∷ [])) w.ahead.bytes in
    let taken : length (concat (cs ++ chunk ∷ [])) ≡ length (concat cs) + length chunk =
    ap length (concat-append cs (chunk ∷ []) ∙ ap (λ l. concat cs ++ l) (append-nil chunk)) ∙ length-append (concat cs) chunk in
    let made : w.ahead.reads ≡ length pieces + length read = after.reads ∙ length-append pieces read in
    count (length (concat (pieces ++ read))) (length (concat pieces)) (length (concat read)) (length (concat cs)) (length (concat (cs ++ chunk ∷ []))) (length chunk)
    (length v.ahead.bytes) (length w.ahead.bytes) v.ahead.reads w.ahead.reads (length pieces) (length read) max_reads
    given was now taken made before.reads some few within
  where
    count : (jpr jp jr cc ccc ch vb wb vr wr p r m : ℕ) → jpr ≡ jp + jr → jp ≡ cc + vb → jpr ≡ ccc + wb → ccc ≡ cc + ch → wr ≡ p + r → vr ≡ p → 0 < ch → jr ≤ 8192 * r → wr ≤ m
        → 8193 * (m - wr) + wb < 8193 * (m - vr) + vb
    count jpr jp jr cc ccc ch vb wb vr wr p r m a b c d e f g h i = omega arith

pub run_is : (v : SessionValue) (home : Package) (passes : Script) (options : Options) → v.home ≡ home → v.passes ≡ passes → v.options ≡ options
    → run_in v ≡ run_with home passes options
run_is v home passes options h p o = ap (λ x. run_with x v.passes v.options) h ∙ ap (λ x. run_with home x v.options) p ∙ ap (run_with home passes) o

pub reads_for : (v : SessionValue) (home : Package) (passes : Script) (options : Options) (pieces : List (List ℕ)) → v.home ≡ home → v.passes ≡ passes → v.options ≡ options
    → AreReads v.home v.passes v.options pieces → AreReads home passes options pieces
reads_for v home passes options pieces h p o reads =
    subst (λ x. AreReads home passes x pieces) o (subst (λ x. AreReads home x v.options pieces) p (subst (λ x. AreReads x v.passes v.options pieces) h reads))

-- the session's answer is the outcome of the run that it was made for
pub outcome_is : (v : SessionValue) (home : Package) (passes : Script) (options : Options) (end : End) (told : Told) (pieces cs : List (List ℕ)) (text : List ℕ)
    → v.home ≡ home → v.passes ≡ passes → v.options ≡ options → told ≡ told_at v end → HasEnded v end pieces cs text
    → ForEveryFile pieces (λ file. IsOutcome (run_with home passes options) file text told)
outcome_is v home passes options end told pieces cs text h p o is ended =
    subst (λ run. ForEveryFile pieces (λ file. IsOutcome run file text told)) (run_is v home passes options h p o)
    (subst (λ x. ForEveryFile pieces (λ file. IsOutcome (run_in v) file text x)) (sym is) ended.outcome)

-- what an ended session tells names this end
end_told : (v : SessionValue) (end : End) → (told_at v end).end ≡ end
end_told v Whole = refl
end_told v (Syntax fault) = refl
end_told v FirstFailure = refl

pub ends_after : (v : SessionValue) (home : Package) (passes : Script) (options : Options) (end : End) (told : Told) (pieces cs : List (List ℕ)) (text : List ℕ)
    → v.home ≡ home → v.passes ≡ passes → v.options ≡ options → told ≡ told_at v end → HasEnded v end pieces cs text
    → EndsAfter (run_with home passes options) options.max_statement pieces cs told.end
ends_after v home passes options end told pieces cs text h p o is ended =
    subst (EndsAfter (run_with home passes options) options.max_statement pieces cs) (sym (ap (λ t. t.end) is ∙ end_told v end))
    (subst (λ run. EndsAfter run options.max_statement pieces cs end) (run_is v home passes options h p o)
    (subst (λ x. EndsAfter (run_in v) x.max_statement pieces cs end) o ended.last))

pub where_ok : {T E : Type 0} {P Q : T → Type 0} (r : Result T E) → ((x : T) → P x → Q x) → IfOk r P → IfOk r Q
where_ok (Ok x) f h = f x h
where_ok (Err e) f h = h

pub where_done : {T E : Type 0} {P Q : Type 0} (r : Result T E) → (P → Q) → OnOk r P → OnOk r Q
where_done (Ok x) f h = f h
where_done (Err e) f h = h

-- a fault is this one
pub where_is : {T E : Type 0} (P : E → Type 0) (r : Result T E) (e : E) → r ≡ Err e → P e → IfErr r P
where_is P r e is h = subst (λ s. IfErr s P) (sym is) h

pub where_memory : {T E : Type 0} (P : E → Type 0) (r : Result T E) (e : E) → OnErr r (r ≡ Err e) → P e → IfErr r P
where_memory P (Ok x) e is h = tt
where_memory P (Err f) e is h = where_is P (Err f) e is h

pub ok_is_no_err : {T E : Type 0} (r : Result T E) (t : T) (e : E) → r ≡ Ok t → r ≡ Err e → ⊥
ok_is_no_err r t e is err = false≢true (sym (ap is_ok_answer err) ∙ ap is_ok_answer is)
  where
    is_ok_answer : {T E : Type 0} → Result T E → Bool
    is_ok_answer (Ok x) = true
    is_ok_answer (Err e) = false
