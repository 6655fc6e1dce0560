-- Worked examples: paths, counts of calls, and calls that leave a part of the new text.
use Rattle.std.proofs.Common.{◌≡◌, ◌≢◌, ℕ, Bool, true, false, List, [], ◌∷◌, Option, Some, None, IsSome, Result, refl, sym, subst, inr, ⊎_elim, codes, ◌∙◌}
use Rattle.std.proofs.lemmas.Bool.{false≢true}
use Rattle.std.proofs.Math.Decide.{ℕ_discrete}
use mathlib.Core.List.{List-discrete}
use Rattle.bz_folder.specs.declared.trouble.Trouble.{Trouble}
use Rattle.bz_folder.specs.Files.{Content, Files, Make, Write, Remove, Event, SameBut}
use Rattle.bz_folder.specs.Paths.{temporary_path}
use Rattle.bz_folder.specs.Replace.{IsSafe, ReplacesSafely}
use Rattle.bz_folder.specs.Tally.{total_of}

beside : temporary_path (codes "p/BUILD") ≡ codes "p/BUILD.buildozer.tmp"
beside = refl

abbrev calls : List Event
calls = (Remove [], true) ∷ (Make [], true) ∷ (Write [] (1 ∷ 2 ∷ []), true) ∷ (Write [] (3 ∷ []), false) ∷ []

counts_bytes : total_of (λ t. t.bytes) calls ≡ 2
counts_bytes = refl

counts_failures : total_of (λ t. t.failures) calls ≡ 1
counts_failures = refl

-- the files with this at a path
abbrev with_at : (path : List ℕ) → Content → Files → (p : List ℕ) → Dec (p ≡ path) → Option Content
with_at path content files p (yes e) = Some content
with_at path content files p (no n) = files p

abbrev put : List ℕ → Content → Files → Files
put path content files p = with_at path content files p (List-discrete ℕ_discrete p path)

put_here : (path : List ℕ) (content : Content) (files : Files) (d : Dec (path ≡ path)) → with_at path content files path d ≡ Some content
put_here path content files (yes e) = refl
put_here path content files (no n) = absurd (n refl)

put_elsewhere : (path : List ℕ) (content : Content) (files : Files) (p : List ℕ) → p ≢ path → (d : Dec (p ≡ path)) → with_at path content files p d ≡ files p
put_elsewhere path content files p n (yes e) = absurd (n e)
put_elsewhere path content files p n (no k) = refl

-- a write to the file itself is not safe: the process may be killed within it
write_in_place : (file bytes : List ℕ) (wanted : Option Content) (result : Result Bool Trouble) → wanted ≡ None
    → ReplacesSafely file wanted result ((Write file bytes, true) ∷ []) → ⊥
write_in_place file bytes wanted result none h =
    let start : Files = λ p. None in
    let part : Files = put file (bytes, 0) start in
    let there : part file ≡ Some (bytes, 0) = put_here file (bytes, 0) start (List-discrete ℕ_discrete file file) in
    let rest : SameBut file start part = λ p n. put_elsewhere file (bytes, 0) start p n (List-discrete ℕ_discrete p file) in
    let s : IsSafe file wanted start part = (h start).1 part (inr rest) in
    ⊎_elim
    (λ (e : part file ≡ None). false≢true (subst IsSome (sym there ∙ e) refl))
    (λ w. false≢true (subst IsSome none w.0))
    s.whole
