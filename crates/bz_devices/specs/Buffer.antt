-- A sink with a buffer before it: what it took, and what is kept back.
use Rattle.std.specs.Prelude.{◌≡◌, ℕ, Bool, true, false, List, [], ◌++◌}
use Rattle.std.proofs.Common.{sym, ◌∙◌, ap, append_assoc, append-nil}
use Rattle.bz_devices.specs.Device.{Rises}

pub record Buffer (W : Type 0) : Type 0 where
  pub sink : W
  pub waiting : List ℕ
  -- whether the sink failed
  pub failed : Bool
  pub failures : ℕ

-- with what waited before, these bytes are what the sink took since and what waits now
pub record HandedOn {W : Type 0} (took : W → List ℕ → W → Type 0) (old : Buffer W) (bytes : List ℕ) (new : Buffer W) : Type 0 where
  pub sound : old.failed ≡ false
  pub sent : List ℕ
  pub handed_on : took old.sink sent new.sink
  pub same : old.waiting ++ bytes ≡ sent ++ new.waiting

-- These bytes were handed in. Where the sink has failed, nothing is said of what it took.
abbrev pub Took : {W : Type 0} → (W → List ℕ → W → Type 0) → Buffer W → List ℕ → Buffer W → Type 0
Took took old bytes new = new.failed ≡ false → HandedOn took old bytes new

-- the sink took a front of what waited and of these bytes
pub record FrontSent {W : Type 0} (took : W → List ℕ → W → Type 0) (old : Buffer W) (bytes : List ℕ) (new : Buffer W) : Type 0 where
  pub sent : List ℕ
  pub left : List ℕ
  pub handed_on : took old.sink sent new.sink
  pub same : old.waiting ++ bytes ≡ sent ++ left

-- A sink that failed is left alone. It failed only by a write of its own, and then too what it took is a front of the bytes.
pub record Stops {W : Type 0} (took : W → List ℕ → W → Type 0) (failures : W → ℕ) (old : Buffer W) (bytes : List ℕ) (new : Buffer W)
    : Type 0 where
  pub stays : old.failed ≡ true → (new.sink ≡ old.sink) × (new.failed ≡ true)
  pub cause : old.failed ≡ false → new.failed ≡ true → Rises (failures old.sink) (failures new.sink)
  pub steady : new.failed ≡ false → failures new.sink ≡ failures old.sink
  pub front : old.failed ≡ false → FrontSent took old bytes new

module _ {W : Type 0} (took : W → List ℕ → W → Type 0) where
  pub took_nothing_lem : ((s : W) → took s [] s) → (b : Buffer W) → Took took b [] b
  took_nothing_lem nothing b = λ sound. record { sound = sound; sent = []; handed_on = nothing b.sink; same = append-nil b.waiting }

  pub took_more_lem : ((a b c : W) (xs ys : List ℕ) → took a xs b → took b ys c → took a (xs ++ ys) c)
      → (a b c : Buffer W) (xs ys : List ℕ) → Took took a xs b → Took took b ys c → Took took a (xs ++ ys) c
  took_more_lem more a b c xs ys f g = λ sound.
      let q = g sound in
      let p = f q.sound in
      record {
        sound = p.sound;
        sent = p.sent ++ q.sent;
        handed_on = more a.sink b.sink c.sink p.sent q.sent p.handed_on q.handed_on;
        same = sym (append_assoc a.waiting xs ys)
            ∙ ap (λ zs. zs ++ ys) p.same
            ∙ append_assoc p.sent b.waiting ys
            ∙ ap (λ zs. p.sent ++ zs) q.same
            ∙ sym (append_assoc p.sent q.sent c.waiting);
      }

  -- where nothing waits, before and after, the sink took the bytes themselves
  pub took_past : (old new : Buffer W) (bytes : List ℕ) → old.failed ≡ false → old.waiting ≡ [] → new.waiting ≡ []
      → took old.sink bytes new.sink → HandedOn took old bytes new
  took_past old new bytes sound before after handed = record {
    sound = sound;
    sent = bytes;
    handed_on = handed;
    same = ap (λ zs. zs ++ bytes) before ∙ sym (append-nil bytes) ∙ ap (λ zs. bytes ++ zs) (sym after);
  }
