-- How a buffer stops at a sink that fails: steps one after another, and a single write.
use Rattle.std.specs.Prelude.{◌≡◌, ℕ, Bool, true, false, List, [], ◌++◌, take, drop}
use Rattle.std.proofs.Common.{sym, refl, ◌∙◌, ap, subst, append_assoc, take-append-drop, append-nil}
use Rattle.std.proofs.lemmas.Bool.{false≢true}
use Rattle.bz_devices.specs.Device.{Rises}
use Rattle.bz_devices.specs.Buffer.{Buffer, HandedOn, Took, FrontSent, Stops}

module _ {W : Type 0} (took : W → List ℕ → W → Type 0) (failures : W → ℕ) where
  -- nothing was handed on
  pub stops_idle : ((s : W) → took s [] s) → (old new : Buffer W) (bytes : List ℕ) → new.sink ≡ old.sink → new.failed ≡ old.failed
      → Stops took failures old bytes new
  stops_idle nothing old new bytes sink failed = record {
    stays = λ was. (sink, failed ∙ was);
    cause = λ was is. absurd (false≢true (sym was ∙ sym failed ∙ is));
    steady = λ is. ap failures sink;
    front = λ was. record {
      sent = [];
      left = old.waiting ++ bytes;
      handed_on = subst (λ s. took old.sink [] s) (sym sink) (nothing old.sink);
      same = refl;
    };
  }

  -- all that waits and these bytes were handed on by one write
  module _ (old new : Buffer W) (bytes handed : List ℕ) (same : old.waiting ++ bytes ≡ handed)
      (all : new.failed ≡ false → (old.failed ≡ false) × took old.sink handed new.sink)
      (part : old.failed ≡ false → new.failed ≡ true → (n : ℕ) × took old.sink (take n handed) new.sink) where
    front_by : (failed : Bool) → new.failed ≡ failed → old.failed ≡ false → FrontSent took old bytes new
    front_by false e was = record { sent = handed; left = []; handed_on = (all e).1; same = same ∙ sym (append-nil handed) }
    front_by true e was =
        let p = part was e in
        record {
          sent = take p.0 handed;
          left = drop p.0 handed;
          handed_on = p.1;
          same = same ∙ sym (take-append-drop p.0 handed);
        }

    pub stops_at_write : (old.failed ≡ true → (new.sink ≡ old.sink) × (new.failed ≡ true))
        → (old.failed ≡ false → new.failed ≡ true → Rises (failures old.sink) (failures new.sink))
        → (new.failed ≡ false → failures new.sink ≡ failures old.sink) → Stops took failures old bytes new
    stops_at_write stays cause steady = record { stays = stays; cause = cause; steady = steady; front = front_by new.failed refl }

  module _ (more : (a b c : W) (xs ys : List ℕ) → took a xs b → took b ys c → took a (xs ++ ys) c) (a b c : Buffer W) (xs ys : List ℕ) where
    -- the sink failed in between
    front_before : Stops took failures b ys c → b.failed ≡ true → FrontSent took a xs b → FrontSent took a (xs ++ ys) c
    front_before q failed p = record {
      sent = p.sent;
      left = p.left ++ ys;
      handed_on = subst (λ s. took a.sink p.sent s) (sym (q.stays failed).0) p.handed_on;
      same = sym (append_assoc a.waiting xs ys) ∙ ap (λ zs. zs ++ ys) p.same ∙ append_assoc p.sent p.left ys;
    }

    front_after : HandedOn took a xs b → FrontSent took b ys c → FrontSent took a (xs ++ ys) c
    front_after p q = record {
      sent = p.sent ++ q.sent;
      left = q.left;
      handed_on = more a.sink b.sink c.sink p.sent q.sent p.handed_on q.handed_on;
      same = sym (append_assoc a.waiting xs ys)
          ∙ ap (λ zs. zs ++ ys) p.same
          ∙ append_assoc p.sent b.waiting ys
          ∙ ap (λ zs. p.sent ++ zs) q.same
          ∙ sym (append_assoc p.sent q.sent q.left);
    }

    stops_by : (failed : Bool) → b.failed ≡ failed → Took took a xs b → Stops took failures a xs b → Stops took failures b ys c
        → Stops took failures a (xs ++ ys) c
    stops_by true e t p q = record {
      stays = λ was. ((q.stays e).0 ∙ (p.stays was).0, (q.stays e).1);
      cause = λ was is. subst (λ s. Rises (failures a.sink) (failures s)) (sym (q.stays e).0) (p.cause was e);
      steady = λ is. absurd (false≢true (sym is ∙ (q.stays e).1));
      front = λ was. front_before q e (p.front was);
    }
    stops_by false e t p q = record {
      stays = λ was. absurd (false≢true (sym e ∙ (p.stays was).1));
      cause = λ was is. subst (λ n. Rises n (failures c.sink)) (p.steady e) (q.cause e is);
      steady = λ is. q.steady is ∙ p.steady e;
      front = λ was. front_after (t e) (q.front e);
    }

    pub stops_more : Took took a xs b → Stops took failures a xs b → Stops took failures b ys c → Stops took failures a (xs ++ ys) c
    stops_more = stops_by b.failed refl
