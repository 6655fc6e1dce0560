-- What a folder on a disk can tell of its calls: how many of each kind it made.
use Rattle.std.proofs.Common.{◌≡◌, ℕ, ◌+◌, Bool, true, false, List, [], ◌∷◌, ◌++◌, length, sym, ◌∙◌, ap, arith}
use Rattle.std.proofs.Math.Nat.{le_refl, le_trans, lt_of_le_of_lt, add-zero, add_assoc}
use Rattle.bz_devices.specs.Device.{Counts}
use Rattle.bz_folder.specs.declared.tally.Tally.{Tally}
use Rattle.bz_folder.specs.Files.{Call, Make, Write, SetMode, Rename, Remove, Event}

abbrev pub no_calls : Tally
no_calls = record { makes = 0; writes = 0; bytes = 0; modes = 0; renames = 0; removes = 0; failures = 0 }

-- one call that succeeded
abbrev pub tally_of : Call → Tally
tally_of (Make path) = record no_calls { makes = 1 }
tally_of (Write path bytes) = record no_calls { writes = 1; bytes = length bytes }
tally_of (SetMode path mode) = record no_calls { modes = 1 }
tally_of (Rename from to) = record no_calls { renames = 1 }
tally_of (Remove path) = record no_calls { removes = 1 }

-- one call, which succeeded or failed
abbrev pub tally_as : Call → Bool → Tally
tally_as call true = tally_of call
tally_as call false = record no_calls { failures = 1 }

-- the sum of one of the counts over calls
abbrev pub total_of : (Tally → ℕ) → List Event → ℕ
total_of count [] = 0
total_of count (event ∷ events) = count (tally_as event.0 event.1) + total_of count events

-- each count grew by what these calls add to it, or stands at its greatest value
pub record Tallies (old new : Tally) (events : List Event) : Type 0 where
  pub makes : Counts old.makes new.makes (total_of (λ t. t.makes) events)
  pub writes : Counts old.writes new.writes (total_of (λ t. t.writes) events)
  pub bytes : Counts old.bytes new.bytes (total_of (λ t. t.bytes) events)
  pub modes : Counts old.modes new.modes (total_of (λ t. t.modes) events)
  pub renames : Counts old.renames new.renames (total_of (λ t. t.renames) events)
  pub removes : Counts old.removes new.removes (total_of (λ t. t.removes) events)
  pub failures : Counts old.failures new.failures (total_of (λ t. t.failures) events)

total_append : (count : Tally → ℕ) (es fs : List Event)
    → total_of count (es ++ fs) ≡ total_of count es + total_of count fs
total_append count [] fs = zero_left (total_of count fs)
  where
    zero_left : (n : ℕ) → n ≡ 0 + n
    zero_left n = omega arith
total_append count (e ∷ es) fs =
    ap (λ n. count (tally_as e.0 e.1) + n) (total_append count es fs)
    ∙ sym (add_assoc (count (tally_as e.0 e.1)) (total_of count es) (total_of count fs))

counts_nothing : (a : ℕ) → Counts a a 0
counts_nothing a = record { grows = le_refl a; exact = λ h. sym (add-zero a) }

counts_more : (count : Tally → ℕ) (a b c : ℕ) (es fs : List Event)
    → Counts a b (total_of count es) → Counts b c (total_of count fs) → Counts a c (total_of count (es ++ fs))
counts_more count a b c es fs p q = record {
  grows = le_trans p.grows q.grows;
  exact = λ h. q.exact h ∙ ap (λ x. x + total_of count fs) (p.exact (lt_of_le_of_lt q.grows h))
      ∙ add_assoc a (total_of count es) (total_of count fs)
      ∙ ap (λ n. a + n) (sym (total_append count es fs));
}

pub tallies_nothing : (t : Tally) → Tallies t t []
tallies_nothing t = record {
  makes = counts_nothing t.makes;
  writes = counts_nothing t.writes;
  bytes = counts_nothing t.bytes;
  modes = counts_nothing t.modes;
  renames = counts_nothing t.renames;
  removes = counts_nothing t.removes;
  failures = counts_nothing t.failures;
}

pub tallies_more : (a b c : Tally) (es fs : List Event) → Tallies a b es → Tallies b c fs → Tallies a c (es ++ fs)
tallies_more a b c es fs p q = record {
  makes = counts_more (λ t. t.makes) a.makes b.makes c.makes es fs p.makes q.makes;
  writes = counts_more (λ t. t.writes) a.writes b.writes c.writes es fs p.writes q.writes;
  bytes = counts_more (λ t. t.bytes) a.bytes b.bytes c.bytes es fs p.bytes q.bytes;
  modes = counts_more (λ t. t.modes) a.modes b.modes c.modes es fs p.modes q.modes;
  renames = counts_more (λ t. t.renames) a.renames b.renames c.renames es fs p.renames q.renames;
  removes = counts_more (λ t. t.removes) a.removes b.removes c.removes es fs p.removes q.removes;
  failures = counts_more (λ t. t.failures) a.failures b.failures c.failures es fs p.failures q.failures;
}
