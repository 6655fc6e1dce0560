use Rattle.std.proofs.Common.{◌≡◌, ◌||◌, ◌+◌, ◌-◌, drop, length, get_or, arith, refl}
use Rattle.std.proofs.lemmas.Grind.{common_steps}
use Rattle.bz_passes.proofs.Skips.{Skips, skip_from, fits_on, slot_on, kept_on, some_on, slot_at_end, kept_at_end, some_at_end}
use Rattle.bz_passes.proofs.Steps.{fits_length, fits_here, fits_after, slot_rest, kept_rest, some_rest, kept_and_fits}
use Rattle.bz_passes.specs.Exchange.{slot_after, kept_and, kept_alone, some_alone}
use Rattle.bz_passes.proofs.script.run_script.Goals as goal

pub loop-i-init : goal.loop-i-init
loop-i-init g c = record { within = omega arith; size = fits_length _ _ c.requires; fits = c.requires; slot = refl; kept = refl; changed = refl; failed = refl }

pub run_pass-requires-clause-fits : goal.run_pass-requires-clause-fits
run_pass-requires-clause-fits g c =
    let passes = c.args.passes.now in
    let i = c.in-Some.i in
    let at = c.loop-i.at in
    let inv = c.loop-i.invariant in
    let next = c.in-Some.ensures in
    let p = c.index-as_slice-i.result in
    let is : p ≡ get_or passes i p = rw c.as_slice.ensures at c.index-as_slice-i.is in
    let on : i ≡ at + (i - at) = let le = next.0 in omega arith in
    let within = next.1 in
    let before = g.L.Language.seen c.loop-i.slot in
    let meaning = g.L.Language.meaning c.args.language.now in
    let skips : Skips meaning before (drop at passes) (drop at c.loop-i.kept) (i - at) = skip_from meaning before passes c.loop-i.kept at i (i - at) on (omega arith) inv.fits next.3 in
    fits_here c.loop-i.kept passes i c.index-kept-i.result p (let s = inv.size in omega arith) within is (fits_on meaning before passes c.loop-i.kept at i (i - at) on skips)

pub loop-i-preserved : goal.loop-i-preserved
loop-i-preserved g c =
    let meaning = g.L.Language.meaning c.args.language.now in
    let passes = c.args.passes.now in
    let i = c.in-Some.i in
    let at = c.loop-i.at in
    let inv = c.loop-i.invariant in
    let next = c.in-Some.ensures in
    let p = c.index-as_slice-i.result in
    let is : p ≡ get_or passes i p = rw c.as_slice.ensures at c.index-as_slice-i.is in
    let on : i ≡ at + (i - at) = let le = next.0 in omega arith in
    let within = next.1 in
    let e = c.index-kept-i.result in
    let kept = c.loop-i.kept in
    let ensures = c.in_ok-run_pass.ensures in
    let first = g.L.Language.seen c.args.slot.now in
    let changes = g.L.Language.changes c.args.language.now in
    let fails = g.L.Language.fails c.args.language.now in
    let facts = c.args.facts.now in
    let before = g.L.Language.seen c.loop-i.slot in
    let after = g.L.Language.seen c.run_pass.new.slot in
    let skips : Skips meaning before (drop at passes) (drop at kept) (i - at) = skip_from meaning before passes kept at i (i - at) on (omega arith) inv.fits next.3 in
    record {
      within = omega arith;
      size = let s = inv.size in grind (arith, common_steps, s);
      fits = fits_after kept passes i e c.run_pass.new.kept p (let s = inv.size in omega arith) within is (fits_on meaning before passes kept at i (i - at) on skips);
      slot = slot_rest meaning passes i p before after (slot_after meaning passes first) within is ensures.slot (slot_on meaning before passes kept at i (i - at) _ on skips inv.slot);
      kept = kept_rest meaning passes i p before after kept (kept_and c.args.kept.now (kept_alone meaning passes first)) e c.run_pass.new.kept within is (let s = inv.size in omega arith) ensures.slot ensures.kept
          (kept_on meaning before passes kept _ at i (i - at) on skips inv.kept);
      changed = some_rest meaning changes passes i p before after c.loop-i.facts.changed c.run_pass.new.facts.changed (facts.changed || some_alone meaning changes passes first) within is ensures.slot ensures.changed
          (some_on meaning changes before passes kept at i (i - at) _ _ on skips inv.changed);
      failed = some_rest meaning fails passes i p before after c.loop-i.facts.failed c.run_pass.new.facts.failed (facts.failed || some_alone meaning fails passes first) within is ensures.slot ensures.failed
          (some_on meaning fails before passes kept at i (i - at) _ _ on skips inv.failed);
    }

pub returns-clause-slot : goal.returns-clause-slot
returns-clause-slot g c =
    let meaning = g.L.Language.meaning c.args.language.now in
    let passes = c.args.passes.now in
    let at = c.loop-i.at in
    let inv = c.loop-i.invariant in
    let x = g.L.Language.seen c.loop-i.slot in
    let on : length passes ≡ at + (length passes - at) = let w = inv.within in omega arith in
    slot_at_end meaning x _ passes (slot_on meaning x passes c.loop-i.kept at (length passes) (length passes - at) _ on
    (skip_from meaning x passes c.loop-i.kept at (length passes) (length passes - at) on (omega arith) inv.fits c.in_default.ensures) inv.slot)

pub returns-clause-fits : goal.returns-clause-fits
returns-clause-fits g c =
    let meaning = g.L.Language.meaning c.args.language.now in
    let passes = c.args.passes.now in
    let at = c.loop-i.at in
    let inv = c.loop-i.invariant in
    let x = g.L.Language.seen c.loop-i.slot in
    let slot = g.L.Language.seen c.args.slot.now in
    let on : length passes ≡ at + (length passes - at) = let w = inv.within in omega arith in
    let skips : Skips meaning x (drop at passes) (drop at c.loop-i.kept) (length passes - at) = skip_from meaning x passes c.loop-i.kept at (length passes) (length passes - at) on (omega arith) inv.fits c.in_default.ensures in
    let all : c.loop-i.kept ≡ kept_and c.args.kept.now (kept_alone meaning passes slot) =
    kept_at_end meaning x passes c.loop-i.kept _ inv.size (kept_on meaning x passes c.loop-i.kept _ at (length passes) (length passes - at) on skips inv.kept) in
    rw all (kept_and_fits meaning passes slot c.args.kept.now c.requires)

pub returns-clause-kept : goal.returns-clause-kept
returns-clause-kept g c =
    let meaning = g.L.Language.meaning c.args.language.now in
    let passes = c.args.passes.now in
    let at = c.loop-i.at in
    let inv = c.loop-i.invariant in
    let x = g.L.Language.seen c.loop-i.slot in
    let on : length passes ≡ at + (length passes - at) = let w = inv.within in omega arith in
    let skips : Skips meaning x (drop at passes) (drop at c.loop-i.kept) (length passes - at) = skip_from meaning x passes c.loop-i.kept at (length passes) (length passes - at) on (omega arith) inv.fits c.in_default.ensures in
    kept_at_end meaning x passes c.loop-i.kept _ inv.size (kept_on meaning x passes c.loop-i.kept _ at (length passes) (length passes - at) on skips inv.kept)

pub returns-clause-changed : goal.returns-clause-changed
returns-clause-changed g c =
    let meaning = g.L.Language.meaning c.args.language.now in
    let changes = g.L.Language.changes c.args.language.now in
    let passes = c.args.passes.now in
    let at = c.loop-i.at in
    let inv = c.loop-i.invariant in
    let x = g.L.Language.seen c.loop-i.slot in
    let on : length passes ≡ at + (length passes - at) = let w = inv.within in omega arith in
    some_at_end meaning changes x passes _ _ (some_on meaning changes x passes c.loop-i.kept at (length passes) (length passes - at) _ _ on
    (skip_from meaning x passes c.loop-i.kept at (length passes) (length passes - at) on (omega arith) inv.fits c.in_default.ensures) inv.changed)

pub returns-clause-failed : goal.returns-clause-failed
returns-clause-failed g c =
    let meaning = g.L.Language.meaning c.args.language.now in
    let fails = g.L.Language.fails c.args.language.now in
    let passes = c.args.passes.now in
    let at = c.loop-i.at in
    let inv = c.loop-i.invariant in
    let x = g.L.Language.seen c.loop-i.slot in
    let on : length passes ≡ at + (length passes - at) = let w = inv.within in omega arith in
    some_at_end meaning fails x passes _ _ (some_on meaning fails x passes c.loop-i.kept at (length passes) (length passes - at) _ _ on
    (skip_from meaning x passes c.loop-i.kept at (length passes) (length passes - at) on (omega arith) inv.fits c.in_default.ensures) inv.failed)
