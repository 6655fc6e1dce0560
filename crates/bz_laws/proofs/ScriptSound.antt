-- What a script leaves of sound statements is sound: command by command on each slot.
use Rattle.std.proofs.Common.{◌≡◌, ℕ, ◌≤◌, List, [], ◌∷◌, map, Bool, true, false, refl, sym, ap, ◌∙◌, subst, inl, inr}
use Rattle.std.specs.Prelude.{None, Some, is_some, if◌then◌else◌, ◌⊎◌}
use Rattle.std.specs.List.{AllByRecursion, list_all}
use Rattle.std.specs.Str.{is_utf8}
use Rattle.std.proofs.lemmas.Bool.{and_parts}
use Rattle.bz_tree.specs.Tree.{Statement}
use Rattle.bz_layout_laws.specs.KeptBlock.{IsKeptBlock}
use Rattle.bz_layout_laws.specs.WellFormed.{IsWellFormed}
use Rattle.bz_rule.specs.Commands.{Command, is_command, command_passes, after}
use Rattle.bz_label.specs.Labels.{Package}
use Rattle.bz_passes.specs.Passes.{Slot, Marked, marked, executed}
use Rattle.bz_rule.proofs.Lawfulness.{no_rule_stays}
use Rattle.bz_laws.proofs.Commands.{formed_after}
use Rattle.bz_laws.proofs.Utf8Commands.{commands_utf8}
use Rattle.bz_engine.specs.Scripts.{AreCommands}
use Rattle.bz_passes.specs.Exchange.{slot_after_commands, slot_after_pass, slot_after}
use Rattle.bz_engine.specs.Language.{meaning}
use Rattle.bz_engine.specs.Outcome.{Script, left_in, slots_of}
use Rattle.bz_passes.proofs.ExchangeLaw.{slots_alone}
use Rattle.bz_laws.specs.Sound.{IsSound}
use Rattle.bz_laws.specs.Written.{HaveUtf8Words, left_by}
use Rattle.bz_attribute.specs.Rules.{rule_of}
use Rattle.bz_layout_laws.proofs.BlockBody.{body_of}

-- what stands in a slot is sound
abbrev SoundSlot : ℕ → Slot Statement → Type 0
SoundSlot depth None = Unit {0}
SoundSlot depth (Some s) = IsSound depth s

-- a command of a script, with what is asked of it
record Allowed (c : Command) : Type 0 where
  command : is_command c ≡ true
  words : command_passes is_utf8 c ≡ true

-- a block is no rule
block_no_rule : (depth : ℕ) (s : Statement) → IsKeptBlock depth s → rule_of s.nodes ≡ None
block_no_rule depth s kept =
    let body = body_of kept.first depth kept.bytes kept.found kept.read in
    ap (λ (t : Statement). rule_of t.nodes) kept.is ∙ ap (λ (t : Statement). rule_of t.nodes) body.is

after_sound : (depth : ℕ) → 2 ≤ depth → (home : Package) (c : Command) → Allowed c → (slot : Slot Statement) → SoundSlot depth slot → SoundSlot depth (after c home slot)
after_sound depth two home c allowed None sound = subst (SoundSlot depth) (sym (no_rule_stays c home None refl)) tt
after_sound depth two home c allowed (Some s) sound = by sound.form
  where
    formed : IsWellFormed depth s → (slot : Slot Statement) → after c home (Some s) ≡ slot → SoundSlot depth slot
    formed is None e = tt
    formed is (Some t) e = record {
      form = inl (formed_after depth c home s t allowed.command two is e);
      utf8 = commands_utf8 c home s t allowed.words e sound.utf8;
    }

    by : IsWellFormed depth s ⊎ IsKeptBlock depth s → SoundSlot depth (after c home (Some s))
    by (inl is) = formed is (after c home (Some s)) refl
    by (inr kept) = subst (SoundSlot depth) (sym (no_rule_stays c home (Some s) (ap is_some (block_no_rule depth s kept)))) sound

executed_sound : (depth : ℕ) → 2 ≤ depth → (home : Package) (c : Command) → Allowed c → (x : Marked Statement) → SoundSlot depth x.slot → SoundSlot depth (executed (meaning home) c x).slot
executed_sound depth two home c allowed x sound = by x.mark
  where
    by : (b : Bool) → SoundSlot depth (if b then after c home x.slot else x.slot)
    by true = after_sound depth two home c allowed x.slot sound
    by false = sound

commands_sound : (depth : ℕ) → 2 ≤ depth → (home : Package) (cs : List Command) → list_all is_command cs ≡ true → list_all (command_passes is_utf8) cs ≡ true
    → (x : Marked Statement) → SoundSlot depth x.slot → SoundSlot depth (slot_after_commands (meaning home) cs x).slot
commands_sound depth two home [] commands words x sound = sound
commands_sound depth two home (c ∷ cs) commands words x sound =
    let p = and_parts (is_command c) (list_all is_command cs) commands in
    let q = and_parts (command_passes is_utf8 c) (list_all (command_passes is_utf8) cs) words in
    commands_sound depth two home cs p.1 q.1 (executed (meaning home) c x) (executed_sound depth two home c (record { command = p.0; words = q.0 }) x sound)

passes_sound : (depth : ℕ) → 2 ≤ depth → (home : Package) (passes : Script) → AreCommands passes → HaveUtf8Words passes → (slot : Slot Statement) → SoundSlot depth slot → SoundSlot depth (slot_after (meaning home) passes slot)
passes_sound depth two home [] commands words slot sound = sound
passes_sound depth two home (p ∷ ps) commands words slot sound =
    let a = and_parts (list_all is_command p.commands) (list_all (λ q. list_all is_command q.commands) ps) commands in
    let b = and_parts (list_all (command_passes is_utf8) p.commands) (list_all (λ q. list_all (command_passes is_utf8) q.commands) ps) words in
    passes_sound depth two home ps a.1 b.1 (slot_after_pass (meaning home) p slot) (commands_sound depth two home p.commands a.0 b.0 (marked (meaning home) p.target slot) sound)

-- slot by slot
each_sound : (depth : ℕ) (f : Slot Statement → Slot Statement) → ((slot : Slot Statement) → SoundSlot depth slot → SoundSlot depth (f slot)) → (ss : List Statement) → AllByRecursion (IsSound depth) ss
    → AllByRecursion (IsSound depth) (left_in (map f (slots_of ss)))
each_sound depth f keeps [] sound = tt
each_sound depth f keeps (s ∷ ss) sound = by (f (Some s)) (keeps (Some s) sound.0) (each_sound depth f keeps ss sound.1)
  where
    by : (slot : Slot Statement) → SoundSlot depth slot → AllByRecursion (IsSound depth) (left_in (map f (slots_of ss))) → AllByRecursion (IsSound depth) (left_in (slot ∷ map f (slots_of ss)))
    by None here rest = rest
    by (Some t) here rest = (here, rest)

pub script_sound : (home : Package) (passes : Script) (depth : ℕ) (ss : List Statement) → AreCommands passes → HaveUtf8Words passes → 2 ≤ depth → AllByRecursion (IsSound depth) ss
    → AllByRecursion (IsSound depth) (left_by home passes ss)
script_sound home passes depth ss commands words two sound =
    subst (λ slots. AllByRecursion (IsSound depth) (left_in slots)) (sym (slots_alone (meaning home) passes (slots_of ss)))
    (each_sound depth (slot_after (meaning home) passes) (passes_sound depth two home passes commands words) ss sound)
