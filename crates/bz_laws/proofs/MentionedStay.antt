-- Arguments are changed that a command does not mention: what it mentions stays.
use Rattle.std.proofs.Common.{◌≡◌, ℕ, List, Bool, true, ◌||◌, Some, None, map, refl, ap, sym, ◌∙◌}
use Rattle.std.specs.Prelude.{bytes_eq}
use Rattle.std.proofs.lemmas.Bool.{or_right}
use Rattle.std.proofs.lemmas.Slice.Eq.{bytes_eq-Decides}
use Rattle.bz_tree.specs.Tree.{Segment}
use Rattle.bz_rule.specs.Commands.{Command, mentions}
use Rattle.bz_attribute.specs.Rules.{is_text, name_of}
use Rattle.bz_laws.specs.Aside.{IsAside}
use Rattle.bz_rule.proofs.Arguments.{same_bytes}
use Rattle.bz_laws.proofs.NamesKept.{Leaves, each_stays}

pub leaves_mentioned : {c : Command} {g : Segment → Segment} → IsAside c g → (attr : List ℕ) → mentions c attr ≡ true → Leaves attr g
leaves_mentioned {c} {g} aside attr mentioned a named =
    elim (name_of a.nodes) as (λ n. name_of a.nodes ≡ n → is_text attr n ≡ true → g a ≡ a) [
      | None ↦ λ e k. absurd cc
      | Some other ↦ λ e k. aside.mentioned a other e (ap (mentions c) (sym ((bytes_eq-Decides attr other).0 k)) ∙ mentioned)
    ] refl named

-- of a command with an old name and a new one
pub leaves_both : {c : Command} {g : Segment → Segment} → IsAside c g → (old new : List ℕ) → ((attr : List ℕ) → mentions c attr ≡ bytes_eq old attr || bytes_eq new attr) → Leaves old g × Leaves new g
leaves_both aside old new is =
    let first : bytes_eq old old || bytes_eq new old ≡ true = ap (λ (b : Bool). b || bytes_eq new old) (same_bytes old) in
    let second : bytes_eq old new || bytes_eq new new ≡ true = or_right (bytes_eq old new) (bytes_eq new new) (same_bytes new) in
    (leaves_mentioned aside old (is old ∙ first), leaves_mentioned aside new (is new ∙ second))

-- a command that mentions every name leaves nothing to change
pub leaves_all : {c : Command} {g : Segment → Segment} → IsAside c g → ((attr : List ℕ) → mentions c attr ≡ true) → (args : List Segment) → map g args ≡ args
leaves_all {c} {g} aside all = each_stays g (λ a.
    elim (name_of a.nodes) as (λ n. name_of a.nodes ≡ n → g a ≡ a)
    [ None ↦ λ e. aside.unnamed a e | Some attr ↦ λ e. aside.mentioned a attr e (all attr) ] refl)

pub all_aside : {c : Command} {g : Segment → Segment} → IsAside c g → ((attr : List ℕ) → mentions c attr ≡ true) → (f : List Segment → List Segment) (args : List Segment) → f (map g args) ≡ map g (f args)
all_aside aside all f args = ap f (leaves_all aside all args) ∙ sym (leaves_all aside all (f args))
