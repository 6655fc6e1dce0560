-- The name of a rule stays, where no command of the script mentions an attribute `name` but to print it.
use Rattle.std.proofs.Common.{◌≡◌, ◌<◌, ℕ, Bool, true, false, ◌&&◌, ◌||◌, not, List, [], ◌∷◌, codes, bytes_eq, option_map, refl, sym, ap, ◌∙◌, arith, inl, inr}
use Rattle.std.specs.Prelude.{Option, Some, None}
use Rattle.std.specs.List.{list_any}
use Rattle.std.proofs.lemmas.Bool.{and_parts, cases_Bool, false≢true, or_cases, or_parts}
use Rattle.std.proofs.lemmas.Slice.Eq.{bytes_eq-Decides}
use Rattle.bz_token.specs.Common.{is_empty, is_one_of, map_or}
use Rattle.bz_tree.specs.Tree.{Segment, Statement}
use Rattle.bz_label.specs.Labels.{Package}
use Rattle.bz_label.specs.declared.arguments.Attributes.TheVariants.{Every}
use Rattle.bz_label.specs.declared.arguments.Chosen.TheVariants.{Values}
use Rattle.bz_attribute.specs.Effects.{is_chosen}
use Rattle.bz_attribute.specs.Lists.{is_attribute, parts}
use Rattle.bz_attribute.specs.Reports.{chooses}
use Rattle.bz_attribute.specs.Rules.{Rule, is_named, is_text, name_of, rule_of, value}
use Rattle.bz_passes.specs.Alike.{KeepsAlike}
use Rattle.bz_passes.specs.Exchange.{slot_after}
use Rattle.bz_passes.specs.Passes.{Slot}
use Rattle.bz_passes.proofs.Alike.{like_after, passes_where}
use Rattle.bz_rule.specs.Commands.{Command, after}
use Rattle.bz_rule.specs.Replace.{is_replaced}
use Rattle.bz_rule.specs.Reports.{replaces_in}
use Rattle.bz_rule.specs.Sealed.{AreSealed, NotSeen, SlotsSealed, all_done, attributes_of, both_empty, both_rules, is_among, looks_at, same, sealed}
use Rattle.bz_rule.specs.declared.command.Action.TheVariants.{Print, Remove, Replace}
use Rattle.bz_rule.proofs.NotSeen.{not_seen}
use Rattle.bz_engine.specs.Failing.{changes, fails_on}
use Rattle.bz_engine.specs.Language.{meaning}
use Rattle.bz_engine.specs.Outcome.{Script}
use Rattle.bz_engine.specs.private.Sealed.{has_plain_name, is_plain_name, leave_names, leaves_name}

-- what a command looks at is no plain name

record LooksPast (o : Option (Segment → Bool)) : Type 0 where
  looks : Segment → Bool
  is : o ≡ Some looks
  past : (a : Segment) → is_plain_name a ≡ true → looks a ≡ false

not_true : (b : Bool) → not b ≡ true → b ≡ false
not_true true is = sym is
not_true false is = refl

other_name : (name n : List ℕ) (o : Option (List ℕ)) → is_text name o ≡ true → bytes_eq name n ≡ false → is_text n o ≡ false
other_name name n None is other = absurd (false≢true is)
other_name name n (Some text) is other = elim (cases_Bool (bytes_eq n text)) [
  | inl too ↦
      let both : name ≡ n = (bytes_eq-Decides name text).0 is ∙ sym ((bytes_eq-Decides n text).0 too) in
      absurd (false≢true (sym other ∙ (bytes_eq-Decides name n).1 both))
  | inr apart ↦ apart
]

none_among : (ns : List (List ℕ)) (a : Segment) → is_named (codes "name") a ≡ true → is_one_of ns (codes "name") ≡ false → is_among ns a ≡ false
none_among [] a named none = refl
none_among (n ∷ ns) a named none =
    let both = or_parts (bytes_eq (codes "name") n) (is_one_of ns (codes "name")) none in
    λ i. other_name (codes "name") n (name_of a.nodes) named both.0 i || none_among ns a named both.1 i

none_in : (q : List Segment → Bool) (lists : List (List Segment)) → is_empty lists ≡ true → list_any q lists ≡ false
none_in q [] is = refl
none_in q (l ∷ lists) is = absurd (false≢true is)

unless : (a b : Bool) → b ≡ false → (a && b) ≡ false
unless true b is = is
unless false b is = refl

past_names : (o : Option (List (List ℕ))) → map_or false (λ names. not (is_one_of names (codes "name"))) o ≡ true → LooksPast (option_map (λ ns. is_among ns) o)
past_names None is = absurd (false≢true is)
past_names (Some ns) is = record {
  looks = is_among ns;
  is = refl;
  past = λ a plain. none_among ns a (and_parts (is_named (codes "name") a) (is_empty (parts (value a))) plain).0 (not_true (is_one_of ns (codes "name")) is);
}

looks_past : (home : Package) (c : Command) → map_or false (λ names. not (is_one_of names (codes "name"))) (attributes_of c) ≡ true → LooksPast (looks_at c home)
looks_past home (Remove Every (v ∷ vs)) is = record {
  looks = λ a. is_attribute a && chooses home (Values (v ∷ vs)) a;
  is = refl;
  past = λ a plain. unless (is_attribute a) (chooses home (Values (v ∷ vs)) a)
      (none_in (list_any (is_chosen home (Values (v ∷ vs)))) (parts (value a)) (and_parts (is_named (codes "name") a) (is_empty (parts (value a))) plain).1);
}
looks_past home (Replace Every old new) is = record {
  looks = λ a. is_attribute a && replaces_in home old new a;
  is = refl;
  past = λ a plain. unless (is_attribute a) (replaces_in home old new a)
      (none_in (list_any (is_replaced home old new)) (parts (value a)) (and_parts (is_named (codes "name") a) (is_empty (parts (value a))) plain).1);
}
looks_past home c is = past_names (attributes_of c) is

-- a plain name is sealed as itself: what is not seen stays

abbrev StandsNamed : List Segment → Segment → Type 0
StandsNamed run t = is_plain_name t ≡ true

all_same : (asks : Segment → Bool) (args : List Segment) → AreSealed StandsNamed asks 0 args args
all_same asks [] = all_done
all_same asks (a ∷ args) = same a (all_same asks args)

one_sealed : (asks : Segment → Bool) → ((a : Segment) → is_plain_name a ≡ true → asks a ≡ false) → (args : List Segment) → list_any is_plain_name args ≡ true → AreSealed StandsNamed asks 1 args args
one_sealed asks past [] is = absurd (false≢true is)
one_sealed asks past (a ∷ args) is = elim (or_cases (is_plain_name a) (list_any is_plain_name args) is) [
  | inl here ↦ sealed {run = []} (record { unasked = ap (λ b. b || false) (past a here); unnamed = past a here; alike = here }) (all_same asks args)
  | inr later ↦ same a (one_sealed asks past args later)
]

some_named : (asks : Segment → Bool) (count : ℕ) (args others : List Segment) → AreSealed StandsNamed asks count args others → 0 < count → list_any is_plain_name others ≡ true
some_named asks _ _ _ all_done some = absurd (omega (arith, some))
some_named asks _ _ _ (same {others} a rest) some = or_later (is_plain_name a) (list_any is_plain_name others) (some_named asks _ _ _ rest some)
  where
    or_later : (a b : Bool) → b ≡ true → (a || b) ≡ true
    or_later true b is = refl
    or_later false b is = is
some_named asks _ _ _ (sealed {others} stands rest) some = ap (λ b. b || list_any is_plain_name others) stands.alike

abbrev pub slot_named : Slot Statement → Bool
slot_named slot = map_or true has_plain_name slot

abbrev has_named : Option Rule → Bool
has_named o = map_or false (λ (r : Rule). list_any is_plain_name r.args) o

sealed_itself : (asks : Segment → Bool) → ((a : Segment) → is_plain_name a ≡ true → asks a ≡ false) → (t : Statement) → has_plain_name t ≡ true → SlotsSealed StandsNamed asks 1 (Some t) (Some t)
sealed_itself asks past t named = by (rule_of t.nodes) refl named
  where
    by : (o : Option Rule) → rule_of t.nodes ≡ o → has_named o ≡ true → SlotsSealed StandsNamed asks 1 (Some t) (Some t)
    by None is named = absurd (false≢true named)
    by (Some r) is named = both_rules (record { rule = r; args = r.args; read = is; read_sealed = is; are_sealed = one_sealed asks past r.args named; rest = refl })

named_left : (asks : Segment → Bool) (x y : Slot Statement) → SlotsSealed StandsNamed asks 1 x y → slot_named y ≡ true
named_left asks _ _ both_empty = refl
named_left asks _ _ (both_rules {s} {t} is) = ap has_named is.read_sealed ∙ some_named asks 1 is.rule.args is.args is.are_sealed (omega arith)

name_left : (home : Package) (c : Command) → leaves_name c ≡ true → (x : Slot Statement) → slot_named x ≡ true → slot_named (after c home x) ≡ true
name_left home (Print fields) leaves x named = named
name_left home c leaves x named = by x named
  where
    looks : LooksPast (looks_at c home)
    looks = looks_past home c leaves

    unseen : NotSeen StandsNamed looks.looks c home
    unseen = not_seen StandsNamed looks.looks looks.looks c home looks.is (λ a free. free)

    by : (x : Slot Statement) → slot_named x ≡ true → slot_named (after c home x) ≡ true
    by None named = named_left looks.looks _ _ (unseen.left 1 None None both_empty)
    by (Some t) named = named_left looks.looks _ _ (unseen.left 1 (Some t) (Some t) (sealed_itself looks.looks looks.past t named))

-- a slot of which the name stays
abbrev StaysNamed : Slot Statement → Slot Statement → Type 0
StaysNamed x y = (x ≡ y) × (slot_named y ≡ true)

keeps_named : (home : Package) (c : Command) → leaves_name c ≡ true → KeepsAlike (meaning home) (changes home) (fails_on home) StaysNamed c
keeps_named home c leaves = record {
  said = λ x y are. ap (λ z. (meaning home).says c z) are.0;
  changed = λ x y are. ap (changes home c) are.0;
  failed = λ x y are. ap (fails_on home c) are.0;
  after = λ x y are. (ap (after c home) are.0, name_left home c leaves y are.1);
}

-- the whole script leaves it
pub name_stays : (home : Package) (passes : Script) → leave_names passes ≡ true → (t : Statement) → has_plain_name t ≡ true → slot_named (slot_after (meaning home) passes (Some t)) ≡ true
name_stays home passes leave t named =
    let keep = passes_where (meaning home) (changes home) (fails_on home) StaysNamed leaves_name (λ target x y are. ap (λ z. (meaning home).marks target z) are.0) (keeps_named home) passes leave in
    (like_after (meaning home) (changes home) (fails_on home) StaysNamed passes keep (Some t) (Some t) (refl, named)).1
