-- Rules with sealed arguments: arguments that no command of a script looks at are hidden behind others.
-- Begin with `attributes_of`, `IsSealed` and `NotSeen`.
use Rattle.std.specs.Prelude.{◌≡◌, ◌||◌, ℕ, ◌+◌, List, [], ◌∷◌, ◌++◌, length, Bool, false, ◌&&◌, Option, None, Some, codes, option_map, suc, zero}
use Rattle.std.specs.List.{flat_map, list_any}
use Rattle.bz_label.specs.declared.arguments.Attributes.TheVariants.{Every, Named}
use Rattle.bz_label.specs.declared.arguments.Chosen.TheVariants.{Values}
use Rattle.bz_label.specs.declared.arguments.Commented.{Commented}
use Rattle.bz_label.specs.declared.arguments.Commented.TheVariants.{Rule as Above, Attribute, Value}
use Rattle.bz_rule.specs.declared.commands.field.Field.{Field}
use Rattle.bz_rule.specs.declared.commands.field.Field.TheVariants.{Label, ValueOf}
use Rattle.bz_label.specs.declared.arguments.Setting.{Setting}
use Rattle.bz_label.specs.declared.arguments.Setting.TheVariants.{ToKind, ToValues}
use Rattle.bz_label.specs.Labels.{Package, Target}
use Rattle.bz_tree.specs.Tree.{Segment, Statement}
use Rattle.bz_attribute.specs.Marks.{marks}
use Rattle.bz_attribute.specs.Rules.{Rule, is_named, name_in, rule_of}
use Rattle.bz_attribute.specs.Texts.{shown_text}
use Rattle.bz_attribute.specs.Lists.{is_attribute}
use Rattle.bz_attribute.specs.Reports.{chooses}
use Rattle.bz_rule.specs.Print.{fields_of}
use Rattle.bz_rule.specs.Reports.{replaces_in}
use Rattle.bz_token.specs.Common.{map_or}
use Rattle.bz_rule.specs.Commands.{Command, after, done_of}
use Rattle.bz_rule.specs.declared.command.Action.TheVariants.{Add, Comment, Delete, Move, Print, Remove, Rename, Replace, Set, SetIfAbsent}

abbrev pub attributes_set : Setting → List (List ℕ)
attributes_set (ToKind kind) = []
attributes_set (ToValues attr values) = attr ∷ []

abbrev pub attributes_commented : Commented → List (List ℕ)
attributes_commented Above = []
attributes_commented (Attribute attr) = attr ∷ []
attributes_commented (Value attr value) = attr ∷ []

-- a label is printed by the name; the kind and lines are of no attribute
abbrev pub attributes_printed : Field → List (List ℕ)
attributes_printed Label = codes "name" ∷ []
attributes_printed (ValueOf attr) = attr ∷ []
attributes_printed _ = []

-- The attributes that a command mentions: it looks at no argument of another name, and changes none, but those with a value that it
-- seeks in all. None: it may look at each.
abbrev pub attributes_of : Command → Option (List (List ℕ))
attributes_of (Add attr values) = Some (attr ∷ [])
attributes_of (Remove (Named attr) values) = Some (attr ∷ [])
attributes_of (Set setting) = Some (attributes_set setting)
attributes_of (SetIfAbsent attr values) = Some (attr ∷ [])
attributes_of Delete = Some []
attributes_of (Rename old new) = Some (old ∷ new ∷ [])
attributes_of (Move old new moved) = Some (old ∷ new ∷ [])
attributes_of (Replace (Named attr) old new) = Some (attr ∷ [])
attributes_of (Comment place text) = Some (attributes_commented place)
attributes_of (Print fields) = Some (flat_map attributes_printed (fields_of fields))
attributes_of (Remove Every (v ∷ values)) = Some []
attributes_of (Replace Every old new) = Some []
attributes_of _ = None

-- the values that a command with `*` seeks in all attributes
abbrev pub values_sought : Command → List (List ℕ)
values_sought (Remove Every values) = values
values_sought (Replace Every old new) = old ∷ []
values_sought _ = []

-- one of the names is that of the argument
abbrev pub is_among : List (List ℕ) → Segment → Bool
is_among names a = list_any (λ name. is_named name a) names

-- an argument has one of the names, or one of the values in a list
abbrev pub is_asked_for : List (List ℕ) → List (List ℕ) → Package → Segment → Bool
is_asked_for names values home a = is_among names a || chooses home (Values values) a

-- The arguments that a command looks at: it sees no other, and changes none. With `*`, those in which it changes a value. None: it
-- may look at each.
abbrev pub looks_at : Command → Package → Option (Segment → Bool)
looks_at (Remove Every (v ∷ values)) home = Some (λ a. is_attribute a && chooses home (Values (v ∷ values)) a)
looks_at (Replace Every old new) home = Some (λ a. is_attribute a && replaces_in home old new a)
looks_at c home = option_map (λ names. is_among names) (attributes_of c)

-- all that one test finds, the other finds too
abbrev pub Covers : (Segment → Bool) → (Segment → Bool) → Type 0
Covers asks looks = (a : Segment) → asks a ≡ false → looks a ≡ false

-- A sealed argument stands for a run of others: none of them is asked for, nor is it, and it is like them.
pub record StandsFor (like : List Segment → Segment → Type 0) (asks : Segment → Bool) (run : List Segment) (sealed : Segment) : Type 0 where
  pub unasked : list_any asks run ≡ false
  pub unnamed : asks sealed ≡ false
  pub alike : like run sealed

-- Arguments, and the same where some of them, so many, are sealed: runs of neighbours, each as one.
pub data AreSealed (like : List Segment → Segment → Type 0) (asks : Segment → Bool) : ℕ → List Segment → List Segment → Type 0 where
  all_done : AreSealed like asks zero [] []
  -- an argument as it is
  same : {count : ℕ} {args others : List Segment} (a : Segment) → AreSealed like asks count args others → AreSealed like asks count (a ∷ args) (a ∷ others)
  sealed : {count : ℕ} {args others run : List Segment} {a t : Segment} → StandsFor like asks (a ∷ run) t → AreSealed like asks count args others
      → AreSealed like asks (suc (length run + count)) (a ∷ (run ++ args)) (t ∷ others)

-- A rule, and the same rule where so many of its arguments are sealed.
pub record IsSealed (like : List Segment → Segment → Type 0) (asks : Segment → Bool) (count : ℕ) (s t : Statement) : Type 0 where
  pub rule : Rule
  pub args : List Segment
  pub read : rule_of s.nodes ≡ Some rule
  pub read_sealed : rule_of t.nodes ≡ Some (record rule { args = args })
  pub are_sealed : AreSealed like asks count rule.args args
  -- the comments, the class and the lines are the same
  pub rest : t ≡ record s { nodes = t.nodes }

-- slots with nothing in both, or with a rule and the same rule where so many of its arguments are sealed
pub data SlotsSealed (like : List Segment → Segment → Type 0) (asks : Segment → Bool) (count : ℕ) : Option Statement → Option Statement → Type 0 where
  both_empty : SlotsSealed like asks count None None
  both_rules : {s t : Statement} → IsSealed like asks count s t → SlotsSealed like asks count (Some s) (Some t)

-- The command does not see what is sealed: it tells the same, does the same, and leaves each sealed argument as it is.
pub record NotSeen (like : List Segment → Segment → Type 0) (asks : Segment → Bool) (c : Command) (home : Package) : Type 0 where
  pub told : (count : ℕ) (slot other : Option Statement) → SlotsSealed like asks count slot other → done_of c home slot ≡ done_of c home other
  pub left : (count : ℕ) (slot other : Option Statement) → SlotsSealed like asks count slot other → SlotsSealed like asks count (after c home slot) (after c home other)

-- the name of the rule that a statement is
abbrev pub name_told : Statement → Option (List ℕ)
name_told s = map_or None (λ r. name_in r.args) (rule_of s.nodes)

-- Each target marks both or neither, and both are shown alike, by the same name.
pub record AreShownAlike (s t : Statement) : Type 0 where
  pub marked : (target : Target) → marks target s ≡ marks target t
  pub shown : (home : Package) → shown_text home s ≡ shown_text home t
  pub named : name_told s ≡ name_told t
