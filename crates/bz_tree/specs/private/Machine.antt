-- For private clauses: the recognizer of the grammar, which goes over the nodes of a segment once.
use Rattle.std.specs.Prelude.{ℕ, List, Bool, true, false, not, ◌&&◌, ◌||◌, if◌then◌else◌}
use Rattle.bz_token.specs.declared.token.Kind.{Kind}
use Rattle.bz_tree.specs.declared.tree.GroupKind.{GroupKind}
use Rattle.bz_tree.specs.declared.tree.GroupKind.TheVariants.{Call, RuleCall, Load, Paren, List as ListKind, Index, Dict, ListComp, DictComp}
use Rattle.bz_tree.specs.declared.grammar.role.Role.{Role}
use Rattle.bz_tree.specs.declared.grammar.role.Role.TheVariants.{Name, Number, Value, Bracket, Suffix, Dot, Comma, Colon, Equals, Augmented, If, Else, For, In, Not, Tilde, Sum, Star, Stars, Operator, LoadWord, LoadGroup, Stray}
use Rattle.bz_tree.specs.declared.grammar.stage.Goal.{Goal}
use Rattle.bz_tree.specs.declared.grammar.stage.Goal.TheVariants.{Left, Right, Alone, Key, Element, EntryKey, From, To, Step, Target, Clause}
use Rattle.bz_tree.specs.declared.grammar.stage.Stage.{Stage}
use Rattle.bz_tree.specs.declared.grammar.stage.Stage.TheVariants.{Refused, Statement, Wants, Has, HasNumber, Names, Excludes, Begins, Argument, Keyword, Loads, Text, LoadArgument, Renames, Done}
use Rattle.bz_tree.specs.Kinds.{is_one, is_load_word}
use Rattle.bz_tree.specs.Tree.{Item, leaf, group, Items, no_items, item, Segs, no_segs, seg}
use Rattle.bz_tree.specs.private.Productions.{leaf_role}

-- where a goal may end
abbrev pub ends : Goal → Bool
ends Key = false
ends Element = false
ends EntryKey = false
ends Target = false
ends _ = true

abbrev pub may_end : Stage → Bool
may_end (Has goal condition) = not condition && ends goal
may_end (HasNumber goal condition) = not condition && ends goal
may_end (Begins To) = true
may_end (Begins Step) = true
may_end Statement = true
may_end Keyword = true
may_end Done = true
may_end _ = false

abbrev pub is_target : Goal → Bool
is_target Target = true
is_target _ = false

-- a stage of chains: a Target has none
abbrev pub in_chain : Goal → Stage → Stage
in_chain goal next = if is_target goal then Refused else next

-- what stands after a goal: after its Test, its Primary (Target), or its Chain (Clause)
abbrev pub after_goal : Goal → Role → Stage
after_goal Left Comma = Wants Left false
after_goal Left Equals = Wants Right false
after_goal Left Augmented = Wants Right false
after_goal Right Comma = Wants Right false
after_goal Key Colon = Wants Alone false
after_goal EntryKey Colon = Wants Element false
after_goal From Colon = Begins To
after_goal To Colon = Begins Step
after_goal Element For = Wants Target false
after_goal Clause For = Wants Target false
after_goal Target Comma = Wants Target false
after_goal Target In = Wants Clause false
after_goal Clause If = Wants Clause false
after_goal goal If = in_chain goal (Wants goal true)
after_goal _ _ = Refused

-- `true`: after the condition of a conditional
abbrev pub leaves : Goal → Bool → Role → Stage
leaves goal false r = after_goal goal r
leaves goal true Else = Wants goal false
leaves goal true _ = Refused

abbrev pub next_wanted : Goal → Bool → Role → Stage
next_wanted goal condition Name = Has goal condition
next_wanted goal condition Value = Has goal condition
next_wanted goal condition Bracket = Has goal condition
next_wanted goal condition Number = HasNumber goal condition
next_wanted goal condition Sum = in_chain goal (Wants goal condition)
next_wanted goal condition Tilde = in_chain goal (Wants goal condition)
next_wanted goal condition Not = in_chain goal (Wants goal condition)
next_wanted goal condition _ = Refused

abbrev pub next_after : Goal → Bool → Role → Stage
next_after goal condition Dot = Names goal condition
next_after goal condition Suffix = Has goal condition
next_after goal condition Sum = in_chain goal (Wants goal condition)
next_after goal condition Star = in_chain goal (Wants goal condition)
next_after goal condition Operator = in_chain goal (Wants goal condition)
next_after goal condition In = if is_target goal then leaves goal condition In else Wants goal condition
next_after goal condition Not = in_chain goal (Excludes goal condition)
next_after goal condition r = leaves goal condition r

abbrev pub next : Stage → Role → Stage
next (Wants goal condition) r = next_wanted goal condition r
next (Has goal condition) r = next_after goal condition r
next (HasNumber goal condition) Dot = Refused
next (HasNumber goal condition) r = next_after goal condition r
next (Names goal condition) Name = Has goal condition
next (Excludes goal condition) In = Wants goal condition
next (Begins goal) Colon = after_goal goal Colon
next (Begins goal) r = next_wanted goal false r
next Argument Star = Wants Alone false
next Argument Stars = Wants Alone false
next Argument Name = Keyword
next Argument r = next_wanted Alone false r
next Keyword Equals = Wants Alone false
next Keyword r = next_after Alone false r
next Statement LoadWord = Loads
next Statement r = next_wanted Left false r
next Loads LoadGroup = Done
next Text Value = Done
next LoadArgument Value = Done
next LoadArgument Name = Renames
next Renames Equals = Text
next _ _ = Refused

-- the stage in which the first segment of a group begins, and that in which one begins after one that began in this stage
abbrev pub begin : GroupKind → Stage
begin Call = Argument
begin RuleCall = Argument
begin Load = Text
begin Paren = Wants Alone false
begin ListKind = Wants Alone false
begin Index = Begins From
begin Dict = Wants Key false
begin ListComp = Wants Element false
begin DictComp = Wants EntryKey false

abbrev pub later : Stage → Stage
later Text = LoadArgument
later stage = stage

-- what a group whose segments are in the grammar is
abbrev pub group_role : GroupKind → Role
group_role Call = Suffix
group_role RuleCall = Suffix
group_role Index = Suffix
group_role Load = LoadGroup
group_role _ = Bracket

abbrev pub is_single : Segs → Bool
is_single no_segs = false
is_single (seg before nodes beside no_segs) = true
is_single (seg before nodes beside (seg more others last segs)) = false

-- a group of this kind may have so many segments
abbrev pub is_whole : GroupKind → Segs → Bool
is_whole Load no_segs = false
is_whole kind segs = not (is_one kind) || is_single segs

-- what a token is to the recognizer, to which the keyword `load` is a role of its own
abbrev pub kind_role : Kind → List ℕ → Role
kind_role kind text = if is_load_word (leaf kind text) then LoadWord else leaf_role kind text

abbrev mutual
  -- these items lead from the stage to an end
  pub accepts : Stage → Items → Bool
  accepts stage no_items = may_end stage
  accepts stage (item x xs) = accepts (next stage (role_of x)) xs

  pub role_of : Item → Role
  role_of (leaf kind text) = kind_role kind text
  role_of (group kind segs one_comma end) = if is_whole kind segs && each (begin kind) segs then group_role kind else Stray

  -- each segment does
  pub each : Stage → Segs → Bool
  each stage no_segs = true
  each stage (seg before nodes beside segs) = accepts stage nodes && each (later stage) segs

-- the nodes of a statement
abbrev pub is_statement : Items → Bool
is_statement xs = accepts Statement xs
