-- What the recognizer accepts is in the grammar.
use Rattle.std.proofs.Common.{arith, ◌≡◌, ℕ, List, Bool, true, false, not, ◌&&◌, cond, refl, sym, ap, subst, ◌∙◌, ◌⊎◌, inl, inr, Option}
use Rattle.std.proofs.lemmas.Bool.{false≢true, and_parts}
use Rattle.bz_token.specs.declared.token.Kind.{Kind}
use Rattle.bz_token.specs.declared.token.Kind.TheVariants.{Keyword as KeywordToken, Operator as OperatorToken}
use Rattle.bz_tree.specs.declared.tree.GroupKind.{GroupKind}
use Rattle.bz_tree.specs.declared.tree.GroupKind.TheVariants.{Call, RuleCall, Load, Paren, List as ListKind, Index, Dict, ListComp, DictComp}
use Rattle.bz_tree.specs.declared.grammar.role.Role.{Role}
use Rattle.bz_tree.specs.declared.grammar.role.Role.TheVariants.{Name, Number, Value, Bracket, Suffix, Dot, Comma, Colon, Equals, Augmented, If, Else, For, In, Not, Tilde, Sum, Star, Stars, Operator, LoadWord, LoadGroup, Stray}
use Rattle.bz_tree.specs.declared.grammar.stage.Goal.{Goal}
use Rattle.bz_tree.specs.declared.grammar.stage.Goal.TheVariants.{Left, Right, Alone, Key, Element, EntryKey, From, To, Step, Target, Clause}
use Rattle.bz_tree.specs.declared.grammar.stage.Stage.{Stage}
use Rattle.bz_tree.specs.declared.grammar.stage.Stage.TheVariants.{Refused, Statement, Wants, Has, HasNumber, Names, Excludes, Begins, Argument, Keyword, Loads, Text, LoadArgument, Renames, Done}
use Rattle.bz_tree.specs.Tree.{Item, leaf, group, Items, no_items, item, Segs, no_segs, seg}
use Rattle.bz_tree.specs.private.Productions.{token_role, is_prefix, is_operator, is_star, is_assignment, join, is_dot_role, begins_dot, IsBinOp, operator, not_in, IsTest, plain, conditional, IsChain, single, binary, IsTerm, primary, unary, IsPrimary, number, operand, AreSuffixes, no_suffix, member, suffix, IsSuffix, call, index, IsOperand, ident, text, paren, list, dict, list_comp, dict_comp, AreTests, no_test, one_test, AreArgs, no_arg, one_arg, IsArg, positional, keyword, starred, AreEntries, no_entry, one_entry, IsEntry, entry, IsElement, element, IsEntryElement, entry_element, IsFor, for, AreTargets, last_target, target, AreClauses, no_clause, for_clause, if_clause, IsIndex, at, slice, IsRange, upper, stepped, IsOptional, nothing, some}
use Rattle.bz_tree.specs.private.Machine.{ends, is_target, in_chain, after_goal, next_wanted, next_after, next, accepts, role_of, each, is_whole, group_role, begin}
use Rattle.bz_tree.specs.Kinds.{is_load_word}
use Rattle.bz_tree.specs.private.Productions.{leaf_role, word_role, operator_role, IsExpr, last_test, test, IsString, string, IsLoadArg, loaded, renamed, AreLoadArgs, no_load_arg, load_arg, load, IsStatement, comments, load_statement, expression, assignment}
use Rattle.bz_tree.specs.private.Machine.{may_end, is_single, leaves, later}
use Rattle.bz_tree.proofs.Recognizer.Accepted.{join_empty, join_assoc}

-- the operators and operands after the first of a chain
data ChainRest : Items → Type 0 where
  no_rest : ChainRest no_items
  operated : {xs b : Items} (o : Items) → xs ≡ join o b → IsBinOp o → IsChain b → ChainRest xs

chain_from : (t q : Items) → IsTerm t → ChainRest q → IsChain (join t q)
chain_from t q first no_rest = subst IsChain (sym (join_empty t)) (single first)
chain_from t q first (operated o is op more) = binary o (ap (join t) is) first op more

-- the condition and what follows it in a conditional
data TestRest : Items → Type 0 where
  no_condition : TestRest no_items
  condition : {xs b c : Items} (i e : Item) → xs ≡ item i (join b (item e c)) → token_role i ≡ If → IsChain b → token_role e ≡ Else → IsTest c → TestRest xs

test_from : (a q : Items) → IsChain a → TestRest q → IsTest (join a q)
test_from a q first no_condition = subst IsTest (sym (join_empty a)) (plain first)
test_from a q first (condition i e is ri second re third) = conditional i e (ap (join a) is) first ri second re third

-- an Expr, or two and an assignment operator_text
data Sides : Items → Type 0 where
  one_side : {xs : Items} → IsExpr xs → Sides xs
  two_sides : {xs a b : Items} (s : Item) → xs ≡ join a (item s b) → IsExpr a → is_assignment (token_role s) ≡ true → IsExpr b → Sides xs

data FollowLeft : Items → Type 0 where
  left_end : FollowLeft no_items
  left_comma : {xs b : Items} (c : Item) → xs ≡ item c b → token_role c ≡ Comma → Sides b → FollowLeft xs
  left_operator : {xs b : Items} (s : Item) → xs ≡ item s b → is_assignment (token_role s) ≡ true → IsExpr b → FollowLeft xs

data FollowRight : Items → Type 0 where
  right_end : FollowRight no_items
  right_comma : {xs b : Items} (c : Item) → xs ≡ item c b → token_role c ≡ Comma → IsExpr b → FollowRight xs

-- a colon and what stands after it
record AtColon (Preceding : Items → Type 0) (xs : Items) : Type 0 where
  colon : Item
  after : Items
  is : xs ≡ item colon after
  role : token_role colon ≡ Colon
  means : Preceding after

-- a Chain and the clauses after it
record InClause (xs : Items) : Type 0 where
  chain : Items
  more : Items
  is : xs ≡ join chain more
  is_chain : IsChain chain
  clauses : AreClauses more

-- variables, `in`, a Chain and the clauses after it
record TargetsIn (xs : Items) : Type 0 where
  targets : Items
  operator_text : Item
  after : Items
  is : xs ≡ join targets (item operator_text after)
  are : AreTargets targets
  role : token_role operator_text ≡ In
  clause : InClause after

data FollowTarget : Items → Type 0 where
  target_comma : {xs b : Items} (c : Item) → xs ≡ item c b → token_role c ≡ Comma → TargetsIn b → FollowTarget xs
  target_in : {xs b : Items} (i : Item) → xs ≡ item i b → token_role i ≡ In → InClause b → FollowTarget xs

-- what follows the Test, Primary (Target) or Chain (Clause) of a part
abbrev Follow : Goal → Items → Type 0
Follow Left xs = FollowLeft xs
Follow Right xs = FollowRight xs
Follow Alone xs = xs ≡ no_items
Follow Key xs = AtColon IsTest xs
Follow Element xs = IsFor xs
Follow EntryKey xs = AtColon IsElement xs
Follow From xs = (xs ≡ no_items) ⊎ AtColon IsRange xs
Follow To xs = (xs ≡ no_items) ⊎ AtColon IsOptional xs
Follow Step xs = xs ≡ no_items
Follow Target xs = FollowTarget xs
Follow Clause xs = AreClauses xs

abbrev Head : Goal → Items → Type 0
Head Target xs = IsPrimary xs
Head Clause xs = IsChain xs
Head _ xs = IsTest xs

-- from the start of a part on
record Whole (p : Goal) (xs : Items) : Type 0 where
  head : Items
  rest : Items
  is : xs ≡ join head rest
  is_head : Head p head
  follow : Follow p rest

record TestTail (p : Goal) (xs : Items) : Type 0 where
  tail : Items
  rest : Items
  is : xs ≡ join tail rest
  is_tail : TestRest tail
  follow : Follow p rest

-- after a chain (in a Target, after a primary)
abbrev Tail : Goal → Items → Type 0
Tail Target xs = FollowTarget xs
Tail Clause xs = AreClauses xs
Tail p xs = TestTail p xs

record AtElse (p : Goal) (xs : Items) : Type 0 where
  operator_text : Item
  after : Items
  is : xs ≡ item operator_text after
  role : token_role operator_text ≡ Else
  whole : Whole p after

abbrev Preceding : Goal → Bool → Items → Type 0
Preceding p false xs = Tail p xs
Preceding p true xs = AtElse p xs

abbrev ChainIn : Goal → Items → Type 0
ChainIn Target xs = IsPrimary xs
ChainIn _ xs = IsChain xs

abbrev RestIn : Goal → Items → Type 0
RestIn Target xs = xs ≡ no_items
RestIn _ xs = ChainRest xs

record Wanted (p : Goal) (c : Bool) (xs : Items) : Type 0 where
  chain : Items
  rest : Items
  is : xs ≡ join chain rest
  is_chain : ChainIn p chain
  after : Preceding p c rest

-- after an operand; a dot may come first
record Had (p : Goal) (c : Bool) (dot : Bool) (xs : Items) : Type 0 where
  suffixes : Items
  ops : Items
  rest : Items
  is : xs ≡ join suffixes (join ops rest)
  are_suffixes : AreSuffixes suffixes
  bare : dot ≡ false → begins_dot suffixes ≡ false
  is_rest : RestIn p ops
  after : Preceding p c rest

record Named (p : Goal) (c : Bool) (xs : Items) : Type 0 where
  name : Item
  after : Items
  is : xs ≡ item name after
  role : token_role name ≡ Name
  had : Had p c true after

record Excluded (p : Goal) (c : Bool) (xs : Items) : Type 0 where
  operator_text : Item
  after : Items
  is : xs ≡ item operator_text after
  role : token_role operator_text ≡ In
  wanted : Wanted p c after

abbrev Begun : Goal → Items → Type 0
Begun From xs = IsIndex xs
Begun To xs = IsRange xs
Begun Step xs = IsOptional xs
Begun _ xs = Unit {0}

data Keyed : Items → Type 0 where
  with_value : {xs : Items} (e : Item) → token_role e ≡ Equals → IsTest xs → Keyed (item e xs)
  without_value : {xs : Items} → Had Alone false true xs → Keyed xs

-- the parts of a load
data IsLoadGroup : Item → Type 0 where
  load_group : {before : List (List ℕ)} {nodes : Items} {beside : Option (List ℕ)} {segs : Segs} {one_comma : Bool} {end : List (List ℕ)} → IsString nodes → AreLoadArgs segs → IsLoadGroup (group Load (seg before nodes beside segs) one_comma end)

data AfterLoad : Items → Type 0 where
  after_load : {g : Item} → IsLoadGroup g → AfterLoad (item g no_items)

data Renamed : Items → Type 0 where
  value : {e : Item} {xs : Items} → token_role e ≡ Equals → IsString xs → Renamed (item e xs)

-- what stands from a stage on
abbrev Means : Stage → Items → Type 0
Means Refused xs = ⊥
Means (Wants p c) xs = Wanted p c xs
Means (Has p c) xs = Had p c true xs
Means (HasNumber p c) xs = Had p c false xs
Means (Names p c) xs = Named p c xs
Means (Excludes p c) xs = Excluded p c xs
Means (Begins p) xs = Begun p xs
Means Argument xs = IsArg xs
Means Keyword xs = Keyed xs
Means Statement xs = IsStatement xs
Means Loads xs = AfterLoad xs
Means Text xs = IsString xs
Means LoadArgument xs = IsLoadArg xs
Means Renames xs = Renamed xs
Means Done xs = xs ≡ no_items

-- what a node of a role is
abbrev RoleMeans : Role → Item → Type 0
RoleMeans Bracket x = IsOperand x
RoleMeans LoadWord x = is_load_word x ≡ true
RoleMeans LoadGroup x = IsLoadGroup x
RoleMeans Suffix x = IsSuffix x
RoleMeans r x = token_role x ≡ r

-- a part without its stages
wanted_whole : (p : Goal) (xs : Items) → Wanted p false xs → Whole p xs
wanted_whole Target xs w = record { head = w.chain; rest = w.rest; is = w.is; is_head = w.is_chain; follow = w.after }
wanted_whole Clause xs w = record { head = w.chain; rest = w.rest; is = w.is; is_head = w.is_chain; follow = w.after }
wanted_whole _ xs w = record { head = join w.chain w.after.tail; rest = w.after.rest; is = w.is ∙ ap (join w.chain) w.after.is ∙ sym (join_assoc w.chain w.after.tail w.after.rest); is_head = test_from w.chain w.after.tail w.is_chain w.after.is_tail; follow = w.after.follow }

at_empty : (xs t r : Items) → xs ≡ join t r → r ≡ no_items → t ≡ xs
at_empty xs t r is empty = sym (is ∙ ap (join t) empty ∙ join_empty t)

sides_with : (xs t r : Items) → xs ≡ join t r → IsTest t → FollowLeft r → Sides xs
sides_with xs t r is first left_end = one_side (last_test (subst IsTest (at_empty xs t no_items is refl) first))
sides_with xs t r is first (left_comma c e comma (one_side more)) = one_side (test c (is ∙ ap (join t) e) first comma more)
sides_with xs t r is first (left_comma {xs = ys} {b = zs} c e comma (two_sides {xs = us} {a} {b} s split left operator_text right)) =
    two_sides {a = join t (item c a)} s (is ∙ ap (join t) (e ∙ ap (item c) split) ∙ sym (join_assoc t (item c a) (item s b))) (test c refl first comma left) operator_text right
sides_with xs t r is first (left_operator s e operator_text right) = two_sides s (is ∙ ap (join t) e) (last_test first) operator_text right

sides_of : (xs : Items) → Whole Left xs → Sides xs
sides_of xs w = sides_with xs w.head w.rest w.is w.is_head w.follow

expr_with : (xs t r : Items) → xs ≡ join t r → IsTest t → FollowRight r → IsExpr xs
expr_with xs t r is first right_end = last_test (subst IsTest (at_empty xs t no_items is refl) first)
expr_with xs t r is first (right_comma c e comma more) = test c (is ∙ ap (join t) e) first comma more

expr_of : (xs : Items) → Whole Right xs → IsExpr xs
expr_of xs w = expr_with xs w.head w.rest w.is w.is_head w.follow

test_of : (xs : Items) → Whole Alone xs → IsTest xs
test_of xs w = subst IsTest (at_empty xs w.head w.rest w.is w.follow) w.is_head

step_of : (xs : Items) → Whole Step xs → IsTest xs
step_of xs w = subst IsTest (at_empty xs w.head w.rest w.is w.follow) w.is_head

entry_of : (xs : Items) → Whole Key xs → IsEntry xs
entry_of xs w = entry w.follow.colon (w.is ∙ ap (join w.head) w.follow.is) w.is_head w.follow.role w.follow.means

element_of : (xs : Items) → Whole Element xs → IsElement xs
element_of xs w = element w.is w.is_head w.follow

entry_element_of : (xs : Items) → Whole EntryKey xs → IsEntryElement xs
entry_element_of xs w = entry_element w.follow.colon (w.is ∙ ap (join w.head) w.follow.is) w.is_head w.follow.role w.follow.means

index_with : (xs t r : Items) → xs ≡ join t r → IsTest t → (r ≡ no_items) ⊎ AtColon IsRange r → IsIndex xs
index_with xs t r is first (inl empty) = at (subst IsTest (at_empty xs t r is empty) first)
index_with xs t r is first (inr b) = slice b.colon (is ∙ ap (join t) b.is) (some first) b.role b.means

range_with : (xs t r : Items) → xs ≡ join t r → IsTest t → (r ≡ no_items) ⊎ AtColon IsOptional r → IsRange xs
range_with xs t r is first (inl empty) = upper (some (subst IsTest (at_empty xs t r is empty) first))
range_with xs t r is first (inr b) = stepped b.colon (is ∙ ap (join t) b.is) (some first) b.role b.means

begun_of : (p : Goal) (xs : Items) → Whole p xs → Begun p xs
begun_of From xs w = index_with xs w.head w.rest w.is w.is_head w.follow
begun_of To xs w = range_with xs w.head w.rest w.is w.is_head w.follow
begun_of Step xs w = some (step_of xs w)
begun_of _ xs w = tt

targets_with : (xs t r : Items) → xs ≡ join t r → IsPrimary t → FollowTarget r → TargetsIn xs
targets_with xs t r is first (target_comma c e comma m) = record {
  targets = join t (item c m.targets);
  operator_text = m.operator_text;
  after = m.after;
  is = is ∙ ap (join t) (e ∙ ap (item c) m.is) ∙ sym (join_assoc t (item c m.targets) (item m.operator_text m.after));
  are = target c refl first comma m.are;
  role = m.role;
  clause = m.clause;
}
targets_with xs t r is first (target_in {xs = ys} {b} i e role m) = record { targets = t; operator_text = i; after = b; is = is ∙ ap (join t) e; are = last_target first; role = role; clause = m }

targets_of : (xs : Items) → Whole Target xs → TargetsIn xs
targets_of xs w = targets_with xs w.head w.rest w.is w.is_head w.follow

clause_of : (xs : Items) → Whole Clause xs → InClause xs
clause_of xs w = record { chain = w.head; more = w.rest; is = w.is; is_chain = w.is_head; clauses = w.follow }

for_of : (f : Item) (xs : Items) → token_role f ≡ For → TargetsIn xs → IsFor (item f xs)
for_of f xs role m = for f m.operator_text (ap (item f) (m.is ∙ ap (λ ys. join m.targets (item m.operator_text ys)) m.clause.is)) role m.are m.role m.clause.is_chain m.clause.clauses

-- after a Test: nothing more of it
tail : (p : Goal) (xs : Items) → Follow p xs → TestTail p xs
tail p xs follow = record { tail = no_items; rest = xs; is = refl; is_tail = no_condition; follow = follow }

-- the parts of a Test's condition
condition_tail : (p : Goal) (i : Item) (xs b r : Items) → xs ≡ join b r → IsChain b → (e : AtElse p r) → token_role i ≡ If → IsTest e.whole.head → TestTail p (item i xs)
condition_tail p i xs b r is second e ri third = record {
  tail = item i (join b (item e.operator_text e.whole.head));
  rest = e.whole.rest;
  is = ap (item i) (is ∙ ap (join b) (e.is ∙ ap (item e.operator_text) e.whole.is) ∙ sym (join_assoc b (item e.operator_text e.whole.head) e.whole.rest));
  is_tail = condition i e.operator_text refl ri second e.role third;
  follow = e.whole.follow;
}

left_tail : (x : Item) (xs : Items) (r : Role) → RoleMeans r x → Means (after_goal Left r) xs → TestTail Left (item x xs)
left_tail x xs Comma k m = tail Left (item x xs) (left_comma x refl k (sides_of xs (wanted_whole Left xs m)))
left_tail x xs Equals k m = tail Left (item x xs) (left_operator x refl (ap is_assignment k) (expr_of xs (wanted_whole Right xs m)))
left_tail x xs Augmented k m = tail Left (item x xs) (left_operator x refl (ap is_assignment k) (expr_of xs (wanted_whole Right xs m)))
left_tail x xs If k m = condition_tail Left x xs m.chain m.rest m.is m.is_chain m.after k m.after.whole.is_head
left_tail x xs _ k m = absurd m

right_tail : (x : Item) (xs : Items) (r : Role) → RoleMeans r x → Means (after_goal Right r) xs → TestTail Right (item x xs)
right_tail x xs Comma k m = tail Right (item x xs) (right_comma x refl k (expr_of xs (wanted_whole Right xs m)))
right_tail x xs If k m = condition_tail Right x xs m.chain m.rest m.is m.is_chain m.after k m.after.whole.is_head
right_tail x xs _ k m = absurd m

alone_tail : (x : Item) (xs : Items) (r : Role) → RoleMeans r x → Means (after_goal Alone r) xs → TestTail Alone (item x xs)
alone_tail x xs If k m = condition_tail Alone x xs m.chain m.rest m.is m.is_chain m.after k m.after.whole.is_head
alone_tail x xs _ k m = absurd m

step_tail : (x : Item) (xs : Items) (r : Role) → RoleMeans r x → Means (after_goal Step r) xs → TestTail Step (item x xs)
step_tail x xs If k m = condition_tail Step x xs m.chain m.rest m.is m.is_chain m.after k m.after.whole.is_head
step_tail x xs _ k m = absurd m

key_tail : (x : Item) (xs : Items) (r : Role) → RoleMeans r x → Means (after_goal Key r) xs → TestTail Key (item x xs)
key_tail x xs Colon k m = tail Key (item x xs) (record { colon = x; after = xs; is = refl; role = k; means = test_of xs (wanted_whole Alone xs m) })
key_tail x xs If k m = condition_tail Key x xs m.chain m.rest m.is m.is_chain m.after k m.after.whole.is_head
key_tail x xs _ k m = absurd m

entry_key_tail : (x : Item) (xs : Items) (r : Role) → RoleMeans r x → Means (after_goal EntryKey r) xs → TestTail EntryKey (item x xs)
entry_key_tail x xs Colon k m = tail EntryKey (item x xs) (record { colon = x; after = xs; is = refl; role = k; means = element_of xs (wanted_whole Element xs m) })
entry_key_tail x xs If k m = condition_tail EntryKey x xs m.chain m.rest m.is m.is_chain m.after k m.after.whole.is_head
entry_key_tail x xs _ k m = absurd m

from_tail : (x : Item) (xs : Items) (r : Role) → RoleMeans r x → Means (after_goal From r) xs → TestTail From (item x xs)
from_tail x xs Colon k m = tail From (item x xs) (inr (record { colon = x; after = xs; is = refl; role = k; means = m }))
from_tail x xs If k m = condition_tail From x xs m.chain m.rest m.is m.is_chain m.after k m.after.whole.is_head
from_tail x xs _ k m = absurd m

to_tail : (x : Item) (xs : Items) (r : Role) → RoleMeans r x → Means (after_goal To r) xs → TestTail To (item x xs)
to_tail x xs Colon k m = tail To (item x xs) (inr (record { colon = x; after = xs; is = refl; role = k; means = m }))
to_tail x xs If k m = condition_tail To x xs m.chain m.rest m.is m.is_chain m.after k m.after.whole.is_head
to_tail x xs _ k m = absurd m

element_tail : (x : Item) (xs : Items) (r : Role) → RoleMeans r x → Means (after_goal Element r) xs → TestTail Element (item x xs)
element_tail x xs For k m = tail Element (item x xs) (for_of x xs k (targets_of xs (wanted_whole Target xs m)))
element_tail x xs If k m = condition_tail Element x xs m.chain m.rest m.is m.is_chain m.after k m.after.whole.is_head
element_tail x xs _ k m = absurd m

target_tail : (x : Item) (xs : Items) (r : Role) → RoleMeans r x → Means (after_goal Target r) xs → FollowTarget (item x xs)
target_tail x xs Comma k m = target_comma x refl k (targets_of xs (wanted_whole Target xs m))
target_tail x xs In k m = target_in x refl k (clause_of xs (wanted_whole Clause xs m))
target_tail x xs _ k m = absurd m

clause_tail : (x : Item) (xs : Items) (r : Role) → RoleMeans r x → Means (after_goal Clause r) xs → AreClauses (item x xs)
clause_tail x xs For k m = for_clause (for_of x xs k (targets_of xs (wanted_whole Target xs m)))
clause_tail x xs If k m = let w = clause_of xs (wanted_whole Clause xs m) in if_clause x (ap (item x) w.is) k w.is_chain w.clauses
clause_tail x xs _ k m = absurd m

else_tail : (p : Goal) (x : Item) (xs : Items) (r : Role) → RoleMeans r x → Means (leaves p true r) xs → AtElse p (item x xs)
else_tail p x xs Else k m = record { operator_text = x; after = xs; is = refl; role = k; whole = wanted_whole p xs m }
else_tail p x xs _ k m = absurd m

leaves_means : (p : Goal) (c : Bool) (x : Item) (xs : Items) (r : Role) → RoleMeans r x → Means (leaves p c r) xs → Preceding p c (item x xs)
leaves_means p true x xs r k m = else_tail p x xs r k m
leaves_means Left false x xs r k m = left_tail x xs r k m
leaves_means Right false x xs r k m = right_tail x xs r k m
leaves_means Alone false x xs r k m = alone_tail x xs r k m
leaves_means Key false x xs r k m = key_tail x xs r k m
leaves_means Element false x xs r k m = element_tail x xs r k m
leaves_means EntryKey false x xs r k m = entry_key_tail x xs r k m
leaves_means From false x xs r k m = from_tail x xs r k m
leaves_means To false x xs r k m = to_tail x xs r k m
leaves_means Step false x xs r k m = step_tail x xs r k m
leaves_means Target false x xs r k m = target_tail x xs r k m
leaves_means Clause false x xs r k m = clause_tail x xs r k m

-- chains
unchained : (p : Goal) (s : Stage) (xs : Items) → Means (in_chain p s) xs → (is_target p ≡ false) × Means s xs
unchained Target s xs m = absurd m
unchained _ s xs m = (refl, m)

chain_prefix : (q : Item) (xs : Items) → is_prefix (token_role q) ≡ true → IsChain xs → IsChain (item q xs)
chain_prefix q xs is (single t) = single (unary is t)
chain_prefix q xs is (binary {xs = ys} {a} {b} o e t op more) = binary {a = item q a} o (ap (item q) e) (unary is t) op more

prefix_in : (p : Goal) (q : Item) (xs : Items) → is_target p ≡ false → is_prefix (token_role q) ≡ true → ChainIn p xs → ChainIn p (item q xs)
prefix_in Target q xs free is h = absurd (false≢true (sym free))
prefix_in _ q xs free is h = chain_prefix q xs is h

prefixed : (p : Goal) (c : Bool) (q : Item) (xs : Items) → is_prefix (token_role q) ≡ true → (is_target p ≡ false) × Wanted p c xs → Wanted p c (item q xs)
prefixed p c q xs is m = record { chain = item q m.1.chain; rest = m.1.rest; is = ap (item q) m.1.is; is_chain = prefix_in p q m.1.chain m.0 is m.1.is_chain; after = m.1.after }

chain_in : (p : Goal) (t q : Items) → IsPrimary t → RestIn p q → ChainIn p (join t q)
chain_in Target t q first rest = subst IsPrimary (sym (ap (join t) rest ∙ join_empty t)) first
chain_in _ t q first rest = chain_from t q (primary first) rest

operand_means : (p : Goal) (c d : Bool) (x : Item) (xs : Items) → (m : Had p c d xs) → IsPrimary (item x m.suffixes) → Wanted p c (item x xs)
operand_means p c d x xs m first = record {
  chain = join (item x m.suffixes) m.ops;
  rest = m.rest;
  is = ap (item x) m.is ∙ sym (join_assoc (item x m.suffixes) m.ops m.rest);
  is_chain = chain_in p (item x m.suffixes) m.ops first m.is_rest;
  after = m.after;
}

wanted_means : (p : Goal) (c : Bool) (x : Item) (xs : Items) (r : Role) → RoleMeans r x → Means (next_wanted p c r) xs → Wanted p c (item x xs)
wanted_means p c x xs Name k m = operand_means p c true x xs m (operand (ident k) m.are_suffixes)
wanted_means p c x xs Value k m = operand_means p c true x xs m (operand (text k) m.are_suffixes)
wanted_means p c x xs Bracket k m = operand_means p c true x xs m (operand k m.are_suffixes)
wanted_means p c x xs Number k m = operand_means p c false x xs m (number k m.are_suffixes (m.bare refl))
wanted_means p c x xs Sum k m = prefixed p c x xs (ap is_prefix k) (unchained p (Wants p c) xs m)
wanted_means p c x xs Tilde k m = prefixed p c x xs (ap is_prefix k) (unchained p (Wants p c) xs m)
wanted_means p c x xs Not k m = prefixed p c x xs (ap is_prefix k) (unchained p (Wants p c) xs m)
wanted_means p c x xs _ k m = absurd m

rest_in : (p : Goal) (o b : Items) → is_target p ≡ false → IsBinOp o → ChainIn p b → RestIn p (join o b)
rest_in Target o b free op more = absurd (false≢true (sym free))
rest_in _ o b free op more = operated o refl op more

no_rest_in : (p : Goal) → RestIn p no_items
no_rest_in Target = refl
no_rest_in _ = no_rest

-- an operator, and what stands after it
operator_had : (p : Goal) (c d : Bool) (o : Items) (xs : Items) → IsBinOp o → (is_target p ≡ false) × Wanted p c xs → Had p c d (join o xs)
operator_had p c d o xs op m = record {
  suffixes = no_items;
  ops = join o m.1.chain;
  rest = m.1.rest;
  is = ap (join o) m.1.is ∙ sym (join_assoc o m.1.chain m.1.rest);
  are_suffixes = no_suffix;
  bare = λ e. refl;
  is_rest = rest_in p o m.1.chain m.0 op m.1.is_chain;
  after = m.1.after;
}

excluded_had : (p : Goal) (c d : Bool) (x : Item) (xs : Items) → token_role x ≡ Not → (is_target p ≡ false) × Excluded p c xs → Had p c d (item x xs)
excluded_had p c d x xs k m =
    let h = operator_had p c d (item x (item m.1.operator_text no_items)) m.1.after (not_in k m.1.role) (m.0, m.1.wanted) in
    subst (Had p c d) (ap (item x) (sym m.1.is)) h

after_had : (p : Goal) (c d : Bool) (xs : Items) → Preceding p c xs → Had p c d xs
after_had p c d xs m = record { suffixes = no_items; ops = no_items; rest = xs; is = refl; are_suffixes = no_suffix; bare = λ e. refl; is_rest = no_rest_in p; after = m }

in_means : (p : Goal) (c d : Bool) (x : Item) (xs : Items) → token_role x ≡ In → Means (next_after p c In) xs → Had p c d (item x xs)
in_means Target c d x xs k m = after_had Target c d (item x xs) (leaves_means Target c x xs In k m)
in_means p c d x xs k m = operator_had p c d (item x no_items) xs (operator (ap is_operator k)) (refl, m)

suffix_bare : (x : Item) (xs : Items) → IsSuffix x → begins_dot (item x xs) ≡ false
suffix_bare x xs (call is args) = refl
suffix_bare x xs (index i) = refl

had_means : (p : Goal) (c d : Bool) (x : Item) (xs : Items) (r : Role) → (is_dot_role r ≡ true → d ≡ true) → RoleMeans r x → Means (next_after p c r) xs → Had p c d (item x xs)
had_means p c d x xs Dot fits k m = record {
  suffixes = item x (item m.name m.had.suffixes);
  ops = m.had.ops;
  rest = m.had.rest;
  is = ap (item x) (m.is ∙ ap (item m.name) m.had.is);
  are_suffixes = member k m.role m.had.are_suffixes;
  bare = λ e. absurd (false≢true (sym e ∙ fits refl));
  is_rest = m.had.is_rest;
  after = m.had.after;
}
had_means p c d x xs Suffix fits k m = record {
  suffixes = item x m.suffixes;
  ops = m.ops;
  rest = m.rest;
  is = ap (item x) m.is;
  are_suffixes = suffix k m.are_suffixes;
  bare = λ e. suffix_bare x m.suffixes k;
  is_rest = m.is_rest;
  after = m.after;
}
had_means p c d x xs Sum fits k m = operator_had p c d (item x no_items) xs (operator (ap is_operator k)) (unchained p (Wants p c) xs m)
had_means p c d x xs Star fits k m = operator_had p c d (item x no_items) xs (operator (ap is_operator k)) (unchained p (Wants p c) xs m)
had_means p c d x xs Operator fits k m = operator_had p c d (item x no_items) xs (operator (ap is_operator k)) (unchained p (Wants p c) xs m)
had_means p c d x xs In fits k m = in_means p c d x xs k m
had_means p c d x xs Not fits k m = excluded_had p c d x xs k (unchained p (Excludes p c) xs m)
had_means p c d x xs r fits k m = after_had p c d (item x xs) (leaves_means p c x xs r k m)

number_means : (p : Goal) (c : Bool) (x : Item) (xs : Items) (r : Role) → RoleMeans r x → Means (next (HasNumber p c) r) xs → Had p c false (item x xs)
number_means p c x xs Dot k m = absurd m
number_means p c x xs r k m = had_means p c false x xs r (λ e. absurd (false≢true e)) k m

name_means : (p : Goal) (c : Bool) (x : Item) (xs : Items) (r : Role) → RoleMeans r x → Means (next (Names p c) r) xs → Named p c (item x xs)
name_means p c x xs Name k m = record { name = x; after = xs; is = refl; role = k; had = m }
name_means p c x xs _ k m = absurd m

excluded_means : (p : Goal) (c : Bool) (x : Item) (xs : Items) (r : Role) → RoleMeans r x → Means (next (Excludes p c) r) xs → Excluded p c (item x xs)
excluded_means p c x xs In k m = record { operator_text = x; after = xs; is = refl; role = k; wanted = m }
excluded_means p c x xs _ k m = absurd m

colon_begun : (p : Goal) (x : Item) (xs : Items) → token_role x ≡ Colon → Means (after_goal p Colon) xs → Begun p (item x xs)
colon_begun From x xs k m = slice x refl nothing k m
colon_begun To x xs k m = stepped x refl nothing k m
colon_begun Step x xs k m = absurd m
colon_begun _ x xs k m = tt

begun_means : (p : Goal) (x : Item) (xs : Items) (r : Role) → RoleMeans r x → Means (next (Begins p) r) xs → Begun p (item x xs)
begun_means p x xs Colon k m = colon_begun p x xs k m
begun_means p x xs r k m = begun_of p (item x xs) (wanted_whole p (item x xs) (wanted_means p false x xs r k m))

keyed_arg : (x : Item) (xs : Items) → token_role x ≡ Name → Keyed xs → IsArg (item x xs)
keyed_arg x xs k (with_value e ee t) = keyword k ee t
keyed_arg x xs k (without_value m) = positional (test_of (item x xs) (wanted_whole Alone (item x xs) (operand_means Alone false true x xs m (operand (ident k) m.are_suffixes))))

argument_means : (x : Item) (xs : Items) (r : Role) → RoleMeans r x → Means (next Argument r) xs → IsArg (item x xs)
argument_means x xs Star k m = starred (ap is_star k) (test_of xs (wanted_whole Alone xs m))
argument_means x xs Stars k m = starred (ap is_star k) (test_of xs (wanted_whole Alone xs m))
argument_means x xs Name k m = keyed_arg x xs k m
argument_means x xs r k m = positional (test_of (item x xs) (wanted_whole Alone (item x xs) (wanted_means Alone false x xs r k m)))

keyword_means : (x : Item) (xs : Items) (r : Role) → RoleMeans r x → Means (next Keyword r) xs → Keyed (item x xs)
keyword_means x xs Equals k m = with_value x k (test_of xs (wanted_whole Alone xs m))
keyword_means x xs r k m = without_value (had_means Alone false true x xs r (λ e. refl) k m)

-- loads
text_means : (x : Item) (xs : Items) (r : Role) → RoleMeans r x → Means (next Text r) xs → IsString (item x xs)
text_means x xs Value k m = subst (λ ys. IsString (item x ys)) (sym m) (string k)
text_means x xs _ k m = absurd m

renamed_arg : (x : Item) (xs : Items) → token_role x ≡ Name → Renamed xs → IsLoadArg (item x xs)
renamed_arg x xs k (value e s) = renamed k e s

load_argument_means : (x : Item) (xs : Items) (r : Role) → RoleMeans r x → Means (next LoadArgument r) xs → IsLoadArg (item x xs)
load_argument_means x xs Value k m = loaded (text_means x xs Value k m)
load_argument_means x xs Name k m = renamed_arg x xs k m
load_argument_means x xs _ k m = absurd m

renames_means : (x : Item) (xs : Items) (r : Role) → RoleMeans r x → Means (next Renames r) xs → Renamed (item x xs)
renames_means x xs Equals k m = value k m
renames_means x xs _ k m = absurd m

loads_means : (x : Item) (xs : Items) (r : Role) → RoleMeans r x → Means (next Loads r) xs → AfterLoad (item x xs)
loads_means x xs LoadGroup k m = subst (λ ys. AfterLoad (item x ys)) (sym m) (after_load k)
loads_means x xs _ k m = absurd m

load_of : (x : Item) (xs : Items) → is_load_word x ≡ true → AfterLoad xs → IsStatement (item x xs)
load_of x xs k (after_load (load_group s args)) = load_statement (load k s args)

sides_mean : {xs : Items} → Sides xs → IsStatement xs
sides_mean (one_side e) = expression e
sides_mean (two_sides s is ea es eb) = assignment s is ea es eb

statement_means : (x : Item) (xs : Items) (r : Role) → RoleMeans r x → Means (next Statement r) xs → IsStatement (item x xs)
statement_means x xs LoadWord k m = load_of x xs k m
statement_means x xs r k m = sides_mean (sides_of (item x xs) (wanted_whole Left (item x xs) (wanted_means Left false x xs r k m)))

step_means : (s : Stage) (x : Item) (xs : Items) (r : Role) → RoleMeans r x → Means (next s r) xs → Means s (item x xs)
step_means Refused x xs r k m = m
step_means (Wants p c) x xs r k m = wanted_means p c x xs r k m
step_means (Has p c) x xs r k m = had_means p c true x xs r (λ e. refl) k m
step_means (HasNumber p c) x xs r k m = number_means p c x xs r k m
step_means (Names p c) x xs r k m = name_means p c x xs r k m
step_means (Excludes p c) x xs r k m = excluded_means p c x xs r k m
step_means (Begins p) x xs r k m = begun_means p x xs r k m
step_means Argument x xs r k m = argument_means x xs r k m
step_means Keyword x xs r k m = keyword_means x xs r k m
step_means Statement x xs r k m = statement_means x xs r k m
step_means Loads x xs r k m = loads_means x xs r k m
step_means Text x xs r k m = text_means x xs r k m
step_means LoadArgument x xs r k m = load_argument_means x xs r k m
step_means Renames x xs r k m = renames_means x xs r k m
step_means Done x xs r k m = absurd m

-- at the end
part_end : (p : Goal) → ends p ≡ true → Tail p no_items
part_end Left h = tail Left no_items left_end
part_end Right h = tail Right no_items right_end
part_end Alone h = tail Alone no_items refl
part_end From h = tail From no_items (inl refl)
part_end To h = tail To no_items (inl refl)
part_end Step h = tail Step no_items refl
part_end Clause h = no_clause
part_end _ h = absurd (false≢true h)

had_end : (p : Goal) (c d : Bool) → (not c && ends p) ≡ true → Had p c d no_items
had_end p false d h = after_had p false d no_items (part_end p h)
had_end p true d h = absurd (false≢true h)

begun_end : (p : Goal) → may_end (Begins p) ≡ true → Begun p no_items
begun_end To h = upper nothing
begun_end Step h = nothing
begun_end From h = absurd (false≢true h)
begun_end _ h = tt

end_means : (s : Stage) → may_end s ≡ true → Means s no_items
end_means (Has p c) h = had_end p c true h
end_means (HasNumber p c) h = had_end p c false h
end_means (Begins p) h = begun_end p h
end_means Keyword h = without_value (had_end Alone false true refl)
end_means Statement h = comments
end_means Done h = refl
end_means _ h = absurd (false≢true h)

-- groups
abbrev EachMeans : Stage → Segs → Type 0
EachMeans s no_segs = Unit {0}
EachMeans s (seg before nodes beside segs) = Means s nodes × EachMeans (later s) segs

tests_of : (segs : Segs) → EachMeans (Wants Alone false) segs → AreTests segs
tests_of no_segs m = no_test
tests_of (seg before nodes beside segs) m = one_test (test_of nodes (wanted_whole Alone nodes m.0)) (tests_of segs m.1)

args_of : (segs : Segs) → EachMeans Argument segs → AreArgs segs
args_of no_segs m = no_arg
args_of (seg before nodes beside segs) m = one_arg m.0 (args_of segs m.1)

entries_of : (segs : Segs) → EachMeans (Wants Key false) segs → AreEntries segs
entries_of no_segs m = no_entry
entries_of (seg before nodes beside segs) m = one_entry (entry_of nodes (wanted_whole Key nodes m.0)) (entries_of segs m.1)

index_of : (segs : Segs) (one_comma : Bool) (end : List (List ℕ)) → is_single segs ≡ true → EachMeans (Begins From) segs → IsSuffix (group Index segs one_comma end)
index_of (seg before nodes beside no_segs) one_comma end alone m = index m.0
index_of _ one_comma end alone m = absurd (false≢true alone)

list_comp_of : (segs : Segs) (one_comma : Bool) (end : List (List ℕ)) → is_single segs ≡ true → EachMeans (Wants Element false) segs → IsOperand (group ListComp segs one_comma end)
list_comp_of (seg before nodes beside no_segs) one_comma end alone m = list_comp (element_of nodes (wanted_whole Element nodes m.0))
list_comp_of _ one_comma end alone m = absurd (false≢true alone)

dict_comp_of : (segs : Segs) (one_comma : Bool) (end : List (List ℕ)) → is_single segs ≡ true → EachMeans (Wants EntryKey false) segs → IsOperand (group DictComp segs one_comma end)
dict_comp_of (seg before nodes beside no_segs) one_comma end alone m = dict_comp (entry_element_of nodes (wanted_whole EntryKey nodes m.0))
dict_comp_of _ one_comma end alone m = absurd (false≢true alone)

load_args_of : (segs : Segs) → EachMeans LoadArgument segs → AreLoadArgs segs
load_args_of no_segs m = no_load_arg
load_args_of (seg before nodes beside segs) m = load_arg m.0 (load_args_of segs m.1)

load_group_of : (segs : Segs) (one_comma : Bool) (end : List (List ℕ)) → is_whole Load segs ≡ true → EachMeans Text segs → IsLoadGroup (group Load segs one_comma end)
load_group_of no_segs one_comma end whole m = absurd (false≢true whole)
load_group_of (seg before nodes beside segs) one_comma end whole m = load_group m.0 (load_args_of segs m.1)

-- a group whose segments mean something is what its role says
sound_group : (kind : GroupKind) (segs : Segs) (one_comma : Bool) (end : List (List ℕ)) → is_whole kind segs ≡ true → EachMeans (begin kind) segs → RoleMeans (group_role kind) (group kind segs one_comma end)
sound_group Call segs one_comma end whole m = call refl (args_of segs m)
sound_group RuleCall segs one_comma end whole m = call refl (args_of segs m)
sound_group Load segs one_comma end whole m = load_group_of segs one_comma end whole m
sound_group Paren segs one_comma end whole m = paren (tests_of segs m)
sound_group ListKind segs one_comma end whole m = list (tests_of segs m)
sound_group Index segs one_comma end whole m = index_of segs one_comma end whole m
sound_group Dict segs one_comma end whole m = dict (entries_of segs m)
sound_group ListComp segs one_comma end whole m = list_comp_of segs one_comma end whole m
sound_group DictComp segs one_comma end whole m = dict_comp_of segs one_comma end whole m

group_means : (kind : GroupKind) (segs : Segs) (one_comma : Bool) (end : List (List ℕ)) → ((s : Stage) → each s segs ≡ true → EachMeans s segs) → (fits good : Bool) → is_whole kind segs ≡ fits → each (begin kind) segs ≡ good
    → RoleMeans (cond (fits && good) (group_role kind) Stray) (group kind segs one_comma end)
group_means kind segs one_comma end m true true whole good = sound_group kind segs one_comma end whole (m (begin kind) good)
group_means kind segs one_comma end m true false whole good = refl
group_means kind segs one_comma end m false good' whole good = refl

-- what no token is to the grammar
abbrev pub is_apart : Role → Bool
is_apart Suffix = true
is_apart Bracket = true
is_apart LoadWord = true
is_apart LoadGroup = true
is_apart _ = false

word_plain : (word : List ℕ) → is_apart (word_role word) ≡ false
word_plain word = grind arith

operator_plain : (word : List ℕ) → is_apart (operator_role word) ≡ false
operator_plain word = grind arith

pub leaf_plain : (kind : Kind) (word : List ℕ) → is_apart (leaf_role kind word) ≡ false
leaf_plain KeywordToken word = word_plain word
leaf_plain OperatorToken word = operator_plain word
leaf_plain _ word = refl

token_means : (x : Item) (r : Role) → token_role x ≡ r → is_apart r ≡ false → RoleMeans r x
token_means x Suffix e apart = absurd (false≢true (sym apart))
token_means x Bracket e apart = absurd (false≢true (sym apart))
token_means x LoadWord e apart = absurd (false≢true (sym apart))
token_means x LoadGroup e apart = absurd (false≢true (sym apart))
token_means x _ e apart = e

leaf_means : (kind : Kind) (word : List ℕ) (b : Bool) → is_load_word (leaf kind word) ≡ b → RoleMeans (cond b LoadWord (leaf_role kind word)) (leaf kind word)
leaf_means kind word true is = is
leaf_means kind word false is = token_means (leaf kind word) (leaf_role kind word) refl (leaf_plain kind word)

mutual
  -- what the recognizer accepts is in the grammar
  accepts_means : (xs : Items) (s : Stage) → accepts s xs ≡ true → Means s xs
  accepts_means no_items s h = end_means s h
  accepts_means (item x xs) s h = step_means s x xs (role_of x) (role_means x) (accepts_means xs (next s (role_of x)) h)

  role_means : (x : Item) → RoleMeans (role_of x) x
  role_means (leaf kind word) = leaf_means kind word (is_load_word (leaf kind word)) refl
  role_means (group kind segs one_comma end) = group_means kind segs one_comma end (λ s h. segs_means segs s h) (is_whole kind segs) (each (begin kind) segs) refl refl

  segs_means : (segs : Segs) (s : Stage) → each s segs ≡ true → EachMeans s segs
  segs_means no_segs s h = tt
  segs_means (seg before nodes beside segs) s h = let p = and_parts (accepts s nodes) (each (later s) segs) h in (accepts_means nodes s p.0, segs_means segs (later s) p.1)

pub statement_read : (xs : Items) → accepts Statement xs ≡ true → IsStatement xs
statement_read xs h = accepts_means xs Statement h
