-- By the grammar no node makes one operator with what it stands after.
use Rattle.std.proofs.Common.{◌≡◌, ℕ, List, Bool, true, false, Option, Some, None, refl, sym, ap, subst, ◌∙◌}
use Rattle.std.proofs.lemmas.Bool.{false≢true}
use Rattle.bz_tree.specs.declared.tree.GroupKind.{GroupKind}
use Rattle.bz_tree.specs.declared.tree.GroupKind.TheVariants.{Load}
use Rattle.bz_tree.specs.declared.grammar.role.Role.{Role}
use Rattle.bz_tree.specs.declared.grammar.role.Role.TheVariants.{Not, Tilde, Sum, Star, Stars, Operator, In, Equals, Augmented}
use Rattle.bz_tree.specs.Grammar as Table
use Rattle.bz_tree.proofs.Recognizer.FromTable.{statement_produced}
use Rattle.bz_tree.specs.private.Productions.{token_role, is_prefix, is_operator, is_star, is_assignment, join, IsBinOp, operator, not_in, IsTest, plain, conditional, IsChain, single, binary, IsTerm, primary, unary, IsPrimary, number, operand, AreSuffixes, no_suffix, member, suffix, IsSuffix, call, index, IsOperand, ident, text as string_operand, paren, list, dict, list_comp, dict_comp, AreTests, no_test, one_test, AreArgs, no_arg, one_arg, IsArg, positional, keyword, starred, AreEntries, no_entry, one_entry, IsEntry, entry, IsElement, element, IsEntryElement, entry_element, IsFor, for, AreTargets, last_target, target, AreClauses, no_clause, for_clause, if_clause, IsIndex, at, slice, IsRange, upper, stepped, IsOptional, nothing, some, IsExpr, last_test, test, IsString, string, IsLoadArg, loaded, renamed, AreLoadArgs, no_load_arg, load_arg, IsLoad, load, IsStatement, comments, load_statement, expression, assignment}
use Rattle.bz_tree.specs.Tree.{Item, group, Items, item, Segs, Statement, items_of}
use Rattle.bz_layout.specs.declared.spacing.Edge.TheVariants.{Start}
use Rattle.bz_layout_laws.specs.Following.{MayFollow, SegsMayFollow, NodesMayFollow}
use Rattle.bz_layout_laws.specs.TextsOfKinds.{HasText, HaveTexts, SegsHaveTexts, HasTexts}
use Rattle.bz_layout_laws.proofs.Roles.{stands_apart, is_operand, is_stray, StandsApart, StandsAlone, stands_inside, token_apart, token_alone, load_apart}
use Rattle.bz_layout_laws.proofs.Neighbours.{FollowAny, FollowAlone, FollowOperand, follow_none, operand_alone, item_any, item_alone, item_operand, item_after, any_operand, join_any, join_alone, join_operand, texts_left, texts_right}

-- tokens by their roles
apart : {r : Role} (x : Item) → token_role x ≡ r → stands_apart r ≡ true → HasText x → StandsApart x
apart x e h is = token_apart x (ap stands_apart e ∙ h) is

alone : {r : Role} (x : Item) → token_role x ≡ r → is_operand r ≡ true → HasText x → StandsAlone x
alone x e h is = token_alone x (ap is_operand e ∙ h) is

prefix_apart : (r : Role) → is_prefix r ≡ true → stands_apart r ≡ true
prefix_apart Sum h = refl
prefix_apart Tilde h = refl
prefix_apart Not h = refl
prefix_apart _ h = absurd (false≢true h)

operator_known : (r : Role) → is_operator r ≡ true → is_stray r ≡ false
operator_known Sum h = refl
operator_known Star h = refl
operator_known In h = refl
operator_known Operator h = refl
operator_known _ h = absurd (false≢true h)

star_known : (r : Role) → is_star r ≡ true → is_stray r ≡ false
star_known Star h = refl
star_known Stars h = refl
star_known _ h = absurd (false≢true h)

assignment_known : (r : Role) → is_assignment r ≡ true → is_stray r ≡ false
assignment_known Equals h = refl
assignment_known Augmented h = refl
assignment_known _ h = absurd (false≢true h)

-- the texts of what nodes are
told : {xs ys : Items} → xs ≡ ys → HaveTexts xs → HaveTexts ys
told is h = subst HaveTexts is h

operated : {o b : Items} → IsBinOp o → HaveTexts o → FollowAlone b → FollowOperand (join o b)
operated (operator {o} is) h more = item_after (stands_inside o (operator_known (token_role o) is)) more
operated (not_in {n} {i} en ei) h more = any_operand (item_alone (apart n en refl h.0) (item_alone (apart i ei refl h.1.0) more))

bracket : {kind : GroupKind} {segs : Segs} {one_comma : Bool} {end : List (List ℕ)} → SegsMayFollow kind segs → StandsAlone (group kind segs one_comma end)
bracket may = record { node = record { apart = refl; inside = may }; rests = λ within left. refl }

mutual
  test_follows : {xs : Items} → IsTest xs → HaveTexts xs → FollowAlone xs
  test_follows (plain t) h = chain_follows t h
  test_follows (conditional {xs} {a} {b} {c} i e is first ri second re third) h =
      let all = told is h in
      let after_a = texts_right a (item i (join b (item e c))) all in
      let after_b = texts_right b (item e c) after_a.1 in
      let chosen = item_alone (apart e re refl after_b.0) (test_follows third after_b.1) in
      let asked = join_alone (chain_follows second (texts_left b (item e c) after_a.1)).any chosen in
      subst FollowAlone (sym is) (join_alone (chain_follows first (texts_left a (item i (join b (item e c))) all)).any (item_alone (apart i ri refl after_a.0) asked))

  chain_follows : {xs : Items} → IsChain xs → HaveTexts xs → FollowAlone xs
  chain_follows (single t) h = term_follows t h
  chain_follows (binary {xs} {a} {b} o is t op more) h =
      let all = told is h in
      let rest = texts_right a (join o b) all in
      subst FollowAlone (sym is) (join_operand (term_follows t (texts_left a (join o b) all)) (operated op (texts_left o b rest) (chain_follows more (texts_right o b rest))))

  term_follows : {xs : Items} → IsTerm xs → HaveTexts xs → FollowAlone xs
  term_follows (primary t) h = primary_follows t h
  term_follows (unary {p} is t) h = item_alone (token_apart p (prefix_apart (token_role p) is) h.0) (term_follows t h.1)

  primary_follows : {xs : Items} → IsPrimary xs → HaveTexts xs → FollowAlone xs
  primary_follows (number {x} e more bare) h = item_operand (alone x e refl h.0) (suffixes_follow more h.1)
  primary_follows (operand o more) h = item_operand (operand_stands o h.0) (suffixes_follow more h.1)

  suffixes_follow : {xs : Items} → AreSuffixes xs → HaveTexts xs → FollowOperand xs
  suffixes_follow no_suffix h = operand_alone
  suffixes_follow (member {d} {n} ed en more) h = any_operand (item_alone (apart d ed refl h.0) (item_operand (alone n en refl h.1.0) (suffixes_follow more h.1.1)))
  suffixes_follow (suffix s more) h = any_operand (item_operand (suffix_stands s h.0) (suffixes_follow more h.1))

  suffix_stands : {x : Item} → IsSuffix x → HasText x → StandsAlone x
  suffix_stands (call {kind} is args) h = bracket (args_follow args kind h.0)
  suffix_stands (index i) h = bracket ((index_follows i h.0.2).each (Some _) Start, tt)

  operand_stands : {x : Item} → IsOperand x → HasText x → StandsAlone x
  operand_stands (ident {x} e) h = alone x e refl h
  operand_stands (string_operand {x} e) h = alone x e refl h
  operand_stands (paren ts) h = bracket (tests_follow ts _ h.0)
  operand_stands (list ts) h = bracket (tests_follow ts _ h.0)
  operand_stands (dict es) h = bracket (entries_follow es _ h.0)
  operand_stands (list_comp e) h = bracket ((element_follows e h.0.2).each (Some _) Start, tt)
  operand_stands (dict_comp e) h = bracket ((entry_element_follows e h.0.2).each (Some _) Start, tt)

  tests_follow : {ss : Segs} → AreTests ss → (kind : GroupKind) → SegsHaveTexts ss → SegsMayFollow kind ss
  tests_follow no_test kind h = tt
  tests_follow (one_test t ts) kind h = ((test_follows t h.2).any.each (Some kind) Start, tests_follow ts kind h.4)

  args_follow : {ss : Segs} → AreArgs ss → (kind : GroupKind) → SegsHaveTexts ss → SegsMayFollow kind ss
  args_follow no_arg kind h = tt
  args_follow (one_arg t ts) kind h = (arg_follows t (Some kind) h.2, args_follow ts kind h.4)

  arg_follows : {xs : Items} → IsArg xs → (within : Option GroupKind) → HaveTexts xs → MayFollow within Start xs
  arg_follows (positional t) within h = (test_follows t h).any.each within Start
  arg_follows (keyword {n} {e} en ee t) within h = (item_operand (alone n en refl h.0) (item_after (stands_inside e (ap is_stray ee)) (test_follows t h.1.1))).any.each within Start
  arg_follows (starred {s} is t) within h = (item_after (stands_inside s (star_known (token_role s) is)) (test_follows t h.1)).follow within Start refl

  entries_follow : {ss : Segs} → AreEntries ss → (kind : GroupKind) → SegsHaveTexts ss → SegsMayFollow kind ss
  entries_follow no_entry kind h = tt
  entries_follow (one_entry t ts) kind h = ((entry_follows t h.2).each (Some kind) Start, entries_follow ts kind h.4)

  entry_follows : {xs : Items} → IsEntry xs → HaveTexts xs → FollowAny xs
  entry_follows (entry {xs} {a} {b} c is ta rc tb) h =
      let all = told is h in
      let rest = texts_right a (item c b) all in
      subst FollowAny (sym is) (join_any (test_follows ta (texts_left a (item c b) all)).any (item_any (apart c rc refl rest.0) (test_follows tb rest.1).any))

  element_follows : {xs : Items} → IsElement xs → HaveTexts xs → FollowAny xs
  element_follows (element {xs} {a} {b} is t f) h =
      let all = told is h in
      subst FollowAny (sym is) (join_any (test_follows t (texts_left a b all)).any (for_follows f (texts_right a b all)))

  entry_element_follows : {xs : Items} → IsEntryElement xs → HaveTexts xs → FollowAny xs
  entry_element_follows (entry_element {xs} {a} {b} c is t rc e) h =
      let all = told is h in
      let rest = texts_right a (item c b) all in
      subst FollowAny (sym is) (join_any (test_follows t (texts_left a (item c b) all)).any (item_any (apart c rc refl rest.0) (element_follows e rest.1)))

  for_follows : {xs : Items} → IsFor xs → HaveTexts xs → FollowAny xs
  for_follows (for {xs} {t} {c} {m} f i is rf ts ri sequence ms) h =
      let all = told is h in
      let rest = texts_right t (item i (join c m)) all.1 in
      let more = join_any (chain_follows sequence (texts_left c m rest.1)).any (clauses_follow ms (texts_right c m rest.1)) in
      subst FollowAny (sym is) (item_any (apart f rf refl all.0) (join_any (targets_follow ts (texts_left t (item i (join c m)) all.1)) (item_any (apart i ri refl rest.0) more)))

  targets_follow : {xs : Items} → AreTargets xs → HaveTexts xs → FollowAny xs
  targets_follow (last_target t) h = (primary_follows t h).any
  targets_follow (target {xs} {a} {b} c is t rc more) h =
      let all = told is h in
      let rest = texts_right a (item c b) all in
      subst FollowAny (sym is) (join_any (primary_follows t (texts_left a (item c b) all)).any (item_any (apart c rc refl rest.0) (targets_follow more rest.1)))

  clauses_follow : {xs : Items} → AreClauses xs → HaveTexts xs → FollowAny xs
  clauses_follow no_clause h = follow_none
  clauses_follow (for_clause f) h = for_follows f h
  clauses_follow (if_clause {xs} {c} {m} i is ri sequence ms) h =
      let all = told is h in
      subst FollowAny (sym is) (item_any (apart i ri refl all.0) (join_any (chain_follows sequence (texts_left c m all.1)).any (clauses_follow ms (texts_right c m all.1))))

  index_follows : {xs : Items} → IsIndex xs → HaveTexts xs → FollowAny xs
  index_follows (at t) h = (test_follows t h).any
  index_follows (slice {xs} {a} {b} c is o rc more) h =
      let all = told is h in
      let rest = texts_right a (item c b) all in
      subst FollowAny (sym is) (join_any (optional_follows o (texts_left a (item c b) all)) (item_any (apart c rc refl rest.0) (range_follows more rest.1)))

  range_follows : {xs : Items} → IsRange xs → HaveTexts xs → FollowAny xs
  range_follows (upper o) h = optional_follows o h
  range_follows (stepped {xs} {a} {b} c is o rc last) h =
      let all = told is h in
      let rest = texts_right a (item c b) all in
      subst FollowAny (sym is) (join_any (optional_follows o (texts_left a (item c b) all)) (item_any (apart c rc refl rest.0) (optional_follows last rest.1)))

  optional_follows : {xs : Items} → IsOptional xs → HaveTexts xs → FollowAny xs
  optional_follows nothing h = follow_none
  optional_follows (some t) h = (test_follows t h).any

expr_follows : {xs : Items} → IsExpr xs → HaveTexts xs → FollowAlone xs
expr_follows (last_test t) h = test_follows t h
expr_follows (test {xs} {a} {b} c is t rc more) h =
    let all = told is h in
    let rest = texts_right a (item c b) all in
    subst FollowAlone (sym is) (join_alone (test_follows t (texts_left a (item c b) all)).any (item_alone (apart c rc refl rest.0) (expr_follows more rest.1)))

-- the strings of a `load`
string_follows : {xs : Items} → IsString xs → HaveTexts xs → FollowAlone xs
string_follows (string {x} e) h = item_operand (alone x e refl h.0) operand_alone

load_arg_follows : {xs : Items} → IsLoadArg xs → HaveTexts xs → FollowAny xs
load_arg_follows (loaded s) h = (string_follows s h).any
load_arg_follows (renamed {n} {e} en ee s) h = (item_operand (alone n en refl h.0) (item_after (stands_inside e (ap is_stray ee)) (string_follows s h.1.1))).any

load_args_follow : {ss : Segs} → AreLoadArgs ss → SegsHaveTexts ss → SegsMayFollow Load ss
load_args_follow no_load_arg h = tt
load_args_follow (load_arg a more) h = ((load_arg_follows a h.2).each (Some Load) Start, load_args_follow more h.4)

load_follows : {xs : Items} → IsLoad xs → HaveTexts xs → FollowAny xs
load_follows (load {w} is s args) h =
    let strings = h.1.0.0 in
    item_any (load_apart w is) (item_operand (bracket ((string_follows s strings.2).any.each (Some Load) Start, load_args_follow args strings.4)) operand_alone).any

statement_follows : {xs : Items} → IsStatement xs → HaveTexts xs → FollowAny xs
statement_follows comments h = follow_none
statement_follows (load_statement l) h = load_follows l h
statement_follows (expression e) h = (expr_follows e h).any
statement_follows (assignment {xs} {a} {b} s is ea es eb) h =
    let all = told is h in
    let rest = texts_right a (item s b) all in
    let right = item_after (stands_inside s (assignment_known (token_role s) es)) (expr_follows eb rest.1) in
    subst FollowAny (sym is) (join_operand (expr_follows ea (texts_left a (item s b) all)) right).any

pub nodes_may_follow : (s : Statement) → Table.IsStatement (items_of s.nodes) → HasTexts s → NodesMayFollow s
nodes_may_follow s grammar texts = (statement_follows (statement_produced (items_of s.nodes) grammar) texts.nodes).each None Start
