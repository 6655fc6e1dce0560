-- What is in the grammar is accepted by the recognizer.
use Rattle.std.proofs.Common.{arith, ◌≡◌, ℕ, List, Bool, true, false, cond, refl, sym, ap, ◌∙◌}
use Rattle.std.proofs.lemmas.Bool.{false≢true, and_from}
use Rattle.std.specs.Prelude.{codes}
use Rattle.std.proofs.lemmas.Slice.Eq.{bytes_eq-Decides}
use Rattle.bz_token.specs.declared.token.Kind.{Kind}
use Rattle.bz_token.specs.declared.token.Kind.TheVariants.{Keyword as KeywordToken}
use Rattle.bz_tree.specs.declared.tree.GroupKind.{GroupKind}
use Rattle.bz_tree.specs.declared.tree.GroupKind.TheVariants.{Call, RuleCall, Paren, List as ListKind, Dict, ListComp, DictComp}
use Rattle.bz_tree.specs.declared.grammar.role.Role.{Role}
use Rattle.bz_tree.specs.declared.grammar.role.Role.TheVariants.{Name, Number, Value, Bracket, Suffix, Dot, Comma, Colon, Equals, If, Else, For, In, Not, Tilde, Sum, Star, Stars, Operator, LoadWord, Stray}
use Rattle.bz_tree.specs.declared.grammar.stage.Goal.{Goal}
use Rattle.bz_tree.specs.declared.grammar.stage.Goal.TheVariants.{Alone, Key, Element, EntryKey, From, To, Step, Target, Clause}
use Rattle.bz_tree.specs.declared.grammar.stage.Stage.{Stage}
use Rattle.bz_tree.specs.declared.grammar.stage.Stage.TheVariants.{Refused, Wants, Has, HasNumber, Names, Excludes, Begins, Argument, Keyword}
use Rattle.bz_tree.specs.Tree.{Item, leaf, group, Items, no_items, item, Segs, no_segs, seg, is_call}
use Rattle.bz_tree.specs.Kinds.{is_load_word}
use Rattle.bz_tree.specs.private.Productions.{token_role, leaf_role, word_role, is_prefix, is_operator, is_star, join, is_dot_role, begins_dot, IsBinOp, operator, not_in, IsTest, plain, conditional, IsChain, single, binary, IsTerm, primary, unary, IsPrimary, number, operand, AreSuffixes, no_suffix, member, suffix, IsSuffix, call, index, IsOperand, ident, text, paren, list, dict, list_comp, dict_comp, AreTests, no_test, one_test, AreArgs, no_arg, one_arg, IsArg, positional, keyword, starred, AreEntries, no_entry, one_entry, IsEntry, entry, IsElement, element, IsEntryElement, entry_element, IsFor, for, AreTargets, last_target, target, AreClauses, no_clause, for_clause, if_clause, IsIndex, at, slice, IsRange, upper, stepped, IsOptional, nothing, some}
use Rattle.bz_tree.specs.private.Machine.{ends, is_target, in_chain, after_goal, next_wanted, next_after, next, accepts, role_of, each}

pub join_empty : (xs : Items) → join xs no_items ≡ xs
join_empty no_items = refl
join_empty (item x xs) = ap (item x) (join_empty xs)

pub join_assoc : (xs ys zs : Items) → join (join xs ys) zs ≡ join xs (join ys zs)
join_assoc no_items ys zs = refl
join_assoc (item x xs) ys zs = ap (item x) (join_assoc xs ys zs)

abbrev is_stray : Role → Bool
is_stray Stray = true
is_stray _ = false

-- to the grammar the word `load` stands nowhere in an expression
load_stray : (kind : Kind) (bytes : List ℕ) → is_load_word (leaf kind bytes) ≡ true → is_stray (leaf_role kind bytes) ≡ true
load_stray KeywordToken bytes h = ap (λ word. is_stray (word_role word)) ((bytes_eq-Decides bytes (codes "load")).0 h)
load_stray _ bytes h = absurd (false≢true h)

-- a token is what the recognizer takes it for
pub role_known : (x : Item) (r : Role) → token_role x ≡ r → is_stray r ≡ false → role_of x ≡ r
role_known (leaf kind bytes) r e known = at (is_load_word (leaf kind bytes)) refl
  where
    at : (b : Bool) → is_load_word (leaf kind bytes) ≡ b → cond b LoadWord (leaf_role kind bytes) ≡ r
    at true is = absurd (false≢true (sym known ∙ ap is_stray (sym e) ∙ load_stray kind bytes is))
    at false is = e
role_known (group kind segs one_comma end) r e known = absurd (false≢true (sym known ∙ ap is_stray (sym e)))

pub step : (s : Stage) (x : Item) (xs : Items) (r : Role) → role_of x ≡ r → accepts (next s r) xs ≡ true → accepts s (item x xs) ≡ true
step s x xs r e h = ap (λ q. accepts (next s q) xs) e ∙ h

pub refused : (xs : Items) → accepts Refused xs ≡ true → ⊥
refused no_items h = absurd (false≢true h)
refused (item x xs) h = refused xs h

-- after a primary, a number too
abbrev pub Accepts : Goal → Bool → Items → Type 0
Accepts p c xs = (accepts (Has p c) xs ≡ true) × (accepts (HasNumber p c) xs ≡ true)

pub leave : (p : Goal) (c : Bool) (x : Item) (xs : Items) (r : Role) (s : Stage) → role_of x ≡ r → next_after p c r ≡ s → next (HasNumber p c) r ≡ s → accepts s xs ≡ true → Accepts p c (item x xs)
leave p c x xs r s e here beside h = (step (Has p c) x xs r e (ap (λ q. accepts q xs) here ∙ h), step (HasNumber p c) x xs r e (ap (λ q. accepts q xs) beside ∙ h))

chained : (p : Goal) (s : Stage) → is_target p ≡ false → in_chain p s ≡ s
chained p s e = ap (λ b. cond b Refused s) e

chained_in : (p : Goal) (c : Bool) → is_target p ≡ false → next_after p c In ≡ Wants p c
chained_in p c e = rw e refl

abbrev pub is_test_part : Goal → Bool
is_test_part Target = false
is_test_part Clause = false
is_test_part _ = true

test_is_no_target : (p : Goal) → is_test_part p ≡ true → is_target p ≡ false
test_is_no_target va vb = grind arith

after_if : (p : Goal) → is_test_part p ≡ true → after_goal p If ≡ Wants p true
after_if va vb = grind arith

prefix_step : (q : Item) (r : Role) → token_role q ≡ r → is_prefix r ≡ true → (p : Goal) (c : Bool) (xs : Items) → is_target p ≡ false → accepts (Wants p c) xs ≡ true → accepts (Wants p c) (item q xs) ≡ true
prefix_step q Sum e is p c xs free h = step (Wants p c) q xs Sum (role_known q Sum e refl) (ap (λ s. accepts s xs) (chained p (Wants p c) free) ∙ h)
prefix_step q Tilde e is p c xs free h = step (Wants p c) q xs Tilde (role_known q Tilde e refl) (ap (λ s. accepts s xs) (chained p (Wants p c) free) ∙ h)
prefix_step q Not e is p c xs free h = step (Wants p c) q xs Not (role_known q Not e refl) (ap (λ s. accepts s xs) (chained p (Wants p c) free) ∙ h)
prefix_step q _ e is p c xs free h = absurd (false≢true is)

operator_step : (o : Item) (r : Role) → token_role o ≡ r → is_operator r ≡ true → (p : Goal) (c : Bool) (xs : Items) → is_target p ≡ false → accepts (Wants p c) xs ≡ true → Accepts p c (item o xs)
operator_step o Sum e is p c xs free h = leave p c o xs Sum (Wants p c) (role_known o Sum e refl) (chained p (Wants p c) free) (chained p (Wants p c) free) h
operator_step o Star e is p c xs free h = leave p c o xs Star (Wants p c) (role_known o Star e refl) (chained p (Wants p c) free) (chained p (Wants p c) free) h
operator_step o Operator e is p c xs free h = leave p c o xs Operator (Wants p c) (role_known o Operator e refl) (chained p (Wants p c) free) (chained p (Wants p c) free) h
operator_step o In e is p c xs free h = leave p c o xs In (Wants p c) (role_known o In e refl) (chained_in p c free) (chained_in p c free) h
operator_step o _ e is p c xs free h = absurd (false≢true is)

binop_run : {o : Items} → IsBinOp o → (p : Goal) (c : Bool) (xs : Items) → is_target p ≡ false → accepts (Wants p c) xs ≡ true → Accepts p c (join o xs)
binop_run (operator {o} is) p c xs free h = operator_step o (token_role o) refl is p c xs free h
binop_run (not_in {n} {i} en ei) p c xs free h =
    leave p c n (item i xs) Not (Excludes p c) (role_known n Not en refl) (chained p (Excludes p c) free) (chained p (Excludes p c) free) (step (Excludes p c) i xs In (role_known i In ei refl) h)

star_step : (s : Item) (r : Role) → token_role s ≡ r → is_star r ≡ true → (xs : Items) → accepts (Wants Alone false) xs ≡ true → accepts Argument (item s xs) ≡ true
star_step s Star e is xs h = step Argument s xs Star (role_known s Star e refl) h
star_step s Stars e is xs h = step Argument s xs Stars (role_known s Stars e refl) h
star_step s _ e is xs h = absurd (false≢true is)

pub whole : (s : Stage) (xs : Items) → accepts s (join xs no_items) ≡ true → accepts s xs ≡ true
whole s xs h = ap (accepts s) (sym (join_empty xs)) ∙ h

-- where a part may be empty
begun_step : (p : Goal) (r : Role) (xs : Items) → accepts (next_wanted p false r) xs ≡ true → accepts (next (Begins p) r) xs ≡ true
begun_step p Colon xs h = absurd (refused xs h)
begun_step p _ xs h = h

begun : (p : Goal) (xs : Items) → accepts (Wants p false) xs ≡ true → accepts (Begins p) xs ≡ true
begun p no_items h = absurd (false≢true h)
begun p (item x xs) h = begun_step p (role_of x) xs h

-- arguments
keyword_step : (r : Role) (xs : Items) → accepts (next_after Alone false r) xs ≡ true → accepts (next Keyword r) xs ≡ true
keyword_step Equals xs h = absurd (refused xs h)
keyword_step _ xs h = h

keyword_run : (xs : Items) → accepts (Has Alone false) xs ≡ true → accepts Keyword xs ≡ true
keyword_run no_items h = refl
keyword_run (item x xs) h = keyword_step (role_of x) xs h

argument_step : (r : Role) (xs : Items) → accepts (next_wanted Alone false r) xs ≡ true → accepts (next Argument r) xs ≡ true
argument_step Star xs h = absurd (refused xs h)
argument_step Stars xs h = absurd (refused xs h)
argument_step Name xs h = keyword_run xs h
argument_step _ xs h = h

argument_run : (xs : Items) → accepts (Wants Alone false) xs ≡ true → accepts Argument xs ≡ true
argument_run no_items h = absurd (false≢true h)
argument_run (item x xs) h = argument_step (role_of x) xs h

call_role : (kind : GroupKind) (segs : Segs) (one_comma : Bool) (end : List (List ℕ)) → is_call kind ≡ true → each Argument segs ≡ true → role_of (group kind segs one_comma end) ≡ Suffix
call_role Call segs one end is h = ap (λ b. cond b Suffix Stray) h
call_role RuleCall segs one end is h = ap (λ b. cond b Suffix Stray) h
call_role _ segs one end is h = absurd (false≢true is)

mutual
  pub test_run : {xs : Items} → IsTest xs → (p : Goal) (r : Items) → is_test_part p ≡ true → Accepts p false r → accepts (Wants p false) (join xs r) ≡ true
  test_run (plain t) p r of_test acc = chain_run t p false r (test_is_no_target p of_test) acc
  test_run (conditional {xs} {a} {b} {c} i e is first ri second re third) p r of_test acc =
      let free = test_is_no_target p of_test in
      let chosen = test_run third p r of_test acc in
      let at_else : Accepts p true (item e (join c r)) = leave p true e (join c r) Else (Wants p false) (role_known e Else re refl) refl refl chosen in
      let asked = chain_run second p true (item e (join c r)) free at_else in
      let at_if : Accepts p false (item i (join b (item e (join c r)))) = leave p false i (join b (item e (join c r))) If (Wants p true) (role_known i If ri refl) (after_if p of_test) (after_if p of_test) asked in
      let all = chain_run first p false (item i (join b (item e (join c r)))) free at_if in
      rw (is, join_assoc a (item i (join b (item e c))) r, join_assoc b (item e c) r) all

  pub chain_run : {xs : Items} → IsChain xs → (p : Goal) (c : Bool) (r : Items) → is_target p ≡ false → Accepts p c r → accepts (Wants p c) (join xs r) ≡ true
  chain_run (single t) p c r free acc = term_run t p c r free acc
  chain_run (binary {xs} {a} {b} o is t op more) p c r free acc =
      rw (is, join_assoc a (join o b) r, join_assoc o b r) (term_run t p c (join o (join b r)) free (binop_run op p c (join b r) free (chain_run more p c r free acc)))

  pub term_run : {xs : Items} → IsTerm xs → (p : Goal) (c : Bool) (r : Items) → is_target p ≡ false → Accepts p c r → accepts (Wants p c) (join xs r) ≡ true
  term_run (primary t) p c r free acc = primary_run t p c r acc
  term_run (unary {p = q} {xs} is t) p c r free acc = prefix_step q (token_role q) refl is p c (join xs r) free (term_run t p c r free acc)

  pub primary_run : {xs : Items} → IsPrimary xs → (p : Goal) (c : Bool) (r : Items) → Accepts p c r → accepts (Wants p c) (join xs r) ≡ true
  primary_run (number {x} {xs} e more bare) p c r acc = step (Wants p c) x (join xs r) Number (role_known x Number e refl) (number_run more bare p c r acc)
  primary_run (operand {x} {xs} o more) p c r acc = operand_run o p c (join xs r) (suffixes_run more p c r acc)

  pub number_run : {xs : Items} → AreSuffixes xs → begins_dot xs ≡ false → (p : Goal) (c : Bool) (r : Items) → Accepts p c r → accepts (HasNumber p c) (join xs r) ≡ true
  number_run no_suffix bare p c r acc = acc.1
  number_run (member {d} {n} {xs} ed en more) bare p c r acc = absurd (false≢true (sym bare ∙ ap is_dot_role ed))
  number_run (suffix {x} {xs} s more) bare p c r acc = step (HasNumber p c) x (join xs r) Suffix (suffix_run s) (suffixes_run more p c r acc)

  pub suffixes_run : {xs : Items} → AreSuffixes xs → (p : Goal) (c : Bool) (r : Items) → Accepts p c r → accepts (Has p c) (join xs r) ≡ true
  suffixes_run no_suffix p c r acc = acc.0
  suffixes_run (member {d} {n} {xs} ed en more) p c r acc =
      step (Has p c) d (item n (join xs r)) Dot (role_known d Dot ed refl) (step (Names p c) n (join xs r) Name (role_known n Name en refl) (suffixes_run more p c r acc))
  suffixes_run (suffix {x} {xs} s more) p c r acc = step (Has p c) x (join xs r) Suffix (suffix_run s) (suffixes_run more p c r acc)

  pub suffix_run : {x : Item} → IsSuffix x → role_of x ≡ Suffix
  suffix_run (call {kind} {segs} {one_comma = one} {end} is args) = call_role kind segs one end is (args_run args)
  suffix_run (index i) = ap (λ b. cond b Suffix Stray) (and_from _ true (index_run i) refl)

  pub operand_run : {x : Item} → IsOperand x → (p : Goal) (c : Bool) (xs : Items) → accepts (Has p c) xs ≡ true → accepts (Wants p c) (item x xs) ≡ true
  operand_run (ident {x} e) p c xs h = step (Wants p c) x xs Name (role_known x Name e refl) h
  operand_run (text {x} e) p c xs h = step (Wants p c) x xs Value (role_known x Value e refl) h
  operand_run (paren {segs} {one_comma} {end} ts) p c xs h = step (Wants p c) (group Paren segs one_comma end) xs Bracket (ap (λ b. cond b Bracket Stray) (tests_run ts)) h
  operand_run (list {segs} {one_comma} {end} ts) p c xs h = step (Wants p c) (group ListKind segs one_comma end) xs Bracket (ap (λ b. cond b Bracket Stray) (tests_run ts)) h
  operand_run (dict {segs} {one_comma} {end} es) p c xs h = step (Wants p c) (group Dict segs one_comma end) xs Bracket (ap (λ b. cond b Bracket Stray) (entries_run es)) h
  operand_run (list_comp {before} {nodes} {beside} {one_comma} {end} e) p c xs h = step (Wants p c) (group ListComp (seg before nodes beside no_segs) one_comma end) xs Bracket (ap (λ b. cond b Bracket Stray) (and_from _ true (element_run e) refl)) h
  operand_run (dict_comp {before} {nodes} {beside} {one_comma} {end} e) p c xs h = step (Wants p c) (group DictComp (seg before nodes beside no_segs) one_comma end) xs Bracket (ap (λ b. cond b Bracket Stray) (and_from _ true (entry_element_run e) refl)) h

  pub tests_run : {segs : Segs} → AreTests segs → each (Wants Alone false) segs ≡ true
  tests_run no_test = refl
  tests_run (one_test {before} {nodes} t ts) = and_from _ _ (whole (Wants Alone false) nodes (test_run t Alone no_items refl (refl, refl))) (tests_run ts)

  pub args_run : {segs : Segs} → AreArgs segs → each Argument segs ≡ true
  args_run no_arg = refl
  args_run (one_arg t ts) = and_from _ _ (arg_run t) (args_run ts)

  pub arg_run : {xs : Items} → IsArg xs → accepts Argument xs ≡ true
  arg_run (positional {xs} t) = argument_run xs (whole (Wants Alone false) xs (test_run t Alone no_items refl (refl, refl)))
  arg_run (keyword {n} {e} {xs} en ee t) = step Argument n (item e xs) Name (role_known n Name en refl) (step Keyword e xs Equals (role_known e Equals ee refl) (whole (Wants Alone false) xs (test_run t Alone no_items refl (refl, refl))))
  arg_run (starred {s} {xs} is t) = star_step s (token_role s) refl is xs (whole (Wants Alone false) xs (test_run t Alone no_items refl (refl, refl)))

  pub entries_run : {segs : Segs} → AreEntries segs → each (Wants Key false) segs ≡ true
  entries_run no_entry = refl
  entries_run (one_entry t ts) = and_from _ _ (entry_run t) (entries_run ts)

  pub entry_run : {xs : Items} → IsEntry xs → accepts (Wants Key false) xs ≡ true
  entry_run (entry {xs} {a} {b} c is ta rc tb) = rw is (test_run ta Key (item c b) refl (leave Key false c b Colon (Wants Alone false) (role_known c Colon rc refl) refl refl (whole (Wants Alone false) b (test_run tb Alone no_items refl (refl, refl)))))

  pub element_run : {xs : Items} → IsElement xs → accepts (Wants Element false) xs ≡ true
  element_run (element {xs} {a} {b} is t f) = rw is (test_run t Element b refl (for_run f Element refl))

  pub entry_element_run : {xs : Items} → IsEntryElement xs → accepts (Wants EntryKey false) xs ≡ true
  entry_element_run (entry_element {xs} {a} {b} c is t rc e) =
      rw is (test_run t EntryKey (item c b) refl (leave EntryKey false c b Colon (Wants Element false) (role_known c Colon rc refl) refl refl (element_run e)))

  pub for_run : {xs : Items} → IsFor xs → (p : Goal) → after_goal p For ≡ Wants Target false → Accepts p false xs
  for_run (for {xs} {t} {c} {m} f i is rf ts ri sequence ms) p e =
      let more = chain_run sequence Clause false m refl (clauses_run ms) in
      let at_in : Accepts Target false (item i (join c m)) = leave Target false i (join c m) In (Wants Clause false) (role_known i In ri refl) refl refl more in
      rw is (leave p false f (join t (item i (join c m))) For (Wants Target false) (role_known f For rf refl) e e (targets_run ts (item i (join c m)) at_in))

  pub targets_run : {xs : Items} → AreTargets xs → (r : Items) → Accepts Target false r → accepts (Wants Target false) (join xs r) ≡ true
  targets_run (last_target t) r acc = primary_run t Target false r acc
  targets_run (target {xs} {a} {b} c is t rc more) r acc =
      rw (is, join_assoc a (item c b) r) (primary_run t Target false (item c (join b r)) (leave Target false c (join b r) Comma (Wants Target false) (role_known c Comma rc refl) refl refl (targets_run more r acc)))

  pub clauses_run : {xs : Items} → AreClauses xs → Accepts Clause false xs
  clauses_run no_clause = (refl, refl)
  clauses_run (for_clause f) = for_run f Clause refl
  clauses_run (if_clause {xs} {c} {m} i is ri sequence ms) = rw is (leave Clause false i (join c m) If (Wants Clause false) (role_known i If ri refl) refl refl (chain_run sequence Clause false m refl (clauses_run ms)))

  pub index_run : {xs : Items} → IsIndex xs → accepts (Begins From) xs ≡ true
  index_run (at {xs} t) = begun From xs (whole (Wants From false) xs (test_run t From no_items refl (refl, refl)))
  index_run (slice {xs} {a} {b} c is o rc more) = rw is (optional_run o From c b (Begins To) refl refl rc (range_run more))

  pub range_run : {xs : Items} → IsRange xs → accepts (Begins To) xs ≡ true
  range_run (upper o) = end_run o To refl refl refl
  range_run (stepped {xs} {a} {b} c is o rc last) = rw is (optional_run o To c b (Begins Step) refl refl rc (end_run last Step refl refl refl))

  -- before a colon
  pub optional_run : {xs : Items} → IsOptional xs → (p : Goal) (c : Item) (r : Items) (s : Stage) → is_test_part p ≡ true → after_goal p Colon ≡ s → token_role c ≡ Colon → accepts s r ≡ true → accepts (Begins p) (join xs (item c r)) ≡ true
  optional_run nothing p c r s of_test e rc h = step (Begins p) c r Colon (role_known c Colon rc refl) (ap (λ q. accepts q r) e ∙ h)
  optional_run (some {xs} t) p c r s of_test e rc h = begun p (join xs (item c r)) (test_run t p (item c r) of_test (leave p false c r Colon s (role_known c Colon rc refl) e e h))

  -- at the end
  pub end_run : {xs : Items} → IsOptional xs → (p : Goal) → is_test_part p ≡ true → ends p ≡ true → accepts (Begins p) no_items ≡ true → accepts (Begins p) xs ≡ true
  end_run nothing p of_test last empty = empty
  end_run (some {xs} t) p of_test last empty = begun p xs (whole (Wants p false) xs (test_run t p no_items of_test (last, last)))
