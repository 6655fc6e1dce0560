-- What the productions of the grammar have, its table has.
use Rattle.std.proofs.Common.{◌≡◌, ℕ, List, [], ◌∷◌, ◌++◌, Bool, true, false, refl, sym, ap, subst, ◌∙◌, append_assoc}
use Rattle.std.specs.Prelude.{codes}
use Rattle.std.proofs.lemmas.Bool.{false≢true, or_left}
use Rattle.std.specs.Str.{bytes_eq}
use Rattle.bz_token.specs.declared.token.Kind.TheVariants.{Keyword, String}
use Rattle.bz_tree.specs.declared.tree.GroupKind.{GroupKind}
use Rattle.bz_tree.specs.declared.tree.GroupKind.TheVariants.{Call, RuleCall, Load}
use Rattle.bz_tree.specs.declared.grammar.role.Role.{Role}
use Rattle.bz_tree.specs.declared.grammar.role.Role.TheVariants.{Name, Number, Value, Dot, Comma, Colon, Equals, Augmented, If, Else, For, In, Not, Tilde, Sum, Star, Stars, Operator}
use Rattle.bz_tree.specs.Tree.{Item, leaf, group, Items, no_items, item, Segs, is_call}
use Rattle.bz_tree.specs.Kinds.{is_load_word}
use Rattle.bz_tree.specs.Grammar as Table
use Rattle.bz_tree.specs.Grammar.{Form, any, one_of, word, sign, binary, bracket, segment, the, ◌then◌, ◌or◌, many, maybe, each_segment, production, Nonterminal, Part, node, between_commas, nodes, contents, Has, none, of_kind, of_texts, in_bracket, in_segment, by_production, in_turn, former, latter, no_more, again, AreOf}
use Rattle.bz_tree.specs.private.Productions.{token_role, is_prefix, is_operator, is_star, is_assignment, join, is_dot_role, begins_dot, IsBinOp, operator, not_in, IsTest, plain, conditional, IsChain, single, binary as binary_chain, IsTerm, primary, unary, IsPrimary, number, operand, AreSuffixes, no_suffix, member, suffix, IsSuffix, call, index, IsOperand, ident, text, paren, list, dict, list_comp, dict_comp, AreTests, no_test, one_test, AreArgs, no_arg, one_arg, IsArg, positional, keyword, starred, AreEntries, no_entry, one_entry, IsEntry, entry, IsElement, element, IsEntryElement, entry_element, IsFor, for, AreTargets, last_target, target, AreClauses, no_clause, for_clause, if_clause, IsIndex, at, slice, IsRange, upper, stepped, IsOptional, nothing, some, IsExpr, last_test, test, IsString, string, IsLoadArg, loaded, renamed, AreLoadArgs, no_load_arg, load_arg, IsLoad, load, IsStatement, comments, load_statement, expression, assignment as assigned}
use Rattle.bz_tree.proofs.Recognizer.Accepted.{join_empty, join_assoc}
use Rattle.bz_tree.proofs.Recognizer.Tokens.{has_role, prefix, star, assignment}

abbrev Fits : Form → Items → Type 0
Fits f xs = Has f (nodes xs)

nodes_join : (xs ys : Items) → nodes (join xs ys) ≡ nodes xs ++ nodes ys
nodes_join no_items ys = refl
nodes_join (item x xs) ys = ap (λ ps. node x ∷ ps) (nodes_join xs ys)

along : (f : Form) (xs ys : Items) → xs ≡ ys → Fits f ys → Fits f xs
along f xs ys is h = subst (Fits f) (sym is) h

beside : (f g : Form) (xs ys : Items) → Fits f xs → Fits g ys → Fits (f then g) (join xs ys)
beside f g xs ys h k = subst (Has (f then g)) (sym (nodes_join xs ys)) (in_turn h k)

-- a form, and then nothing
alone : (f g : Form) (xs : Items) → Fits f xs → Has g [] → Fits (f then g) xs
alone f g xs h k = along (f then g) xs (join xs no_items) (sym (join_empty xs)) (beside f g xs no_items h k)

-- after the first part, any number of times an operator and a part
regrouped : (o f : Form) (os bs : List Part) → Has o os → Has (f then many (o then f)) bs → Has (many (o then f)) (os ++ bs)
regrouped o f os _ h (in_turn {ps} {qs} a more) = subst (Has (many (o then f))) (append_assoc os ps qs) (again (in_turn h a) more)

one_more : (f g : Form) (os bs : List Part) → Has f os → Has (many f then g) bs → Has (many f then g) (os ++ bs)
one_more f g os _ h (in_turn {ps} {qs} a b) = subst (Has (many f then g)) (append_assoc os ps qs) (in_turn (again h a) b)

prefixed : (p : Item) (r : Role) → token_role p ≡ r → is_prefix r ≡ true → Has prefix (node p ∷ [])
prefixed p Sum is h = (has_role p Sum is).0
prefixed p Tilde is h = has_role p Tilde is
prefixed p Not is h = latter (has_role p Not is)
prefixed p _ is h = absurd (false≢true h)

operated : (o : Item) (r : Role) → token_role o ≡ r → is_operator r ≡ true → Has binary (node o ∷ [])
operated o Sum is h = (has_role o Sum is).1
operated o Star is h = (has_role o Star is).1
operated o In is h = (has_role o In is).1
operated o Operator is h = has_role o Operator is
operated o _ is h = absurd (false≢true h)

starry : (s : Item) (r : Role) → token_role s ≡ r → is_star r ≡ true → Has star (node s ∷ [])
starry s Star is h = (has_role s Star is).0
starry s Stars is h = has_role s Stars is
starry s _ is h = absurd (false≢true h)

assigning : (s : Item) (r : Role) → token_role s ≡ r → is_assignment r ≡ true → Has assignment (node s ∷ [])
assigning s Equals is h = (has_role s Equals is).1
assigning s Augmented is h = has_role s Augmented is
assigning s _ is h = absurd (false≢true h)

binary_formed : {xs : Items} → IsBinOp xs → Fits binary xs
binary_formed (operator {o} is) = operated o (token_role o) refl is
binary_formed (not_in {n} {i} rn ri) = latter (latter (in_turn (has_role n Not rn) (has_role i In ri).0))

-- two forms and what follows them
three : (f g h : Form) (ts rs : List Part) → Has (f then g) ts → Has h rs → Has (f then g then h) (ts ++ rs)
three f g h _ rs (in_turn {ps} {qs} a b) k = subst (Has (f then g then h)) (sym (append_assoc ps qs rs)) (in_turn a (in_turn b k))

-- of the clauses after an element the first is one of them
unfold_for : {ps : List Part} → Has (production Table.Nonterminal.Clauses) ps → Has (many (the Table.Nonterminal.For or word (codes "if") then the Table.Nonterminal.Binary)) ps
unfold_for (in_turn f more) = again (former f) more

-- the variables of a `for`, and the rest of it
apart : (t r : Items) → Fits (the Table.Nonterminal.Primary then many (sign (codes ",") then the Table.Nonterminal.Primary)) t → Fits (word (codes "in") then the Table.Nonterminal.Binary) r
    → Fits (the Table.Nonterminal.Primary then many (sign (codes ",") then the Table.Nonterminal.Primary) then word (codes "in") then the Table.Nonterminal.Binary) (join t r)
apart t r h k = subst (Has _) (sym (nodes_join t r)) (three _ _ _ (nodes t) (nodes r) h k)

called : (kind : GroupKind) (segs : Segs) (one_comma : Bool) (end : List (List ℕ)) → is_call kind ≡ true → Has (each_segment Table.Nonterminal.Argument) (contents segs)
    → Has (the Table.Nonterminal.Bracketed) (node (group kind segs one_comma end) ∷ [])
called Call segs one_comma end is h = by_production (former (in_bracket h))
called RuleCall segs one_comma end is h = by_production (latter (former (in_bracket h)))
called _ segs one_comma end is h = absurd (false≢true is)

mutual
  test_form : {xs : Items} → IsTest xs → AreOf Table.Nonterminal.Test xs
  test_form (plain {xs} c) = by_production (alone _ _ xs (by_production (chain_parts c)) (former none))
  test_form (conditional {xs} {a} {b} {c} i e is first ri second re third) =
      by_production (along _ xs (join a (item i (join b (item e c)))) is (beside _ _ a (item i (join b (item e c))) (by_production (chain_parts first))
      (latter (in_turn (has_role i If ri) (beside _ _ b (item e c) (by_production (chain_parts second)) (in_turn (has_role e Else re) (test_form third)))))))

  chain_parts : {xs : Items} → IsChain xs → Fits (production Table.Nonterminal.Binary) xs
  chain_parts (single {xs} t) = alone _ _ xs (by_production (term_parts t)) no_more
  chain_parts (binary_chain {xs} {a} {b} o is t op c) =
      along _ xs (join a (join o b)) is (beside _ _ a (join o b) (by_production (term_parts t))
      (subst (Has (many (binary then the Table.Nonterminal.Unary))) (sym (nodes_join o b)) (regrouped binary (the Table.Nonterminal.Unary) (nodes o) (nodes b) (binary_formed op) (chain_parts c))))

  term_parts : {xs : Items} → IsTerm xs → Fits (production Table.Nonterminal.Unary) xs
  term_parts (primary p) = in_turn no_more (primary_form p)
  term_parts (unary {p} {xs} is t) = one_more prefix (the Table.Nonterminal.Primary) (node p ∷ []) (nodes xs) (prefixed p (token_role p) refl is) (term_parts t)

  primary_form : {xs : Items} → IsPrimary xs → AreOf Table.Nonterminal.Primary xs
  primary_form (number {x} is s no_dot) = by_production (latter (in_turn (has_role x Number is) (bare_suffixes s no_dot)))
  primary_form (operand o s) = by_production (former (in_turn (operand_form o) (suffixes_form s)))

  bare_suffixes : {xs : Items} → AreSuffixes xs → begins_dot xs ≡ false → Fits (maybe (the Table.Nonterminal.Bracketed then many (the Table.Nonterminal.Suffix))) xs
  bare_suffixes no_suffix no_dot = former none
  bare_suffixes (member {d} rd rn s) no_dot = absurd (false≢true (sym no_dot ∙ ap is_dot_role rd))
  bare_suffixes (suffix s more) no_dot = latter (in_turn (suffix_form s) (suffixes_form more))

  suffixes_form : {xs : Items} → AreSuffixes xs → Fits (many (the Table.Nonterminal.Suffix)) xs
  suffixes_form no_suffix = no_more
  suffixes_form (member {d} {n} rd rn more) = again (by_production (former (in_turn (has_role d Dot rd) (has_role n Name rn)))) (suffixes_form more)
  suffixes_form (suffix s more) = again (by_production (latter (suffix_form s))) (suffixes_form more)

  suffix_form : {x : Item} → IsSuffix x → Has (the Table.Nonterminal.Bracketed) (node x ∷ [])
  suffix_form (call {kind} {segs} {one_comma} {end} is a) = called kind segs one_comma end is (args_form a)
  suffix_form (index i) = by_production (latter (latter (in_bracket (in_segment (index_form i)))))

  operand_form : {x : Item} → IsOperand x → Has (the Table.Nonterminal.Operand) (node x ∷ [])
  operand_form (ident {x} is) = by_production (former (has_role x Name is))
  operand_form (text {x} is) = by_production (latter (former (has_role x Value is)))
  operand_form (paren t) = by_production (latter (latter (former (in_bracket (tests_form t)))))
  operand_form (list t) = by_production (latter (latter (latter (former (in_bracket (tests_form t))))))
  operand_form (dict e) = by_production (latter (latter (latter (latter (former (in_bracket (entries_form e)))))))
  operand_form (list_comp e) = by_production (latter (latter (latter (latter (latter (former (in_bracket (in_segment (element_form e)))))))))
  operand_form (dict_comp e) = by_production (latter (latter (latter (latter (latter (latter (in_bracket (in_segment (entry_element_form e)))))))))

  tests_form : {segs : Segs} → AreTests segs → Has (each_segment Table.Nonterminal.Test) (contents segs)
  tests_form no_test = no_more
  tests_form (one_test t more) = again (in_segment (test_form t)) (tests_form more)

  args_form : {segs : Segs} → AreArgs segs → Has (each_segment Table.Nonterminal.Argument) (contents segs)
  args_form no_arg = no_more
  args_form (one_arg a more) = again (in_segment (arg_form a)) (args_form more)

  pub arg_form : {xs : Items} → IsArg xs → AreOf Table.Nonterminal.Argument xs
  arg_form (positional t) = by_production (former (test_form t))
  arg_form (keyword {n} {e} rn re t) = by_production (latter (former (in_turn (has_role n Name rn) (in_turn (has_role e Equals re).0 (test_form t)))))
  arg_form (starred {s} is t) = by_production (latter (latter (in_turn (starry s (token_role s) refl is) (test_form t))))

  entries_form : {segs : Segs} → AreEntries segs → Has (each_segment Table.Nonterminal.Entry) (contents segs)
  entries_form no_entry = no_more
  entries_form (one_entry e more) = again (in_segment (entry_form e)) (entries_form more)

  entry_form : {xs : Items} → IsEntry xs → AreOf Table.Nonterminal.Entry xs
  entry_form (entry {xs} {a} {b} c is first rc second) = by_production (along _ xs (join a (item c b)) is (beside _ _ a (item c b) (test_form first) (in_turn (has_role c Colon rc) (test_form second))))

  element_form : {xs : Items} → IsElement xs → Fits (the Table.Nonterminal.Test then the Table.Nonterminal.Clauses) xs
  element_form (element {xs} {a} {b} is t f) = along _ xs (join a b) is (beside _ _ a b (test_form t) (by_production (for_parts f)))

  entry_element_form : {xs : Items} → IsEntryElement xs → Fits (the Table.Nonterminal.Entry then the Table.Nonterminal.Clauses) xs
  entry_element_form (entry_element {xs} {a} {b} c is t rc e) = along _ xs (join a (item c b)) is (entry_then a c b (test_form t) rc e)

  entry_then : (a : Items) (c : Item) (b : Items) → AreOf Table.Nonterminal.Test a → token_role c ≡ Colon → IsElement b → Fits (the Table.Nonterminal.Entry then the Table.Nonterminal.Clauses) (join a (item c b))
  entry_then a c _ t rc (element {xs} {a = v} {b = m} is value f) =
      along _ (join a (item c xs)) (join (join a (item c v)) m) (ap (λ (ys : Items). join a (item c ys)) is ∙ sym (join_assoc a (item c v) m))
      (beside _ _ (join a (item c v)) m (by_production (beside _ _ a (item c v) t (in_turn (has_role c Colon rc) (test_form value)))) (by_production (for_parts f)))

  for_parts : {xs : Items} → IsFor xs → Fits (production Table.Nonterminal.Clauses) xs
  for_parts (for {xs} {t} {c} {m} f i is rf targets ri chain more) =
      along _ xs (join (item f (join t (item i c))) m) (is ∙ ap (item f) (sym (join_assoc t (item i c) m)))
      (beside _ _ (item f (join t (item i c))) m (by_production (in_turn (has_role f For rf) (apart t (item i c) (targets_form targets) (in_turn (has_role i In ri).0 (by_production (chain_parts chain)))))) (clauses_form more))

  targets_form : {xs : Items} → AreTargets xs → Fits (the Table.Nonterminal.Primary then many (sign (codes ",") then the Table.Nonterminal.Primary)) xs
  targets_form (last_target {xs} p) = alone _ _ xs (primary_form p) no_more
  targets_form (target {xs} {a} {b} c is p rc more) =
      along _ xs (join a (item c b)) is (beside _ _ a (item c b) (primary_form p) (regrouped (sign (codes ",")) (the Table.Nonterminal.Primary) (node c ∷ []) (nodes b) (has_role c Comma rc) (targets_form more)))

  clauses_form : {xs : Items} → AreClauses xs → Fits (many (the Table.Nonterminal.For or word (codes "if") then the Table.Nonterminal.Binary)) xs
  clauses_form no_clause = no_more
  clauses_form (for_clause f) = unfold_for (for_parts f)
  clauses_form (if_clause {xs} {c} {m} i is ri chain more) =
      along _ xs (join (item i c) m) is (subst (Has _) (sym (nodes_join (item i c) m)) (again (latter (in_turn (has_role i If ri) (by_production (chain_parts chain)))) (clauses_form more)))

  index_form : {xs : Items} → IsIndex xs → AreOf Table.Nonterminal.Subscript xs
  index_form (at t) = by_production (former (test_form t))
  index_form (slice {xs} {a} {b} c is first rc more) = by_production (latter (along _ xs (join a (item c b)) is (beside _ _ a (item c b) (optional_form first) (in_turn (has_role c Colon rc) (range_form more)))))

  range_form : {xs : Items} → IsRange xs → Fits (maybe (the Table.Nonterminal.Test) then maybe (sign (codes ":") then maybe (the Table.Nonterminal.Test))) xs
  range_form (upper {xs} o) = alone _ _ xs (optional_form o) (former none)
  range_form (stepped {xs} {a} {b} c is first rc last) = along _ xs (join a (item c b)) is (beside _ _ a (item c b) (optional_form first) (latter (in_turn (has_role c Colon rc) (optional_form last))))

  optional_form : {xs : Items} → IsOptional xs → Fits (maybe (the Table.Nonterminal.Test)) xs
  optional_form nothing = former none
  optional_form (some t) = latter (test_form t)

-- statements
expr_parts : {xs : Items} → IsExpr xs → Fits (production Table.Nonterminal.Expression) xs
expr_parts (last_test {xs} t) = alone _ _ xs (test_form t) no_more
expr_parts (test {xs} {a} {b} c is t rc more) =
    along _ xs (join a (item c b)) is (beside _ _ a (item c b) (test_form t) (regrouped (sign (codes ",")) (the Table.Nonterminal.Test) (node c ∷ []) (nodes b) (has_role c Comma rc) (expr_parts more)))

string_form : {xs : Items} → IsString xs → Fits (any String) xs
string_form (string {x} is) = has_role x Value is

load_arg_form : {xs : Items} → IsLoadArg xs → AreOf Table.Nonterminal.LoadArgument xs
load_arg_form (loaded s) = by_production (in_turn (former none) (string_form s))
load_arg_form (renamed {n} {e} rn re s) = by_production (in_turn (latter (in_turn (has_role n Name rn) (has_role e Equals re).0)) (string_form s))

load_args_form : {segs : Segs} → AreLoadArgs segs → Has (each_segment Table.Nonterminal.LoadArgument) (contents segs)
load_args_form no_load_arg = no_more
load_args_form (load_arg a more) = again (in_segment (load_arg_form a)) (load_args_form more)

load_word_form : (w : Item) → is_load_word w ≡ true → Has (word (codes "load")) (node w ∷ [])
load_word_form (leaf Keyword bytes) is = of_texts (or_left (bytes_eq bytes (codes "load")) false is)
load_word_form (leaf _ bytes) is = absurd (false≢true is)
load_word_form (group kind segs one_comma end) is = absurd (false≢true is)

load_form : {xs : Items} → IsLoad xs → Fits (word (codes "load") then bracket Load (segment (any String) then each_segment Table.Nonterminal.LoadArgument)) xs
load_form (load {w} is s args) = in_turn (load_word_form w is) (in_bracket (in_turn (in_segment (string_form s)) (load_args_form args)))

pub statement_form : {xs : Items} → IsStatement xs → Table.IsStatement xs
statement_form comments = by_production (former none)
statement_form (expression e) = by_production (latter (former (by_production (expr_parts e))))
statement_form (assigned {xs} {a} {b} s is first rs second) =
    by_production (latter (latter (former (along _ xs (join a (item s b)) is (beside _ _ a (item s b) (by_production (expr_parts first)) (in_turn (assigning s (token_role s) refl rs) (by_production (expr_parts second))))))))
statement_form (load_statement l) = by_production (latter (latter (latter (load_form l))))
