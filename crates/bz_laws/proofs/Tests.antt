-- What stands in a test outside brackets: no `for` and no `=`, and what stands in its calls and lists is in the grammar.
use Rattle.std.proofs.Common.{◌≡◌, Bool, true, false, refl, sym, ap, subst, ◌∙◌}
use Rattle.std.proofs.lemmas.Bool.{false≢true}
use Rattle.bz_tree.specs.declared.tree.GroupKind.{GroupKind}
use Rattle.bz_tree.specs.declared.tree.GroupKind.TheVariants.{Call, RuleCall, Load, Paren, List as ListKind, Index, Dict, ListComp, DictComp}
use Rattle.bz_tree.specs.declared.grammar.role.Role.{Role}
use Rattle.bz_tree.specs.declared.grammar.role.Role.TheVariants.{Name, Number, Value, Dot, Equals, Augmented, If, Else, For, In, Not, Tilde, Sum, Star, Operator, Stray}
use Rattle.bz_tree.specs.Tree.{Item, leaf, group, Items, no_items, item, Segs, is_call}
use Rattle.bz_tree.specs.Kinds.{is_load_word}
use Rattle.bz_tree.specs.private.Productions.{leaf_role, token_role, is_prefix, is_operator, is_assignment, join, IsBinOp, operator, not_in, IsTest, plain, conditional, IsChain, single, binary, IsTerm, primary, unary, IsPrimary, number, operand, AreSuffixes, no_suffix, member, suffix, IsSuffix, call, index, IsOperand, ident, text, paren, list, dict, list_comp, dict_comp, AreTests, AreArgs, IsExpr, last_test, test, IsLoad, load, IsStatement, comments, load_statement, expression, assignment}

abbrev pub is_list_kind : GroupKind → Bool
is_list_kind ListKind = true
is_list_kind _ = false

-- a token that may stand in a test outside brackets, or else `,`, `:` or an augmented assignment
abbrev pub is_token : Role → Bool
is_token For = false
is_token Equals = false
is_token Stray = false
is_token _ = true

-- what stands in a call or a list is in the grammar
abbrev IsFilled : GroupKind → Segs → Type 0
IsFilled kind segs = (is_call kind ≡ true → AreArgs segs) × (is_list_kind kind ≡ true → AreTests segs)

abbrev pub IsInner : Item → Type 0
IsInner (leaf kind bytes) = is_token (leaf_role kind bytes) ≡ true
IsInner (group kind segs one_comma end) = IsFilled kind segs

abbrev pub IsOuter : Item → Type 0
IsOuter (leaf kind bytes) = Unit {0}
IsOuter (group kind segs one_comma end) = IsFilled kind segs

abbrev pub Each : (Item → Type 0) → Items → Type 0
Each P no_items = Unit {0}
Each P (item x xs) = P x × Each P xs

each_join : (P : Item → Type 0) (xs ys : Items) → Each P xs → Each P ys → Each P (join xs ys)
each_join P no_items ys h k = k
each_join P (item x xs) ys h k = (h.0, each_join P xs ys h.1 k)

token_inner : (x : Item) → is_token (token_role x) ≡ true → IsInner x
token_inner (leaf kind bytes) h = h
token_inner (group kind segs one_comma end) h = absurd (false≢true h)

known_inner : (x : Item) (r : Role) → token_role x ≡ r → is_token r ≡ true → IsInner x
known_inner x r e h = token_inner x (ap is_token e ∙ h)

prefix_token : (r : Role) → is_prefix r ≡ true → is_token r ≡ true
prefix_token Sum h = refl
prefix_token Tilde h = refl
prefix_token Not h = refl
prefix_token _ h = absurd (false≢true h)

operator_token : (r : Role) → is_operator r ≡ true → is_token r ≡ true
operator_token Sum h = refl
operator_token Star h = refl
operator_token In h = refl
operator_token Operator h = refl
operator_token _ h = absurd (false≢true h)

no_call_no_list : (kind : GroupKind) (segs : Segs) → is_call kind ≡ false → is_list_kind kind ≡ false → IsFilled kind segs
no_call_no_list kind segs h k = (λ e. absurd (false≢true (sym h ∙ e)), λ e. absurd (false≢true (sym k ∙ e)))

call_is_no_list : (kind : GroupKind) → is_call kind ≡ true → is_list_kind kind ≡ true → ⊥
call_is_no_list Call h k = false≢true k
call_is_no_list RuleCall h k = false≢true k
call_is_no_list _ h k = false≢true h

operator_inner : {xs : Items} → IsBinOp xs → Each IsInner xs
operator_inner (operator {o} h) = (token_inner o (operator_token (token_role o) h), tt)
operator_inner (not_in {n} {i} en ei) = (known_inner n Not en refl, (known_inner i In ei refl, tt))

suffix_inner : {x : Item} → IsSuffix x → IsInner x
suffix_inner (call {kind} h args) = (λ e. args, λ e. absurd (call_is_no_list kind h e))
suffix_inner (index h) = no_call_no_list Index _ refl refl

suffixes_inner : {xs : Items} → AreSuffixes xs → Each IsInner xs
suffixes_inner no_suffix = tt
suffixes_inner (member {d} {n} ed en more) = (known_inner d Dot ed refl, (known_inner n Name en refl, suffixes_inner more))
suffixes_inner (suffix s more) = (suffix_inner s, suffixes_inner more)

operand_inner : {x : Item} → IsOperand x → IsInner x
operand_inner (ident {x} e) = known_inner x Name e refl
operand_inner (text {x} e) = known_inner x Value e refl
operand_inner (paren h) = no_call_no_list Paren _ refl refl
operand_inner (list h) = (λ e. absurd (false≢true e), λ e. h)
operand_inner (dict h) = no_call_no_list Dict _ refl refl
operand_inner (list_comp h) = no_call_no_list ListComp _ refl refl
operand_inner (dict_comp h) = no_call_no_list DictComp _ refl refl

primary_inner : {xs : Items} → IsPrimary xs → Each IsInner xs
primary_inner (number {x} e more none) = (known_inner x Number e refl, suffixes_inner more)
primary_inner (operand o more) = (operand_inner o, suffixes_inner more)

term_inner : {xs : Items} → IsTerm xs → Each IsInner xs
term_inner (primary p) = primary_inner p
term_inner (unary {p} h t) = (token_inner p (prefix_token (token_role p) h), term_inner t)

chain_inner : {xs : Items} → IsChain xs → Each IsInner xs
chain_inner (single t) = term_inner t
chain_inner (binary {xs} {a} {b} o is t h c) =
    subst (Each IsInner) (sym is) (each_join IsInner a (join o b) (term_inner t) (each_join IsInner o b (operator_inner h) (chain_inner c)))

pub test_inner : {xs : Items} → IsTest xs → Each IsInner xs
test_inner (plain c) = chain_inner c
test_inner (conditional {xs} {a} {b} {c} i e is ha hi hb he hc) =
    subst (Each IsInner) (sym is)
    (each_join IsInner a (item i (join b (item e c))) (chain_inner ha)
    (known_inner i If hi refl, each_join IsInner b (item e c) (chain_inner hb) (known_inner e Else he refl, test_inner hc)))

-- statements
outer : (x : Item) → IsInner x → IsOuter x
outer (leaf kind bytes) h = tt
outer (group kind segs one_comma end) h = h

each_outer : (xs : Items) → Each IsInner xs → Each IsOuter xs
each_outer no_items h = tt
each_outer (item x xs) h = (outer x h.0, each_outer xs h.1)

abbrev is_stray : Role → Bool
is_stray Stray = true
is_stray _ = false

token_outer : (x : Item) → is_stray (token_role x) ≡ false → IsOuter x
token_outer (leaf kind bytes) h = tt
token_outer (group kind segs one_comma end) h = absurd (false≢true (sym h))

assignment_token : (r : Role) → is_assignment r ≡ true → is_stray r ≡ false
assignment_token Equals h = refl
assignment_token Augmented h = refl
assignment_token _ h = absurd (false≢true h)

expression_outer : {xs : Items} → IsExpr xs → Each IsOuter xs
expression_outer (last_test {xs} t) = each_outer xs (test_inner t)
expression_outer (test {xs} {a} {b} c is t e more) =
    subst (Each IsOuter) (sym is) (each_join IsOuter a (item c b) (each_outer a (test_inner t)) (token_outer c (ap is_stray e), expression_outer more))

load_outer : {xs : Items} → IsLoad xs → Each IsOuter xs
load_outer (load {w} h s args) = (word_outer w h, (no_call_no_list Load _ refl refl, tt))
  where
    word_outer : (w : Item) → is_load_word w ≡ true → IsOuter w
    word_outer (leaf kind bytes) h = tt
    word_outer (group kind segs one_comma end) h = absurd (false≢true h)

pub statement_outer : {xs : Items} → IsStatement xs → Each IsOuter xs
statement_outer comments = tt
statement_outer (load_statement l) = load_outer l
statement_outer (expression e) = expression_outer e
statement_outer (assignment {xs} {a} {b} s is ea es eb) =
    subst (Each IsOuter) (sym is) (each_join IsOuter a (item s b) (expression_outer ea) (token_outer s (assignment_token (token_role s) es), expression_outer eb))
