-- A statement of the grammar begins with no word that begins a block.
use Rattle.std.proofs.Common.{◌≡◌, ℕ, ◌&&◌, ◌||◌, List, Bool, true, false, refl, sym, ap, ◌∙◌, inl, inr}
use Rattle.std.specs.Prelude.{codes, is_some}
use Rattle.std.specs.Str.{bytes_eq}
use Rattle.std.proofs.lemmas.Bool.{cases_Bool, false≢true}
use Rattle.bz_token.specs.declared.token.Kind.{Kind}
use Rattle.bz_token.specs.declared.token.Kind.TheVariants.{Keyword, String}
use Rattle.bz_token.specs.Blocks.{opener_of}
use Rattle.bz_token.specs.Lexical.{is_text, keywords, operators}
use Rattle.bz_token.proofs.Classes.{same_bytes}
use Rattle.bz_tree.specs.declared.grammar.role.Role.{Role}
use Rattle.bz_tree.specs.declared.grammar.role.Role.TheVariants.{Name, Number, Value, Not, Tilde, Sum}
use Rattle.bz_tree.specs.Grammar as Table
use Rattle.bz_tree.proofs.Recognizer.FromTable.{statement_produced}
use Rattle.bz_tree.specs.private.Productions.{leaf_role, token_role, is_prefix, join, IsTest, plain, conditional, IsChain, single, binary, IsTerm, primary, unary, IsPrimary, number, operand, IsOperand, ident, text as string_operand, paren, list, dict, list_comp, dict_comp, IsExpr, last_test, test, IsLoad, load, IsStatement, comments, load_statement, expression, assignment}
use Rattle.bz_tree.specs.Kinds.{is_load_word}
use Rattle.bz_tree.specs.Tree.{Item, leaf, group, Items, no_items, item}
use Rattle.bz_layout_laws.specs.Legible.{begins_block}
use Rattle.bz_layout_laws.specs.TextsOfKinds.{HasText, HaveTexts}

-- what an operand and its prefixes begin with
abbrev leads : Role → Bool
leads Name = true
leads Number = true
leads Value = true
leads Not = true
leads Tilde = true
leads Sum = true
leads _ = false

abbrev pub opens : Item → Bool
opens (leaf kind text) = leads (leaf_role kind text)
opens (group kind segs one_comma end) = true

abbrev pub begins_operand : Items → Bool
begins_operand no_items = false
begins_operand (item x xs) = opens x

-- such a token is none of the words that begin a block
abbrev pub is_leading : Kind → List ℕ → Bool
is_leading kind text = is_text kind text && leads (leaf_role kind text)

none_leads : (kind : Kind) → (is_leading kind (codes "def") || is_leading kind (codes "for") || is_leading kind (codes "if")) ≡ false
unfolding keywords operators
none_leads String = refl
none_leads _ = refl

none_of_three : (a b c : Bool) → (a || b || c) ≡ false → (a ≡ false) × (b ≡ false) × (c ≡ false)
none_of_three true b c h = absurd (false≢true (sym h))
none_of_three false true c h = absurd (false≢true (sym h))
none_of_three false false true h = absurd (false≢true (sym h))
none_of_three false false false h = (refl, refl, refl)

pub both : (a b : Bool) → a ≡ true → b ≡ true → (a && b) ≡ true
both true b g h = h
both false b g h = absurd (false≢true g)

pub other_text : (kind : Kind) (text word : List ℕ) → is_leading kind word ≡ false → is_leading kind text ≡ true → bytes_eq text word ≡ false
other_text kind text word none is = elim (cases_Bool (bytes_eq text word)) [
  | inr miss ↦ miss
  | inl hit ↦ absurd (false≢true (sym none ∙ ap (is_leading kind) (sym (same_bytes text word hit)) ∙ is))
]

leading_no_opener : (kind : Kind) (text : List ℕ) → is_leading kind text ≡ true → is_some (opener_of text) ≡ false
leading_no_opener kind text is =
    let none = none_of_three _ _ _ (none_leads kind) in
    let no_def = other_text kind text (codes "def") none.0 is in
    let no_for = other_text kind text (codes "for") none.1 is in
    let no_if = other_text kind text (codes "if") none.2 is in
    rw (no_def, no_for, no_if) refl

opening_no_block : (x : Item) (xs : Items) → opens x ≡ true → HasText x → begins_block (item x xs) ≡ false
opening_no_block (leaf kind text) xs h is = leading_no_opener kind text (both (is_text kind text) _ is.0 h)
opening_no_block (group kind segs one_comma end) xs h is = refl

operand_no_block : (xs : Items) → begins_operand xs ≡ true → HaveTexts xs → begins_block xs ≡ false
operand_no_block no_items h are = refl
operand_no_block (item x xs) h are = opening_no_block x xs h are.0

-- what begins with an operand
role_opens : (x : Item) → leads (token_role x) ≡ true → opens x ≡ true
role_opens (leaf kind text) h = h
role_opens (group kind segs one_comma end) h = refl

prefix_leads : (r : Role) → is_prefix r ≡ true → leads r ≡ true
prefix_leads Sum h = refl
prefix_leads Tilde h = refl
prefix_leads Not h = refl
prefix_leads _ h = absurd (false≢true h)

operand_opens : {x : Item} → IsOperand x → opens x ≡ true
operand_opens (ident {x} e) = role_opens x (ap leads e)
operand_opens (string_operand {x} e) = role_opens x (ap leads e)
operand_opens (paren ts) = refl
operand_opens (list ts) = refl
operand_opens (dict es) = refl
operand_opens (list_comp e) = refl
operand_opens (dict_comp e) = refl

primary_begins : {xs : Items} → IsPrimary xs → begins_operand xs ≡ true
primary_begins (number {x} e more bare) = role_opens x (ap leads e)
primary_begins (operand o more) = operand_opens o

term_begins : {xs : Items} → IsTerm xs → begins_operand xs ≡ true
term_begins (primary p) = primary_begins p
term_begins (unary {p} is t) = role_opens p (prefix_leads (token_role p) is)

pub join_begins : (a b : Items) → begins_operand a ≡ true → begins_operand (join a b) ≡ true
join_begins no_items b h = absurd (false≢true h)
join_begins (item x xs) b h = h

chain_begins : {xs : Items} → IsChain xs → begins_operand xs ≡ true
chain_begins (single t) = term_begins t
chain_begins (binary {xs} {a} {b} o is t op more) = ap begins_operand is ∙ join_begins a (join o b) (term_begins t)

test_begins : {xs : Items} → IsTest xs → begins_operand xs ≡ true
test_begins (plain t) = chain_begins t
test_begins (conditional {xs} {a} {b} {c} i e is first ri second re third) = ap begins_operand is ∙ join_begins a _ (chain_begins first)

pub expr_begins : {xs : Items} → IsExpr xs → begins_operand xs ≡ true
expr_begins (last_test t) = test_begins t
expr_begins (test {xs} {a} {b} c is t rc more) = ap begins_operand is ∙ join_begins a (item c b) (test_begins t)

load_no_block : (w : Item) (xs : Items) → is_load_word w ≡ true → begins_block (item w xs) ≡ false
load_no_block (leaf Keyword text) xs is = ap (λ t. is_some (opener_of t)) (same_bytes text (codes "load") is)
load_no_block (leaf _ text) xs is = absurd (false≢true is)
load_no_block (group kind segs one_comma end) xs is = refl

load_begins : {xs : Items} → IsLoad xs → begins_block xs ≡ false
load_begins (load {w} is s args) = load_no_block w _ is

produced_begins : (xs : Items) → IsStatement xs → HaveTexts xs → begins_block xs ≡ false
produced_begins xs comments are = refl
produced_begins xs (load_statement l) are = load_begins l
produced_begins xs (expression e) are = operand_no_block xs (expr_begins e) are
produced_begins xs (assignment {a} {b} s is ea es eb) are = operand_no_block xs (ap begins_operand is ∙ join_begins a (item s b) (expr_begins ea)) are

pub begins_no_block : (xs : Items) → Table.IsStatement xs → HaveTexts xs → begins_block xs ≡ false
begins_no_block xs h are = produced_begins xs (statement_produced xs h) are
