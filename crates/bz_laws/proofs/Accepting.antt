-- Tests and arguments by what the recognizer accepts, which looks at the roles of nodes alone.
use Rattle.std.proofs.Common.{◌≡◌, ℕ, List, [], Bool, true, false, None, refl, inl, inr}
use Rattle.std.proofs.lemmas.Bool.{cases_Bool, and_parts, false≢true}
use Rattle.bz_token.specs.declared.token.Kind.TheVariants.{Identifier}
use Rattle.bz_tree.specs.declared.tree.GroupKind.TheVariants.{Call, List as ListKind}
use Rattle.bz_tree.specs.declared.grammar.role.Role.TheVariants.{Bracket}
use Rattle.bz_tree.specs.Tree.{leaf, group, Items, no_items, item, Segs, no_segs, seg}
use Rattle.bz_tree.specs.private.Productions.{IsTest, plain, single, primary, operand, no_suffix, suffix, call, ident, list, AreTests, no_test, one_test, AreArgs, no_arg, one_arg, IsArg, last_test, IsStatement, expression}
use Rattle.bz_tree.specs.private.Machine.{accepts, begin, each, is_statement, role_of}
use Rattle.bz_tree.proofs.Recognizer.Recognized.{produced_accepted, accepted_produced}
use Rattle.bz_layout_laws.specs.Legible.{are_some}
use Rattle.bz_laws.proofs.Tests.{statement_outer}

-- a statement that is one list, and one that is a call
abbrev one_list : Segs → Items
one_list segs = item (group ListKind segs false []) no_items

abbrev one_call : Segs → Items
one_call segs = item (leaf Identifier []) (item (group Call segs false []) no_items)

list_statement : (segs : Segs) → AreTests segs → IsStatement (one_list segs)
list_statement segs h = expression (last_test (plain (single (primary (operand (list h) no_suffix)))))

call_statement : (segs : Segs) → AreArgs segs → IsStatement (one_call segs)
call_statement segs h = expression (last_test (plain (single (primary (operand (ident refl) (suffix (call refl h) no_suffix))))))

tests_each : (segs : Segs) → AreTests segs → each (begin ListKind) segs ≡ true
tests_each segs h = elim (cases_Bool (each (begin ListKind) segs)) [
  | inl is ↦ is
  | inr miss ↦ absurd (let is : is_statement (one_list segs) ≡ true = produced_accepted (list_statement segs h) in false≢true (rw miss at is))
]

each_tests : (segs : Segs) → each (begin ListKind) segs ≡ true → AreTests segs
each_tests segs h =
    let is : is_statement (one_list segs) ≡ true = rw h refl in
    (statement_outer (accepted_produced (one_list segs) is)).0.1 refl

args_each : (segs : Segs) → AreArgs segs → each (begin Call) segs ≡ true
args_each segs h = elim (cases_Bool (each (begin Call) segs)) [
  | inl is ↦ is
  | inr miss ↦ absurd (let is : is_statement (one_call segs) ≡ true = produced_accepted (call_statement segs h) in false≢true (rw miss at is))
]

-- a list whose elements are in the grammar is an operand
pub list_role : (segs : Segs) (one_comma : Bool) (end : List (List ℕ)) → AreTests segs → role_of (group ListKind segs one_comma end) ≡ Bracket
list_role segs one_comma end h = rw (tests_each segs h) refl

pub test_accepted : (xs : Items) → IsTest xs → accepts (begin ListKind) xs ≡ true
test_accepted xs h = (and_parts (accepts (begin ListKind) xs) true (tests_each (seg [] xs None no_segs) (one_test h no_test))).0

first_test : (xs : Items) → AreTests (seg [] xs None no_segs) → IsTest xs
first_test xs (one_test h more) = h

pub accepted_test : (xs : Items) → accepts (begin ListKind) xs ≡ true → IsTest xs
accepted_test xs h = first_test xs (each_tests (seg [] xs None no_segs) (rw h refl))

pub test_some : (xs : Items) → IsTest xs → are_some xs ≡ true
test_some no_items h = absurd (false≢true (test_accepted no_items h))
test_some (item x xs) h = refl

pub argument_some : (xs : Items) → IsArg xs → are_some xs ≡ true
argument_some no_items h = absurd (false≢true (args_each (seg [] no_items None no_segs) (one_arg h no_arg)))
argument_some (item x xs) h = refl
