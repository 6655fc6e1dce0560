-- Groups on lines and in place, where the layout has them otherwise, and a string in single quotes: the statement with that
-- choice, and its text.
use Rattle.std.proofs.Common.{◌≡◌, ℕ, List, [], ◌∷◌, Bool, true, false, None, refl}
use Rattle.std.specs.Prelude.{codes}
use Rattle.bz_token.specs.declared.token.Kind.TheVariants.{Identifier, Operator, String, Integer}
use Rattle.bz_tree.specs.declared.tree.Class.TheVariants.{Assign}
use Rattle.bz_tree.specs.declared.tree.GroupKind.TheVariants.{List as ListKind}
use Rattle.bz_tree.specs.Tree.{leaf, group, Items, no_items, item, Segs, no_segs, seg, Statement}
use Rattle.bz_layout_laws.specs.FreeLayout.{Choice, own, free, text_by}

-- x = [..]
statement : Segs → Statement
statement segs = record { before = []; nodes = leaf Identifier (codes "x") ∷ leaf Operator (codes "=") ∷ group ListKind segs false [] ∷ []; suffix = None; class = Assign; start = 1; end = 1 }

abbrev one : Items → Segs → Segs
one nodes ss = seg [] nodes None ss

abbrev number : List ℕ → Items
number text = item (leaf Integer text) no_items

-- the list alone stands freely, and what is in it as the layout has it
abbrev list_free : Bool → Choice → Choice
list_free breaks inner = free false own (free false own (free false (free breaks inner own) own))

one_on_lines : text_by (list_free true own) (statement (one (number (codes "1")) no_segs)) ≡ codes "x = [\n    1,\n]\n"
unfolding statement
one_on_lines = refl

two_in_place : text_by (list_free false own) (statement (one (number (codes "1")) (one (number (codes "2")) no_segs))) ≡ codes "x = [1, 2]\n"
unfolding statement
two_in_place = refl

two_as_they_are : text_by own (statement (one (number (codes "1")) (one (number (codes "2")) no_segs))) ≡ codes "x = [\n    1,\n    2,\n]\n"
unfolding statement
two_as_they_are = refl

abbrev word : Items
word = item (leaf String (codes "'a'")) no_items

string_as_it_is : text_by (list_free false (free false (free false (free false own own) own) own)) (statement (one word no_segs)) ≡ codes "x = ['a']\n"
unfolding statement
string_as_it_is = refl

string_respelled : text_by (list_free false own) (statement (one word no_segs)) ≡ codes "x = [\"a\"]\n"
unfolding statement
string_respelled = refl
