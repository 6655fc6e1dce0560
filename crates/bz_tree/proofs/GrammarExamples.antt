-- Worked examples of the grammar: nodes that are a statement, and nodes that are none.
use Rattle.std.proofs.Common.{◌≡◌, ℕ, List, [], ◌∷◌, ◌++◌, true, false, None, refl, sym, ◌∙◌}
use Rattle.std.specs.Prelude.{codes}
use Rattle.std.proofs.lemmas.Bool.{false≢true}
use Rattle.bz_token.specs.declared.token.Kind.TheVariants.{Identifier, Keyword, Integer, String, Operator}
use Rattle.bz_tree.specs.declared.tree.GroupKind.{GroupKind}
use Rattle.bz_tree.specs.declared.tree.GroupKind.TheVariants.{Load, Index, ListComp}
use Rattle.bz_tree.specs.Tree.{Item, leaf, group, items_of, Segs, no_segs, seg}
use Rattle.bz_tree.specs.Grammar.{IsStatement, AreOf, Unary, none, of_kind, of_texts, by_production, in_turn, former, no_more, again}
use Rattle.bz_tree.specs.private.Machine.{is_statement}
use Rattle.bz_tree.proofs.Recognizer.Recognized.{statement_accepted, accepted_statement}

abbrev name : List ℕ → Item
name text = leaf Identifier text

abbrev sign : List ℕ → Item
sign text = leaf Operator text

abbrev word : List ℕ → Item
word text = leaf Keyword text

abbrev one : Item
one = leaf Integer (codes "1")

-- a bracket of one segment
abbrev around : GroupKind → List Item → Item
around kind nodes = group kind (seg [] (items_of nodes) None no_segs) false []

-- `-x`, by the rows
minus : AreOf Unary (items_of (sign (codes "-") ∷ name (codes "x") ∷ []))
minus = by_production (in_turn (again (former (of_texts refl)) no_more) (by_production (former (in_turn (by_production (former of_kind)) no_more))))

accepted : (nodes : List Item) → is_statement (items_of nodes) ≡ true → IsStatement (items_of nodes)
accepted nodes is = accepted_statement (items_of nodes) is

-- no statement
abbrev IsNone : List Item → Type 0
IsNone nodes = IsStatement (items_of nodes) → ⊥

refused : (nodes : List Item) → is_statement (items_of nodes) ≡ false → IsNone nodes
refused nodes not h = false≢true (sym not ∙ statement_accepted (items_of nodes) h)

-- comment lines alone
comments : IsStatement (items_of [])
comments = by_production (former none)

abbrev x : Item
x = name (codes "x")

abbrev y : Item
y = name (codes "y")

-- `x = not y, 1`, but not `x = y = 1`
abbrev assignment : List Item
assignment = x ∷ sign (codes "=") ∷ word (codes "not") ∷ y ∷ sign (codes ",") ∷ one ∷ []

assigned : IsStatement (items_of assignment)
assigned = accepted assignment refl

assigned_twice : IsNone (x ∷ sign (codes "=") ∷ y ∷ sign (codes "=") ∷ one ∷ [])
assigned_twice = refused (x ∷ sign (codes "=") ∷ y ∷ sign (codes "=") ∷ one ∷ []) refl

-- `load("a", x = "a")`, but not `load()`
abbrev text : Item
text = leaf String (codes "\"a\"")

abbrev load_of : Segs → List Item
load_of segs = word (codes "load") ∷ group Load segs false [] ∷ []

abbrev names : Segs
names = seg [] (items_of (text ∷ [])) None (seg [] (items_of (x ∷ sign (codes "=") ∷ text ∷ [])) None no_segs)

loaded : IsStatement (items_of (load_of names))
loaded = accepted (load_of names) refl

nothing_loaded : IsNone (load_of no_segs)
nothing_loaded = refused (load_of no_segs) refl

-- `[x for x in y if x]`, but not `[x if x for x in y]`
abbrev for_x : List Item
for_x = word (codes "for") ∷ x ∷ word (codes "in") ∷ y ∷ []

abbrev if_x : List Item
if_x = word (codes "if") ∷ x ∷ []

comprehension : IsStatement (items_of (around ListComp (x ∷ (for_x ++ if_x)) ∷ []))
comprehension = accepted (around ListComp (x ∷ (for_x ++ if_x)) ∷ []) refl

condition_first : IsNone (around ListComp (x ∷ (if_x ++ for_x)) ∷ [])
condition_first = refused (around ListComp (x ∷ (if_x ++ for_x)) ∷ []) refl

-- `x[1:]` and `x[:]`, but not `x[]` and `x[1, 1]`
from_one : IsStatement (items_of (x ∷ around Index (one ∷ sign (codes ":") ∷ []) ∷ []))
from_one = accepted (x ∷ around Index (one ∷ sign (codes ":") ∷ []) ∷ []) refl

whole : IsStatement (items_of (x ∷ around Index (sign (codes ":") ∷ []) ∷ []))
whole = accepted (x ∷ around Index (sign (codes ":") ∷ []) ∷ []) refl

no_index : IsNone (x ∷ around Index [] ∷ [])
no_index = refused (x ∷ around Index [] ∷ []) refl

two_indices : IsNone (x ∷ around Index (one ∷ sign (codes ",") ∷ one ∷ []) ∷ [])
two_indices = refused (x ∷ around Index (one ∷ sign (codes ",") ∷ one ∷ []) ∷ []) refl

-- not `x y`, nor `1.x`
side_by_side : IsNone (x ∷ y ∷ [])
side_by_side = refused (x ∷ y ∷ []) refl

dot_of_integer : IsNone (one ∷ sign (codes ".") ∷ x ∷ [])
dot_of_integer = refused (one ∷ sign (codes ".") ∷ x ∷ []) refl
