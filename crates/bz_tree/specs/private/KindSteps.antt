-- For private clauses: tests of a token by its kind and text, of the shapes of two brackets, and what one thing in a bracket is.
use Rattle.std.specs.Prelude.{List, ℕ, Bool, true, false, if◌then◌else◌, Option, Some}
use Rattle.bz_token.specs.declared.token.Kind.{Kind}
use Rattle.bz_token.specs.declared.token.Kind.TheVariants.{Identifier}
use Rattle.bz_token.specs.Common.{is_one_of}
use Rattle.bz_tree.specs.declared.tree.kinds.Shape.{Shape}
use Rattle.bz_tree.specs.declared.tree.kinds.Shape.TheVariants.{Round, Square, Curly}
use Rattle.bz_tree.specs.declared.tree.kinds.Preceding.{Preceding}
use Rattle.bz_tree.specs.Tree.{leaf, is_operator_item}
use Rattle.bz_tree.specs.Kinds.{after_item}
use Rattle.bz_tree.specs.Owners.{Inner}
use Rattle.bz_tree.specs.Brackets.{as_node, is_for_item}
use Rattle.bz_token.specs.Lexical.{augmented}
use Rattle.bz_tree.specs.Statement.{assignments}

abbrev pub is_ident : Kind → Bool
is_ident Identifier = true
is_ident _ = false

abbrev pub is_operator_at : List ℕ → Kind → List ℕ → Bool
is_operator_at operator kind text = is_operator_item operator (leaf kind text)

abbrev pub is_for_at : Kind → List ℕ → Bool
is_for_at kind text = is_for_item (leaf kind text)

abbrev pub kind_after : Kind → List ℕ → Preceding
kind_after kind text = after_item (leaf kind text)

abbrev pub is_augmented : List ℕ → Bool
is_augmented text = is_one_of augmented text

abbrev pub is_assign_operator : List ℕ → Bool
is_assign_operator text = is_one_of assignments text

abbrev pub own_item : Bool → Inner → Inner
own_item one own = if one then as_node own else own

abbrev pub same_shape : Option Shape → Shape → Bool
same_shape (Some Round) Round = true
same_shape (Some Square) Square = true
same_shape (Some Curly) Curly = true
same_shape _ _ = false
