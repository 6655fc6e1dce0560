-- For private clauses: the shape of a rule, a node at a time.
use Rattle.std.specs.Prelude.{List, [], ◌∷◌, Bool, true, false, ◌&&◌, if◌then◌else◌, Option, Some, None, codes}
use Rattle.bz_token.specs.declared.token.Kind.TheVariants.{Identifier}
use Rattle.bz_tree.specs.declared.tree.GroupKind.TheVariants.{RuleCall}
use Rattle.bz_tree.specs.Tree.{Item, leaf, group, is_operator_item, segments}
use Rattle.bz_attribute.specs.Rules.{Rule}

-- an identifier comes next, or with `false` a dot
abbrev pub dotted : Bool → List Item → Bool
dotted true [] = false
dotted false [] = true
dotted true (leaf Identifier text ∷ xs) = dotted false xs
dotted true (x ∷ xs) = false
dotted false (x ∷ xs) = is_operator_item (codes ".") x && dotted true xs

-- a kind, and the call after it
abbrev pub call_at : List Item → Item → Option Rule
call_at kind (group RuleCall segs one_comma end) =
    if dotted true kind then Some (record { kind = kind; args = segments segs; one_comma = one_comma; end = end }) else None
call_at kind _ = None
