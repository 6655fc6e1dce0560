-- What `set` makes of a rule: another value of its first argument of a name, or a new argument.
use Rattle.std.proofs.Common.{◌≡◌, ℕ, List, [], ◌∷◌, ◌++◌, Bool, true, false, not, if◌then◌else◌, Option, Some, None, is_some, take, drop, refl, ap, sym, ◌∙◌}
use Rattle.std.specs.Prelude.{option_to_list}
use Rattle.bz_tree.specs.Tree.{Item, Segment, Statement, items_of, segs_of}
use Rattle.bz_tree.specs.Rows.{RowPart, items_parts, parts_of, segment_end, segs_parts}
use Rattle.bz_attribute.specs.Effects.{argument, edit_first, has, with_args}
use Rattle.bz_attribute.specs.Reports.{done}
use Rattle.bz_attribute.specs.Elements.{IsValueAt, OnlyList}
use Rattle.bz_attribute.specs.Lists.{with_value, only_list}
use Rattle.bz_attribute.specs.RowEdits.{replaced_at}
use Rattle.bz_attribute.specs.RowPlaces.{IsLocal, IsPlaceOf, IsRuleRow, alone}
use Rattle.bz_attribute.specs.Rules.{Rule, first_named, is_named, rule_of, value}
use Rattle.bz_rule.specs.Set.{New, is_value, new_of, new_value, set, set_if_absent, set_in}
use Rattle.bz_rule.specs.Reports.{sets}
use Rattle.bz_attribute.specs.declared.place.Place.{Place}
use Rattle.bz_attribute.proofs.EditedAt.{none_first, with_args_at}
use Rattle.bz_attribute.proofs.Locals.{edits_one, is_there, kept_first}
use Rattle.bz_token.specs.Common.{map_or}

-- a new argument
pub set_if_absent_local : (attr : List ℕ) (words : List (List ℕ)) → IsLocal attr (set_if_absent attr words)
set_if_absent_local attr words =
    edits_one attr (set_if_absent attr words) (argument attr (new_value (new_of attr words None)) ∷ []) (λ a. a ∷ [])
    (λ args h. rw h refl)
    (λ args a h. ap (λ (b : Bool). if b then args else args ++ argument attr (new_value (new_of attr words None)) ∷ []) (is_there attr args a h) ∙ kept_first attr args a h)

pub argument_added : (attr : List ℕ) (words : List (List ℕ)) (s : Statement) (r : Rule) (ps new : List RowPart) (place : Place) → has attr r.args ≡ false → IsPlaceOf attr s r ps place.from place.to
    → new ≡ segs_parts (segs_of (argument attr (new_value (new_of attr words None)) ∷ [])) → replaced_at place new ps ≡ parts_of (with_args (set_if_absent attr words) s)
argument_added attr words s r ps new place none at written =
    let alone_is : alone attr r ≡ [] = ap (λ (o : Option Segment). option_to_list o) (none_first attr r.args none) in
    ap (λ (qs : List RowPart). replaced_at place qs ps) (written ∙ ap (λ (args : List Segment). segs_parts (segs_of (set_if_absent attr words args))) (sym alone_is))
    ∙ at.put (set_if_absent attr words) (set_if_absent_local attr words)

set_absent : (attr : List ℕ) (words : List (List ℕ)) (args : List Segment) → has attr args ≡ false → set_if_absent attr words args ≡ set attr words args
set_absent attr words args none = rw (none, none_first attr args none) refl

pub set_added : (attr : List ℕ) (words : List (List ℕ)) (s : Statement) (r : Rule) (ps new : List RowPart) (place : Place) → rule_of s.nodes ≡ Some r → has attr r.args ≡ false → IsPlaceOf attr s r ps place.from place.to
    → new ≡ segs_parts (segs_of (argument attr (new_value (new_of attr words None)) ∷ [])) → replaced_at place new ps ≡ parts_of (with_args (set attr words) s)
set_added attr words s r ps new place rule none at written =
    argument_added attr words s r ps new place none at written ∙ ap parts_of (with_args_at (set_if_absent attr words) (set attr words) s r rule (set_absent attr words r.args none))

pub none_told : (attr : List ℕ) (words : List (List ℕ)) (args : List Segment) → has attr args ≡ false → done None true ≡ done None (sets attr words (first_named attr args))
none_told attr words args none = rw (none_first attr args none) refl

-- what was tested of the value that is there
list_known : (nodes : List Item) (after ps : List RowPart) (o : Option ℕ) → OnlyList nodes after ps o → is_some (only_list nodes) ≡ is_some o
list_known nodes after ps None only = only
list_known nodes after ps (Some to) only = ap (λ (ns : List Item). is_some (only_list ns)) only.are

pub new_known : (attr : List ℕ) (words : List (List ℕ)) (a : Segment) (after ps : List RowPart) (o : Option ℕ) (b : Bool) (new : New) → OnlyList (value a) after ps o → b ≡ is_some o
    → ((was : Option Segment) → map_or false (λ a. is_some (only_list (value a))) was ≡ b → new ≡ new_of attr words was) → new ≡ new_of attr words (Some a)
new_known attr words a after ps o b new only is told = told (Some a) (list_known (value a) after ps o only ∙ sym is)

pub set_told : (attr : List ℕ) (words : List (List ℕ)) (args : List Segment) (a : Segment) (new : New) (b : Bool) → first_named attr args ≡ Some a → new ≡ new_of attr words (Some a) → b ≡ is_value new (value a)
    → done None (not b) ≡ done None (sets attr words (first_named attr args))
set_told attr words args a new b first known is = rw (first, is, known) refl

-- another value
pub value_set : (attr : List ℕ) (words : List (List ℕ)) (s : Statement) (r : Rule) (ps new : List RowPart) (at to : ℕ) (n : New) → IsRuleRow s r ps → (v : IsValueAt attr s r ps at) → n ≡ new_of attr words (Some v.arg) → is_value n (value v.arg) ≡ false
    → new ≡ items_parts (items_of (new_value n)) → drop to ps ≡ segment_end ∷ v.after → replaced_at (record { from = at; to = to }) new ps ≡ parts_of (with_args (set attr words) s)
value_set attr words s r ps new at to n h v known other written left =
    let edit : New → Segment → List Segment = λ m a. set_in m a ∷ [] in
    let made : edit n v.arg ≡ with_value (new_value n) v.arg ∷ [] = rw other refl in
    let edits : set attr words r.args ≡ edit_first (is_named attr) (edit n) r.args = rw (is_there attr r.args v.arg v.first, v.first, known) refl in
    (λ i. take at ps ++ (written i ++ left i)) ∙ v.put (edit n) (new_value n) made ∙ ap parts_of (sym (with_args_at (set attr words) (edit_first (is_named attr) (edit n)) s r h.rule edits))
