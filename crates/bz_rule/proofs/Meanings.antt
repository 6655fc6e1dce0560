-- The edits of strings and arguments are what `remove` and `replace` mean.
use Rattle.std.proofs.Common.{◌≡◌, ℕ, ◌≤◌, ◌<◌, List, [], ◌∷◌, ◌++◌, Bool, true, false, ◌&&◌, not, cond, if◌then◌else◌, Option, Some, None, length, map, get_or, refl, ap, sym, subst, ◌∙◌, arith, option_and_then}
use Rattle.std.specs.Prelude.{filter}
use Rattle.std.specs.List.{flat_map, list_any}
use Rattle.std.proofs.lemmas.List.Concat.{flat_map_single}
use Rattle.bz_token.specs.declared.token.Kind.TheVariants.{String}
use Rattle.bz_tree.specs.Tree.{leaf, Segment}
use Rattle.bz_tree.specs.Rows.{RowPart}
use Rattle.bz_label.specs.Labels.{Package}
use Rattle.bz_label.specs.Values.{quoted, value_of}
use Rattle.bz_label.specs.declared.arguments.Attributes.{Attributes}
use Rattle.bz_label.specs.declared.arguments.Attributes.TheVariants.{Every, Named}
use Rattle.bz_label.specs.declared.arguments.Chosen.{Chosen}
use Rattle.bz_label.specs.declared.arguments.Chosen.TheVariants.{Values}
use Rattle.bz_attribute.specs.Effects.{edit_first, filtered, is_chosen, unchosen}
use Rattle.bz_attribute.specs.Reports.{done, chooses}
use Rattle.bz_attribute.specs.Lists.{edit_parts, is_attribute, parts, with_value}
use Rattle.bz_label.specs.Same.{same}
use Rattle.bz_rule.specs.Remove.{remove}
use Rattle.bz_rule.specs.Reports.{removes, replaces, replaces_in}
use Rattle.bz_rule.specs.Replace.{is_replaced, replace, replaced, replaced_in}
use Rattle.bz_attribute.specs.RowEdits.{IsRowEdit}
use Rattle.bz_attribute.specs.Rules.{first_named, is_named, is_text, only_text, value}
use Rattle.bz_attribute.specs.declared.edit.Edit.{Edit}
use Rattle.bz_attribute.proofs.LabelSets.{none_same}
use Rattle.std.proofs.Math.Bool.{or-false}
use Rattle.bz_rule.specs.private.ArgumentEdits.{changes_in, edited, edited_in, goes_by, kept}
use Rattle.bz_rule.specs.private.StringEdits.{changes, become, become_all, equals_one, equals_word, is_meant, is_unlike}
use Rattle.bz_rule.proofs.EachArgument.{never_lost}
use Rattle.bz_token.specs.Common.{map_or}

-- those that do not go
left_as_filter : (p : Segment → Bool) (ss : List Segment) → flat_map (λ s. if p s then [] else s ∷ []) ss ≡ filter (λ s. not (p s)) ss
left_as_filter p [] = refl
left_as_filter p (s ∷ ss) =
    elim (p s) as (λ b. (if b then [] else s ∷ []) ++ flat_map (λ x. if p x then [] else x ∷ []) ss ≡ cond (not b) (s ∷ filter (λ x. not (p x)) ss) (filter (λ x. not (p x)) ss))
    [ true ↦ left_as_filter p ss | false ↦ ap (λ (zs : List Segment). s ∷ zs) (left_as_filter p ss) ]

dropped : (home : Package) (attributes : Attributes) → flat_map (kept attributes) ≡ remove home attributes []
dropped home Every = λ i args. left_as_filter (goes_by Every) args i
dropped home (Named attr) = λ i args. left_as_filter (goes_by (Named attr)) args i

told_dropped : (home : Package) (attributes : Attributes) → (λ (args : List Segment). list_any (goes_by attributes) args) ≡ removes home attributes []
told_dropped home Every = refl
told_dropped home (Named attr) = refl

pub rows_dropped : (home : Package) (attributes : Attributes) (values : List (List ℕ)) (ps new : List RowPart) (e : Edit) → values ≡ [] → IsRowEdit (flat_map (kept attributes)) (λ args. done None (list_any (goes_by attributes) args)) ps new e
    → IsRowEdit (remove home attributes values) (λ args. done None (removes home attributes values args)) ps new e
rows_dropped home attributes values ps new e none h =
    subst (λ (vs : List (List ℕ)). IsRowEdit (remove home attributes vs) (λ args. done None (removes home attributes vs args)) ps new e) (sym none)
    (subst (λ (told : List Segment → Bool). IsRowEdit (remove home attributes []) (λ args. done None (told args)) ps new e) (told_dropped home attributes)
    (subst (λ (f : List Segment → List Segment). IsRowEdit f (λ args. done None (list_any (goes_by attributes) args)) ps new e) (dropped home attributes) h))

-- the strings that equal a word are the elements that do
chosen_text : (home : Package) (words : List (List ℕ)) (o : Option (List ℕ)) → map_or false (equals_one home words) o ≡ list_any (λ w. map_or false (λ value. same home value w) (option_and_then value_of o)) words
chosen_text home words None = sym (none_same home words)
chosen_text home words (Some text) = refl

pub meant_chosen : (home : Package) (words : List (List ℕ)) → is_meant (map_or false (equals_one home words)) ≡ is_chosen home (Values words)
meant_chosen home words = λ i s. chosen_text home words (only_text s.nodes) i

pub left_unchosen : (home : Package) (chosen : Chosen) (p : Option (List ℕ) → Bool) → is_meant p ≡ is_chosen home chosen → become_all p None ≡ unchosen home chosen
left_unchosen home chosen p same = λ i ss. (left_as_filter (is_meant p) ss ∙ ap (λ (q : Segment → Bool). filter (λ s. not (q s)) ss) same) i

left_by_words : (home : Package) (words : List (List ℕ)) → become_all (map_or false (equals_one home words)) None ≡ unchosen home (Values words)
left_by_words home words = left_unchosen home (Values words) (map_or false (equals_one home words)) (meant_chosen home words)

removed : (home : Package) (attributes : Attributes) (v : List ℕ) (values : List (List ℕ)) → edited_in (map_or false (equals_one home (v ∷ values))) None attributes ≡ remove home attributes (v ∷ values)
removed home Every v values = λ i args. flat_map (λ a. if is_attribute a then filtered (left_by_words home (v ∷ values) i) a else a ∷ []) args
removed home (Named attr) v values = λ i args. edit_first (is_named attr) (filtered (left_by_words home (v ∷ values) i)) args

pub told_first : (home : Package) (chosen : Chosen) (p : Option (List ℕ) → Bool) (o : Option Segment) → is_meant p ≡ is_chosen home chosen → map_or false (changes p) o ≡ map_or false (chooses home chosen) o
told_first home chosen p None same = refl
told_first home chosen p (Some a) same = ap (λ (q : Segment → Bool). list_any (list_any q) (parts (value a))) same

told_removed : (home : Package) (attributes : Attributes) (v : List ℕ) (values : List (List ℕ)) → changes_in (map_or false (equals_one home (v ∷ values))) attributes ≡ removes home attributes (v ∷ values)
told_removed home Every v values = λ i args. list_any (λ a. is_attribute a && list_any (list_any (meant_chosen home (v ∷ values) i)) (parts (value a))) args
told_removed home (Named attr) v values = λ i args. told_first home (Values (v ∷ values)) (map_or false (equals_one home (v ∷ values))) (first_named attr args) (meant_chosen home (v ∷ values)) i

rows_removed : (home : Package) (attributes : Attributes) (v : List ℕ) (more values : List (List ℕ)) (p : Option (List ℕ) → Bool) (ps new : List RowPart) (e : Edit) → values ≡ v ∷ more → p ≡ map_or false (equals_one home values)
    → IsRowEdit (edited_in p None attributes) (λ args. done None (changes_in p attributes args)) ps new e → IsRowEdit (remove home attributes values) (λ args. done None (removes home attributes values args)) ps new e
rows_removed home attributes v more values p ps new e are is h =
    subst (λ (vs : List (List ℕ)). IsRowEdit (remove home attributes vs) (λ args. done None (removes home attributes vs args)) ps new e) (sym are)
    (subst (λ (told : List Segment → Bool). IsRowEdit (remove home attributes (v ∷ more)) (λ args. done None (told args)) ps new e) (told_removed home attributes v more)
    (subst (λ (f : List Segment → List Segment). IsRowEdit f (λ args. done None (changes_in (map_or false (equals_one home (v ∷ more))) attributes args)) ps new e) (removed home attributes v more)
    (subst (λ (q : Option (List ℕ) → Bool). IsRowEdit (edited_in q None attributes) (λ args. done None (changes_in q attributes args)) ps new e) (is ∙ ap (λ (words : List (List ℕ)). map_or false (equals_one home words)) are) h)))

-- one word
pub one_word : (home : Package) (word : List ℕ) → map_or false (equals_word home word) ≡ map_or false (equals_one home (word ∷ []))
one_word home word = λ i. map_or false (λ text. sym (or-false (equals_word home word text)) i)

-- lists of one, and of more
pub one_alone : (values : List (List ℕ)) (v d : List ℕ) → 1 ≤ length values → length values < 2 → v ≡ get_or values 0 d → values ≡ v ∷ []
one_alone [] v d few many is = absurd (omega arith)
one_alone (w ∷ []) v d few many is = ap (λ (z : List ℕ). z ∷ []) (sym is)
one_alone (w ∷ x ∷ values) v d few many is = absurd (omega arith)

-- the strings that become another are the elements that do
replaced_text : (home : Package) (old new : List ℕ) (o : Option (List ℕ)) → map_or false (is_unlike home old new) o ≡ (map_or false (λ value. same home value old) (option_and_then value_of o) && not (is_text new (option_and_then value_of o)))
replaced_text home old new None = refl
replaced_text home old new (Some text) = refl

meant_replaced : (home : Package) (old new : List ℕ) → is_meant (map_or false (is_unlike home old new)) ≡ is_replaced home old new
meant_replaced home old new = λ i s. replaced_text home old new (only_text s.nodes) i

one_of_two : (b : Bool) (x y : Segment) → (if b then x ∷ [] else y ∷ []) ≡ (if b then x else y) ∷ []
one_of_two true x y = refl
one_of_two false x y = refl

become_replaced : (home : Package) (old new : List ℕ) (s : Segment) → become (map_or false (is_unlike home old new)) (Some (quoted new)) s ≡ replaced home old new s ∷ []
become_replaced home old new s =
    one_of_two (is_meant (map_or false (is_unlike home old new)) s) (record s { nodes = leaf String (quoted new) ∷ [] }) s
    ∙ ap (λ (p : Segment → Bool). (if p s then record s { nodes = leaf String (quoted new) ∷ [] } else s) ∷ []) (meant_replaced home old new)

all_replaced : (home : Package) (old new : List ℕ) → become_all (map_or false (is_unlike home old new)) (Some (quoted new)) ≡ map (replaced home old new)
all_replaced home old new = λ i ss. ((λ j. flat_map (λ s. become_replaced home old new s j) ss) ∙ flat_map_single (replaced home old new) ss) i

argument_replaced : (home : Package) (old new : List ℕ) (a : Segment) → filtered (become_all (map_or false (is_unlike home old new)) (Some (quoted new))) a ≡ replaced_in home old new a ∷ []
argument_replaced home old new a =
    let f : List Segment → List Segment = become_all (map_or false (is_unlike home old new)) (Some (quoted new)) in
    ap (λ (b : Bool). if b then [] else with_value (edit_parts f (value a)) a ∷ []) (never_lost (map_or false (is_unlike home old new)) (quoted new) (value a))
    ∙ ap (λ (g : List Segment → List Segment). with_value (edit_parts g (value a)) a ∷ []) (all_replaced home old new)

each_replaced : (home : Package) (old new : List ℕ) (a : Segment) → edited (map_or false (is_unlike home old new)) (Some (quoted new)) a ≡ (if is_attribute a then replaced_in home old new a else a) ∷ []
each_replaced home old new a = ap (λ (ss : List Segment). if is_attribute a then ss else a ∷ []) (argument_replaced home old new a) ∙ one_of_two (is_attribute a) (replaced_in home old new a) a

replaced_by : (home : Package) (attributes : Attributes) (old new : List ℕ) → edited_in (map_or false (is_unlike home old new)) (Some (quoted new)) attributes ≡ replace home attributes old new
replaced_by home Every old new = λ i args. ((λ j. flat_map (λ a. each_replaced home old new a j) args) ∙ flat_map_single (λ a. if is_attribute a then replaced_in home old new a else a) args) i
replaced_by home (Named attr) old new = λ i args. edit_first (is_named attr) (λ a. argument_replaced home old new a i) args

told_first_replaced : (home : Package) (old new : List ℕ) (o : Option Segment) → map_or false (changes (map_or false (is_unlike home old new))) o ≡ map_or false (replaces_in home old new) o
told_first_replaced home old new None = refl
told_first_replaced home old new (Some a) = ap (λ (p : Segment → Bool). list_any (list_any p) (parts (value a))) (meant_replaced home old new)

told_replaced : (home : Package) (attributes : Attributes) (old new : List ℕ) → changes_in (map_or false (is_unlike home old new)) attributes ≡ replaces home attributes old new
told_replaced home Every old new = λ i args. list_any (λ a. is_attribute a && list_any (list_any (meant_replaced home old new i)) (parts (value a))) args
told_replaced home (Named attr) old new = λ i args. told_first_replaced home old new (first_named attr args) i

pub rows_replaced : (home : Package) (attributes : Attributes) (old new : List ℕ) (ps out : List RowPart) (e : Edit)
    → IsRowEdit (edited_in (map_or false (is_unlike home old new)) (Some (quoted new)) attributes) (λ args. done None (changes_in (map_or false (is_unlike home old new)) attributes args)) ps out e
    → IsRowEdit (replace home attributes old new) (λ args. done None (replaces home attributes old new args)) ps out e
rows_replaced home attributes old new ps out e h =
    subst (λ (told : List Segment → Bool). IsRowEdit (replace home attributes old new) (λ args. done None (told args)) ps out e) (told_replaced home attributes old new)
    (subst (λ (f : List Segment → List Segment). IsRowEdit f (λ args. done None (changes_in (map_or false (is_unlike home old new)) attributes args)) ps out e) (replaced_by home attributes old new) h)

pub no_words : (values : List (List ℕ)) → length values ≡ 0 → values ≡ []
no_words [] h = refl
no_words (v ∷ values) h = absurd (omega (arith, h))

pub rows_removed_some : (home : Package) (attributes : Attributes) (values : List (List ℕ)) (p : Option (List ℕ) → Bool) (ps new : List RowPart) (e : Edit) → 1 ≤ length values → p ≡ map_or false (equals_one home values)
    → IsRowEdit (edited_in p None attributes) (λ args. done None (changes_in p attributes args)) ps new e → IsRowEdit (remove home attributes values) (λ args. done None (removes home attributes values args)) ps new e
rows_removed_some home attributes [] p ps new e some is h = absurd (omega (arith, some))
rows_removed_some home attributes (v ∷ more) p ps new e some is h = rows_removed home attributes v more (v ∷ more) p ps new e refl is h
