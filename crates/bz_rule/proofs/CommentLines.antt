-- Steps to a comment: the line without the blanks at its end, and the element that it goes to.
use Rattle.std.proofs.Common.{◌≡◌, ℕ, ◌+◌, ◌-◌, ◌<◌, List, [], ◌∷◌, ◌++◌, Bool, true, false, ◌&&◌, if◌then◌else◌, is_some, length, get_or, take, drop, refl, ap, sym, ◌∙◌, arith, Option, Some, None}
use Rattle.std.specs.List.{list_all, list_any, flat_map}
use Rattle.std.proofs.lemmas.List.{take_more, take_all}
use Rattle.std.proofs.lemmas.Bool.Decides.{nat_tests}
use Rattle.bz_tree.specs.Rows.{RowPart, above, parts_of}
use Rattle.bz_tree.specs.Tree.{Item, Segment, Statement}
use Rattle.bz_label.specs.Labels.{Package}
use Rattle.bz_rule.specs.Comment.{comment_element, comment_line, comment_note, comment_value, is_blank, trimmed}
use Rattle.bz_attribute.specs.Effects.{edit_first, has, absent_note, with_args, with_comment}
use Rattle.bz_attribute.specs.Reports.{done}
use Rattle.bz_attribute.specs.ListWalk.{edit_element}
use Rattle.bz_attribute.specs.Elements.{IsFirstEqual, IsListIn, IsValueAt, elements_left}
use Rattle.bz_attribute.specs.Lists.{equals, parts}
use Rattle.bz_attribute.specs.RowPlaces.{IsRuleRow}
use Rattle.bz_attribute.specs.Rules.{Rule, first_named, is_named, value}
use Rattle.bz_attribute.specs.declared.done.Note.{Note}
use Rattle.bz_attribute.specs.declared.done.Note.TheVariants.{NoValue, NotAList}
use Rattle.bz_attribute.proofs.EditedAt.{with_args_at}
use Rattle.bz_attribute.proofs.ElementSearch.{in_all}
use Rattle.bz_attribute.proofs.ListEdits.{found_opened}
use Rattle.bz_attribute.proofs.Locals.{is_there}
use Rattle.bz_rule.specs.private.CommentTexts.{ends_blank}
use Rattle.bz_token.specs.Common.{is_empty}

-- a blank at the end
all_blank : (xs : List ℕ) (b : ℕ) → is_blank b ≡ true → list_all is_blank (xs ++ b ∷ []) ≡ list_all is_blank xs
all_blank [] b h = rw h refl
all_blank (x ∷ xs) b h = ap (λ (t : Bool). is_blank x && t) (all_blank xs b h)

trimmed_blank : (xs : List ℕ) (b : ℕ) → is_blank b ≡ true → trimmed (xs ++ b ∷ []) ≡ trimmed xs
trimmed_blank [] b h = rw h refl
trimmed_blank (x ∷ xs) b h = rw (all_blank xs b h, trimmed_blank xs b h) refl

-- another byte at the end
not_blank : (xs : List ℕ) (b : ℕ) → is_blank b ≡ false → list_all is_blank (xs ++ b ∷ []) ≡ false
not_blank [] b h = rw h refl
not_blank (x ∷ xs) b h = ap (λ (t : Bool). is_blank x && t) (not_blank xs b h) ∙ elim (is_blank x) as (λ t. (t && false) ≡ false) [ true ↦ refl | false ↦ refl ]

trimmed_other : (xs : List ℕ) (b : ℕ) → is_blank b ≡ false → trimmed (xs ++ b ∷ []) ≡ xs ++ b ∷ []
trimmed_other [] b h = rw h refl
trimmed_other (x ∷ xs) b h =
    ap (λ (t : Bool). if t then [] else x ∷ trimmed (xs ++ b ∷ [])) (not_blank (x ∷ xs) b h) ∙ ap (λ (ys : List ℕ). x ∷ ys) (trimmed_other xs b h)

last_split : (bs : List ℕ) → 0 < length bs → bs ≡ take (length bs - 1) bs ++ get_or bs (length bs - 1) 0 ∷ []
last_split bs h = sym (take_all (length bs - 1 + 1) bs (omega arith)) ∙ take_more bs (length bs - 1) 0 (omega arith)

pub blank_low : (b : ℕ) → is_blank b ≡ true → b < 128
blank_low b h = grind (arith, nat_tests)

-- the last byte goes, where it is a blank
pub trim_step : (bs new : List ℕ) (n : ℕ) → n ≡ length bs → ends_blank bs ≡ true → (0 < n → get_or bs (n - 1) 0 < 128 → new ≡ take (n - 1) bs) → trimmed new ≡ trimmed bs
trim_step [] new n long h goes = absurd cc
trim_step (b ∷ bs) new n long h goes =
    let last : ℕ = get_or (b ∷ bs) (length (b ∷ bs) - 1) 0 in
    let same : get_or (b ∷ bs) (n - 1) 0 ≡ last = ap (λ (k : ℕ). get_or (b ∷ bs) (k - 1) 0) long in
    let made : new ≡ take (length (b ∷ bs) - 1) (b ∷ bs) = goes (omega arith) (omega (arith, same, blank_low last h)) ∙ ap (λ (k : ℕ). take (k - 1) (b ∷ bs)) long in
    ap trimmed made ∙ sym (trimmed_blank (take (length (b ∷ bs) - 1) (b ∷ bs)) last h) ∙ ap trimmed (sym (last_split (b ∷ bs) (omega arith)))

pub trim_end : (bs : List ℕ) → ends_blank bs ≡ false → trimmed bs ≡ bs
trim_end [] h = refl
trim_end (b ∷ bs) h =
    let split = last_split (b ∷ bs) (omega arith) in
    ap trimmed split ∙ trimmed_other (take (length (b ∷ bs) - 1) (b ∷ bs)) (get_or (b ∷ bs) (length (b ∷ bs) - 1) 0) h ∙ sym split

-- what is told
pub argument_told : (attr : List ℕ) (args : List Segment) → has attr args ≡ true → done None true ≡ done (absent_note attr args) true
argument_told attr args there = rw there refl

pub no_list_told : (home : Package) (attr v : List ℕ) (args : List Segment) (a : Segment) → first_named attr args ≡ Some a → parts (value a) ≡ [] → done (Some (NotAList attr)) false ≡ done (comment_note home attr v args) true
no_list_told home attr v args a first none = rw (is_there attr args a first, first, none) refl

-- the elements of the list parts are those that are left of the first on
in_parts : (home : Package) (v : List ℕ) (nodes : List Item) (after ps : List RowPart) (at list : ℕ) (b : Bool) → (l : IsListIn true nodes after ps at list) → list_any (equals home v) (elements_left l.list) ≡ b → list_any (list_any (equals home v)) (parts nodes) ≡ b
in_parts home v nodes after ps at list b l is = sym (in_all home v (parts nodes)) ∙ ap (λ (lists : List (List Segment)). list_any (equals home v) (flat_map (λ ss. ss) lists)) l.lists ∙ is

pub no_value_told : (home : Package) (attr v : List ℕ) (args : List Segment) (a : Segment) (after ps : List RowPart) (at list : ℕ) → first_named attr args ≡ Some a → (l : IsListIn true (value a) after ps at list)
    → list_any (equals home v) (elements_left l.list) ≡ false → done (Some (NoValue attr v)) false ≡ done (comment_note home attr v args) true
no_value_told home attr v args a after ps at list first l none = rw (is_there attr args a first, first, ap is_empty l.lists, in_parts home v (value a) after ps at list false l none) refl

no_note : (home : Package) (attr v : List ℕ) (args : List Segment) (a : Segment) (after ps : List RowPart) (at list : ℕ) → first_named attr args ≡ Some a → (l : IsListIn true (value a) after ps at list) → list_any (equals home v) (elements_left l.list) ≡ true
    → comment_note home attr v args ≡ None
no_note home attr v args a after ps at list first l there = rw (is_there attr args a first, first, ap is_empty l.lists, in_parts home v (value a) after ps at list true l there) refl

pub value_told : (home : Package) (attr v : List ℕ) (args : List Segment) (a : Segment) (after ps : List RowPart) (at list : ℕ) → first_named attr args ≡ Some a → (l : IsListIn true (value a) after ps at list) → list_any (equals home v) (elements_left l.list) ≡ true
    → done None true ≡ done (comment_note home attr v args) true
value_told home attr v args a after ps at list first l there = sym (ap (λ (n : Option Note). done n true) (no_note home attr v args a after ps at list first l there))

-- the line above the element
pub value_commented : (home : Package) (attr v text : List ℕ) (s : Statement) (r : Rule) (ps : List RowPart) (at list token : ℕ) → IsRuleRow s r ps → (w : IsValueAt attr s r ps at) → (l : IsListIn true (value w.arg) w.after ps at list)
    → IsFirstEqual home v l.list w.after ps list token → take token ps ++ above (comment_line text) ∷ drop token ps ≡ parts_of (with_args (comment_value home attr v text) s)
value_commented home attr v text s r ps at list token h w l e =
    let edit : Segment → List Segment = λ a. comment_element home v text a ∷ [] in
    let nodes : List Item = edit_element (equals home v) (with_comment (comment_line text)) (value w.arg) in
    let edits : comment_value home attr v text r.args ≡ edit_first (is_named attr) edit r.args =
    ap (λ (n : Option Note). if is_some n then r.args else edit_first (is_named attr) edit r.args) (no_note home attr v r.args w.arg w.after ps at list w.first l e.there) in
    sym (e.line (comment_line text))
    ∙ sym (found_opened (equals home v) (with_comment (comment_line text)) (value w.arg) w.after ps at list w.read l)
    ∙ w.put edit nodes refl
    ∙ ap parts_of (sym (with_args_at (comment_value home attr v text) (edit_first (is_named attr) edit) s r h.rule edits))
