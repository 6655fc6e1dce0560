-- What the steps answer is the statement of the tokens.
use Rattle.std.proofs.Common.{arith, ◌≡◌, List, [], ◌∷◌, ◌++◌, map, Bool, true, false, cond, Option, Some, None, option_map, option_and_then, refl, sym, ap, subst, ◌∙◌, append_assoc, append-nil}
use Rattle.bz_tree.specs.declared.tree.kinds.Shape.{Shape}
use Rattle.bz_tree.specs.declared.tree.kinds.Mark.{Mark}
use Rattle.bz_tree.specs.declared.tree.kinds.Mark.TheVariants.{Open, Close, Newline}
use Rattle.bz_tree.specs.declared.tree.kinds.Preceding.{Preceding}
use Rattle.bz_tree.specs.declared.tree.kinds.Preceding.TheVariants.{Other}
use Rattle.bz_token.specs.Places.{Placed}
use Rattle.bz_tree.specs.Tree.{Item, Segment, Statement}
use Rattle.bz_tree.specs.Kinds.{mark_of, group_kind, is_one}
use Rattle.bz_tree.specs.private.KindSteps.{same_shape}
use Rattle.bz_tree.specs.Owners.{Inner, node}
use Rattle.bz_tree.specs.Cells.{inside, no_empty_cell}
use Rattle.bz_tree.specs.Brackets.{group_with, with_comma_nodes, preceding, is_line, without_lines}
use Rattle.bz_tree.specs.Elements.{has_for}
use Rattle.bz_tree.specs.Elements.{group_of}
use Rattle.bz_tree.specs.Elements.{Elem, single, bracket, Elems, no_elems, elem, elem_tokens, elems_tokens, own_of, elem_own, elems_own, is_single, IsWell, AreWell}
use Rattle.bz_tree.specs.Statement.{statement_with, IsStatementOf}
use Rattle.bz_tree.specs.Elements.{segment_of}
use Rattle.bz_tree.proofs.Trees.ByOwns.{Level, Levels, with_own, new_level, closed, next_at, next, finish, run}
use Rattle.bz_tree.proofs.Trees.OneBracket.{inside_found}
use Rattle.bz_tree.proofs.Trees.Complete.{after_all, top_found, statement_found}
use Rattle.bz_tree.proofs.Trees.Nested.{of_tree}

abbrev elems_of : List Elem → Elems
elems_of [] = no_elems
elems_of (x ∷ xs) = elem x (elems_of xs)

abbrev owns_of : List Elem → List Inner
owns_of xs = elems_own Other (elems_of xs)

-- an open bracket, or the top: its opening bracket, and what stands in it so far
record Raw : Type 0 where
  opening : Option (Shape × Placed)
  elems : List Elem

abbrev image : Raw → Level
image r = record { shape = option_map (λ (o : Shape × Placed). o.0) r.opening; owns = owns_of r.elems; at = after_all Other (owns_of r.elems) }

abbrev opening_tokens : Option (Shape × Placed) → List Placed
opening_tokens None = []
opening_tokens (Some o) = o.1 ∷ []

abbrev raw_tokens : Raw → List Placed
raw_tokens r = opening_tokens r.opening ++ elems_tokens (elems_of r.elems)

abbrev outer_tokens : List Raw → List Placed
outer_tokens [] = []
outer_tokens (r ∷ rs) = outer_tokens rs ++ raw_tokens r

abbrev all_tokens : Raw → List Raw → List Placed
all_tokens top outer = outer_tokens outer ++ raw_tokens top

abbrev IsOpening : Option (Shape × Placed) → Type 0
IsOpening None = Unit {0}
IsOpening (Some o) = mark_of o.1 ≡ Open o.0

abbrev IsWellRaw : Raw → Type 0
IsWellRaw r = IsOpening r.opening × AreWell Other (elems_of r.elems)

abbrev AreWellRaws : List Raw → Type 0
AreWellRaws [] = Unit {0}
AreWellRaws (r ∷ rs) = IsWellRaw r × AreWellRaws rs

-- one more element
elems_tokens-push : (xs : List Elem) (x : Elem) → elems_tokens (elems_of (xs ++ x ∷ [])) ≡ elems_tokens (elems_of xs) ++ elem_tokens x
elems_tokens-push [] x = append-nil (elem_tokens x)
elems_tokens-push (y ∷ xs) x = rw (elems_tokens-push xs x, append_assoc) refl

abbrev after_elems : Preceding → List Elem → Preceding
after_elems b xs = after_all b (elems_own b (elems_of xs))

elems_own-push : (xs : List Elem) (b : Preceding) (x : Elem) → elems_own b (elems_of (xs ++ x ∷ [])) ≡ elems_own b (elems_of xs) ++ elem_own (after_elems b xs) x ∷ []
elems_own-push [] b x = refl
elems_own-push (y ∷ xs) b x = ap (λ os. elem_own b y ∷ os) (elems_own-push xs (preceding b (elem_own b y)) x)

after_all-push : (os : List Inner) (b : Preceding) (o : Inner) → after_all b (os ++ o ∷ []) ≡ preceding (after_all b os) o
after_all-push [] b o = refl
after_all-push (p ∷ os) b o = after_all-push os (preceding b p) o

AreWell-push : (xs : List Elem) (b : Preceding) (x : Elem) → AreWell b (elems_of xs) → IsWell (after_elems b xs) x → AreWell b (elems_of (xs ++ x ∷ []))
AreWell-push [] b x all here = (here, tt)
AreWell-push (y ∷ xs) b x all here = (all.0, AreWell-push xs (preceding b (elem_own b y)) x all.1 here)

abbrev with_elem : Raw → Elem → Raw
with_elem r x = record { opening = r.opening; elems = r.elems ++ x ∷ [] }

image-push : (r : Raw) (x : Elem) → image (with_elem r x) ≡ with_own (image r) (elem_own (after_elems Other r.elems) x)
image-push r x = rw (elems_own-push r.elems Other x, after_all-push (owns_of r.elems) Other (elem_own (after_elems Other r.elems) x)) refl

-- the steps over these tokens lead to these levels
record Leads (top : Raw) (outer : List Raw) (ts : List Placed) (new : Levels) : Type 0 where
  raw : Raw
  raws : List Raw
  levels_are : new ≡ (image raw, map image raws)
  tokens_are : all_tokens raw raws ≡ all_tokens top outer ++ ts
  well : IsWellRaw raw
  wells : AreWellRaws raws

pub none_is_some : {A : Type 0} (x : A) → None ≡ Some x → ⊥
none_is_some x e = cc

pub some_injective : {A : Type 0} (x y : A) → Some x ≡ Some y → x ≡ y
some_injective x y e = cc

push_leads : (top : Raw) (outer : List Raw) (x : Elem) (ts : List Placed) (new : Levels) → elem_tokens x ≡ ts → IsWell (after_elems Other top.elems) x → IsWellRaw top → AreWellRaws outer
    → (with_own (image top) (elem_own (after_elems Other top.elems) x), map image outer) ≡ new → Leads top outer ts new
push_leads top outer x ts new tokens here well wells is = record {
  raw = with_elem top x;
  raws = outer;
  levels_are = sym is ∙ ap (λ (l : Level). (l, map image outer)) (sym (image-push top x));
  tokens_are = rw (elems_tokens-push top.elems x, tokens) (simp append_assoc);
  well = (well.0, AreWell-push top.elems Other x well.1 here);
  wells = wells;
}

single_leads : (m : Mark) (t : Placed) → mark_of t ≡ m → is_single m ≡ true → (top : Raw) (outer : List Raw) (new : Levels) → Some (with_own (image top) (own_of m t), map image outer) ≡ Some new → IsWellRaw top → AreWellRaws outer
    → Leads top outer (t ∷ []) new
single_leads m t is alone top outer new same well wells =
    push_leads top outer (single t) (t ∷ []) new refl (ap is_single is ∙ alone) well wells (ap (λ k. (with_own (image top) (own_of k t), map image outer)) is ∙ some_injective _ new same)

pub same_shape_is : (o : Option Shape) (s : Shape) → same_shape o s ≡ true → o ≡ Some s
same_shape_is va vb vc = grind arith

-- a bracket that could be closed
abbrev items_at : Shape → Preceding → List Inner → List Inner
items_at s b owns = with_comma_nodes (is_one (group_kind s b (has_for owns))) owns

closed_is : (s : Shape) (b : Preceding) (owns : List Inner) (g : Item) (e : Bool) → no_empty_cell false (items_at s b owns) ≡ e → closed s b owns ≡ Some g
    → (no_empty_cell false (items_at s b owns) ≡ true) × (group_of (group_kind s b (has_for owns)) owns ≡ g)
closed_is s b owns g e is same =
    let os = items_at s b owns in
    let found : closed s b owns ≡ option_map (group_with (group_kind s b (has_for owns))) (cond e (Some (inside os)) None) = ap (option_map (group_with (group_kind s b (has_for owns)))) (inside_found os ∙ ap (λ c. cond c (Some (inside os)) None) is) in
    at_end e is (sym found ∙ same)
  where
    at_end : (c : Bool) → no_empty_cell false (items_at s b owns) ≡ c → option_map (group_with (group_kind s b (has_for owns))) (cond c (Some (inside (items_at s b owns))) None) ≡ Some g
        → (no_empty_cell false (items_at s b owns) ≡ true) × (group_of (group_kind s b (has_for owns)) owns ≡ g)
    at_end true whole found = (whole, some_injective (group_of (group_kind s b (has_for owns)) owns) g found)
    at_end false whole found = absurd (none_is_some g found)

abbrev in_bracket : Shape → Placed → List Elem → Raw
in_bracket s opening elems = record { opening = Some (s, opening); elems = elems }

close_leads : (s : Shape) (t opening : Placed) (elems : List Elem) (below : Raw) (outer : List Raw) (g : Item) (new : Levels) → mark_of t ≡ Close s → closed s (after_elems Other below.elems) (owns_of elems) ≡ Some g
    → (with_own (image below) (node t.line g), map image outer) ≡ new → IsWellRaw (in_bracket s opening elems) → IsWellRaw below → AreWellRaws outer → Leads (in_bracket s opening elems) (below ∷ outer) (t ∷ []) new
close_leads s t opening elems below outer g new marked is same well well_below wells =
    let found = closed_is s (after_elems Other below.elems) (owns_of elems) g _ refl is in
    let x = bracket s opening (elems_of elems) t in
    let led = push_leads below outer x (elem_tokens x) new refl (well.0, marked, well.1, found.0) well_below wells (ap (λ (h : Item). (with_own (image below) (node t.line h), map image outer)) found.1 ∙ same) in
    record {
      raw = led.raw;
      raws = led.raws;
      levels_are = led.levels_are;
      tokens_are = led.tokens_are ∙ simp append_assoc;
      well = led.well;
      wells = led.wells;
    }

abbrev step_tokens : Mark → Placed → List Placed
step_tokens m t = cond (is_line m) [] (t ∷ [])

next_leads : (m : Mark) (t : Placed) → mark_of t ≡ m → (top : Raw) (outer : List Raw) (new : Levels) → next_at m t (image top) (map image outer) ≡ Some new → IsWellRaw top → AreWellRaws outer → Leads top outer (step_tokens m t) new
next_leads Newline t is top outer new same well wells = record {
  raw = top;
  raws = outer;
  levels_are = sym (some_injective (image top, map image outer) new same);
  tokens_are = sym (append-nil (all_tokens top outer));
  well = well;
  wells = wells;
}
next_leads (Open s) t is top outer new same well wells = record {
  raw = in_bracket s t [];
  raws = top ∷ outer;
  levels_are = sym (some_injective (new_level (Some s), image top ∷ map image outer) new same);
  tokens_are = refl;
  well = (is, tt);
  wells = (well, wells);
}
next_leads (Close s) t is top [] new same well wells = absurd (none_is_some new same)
next_leads (Close s) t is top (below ∷ outer) new same well wells = at_opening top.opening well same
  where
    at_group : (opening : Placed) → (o : Option Item) → closed s (after_elems Other below.elems) (owns_of top.elems) ≡ o → IsWellRaw (in_bracket s opening top.elems)
        → option_map (λ g. (with_own (image below) (node t.line g), map image outer)) o ≡ Some new → Leads (in_bracket s opening top.elems) (below ∷ outer) (t ∷ []) new
    at_group opening None found well same = absurd (none_is_some new same)
    at_group opening (Some g) found well same = close_leads s t opening top.elems below outer g new is found (some_injective _ new same) well wells.0 wells.1

    at_shape : (r : Shape) (opening : Placed) (fits : Bool) → same_shape (Some r) s ≡ fits → IsWellRaw (in_bracket r opening top.elems)
        → cond fits (option_map (λ g. (with_own (image below) (node t.line g), map image outer)) (closed s (after_elems Other below.elems) (owns_of top.elems))) None ≡ Some new
        → Leads (in_bracket r opening top.elems) (below ∷ outer) (t ∷ []) new
    at_shape r opening false fits well same = absurd (none_is_some new same)
    at_shape r opening true fits well same =
        let e : r ≡ s = some_injective r s (same_shape_is (Some r) s fits) in
        let w : IsWellRaw (in_bracket s opening top.elems) = subst (λ q. IsWellRaw (in_bracket q opening top.elems)) e well in
        subst (λ q. Leads (in_bracket q opening top.elems) (below ∷ outer) (t ∷ []) new) (sym e) (at_group opening (closed s (after_elems Other below.elems) (owns_of top.elems)) refl w same)

    at_opening : (o : Option (Shape × Placed)) → IsWellRaw (record { opening = o; elems = top.elems }) → next_at (Close s) t (image (record { opening = o; elems = top.elems })) (map image (below ∷ outer)) ≡ Some new
        → Leads (record { opening = o; elems = top.elems }) (below ∷ outer) (t ∷ []) new
    at_opening None well same = absurd (none_is_some new same)
    at_opening (Some o) well same = at_shape o.0 o.1 (same_shape (Some o.0) s) refl well same
next_leads m t is top outer new same well wells = single_leads m t is refl top outer new same well wells

-- a tree of brackets with these tokens
record Found (tokens : List Placed) (s : Segment) : Type 0 where
  elems : Elems
  tokens_are : tokens ≡ elems_tokens elems
  well : AreWell Other elems
  is : s ≡ segment_of (elems_own Other elems)

finish_found : (opening : Option (Shape × Placed)) (elems : List Elem) (outer : List Raw) (s : Segment) → finish (option_map (λ (o : Shape × Placed). o.0) opening) (owns_of elems) (map image outer) ≡ Some s → AreWell Other (elems_of elems)
    → Found (all_tokens (record { opening = opening; elems = elems }) outer) s
finish_found None elems [] s same well = record {
  elems = elems_of elems;
  tokens_are = refl;
  well = well;
  is = some_injective s (segment_of (owns_of elems)) (sym same ∙ top_found (owns_of elems));
}
finish_found _ elems outer s same well = absurd (none_is_some s same)

step_tokens_are : (m : Mark) (t : Placed) (ts : List Placed) → step_tokens m t ++ ts ≡ cond (is_line m) ts (t ∷ ts)
step_tokens_are Newline t ts = refl
step_tokens_are _ t ts = refl

abbrev RunFound : List Placed → Type 0
RunFound ts = (top : Raw) (outer : List Raw) (s : Segment) → run (image top) (map image outer) ts ≡ Some s → IsWellRaw top → AreWellRaws outer → Found (all_tokens top outer ++ without_lines ts) s

after_step : (t : Placed) (ts : List Placed) → RunFound ts → (top : Raw) (outer : List Raw) (s : Segment) (o : Option Levels) → next t (image top, map image outer) ≡ o → option_and_then (λ ls. run ls.0 ls.1 ts) o ≡ Some s → IsWellRaw top → AreWellRaws outer
    → Found (all_tokens top outer ++ without_lines (t ∷ ts)) s
after_step t ts more top outer s None is same well wells = absurd (none_is_some s same)
after_step t ts more top outer s (Some new) is same well wells =
    let led = next_leads (mark_of t) t refl top outer new is well wells in
    let rest = more led.raw led.raws s (subst (λ (ls : Levels). run ls.0 ls.1 ts ≡ Some s) led.levels_are same) led.well led.wells in
    let tokens : all_tokens led.raw led.raws ++ without_lines ts ≡ all_tokens top outer ++ without_lines (t ∷ ts) =
    ap (λ xs. xs ++ without_lines ts) led.tokens_are ∙ append_assoc (all_tokens top outer) (step_tokens (mark_of t) t) (without_lines ts) ∙ ap (λ xs. all_tokens top outer ++ xs) (step_tokens_are (mark_of t) t (without_lines ts)) in
    subst (λ xs. Found xs s) tokens rest

run_found : (ts : List Placed) → RunFound ts
run_found [] = λ top outer s same well wells. subst (λ xs. Found xs s) (sym (append-nil (all_tokens top outer))) (finish_found top.opening top.elems outer s same well.1)
run_found (t ∷ ts) = λ top outer s same well wells. after_step t ts (run_found ts) top outer s (next t (image top, map image outer)) refl same well wells

-- what the steps answer is the statement of the tokens
pub answer_is_statement : (ts : List Placed) (s : Segment) → run (new_level None) [] ts ≡ Some s → IsStatementOf ts (statement_with ts s)
answer_is_statement ts s same =
    let found = run_found ts (record { opening = None; elems = [] }) [] s same (tt, tt) tt in
    of_tree ts (statement_with ts s) (record { elems = found.elems; tokens_are = found.tokens_are; well = found.well; is = ap (statement_with ts) found.is })

-- and the only one
pub answer_is_only : (ts : List Placed) (s : Segment) → run (new_level None) [] ts ≡ Some s → (t : Statement) → IsStatementOf ts t → statement_with ts s ≡ t
answer_is_only ts s same t is = some_injective (statement_with ts s) t (ap (option_map (statement_with ts)) (sym same) ∙ statement_found ts t is)

-- where the steps have no answer, there is none
pub no_answer : (ts : List Placed) → run (new_level None) [] ts ≡ None → (t : Statement) → IsStatementOf ts t → ⊥
no_answer ts same t is = none_is_some t (ap (option_map (statement_with ts)) (sym same) ∙ statement_found ts t is)
