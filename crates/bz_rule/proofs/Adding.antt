-- What `add` writes, value by value, and what it makes of a rule.
use Rattle.std.proofs.Common.{◌≡◌, ℕ, ◌+◌, ◌-◌, ◌<◌, ◌≤◌, List, [], ◌∷◌, ◌++◌, Bool, true, false, not, if◌then◌else◌, Option, Some, None, length, get_or, map, take, drop, refl, ap, sym, ◌∙◌, subst, arith, append_assoc, append-nil, length-append, take-add}
use Rattle.std.specs.Prelude.{codes, option_to_list}
use Rattle.std.proofs.lemmas.List.{drop_all, drop_more, map-append, take_more}
use Rattle.bz_token.specs.declared.token.Kind.TheVariants.{Identifier, Operator}
use Rattle.bz_tree.specs.declared.tree.GroupKind.TheVariants.{List as ListKind}
use Rattle.bz_tree.specs.Rows.{RowPart, a_token, above, beside_part, closing, opening, items_parts, parts_of, segment_end, segs_parts}
use Rattle.bz_tree.specs.Tree.{Item, Segment, Statement, items_of, segs_of}
use Rattle.bz_label.specs.Labels.{Package}
use Rattle.bz_rule.specs.Add.{add}
use Rattle.bz_rule.specs.AddByValue.{add_by_value, fresh, is_fresh, new_elements, with_added}
use Rattle.bz_rule.specs.Reports.{adds}
use Rattle.bz_rule.proofs.Adds.{by_value_is}
use Rattle.bz_attribute.specs.Effects.{argument, edit_first, has, list_item, no_list_note, string, with_args}
use Rattle.bz_attribute.specs.Reports.{done}
use Rattle.bz_attribute.specs.Elements.{AreElementsTo, AreLists, IsListIn, IsValueAt}
use Rattle.bz_attribute.specs.Lists.{parts, with_value}
use Rattle.bz_label.specs.Same.{same}
use Rattle.bz_attribute.specs.ListWalk.{edit_first_part}
use Rattle.bz_attribute.specs.RowEdits.{replaced_at}
use Rattle.bz_attribute.specs.RowPlaces.{IsLocal, IsPlaceOf, IsRuleRow, alone}
use Rattle.bz_attribute.specs.Rules.{Rule, first_named, is_named, value}
use Rattle.bz_attribute.specs.declared.done.Done.{Done}
use Rattle.bz_attribute.specs.declared.done.Note.TheVariants.{NotAList}
use Rattle.bz_attribute.specs.declared.place.Place.{Place}
use Rattle.bz_attribute.proofs.EditedAt.{none_first, segs_join, with_args_at}
use Rattle.bz_attribute.proofs.ListEdits.{appended}
use Rattle.bz_attribute.proofs.Locals.{edit_same, edits_one, is_there}
use Rattle.bz_token.specs.Common.{is_empty}

-- the elements for those of the first i values that are missing were written
pub record IsAdding (home : Package) (lists : List (List Segment)) (values : List (List ℕ)) (i : ℕ) (before now : List RowPart) : Type 0 where
  pub made : List Segment
  pub parts : now ≡ before ++ segs_parts (segs_of made)
  pub added : made ++ map string (fresh home lists (take i values) (drop i values)) ≡ new_elements home lists values

-- value by value
fresh_step : (home : Package) (lists : List (List Segment)) (values : List (List ℕ)) (i : ℕ) (w d : List ℕ) (new added : List Segment) → i < length values → w ≡ get_or values i d
    → added ≡ new ++ map string (if is_fresh home lists (take i values) w then w ∷ [] else [])
    → added ++ map string (fresh home lists (take (i + 1) values) (drop (i + 1) values)) ≡ new ++ map string (fresh home lists (take i values) (drop i values))
fresh_step home lists values i w d new added h at made =
    let one : List (List ℕ) = if is_fresh home lists (take i values) w then w ∷ [] else [] in
    let later : List (List ℕ) = fresh home lists (take (i + 1) values) (drop (i + 1) values) in
    let here : drop i values ≡ w ∷ drop (i + 1) values = drop_more values i d h ∙ ap (λ (z : List ℕ). z ∷ drop (i + 1) values) (sym at) in
    let read : take (i + 1) values ≡ take i values ++ w ∷ [] = take_more values i d h ∙ ap (λ (z : List ℕ). take i values ++ z ∷ []) (sym at) in
    ap (λ (z : List Segment). z ++ map string later) made
    ∙ append_assoc new (map string one) (map string later)
    ∙ ap (λ (z : List Segment). new ++ z) (sym (map-append string one later))
    ∙ ap (λ (z : List (List ℕ)). new ++ map string z) (ap (λ (e : List (List ℕ)). one ++ fresh home lists e (drop (i + 1) values)) read ∙ sym (ap (fresh home lists (take i values)) here))

pub adding_begins : (home : Package) (lists : List (List Segment)) (values : List (List ℕ)) (before : List RowPart) → IsAdding home lists values 0 before before
adding_begins home lists values before = record { made = []; parts = sym (append-nil before); added = refl }

pub adding_more : (home : Package) (lists : List (List Segment)) (values : List (List ℕ)) (i : ℕ) (word : List ℕ) (before now after : List RowPart) → IsAdding home lists values i before now → i < length values → word ≡ get_or values i []
    → is_fresh home lists (take i values) word ≡ true → after ≡ now ++ segs_parts (segs_of (string word ∷ [])) → IsAdding home lists values (i + 1) before after
adding_more home lists values i word before now after a h at fresh written = record {
  made = a.made ++ string word ∷ [];
  parts =
      written ∙ ap (λ (ps : List RowPart). ps ++ segs_parts (segs_of (string word ∷ []))) a.parts
      ∙ append_assoc before (segs_parts (segs_of a.made)) (segs_parts (segs_of (string word ∷ [])))
      ∙ ap (λ (ps : List RowPart). before ++ ps) (sym (segs_join a.made (string word ∷ [])));
  added = fresh_step home lists values i word [] a.made (a.made ++ string word ∷ []) h at (rw fresh refl) ∙ a.added;
}

pub adding_none : (home : Package) (lists : List (List Segment)) (values : List (List ℕ)) (i : ℕ) (word : List ℕ) (before now after : List RowPart) → IsAdding home lists values i before now → i < length values → word ≡ get_or values i []
    → is_fresh home lists (take i values) word ≡ false → after ≡ now → IsAdding home lists values (i + 1) before after
adding_none home lists values i word before now after a h at known same = record {
  made = a.made;
  parts = same ∙ a.parts;
  added = fresh_step home lists values i word [] a.made a.made h at (rw known (sym (append-nil a.made))) ∙ a.added;
}

pub adding_ends : (home : Package) (lists : List (List Segment)) (values : List (List ℕ)) (i : ℕ) (before now : List RowPart) → IsAdding home lists values i before now → length values ≤ i → now ≡ before ++ segs_parts (segs_of (new_elements home lists values))
adding_ends home lists values i before now a h =
    let all : a.made ≡ new_elements home lists values =
    sym (append-nil a.made) ∙ ap (λ (ws : List (List ℕ)). a.made ++ map string (fresh home lists (take i values) ws)) (sym (drop_all i values h)) ∙ a.added in
    a.parts ∙ ap (λ (ss : List Segment). before ++ segs_parts (segs_of ss)) all

-- what it tells
abbrev pub told : Package → List ℕ → List (List ℕ) → List Segment → Done
told home attr values args = done (no_list_note attr (first_named attr args)) (adds home values (first_named attr args))

pub told_absent : (home : Package) (attr : List ℕ) (values : List (List ℕ)) (args : List Segment) → has attr args ≡ false → done None true ≡ told home attr values args
told_absent home attr values args none = sym (ap (λ (a : Option Segment). done (no_list_note attr a) (adds home values a)) (none_first attr args none))

pub told_no_list : (home : Package) (attr : List ℕ) (values : List (List ℕ)) (args : List Segment) (a : Segment) → first_named attr args ≡ Some a → parts (value a) ≡ [] → done (Some (NotAList attr)) false ≡ told home attr values args
told_no_list home attr values args a first none =
    sym (ap (λ (b : Option Segment). done (no_list_note attr b) (adds home values b)) first ∙ ap (λ (b : Bool). done (if b then Some (NotAList attr) else None) (adds home values (Some a))) (ap is_empty none))

pub told_list : (home : Package) (attr : List ℕ) (values : List (List ℕ)) (args : List Segment) (a : Segment) (ss : List Segment) (lists : List (List Segment)) (b : Bool) → first_named attr args ≡ Some a → parts (value a) ≡ ss ∷ lists
    → not (is_empty (new_elements home (parts (value a)) values)) ≡ b → done None b ≡ told home attr values args
told_list home attr values args a ss lists b first some is =
    sym (ap (λ (c : Option Segment). done (no_list_note attr c) (adds home values c)) first
    ∙ ap (λ (c : Bool). done (if c then Some (NotAList attr) else None) (adds home values (Some a))) (ap is_empty some) ∙ ap (done None) is)

-- whether there is something new
segment_some : (s : Segment) (ss : List Segment) → 1 ≤ length (segs_parts (segs_of (s ∷ ss)))
segment_some s ss = omega (
  arith,
  length-append (map above s.before) (items_parts (items_of s.nodes) ++ (segment_end ∷ (beside_part s.suffix ++ segs_parts (segs_of ss)))),
  length-append (items_parts (items_of s.nodes)) (segment_end ∷ (beside_part s.suffix ++ segs_parts (segs_of ss))),
)

pub none_new : (ss : List Segment) (ps : List RowPart) → ps ≡ segs_parts (segs_of ss) → length ps ≡ 0 → not (is_empty ss) ≡ false
none_new [] ps is h = refl
none_new (s ∷ ss) ps is h = absurd (omega (arith, ap length is, h, segment_some s ss))

pub some_new : (ss : List Segment) (ps : List RowPart) → ps ≡ segs_parts (segs_of ss) → 1 ≤ length ps → not (is_empty ss) ≡ true
some_new [] ps is h = absurd (omega (arith, ap length is, h))
some_new (s ∷ ss) ps is h = refl

-- an edit of the first argument of a name that adds others where there is none looks at that argument alone
pub put_local : (name : List ℕ) (edit : Segment → List Segment) (new : List Segment) → IsLocal name (λ args. if has name args then edit_first (is_named name) edit args else args ++ new)
put_local name edit new =
    edits_one name (λ args. if has name args then edit_first (is_named name) edit args else args ++ new) new edit (λ args h. rw h refl)
    (λ args a h. ap (λ (b : Bool). if b then edit_first (is_named name) edit args else args ++ new) (is_there name args a h) ∙ edit_same name edit (edit a) args a h refl)

-- an argument that is new to a rule
pub put_new : (name : List ℕ) (f : List Segment → List Segment) (s : Statement) (r : Rule) (ps new : List RowPart) (place : Place) → IsLocal name f → has name r.args ≡ false → IsPlaceOf name s r ps place.from place.to → new ≡ segs_parts (segs_of (f []))
    → replaced_at place new ps ≡ parts_of (with_args f s)
put_new name f s r ps new place local none at written =
    let alone_is : alone name r ≡ [] = ap (λ (o : Option Segment). option_to_list o) (none_first name r.args none) in
    ap (λ (qs : List RowPart). take place.from ps ++ (qs ++ drop place.to ps)) (written ∙ ap (λ (args : List Segment). segs_parts (segs_of (f args))) (sym alone_is)) ∙ at.put f local

-- elements at the end of the first list part of an argument
pub put_there : (name : List ℕ) (edit : Segment → List Segment) (f : List Segment → List Segment) (elements : List Segment) (s : Statement) (r : Rule) (ps new : List RowPart) (place list end : ℕ) → IsRuleRow s r ps → (v : IsValueAt name s r ps place)
    → (l : IsListIn true (value v.arg) v.after ps place list) → AreElementsTo l.list ps list end → edit v.arg ≡ with_value (edit_first_part (λ ss. ss ++ elements) (value v.arg)) v.arg ∷ []
    → (has name r.args ≡ true → f r.args ≡ edit_first (is_named name) edit r.args) → new ≡ segs_parts (segs_of elements) → replaced_at (record { from = end; to = end }) new ps ≡ parts_of (with_args f s)
put_there name edit f elements s r ps new place list end h v l e made edits written =
    let front : take end ps ≡ take place ps ++ take (end - place) (drop place ps) = ap (λ (n : ℕ). take n ps) (omega (arith, l.begins, e.size)) ∙ take-add place (end - place) ps in
    (λ i. front i ++ (written i ++ drop end ps))
    ∙ append_assoc (take place ps) (take (end - place) (drop place ps)) (segs_parts (segs_of elements) ++ drop end ps)
    ∙ ap (λ (qs : List RowPart). take place ps ++ qs) (sym (appended elements (value v.arg) v.after ps place list end v.read l e.are e.size))
    ∙ v.put edit (edit_first_part (λ ss. ss ++ elements) (value v.arg)) made
    ∙ ap parts_of (sym (with_args_at f (edit_first (is_named name) edit) s r h.rule (edits (is_there name r.args v.arg v.first))))

-- what `add` makes of the rule
pub added_new : (home : Package) (attr : List ℕ) (values : List (List ℕ)) (s : Statement) (r : Rule) (ps new : List RowPart) (place : Place) → has attr r.args ≡ false → IsPlaceOf attr s r ps place.from place.to
    → new ≡ segs_parts (segs_of (argument attr (list_item (new_elements home [] values) ∷ []) ∷ [])) → replaced_at place new ps ≡ parts_of (with_args (add home attr values) s)
added_new home attr values s r ps new place none at written =
    subst (λ (f : List Segment → List Segment). replaced_at place new ps ≡ parts_of (with_args f s)) (by_value_is home attr values)
    (put_new attr (add_by_value home attr values) s r ps new place (put_local attr (λ a. with_added home values a ∷ []) (argument attr (list_item (new_elements home [] values) ∷ []) ∷ [])) none at written)

pub added_there : (home : Package) (attr : List ℕ) (values : List (List ℕ)) (s : Statement) (r : Rule) (ps new : List RowPart) (place list end : ℕ) → IsRuleRow s r ps → (v : IsValueAt attr s r ps place) → (l : IsListIn true (value v.arg) v.after ps place list)
    → AreElementsTo l.list ps list end → new ≡ segs_parts (segs_of (new_elements home (parts (value v.arg)) values)) → replaced_at (record { from = end; to = end }) new ps ≡ parts_of (with_args (add home attr values) s)
added_there home attr values s r ps new place list end h v l e written =
    let edit : Segment → List Segment = λ a. with_added home values a ∷ [] in
    let some : is_empty (parts (value v.arg)) ≡ false = ap is_empty l.lists in
    subst (λ (f : List Segment → List Segment). replaced_at (record { from = end; to = end }) new ps ≡ parts_of (with_args f s)) (by_value_is home attr values)
    (put_there attr edit (add_by_value home attr values) (new_elements home (parts (value v.arg)) values) s r ps new place list end h v l e (rw some refl) (λ there. rw there refl) written)

pub lists_there : (ps : List RowPart) (nodes : List Item) (after : List RowPart) (place list : ℕ) → IsListIn true nodes after ps place list → AreLists ps (Some list) (parts nodes)
lists_there ps nodes after place list l = record { rest = l.list; after = after; read = l.read; are = l.lists }

-- the parts of a new argument
pub attribute_written : (attr : List ℕ) (ss : List Segment) (old one two three : List RowPart) → one ≡ old ++ (a_token Identifier attr ∷ a_token Operator (codes "=") ∷ opening ListKind ∷ []) → two ≡ one ++ segs_parts (segs_of ss)
    → three ≡ two ++ (closing false ∷ segment_end ∷ []) → three ≡ old ++ segs_parts (segs_of (argument attr (list_item ss ∷ []) ∷ []))
attribute_written attr ss old one two three first mid last =
    let head : List RowPart = a_token Identifier attr ∷ a_token Operator (codes "=") ∷ opening ListKind ∷ [] in
    let elements : List RowPart = segs_parts (segs_of ss) in
    let moved : ((old ++ head) ++ elements) ++ (closing false ∷ segment_end ∷ []) ≡ old ++ segs_parts (segs_of (argument attr (list_item ss ∷ []) ∷ [])) = simp append_assoc in
    last ∙ ap (λ (qs : List RowPart). qs ++ (closing false ∷ segment_end ∷ [])) (mid ∙ ap (λ (qs : List RowPart). qs ++ elements) first) ∙ moved
