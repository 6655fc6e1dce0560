-- The arguments of a rule, edited one by one among their parts.
use Rattle.std.proofs.Common.{◌≡◌, ℕ, ◌+◌, ◌≤◌, ◌<◌, List, [], ◌∷◌, ◌++◌, Bool, true, false, ◌||◌, ◌&&◌, not, if◌then◌else◌, Option, Some, None, is_some, option_map, length, map, take, drop, refl, ap, sym, ◌∙◌, arith, append_assoc, append-nil, length-append, length-drop}
use Rattle.std.specs.List.{flat_map, list_any}
use Rattle.std.proofs.lemmas.Bool.{false≢true}
use Rattle.std.proofs.lemmas.Grind.{flat_map-append}
use Rattle.std.proofs.lemmas.List.{length-map}
use Rattle.std.proofs.lemmas.List.Folds.{list_any-append}
use Rattle.bz_token.specs.declared.token.Kind.TheVariants.{String}
use Rattle.bz_tree.specs.declared.tree.GroupKind.TheVariants.{List as ListKind}
use Rattle.bz_tree.specs.Tree.{Item, leaf, group, Segment, items_of, segments, segs_of}
use Rattle.bz_tree.specs.Rows.{RowPart, above, beside_part, segment_end, items_parts, segs_parts}
use Rattle.bz_attribute.specs.Elements.{value_parts}
use Rattle.bz_attribute.specs.Effects.{filtered, loses_all}
use Rattle.bz_attribute.specs.RowPlaces.{IsFirstArgument, argument_parts}
use Rattle.bz_attribute.specs.Lists.{edit_parts, is_attribute, parts, with_value, only_list}
use Rattle.bz_attribute.specs.Rules.{value}
use Rattle.bz_attribute.proofs.EditedAt.{segs_join}
use Rattle.bz_attribute.proofs.ListElements.{IsKeyword, is_keyword}
use Rattle.std.proofs.Math.Bool.{or-false}
use Rattle.bz_attribute.specs.declared.place.Place.{Place}
use Rattle.bz_rule.specs.private.ArgumentEdits.{edited, HasEdited, HasEditedOne, HasEditedValue, is_changed}
use Rattle.bz_rule.specs.private.StringEdits.{become_all, changes, HasMadeWay, is_meant, IsUpTo, written_to}
use Rattle.bz_rule.proofs.ElementEdits.{after_them, and_them}
use Rattle.bz_rule.proofs.WrittenParts.{is_made, none_more, passed, put, some_more}
use Rattle.bz_token.specs.Common.{is_empty, map_or}

-- the parts of an argument, and what stands after it
apart : (a : Segment) (others : List Segment) → argument_parts a others ≡ segs_parts (segs_of (a ∷ [])) ++ segs_parts (segs_of others)
apart a others = segs_join (a ∷ []) others

after_argument : (a : Segment) (others : List Segment) (ps : List RowPart) (at k : ℕ) → drop at ps ≡ argument_parts a others → k ≡ at + length (segs_parts (segs_of (a ∷ []))) → drop k ps ≡ segs_parts (segs_of others)
after_argument a others ps at k are size = after_them ps (segs_parts (segs_of (a ∷ []))) (segs_parts (segs_of others)) at k (are ∙ apart a others) size

pub mapped_some : {A B : Type 0} (f : A → B) (o : Option A) → is_some (option_map f o) ≡ is_some o
mapped_some f None = refl
mapped_some f (Some x) = refl

-- an argument that stays
pub stays : (f : Segment → List Segment) (t : Segment → Bool) (a : Segment) (others : List Segment) (at nodes to : ℕ) (name : Option (List ℕ)) (ps : List RowPart) (written : Option Place) (out : List RowPart) (was : Bool) → IsUpTo written at → drop at ps ≡ argument_parts a others → IsFirstArgument a nodes to name
    → f a ≡ a ∷ [] → t a ≡ false → HasEdited f t a others (drop (at + to) ps) was was (written_to written out ps at) (written_to written out ps (at + to))
stays f t a others at nodes to name ps written out was h are first same none =
    let own : List RowPart = segs_parts (segs_of (a ∷ [])) in
    let size : at + to ≡ at + length own = ap (λ (k : ℕ). at + k) first.ends in
    record {
      read = after_argument a others ps at (at + to) are size;
      changed = none_more was (t a) none;
      written = passed written out ps own at (at + to) h (and_them ps own (segs_parts (segs_of others)) at (at + to) (are ∙ apart a others) size) size ∙ ap (λ (ss : List Segment). written_to written out ps at ++ segs_parts (segs_of ss)) (sym same);
    }

-- one that goes
pub goes_away : (f : Segment → List Segment) (t : Segment → Bool) (a : Segment) (others : List Segment) (at nodes to : ℕ) (name : Option (List ℕ)) (ps : List RowPart) (written : Option Place) (out before : List RowPart) (was : Bool) → HasMadeWay before ps out (record { from = at; to = at + to }) written
    → drop at ps ≡ argument_parts a others → IsFirstArgument a nodes to name → f a ≡ [] → t a ≡ true → HasEdited f t a others (drop (at + to) ps) was (is_some written) before (written_to written out ps (at + to))
goes_away f t a others at nodes to name ps written out before was made are first gone is = record {
  read = after_argument a others ps at (at + to) are (ap (λ (k : ℕ). at + k) first.ends);
  changed = some_more was (is_some written) (t a) (is_made made) is;
  written = put before ps out out [] (record { from = at; to = at + to }) written made (sym (append-nil out)) ∙ ap (λ (ss : List Segment). before ++ segs_parts (segs_of ss)) (sym gone);
}

-- where the value of a keyword argument begins
abbrev pub name_parts : (a : Segment) → is_attribute a ≡ true → List RowPart
name_parts a h = map above a.before ++ (is_keyword a.nodes h).first ∷ (is_keyword a.nodes h).second ∷ []

-- what comes after its value
abbrev pub after_value : Segment → List Segment → List RowPart
after_value a others = beside_part a.suffix ++ segs_parts (segs_of others)

move_name : (comments rest after : List RowPart) (x y : RowPart) → comments ++ ((x ∷ y ∷ rest) ++ after) ≡ (comments ++ x ∷ y ∷ []) ++ (rest ++ after)
move_name comments rest after x y = simp append_assoc

cut_name : (a : Segment) (h : is_attribute a ≡ true) (after : List RowPart) → map above a.before ++ (items_parts (items_of a.nodes) ++ after) ≡ name_parts a h ++ (items_parts (items_of (value a)) ++ after)
cut_name a h after =
    let k : IsKeyword a.nodes = is_keyword a.nodes h in
    ap (λ (nodes : List Item). map above a.before ++ (items_parts (items_of nodes) ++ after)) k.are
    ∙ ap (λ (qs : List RowPart). map above a.before ++ (qs ++ after)) (k.parts (value a))
    ∙ move_name (map above a.before) (items_parts (items_of (value a))) after k.first k.second

name_long : (a : Segment) (h : is_attribute a ≡ true) → length (name_parts a h) ≡ length a.before + 2
name_long a h = omega (arith, length-append (map above a.before) ((is_keyword a.nodes h).first ∷ (is_keyword a.nodes h).second ∷ []), length-map a.before above)

pub value_reads : (a : Segment) (h : is_attribute a ≡ true) (others : List Segment) (ps : List RowPart) (at v nodes to : ℕ) (name : Option (List ℕ)) → drop at ps ≡ argument_parts a others → IsFirstArgument a nodes to name → v ≡ at + nodes + 2
    → drop v ps ≡ value_parts (value a) (after_value a others)
value_reads a h others ps at v nodes to name are first is =
    after_them ps (name_parts a h) (value_parts (value a) (after_value a others)) at v (are ∙ cut_name a h (segment_end ∷ after_value a others)) (omega (arith, is, first.begins, name_long a h))

-- it is not behind the end
pub value_early : (a : Segment) (h : is_attribute a ≡ true) (nodes to : ℕ) (name : Option (List ℕ)) → IsFirstArgument a nodes to name → nodes + 2 ≤ to
value_early a h nodes to name first =
    let rest : List RowPart = segment_end ∷ (beside_part a.suffix ++ []) in
    omega (arith, first.begins, first.ends, ap length (cut_name a h rest), name_long a h, length-append (name_parts a h) (items_parts (items_of (value a)) ++ rest), length-append (items_parts (items_of (value a))) rest)

-- where it is one list that loses all
gone_value : (f : List Segment → List Segment) (a : Segment) → loses_all f (value a) ≡ true → filtered f a ≡ []
gone_value f a is = ap (λ (b : Bool). if b then [] else with_value (edit_parts f (value a)) a ∷ []) is

any_gone : (p : Option (List ℕ) → Bool) (ss : List Segment) → (not (is_empty ss) && is_empty (become_all p None ss)) ≡ true → list_any (is_meant p) ss ≡ true
any_gone p [] h = absurd (false≢true h)
any_gone p (s ∷ ss) h = elim (is_meant p s) as (λ b. is_empty ((if b then [] else s ∷ []) ++ become_all p None ss) ≡ true → (b || list_any (is_meant p) ss) ≡ true) [ true ↦ λ e. refl | false ↦ λ e. absurd (false≢true e) ] h

pub lost_changes : (p : Option (List ℕ) → Bool) (nodes : List Item) → loses_all (become_all p None) nodes ≡ true → list_any (list_any (is_meant p)) (parts nodes) ≡ true
lost_changes p [] h = absurd (false≢true h)
lost_changes p (group ListKind segs one_comma end ∷ []) h = or-false (list_any (is_meant p) (segments segs)) ∙ any_gone p (segments segs) h
lost_changes p (leaf k text ∷ xs) h = absurd (false≢true h)
lost_changes p (group ListKind segs one_comma end ∷ y ∷ xs) h = absurd (false≢true h)
lost_changes p (group _ segs one_comma end ∷ xs) h = absurd (false≢true h)

-- what becomes another is never lost
never_nil : (p : Option (List ℕ) → Bool) (literal : List ℕ) (ss : List Segment) → (not (is_empty ss) && is_empty (become_all p (Some literal) ss)) ≡ false
never_nil p literal [] = refl
never_nil p literal (s ∷ ss) = elim (is_meant p s) as (λ b. is_empty ((if b then record s { nodes = leaf String literal ∷ [] } ∷ [] else s ∷ []) ++ become_all p (Some literal) ss) ≡ false) [ true ↦ refl | false ↦ refl ]

pub never_lost : (p : Option (List ℕ) → Bool) (literal : List ℕ) (nodes : List Item) → loses_all (become_all p (Some literal)) nodes ≡ false
never_lost p literal nodes =
    elim (only_list nodes) as (λ o. map_or false (λ ss. not (is_empty ss) && is_empty (become_all p (Some literal) ss)) o ≡ false) [ None ↦ refl | Some ss ↦ never_nil p literal ss ]

pub lost : (p : Option (List ℕ) → Bool) (literal : Option (List ℕ)) (a : Segment) (others : List Segment) (at nodes to : ℕ) (name : Option (List ℕ)) (ps : List RowPart) (written : Option Place) (out before : List RowPart) (was : Bool) → HasMadeWay before ps out (record { from = at; to = at + to }) written
    → drop at ps ≡ argument_parts a others → IsFirstArgument a nodes to name → loses_all (become_all p literal) (value a) ≡ true → HasEdited (filtered (become_all p literal)) (changes p) a others (drop (at + to) ps) was (is_some written) before (written_to written out ps (at + to))
lost p None a others at nodes to name ps written out before was made are first all =
    goes_away (filtered (become_all p None)) (changes p) a others at nodes to name ps written out before was made are first (gone_value (become_all p None) a all) (lost_changes p (value a) all)
lost p (Some literal) a others at nodes to name ps written out before was made are first all = absurd (false≢true (sym (never_lost p literal (value a)) ∙ all))

-- where something is left
all_together : (target comments done rest beside : List RowPart) (x y e : RowPart) → ((target ++ (comments ++ x ∷ y ∷ [])) ++ done) ++ (rest ++ e ∷ beside) ≡ target ++ (comments ++ ((x ∷ y ∷ (done ++ rest)) ++ (e ∷ beside)))
all_together target comments done rest beside x y e = simp append_assoc

pub left : (p : Option (List ℕ) → Bool) (literal : Option (List ℕ)) (a : Segment) (others : List Segment) (at v end nodes to k : ℕ) (name : Option (List ℕ)) (ps out1 out2 : List RowPart) (written1 written2 : Option Place) (was is : Bool) → (h : is_attribute a ≡ true) → IsUpTo written1 at → IsUpTo written2 end
    → drop at ps ≡ argument_parts a others → IsFirstArgument a nodes to name → v ≡ at + nodes + 2 → at + to ≤ length ps → end ≤ length ps → (end ≤ at + to → k ≡ at + to)
    → HasEditedValue p literal (value a) (after_value a others) (drop end ps) was is (written_to written1 out1 ps v) (written_to written2 out2 ps end) → loses_all (become_all p literal) (value a) ≡ false
    → HasEdited (filtered (become_all p literal)) (changes p) a others (drop k ps) was is (written_to written1 out1 ps at) (written_to written2 out2 ps k)
left p literal a others at v end nodes to k name ps out1 out2 written1 written2 was is h before until are first v_is fits fits2 k_is made some =
    let f : List Segment → List Segment = become_all p literal in
    let kw : IsKeyword a.nodes = is_keyword a.nodes h in
    let pre : List RowPart = name_parts a h in
    let beside : List RowPart = beside_part a.suffix in
    let last : List RowPart = made.rest ++ segment_end ∷ beside in
    let tail : List RowPart = segs_parts (segs_of others) in
    let ends : drop (at + to) ps ≡ tail = after_argument a others ps at (at + to) are (ap (λ (m : ℕ). at + m) first.ends) in
    let rest_is : drop end ps ≡ last ++ tail = made.read ∙ sym (append_assoc made.rest (segment_end ∷ beside) tail) in
    let size : at + to ≡ end + length last =
    omega (arith, fits, fits2, ap length ends, ap length rest_is, length-drop (at + to) ps, length-drop end ps, length-append last tail) in
    let k_size : k ≡ at + to = k_is (omega (arith, size)) in
    let reads : drop k ps ≡ tail = ap (λ (m : ℕ). drop m ps) k_size ∙ ends in
    let v_size : v ≡ at + length pre = omega (arith, v_is, first.begins, name_long a h) in
    let all : filtered f a ≡ with_value (edit_parts f (value a)) a ∷ [] = ap (λ (b : Bool). if b then [] else with_value (edit_parts f (value a)) a ∷ []) some in
    let taken : take 2 a.nodes ≡ kw.name ∷ kw.operator ∷ [] = ap (take 2) kw.are in
    let own : segs_parts (segs_of (filtered f a)) ≡ map above a.before ++ ((kw.first ∷ kw.second ∷ (made.made ++ made.rest)) ++ (segment_end ∷ beside)) =
    ap (λ (ss : List Segment). segs_parts (segs_of ss)) all
    ∙ ap (λ (ns : List Item). map above a.before ++ (items_parts (items_of (ns ++ edit_parts f (value a))) ++ (segment_end ∷ (beside ++ [])))) taken
    ∙ ap (λ (qs : List RowPart). map above a.before ++ (qs ++ (segment_end ∷ (beside ++ [])))) (kw.parts (edit_parts f (value a)))
    ∙ (λ i. map above a.before ++ ((kw.first ∷ kw.second ∷ sym made.total i) ++ (segment_end ∷ append-nil beside i))) in
    let target : List RowPart = written_to written1 out1 ps at in
    let at_value = passed written1 out1 ps pre at v before (and_them ps pre (value_parts (value a) (after_value a others)) at v (are ∙ cut_name a h (segment_end ∷ after_value a others)) v_size) v_size in
    let at_end = passed written2 out2 ps last end k until (rest_is ∙ ap (λ (qs : List RowPart). last ++ qs) (sym reads)) (k_size ∙ size) in
    record {
      read = reads;
      changed = made.changed;
      written = at_end ∙ ap (λ (qs : List RowPart). qs ++ last) (made.written ∙ ap (λ (qs : List RowPart). qs ++ made.made) at_value)
          ∙ all_together target (map above a.before) made.made made.rest beside kw.first kw.second segment_end ∙ ap (λ (qs : List RowPart). target ++ qs) (sym own);
    }

-- some of the arguments from a place on were edited, and others are left
pub record HasEditedSome (f : Segment → List Segment) (t : Segment → Bool) (args : List Segment) (ps : List RowPart) (from at : ℕ) (is : Bool) (now : List RowPart) : Type 0 where
  pub front : List Segment
  pub others : List Segment
  pub are : args ≡ front ++ others
  pub read : drop at ps ≡ segs_parts (segs_of others)
  pub changed : is ≡ list_any t front
  pub written : now ≡ take from ps ++ segs_parts (segs_of (flat_map f front))

-- the walk over the arguments
pub none_edited : (f : Segment → List Segment) (t : Segment → Bool) (args : List Segment) (ps : List RowPart) (from : ℕ) → drop from ps ≡ segs_parts (segs_of args) → HasEditedSome f t args ps from from false (take from ps)
none_edited f t args ps from are = record {
  front = [];
  others = args;
  are = refl;
  read = are;
  changed = refl;
  written = sym (append-nil (take from ps));
}

one_at : (f : Segment → List Segment) (t : Segment → Bool) (args front others : List Segment) (ps : List RowPart) (from at next : ℕ) (is more : Bool) (now more_now : List RowPart) → args ≡ front ++ others → drop at ps ≡ segs_parts (segs_of others) → is ≡ list_any t front
    → now ≡ take from ps ++ segs_parts (segs_of (flat_map f front)) → at < length ps → HasEditedOne f t ps at next is more now more_now → HasEditedSome f t args ps from next more more_now
one_at f t args front [] ps from at next is more now more_now are read changed written some edits = absurd (omega (arith, some, ap length read, length-drop at ps))
one_at f t args front (a ∷ later) ps from at next is more now more_now are read changed written some edits =
    let made = edits a later read in
    record {
      front = front ++ a ∷ [];
      others = later;
      are = are ∙ sym (append_assoc front (a ∷ []) later);
      read = made.read;
      changed = made.changed ∙ ap (λ (b : Bool). b || t a) changed ∙ sym (list_any-append t front (a ∷ []) ∙ ap (λ (b : Bool). list_any t front || b) (or-false (t a)));
      written = made.written ∙ ap (λ (qs : List RowPart). qs ++ segs_parts (segs_of (f a))) written
          ∙ append_assoc (take from ps) (segs_parts (segs_of (flat_map f front))) (segs_parts (segs_of (f a)))
          ∙ ap (λ (qs : List RowPart). take from ps ++ qs) (sym (segs_join (flat_map f front) (f a)) ∙ ap (λ (ss : List Segment). segs_parts (segs_of ss)) (sym (flat_map-append f front (a ∷ []) ∙ ap (λ (ss : List Segment). flat_map f front ++ ss) (append-nil (f a)))));
    }

pub one_edited : (f : Segment → List Segment) (t : Segment → Bool) (args : List Segment) (ps : List RowPart) (from at next : ℕ) (is more : Bool) (now more_now : List RowPart) → HasEditedSome f t args ps from at is now → at < length ps → HasEditedOne f t ps at next is more now more_now
    → HasEditedSome f t args ps from next more more_now
one_edited f t args ps from at next is more now more_now s some edits = one_at f t args s.front s.others ps from at next is more now more_now s.are s.read s.changed s.written some edits

no_others : (others : List Segment) → length (segs_parts (segs_of others)) ≡ 0 → others ≡ []
no_others [] h = refl
no_others (a ∷ others) h =
    let rest : List RowPart = segment_end ∷ (beside_part a.suffix ++ segs_parts (segs_of others)) in
    absurd (omega (arith, h, length-append (map above a.before) (items_parts (items_of a.nodes) ++ rest), length-append (items_parts (items_of a.nodes)) rest))

pub all_edited : (f : Segment → List Segment) (t : Segment → Bool) (args : List Segment) (ps : List RowPart) (from at : ℕ) (is : Bool) (now : List RowPart) → (s : HasEditedSome f t args ps from at is now) → at ≡ length ps → s.front ≡ args
all_edited f t args ps from at is now s ends =
    sym (s.are ∙ ap (λ (zs : List Segment). s.front ++ zs) (no_others s.others (omega (arith, ap length s.read, length-drop at ps, ends))) ∙ append-nil s.front)

-- a keyword argument, and any
pub of_keyword : (p : Option (List ℕ) → Bool) (literal : Option (List ℕ)) (a : Segment) (others : List Segment) (left : List RowPart) (was is : Bool) (old now : List RowPart) → is_attribute a ≡ true
    → HasEdited (filtered (become_all p literal)) (changes p) a others left was is old now → HasEdited (edited p literal) (is_changed p) a others left was is old now
of_keyword p literal a others left was is old now keyword h = record {
  read = h.read;
  changed = h.changed ∙ ap (λ (b : Bool). was || (b && changes p a)) (sym keyword);
  written = h.written ∙ ap (λ (b : Bool). old ++ segs_parts (segs_of (if b then filtered (become_all p literal) a else a ∷ []))) (sym keyword);
}
