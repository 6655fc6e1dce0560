-- What `remove` of values makes of an argument whose value is one list of strings.
use Rattle.std.proofs.Common.{◌≡◌, ◌<◌, ℕ, length, arith, List, [], ◌∷◌, ◌++◌, Bool, true, false, ◌&&◌, not, refl, sym, ap, ◌∙◌, append-nil, subst, bytes_eq}
use Rattle.std.proofs.lemmas.Bool.{false≢true}
use Rattle.std.specs.Prelude.{codes, Option, None, Some, Result, Ok, Err, IfOk, IfSome, if◌then◌else◌}
use Rattle.bz_token.specs.Common.{is_empty, map_or}
use Rattle.bz_token.specs.declared.token.Kind.TheVariants.{Identifier, Operator}
use Rattle.bz_tree.proofs.Rows.FromParts.{segs_back}
use Rattle.bz_tree.specs.declared.tree.GroupKind.TheVariants.{List as ListKind}
use Rattle.bz_tree.specs.Tree.{leaf, group, Segment, segments, segs_of}
use Rattle.bz_label.specs.Labels.{Package}
use Rattle.bz_label.specs.declared.arguments.Attributes.TheVariants.{Named}
use Rattle.bz_label.specs.declared.arguments.Chosen.TheVariants.{Values}
use Rattle.bz_rule.specs.Remove.{remove}
use Rattle.bz_attribute.specs.Effects.{edit_first, filtered, unchosen}
use Rattle.bz_attribute.specs.Reports.{chooses}
use Rattle.bz_rule.specs.Reports.{removes}
use Rattle.bz_attribute.specs.Lists.{edit_parts, with_value}
use Rattle.bz_attribute.specs.Rules.{first_named, is_named, value}
use Rattle.bz_canonical.specs.Canonical.{argument_lines, read_alone}
use Rattle.bz_canonical.specs.Removed.{IsRemoved, RemovesFromLines}
use Rattle.bz_canonical.specs.declared.edited.EditedList.{EditedList}
use Rattle.bz_canonical.specs.declared.edited.EditedList.TheVariants.{Unchanged, Written}
use Rattle.bz_rule.specs.declared.forms.AttributeValues.{AttributeValues}
use Rattle.bz_canonical.specs.declared.edited.ListEdit.{ListEdit}
use Rattle.bz_canonical.specs.private.Added.{is_word, list_arg}
use Rattle.bz_canonical.specs.private.Edited.{EditsElements, become, becomes_by, edited, have_meant, left_args, removing}
use Rattle.bz_canonical.specs.private.Elements.{Element, element_segs}
use Rattle.bz_canonical.proofs.EditedLines.{have_is, segment_of}
use Rattle.bz_canonical.proofs.ListLines.{chooses_is}

-- the argument

unchosen_is : (home : Package) (old : AttributeValues) (es : List Element) → unchosen home (Values old.values.now) (segments (element_segs es)) ≡ segments (element_segs (edited home (removing old) es))
unchosen_is home old [] = refl
unchosen_is home old (e ∷ es) = by (is_word home old.values.now e.token) (unchosen home (Values old.values.now) (segments (element_segs es))) (edited home (removing old) es) (unchosen_is home old es)
  where
    by : (b : Bool) (ss : List Segment) (left : List Element) → ss ≡ segments (element_segs left) → (if not b then segment_of e ∷ ss else ss) ≡ segments (element_segs (become (becomes_by (removing old) (b && true)) e ++ left))
    by true ss left is = is
    by false ss left is = ap (λ (xs : List Segment). segment_of e ∷ xs) is

some_segments : (es : List Element) → is_empty es ≡ false → is_empty (segments (element_segs es)) ≡ false
some_segments [] some = some
some_segments (e ∷ es) some = refl

loses_none : (x b : Bool) → b ≡ false → (true && not x && b) ≡ false
loses_none true b some = refl
loses_none false b some = some

loses : (x b : Bool) → x ≡ false → b ≡ true → (true && not x && b) ≡ true
loses x b some none = rw (some, none) refl

filtered_is : (f : List Segment → List Segment) (word : List ℕ) (notes : List (List ℕ)) (es left : List Element) (suffix : Option (List ℕ)) → f (segments (element_segs es)) ≡ segments (element_segs left) → is_empty es ≡ false
    → filtered f (list_arg notes word es suffix) ≡ left_args notes word left suffix
filtered_is f word notes es [] suffix is filled =
    let a : Segment = list_arg notes word es suffix in
    ap (λ b. if b then [] else with_value (edit_parts f (value a)) a ∷ []) (loses (is_empty (segments (element_segs es))) (is_empty (f (segments (element_segs es)))) (some_segments es filled) (ap is_empty is))
filtered_is f word notes es (x ∷ xs) suffix is filled =
    let left : List Element = x ∷ xs in
    let a : Segment = list_arg notes word es suffix in
    ap (λ b. if b then [] else with_value (edit_parts f (value a)) a ∷ []) (loses_none (is_empty (segments (element_segs es))) (is_empty (f (segments (element_segs es)))) (ap is_empty is))
    ∙ ap (λ ss. record { before = notes; nodes = leaf Identifier word ∷ leaf Operator (codes "=") ∷ group ListKind ss false [] ∷ []; suffix = suffix } ∷ []) (ap segs_of is ∙ segs_back (element_segs left))

remove_is : (home : Package) (old : AttributeValues) (word : List ℕ) (notes : List (List ℕ)) (es : List Element) (suffix : Option (List ℕ)) → is_empty old.values.now ≡ false → bytes_eq old.attr.now word ≡ true → is_empty es ≡ false
    → remove home (Named old.attr.now) old.values.now (list_arg notes word es suffix ∷ []) ≡ left_args notes word (edited home (removing old) es) suffix
remove_is home old word notes es suffix some named filled =
    by_values old.values.now some
    ∙ rw named (ap (λ (xs : List Segment). xs ++ []) (filtered_is (unchosen home (Values old.values.now)) word notes es (edited home (removing old) es) suffix (unchosen_is home old es) filled)
    ∙ append-nil (left_args notes word (edited home (removing old) es) suffix))
  where
    by_values : (values : List (List ℕ)) → is_empty values ≡ false
        → remove home (Named old.attr.now) values (list_arg notes word es suffix ∷ []) ≡ edit_first (is_named old.attr.now) (filtered (unchosen home (Values values))) (list_arg notes word es suffix ∷ [])
    by_values [] none = absurd (false≢true (sym none))
    by_values (v ∷ values) some = refl

removes_is : (home : Package) (old : AttributeValues) (word : List ℕ) (notes : List (List ℕ)) (es : List Element) (suffix : Option (List ℕ)) → is_empty old.values.now ≡ false → bytes_eq old.attr.now word ≡ true
    → removes home (Named old.attr.now) old.values.now (list_arg notes word es suffix ∷ []) ≡ have_meant home (removing old) es
removes_is home old word notes es suffix some named =
    by_values old.values.now some ∙ chooses_is home old.attr.now word old.values.now notes es suffix named ∙ sym (have_is home (removing old) es (λ token. refl))
  where
    by_values : (values : List (List ℕ)) → is_empty values ≡ false
        → removes home (Named old.attr.now) values (list_arg notes word es suffix ∷ []) ≡ map_or false (chooses home (Values values)) (first_named old.attr.now (list_arg notes word es suffix ∷ []))
    by_values [] none = absurd (false≢true (sym none))
    by_values (v ∷ values) some = refl

pub some_of : (values : List (List ℕ)) → 0 < length values → is_empty values ≡ false
some_of [] some = absurd (omega (arith, some))
some_of (v ∷ values) some = refl

-- what is made of its lines

meant_some : (home : Package) (edit : ListEdit) (es : List Element) → have_meant home edit es ≡ true → is_empty es ≡ false
meant_some home edit [] some = absurd (false≢true some)
meant_some home edit (e ∷ es) some = refl

removes_lines : (depth : ℕ) (home : Package) (values : AttributeValues) (lines old new : List ℕ) (told : Option EditedList) → is_empty values.values.now ≡ false → IfSome told (EditsElements depth home (removing values) lines old new)
    → IfSome told (RemovesFromLines (read_alone depth home lines) values old new)
removes_lines depth home values lines old new None filled known = tt
removes_lines depth home values lines old new (Some Unchanged) filled stays =
    let a = stays.list in
    λ args reads. ap (removes home (Named values.attr.now) values.values.now) (a.same args reads) ∙ removes_is home values a.name a.notes a.elements a.suffix filled a.named ∙ stays.none
removes_lines depth home values lines old new (Some Written) filled put =
    let a = put.list in
    let removed = remove_is home values a.name a.notes a.elements a.suffix filled a.named (meant_some home (removing values) a.elements put.some) in (
      put.written,
      put.put,
      λ args reads. subst (λ xs. IsRemoved home values xs put.written) (sym (a.same args reads)) (record {
        removed = removes_is home values a.name a.notes a.elements a.suffix filled a.named ∙ put.some;
        lines_are = put.lines_are ∙ ap argument_lines (sym removed);
      }),
    )

pub removes_read : {E : Type 0} (depth : ℕ) (home : Package) (values : AttributeValues) (lines old new : List ℕ) (r : Result (Option EditedList) E) → is_empty values.values.now ≡ false → IfOk r (λ told. IfSome told (EditsElements depth home (removing values) lines old new))
    → IfOk r (λ told. IfSome told (RemovesFromLines (read_alone depth home lines) values old new))
removes_read depth home values lines old new (Ok told) filled known = removes_lines depth home values lines old new told filled known
removes_read depth home values lines old new (Err e) filled known = known
