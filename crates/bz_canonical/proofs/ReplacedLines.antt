-- What `replace` of a value makes of an argument whose value is one list of strings.
use Rattle.std.proofs.Common.{◌≡◌, ℕ, List, [], ◌∷◌, ◌++◌, Bool, true, false, ◌||◌, ◌&&◌, not, refl, sym, ap, ◌∙◌, subst, bytes_eq, map}
use Rattle.std.proofs.lemmas.Bool.{false≢true}
use Rattle.std.specs.Prelude.{codes, Option, None, Some, Result, Ok, Err, IfOk, IfSome, if◌then◌else◌}
use Rattle.std.specs.List.{list_any}
use Rattle.bz_token.specs.Common.{is_empty, map_or}
use Rattle.bz_token.specs.declared.token.Kind.TheVariants.{Identifier, Operator}
use Rattle.bz_tree.proofs.Rows.FromParts.{segs_back}
use Rattle.bz_tree.specs.declared.tree.GroupKind.TheVariants.{List as ListKind}
use Rattle.bz_tree.specs.Tree.{leaf, group, Segment, segments, segs_of}
use Rattle.bz_label.specs.Labels.{Package}
use Rattle.bz_label.specs.Values.{quoted, value_of}
use Rattle.bz_attribute.specs.Rules.{is_text}
use Rattle.bz_label.specs.declared.arguments.Attributes.TheVariants.{Named}
use Rattle.bz_rule.specs.Replace.{is_replaced, replace, replaced}
use Rattle.bz_rule.specs.Reports.{replaces, replaces_in}
use Rattle.bz_canonical.specs.Canonical.{argument_lines, read_alone}
use Rattle.bz_canonical.specs.Replaced.{IsReplaced, ReplacesInLines}
use Rattle.bz_canonical.specs.declared.edited.EditedList.{EditedList}
use Rattle.bz_canonical.specs.declared.edited.EditedList.TheVariants.{Unchanged, Written}
use Rattle.bz_canonical.specs.declared.edited.Becomes.TheVariants.{Other}
use Rattle.bz_canonical.specs.declared.edited.ListEdit.{ListEdit}
use Rattle.bz_canonical.specs.declared.edited.NewString.{NewString}
use Rattle.bz_rule.specs.declared.forms.ReplacedValue.{ReplacedValue}
use Rattle.bz_canonical.specs.private.Added.{is_value, is_word, list_arg}
use Rattle.bz_canonical.specs.private.Edited.{EditsElements, become, becomes_by, edited, have_meant, is_meant}
use Rattle.bz_canonical.specs.private.Elements.{Element, element_segs}
use Rattle.bz_canonical.proofs.EditedLines.{args_some, segment_of}
use Rattle.bz_canonical.proofs.GroupSegments.{or_no}
use Rattle.bz_canonical.proofs.ListLines.{first_is}

-- an edit by which the elements that equal its one word become another string
abbrev replacing : ListEdit → NewString → ListEdit
replacing edit new = record edit { becomes = Other new }

-- those that are replaced are meant
meant_is : (home : Package) (edit : ListEdit) (new : NewString) (old : List ℕ) (e : Element) → edit.words.now ≡ old ∷ [] → is_replaced home old new.value.now (segment_of e) ≡ is_meant home (replacing edit new) e.token
meant_is home edit new old e one = ap (λ b. b && not (is_text new.value.now (value_of e.token))) (sym (ap (λ (words : List (List ℕ)). is_word home words e.token) one ∙ or_no (is_value home old e.token)))

have_is : (home : Package) (edit : ListEdit) (new : NewString) (old : List ℕ) (es : List Element) → edit.words.now ≡ old ∷ [] → list_any (is_replaced home old new.value.now) (segments (element_segs es)) ≡ have_meant home (replacing edit new) es
have_is home edit new old [] one = refl
have_is home edit new old (e ∷ es) one = λ i. meant_is home edit new old e one i || have_is home edit new old es one i

-- the argument

replaced_are : (home : Package) (edit : ListEdit) (new : NewString) (old : List ℕ) (es : List Element) → edit.words.now ≡ old ∷ []
    → map (replaced home old new.value.now) (segments (element_segs es)) ≡ segments (element_segs (edited home (replacing edit new) es))
replaced_are home edit new old [] one = refl
replaced_are home edit new old (e ∷ es) one =
    ap (λ b. (if b then segment_of other else segment_of e) ∷ map (replaced home old new.value.now) (segments (element_segs es))) (meant_is home edit new old e one)
    ∙ by (is_meant home (replacing edit new) e.token) (map (replaced home old new.value.now) (segments (element_segs es))) (edited home (replacing edit new) es) (replaced_are home edit new old es one)
  where
    other : Element
    other = record e { token = quoted new.value.now }

    by : (b : Bool) (ss : List Segment) (left : List Element) → ss ≡ segments (element_segs left) → (if b then segment_of other else segment_of e) ∷ ss ≡ segments (element_segs (become (becomes_by (replacing edit new) b) e ++ left))
    by true ss left is = ap (λ (xs : List Segment). segment_of other ∷ xs) is
    by false ss left is = ap (λ (xs : List Segment). segment_of e ∷ xs) is

replace_is : (home : Package) (edit : ListEdit) (new : NewString) (old word : List ℕ) (notes : List (List ℕ)) (es : List Element) (suffix : Option (List ℕ)) → edit.words.now ≡ old ∷ [] → bytes_eq edit.attr.now word ≡ true
    → replace home (Named edit.attr.now) old new.value.now (list_arg notes word es suffix ∷ []) ≡ list_arg notes word (edited home (replacing edit new) es) suffix ∷ []
replace_is home edit new old word notes es suffix one named =
    rw named (ap (λ ss. record { before = notes; nodes = leaf Identifier word ∷ leaf Operator (codes "=") ∷ group ListKind ss false [] ∷ []; suffix = suffix } ∷ [])
    (ap segs_of (replaced_are home edit new old es one) ∙ segs_back (element_segs (edited home (replacing edit new) es))))

replaces_is : (home : Package) (edit : ListEdit) (new : NewString) (old word : List ℕ) (notes : List (List ℕ)) (es : List Element) (suffix : Option (List ℕ)) → edit.words.now ≡ old ∷ [] → bytes_eq edit.attr.now word ≡ true
    → replaces home (Named edit.attr.now) old new.value.now (list_arg notes word es suffix ∷ []) ≡ have_meant home (replacing edit new) es
replaces_is home edit new old word notes es suffix one named =
    ap (map_or false (replaces_in home old new.value.now)) (first_is edit.attr.now word notes es suffix named)
    ∙ or_no (list_any (is_replaced home old new.value.now) (segments (element_segs es))) ∙ have_is home edit new old es one

-- what is made of its lines

-- none goes
some_replaced : (home : Package) (edit : ListEdit) (new : NewString) (es : List Element) → have_meant home (replacing edit new) es ≡ true → is_empty (edited home (replacing edit new) es) ≡ false
some_replaced home edit new [] some = absurd (false≢true some)
some_replaced home edit new (e ∷ es) some = by (is_meant home (replacing edit new) e.token)
  where
    by : (b : Bool) → is_empty (become (becomes_by (replacing edit new) b) e ++ edited home (replacing edit new) es) ≡ false
    by true = refl
    by false = refl

replaces_lines : (depth : ℕ) (home : Package) (edit : ListEdit) (value : ReplacedValue) (new : NewString) (lines before after : List ℕ) (told : Option EditedList) → edit.attr ≡ value.attr → edit.words.now ≡ value.old.now ∷ [] → new.value ≡ value.new
    → IfSome told (EditsElements depth home (replacing edit new) lines before after) → IfSome told (ReplacesInLines (read_alone depth home lines) value before after)
replaces_lines depth home edit value new lines before after None attr_is one new_is known = tt
replaces_lines depth home edit value new lines before after (Some Unchanged) attr_is one new_is stays =
    let a = stays.list in
    λ args reads. (λ i. replaces home (Named (sym attr_is i).now) value.old.now (sym new_is i).now args) ∙ ap (replaces home (Named edit.attr.now) value.old.now new.value.now) (a.same args reads)
    ∙ replaces_is home edit new value.old.now a.name a.notes a.elements a.suffix one a.named ∙ stays.none
replaces_lines depth home edit value new lines before after (Some Written) attr_is one new_is put =
    let a = put.list in
    let is = replace_is home edit new value.old.now a.name a.notes a.elements a.suffix one a.named in (
      put.written,
      put.put,
      λ args reads. subst (λ xs. IsReplaced home value xs put.written) (sym (a.same args reads)) (record {
        replaced = (λ i. replaces home (Named (sym attr_is i).now) value.old.now (sym new_is i).now (list_arg a.notes a.name a.elements a.suffix ∷ []))
            ∙ replaces_is home edit new value.old.now a.name a.notes a.elements a.suffix one a.named ∙ put.some;
        lines_are = put.lines_are ∙ ap argument_lines (args_some a.notes a.name (edited home (replacing edit new) a.elements) a.suffix (some_replaced home edit new a.elements put.some) ∙ sym is
            ∙ (λ i. replace home (Named (attr_is i).now) value.old.now (new_is i).now (list_arg a.notes a.name a.elements a.suffix ∷ [])));
      }),
    )

pub replaces_read : {E : Type 0} (depth : ℕ) (home : Package) (edit : ListEdit) (value : ReplacedValue) (new : NewString) (lines before after : List ℕ) (r : Result (Option EditedList) E) → edit.attr ≡ value.attr → edit.words.now ≡ value.old.now ∷ [] → new.value ≡ value.new
    → IfOk r (λ told. IfSome told (EditsElements depth home (replacing edit new) lines before after)) → IfOk r (λ told. IfSome told (ReplacesInLines (read_alone depth home lines) value before after))
replaces_read depth home edit value new lines before after (Ok told) attr_is one new_is known = replaces_lines depth home edit value new lines before after told attr_is one new_is known
replaces_read depth home edit value new lines before after (Err e) attr_is one new_is known = known
