-- What `add` makes of an argument whose value is one list of strings, and the argument that it adds.
use Rattle.std.proofs.Common.{◌≡◌, ℕ, length, List, [], ◌∷◌, ◌++◌, Bool, true, false, ◌||◌, refl, sym, ap, ◌∙◌, append_assoc, append-nil, subst, bytes_eq, map, arith}
use Rattle.std.proofs.lemmas.Bool.{false≢true, or_parts}
use Rattle.std.specs.List.{list_any}
use Rattle.std.specs.Prelude.{codes, nat_le, not, Option, None, Some, Result, Ok, Err, IfOk, IfSome, if◌then◌else◌}
use Rattle.bz_token.specs.Common.{is_empty, is_filled}
use Rattle.bz_token.specs.declared.token.Kind.TheVariants.{Identifier, Operator, String}
use Rattle.bz_tree.specs.declared.tree.GroupKind.TheVariants.{List as ListKind}
use Rattle.bz_tree.specs.Tree.{leaf, group, no_items, item, seg, Segment, segments, segs_of}
use Rattle.bz_layout.specs.Pieces.{bytes_of, suffix_piece}
use Rattle.bz_layout.specs.Respell.{respell}
use Rattle.bz_label.specs.Labels.{Package}
use Rattle.bz_rule.specs.Add.{add}
use Rattle.bz_rule.specs.AddByValue.{fresh}
use Rattle.bz_rule.specs.declared.forms.AttributeValues.{AttributeValues}
use Rattle.bz_label.specs.declared.arguments.Chosen.TheVariants.{Values}
use Rattle.bz_rule.specs.Reports.{adds}
use Rattle.bz_rule.proofs.Adds.{add_is as added_by_value}
use Rattle.bz_attribute.specs.Effects.{is_chosen, no_list_note, string}
use Rattle.bz_label.specs.Same.{same}
use Rattle.bz_attribute.specs.Rules.{first_named}
use Rattle.bz_canonical.specs.Added.{AddsToLines, AreNew, ArePresent}
use Rattle.bz_canonical.specs.Canonical.{AreReadAlone, argument_lines, read_alone}
use Rattle.bz_canonical.specs.declared.added.NewValues.{NewValues}
use Rattle.bz_canonical.specs.declared.added.ListLines.{ListLines}
use Rattle.bz_canonical.specs.declared.edited.EditedList.{EditedList}
use Rattle.bz_canonical.specs.declared.edited.EditedList.TheVariants.{Unchanged, Written}
use Rattle.bz_canonical.specs.declared.edited.Passed.{Passed}
use Rattle.bz_canonical.specs.declared.edited.PassedList.{PassedList}
use Rattle.bz_canonical.specs.private.Added.{IsListAlone, have_word, is_value, is_word, list_arg}
use Rattle.bz_canonical.specs.private.Edited.{EndsList, IsListEdited, keeping, one_more}
use Rattle.bz_canonical.specs.private.Elements.{Element, are_broken, element_line, element_lines, element_segs}
use Rattle.bz_canonical.specs.private.NewValues.{ArePut, AreSearched, AreToldOf, PutsAfter, lists_of, more_passed, new_element, stands}
use Rattle.bz_canonical.proofs.EditedElements.{keep_all}
use Rattle.bz_canonical.proofs.EditedLines.{edited_of, front_of, have_is, list_bytes, list_read, put_held}
use Rattle.bz_canonical.proofs.ElementLists.{broken_more, flat_append, longer, one_at_least}
use Rattle.bz_canonical.proofs.GroupSegments.{or_no}
use Rattle.bz_canonical.proofs.ListLines.{chosen, first_is, head_front}

-- the argument

pub news_segs : (news : List (List ℕ)) → segs_of (map string news) ≡ element_segs (map new_element news)
news_segs [] = refl
news_segs (v ∷ news) = ap (λ ss. seg [] (item (leaf String (new_element v).token) no_items) None ss) (news_segs news)

with_news : (es : List Element) (news : List (List ℕ)) → segs_of (segments (element_segs es) ++ map string news) ≡ element_segs (es ++ map new_element news)
with_news [] news = news_segs news
with_news (e ∷ es) news = ap (λ ss. seg e.before (item (leaf String e.token) no_items) e.suffix ss) (with_news es news)

add_is : (home : Package) (attr word : List ℕ) (values news notes : List (List ℕ)) (es : List Element) (suffix : Option (List ℕ)) → bytes_eq attr word ≡ true → fresh home (segments (element_segs es) ∷ []) [] values ≡ news
    → add home attr values (list_arg notes word es suffix ∷ []) ≡ list_arg notes word (es ++ map new_element news) suffix ∷ []
add_is home attr word values news notes es suffix named are =
    added_by_value home attr values (list_arg notes word es suffix ∷ []) ∙ rw named (
    ap (λ vs. record { before = notes; nodes = leaf Identifier word ∷ leaf Operator (codes "=") ∷ group ListKind (segs_of (segments (element_segs es) ++ map string vs)) false [] ∷ []; suffix = suffix } ∷ []) are
    ∙ ap (λ ss. record { before = notes; nodes = leaf Identifier word ∷ leaf Operator (codes "=") ∷ group ListKind ss false [] ∷ []; suffix = suffix } ∷ []) (with_news es news)
    )

new_is : (home : Package) (attr : List ℕ) (values news : List (List ℕ)) → fresh home [] [] values ≡ news → add home attr values [] ≡ list_arg [] attr (map new_element news) None ∷ []
new_is home attr values news are =
    added_by_value home attr values []
    ∙ ap (λ vs. record { before = []; nodes = leaf Identifier attr ∷ leaf Operator (codes "=") ∷ group ListKind (segs_of (map string vs)) false [] ∷ []; suffix = None } ∷ []) are
    ∙ ap (λ ss. record { before = []; nodes = leaf Identifier attr ∷ leaf Operator (codes "=") ∷ group ListKind ss false [] ∷ []; suffix = None } ∷ []) (news_segs news)

-- elements that are passed more

more_meant : (p : Passed) (news : List (List ℕ)) → (more_passed p news).meant ≡ (p.meant || is_filled news)
more_meant p [] = or_false p.meant
  where
    or_false : (b : Bool) → b ≡ (b || false)
    or_false true = refl
    or_false false = refl
more_meant p (v ∷ news) = more_meant (one_more p p.at true false) news ∙ both p.meant (is_filled news)
  where
    both : (b c : Bool) → ((b || true) || c) ≡ (b || true)
    both true c = refl
    both false c = refl

more_left : (p : Passed) (es : List Element) (news : List (List ℕ)) → p.left ≡ nat_le 1 (length es) → (more_passed p news).left ≡ nat_le 1 (length (es ++ map new_element news))
more_left p es [] left = left ∙ ap (λ (xs : List Element). nat_le 1 (length xs)) (sym (append-nil es))
more_left p es (v ∷ news) left =
    let x : Element = new_element v in
    more_left (one_more p p.at true false) (es ++ x ∷ []) news (one_at_least (length es) ∙ ap (nat_le 1) (sym (longer es x)))
    ∙ ap (λ (xs : List Element). nat_le 1 (length xs)) (append_assoc es (x ∷ []) (map new_element news))

more_broken : (p : Passed) (es : List Element) (news : List (List ℕ)) → p.left ≡ nat_le 1 (length es) → p.broken ≡ are_broken es → (more_passed p news).broken ≡ are_broken (es ++ map new_element news)
more_broken p es [] left broken = broken ∙ ap are_broken (sym (append-nil es))
more_broken p es (v ∷ news) left broken =
    let x : Element = new_element v in
    more_broken (one_more p p.at true false) (es ++ x ∷ []) news (one_at_least (length es) ∙ ap (nat_le 1) (sym (longer es x))) (broken_more es x p.broken p.left false broken left refl)
    ∙ ap are_broken (append_assoc es (x ∷ []) (map new_element news))

filled_some : (es : List Element) (news : List (List ℕ)) → is_filled news ≡ true → is_empty (es ++ map new_element news) ≡ false
filled_some [] [] some = absurd (false≢true some)
filled_some [] (v ∷ news) some = refl
filled_some (e ∷ es) news some = refl

none_filled : (news : List (List ℕ)) → is_filled news ≡ false → news ≡ []
none_filled [] none = refl
none_filled (v ∷ news) none = absurd (false≢true (sym none))

lines_joined : (front : List ℕ) (es xs : List Element) → (front ++ element_lines (respell String) es) ++ element_lines (respell String) xs ≡ front ++ element_lines (respell String) (es ++ xs)
lines_joined front es xs =
    append_assoc front (element_lines (respell String) es) (element_lines (respell String) xs) ∙ ap (λ (t : List ℕ). front ++ t) (sym (flat_append (element_line (respell String)) es xs))

-- what is made of its lines

abbrev fresh_are : (new : NewValues) (depth : ℕ) (text : List ℕ) (passed more : Passed) (put buffer : List ℕ) → AreToldOf new depth text → (p : ArePut new new.added.values.now passed put buffer more) → (a : IsListAlone depth new.added.attr.now text)
    → (args : List Segment) → AreReadAlone depth text args → fresh new.env.home.now (segments (element_segs a.elements) ∷ []) [] new.added.values.now ≡ p.news
fresh_are new depth text passed more put buffer told p a args reads =
    ap (λ o. fresh new.env.home.now (lists_of o) [] new.added.values.now) (sym (first_is new.added.attr.now a.name a.notes a.elements a.suffix a.named))
    ∙ subst (λ xs. fresh new.env.home.now (lists_of (first_named new.added.attr.now xs)) [] new.added.values.now ≡ p.news) (a.same args reads) (told p.news p.news_are args reads)

pub values_present : (new : NewValues) (list : PassedList) (buffer put after done : List ℕ) (more : Passed) → ArePut new new.added.values.now list.passed put after more → more.meant ≡ false → PutsAfter new list buffer done Unchanged
values_present new list buffer put after done more p none = λ depth text old l told args reads.
    let home = new.env.home.now in
    let attr = new.added.attr.now in
    let a = list_read depth home (keeping new.added) text old buffer list l in
    let first = first_is attr a.name a.notes a.elements a.suffix a.named in
    let nothing : p.news ≡ [] = none_filled p.news (sym (more_meant (record list.passed { meant = false }) p.news) ∙ ap (λ (x : Passed). x.meant) (sym p.more_is) ∙ none) in
    let are = fresh_are new depth text list.passed more put after told p a args reads in
    subst (ArePresent home new.added) (sym (a.same args reads)) (record {
      list = ap (no_list_note attr) first;
      present = ap (adds home new.added.values.now) first ∙ ap (λ (vs : List (List ℕ)). not (is_empty (map string vs))) (are ∙ nothing);
    })

pub values_new : (new : NewValues) (list : PassedList) (buffer put after done : List ℕ) (more : Passed) → ((part : List ℕ) → list.passed.at.from.now ≡ part ++ list.passed.at.rest.now → put ≡ buffer ++ part)
    → ArePut new new.added.values.now list.passed put after more → more.meant ≡ true → EndsList (record list { passed = more }) after done → PutsAfter new list buffer done Written
values_new new list buffer put after done more pending p some ends = λ depth text old l told.
    let home = new.env.home.now in
    let attr = new.added.attr.now in
    let edit = keeping new.added in
    let a = list_read depth home edit text old buffer list l in
    let all = edited_of depth home edit text old buffer list l in
    let first = first_is attr a.name a.notes a.elements a.suffix a.named in
    let from : Passed = record list.passed { meant = false } in
    let F : List ℕ = front_of a.notes a.name in
    let xs : List Element = map new_element p.news in
    let es : List Element = a.elements ++ xs in
    let kept = keep_all home new.added a.elements in
    let filled : is_filled p.news ≡ true = sym (more_meant from p.news) ∙ ap (λ (x : Passed). x.meant) (sym p.more_is) ∙ some in
    let left : from.left ≡ nat_le 1 (length a.elements) = all.left_is ∙ ap (λ (ys : List Element). nat_le 1 (length ys)) kept in
    let broken : more.broken ≡ are_broken es = ap (λ (x : Passed). x.broken) p.more_is ∙ more_broken from a.elements p.news left (all.broken_is ∙ ap are_broken kept) in
    let put_is : put ≡ (old ++ F) ++ element_lines (respell String) a.elements = put_held depth home edit text old buffer put list l pending ∙ ap (λ (ys : List Element). (old ++ F) ++ element_lines (respell String) ys) kept in
    let after_is : after ≡ (old ++ F) ++ element_lines (respell String) es = p.put ∙ ap (λ (t : List ℕ). t ++ element_lines (respell String) xs) put_is ∙ lines_joined (old ++ F) a.elements xs in
    let e = ends (old ++ F) es (sym (l.all.starts F (head_front attr text l.inside l.head))) (filled_some a.elements p.news filled) broken after_is in (
      F ++ (e.0 ++ list.end.now),
      e.2 ∙ append_assoc old F (e.0 ++ list.end.now),
      λ args reads.
          let are = fresh_are new depth text list.passed more put after told p a args reads in
          subst (λ xs. AreNew home new.added xs (F ++ (e.0 ++ list.end.now))) (sym (a.same args reads)) (record {
            list = ap (no_list_note attr) first;
            new_is = ap (adds home new.added.values.now) first ∙ ap (λ (vs : List (List ℕ)). not (is_empty (map string vs))) are ∙ some_strings p.news filled;
            lines_are = ap (λ (t : List ℕ). F ++ (e.0 ++ t)) l.last.front ∙ sym (append_assoc F e.0 (44 ∷ bytes_of (suffix_piece a.suffix))) ∙ sym (list_bytes a.notes a.name es a.suffix e.0 e.1)
                ∙ ap argument_lines (sym (add_is home attr a.name new.added.values.now p.news a.notes a.elements a.suffix a.named are));
          }),
    )
  where
    some_strings : (news : List (List ℕ)) → is_filled news ≡ true → not (is_empty (map string news)) ≡ true
    some_strings [] some = absurd (false≢true some)
    some_strings (v ∷ news) some = refl

-- which values are told of

standing : (home : Package) (es : List Element) (v : List ℕ) → stands home (segments (element_segs es) ∷ []) v ≡ have_word home (v ∷ []) es
standing home es v = or_no (list_any (is_chosen home (Values (v ∷ []))) (segments (element_segs es))) ∙ chosen home (v ∷ []) es

none_of_both : (home : Package) (v : List ℕ) (values : List (List ℕ)) (es : List Element) → have_word home (v ∷ values) es ≡ false → (have_word home (v ∷ []) es ≡ false) × (have_word home values es ≡ false)
none_of_both home v values [] none = (refl, refl)
none_of_both home v values (e ∷ es) none =
    let parts = or_parts (is_word home (v ∷ values) e.token) (have_word home (v ∷ values) es) none in
    let one = or_parts (is_value home v e.token) (is_word home values e.token) parts.0 in
    let rest = none_of_both home v values es parts.1 in
    (λ i. (one.0 i || false) || rest.0 i, λ i. one.1 i || rest.1 i)

none_stands : (home : Package) (es : List Element) (values : List (List ℕ)) → have_word home values es ≡ false → list_any (stands home (segments (element_segs es) ∷ [])) values ≡ false
none_stands home es [] none = refl
none_stands home es (v ∷ values) none =
    let both = none_of_both home v values es none in
    λ i. (standing home es v ∙ both.0) i || none_stands home es values both.1 i

fresh_none : (home : Package) (lists : List (List Segment)) (earlier values : List (List ℕ)) → list_any (stands home lists) values ≡ false → fresh home lists earlier values ≡ fresh home [] earlier values
fresh_none home lists earlier [] none = refl
fresh_none home lists earlier (v ∷ values) none =
    let both = or_parts (stands home lists v) (list_any (stands home lists) values) none in
    λ i. (if not (both.0 i || list_any (same home v) earlier) then v ∷ [] else []) ++ fresh_none home lists (earlier ++ v ∷ []) values both.1 i

pub told_none : (new : NewValues) (depth : ℕ) (text old buffer : List ℕ) (list : PassedList) → IsListEdited depth new.env.home.now (keeping new.added) text old buffer list → list.passed.meant ≡ false → new.among ≡ None → AreToldOf new depth text
told_none new depth text old buffer list l off none = λ news are args reads.
    let home = new.env.home.now in
    let attr = new.added.attr.now in
    let edit = keeping new.added in
    let values = new.added.values.now in
    let a = list_read depth home edit text old buffer list l in
    let all = edited_of depth home edit text old buffer list l in
    let lists : List (List Segment) = segments (element_segs a.elements) ∷ [] in
    let lacking : have_word home values a.elements ≡ false = sym (have_is home edit a.elements (λ token. refl)) ∙ sym all.meant_is ∙ off in
    ap (λ xs. fresh home (lists_of (first_named attr xs)) [] values) (a.same args reads) ∙ ap (λ o. fresh home (lists_of o) [] values) (first_is attr a.name a.notes a.elements a.suffix a.named)
    ∙ fresh_none home lists [] values (none_stands home a.elements values lacking) ∙ are [] (subst (λ among. AreSearched attr among []) (sym none) refl)

pub told_some : (new : NewValues) (depth : ℕ) (text : List ℕ) (among : ListLines) → new.among ≡ Some among → among.max_depth ≡ depth → among.lines.now ≡ text → AreToldOf new depth text
told_some new depth text among some depth_is text_is = λ news are args reads.
    let attr = new.added.attr.now in
    let again : AreReadAlone among.max_depth among.lines.now args = subst (λ t. AreReadAlone among.max_depth t args) (sym text_is) (subst (λ d. AreReadAlone d text args) (sym depth_is) reads) in
    are (lists_of (first_named attr args)) (subst (λ o. AreSearched attr o (lists_of (first_named attr args))) (sym some) (args, again, refl))

pub adds_after : {E : Type 0} (new : NewValues) (depth : ℕ) (text old buffer after : List ℕ) (list : PassedList) (r : Result (Option EditedList) E) → IsListEdited depth new.env.home.now (keeping new.added) text old buffer list → AreToldOf new depth text
    → IfOk r (λ known. IfSome known (PutsAfter new list buffer after)) → IfOk r (λ known. IfSome known (AddsToLines (read_alone depth new.env.home.now text) new.added old after))
adds_after new depth text old buffer after list (Ok None) l told known = tt
adds_after new depth text old buffer after list (Ok (Some done)) l told known = known depth text old l told
adds_after new depth text old buffer after list (Err e) l told known = known

-- one value, which is there
pub one_present : (depth : ℕ) (home : Package) (added : AttributeValues) (text old buffer after : List ℕ) (list : PassedList) → IsListEdited depth home (keeping added) text old buffer list → length added.values.now ≡ 1 → list.passed.meant ≡ true
    → AddsToLines (read_alone depth home text) added old after Unchanged
one_present depth home added text old buffer after list l one there = λ args reads.
    let edit = keeping added in
    let a = list_read depth home edit text old buffer list l in
    let all = edited_of depth home edit text old buffer list l in
    let first = first_is added.attr.now a.name a.notes a.elements a.suffix a.named in
    let present : have_word home added.values.now a.elements ≡ true = sym (have_is home edit a.elements (λ token. refl)) ∙ sym all.meant_is ∙ there in
    subst (ArePresent home added) (sym (a.same args reads)) (record {
      list = ap (no_list_note added.attr.now) first;
      present = ap (adds home added.values.now) first ∙ ap (λ (vs : List (List ℕ)). not (is_empty (map string vs))) (none_fresh added.values.now a.elements one present);
    })
  where
    none_fresh : (values : List (List ℕ)) (es : List Element) → length values ≡ 1 → have_word home values es ≡ true → fresh home (segments (element_segs es) ∷ []) [] values ≡ []
    none_fresh [] es one present = absurd (omega (arith, one))
    none_fresh (v ∷ []) es one present = ap (λ b. (if not (b || false) then v ∷ [] else []) ++ []) (standing home es v ∙ present)
    none_fresh (v ∷ w ∷ values) es one present = absurd (omega (arith, one))

-- a new argument

pub front_put : (old a b c attr A : List ℕ) → a ≡ old ++ codes "\n    " → b ≡ a ++ A → A ≡ attr → c ≡ b ++ codes " = [" → c ≡ old ++ front_of [] attr
front_put old a b c attr A ha hb hA hc = rw (hc, hb, hA, ha) (simp append_assoc)

pub new_list : (new : NewValues) (list : PassedList) (old front after done : List ℕ) (more : Passed) → front ≡ old ++ front_of [] new.added.attr.now → list.start ≡ length front → list.end.now ≡ 44 ∷ [] → list.passed.left ≡ false → list.passed.broken ≡ false
    → ArePut new new.added.values.now list.passed front after more → new.among ≡ None → more.meant ≡ true → EndsList (record list { passed = more }) after done → done ≡ old ++ argument_lines (add new.env.home.now new.added.attr.now new.added.values.now [])
new_list new list old front after done more front_is start end left broken p none some ends =
    let home = new.env.home.now in
    let attr = new.added.attr.now in
    let from : Passed = record list.passed { meant = false } in
    let F : List ℕ = front_of [] attr in
    let es : List Element = map new_element p.news in
    let filled : is_filled p.news ≡ true = sym (more_meant from p.news) ∙ ap (λ (x : Passed). x.meant) (sym p.more_is) ∙ some in
    let breaks : more.broken ≡ are_broken es = ap (λ (x : Passed). x.broken) p.more_is ∙ more_broken from [] p.news left broken in
    let e = ends front es (sym start) (filled_some [] p.news filled) breaks p.put in
    let are : fresh home [] [] new.added.values.now ≡ p.news = p.news_are [] (subst (λ among. AreSearched attr among []) (sym none) refl) in
    e.2 ∙ (λ i. front_is i ++ (e.0 ++ end i)) ∙ append_assoc old F (e.0 ++ 44 ∷ []) ∙ ap (λ (t : List ℕ). old ++ t) (sym (append_assoc F e.0 (44 ∷ [])) ∙ sym (list_bytes [] attr es None e.0 e.1) ∙ ap argument_lines (sym (new_is home attr new.added.values.now p.news are)))
