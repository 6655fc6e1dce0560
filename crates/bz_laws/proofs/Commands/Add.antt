-- What `add` keeps: other arguments, what is well formed, texts that pass a test, and comments.
use Rattle.std.proofs.Common.{◌≡◌, ℕ, List, [], ◌∷◌, ◌++◌, true, false, not, if◌then◌else◌, map, refl, ap, sym, subst, ◌∙◌, Bool, length, suc, ◌==◌}
use Rattle.bz_tree.specs.Tree.{Segment}
use Rattle.bz_label.specs.Labels.{Package}
use Rattle.bz_attribute.specs.Rules.{is_named, value}
use Rattle.bz_attribute.specs.Lists.{is_attribute, parts, with_value}
use Rattle.bz_attribute.specs.ListWalk.{edit_first_part}
use Rattle.bz_attribute.specs.Effects.{has, list_item}
use Rattle.bz_rule.specs.Add.{add}
use Rattle.bz_rule.specs.AddByValue.{new_elements, with_added, fresh, is_fresh}
use Rattle.bz_rule.proofs.Adds.{add_is}
use Rattle.bz_rule.proofs.Arguments.{same_bytes}
use Rattle.bz_rule.specs.declared.command.Action.TheVariants.{Add}
use Rattle.bz_laws.proofs.KeptArguments.{add_leaves}
use Rattle.bz_laws.proofs.Keeps.{Keeps, keeps_slot}
use Rattle.bz_laws.proofs.NamesKept.{KeepsEach, Leaves, append_kept, edit_one_kept, first_kept, has_kept, put_kept, taken}
use Rattle.bz_laws.proofs.MentionedStay.{leaves_mentioned}
use Rattle.std.proofs.lemmas.Bool.{and_parts}
use Rattle.std.specs.List.{AllByRecursion, list_all}
use Rattle.bz_label.specs.Names.{is_identifier}
use Rattle.bz_laws.proofs.AllComments.{after_new, after_none, first_keeps, first_part_keeps, in_all, in_one, list_none, value_keeps}
use Rattle.bz_laws.proofs.ArgumentValues.{good_value, good_with}
use Rattle.bz_laws.proofs.GoodArguments.{appended_good, argument_good, first_good, strings_good}
use Rattle.bz_laws.proofs.ListParts.{edited_first_part_good, list_value}
use Rattle.bz_laws.proofs.PassingTexts.{SegmentPasses, SegmentsPass, WordPasses, words_in}
use Rattle.bz_laws.proofs.PassingWritten.{PassesWritten, argument_added, elements_added, first_of_name_edited, list_passes, strings_pass}
use Rattle.bz_laws.proofs.Segments.{AreFormed, IsFormed, all_appended, either_way}
use Rattle.bz_token.specs.Lexical.{is_text}
use Rattle.bz_token.specs.declared.token.Kind.TheVariants.{Identifier}
use Rattle.bz_tree.specs.private.Productions.{IsArg}
use Rattle.bz_token.specs.Common.{is_empty}

-- beside changes of other arguments
with_added_kept : (g : Segment → Segment) (home : Package) (attr : List ℕ) (values : List (List ℕ)) → Leaves attr g → (a : Segment) → is_named attr a ≡ true → g (with_added home values a) ≡ with_added home values a
with_added_kept g home attr values leaves a named =
    elim (is_empty (parts (value a))) as (λ b. let new : Segment = if b then a else with_value (edit_first_part (λ ss. ss ++ new_elements home (parts (value a)) values) (value a)) a in g new ≡ new)
    [ true ↦ leaves a named | false ↦ put_kept g attr leaves _ a named ]

add_aside : (g : Segment → Segment) → KeepsEach g → (home : Package) (attr : List ℕ) (values : List (List ℕ)) → Leaves attr g → (args : List Segment) → add home attr values (map g args) ≡ map g (add home attr values args)
add_aside g names home attr values leaves args =
    add_is home attr values (map g args)
    ∙ taken (map g) (has_kept g names attr args) (edit_one_kept g names attr leaves (with_added home values) (with_added_kept g home attr values leaves) args) (append_kept g attr leaves _ args)
    ∙ ap (map g) (sym (add_is home attr values args))

-- what it leaves is well formed, and passes a test

added_good : (depth : ℕ) (home : Package) (values : List (List ℕ)) (a : Segment) → is_attribute a ≡ true → IsFormed IsArg (suc depth) a → IsFormed IsArg (suc depth) (with_added home values a)
added_good depth home values a h good =
    let more : List Segment = new_elements home (parts (value a)) values in
    either_way (IsFormed IsArg (suc depth)) (is_empty (parts (value a))) good
    (good_with (suc depth) (edit_first_part (λ ss. ss ++ more) (value a)) a h good (edited_first_part_good depth (λ ss. ss ++ more) (appended_good depth more (strings_good depth (fresh home (parts (value a)) [] values))) (value a) (good_value (suc depth) a h good)))

add_good : (depth : ℕ) (home : Package) (attr : List ℕ) (values : List (List ℕ)) (args : List Segment) → is_text Identifier attr ≡ true → AreFormed IsArg (suc depth) args → AreFormed IsArg (suc depth) (add home attr values args)
add_good depth home attr values args name h =
    subst (AreFormed IsArg (suc depth)) (sym (add_is home attr values args))
    (either_way (AreFormed IsArg (suc depth)) (has attr args) (first_good (suc depth) attr (λ a. with_added home values a ∷ []) (λ a n good. (added_good depth home values a n good, tt)) args h)
    (all_appended (IsFormed IsArg (suc depth)) args _ h (argument_good (suc depth) attr (list_item (new_elements home [] values) ∷ []) name (list_value depth _ (strings_good depth (fresh home [] [] values))), tt)))

fresh_pass : (q : List ℕ → Bool) (home : Package) (lists : List (List Segment)) (earlier values : List (List ℕ)) → AllByRecursion (WordPasses q) values → AllByRecursion (WordPasses q) (fresh home lists earlier values)
fresh_pass q home lists earlier [] h = tt
fresh_pass q home lists earlier (v ∷ values) h =
    let rest = fresh_pass q home lists (earlier ++ v ∷ []) values h.1 in
    elim (is_fresh home lists earlier v) as (λ b. AllByRecursion (WordPasses q) ((if b then v ∷ [] else []) ++ fresh home lists (earlier ++ v ∷ []) values)) [ true ↦ (h.0, rest) | false ↦ rest ]

new_elements_pass : (q : List ℕ → Bool) → PassesWritten q → (home : Package) (lists : List (List Segment)) (values : List (List ℕ)) → AllByRecursion (WordPasses q) values → SegmentsPass q (new_elements home lists values)
new_elements_pass q w home lists values h = strings_pass q w (fresh home lists [] values) (fresh_pass q home lists [] values h)

added_passes : (q : List ℕ → Bool) → PassesWritten q → (home : Package) (values : List (List ℕ)) → AllByRecursion (WordPasses q) values → (a : Segment) → SegmentPasses q a → SegmentPasses q (with_added home values a)
added_passes q w home values k a h =
    either_way (SegmentPasses q) (is_empty (parts (value a))) h (elements_added q (new_elements home (parts (value a)) values) a (new_elements_pass q w home (parts (value a)) values k) h)

add_passes : (q : List ℕ → Bool) → PassesWritten q → (home : Package) (attr : List ℕ) (values : List (List ℕ)) (args : List Segment) → q attr ≡ true → AllByRecursion (WordPasses q) values → SegmentsPass q args
    → SegmentsPass q (add home attr values args)
add_passes q w home attr values args name k h =
    subst (SegmentsPass q) (sym (add_is home attr values args))
    (either_way (SegmentsPass q) (has attr args) (first_of_name_edited q attr (with_added home values) (added_passes q w home values k) args h)
    (argument_added q w attr (list_item (new_elements home [] values) ∷ []) args name (list_passes q (new_elements home [] values) (new_elements_pass q w home [] values k)) h))

-- comments stay
added_keeps : (home : Package) (values : List (List ℕ)) (a : Segment) → in_one (with_added home values a) ≡ in_one a
added_keeps home values a =
    either_way (λ (z : Segment). in_one z ≡ in_one a) (is_empty (parts (value a))) refl
    (value_keeps (edit_first_part (λ ss. ss ++ new_elements home (parts (value a)) values) (value a)) a (first_part_keeps (λ ss. ss ++ new_elements home (parts (value a)) values) (λ ss. after_none ss (fresh home (parts (value a)) [] values)) (value a)))

add_leaves_all : (home : Package) (attr : List ℕ) (values : List (List ℕ)) (args : List Segment) → in_all (add home attr values args) ≡ in_all args
add_leaves_all home attr values args =
    ap in_all (add_is home attr values args)
    ∙ either_way (λ (zs : List Segment). in_all zs ≡ in_all args) (has attr args) (first_keeps attr (with_added home values) (λ a h. added_keeps home values a) args)
    (after_new args attr (list_item (new_elements home [] values) ∷ []) (list_none (fresh home [] [] values)))

pub add_keeping : (home : Package) (attr : List ℕ) (values : List (List ℕ)) → Keeps (Add attr values) home
unfolding is_identifier
add_keeping home attr values = keeps_slot (Add attr values) home (λ slot. refl) (λ slot. refl) (record {
  aside = λ g aside args. add_aside g aside.names home attr values (leaves_mentioned aside attr (same_bytes attr)) args;
  told = λ g aside args. rw (first_kept g aside.names attr (leaves_mentioned aside attr (same_bytes attr)) args) refl;
  formed = λ depth args h good. add_good depth home attr values args (and_parts (is_identifier attr) (not (length values == 0)) h).0 good;
  passes = λ q w h args k. let p = and_parts (q attr) (list_all q values) h in add_passes q w home attr values args p.0 (words_in q values p.1) k;
  left = add_leaves home attr values;
  comments = λ k args. add_leaves_all home attr values args;
})
