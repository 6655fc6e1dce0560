-- What `remove` keeps: other arguments, what is well formed, texts that pass a test, and the comments of what stays.
use Rattle.std.proofs.Common.{◌≡◌, ℕ, List, [], ◌∷◌, Bool, true, false, not, if◌then◌else◌, None, map, refl, ap, sym, ◌∙◌, suc}
use Rattle.bz_tree.specs.Tree.{Segment}
use Rattle.bz_label.specs.Labels.{Package}
use Rattle.bz_label.specs.declared.arguments.Attributes.{Attributes}
use Rattle.bz_label.specs.declared.arguments.Attributes.TheVariants.{Every, Named}
use Rattle.bz_label.specs.declared.arguments.Chosen.{Chosen}
use Rattle.bz_label.specs.declared.arguments.Chosen.TheVariants.{Values}
use Rattle.bz_rule.specs.declared.command.Action.TheVariants.{Remove}
use Rattle.bz_attribute.specs.Rules.{is_named, value}
use Rattle.bz_attribute.specs.Lists.{edit_parts, is_attribute, parts, with_value}
use Rattle.bz_attribute.specs.Effects.{filtered, loses_all, unchosen}
use Rattle.bz_attribute.specs.Reports.{done}
use Rattle.bz_rule.specs.Remove.{goes_with_all, remove}
use Rattle.bz_rule.specs.Reports.{removes}
use Rattle.bz_laws.specs.Aside.{IsAside}
use Rattle.bz_rule.proofs.PartLaws.{parts_edited}
use Rattle.bz_rule.proofs.Arguments.{same_bytes, value_put}
use Rattle.bz_laws.proofs.KeptArguments.{remove_leaves}
use Rattle.bz_laws.proofs.Keeps.{Keeps, keeps_slot}
use Rattle.bz_laws.proofs.NamesKept.{Leaves, edit_kept, filter_kept, first_kept, has_kept, named_kept, put_kept}
use Rattle.bz_laws.proofs.MentionedStay.{all_aside, leaves_all, leaves_mentioned}
use Rattle.bz_laws.proofs.GoodArguments.{filtered_good, first_good}
use Rattle.bz_laws.proofs.PassingParts.{edited_first_passes}
use Rattle.bz_laws.proofs.PassingTexts.{SegmentPasses, SegmentsPass}
use Rattle.bz_laws.proofs.PassingWritten.{filtered_passes}
use Rattle.bz_laws.proofs.Segments.{AreFormed, IsFormed, all_filtered, all_flattened, either_way}
use Rattle.bz_tree.specs.private.Productions.{IsArg}

-- beside changes of other arguments

pub filtered_kept : (g : Segment → Segment) (f : List Segment → List Segment) (attr : List ℕ) → Leaves attr g → (a : Segment) → is_named attr a ≡ true → map g (filtered f a) ≡ filtered f a
filtered_kept g f attr leaves a named =
    elim (loses_all f (value a)) as (λ b. let new : List Segment = if b then [] else with_value (edit_parts f (value a)) a ∷ [] in map g new ≡ new)
    [ true ↦ refl | false ↦ ap (λ (z : Segment). z ∷ []) (put_kept g attr leaves (edit_parts f (value a)) a named) ]

remove_aside : (home : Package) (attrs : Attributes) (values : List (List ℕ)) (g : Segment → Segment) → IsAside (Remove attrs values) g → (args : List Segment) → remove home attrs values (map g args) ≡ map g (remove home attrs values args)
remove_aside home Every values g aside args = all_aside aside (λ attr. refl) (remove home Every values) args
remove_aside home (Named attr) [] g aside args = filter_kept g (λ a. not (is_named attr a)) (λ a. ap not (named_kept g aside.names attr a)) args
remove_aside home (Named attr) (v ∷ values) g aside args =
    let leaves = leaves_mentioned aside attr (same_bytes attr) in
    edit_kept g aside.names attr leaves (filtered (unchosen home (Values (v ∷ values)))) (filtered_kept g (unchosen home (Values (v ∷ values))) attr leaves) args

remove_told : (home : Package) (attrs : Attributes) (values : List (List ℕ)) (g : Segment → Segment) → IsAside (Remove attrs values) g → (args : List Segment) → removes home attrs values (map g args) ≡ removes home attrs values args
remove_told home Every values g aside args = ap (removes home Every values) (leaves_all aside (λ attr. refl) args)
remove_told home (Named attr) [] g aside args = has_kept g aside.names attr args
remove_told home (Named attr) (v ∷ values) g aside args = rw (first_kept g aside.names attr (leaves_mentioned aside attr (same_bytes attr)) args) refl

-- what it leaves is well formed, and passes a test

everywhere_good : (depth : ℕ) (home : Package) (chosen : Chosen) (a : Segment) → IsFormed IsArg (suc depth) a → AreFormed IsArg (suc depth) (if is_attribute a then filtered (unchosen home chosen) a else a ∷ [])
everywhere_good depth home chosen a good =
    elim (is_attribute a) as (λ b. is_attribute a ≡ b → AreFormed IsArg (suc depth) (if b then filtered (unchosen home chosen) a else a ∷ []))
    [ true ↦ λ e. filtered_good depth home chosen a e good | false ↦ λ e. (good, tt) ] refl

remove_good : (depth : ℕ) (home : Package) (attrs : Attributes) (values : List (List ℕ)) (args : List Segment) → AreFormed IsArg (suc depth) args → AreFormed IsArg (suc depth) (remove home attrs values args)
remove_good depth home Every [] args h = all_filtered (IsFormed IsArg (suc depth)) (λ a. not (goes_with_all a)) args h
remove_good depth home Every (v ∷ values) args h =
    all_flattened (IsFormed IsArg (suc depth)) (IsFormed IsArg (suc depth)) (λ a. if is_attribute a then filtered (unchosen home (Values (v ∷ values))) a else a ∷ []) (everywhere_good depth home (Values (v ∷ values))) args h
remove_good depth home (Named attr) [] args h = all_filtered (IsFormed IsArg (suc depth)) (λ a. not (is_named attr a)) args h
remove_good depth home (Named attr) (v ∷ values) args h = first_good (suc depth) attr (filtered (unchosen home (Values (v ∷ values)))) (filtered_good depth home (Values (v ∷ values))) args h

everywhere_passes : (q : List ℕ → Bool) (home : Package) (chosen : Chosen) (a : Segment) → SegmentPasses q a → SegmentsPass q (if is_attribute a then filtered (unchosen home chosen) a else a ∷ [])
everywhere_passes q home chosen a h =
    either_way (SegmentsPass q) (is_attribute a) (filtered_passes q home chosen a h) (h, tt)

remove_passes : (q : List ℕ → Bool) (home : Package) (attrs : Attributes) (values : List (List ℕ)) (args : List Segment) → SegmentsPass q args → SegmentsPass q (remove home attrs values args)
remove_passes q home Every [] args h = all_filtered (SegmentPasses q) (λ a. not (goes_with_all a)) args h
remove_passes q home Every (v ∷ values) args h =
    all_flattened (SegmentPasses q) (SegmentPasses q) (λ a. if is_attribute a then filtered (unchosen home (Values (v ∷ values))) a else a ∷ []) (everywhere_passes q home (Values (v ∷ values))) args h
remove_passes q home (Named attr) [] args h = all_filtered (SegmentPasses q) (λ a. not (is_named attr a)) args h
remove_passes q home (Named attr) (v ∷ values) args h = edited_first_passes q (is_named attr) (filtered (unchosen home (Values (v ∷ values)))) (filtered_passes q home (Values (v ∷ values))) args h

-- of the elements of an argument that `remove` leaves, those stay that no value equals, as they were
pub left_elements : (home : Package) (chosen : Chosen) (a b : Segment) → is_attribute a ≡ true → filtered (unchosen home chosen) a ≡ b ∷ [] → parts (value b) ≡ map (unchosen home chosen) (parts (value a))
left_elements home chosen a b h is =
    elim (loses_all (unchosen home chosen) (value a)) as (λ l. (if l then [] else with_value (edit_parts (unchosen home chosen) (value a)) a ∷ []) ≡ b ∷ [] → parts (value b) ≡ map (unchosen home chosen) (parts (value a))) [
      | true ↦ λ k. absurd cc
      | false ↦ λ k.
          let same : with_value (edit_parts (unchosen home chosen) (value a)) a ≡ b = cc in
          ap (λ (z : Segment). parts (value z)) (sym same) ∙ ap parts (value_put (edit_parts (unchosen home chosen) (value a)) a h) ∙ parts_edited (unchosen home chosen) (value a)
    ] is

pub remove_keeping : (home : Package) (attrs : Attributes) (values : List (List ℕ)) → Keeps (Remove attrs values) home
remove_keeping home attrs values = keeps_slot (Remove attrs values) home (λ slot. refl) (λ slot. refl) (record {
  aside = λ g aside args. remove_aside home attrs values g aside args;
  told = λ g aside args. ap (done None) (remove_told home attrs values g aside args);
  formed = λ depth args h good. remove_good depth home attrs values args good;
  passes = λ q w h args k. remove_passes q home attrs values args k;
  left = remove_leaves home attrs values;
  comments = λ k. absurd cc;
})
