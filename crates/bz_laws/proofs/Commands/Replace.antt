-- What `replace` keeps: other arguments, what is well formed, texts that pass a test, and comments.
use Rattle.std.proofs.Common.{◌≡◌, ℕ, List, [], ◌∷◌, Bool, true, false, not, Some, None, map, if◌then◌else◌, refl, ap, sym, ◌∙◌, suc, ◌++◌}
use Rattle.bz_token.specs.declared.token.Kind.TheVariants.{String}
use Rattle.std.proofs.lemmas.Bool.{and_parts}
use Rattle.bz_tree.specs.Tree.{Item, Segment, group, leaf}
use Rattle.bz_label.specs.Labels.{Package}
use Rattle.bz_label.specs.declared.arguments.Attributes.{Attributes}
use Rattle.bz_label.specs.declared.arguments.Attributes.TheVariants.{Every, Named}
use Rattle.bz_rule.specs.declared.command.Action.TheVariants.{Replace}
use Rattle.bz_attribute.specs.Rules.{is_text, string_value, value}
use Rattle.bz_attribute.specs.Lists.{edit_parts, equals, is_attribute, parts}
use Rattle.bz_label.specs.Same.{same}
use Rattle.bz_attribute.specs.Effects.{string_item}
use Rattle.bz_attribute.specs.Reports.{done}
use Rattle.bz_rule.specs.Replace.{is_replaced, replaced, replaced_in, replace}
use Rattle.bz_rule.specs.Reports.{replaces}
use Rattle.bz_rule.proofs.Arguments.{same_bytes, value_put}
use Rattle.bz_laws.proofs.KeepsFirst.{KeepsFirst, keeps_first}
use Rattle.bz_laws.proofs.KeptArguments.{each_with_value, named_with}
use Rattle.bz_laws.proofs.Keeps.{Keeps, keeps_slot}
use Rattle.bz_rule.proofs.PartLaws.{parts_edited}
use Rattle.bz_laws.proofs.MentionedStay.{all_aside, leaves_all}
use Rattle.bz_laws.proofs.AllComments.{in_nodes, in_one, map_keeps, parts_keep, value_keeps}
use Rattle.bz_laws.proofs.ArgumentValues.{good_value, good_with}
use Rattle.bz_laws.proofs.GoodArguments.{string_good_value}
use Rattle.bz_laws.proofs.ListParts.{KeepsGood, edited_parts_good}
use Rattle.bz_laws.proofs.PassingParts.{edited_parts_pass}
use Rattle.bz_laws.proofs.PassingTexts.{SegmentPasses, value_passes, with_value_passes}
use Rattle.bz_laws.proofs.PassingWritten.{PassesWritten}
use Rattle.bz_laws.proofs.Segments.{IsFormed, all_mapped, either_way}
use Rattle.bz_tree.specs.Comments.{beside}
use Rattle.bz_tree.specs.private.Productions.{IsArg, IsTest}
use Rattle.bz_token.specs.Common.{map_or}
use Rattle.bz_rule.proofs.Lawfulness.Replace.{replace_edits}

-- what it leaves is well formed, and passes a test

replaced_good : (depth : ℕ) (home : Package) (old new : List ℕ) (s : Segment) → IsFormed IsTest depth s → IsFormed IsTest depth (replaced home old new s)
replaced_good depth home old new s h =
    let v = string_good_value depth new in
    either_way (IsFormed IsTest depth) (is_replaced home old new s) (record { before = h.before; suffix = h.suffix; nodes = v.nodes_are; form = v.test }) h

all_replaced : (depth : ℕ) (home : Package) (old new : List ℕ) → KeepsGood depth (map (replaced home old new))
all_replaced depth home old new ss h = all_mapped (IsFormed IsTest depth) (IsFormed IsTest depth) (replaced home old new) (replaced_good depth home old new) ss h

replaced_in_good : (depth : ℕ) (home : Package) (old new : List ℕ) (a : Segment) → is_attribute a ≡ true → IsFormed IsArg (suc depth) a → IsFormed IsArg (suc depth) (replaced_in home old new a)
replaced_in_good depth home old new a n h =
    good_with (suc depth) (edit_parts (map (replaced home old new)) (value a)) a n h
    (edited_parts_good depth (map (replaced home old new)) (all_replaced depth home old new) (value a) (good_value (suc depth) a n h))

where_attribute : (depth : ℕ) (home : Package) (old new : List ℕ) (a : Segment) → IsFormed IsArg (suc depth) a → IsFormed IsArg (suc depth) (if is_attribute a then replaced_in home old new a else a)
where_attribute depth home old new a h =
    elim (is_attribute a) as (λ b. is_attribute a ≡ b → IsFormed IsArg (suc depth) (if b then replaced_in home old new a else a))
    [ true ↦ λ e. replaced_in_good depth home old new a e h | false ↦ λ e. h ] refl

replaced_passes : (q : List ℕ → Bool) → PassesWritten q → (home : Package) (old new : List ℕ) → q new ≡ true → (s : Segment) → SegmentPasses q s → SegmentPasses q (replaced home old new s)
replaced_passes q w home old new word s h =
    either_way (SegmentPasses q) (is_replaced home old new s) (record { before = h.before; nodes = (w.literal new word, tt); suffix = h.suffix }) h

replaced_in_passes : (q : List ℕ → Bool) → PassesWritten q → (home : Package) (old new : List ℕ) → q new ≡ true → (a : Segment) → SegmentPasses q a → SegmentPasses q (replaced_in home old new a)
replaced_in_passes q w home old new word a h =
    with_value_passes q (edit_parts (map (replaced home old new)) (value a)) a
    (edited_parts_pass q (map (replaced home old new)) (all_mapped (SegmentPasses q) (SegmentPasses q) (replaced home old new) (replaced_passes q w home old new word)) (value a) (value_passes q a.nodes h.nodes)) h

attribute_passes : (q : List ℕ → Bool) → PassesWritten q → (home : Package) (old new : List ℕ) → q new ≡ true → (a : Segment) → SegmentPasses q a → SegmentPasses q (if is_attribute a then replaced_in home old new a else a)
attribute_passes q w home old new word a h =
    either_way (SegmentPasses q) (is_attribute a) (replaced_in_passes q w home old new word a h) h

-- the elements of an attribute after `replace`
pub replace_elements : (home : Package) (old new : List ℕ) (a : Segment) → is_attribute a ≡ true → parts (value (replaced_in home old new a)) ≡ map (map (replaced home old new)) (parts (value a))
replace_elements home old new a h = ap parts (value_put (edit_parts (map (replaced home old new)) (value a)) a h) ∙ parts_edited (map (replaced home old new)) (value a)

-- a string is a token
string_none : (nodes : List Item) (v : List ℕ) → string_value nodes ≡ Some v → in_nodes nodes ≡ []
string_none [] v h = refl
string_none (leaf kind text ∷ []) v h = refl
string_none (group kind segs one_comma end ∷ []) v h = absurd cc
string_none (leaf String text ∷ y ∷ xs) v h = absurd cc
string_none (leaf _ text ∷ y ∷ xs) v h = absurd cc
string_none (group kind segs one_comma end ∷ y ∷ xs) v h = absurd cc

equal_none : (home : Package) (old : List ℕ) (s : Segment) → equals home old s ≡ true → in_nodes s.nodes ≡ []
equal_none home old s h =
    elim (string_value s.nodes) as (λ o. string_value s.nodes ≡ o → map_or false (λ value. same home value old) o ≡ true → in_nodes s.nodes ≡ [])
    [ None ↦ λ e k. absurd cc | Some v ↦ λ e k. string_none s.nodes v e ] refl h

replaced_keeps : (home : Package) (old new : List ℕ) (s : Segment) → in_one (replaced home old new s) ≡ in_one s
replaced_keeps home old new s =
    elim (is_replaced home old new s) as (λ b. is_replaced home old new s ≡ b → in_one (if b then record s { nodes = string_item new ∷ [] } else s) ≡ in_one s) [
      | true ↦ λ e.
          let none : in_nodes s.nodes ≡ [] = equal_none home old s (and_parts (equals home old s) (not (is_text new (string_value s.nodes))) e).0 in
          ap (λ (cs : List (List ℕ)). s.before ++ (beside s.suffix ++ cs)) (sym none)
      | false ↦ λ e. refl
    ] refl

replaced_in_keeps : (home : Package) (old new : List ℕ) (a : Segment) → in_one (replaced_in home old new a) ≡ in_one a
replaced_in_keeps home old new a =
    value_keeps (edit_parts (map (replaced home old new)) (value a)) a (parts_keep (map (replaced home old new)) (map_keeps (replaced home old new) (replaced_keeps home old new)) (value a))

pub replace_first : (home : Package) (attr old new : List ℕ) → KeepsFirst (Replace (Named attr) old new) attr (replaced_in home old new)
replace_first home attr old new = record {
  mentioned = same_bytes attr;
  named = λ a h. record { name = attr; is = named_with attr _ a h; mentioned = same_bytes attr };
  formed = λ depth a h n good. replaced_in_good depth home old new a n good;
  passes = λ q w h a k. replaced_in_passes q w home old new (and_parts _ (q new) h).1 a k;
  may = λ name h. h;
  comments = λ k a h. replaced_in_keeps home old new a;
}

pub replace_keeping : (home : Package) (attrs : Attributes) (old new : List ℕ) → Keeps (Replace attrs old new) home
replace_keeping home (Named attr) old new = keeps_slot (Replace (Named attr) old new) home (λ slot. refl) (λ slot. refl) (keeps_first _ home attr _ _ _ (replace_edits home attr old new) (replace_first home attr old new))
replace_keeping home Every old new = keeps_slot (Replace Every old new) home (λ slot. refl) (λ slot. refl) (record {
  aside = λ g aside args. all_aside aside (λ attr. refl) (replace home Every old new) args;
  told = λ g aside args. ap (λ (zs : List Segment). done None (replaces home Every old new zs)) (leaves_all aside (λ attr. refl) args);
  formed = λ depth args h good. all_mapped (IsFormed IsArg (suc depth)) (IsFormed IsArg (suc depth)) (λ a. if is_attribute a then replaced_in home old new a else a) (where_attribute depth home old new) args good;
  passes = λ q w h args k. all_mapped (SegmentPasses q) (SegmentPasses q) (λ a. if is_attribute a then replaced_in home old new a else a) (attribute_passes q w home old new (and_parts _ (q new) h).1) args k;
  left = each_with_value (Replace Every old new) (λ name. refl) _;
  comments = λ k args. map_keeps (λ a. if is_attribute a then replaced_in home old new a else a) (λ a.
      either_way (λ (z : Segment). in_one z ≡ in_one a) (is_attribute a) (replaced_in_keeps home old new a) refl) args;
})
