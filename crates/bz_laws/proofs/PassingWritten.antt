-- Texts that pass a test do so where arguments or elements are written or filtered.
use Rattle.std.proofs.Common.{Bool, List, [], codes, false, map, not, refl, true, ℕ, ◌++◌, ◌==◌, ◌∷◌, ◌≡◌}
use Rattle.std.specs.List.{AllByRecursion, slice_split}
use Rattle.bz_rule.specs.Comment.{comment_line}
use Rattle.bz_attribute.specs.Effects.{argument, edit_first, filtered, is_chosen, list_item, loses_all, string, unchosen}
use Rattle.bz_attribute.specs.Lists.{edit_parts, with_value}
use Rattle.bz_attribute.specs.ListWalk.{edit_first_part}
use Rattle.bz_attribute.specs.Rules.{is_named, value}
use Rattle.bz_label.specs.declared.arguments.Chosen.{Chosen}
use Rattle.bz_label.specs.Labels.{Package}
use Rattle.bz_label.specs.Values.{quoted}
use Rattle.bz_laws.proofs.PassingParts.{KeepsPassing, edited_first_part_passes, edited_first_passes, edited_parts_pass}
use Rattle.bz_laws.proofs.PassingTexts.{NodesPass, SegmentPasses, SegmentsPass, WordPasses, group_passes, value_passes, with_value_passes}
use Rattle.bz_laws.proofs.Segments.{all_appended, all_filtered, all_mapped, either_way}
use Rattle.bz_tree.specs.Tree.{Item, Segment}
use Rattle.bz_tree.specs.declared.tree.GroupKind.TheVariants.{List as ListKind}

-- what commands write of words that pass the test passes it
pub record PassesWritten (q : List ℕ → Bool) : Type 0 where
  pub equals : q (codes "=") ≡ true
  pub dot : q (codes ".") ≡ true
  pub literal : (word : List ℕ) → q word ≡ true → q (quoted word) ≡ true
  pub line : (text : List ℕ) → q text ≡ true → q (comment_line text) ≡ true
  pub names : (kind : List ℕ) → q kind ≡ true → AllByRecursion (WordPasses q) (slice_split (λ b. b == 46) kind)

string_passes : (q : List ℕ → Bool) → PassesWritten q → (word : List ℕ) → q word ≡ true → SegmentPasses q (string word)
string_passes q w word h = record { before = refl; nodes = (w.literal word h, tt); suffix = refl }

pub strings_pass : (q : List ℕ → Bool) → PassesWritten q → (words : List (List ℕ)) → AllByRecursion (WordPasses q) words → SegmentsPass q (map string words)
strings_pass q w words h = all_mapped (WordPasses q) (SegmentPasses q) string (string_passes q w) words h

pub list_passes : (q : List ℕ → Bool) (ss : List Segment) → SegmentsPass q ss → NodesPass q (list_item ss ∷ [])
list_passes q ss h = (group_passes q ListKind ss false [] h refl, tt)

argument_passes : (q : List ℕ → Bool) → PassesWritten q → (attr : List ℕ) (nodes : List Item) → q attr ≡ true → NodesPass q nodes → SegmentPasses q (argument attr nodes)
argument_passes q w attr nodes name h = record { before = refl; nodes = (name, (w.equals, h)); suffix = refl }

pub argument_added : (q : List ℕ → Bool) → PassesWritten q → (attr : List ℕ) (nodes : List Item) (args : List Segment) → q attr ≡ true → NodesPass q nodes → SegmentsPass q args
    → SegmentsPass q (args ++ argument attr nodes ∷ [])
argument_added q w attr nodes args name k h = all_appended (SegmentPasses q) args (argument attr nodes ∷ []) h (argument_passes q w attr nodes name k, tt)

pub first_of_name_edited : (q : List ℕ → Bool) (attr : List ℕ) (g : Segment → Segment) → ((a : Segment) → SegmentPasses q a → SegmentPasses q (g a)) → KeepsPassing q (edit_first (is_named attr) (λ a. g a ∷ []))
first_of_name_edited q attr g keep args h = edited_first_passes q (is_named attr) (λ a. g a ∷ []) (λ a k. (keep a k, tt)) args h

-- elements at the end of the first list part
pub elements_added : (q : List ℕ → Bool) (more : List Segment) (a : Segment) → SegmentsPass q more → SegmentPasses q a → SegmentPasses q (with_value (edit_first_part (λ ss. ss ++ more) (value a)) a)
elements_added q more a k h =
    with_value_passes q (edit_first_part (λ ss. ss ++ more) (value a)) a
    (edited_first_part_passes q (λ ss. ss ++ more) (λ ss p. all_appended (SegmentPasses q) ss more p k) (value a) (value_passes q a.nodes h.nodes)) h

unchosen_passes : (q : List ℕ → Bool) (home : Package) (chosen : Chosen) → KeepsPassing q (unchosen home chosen)
unchosen_passes q home chosen ss h = all_filtered (SegmentPasses q) (λ s. not (is_chosen home chosen s)) ss h

pub filtered_passes : (q : List ℕ → Bool) (home : Package) (chosen : Chosen) (a : Segment) → SegmentPasses q a → SegmentsPass q (filtered (unchosen home chosen) a)
filtered_passes q home chosen a h =
    either_way (SegmentsPass q) (loses_all (unchosen home chosen) (value a)) tt
    (with_value_passes q (edit_parts (unchosen home chosen) (value a)) a (edited_parts_pass q (unchosen home chosen) (unchosen_passes q home chosen) (value a) (value_passes q a.nodes h.nodes)) h, tt)
