-- Arguments of a call and elements of a list that are well formed.
use Rattle.std.proofs.Common.{◌≡◌, ℕ, ◌≤◌, List, [], ◌∷◌, ◌++◌, Bool, true, false, filter, map, cond, if◌then◌else◌, arith}
use Rattle.std.specs.List.{AllByRecursion, flat_map}
use Rattle.bz_tree.specs.Tree.{Items, Segment, items_of, segs_of}
use Rattle.bz_tree.specs.private.Productions.{IsTest, AreTests, no_test, one_test, IsArg, AreArgs, no_arg, one_arg}
use Rattle.bz_layout_laws.specs.Legible.{are_some, items_depth, segs_depth}
use Rattle.bz_layout_laws.specs.TextsOfKinds.{SegsHaveTexts}
use Rattle.bz_layout_laws.specs.Parsed.{SegsHaveKinds}
pub use Rattle.bz_laws.specs.WellFormedSegments.{AreNodes, IsFormed, AreFormed}

-- as the definitions say it of a bracket
pub record AreIn (depth : ℕ) (ss : List Segment) : Type 0 where
  pub texts : SegsHaveTexts (segs_of ss)
  pub kinds : SegsHaveKinds false (segs_of ss)
  pub depth_fits : segs_depth (segs_of ss) ≤ depth

abbrev HaveForm : (Items → Type 0) → List Segment → Type 0
HaveForm Form ss = AllByRecursion (λ (s : Segment). Form (items_of s.nodes)) ss

put_together : (Form : Items → Type 0) (depth : ℕ) (ss : List Segment) → AreIn depth ss → HaveForm Form ss → AreFormed Form depth ss
put_together Form depth [] h k = tt
put_together Form depth (s ∷ ss) h k =
    let fits : segs_depth (segs_of (s ∷ ss)) ≤ depth = h.depth_fits in (
      record {
        before = h.texts.0;
        suffix = h.texts.3;
        nodes = record { texts = h.texts.2; kinds = h.kinds.0; depth_fits = omega arith };
        form = k.0;
      },
      put_together Form depth ss (record { texts = h.texts.4; kinds = h.kinds.1; depth_fits = omega arith }) k.1,
    )

pub taken_apart : (Form : Items → Type 0) → ((xs : Items) → Form xs → are_some xs ≡ true) → (depth : ℕ) (ss : List Segment) → AreFormed Form depth ss → AreIn depth ss
taken_apart Form some depth [] h = record { texts = tt; kinds = tt; depth_fits = omega arith }
taken_apart Form some depth (s ∷ ss) h =
    let rest = taken_apart Form some depth ss h.1 in
    let first : items_depth (items_of s.nodes) ≤ depth = h.0.nodes.depth_fits in
    let others : segs_depth (segs_of ss) ≤ depth = rest.depth_fits in
    record {
      texts = (h.0.before, some (items_of s.nodes) h.0.form, h.0.nodes.texts, h.0.suffix, rest.texts);
      kinds = (h.0.nodes.kinds, rest.kinds);
      depth_fits = omega arith;
    }

tests_form : (ss : List Segment) → AreTests (segs_of ss) → HaveForm IsTest ss
tests_form [] h = tt
tests_form (s ∷ ss) (one_test h more) = (h, tests_form ss more)

pub form_tests : (depth : ℕ) (ss : List Segment) → AreFormed IsTest depth ss → AreTests (segs_of ss)
form_tests depth [] h = no_test
form_tests depth (s ∷ ss) h = one_test h.0.form (form_tests depth ss h.1)

args_form : (ss : List Segment) → AreArgs (segs_of ss) → HaveForm IsArg ss
args_form [] h = tt
args_form (s ∷ ss) (one_arg h more) = (h, args_form ss more)

pub form_args : (depth : ℕ) (ss : List Segment) → AreFormed IsArg depth ss → AreArgs (segs_of ss)
form_args depth [] h = no_arg
form_args depth (s ∷ ss) h = one_arg h.0.form (form_args depth ss h.1)

pub good_elements : (depth : ℕ) (ss : List Segment) → AreIn depth ss → AreTests (segs_of ss) → AreFormed IsTest depth ss
good_elements depth ss h k = put_together IsTest depth ss h (tests_form ss k)

pub good_arguments : (depth : ℕ) (ss : List Segment) → AreIn depth ss → AreArgs (segs_of ss) → AreFormed IsArg depth ss
good_arguments depth ss h k = put_together IsArg depth ss h (args_form ss k)

-- what is so of the nodes may be said otherwise
pub formed_so : (F G : Items → Type 0) → ((xs : Items) → F xs → G xs) → (depth : ℕ) (ss : List Segment) → AreFormed F depth ss → AreFormed G depth ss
formed_so F G same depth [] h = tt
formed_so F G same depth (s ∷ ss) h =
    (record { before = h.0.before; suffix = h.0.suffix; nodes = h.0.nodes; form = same (items_of s.nodes) h.0.form }, formed_so F G same depth ss h.1)

-- what is so of both cases of a test
pub either_way : {X : Type 0} (P : X → Type 0) (b : Bool) {x y : X} → P x → P y → P (if b then x else y)
either_way P true h k = h
either_way P false h k = k

-- lists of these
pub all_appended : {A : Type 0} (P : A → Type 0) (xs ys : List A) → AllByRecursion P xs → AllByRecursion P ys → AllByRecursion P (xs ++ ys)
all_appended P [] ys h k = k
all_appended P (x ∷ xs) ys h k = (h.0, all_appended P xs ys h.1 k)

pub all_filtered : {A : Type 0} (P : A → Type 0) (p : A → Bool) (xs : List A) → AllByRecursion P xs → AllByRecursion P (filter p xs)
all_filtered P p [] h = tt
all_filtered P p (x ∷ xs) h =
    elim (p x) as (λ b. AllByRecursion P (cond b (x ∷ filter p xs) (filter p xs))) [ true ↦ (h.0, all_filtered P p xs h.1) | false ↦ all_filtered P p xs h.1 ]

pub all_mapped : {A B : Type 0} (P : A → Type 0) (Q : B → Type 0) (f : A → B) → ((x : A) → P x → Q (f x)) → (xs : List A) → AllByRecursion P xs → AllByRecursion Q (map f xs)
all_mapped P Q f keep [] h = tt
all_mapped P Q f keep (x ∷ xs) h = (keep x h.0, all_mapped P Q f keep xs h.1)

pub all_flattened : {A B : Type 0} (P : A → Type 0) (Q : B → Type 0) (f : A → List B) → ((x : A) → P x → AllByRecursion Q (f x)) → (xs : List A) → AllByRecursion P xs → AllByRecursion Q (flat_map f xs)
all_flattened P Q f keep [] h = tt
all_flattened P Q f keep (x ∷ xs) h = all_appended Q (f x) (flat_map f xs) (keep x h.0) (all_flattened P Q f keep xs h.1)
