-- Steady commands one after another find nothing to do a second time.
use Rattle.std.proofs.Common.{◌≡◌, ℕ, List, [], ◌∷◌, Bool, true, false, ◌&&◌, not, Option, Some, None, refl, ap, sym, ◌∙◌, subst, inl, inr}
use Rattle.std.specs.Prelude.{bytes_eq}
use Rattle.std.specs.List.{AllByRecursion, list_all}
use Rattle.std.proofs.lemmas.Bool.{and_from, and_parts, cases_Bool, false≢true}
use Rattle.std.proofs.lemmas.Slice.Eq.{bytes_eq-Decides}
use Rattle.bz_tree.specs.Tree.{Statement}
use Rattle.bz_label.specs.Labels.{Package}
use Rattle.bz_label.specs.declared.arguments.Attributes.{Attributes}
use Rattle.bz_label.specs.declared.arguments.Attributes.TheVariants.{Every, Named}
use Rattle.bz_label.specs.declared.arguments.Setting.TheVariants.{ToKind, ToValues}
use Rattle.bz_engine.specs.Failing.{fails}
use Rattle.bz_rule.proofs.Lawfulness.{lawful}
use Rattle.bz_rule.specs.declared.command.Action.TheVariants.{Add, Remove, Set, SetIfAbsent, Replace, Print}
use Rattle.bz_rule.specs.Commands.{Command, after, done_of, is_command}
use Rattle.bz_laws.specs.Again.{AreCalm, AreOnce, AreSettled, IsOnce, IsSettled, after_all, are_all_apart, are_apart, are_others, is_steady, sets_a_kind, subject}
use Rattle.bz_laws.specs.Unmentioned.{arguments_of}
use Rattle.bz_laws.proofs.OthersLeave.{once_stays, settled_stays}

-- what the law on one command says
abbrev pub FindsNothing : Type 0
FindsNothing = (c : Command) (home : Package) (s t : Statement) → is_command c ≡ true → is_steady c ≡ true → IsOnce (subject c) (arguments_of s) → fails (done_of c home (Some s)).note ≡ false → after c home (Some s) ≡ Some t
    → IsSettled c home (Some t)

-- apart either way
bytes_swapped : (a b : List ℕ) → not (bytes_eq b a) ≡ true → not (bytes_eq a b) ≡ true
bytes_swapped a b h = elim (cases_Bool (bytes_eq a b)) [
  | inl is ↦ absurd (false≢true (ap not (sym ((bytes_eq-Decides b a).1 (sym ((bytes_eq-Decides a b).0 is)))) ∙ h))
  | inr other ↦ ap not other
]

others_swapped : (x y : Option Attributes) → are_others x y ≡ true → are_others y x ≡ true
others_swapped None None h = refl
others_swapped None (Some y) h = refl
others_swapped (Some x) None h = refl
others_swapped (Some (Named a)) (Some (Named b)) h = bytes_swapped a b h
others_swapped (Some Every) (Some y) h = absurd (false≢true h)
others_swapped (Some (Named a)) (Some Every) h = absurd (false≢true h)

kinds_swapped : (a b : Bool) → not (a && b) ≡ true → not (b && a) ≡ true
kinds_swapped true true h = h
kinds_swapped true false h = refl
kinds_swapped false true h = refl
kinds_swapped false false h = refl

pub apart_swapped : (c d : Command) → are_apart c d ≡ true → are_apart d c ≡ true
apart_swapped c d h =
    let both = and_parts (are_others (subject c) (subject d)) (not (sets_a_kind c && sets_a_kind d)) h in
    and_from _ _ (others_swapped (subject c) (subject d) both.0) (kinds_swapped (sets_a_kind c) (sets_a_kind d) both.1)

-- a steady command leaves a statement
pub steady_leaves : (c : Command) (home : Package) (s : Statement) → is_steady c ≡ true → (t : Statement) × (after c home (Some s) ≡ Some t)
steady_leaves (Add attr values) home s steady = (_, refl)
steady_leaves (Remove attrs values) home s steady = (_, refl)
steady_leaves (Set (ToKind kind)) home s steady = (_, refl)
steady_leaves (Set (ToValues attr values)) home s steady = (_, refl)
steady_leaves (SetIfAbsent attr values) home s steady = (_, refl)
steady_leaves (Replace attrs old new) home s steady = (_, refl)
steady_leaves (Print fields) home s steady = (s, refl)
steady_leaves _ home s steady = absurd (false≢true steady)

-- all of some commands, apart from one
all_settled : (ps : List Command) (d : Command) (home : Package) (s t : Statement) → list_all is_steady ps ≡ true → is_steady d ≡ true → list_all (λ p. are_apart p d) ps ≡ true → after d home (Some s) ≡ Some t
    → AreSettled ps home s → AreSettled ps home t
all_settled [] d home s t steady steady_other apart h settled = tt
all_settled (p ∷ ps) d home s t steady steady_other apart h settled =
    let k = and_parts (is_steady p) (list_all is_steady ps) steady in
    let a = and_parts (are_apart p d) (list_all (λ q. are_apart q d) ps) apart in
    (settled_stays p d home s t k.0 steady_other a.0 h settled.0, all_settled ps d home s t k.1 steady_other a.1 h settled.1)

all_once : (cs : List Command) (d : Command) (home : Package) (s t : Statement) → is_steady d ≡ true → list_all (are_apart d) cs ≡ true → after d home (Some s) ≡ Some t → AreOnce cs s → AreOnce cs t
all_once [] d home s t steady apart h once = tt
all_once (c ∷ cs) d home s t steady apart h once =
    let a = and_parts (are_apart d c) (list_all (are_apart d) cs) apart in
    (once_stays c d home s t steady (apart_swapped d c a.0) h once.0, all_once cs d home s t steady a.1 h once.1)

-- those that were done are apart from those to come
abbrev AreBefore : List Command → List Command → Type 0
AreBefore ps cs = AllByRecursion (λ c. list_all (λ p. are_apart p c) ps ≡ true) cs

one_more : (ps : List Command) (c : Command) (cs : List Command) → AreBefore ps cs → list_all (are_apart c) cs ≡ true → AreBefore (c ∷ ps) cs
one_more ps c [] before apart = tt
one_more ps c (d ∷ cs) before apart =
    let a = and_parts (are_apart c d) (list_all (are_apart c) cs) apart in
    (and_from (are_apart c d) (list_all (λ p. are_apart p d) ps) a.0 before.0, one_more ps c cs before.1 a.1)

pub record Leaves (ps cs : List Command) (home : Package) (s : Statement) : Type 0 where
  pub left : Statement
  pub is : after_all cs home (Some s) ≡ Some left
  pub done : AreSettled ps home left
  pub settled : AreSettled cs home left

all_done : FindsNothing → (ps cs : List Command) (home : Package) (s : Statement) → list_all is_steady ps ≡ true → list_all is_command cs ≡ true → list_all is_steady cs ≡ true → are_all_apart cs ≡ true → AreBefore ps cs
    → AreOnce cs s → AreCalm cs home (Some s) → AreSettled ps home s → Leaves ps cs home s
all_done law ps [] home s past read steady apart before once none_fails settled = record { left = s; is = refl; done = settled; settled = tt }
all_done law ps (c ∷ cs) home s past read steady apart before once none_fails settled =
    let r = and_parts (is_command c) (list_all is_command cs) read in
    let k = and_parts (is_steady c) (list_all is_steady cs) steady in
    let a = and_parts (list_all (are_apart c) cs) (are_all_apart cs) apart in
    let next = steady_leaves c home s k.0 in
    let here = law c home s next.0 r.0 k.0 once.0 none_fails.0 next.1 in
    let rest = all_done law (c ∷ ps) cs home next.0 (and_from (is_steady c) (list_all is_steady ps) k.0 past) r.1 k.1 a.1 (one_more ps c cs before.1 a.0)
    (all_once cs c home s next.0 k.0 a.0 next.1 once.1) (subst (AreCalm cs home) next.1 none_fails.1)
    (here, all_settled ps c home s next.0 past k.0 before.0 next.1 settled) in
    record { left = rest.left; is = ap (after_all cs home) next.1 ∙ rest.is; done = rest.done.1; settled = (rest.done.0, rest.settled) }

none_before : (cs : List Command) → AreBefore [] cs
none_before [] = tt
none_before (c ∷ cs) = (refl, none_before cs)

pub all_find_nothing : FindsNothing → (cs : List Command) (home : Package) (s : Statement) → list_all is_command cs ≡ true → list_all is_steady cs ≡ true → are_all_apart cs ≡ true → AreOnce cs s → AreCalm cs home (Some s)
    → (t : Statement) × (after_all cs home (Some s) ≡ Some t) × AreSettled cs home t
all_find_nothing law cs home s read steady apart once none_fails =
    let l = all_done law [] cs home s refl read steady apart (none_before cs) once none_fails tt in
    (l.left, l.is, l.settled)

-- where all are settled, nothing is changed
pub all_stay : (cs : List Command) (home : Package) (t : Statement) → AreSettled cs home t → after_all cs home (Some t) ≡ Some t
all_stay [] home t settled = refl
all_stay (c ∷ cs) home t settled = ap (after_all cs home) ((lawful c home).stays (Some t) settled.0.unchanged) ∙ all_stay cs home t settled.1
