-- The text of statements, with one more after them.
use Rattle.std.proofs.Common.{◌≡◌, ℕ, Bool, true, false, List, [], ◌∷◌, ◌++◌, refl, sym, ◌∙◌, ap, append_assoc, append-nil}
use Rattle.std.specs.Prelude.{Option, None, Some, if◌then◌else◌}
use Rattle.bz_tree.specs.Tree.{Statement}
use Rattle.bz_tree.specs.declared.tree.Class.{Class}
use Rattle.bz_layout.specs.Layout.{layout_text}
use Rattle.bz_layout.specs.Gaps.{lines_between, lines_before, gap_text}
use Rattle.bz_label.specs.Labels.{Package}
use Rattle.bz_passes.specs.Passes.{Slot, slots_after}
use Rattle.bz_passes.specs.Exchange.{slot_after}
use Rattle.bz_engine.specs.Language.{meaning}
use Rattle.bz_engine.specs.Outcome.{Script, slots_of, left_in, text_of, is_query, text_after}
use Rattle.bz_engine.specs.Progress.{last_class, text_following}
use Rattle.bz_passes.proofs.ExchangeLaw.{map_more}
use Rattle.bz_passes.proofs.Failures.{slots_more}

text_more : (last : Option Class) (xs : List (Slot Statement)) (x : Slot Statement)
    → text_following last (xs ++ x ∷ []) ≡ text_following last xs ++ text_following (last_class last xs) (x ∷ [])
text_more last [] x = refl
text_more last (None ∷ xs) x = text_more last xs x
text_more last (Some s ∷ xs) x =
    let gap = gap_text (lines_before last s.class) in
    let more = text_following (last_class (Some s.class) xs) (x ∷ []) in
    ap (λ l. gap ++ (layout_text s ++ l)) (text_more (Some s.class) xs x)
    ∙ ap (λ l. gap ++ l) (sym (append_assoc (layout_text s) (text_following (Some s.class) xs) more))
    ∙ sym (append_assoc gap (layout_text s ++ text_following (Some s.class) xs) more)

last_more : (last : Option Class) (xs : List (Slot Statement)) (x : Slot Statement)
    → last_class last (xs ++ x ∷ []) ≡ last_class (last_class last xs) (x ∷ [])
last_more last [] x = refl
last_more last (None ∷ xs) x = last_more last xs x
last_more last (Some s ∷ xs) x = last_more (Some s.class) xs x

-- between neighbours, or each after the one before it
text_after_some : (s : Statement) (slots : List (Slot Statement)) → layout_text s ++ text_following (Some s.class) slots ≡ text_of (s ∷ left_in slots)
text_after_some s [] = append-nil (layout_text s)
text_after_some s (None ∷ slots) = text_after_some s slots
text_after_some s (Some t ∷ slots) = ap (λ l. layout_text s ++ (gap_text (lines_between s.class t.class) ++ l)) (text_after_some t slots)

pub text_by_neighbours : (slots : List (Slot Statement)) → text_following None slots ≡ text_of (left_in slots)
text_by_neighbours [] = refl
text_by_neighbours (None ∷ slots) = text_by_neighbours slots
text_by_neighbours (Some s ∷ slots) = text_after_some s slots

text_of_more : (xs : List (Slot Statement)) (x : Slot Statement)
    → text_of (left_in (xs ++ x ∷ [])) ≡ text_of (left_in xs) ++ text_following (last_class None xs) (x ∷ [])
text_of_more xs x =
    sym (text_by_neighbours (xs ++ x ∷ [])) ∙ text_more None xs x ∙ ap (λ l. l ++ text_following (last_class None xs) (x ∷ [])) (text_by_neighbours xs)

shown_if : (query : Bool) (before more all : List ℕ) → all ≡ before ++ more
    → (if query then [] else all) ≡ (if query then [] else before) ++ (if query then [] else more)
shown_if true before more all h = refl
shown_if false before more all h = h

shown_more : (passes : Script) (xs : List (Slot Statement)) (x : Slot Statement)
    → (if is_query passes then [] else text_of (left_in (xs ++ x ∷ []))) ≡ (if is_query passes then [] else text_of (left_in xs)) ++ (if is_query passes then [] else text_following (last_class None xs) (x ∷ []))
shown_more passes xs x = shown_if (is_query passes) (text_of (left_in xs)) (text_following (last_class None xs) (x ∷ [])) (text_of (left_in (xs ++ x ∷ []))) (text_of_more xs x)

pub slots_after_more : (home : Package) (passes : Script) (ss : List Statement) (s : Statement)
    → slots_after (meaning home) passes (slots_of (ss ++ s ∷ [])) ≡ slots_after (meaning home) passes (slots_of ss) ++ slot_after (meaning home) passes (Some s) ∷ []
slots_after_more home passes ss s =
    ap (slots_after (meaning home) passes) (map_more Some ss s) ∙ slots_more (meaning home) passes (slots_of ss) (Some s)

-- the text with one statement more; `last` is the class of the last one that is left before it
pub text_after_more : (home : Package) (passes : Script) (ss : List Statement) (s : Statement) (last : Option Class)
    → last ≡ last_class None (slots_after (meaning home) passes (slots_of ss))
    → text_after home passes (ss ++ s ∷ []) ≡ text_after home passes ss ++ (if is_query passes then [] else text_following last (slot_after (meaning home) passes (Some s) ∷ []))
text_after_more home passes ss s last at =
    ap (λ x0. if is_query passes then [] else text_of (left_in x0)) (slots_after_more home passes ss s)
    ∙ shown_more passes (slots_after (meaning home) passes (slots_of ss)) (slot_after (meaning home) passes (Some s))
    ∙ ap (λ l. text_after home passes ss ++ (if is_query passes then [] else text_following l (slot_after (meaning home) passes (Some s) ∷ []))) (sym at)

pub last_after_more : (home : Package) (passes : Script) (ss : List Statement) (s : Statement) (last now : Option Class)
    → last ≡ last_class None (slots_after (meaning home) passes (slots_of ss))
    → now ≡ last_class last (slot_after (meaning home) passes (Some s) ∷ [])
    → now ≡ last_class None (slots_after (meaning home) passes (slots_of (ss ++ s ∷ [])))
last_after_more home passes ss s last now at is =
    is
    ∙ ap (λ l. last_class l (slot_after (meaning home) passes (Some s) ∷ [])) at
    ∙ sym (last_more None (slots_after (meaning home) passes (slots_of ss)) (slot_after (meaning home) passes (Some s)))
    ∙ ap (last_class None) (sym (slots_after_more home passes ss s))

-- nothing more
pub text_after_none : (home : Package) (passes : Script) (ss : List Statement) → text_after home passes (ss ++ []) ≡ text_after home passes ss ++ []
text_after_none home passes ss = ap (text_after home passes) (append-nil ss) ∙ sym (append-nil (text_after home passes ss))
