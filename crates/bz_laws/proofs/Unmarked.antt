-- A slot that no pass marks stays, and its text stands in the text of all.
use Rattle.std.proofs.Common.{◌≡◌, ℕ, List, [], ◌∷◌, ◌++◌, map, Bool, true, false, not, refl, sym, ap, ◌∙◌, subst, append-nil, append_assoc, inl, inr}
use Rattle.std.specs.Prelude.{None, Some}
use Rattle.std.specs.List.{list_all}
use Rattle.std.proofs.lemmas.Bool.{and_parts}
use Rattle.std.proofs.lemmas.List.{map-append}
use Rattle.bz_tree.specs.Tree.{Statement}
use Rattle.bz_layout.specs.Gaps.{lines_between, gap_text}
use Rattle.bz_layout.specs.Layout.{layout_text}
use Rattle.bz_attribute.specs.Marks.{marks}
use Rattle.bz_rule.specs.Commands.{Command}
use Rattle.bz_label.specs.Labels.{Package}
use Rattle.bz_passes.specs.Passes.{Slot}
use Rattle.bz_passes.specs.Exchange.{slot_after_commands, slot_after_pass, slot_after, with_mark}
use Rattle.bz_passes.proofs.ExchangeLaw.{slots_alone}
use Rattle.bz_engine.specs.declared.report.End.TheVariants.{Whole}
use Rattle.bz_engine.specs.File.{IsFile}
use Rattle.bz_engine.specs.Language.{meaning}
use Rattle.bz_engine.specs.Outcome.{Run, RunEnds, Script, Told, IsOutcome, at_a_failure, at_the_end, is_query, left_in, slots_of, text_of}
use Rattle.bz_engine.proofs.OneOutcome.{one_give}
use Rattle.bz_laws.specs.Untouched.{is_unmarked, StandsIn}
use Rattle.bz_laws.specs.Written.{left_by}
use Rattle.bz_laws.proofs.RunText.{edited_text, text_left_by}
use Rattle.bz_laws.proofs.SecondRun.{not_at_failure}

-- commands leave what is not marked
pub unmarked_commands : (home : Package) (cs : List Command) (slot : Slot Statement) → slot_after_commands (meaning home) cs (with_mark false slot) ≡ with_mark false slot
unmarked_commands home [] slot = refl
unmarked_commands home (c ∷ cs) slot = unmarked_commands home cs slot

not_true : (b : Bool) → not b ≡ true → b ≡ false
not_true true h = sym h
not_true false h = refl

pub stays : (home : Package) (passes : Script) (s : Statement) → is_unmarked passes s ≡ true → slot_after (meaning home) passes (Some s) ≡ Some s
stays home [] s h = refl
stays home (p ∷ ps) s h =
    let both = and_parts (not (marks p.target s)) (list_all (λ q. not (marks q.target s)) ps) h in
    let here : slot_after_pass (meaning home) p (Some s) ≡ Some s =
    ap (λ b. (slot_after_commands (meaning home) p.commands (with_mark b (Some s))).slot) (not_true (marks p.target s) both.0)
    ∙ ap (λ x. x.slot) (unmarked_commands home p.commands (Some s)) in
    ap (slot_after (meaning home) ps) here ∙ stays home ps s both.1

-- what is left of slots and of more of them
pub left_both : {S : Type 0} (xs ys : List (Slot S)) → left_in (xs ++ ys) ≡ left_in xs ++ left_in ys
left_both [] ys = refl
left_both (None ∷ xs) ys = left_both xs ys
left_both (Some s ∷ xs) ys = ap (λ rest. s ∷ rest) (left_both xs ys)

-- slot by slot
pub left_alone : (home : Package) (passes : Script) (ss : List Statement) → left_by home passes ss ≡ left_in (map (slot_after (meaning home) passes) (slots_of ss))
left_alone home passes ss = ap left_in (slots_alone (meaning home) passes (slots_of ss))

-- what a script leaves of statements and of more of them
pub left_of_both : (home : Package) (passes : Script) (front back : List Statement) → left_by home passes (front ++ back) ≡ left_by home passes front ++ left_by home passes back
left_of_both home passes front back =
    let each = slot_after (meaning home) passes in
    left_alone home passes (front ++ back)
    ∙ ap (λ slots. left_in (map each slots)) (map-append Some front back)
    ∙ ap left_in (map-append each (slots_of front) (slots_of back))
    ∙ left_both (map each (slots_of front)) (map each (slots_of back))
    ∙ ap (λ left. left ++ left_in (map each (slots_of back))) (sym (left_alone home passes front))
    ∙ ap (λ left. left_by home passes front ++ left) (sym (left_alone home passes back))

one_stays : (home : Package) (passes : Script) (s : Statement) (back : List Statement) → is_unmarked passes s ≡ true → left_by home passes (s ∷ back) ≡ s ∷ left_by home passes back
one_stays home passes s back h =
    let each = slot_after (meaning home) passes in
    left_alone home passes (s ∷ back)
    ∙ ap (λ slot. left_in (slot ∷ map each (slots_of back))) (stays home passes s h)
    ∙ ap (λ left. s ∷ left) (sym (left_alone home passes back))

pub unmarked_stays : (home : Package) (passes : Script) (front back : List Statement) (s : Statement) → is_unmarked passes s ≡ true
    → left_by home passes (front ++ s ∷ back) ≡ left_by home passes front ++ s ∷ left_by home passes back
unmarked_stays home passes front back s h =
    left_of_both home passes front (s ∷ back) ∙ ap (λ left. left_by home passes front ++ left) (one_stays home passes s back h)

-- its text stands in the text of all
next_stands : (part : List ℕ) (f t : Statement) (ts : List Statement) → StandsIn part (text_of (t ∷ ts)) → StandsIn part (text_of (f ∷ t ∷ ts))
next_stands part f t ts is =
    let head = layout_text f ++ gap_text (lines_between f.class t.class) in
    record {
      before = head ++ is.before;
      after = is.after;
      text_is = sym (append_assoc (layout_text f) (gap_text (lines_between f.class t.class)) (text_of (t ∷ ts))) ∙ ap (λ rest. head ++ rest) is.text_is
          ∙ sym (append_assoc head is.before (part ++ is.after));
    }

pub text_stands : (front : List Statement) (s : Statement) (back : List Statement) → StandsIn (layout_text s) (text_of (front ++ s ∷ back))
text_stands [] s [] = record { before = []; after = []; text_is = sym (append-nil (layout_text s)) }
text_stands [] s (t ∷ back) = record { before = []; after = gap_text (lines_between s.class t.class) ++ text_of (t ∷ back); text_is = refl }
text_stands (f ∷ []) s back = next_stands (layout_text s) f s back (text_stands [] s back)
text_stands (f ∷ g ∷ front) s back = next_stands (layout_text s) f g (front ++ s ∷ back) (text_stands (g ∷ front) s back)

pub written_of : (run : Run) (file text : List ℕ) (told : Told) (outcome : IsOutcome run file text told) (front back : List Statement) (s : Statement)
    → is_query run.passes ≡ false → outcome.edited ≡ front ++ s ∷ back → is_unmarked run.passes s ≡ true
    → (text ≡ text_of (left_by run.home run.passes front ++ s ∷ left_by run.home run.passes back)) × StandsIn (layout_text s) text
written_of run file text told outcome front back s query are h =
    let is = edited_text run file text told outcome ∙ text_left_by run.home run.passes outcome.edited query
    ∙ ap (λ ss. text_of (left_by run.home run.passes ss)) are ∙ ap text_of (unmarked_stays run.home run.passes front back s h) in
    (is, subst (StandsIn (layout_text s)) (sym is) (text_stands (left_by run.home run.passes front) s (left_by run.home run.passes back)))

-- a run that comes to its end edits all statements of a file without fault
pub edited_all : (run : Run) (file text : List ℕ) (told : Told) (outcome : IsOutcome run file text told) (ss : List Statement)
    → IsFile run.max_depth file ss None → (run.keep_going ≡ false → told.end ≡ Whole) → outcome.edited ≡ ss
edited_all run file text told outcome ss read ends = by outcome.ends
  where
    by : RunEnds run file outcome.edited told → outcome.edited ≡ ss
    by (at_the_end fault whole told_is) = (one_give run.max_depth 1 _ outcome.edited ss fault None whole read).0
    by (at_a_failure s stops begins fails told_is) = absurd (not_at_failure run told s told_is stops ends)

pub bytes_stay : (run : Run) (file text : List ℕ) (told : Told) (front back : List Statement) (s : Statement) → IsFile run.max_depth file (front ++ s ∷ back) None
    → file ≡ text_of (front ++ s ∷ back) → IsOutcome run file text told → (run.keep_going ≡ false → told.end ≡ Whole) → is_query run.passes ≡ false → is_unmarked run.passes s ≡ true
    → StandsIn (layout_text s) file × StandsIn (layout_text s) text × (text ≡ text_of (left_by run.home run.passes front ++ s ∷ left_by run.home run.passes back))
bytes_stay run file text told front back s read laid outcome ends query h =
    let are = edited_all run file text told outcome (front ++ s ∷ back) read ends in
    let written = written_of run file text told outcome front back s query are h in
    (subst (StandsIn (layout_text s)) (sym laid) (text_stands front s back), written.1, written.0)
