-- Arguments that are put one by one, some of them sealed.
use Rattle.std.proofs.Common.{◌≡◌, ◌<◌, ◌-◌, if◌then◌else◌, ℕ, ◌+◌, List, [], ◌∷◌, ◌++◌, Bool, true, false, length, map, take, drop, get_or, refl, subst, ap, sym, ◌∙◌, arith, append_assoc, append-nil}
use Rattle.std.proofs.Math.Seq.{drop-append_seam}
use Rattle.std.proofs.lemmas.List.{drop-drop, drop_more, length-append, take_rest}
use Rattle.std.proofs.lemmas.Bool.{false≢true}
use Rattle.bz_tree.specs.declared.row.Part.{Part}
use Rattle.bz_tree.specs.Tree.{Segment, segs_of}
use Rattle.bz_tree.specs.Rows.{RowPart, part_view, segs_parts}
use Rattle.bz_attribute.proofs.EditedAt.{segs_join}
use Rattle.bz_canonical.specs.Canonical.{argument_lines}
use Rattle.bz_canonical.specs.SealedRules.{are_asked, ends_run, sealed_after, sealed_args, sealed_from}
use Rattle.bz_canonical.specs.Spans.{AreSpans, IsSpan, is_asked, kept}
use Rattle.bz_canonical.specs.declared.spans.ArgumentSpan.{ArgumentSpan}
use Rattle.bz_canonical.proofs.ArgumentLines.{lines_append}
use Rattle.bz_canonical.proofs.SealedRuns.{Waits, goes_on, more_wait, nothing_waits}

kept_more : (b : Bool) (bs : List Bool) (a : Segment) (args : List Segment) → kept (b ∷ bs) (a ∷ args) ≡ kept (b ∷ []) (a ∷ []) ++ kept bs args
kept_more true bs a args = refl
kept_more false bs a args = refl

-- Some of the arguments are put, and others wait to be sealed with the next; their lines begin here. These are left: their spans, and the
-- parts of those that are asked for.
pub record AreToPut (names : List (List ℕ)) (written : List ℕ) (start : ℕ) (spans : List ArgumentSpan) (asked put all : List RowPart) : Type 0 where
  pub from : ℕ
  pub run : List Segment
  pub args : List Segment
  pub stands : List (List ℕ)
  pub after : List ℕ
  pub are : AreSpans names from (start + length (argument_lines run)) args stands spans
  pub text : drop start written ≡ argument_lines (run ++ args) ++ after
  pub waits : Waits run (are_asked spans)
  pub asked_is : asked ≡ segs_parts (segs_of (kept (are_asked spans) args))
  pub all_is : put ++ segs_parts (segs_of (sealed_from run (are_asked spans) args)) ≡ all

-- none is put
pub none_put : (names : List (List ℕ)) (written : List ℕ) (from start : ℕ) (args : List Segment) (stands : List (List ℕ)) (after : List ℕ) (spans : List ArgumentSpan) (asked put : List RowPart)
    → AreSpans names from start args stands spans → drop start written ≡ argument_lines args ++ after → asked ≡ segs_parts (segs_of (kept (are_asked spans) args))
    → AreToPut names written start spans asked put (put ++ segs_parts (segs_of (sealed_args (are_asked spans) args)))
none_put names written from start args stands after spans asked put are text asked_is =
    let here : start ≡ start + length (argument_lines []) = omega arith in
    record {
      from = from;
      run = [];
      args = args;
      stands = stands;
      after = after;
      are = subst (λ (n : ℕ). AreSpans names from n args stands spans) here are;
      text = text;
      waits = nothing_waits (are_asked spans);
      asked_is = asked_is;
      all_is = refl;
    }

pub all_put : (names : List (List ℕ)) (written : List ℕ) (start : ℕ) (spans : List ArgumentSpan) (asked put all : List RowPart) → length spans < 1 → AreToPut names written start spans asked put all → put ≡ all
all_put names written start [] asked put all none h = sym (append-nil put) ∙ h.all_is
all_put names written start (s ∷ ss) asked put all none h = absurd (omega (arith, none))

-- what is told of one that is put
abbrev pub PutsOne : List ℕ → ℕ → ArgumentSpan → List RowPart → List RowPart → List RowPart → List RowPart → Type 0
PutsOne written start span asked left old new = (names : List (List ℕ)) (from : ℕ) (run : List Segment) (a : Segment) (stands after : List ℕ) (others : List Segment)
    → IsSpan names from (start + length (argument_lines run)) a stands span → drop start written ≡ argument_lines (run ++ a ∷ []) ++ after → asked ≡ segs_parts (segs_of (kept (is_asked span ∷ []) (a ∷ []) ++ others))
    → (left ≡ segs_parts (segs_of others)) × (new ≡ old ++ segs_parts (segs_of ((if is_asked span then a else sealed_after run a) ∷ [])))

-- it is put, or waits to be sealed with the next
abbrev put_or_kept : Bool → List Segment → Bool → Segment → List Bool → List Segment → List Segment
put_or_kept e run b a asked args = if e then (if b then a else sealed_after run a) ∷ sealed_from [] asked args else sealed_from (run ++ a ∷ []) asked args

last_one : (run : List Segment) (b : Bool) (a : Segment) (asked : List Bool) (args : List Segment) → ends_run b asked ≡ true
    → (if b then a else sealed_after run a) ∷ sealed_from [] asked args ≡ sealed_from run (b ∷ asked) (a ∷ args)
last_one run b a asked args last = sym (ap (λ (e : Bool). put_or_kept e run b a asked args) last)

none_spanned : (names : List (List ℕ)) (from start : ℕ) (stands : List (List ℕ)) (span : ArgumentSpan) (spans : List ArgumentSpan) → AreSpans names from start [] stands (span ∷ spans) → ⊥
none_spanned names from start [] span spans are = are
none_spanned names from start (l ∷ ls) span spans are = are

-- so long are the lines with those of one more
one_longer : (run : List Segment) (a : Segment) → length (argument_lines (run ++ a ∷ [])) ≡ length (argument_lines run) + length (argument_lines (a ∷ []))
one_longer run a = ap length (lines_append run (a ∷ [])) ∙ length-append (argument_lines run) (argument_lines (a ∷ []))

put_one : (names : List (List ℕ)) (written : List ℕ) (start : ℕ) (span : ArgumentSpan) (spans : List ArgumentSpan) (asked left old new all : List RowPart) → ends_run (is_asked span) (are_asked spans) ≡ true
    → AreToPut names written start (span ∷ spans) asked old all → PutsOne written start span asked left old new → AreToPut names written span.end spans left new all
put_one names written start span spans asked left old new all last h puts = by h.args h.stands h.are h.text h.asked_is h.all_is
  where
    by : (args : List Segment) (stands : List (List ℕ)) → AreSpans names h.from (start + length (argument_lines h.run)) args stands (span ∷ spans) → drop start written ≡ argument_lines (h.run ++ args) ++ h.after
        → asked ≡ segs_parts (segs_of (kept (are_asked (span ∷ spans)) args)) → old ++ segs_parts (segs_of (sealed_from h.run (are_asked (span ∷ spans)) args)) ≡ all → AreToPut names written span.end spans left new all
    by [] stands are text asked_is all_is = absurd (none_spanned names h.from (start + length (argument_lines h.run)) stands span spans are)
    by (a ∷ args) [] are text asked_is all_is = absurd are
    by (a ∷ args) (lines ∷ stands) are text asked_is all_is =
        let here : List ℕ = argument_lines (h.run ++ a ∷ []) in
        let whole : drop start written ≡ here ++ (argument_lines args ++ h.after) =
        text ∙ ap (λ t. t ++ h.after) (ap argument_lines (sym (append_assoc h.run (a ∷ []) args)) ∙ lines_append (h.run ++ a ∷ []) args) ∙ append_assoc here (argument_lines args) h.after in
        let one = puts names h.from h.run a lines (argument_lines args ++ h.after) (kept (are_asked spans) args) are.0 whole (asked_is ∙ ap (λ xs. segs_parts (segs_of xs)) (kept_more (is_asked span) (are_asked spans) a args)) in
        let ends : span.end ≡ start + length here = omega (arith, are.0.end_is, one_longer h.run a) in
        let none : span.end ≡ span.end + length (argument_lines []) = omega arith in
        record {
          from = span.to;
          run = [];
          args = args;
          stands = stands;
          after = h.after;
          are = subst (λ (n : ℕ). AreSpans names span.to n args stands spans) none are.1;
          text = ap (λ n. drop n written) ends ∙ sym (drop-drop (length here) start written) ∙ ap (drop (length here)) whole ∙ drop-append_seam here (argument_lines args ++ h.after);
          waits = nothing_waits (are_asked spans);
          asked_is = one.0;
          all_is = ap (λ t. t ++ segs_parts (segs_of (sealed_from [] (are_asked spans) args))) one.1 ∙ append_assoc old _ _
              ∙ ap (λ t. old ++ t) (sym (segs_join ((if is_asked span then a else sealed_after h.run a) ∷ []) (sealed_from [] (are_asked spans) args)))
              ∙ ap (λ xs. old ++ segs_parts (segs_of xs)) (last_one h.run (is_asked span) a (are_asked spans) args last) ∙ all_is;
        }

waits_on : (run : List Segment) (b : Bool) (a : Segment) (asked : List Bool) (args : List Segment) → ends_run b asked ≡ false
    → sealed_from (run ++ a ∷ []) asked args ≡ sealed_from run (b ∷ asked) (a ∷ args)
waits_on run b a asked args on = sym (ap (λ (e : Bool). put_or_kept e run b a asked args) on)

-- it waits to be sealed with the next
one_waits : (names : List (List ℕ)) (written : List ℕ) (start : ℕ) (span : ArgumentSpan) (spans : List ArgumentSpan) (asked put all : List RowPart) → ends_run (is_asked span) (are_asked spans) ≡ false
    → AreToPut names written start (span ∷ spans) asked put all → AreToPut names written start spans asked put all
one_waits names written start span spans asked put all on h = by h.args h.stands h.are h.text h.asked_is h.all_is
  where
    by : (args : List Segment) (stands : List (List ℕ)) → AreSpans names h.from (start + length (argument_lines h.run)) args stands (span ∷ spans) → drop start written ≡ argument_lines (h.run ++ args) ++ h.after
        → asked ≡ segs_parts (segs_of (kept (are_asked (span ∷ spans)) args)) → put ++ segs_parts (segs_of (sealed_from h.run (are_asked (span ∷ spans)) args)) ≡ all → AreToPut names written start spans asked put all
    by [] stands are text asked_is all_is = absurd (none_spanned names h.from (start + length (argument_lines h.run)) stands span spans are)
    by (a ∷ args) [] are text asked_is all_is = absurd are
    by (a ∷ args) (lines ∷ stands) are text asked_is all_is =
        let ends : span.end ≡ start + length (argument_lines (h.run ++ a ∷ [])) = omega (arith, are.0.end_is, one_longer h.run a) in
        record {
          from = span.to;
          run = h.run ++ a ∷ [];
          args = args;
          stands = stands;
          after = h.after;
          are = subst (λ (n : ℕ). AreSpans names span.to n args stands spans) ends are.1;
          text = text ∙ ap (λ xs. argument_lines xs ++ h.after) (sym (append_assoc h.run (a ∷ []) args));
          waits = more_wait h.run a are.0.inner (are_asked spans) h.waits.above are.0.lines (goes_on (is_asked span) (are_asked spans) on).1;
          asked_is = asked_is ∙ ap (λ b. segs_parts (segs_of (kept (b ∷ are_asked spans) (a ∷ args)))) (goes_on (is_asked span) (are_asked spans) on).0;
          all_is = ap (λ xs. put ++ segs_parts (segs_of xs)) (waits_on h.run (is_asked span) a (are_asked spans) args on) ∙ all_is;
        }

-- the same of slices
put_more : (names : List (List ℕ)) (written : List ℕ) (start : ℕ) (span : ArgumentSpan) (spans : List ArgumentSpan) (ps : List Part) (at next : ℕ) (old new all : List RowPart) → ends_run (is_asked span) (are_asked spans) ≡ true
    → AreToPut names written start (span ∷ spans) (map part_view (drop at ps)) old all
    → PutsOne written start span (map part_view (take (length ps - at) (drop at ps))) (map part_view (drop next (take (length ps - at) (drop at ps)))) old new
    → AreToPut names written span.end spans (map part_view (drop (at + next) ps)) new all
put_more names written start span spans ps at next old new all last h puts =
    let one : PutsOne written start span (map part_view (drop at ps)) (map part_view (drop next (drop at ps))) old new = subst (λ qs. PutsOne written start span (map part_view qs) (map part_view (drop next qs)) old new) (take_rest ps at) puts in
    subst (λ qs. AreToPut names written span.end spans (map part_view qs) new all) (drop-drop next at ps) (put_one names written start span spans _ _ old new all last h one)

-- the next spans, as a slice has them
next_spans : (spans : List ArgumentSpan) (d : ArgumentSpan) → 0 < length spans → spans ≡ get_or spans 0 d ∷ take (length spans - 1) (drop 1 spans)
next_spans spans d some = drop_more spans 0 d some ∙ ap (λ (ss : List ArgumentSpan). get_or spans 0 d ∷ ss) (sym (take_rest spans 1))

pub put_next : (names : List (List ℕ)) (written : List ℕ) (start : ℕ) (rest : List ArgumentSpan) (d : ArgumentSpan) (ps : List Part) (at next : ℕ) (old new all : List RowPart) → 0 < length rest
    → ends_run (is_asked (get_or rest 0 d)) (are_asked (take (length rest - 1) (drop 1 rest))) ≡ true
    → AreToPut names written start rest (map part_view (drop at ps)) old all
    → PutsOne written start (get_or rest 0 d) (map part_view (take (length ps - at) (drop at ps))) (map part_view (drop next (take (length ps - at) (drop at ps)))) old new
    → AreToPut names written (get_or rest 0 d).end (take (length rest - 1) (drop 1 rest)) (map part_view (drop (at + next) ps)) new all
put_next names written start rest d ps at next old new all some last h puts =
    put_more names written start (get_or rest 0 d) (take (length rest - 1) (drop 1 rest)) ps at next old new all last (subst (λ ss. AreToPut names written start ss (map part_view (drop at ps)) old all) (next_spans rest d some) h) puts

pub next_waits : (names : List (List ℕ)) (written : List ℕ) (start : ℕ) (rest : List ArgumentSpan) (d : ArgumentSpan) (asked put all : List RowPart) → 0 < length rest
    → ends_run (is_asked (get_or rest 0 d)) (are_asked (take (length rest - 1) (drop 1 rest))) ≡ false
    → AreToPut names written start rest asked put all → AreToPut names written start (take (length rest - 1) (drop 1 rest)) asked put all
next_waits names written start rest d asked put all some on h =
    one_waits names written start (get_or rest 0 d) (take (length rest - 1) (drop 1 rest)) asked put all on (subst (λ ss. AreToPut names written start ss asked put all) (next_spans rest d some) h)

-- where the lines of an argument begin, after those that are sealed with it
pub lines_before : (run : List Segment) (a : Segment) (start : ℕ) (after written : List ℕ) → drop start written ≡ argument_lines (run ++ a ∷ []) ++ after → drop start written ≡ argument_lines run ++ (argument_lines (a ∷ []) ++ after)
lines_before run a start after written is = is ∙ ap (λ t. t ++ after) (lines_append run (a ∷ [])) ∙ append_assoc (argument_lines run) (argument_lines (a ∷ [])) after

pub lines_here : (run : List Segment) (a : Segment) (start : ℕ) (after written : List ℕ) → drop start written ≡ argument_lines (run ++ a ∷ []) ++ after → drop (start + length (argument_lines run)) written ≡ argument_lines (a ∷ []) ++ after
lines_here run a start after written is =
    sym (drop-drop (length (argument_lines run)) start written) ∙ ap (drop (length (argument_lines run))) (lines_before run a start after written is) ∙ drop-append_seam (argument_lines run) (argument_lines (a ∷ []) ++ after)

-- one that is not
pub sealed_one : (b : Bool) (run : List Segment) (a : Segment) (others : List Segment) (asked old new : List RowPart) → b ≡ false → asked ≡ segs_parts (segs_of (kept (b ∷ []) (a ∷ []) ++ others)) → new ≡ old ++ segs_parts (segs_of (sealed_after run a ∷ []))
    → (asked ≡ segs_parts (segs_of others)) × (new ≡ old ++ segs_parts (segs_of ((if b then a else sealed_after run a) ∷ [])))
sealed_one true run a others asked old new unasked seen puts = absurd (false≢true (sym unasked))
sealed_one false run a others asked old new unasked seen puts = (seen, puts)
