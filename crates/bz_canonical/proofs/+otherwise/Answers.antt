use Rattle.std.proofs.Common.{◌≡◌, ◌+◌, ◌-◌, ◌++◌, ◌∷◌, [], ◌∙◌, ◌||◌, ℕ, List, true, false, ap, append_assoc, append-nil, arith, refl, subst, sym}
use Rattle.std.specs.Prelude.{codes, not}
use Rattle.bz_tree.specs.declared.tree.GroupKind.TheVariants.{Call}
use Rattle.bz_layout.specs.Walked.{opening}
use Rattle.bz_canonical.specs.private.Otherwise.{AreSegmentsWritten, ChainsWritten, ContinuesWritten, IsGroupWritten, IsPrimaryWritten, IsSegmentWritten, back_written, deeper, form_of, front_written, note_ended, notes_begun}
use Rattle.bz_canonical.proofs.ElementLists.{put_three, put_two}
use Rattle.bz_canonical.proofs.OtherwiseForms.{all_written, got, none_in_place, passed}
use Rattle.bz_canonical.proofs.OtherwiseSegments.{begin_written, element_written, entry_written, keyword_written, positional_written}
use Rattle.bz_canonical.proofs.OtherwiseValues.{begin_chain_written, call_written, dict_written, finish_chain_written, list_written, member_written, more_chain_written, primary_term, term_written}
use Rattle.bz_canonical.proofs.+otherwise.Goals as goal

pub otherwise::put_operands-loop-init : goal.otherwise::put_operands-loop-init
otherwise::put_operands-loop-init m c =
    let at = c.args.at in
    let first = c.args.first in (
      [],
      sym (append-nil _),
      λ all v t. subst (λ x. ChainsWritten at.stands at.out at.depth all first.rest.now x first.holds) (sym (append-nil v)) (begin_chain_written at.stands at.out at.depth all first.rest.now v first.holds t),
    )

pub otherwise::put_operands-returns-in_default : goal.otherwise::put_operands-returns-in_default
otherwise::put_operands-returns-in_default m c =
    let at = c.args.at in
    let i = c.loop.invariant in
    (i.0, i.1, λ all v t. finish_chain_written at.stands at.out at.depth all c.loop.rest.now (v ++ i.0) c.loop.holds (i.2 all v t))

pub otherwise::put_operands-loop-preserved : goal.otherwise::put_operands-loop-preserved
otherwise::put_operands-loop-preserved m c =
    let at = c.args.at in
    let i = c.loop.invariant in
    let f = c.in-Some.ensures in
    let next = c.in-Some-2.next in
    let t = got _ c.in-Some-2.is c.in_ok-next.ensures in
    let w = 32 ∷ f.operator ∷ 32 ∷ t.0 in (
      i.0 ++ w,
      put_three _ _ _ _ i.0 (32 ∷ f.operator ∷ 32 ∷ []) t.0 i.1 (c.in_ok-put_to.ensures (32 ∷ f.operator ∷ 32 ∷ []) f.front) t.1,
      λ all v s. subst (λ h. ChainsWritten at.stands at.out at.depth all next.rest.now (v ++ (i.0 ++ w)) h) (sym c.either-holds.ensures)
          (subst (λ x. ChainsWritten at.stands at.out at.depth all next.rest.now x (c.loop.holds || next.holds)) (append_assoc v i.0 w)
          (more_chain_written at.stands at.out at.depth all c.loop.rest.now c.in-Some.operand.now next.rest.now (v ++ i.0) t.0 c.loop.holds next.holds (i.2 all v s) f t.2)),
    )

pub otherwise::put_name_or_call-returns : goal.otherwise::put_name_or_call-returns
otherwise::put_name_or_call-returns m c =
    let at = c.args.at in
    let text : List ℕ = c.args.text.now in
    let word = c.in-Some.ensures.written in
    let read = c.in-Some-2.field-0 in
    let more = got _ c.in-Some-2.is c.in_ok-rest.ensures in (
      word.0 ++ more.0,
      put_two _ _ _ word.0 more.0 (c.in_ok-put_to.ensures word.0 word.1) more.1,
      primary_term at.stands at.out at.depth text read.rest.now (word.0 ++ more.0) read.holds (more.2 text word.0 (word.2 at.stands at.out at.depth)),
    )

pub otherwise::put_suffixes-loop-preserved : goal.otherwise::put_suffixes-loop-preserved
otherwise::put_suffixes-loop-preserved m c =
    let at = c.args.at in
    let i = c.loop.invariant in
    let call = c.in-Some-2.call in
    let g = got _ c.in-Some-2.is c.in_ok-call.ensures in (
      i.0 ++ g.0,
      put_two _ _ _ i.0 g.0 i.1 g.1,
      λ all v p. subst (λ h. IsPrimaryWritten at.stands at.out at.depth all call.rest.now (v ++ (i.0 ++ g.0)) h) (sym c.either-holds.ensures)
          (subst (λ x. IsPrimaryWritten at.stands at.out at.depth all call.rest.now x (c.loop.holds || call.holds)) (append_assoc v i.0 g.0)
          (call_written at.stands at.out at.depth all c.loop.rest.now call.rest.now (v ++ i.0) g.0 c.loop.holds call.holds (i.2 all v p) g.2)),
    )

pub otherwise::put_suffixes-loop-preserved-in-46 : goal.otherwise::put_suffixes-loop-preserved-in-46
otherwise::put_suffixes-loop-preserved-in-46 m c =
    let at = c.args.at in
    let i = c.loop.invariant in
    let end = c.in-Some.end.now in
    let member = c.in-Some.ensures in
    let w = 46 ∷ member.2.token in (
      i.0 ++ w,
      put_two _ _ _ i.0 w i.1 (c.in_ok-put_to.ensures w (member.1 ∙ ap (λ (t : List ℕ). 46 ∷ t) member.2.front)),
      λ all v p. subst (λ x. IsPrimaryWritten at.stands at.out at.depth all end x c.loop.holds) (append_assoc v i.0 w)
          (member_written at.stands at.out at.depth all c.loop.rest.now member.0 end (v ++ i.0) c.loop.holds (i.2 all v p) member.1 member.2),
    )

pub otherwise::put_term-returns-in-Some : goal.otherwise::put_term-returns-in-Some
otherwise::put_term-returns-in-Some m c =
    let at = c.args.at in
    let text : List ℕ = c.args.text.now in
    let read = c.in-Some.field-0 in
    let g = got _ c.in-Some.is c.in_ok-rest-in-91.ensures in
    (g.0, g.1, term_written at.stands at.out at.depth text read.rest.now g.0 read.holds (list_written at.stands at.out at.depth text read.rest.now g.0 read.holds g.2))

pub otherwise::put_term-returns-in-Some-2 : goal.otherwise::put_term-returns-in-Some-2
otherwise::put_term-returns-in-Some-2 m c =
    let at = c.args.at in
    let text : List ℕ = c.args.text.now in
    let read = c.in-Some-2.field-0 in
    let g = got _ c.in-Some-2.is c.in_ok-rest-in-123.ensures in
    (g.0, g.1, term_written at.stands at.out at.depth text read.rest.now g.0 read.holds (dict_written at.stands at.out at.depth text read.rest.now g.0 read.holds g.2))

pub otherwise_segments::put_argument-returns-in_default : goal.otherwise_segments::put_argument-returns-in_default
otherwise_segments::put_argument-returns-in_default m c =
    let at = c.args.at in
    let read = c.in-Some-2.field-0 in
    let n = got _ c.in-Some-2.is c.in_ok-rest.ensures in
    (n.0, n.1, positional_written Call refl at.stands at.out at.depth c.args.text.now read.rest.now n.0 read.holds n.2)

pub otherwise_segments::put_argument-returns : goal.otherwise_segments::put_argument-returns
otherwise_segments::put_argument-returns m c =
    let at = c.args.at in
    let value : List ℕ = c.in-Some.value.now in
    let read = c.in-Some-3.field-0 in
    let f = c.in-Some.ensures in
    let n = got _ c.in-Some-3.is c.in_ok-rest-2.ensures in (
      f.token ++ (codes " = " ++ n.0),
      put_two _ _ _ (f.token ++ codes " = ") n.0 (c.in_ok-put_to.ensures (f.token ++ codes " = ") (f.front ∙ sym (append_assoc f.token (codes " = ") value))) n.1
          ∙ ap (λ (t : List ℕ). c.args.written.now.items ++ t) (append_assoc f.token (codes " = ") n.0),
      keyword_written Call refl at.stands at.out at.depth c.args.text.now (codes " = " ++ value) value read.rest.now n.0 read.holds f refl n.2,
    )

pub otherwise_segments::put_entry-returns : goal.otherwise_segments::put_entry-returns
otherwise_segments::put_entry-returns m c =
    let at = c.args.at in
    let value : List ℕ = c.in-Some-after_word.value.now in
    let read = c.in-Some-2.field-0 in
    let key = c.in-Some.ensures.written in
    let colon = c.in-Some-after_word.ensures in
    let n = got _ c.in-Some-2.is c.in_ok-rest.ensures in (
      key.0 ++ (codes ": " ++ n.0),
      put_two _ _ _ (key.0 ++ codes ": ") n.0 (c.in_ok-put_to.ensures (key.0 ++ codes ": ") (key.1 ∙ ap (λ (t : List ℕ). key.0 ++ t) colon ∙ sym (append_assoc key.0 (codes ": ") value))) n.1
          ∙ ap (λ (t : List ℕ). c.args.written.now.items ++ t) (append_assoc key.0 (codes ": ") n.0),
      entry_written at.stands at.out at.depth c.args.text.now c.in-Some.colon.now value read.rest.now key.0 n.0 read.holds (key.2 at.stands at.out at.depth) colon n.2,
    )

pub otherwise_segments::put_framed-returns : goal.otherwise_segments::put_framed-returns
otherwise_segments::put_framed-returns m c =
    let form = c.args.form in
    let at = c.args.at in
    let front = c.args.front in
    let begun = c.requires.begun in
    let before = c.in_ok-put_front.ensures c.if-not-branch.false in
    let read = c.in-Some.read in
    let s = got _ c.in-Some.is c.in_ok-read.ensures in
    let end = c.in-Some-segment_end.end in
    let ended = c.in-Some-segment_end.ensures in
    let after = c.in_ok-put_back.ensures c.if-not-branch-2.false in
    let F = front_written form.broken front.one at.out (notes_begun form.lines at.stands front begun) in
    let B = back_written form.broken (note_ended form.lines read.rest.now end.rest.now end.some ended) in (
      λ flat. c.either.ensures ∙ none_in_place form.lines at.stands front read.rest.now end.rest.now end.some begun ended flat,
      (
        F ++ (s.0 ++ B),
        put_three _ _ _ _ F s.0 B (before.1 begun) s.1 (after.1 ended),
        passed form.kind form.lines form.broken at.stands at.out at.depth front read.rest.now end.rest.now s.0 read.holds end.some c.either.result begun ended before.0 after.0 c.either.ensures s.2,
      ),
    )

pub otherwise_groups::put_group-returns : goal.otherwise_groups::put_group-returns
otherwise_groups::put_group-returns m c =
    let kind = c.args.kind in
    let at = c.args.at in
    let inside : List ℕ = c.in-Some.inside.now in
    let lines = c.is_on_lines.result in
    let broken = c.is_broken_by_guess.result in
    let within = c.levels_inside.result in
    let are = c.levels_inside.ensures in
    let read = c.in-Some-2.read in
    let s = (got _ c.in-Some-2.is c.in_ok-read.ensures).1 in
    let end = c.in-Some-3.field-0 in
    let e = got _ c.in-Some-3.is c.in_ok-rest.ensures in
    let below : within.depth ≡ at.depth - 1 = omega (arith, are.depth) in
    let segments = subst (λ d. AreSegmentsWritten kind (form_of lines broken) true (deeper lines at.stands) (deeper broken at.out) d inside read.rest.now s.0 read.count read.holds read.noted) below
    (subst (λ o. AreSegmentsWritten kind (form_of lines broken) true (deeper lines at.stands) o within.depth inside read.rest.now s.0 read.count read.holds read.noted) are.out
    (subst (λ l. AreSegmentsWritten kind (form_of lines broken) true l within.out within.depth inside read.rest.now s.0 read.count read.holds read.noted) are.stands s.2)) in
    let w = opening kind ++ (s.0 ++ e.0) in (
      w,
      put_three _ _ _ _ (opening kind) s.0 e.0 (c.in_ok-push.ensures.items ∙ ap (λ (t : List ℕ). c.args.written.now.items ++ t) (sym c.brackets-2.ensures.0)) s.1 e.1,
      subst (λ (t : List ℕ). IsGroupWritten kind at.stands at.out at.depth t end.rest.now w end.holds) (ap (λ (t : List ℕ). t ++ inside) c.brackets.ensures.0 ∙ sym c.in-Some.ensures) (e.2 inside s.0 segments),
    )

pub otherwise_segments::put_segment-returns-in-Some : goal.otherwise_segments::put_segment-returns-in-Some
otherwise_segments::put_segment-returns-in-Some m c =
    let at = c.args.at in
    let text : List ℕ = c.args.text.now in
    let read = c.in-Some.field-0 in
    let n = got _ c.in-Some.is c.in_ok-rest-in-List.ensures in (
      n.0,
      n.1,
      subst (λ k. IsSegmentWritten k at.stands at.out at.depth text read.rest.now n.0 read.holds) (sym c.in-List.is) (element_written at.stands at.out at.depth text read.rest.now n.0 read.holds n.2),
    )

pub otherwise_groups::put_segments-loop-count-init : goal.otherwise_groups::put_segments-loop-count-init
otherwise_groups::put_segments-loop-count-init m c =
    let form = c.args.form in
    (λ flat. refl, ([], sym (append-nil _), begin_written form.kind (form_of form.lines form.broken) true c.args.at.stands c.args.at.out c.args.at.depth c.args.inside.now))

pub otherwise_groups::put_segments-returns-in_default : goal.otherwise_groups::put_segments-returns-in_default
otherwise_groups::put_segments-returns-in_default m c =
    let form = c.args.form in
    let at = c.args.at in
    let l = c.loop-count in
    let i = l.invariant in
    (i.0, (i.1.0, i.1.1, all_written form.kind form.lines form.broken (not l.one) at.stands at.out at.depth c.args.inside.now l.rest.now i.1.0 l.count l.holds l.noted i.1.2))

pub otherwise_groups::put_segments-loop-count-preserved : goal.otherwise_groups::put_segments-loop-count-preserved
otherwise_groups::put_segments-loop-count-preserved m c =
    let form = c.args.form in
    let kind = form.kind in
    let ways = form_of form.lines form.broken in
    let at = c.args.at in
    let inside : List ℕ = c.args.inside.now in
    let l = c.loop-count in
    let i = l.invariant.1 in
    let f = c.in-Some.ensures in
    let front = c.in-Some.front in
    let next = c.in-Some-2.next in
    let both = got _ c.in-Some-2.is c.in_ok-next.ensures in
    let n = both.1 in
    let so = subst (λ (r : List ℕ). ContinuesWritten kind ways true (not front.one) at.stands at.out at.depth inside r i.0 l.count l.holds l.noted) (sym f.0)
    (subst (λ o. ContinuesWritten kind ways true (not o) at.stands at.out at.depth inside l.rest.now i.0 l.count l.holds l.noted) (sym f.1) i.2) in (
      λ flat. c.either-noted.ensures ∙ (λ j. l.invariant.0 flat j || both.0 flat j),
      (
        i.0 ++ n.0,
        put_two _ _ _ i.0 n.0 i.1 n.1,
        subst (λ b. ContinuesWritten kind ways true false at.stands at.out at.depth inside next.rest.now (i.0 ++ n.0) (l.count + 1) b c.either-noted.result) (sym c.either-holds.ensures)
            (subst (λ b. ContinuesWritten kind ways true false at.stands at.out at.depth inside next.rest.now (i.0 ++ n.0) (l.count + 1) (l.holds || next.holds) b) (sym c.either-noted.ensures)
            (n.2 true inside i.0 l.count l.holds l.noted so)),
      ),
    )
