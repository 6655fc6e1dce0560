use Rattle.std.proofs.Common.{◌++◌, ℕ, List, [], true, append-nil, append_assoc, sym, subst, bytes_eq}
use Rattle.std.specs.Prelude.{IfSome}
use Rattle.bz_canonical.specs.declared.spans.ArgumentSpan.{ArgumentSpan}
use Rattle.bz_canonical.specs.private.Noted.{AreNoted}
use Rattle.bz_canonical.specs.private.Arguments.{ReadsUpTo}
use Rattle.bz_canonical.proofs.Pendings.{pend_same}
use Rattle.bz_canonical.proofs.NotedSpans.{none_noted, noted_more}
use Rattle.bz_canonical.proofs.spans.note_arguments.Goals as goal

pub loop-init : goal.loop-init
loop-init c = (
  c.in-Some.ensures.stands,
  c.in-Some.ensures.written,
  λ text begun p. (
    [],
    pend_same text c.args.written.now.items begun c.args.from.from.now c.args.from.rest.now (begun ++ []) p (sym (append-nil begun)),
    none_noted c.args.notes c.args.from.rest.now begun c.args.spans.now.items,
  ),
)

pub loop-preserved : goal.loop-preserved
loop-preserved c = (
  c.in-Some-place_of.ensures.stands,
  c.in-Some-place_of.ensures.written,
  λ text begun p.
      let at = c.loop.at in
      let name : List ℕ = c.in-Some-read_argument_name.head.name.now in
      let value = c.in-Some-2.value in
      let buffer = c.note_value.new.written.items in
      let got = c.loop.invariant.2 text begun p in
      let puts = subst (λ o. IfSome o (λ read. ReadsUpTo c.args.notes.depth at c.in-Some-read_argument_name.head.value.now c.loop.written.items buffer read.at read.comma.now)) c.in-Some-2.is c.in_ok-value.ensures in
      let one = puts name (bytes_eq name name) (c.in-Some-read_argument_name.ensures name).0 text (begun ++ got.0) got.1 in (
        got.0 ++ one.0,
        pend_same text buffer ((begun ++ got.0) ++ one.0) value.at.from.now value.at.rest.now (begun ++ (got.0 ++ one.0)) one.1 (append_assoc begun got.0 one.0),
        subst (λ (spans : List ArgumentSpan). AreNoted c.args.notes c.args.from.rest.now value.at.rest.now begun (got.0 ++ one.0) c.args.spans.now.items spans true) (sym c.in_ok-push.ensures.items)
            (noted_more c.args.notes c.args.from.rest.now at.rest.now value.comma.now value.at.rest.now begun got.0 one.0 name c.args.spans.now.items c.loop.spans.items c.loop.one c.index_of-named.result
            c.loop.place c.in-Some-place_of.next c.in-Some-span_of.span got.2 one.2.0 one.2.1 c.index_of-named.ensures c.loop.invariant.0 (c.loop.invariant.1 text (begun ++ got.0) got.1)
            c.in-Some-place_of.ensures.stands (c.in-Some-place_of.ensures.written text ((begun ++ got.0) ++ one.0) one.1) c.in-Some-span_of.ensures),
      ),
)
