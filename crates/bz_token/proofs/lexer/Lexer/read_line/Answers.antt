use Rattle.std.proofs.Common.{rules, tests, arith, ◌≤◌, length, sym, [], Some, None, inr}
use Rattle.bz_token.specs.declared.token.Kind.TheVariants.{Operator}
use Rattle.bz_token.specs.private.Progress.{ReadsOn}
use Rattle.bz_token.specs.private.LinesRead.{StaysInLine, IsFaultFrom}
use Rattle.bz_token.proofs.Progress.{passed_on}
use Rattle.bz_token.proofs.LinesRead.{stays, line_read}
use Rattle.bz_token.proofs.lexer.Lexer.read_line.Goals.{then-is_comma_here+in_ok-cursor+else-is_full-2, else-is_comma_here}
use Rattle.bz_token.proofs.lexer.Lexer.read_line.Goals as goal

pub step-requires-clause-places : goal.step-requires-clause-places
step-requires-clause-places c =
    let p = c.requires.places in
    (p.0, p.1, p.2, c.loop-self.invariant.read p.0 p.1 p.2 p.3, p.4)

pub returns-in_err-next-clause-fault : goal.returns-in_err-next-clause-fault
returns-in_err-next-clause-fault c =
    passed_on c.from_residual.result c.in_err-next.field-0.0 (IsFaultFrom c.args.max_depth c.args.self.now c.args.cursor) c.from_residual.ensures.1
    (λ first bytes given before. c.in_err-next.ensures.fault first bytes given (c.loop-self.invariant.read first bytes given before))

pub returns-then-eq-clause-read : goal.returns-then-eq-clause-read
returns-then-eq-clause-read c first bytes given before = (c.in_ok-next.ensures.read first bytes given (c.loop-self.invariant.read first bytes given before)).0

pub returns-then-eq-clause-line : goal.returns-then-eq-clause-line
returns-then-eq-clause-line c told first bytes start before =
    let i = c.loop-self.invariant.line first bytes start before in
    let r = c.in_ok-next.ensures.read first bytes [] i.read in
    line_read first c.args.max_depth bytes c.loop-self.self c.step.new.self c.loop-self.cursor c.in_ok-next.next start c.in_ok-next.kind i r.0 r.1 (search (rules, tests))

pub returns-then-is_full-clause-read : goal.returns-then-is_full-clause-read
returns-then-is_full-clause-read c first bytes given before = (c.in_ok-next.ensures.read first bytes given (c.loop-self.invariant.read first bytes given before)).0

pub add_comma-requires-clause-read : goal.add_comma-requires-clause-read
add_comma-requires-clause-read c =
    let p = c.requires.places in
    (p.0, c.args.max_depth, p.1, p.2, (c.in_ok-next.ensures.read p.0 p.1 p.2 (c.loop-self.invariant.read p.0 p.1 p.2 p.3)).0, p.4)

pub returns-then-is_full-2-clause-read : goal.returns-then-is_full-2-clause-read
returns-then-is_full-2-clause-read c first bytes given before =
    let next = c.in_ok-next.ensures.read first bytes given (c.loop-self.invariant.read first bytes given before) in
    (c.in_ok-cursor.ensures.read first c.args.max_depth bytes given next.0).0

pub pass_white-cursor-requires : goal.pass_white-cursor-requires
pass_white-cursor-requires c =
    let p = c.requires.places in
    let depth = c.args.max_depth in
    let next = c.in_ok-next.ensures.read p.0 p.1 p.2 (c.loop-self.invariant.read p.0 p.1 p.2 p.3) in
    elim c.if-is_comma_here.branch [
      | then-is_comma_here+in_ok-cursor+else-is_full-2 w ↦ rw (w.self-is, w.cursor-is) (p.0, depth, p.1, p.2, (w.in_ok-cursor.ensures.read p.0 depth p.1 p.2 next.0).0, p.4)
      | else-is_comma_here w ↦ rw (w.self-is, w.cursor-is) (p.0, depth, p.1, p.2, next.0, p.4)
    ]

pub loop-self-preserved : goal.loop-self-preserved
loop-self-preserved c =
    let i = c.loop-self.invariant in
    let step = c.in_ok-next.ensures in
    let white = c.pass_white-cursor.ensures in
    let depth = c.args.max_depth in
    let joined = c.if-is_comma_here in
    let read : ReadsOn depth c.args.self.now c.args.cursor joined.self joined.cursor = λ first bytes given before.
    let next = step.read first bytes given (i.read first bytes given before) in
    elim c.if-is_comma_here.branch [
      | then-is_comma_here+in_ok-cursor+else-is_full-2 w ↦ rw (w.self-is, w.cursor-is) (w.in_ok-cursor.ensures.read first depth bytes given next.0).0
      | else-is_comma_here w ↦ rw (w.self-is, w.cursor-is) next.0
    ] in
    let line : StaysInLine depth c.args.self.now c.args.cursor joined.self joined.cursor = λ first bytes start before.
    let here = i.line first bytes start before in
    let r = step.read first bytes [] here.read in
    let next = stays first depth bytes c.loop-self.self c.step.new.self c.loop-self.cursor c.in_ok-next.next start c.in_ok-next.kind here r.0 r.1 (λ e. search (rules, tests)) in
    elim c.if-is_comma_here.branch [
      | then-is_comma_here+in_ok-cursor+else-is_full-2 w ↦
          let comma = w.in_ok-cursor.ensures.read first depth bytes [] next.read in
          rw (w.self-is, w.cursor-is) (stays first depth bytes c.step.new.self w.add_comma.new.self c.in_ok-next.next w.in_ok-cursor.cursor start (Some Operator) next comma.0 comma.1 (λ e. search (rules, tests)))
      | else-is_comma_here w ↦ rw (w.self-is, w.cursor-is) next
    ] in
    let shorter : length joined.cursor.rest.now ≤ length c.in_ok-next.next.rest.now = elim c.if-is_comma_here.branch [
      | then-is_comma_here+in_ok-cursor+else-is_full-2 w ↦ rw w.cursor-is (omega (arith, w.in_ok-cursor.ensures.shorter))
      | else-is_comma_here w ↦ rw w.cursor-is (omega arith)
    ] in
    record {
      read = λ first bytes given before. (white.read first depth bytes given (read first bytes given before)).0;
      line = λ first bytes start before.
          let next = line first bytes start before in
          let w = white.read first depth bytes [] next.read in
          stays first depth bytes joined.self joined.self joined.cursor c.pass_white-cursor.result start None next w.0 w.1 (λ e. search (rules, tests));
      few = elim c.if-is_comma_here.branch [
        | then-is_comma_here+in_ok-cursor+else-is_full-2 w ↦ rw w.self-is (inr (search (rules, tests)))
        | else-is_comma_here w ↦ rw w.self-is (inr (search (rules, tests)))
      ];
      shorter = omega (arith, i.shorter, step.shorter, shorter, white.not_longer);
    }
