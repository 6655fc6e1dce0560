use Rattle.std.proofs.Common.{◌∙◌, ◌≤◌, length, sym, ap, arith}
use Rattle.std.proofs.lemmas.Result.{err_from_is_err_and}
use Rattle.bz_devices.proofs.Searches.{searches_nothing, searches_one, searches_in_vain, searches_too_long, searches_then, searches_found, searches_failed}
use Rattle.bz_devices.proofs.ReadOn.{grows}
use Rattle.bz_devices.proofs.ChunkAhead.{too_long_line, line_undecided, begun_read, few_read}
use Rattle.bz_devices.proofs.LineAhead.{passed_none, line_found, open_there, line_last, passed_all}
use Rattle.bz_devices.proofs.ahead.read_line.Goals as goal

pub loop-n-init : goal.loop-n-init
loop-n-init g c = record {
  searched = searches_nothing _ _ _ _ _ _ (g.met.S.Source.gave_nothing _) c.requires.made c.requires.few c.requires.bound;
  begun = c.requires.begun;
  after = omega arith;
  within = c.requires.within;
  passed = passed_none c.args.ahead.now.bytes c.args.from;
}

pub returns-in-Some-clause-searches : goal.returns-in-Some-clause-searches
returns-in-Some-clause-searches g c = searches_found _ _ _ _ _ _ _ _ _ c.loop-n.invariant.searched

pub returns-then-is_ended-clause-searches : goal.returns-then-is_ended-clause-searches
returns-then-is_ended-clause-searches g c = searches_found _ _ _ _ _ _ _ _ _ c.loop-n.invariant.searched

pub returns-in-Some-clause-line : goal.returns-in-Some-clause-line
returns-in-Some-clause-line g c =
    let inv = c.loop-n.invariant in
    line_found c.loop-n.ahead c.bytes.result.now c.args.from c.loop-n.searched c.in-Some.n c.bytes.ensures inv.after
    (omega (arith, inv.within, ap length c.bytes.ensures)) inv.passed c.in-Some.ensures.within.1 c.in-Some.ensures.line

pub returns-then-is_ended-clause-line : goal.returns-then-is_ended-clause-line
returns-then-is_ended-clause-line g c =
    let inv = c.loop-n.invariant in
    let here = open_there c.loop-n.ahead c.bytes.result.now c.args.from c.loop-n.searched c.bytes.ensures inv.after inv.passed c.in_default.ensures.none in
    line_last c.loop-n.ahead c.bytes-searched.result.now c.args.from c.bytes-searched.ensures (omega (arith, inv.after, inv.within, ap length c.bytes-searched.ensures))
    (sym c.is_ended.ensures ∙ c.if-is_ended.true) here

pub returns-then-searched-limits-clause-searches : goal.returns-then-searched-limits-clause-searches
returns-then-searched-limits-clause-searches g c =
    let inv = c.loop-n.invariant in
    let ahead = c.loop-n.ahead in
    searches_then _ _ _ _ _ _ _ _ _ _ _ g.met.S.Source.gave_more inv.searched
    (searches_too_long _ _ _ _ _ (g.met.S.Source.gave_nothing _) inv.searched.read.within inv.searched.bound
    (too_long_line c.args.limits.statement c.args.from ahead (omega (arith, ap length c.bytes-searched.ensures, c.if-searched-limits.true)) (omega (arith, inv.after, inv.within)) inv.begun
    (open_there ahead c.bytes.result.now c.args.from c.loop-n.searched c.bytes.ensures inv.after inv.passed c.in_default.ensures.none)))

pub loop-n-preserved : goal.loop-n-preserved
loop-n-preserved g c =
    let inv = c.loop-n.invariant in
    let max = c.args.limits.reads in
    let old = c.loop-n.ahead in
    let new = c.read.new.self in
    let seen = c.bytes-searched.result.now in
    let same = c.bytes-searched.ensures in
    let done = c.in_ok-read.ensures in
    let read = done.read in
    let here = open_there old c.bytes.result.now c.args.from c.loop-n.searched c.bytes.ensures inv.after inv.passed c.in_default.ensures.none in
    let within : c.args.from ≤ length seen = omega (arith, inv.after, inv.within, ap length same) in
    let fits : c.args.from ≤ length old.bytes = omega (arith, inv.after, inv.within) in
    let undecided = line_undecided c.args.limits.statement c.args.from old (sym c.is_ended.ensures ∙ c.if-is_ended.false) fits inv.begun here
    (omega (arith, ap length same, c.if-searched-limits.false)) in
    record {
      searched = searches_then _ _ _ _ _ _ _ _ _ _ _ g.met.S.Source.gave_more inv.searched
          (searches_one _ _ _ _ _ _ old new read.0 read.1 read.2 done.one undecided
          (few_read max c.args.from old new read.0 read.2 (omega (arith, read.3)) fits inv.begun here)
          (omega (arith, grows max old new read.0 read.2, read.3, ap length same, c.if-searched-limits.false))
          (done.steady (λ e. cc)));
      begun = begun_read max old new read.0 c.args.from read.2 fits inv.begun;
      after = within;
      within = omega (arith, grows max old new read.0 read.2, ap length same);
      passed = passed_all max old new seen read.0 c.args.from same read.2 within here;
    }

pub returns-in_err-read-clause-searches : goal.returns-in_err-read-clause-searches
returns-in_err-read-clause-searches g c =
    let inv = c.loop-n.invariant in
    let old = c.loop-n.ahead in
    let done = c.in_err-read.ensures in
    let here = open_there old c.bytes.result.now c.args.from c.loop-n.searched c.bytes.ensures inv.after inv.passed c.in_default.ensures.none in
    let going = sym c.is_ended.ensures ∙ c.if-is_ended.false in
    let undecided = line_undecided c.args.limits.statement c.args.from old going (omega (arith, inv.after, inv.within)) inv.begun here
    (omega (arith, ap length c.bytes-searched.ensures, c.if-searched-limits.false)) in
    let p = err_from_is_err_and c.from_residual.result c.from_residual.ensures.1 in
    searches_then _ _ _ _ _ _ _ _ _ _ _ g.met.S.Source.gave_more inv.searched
    (searches_failed _ _ _ {A = Unit {0}} _ p.0 c.in_err-read.field-0.0 _ _ _ _ p.1 p.2
    (searches_in_vain _ _ _ c.in_err-read.field-0.0 _ _ old c.read.new.self done.read.0 done.read.1 done.read.2 done.err going undecided inv.searched.bound
    done.fitting done.too_long done.failed done.steady))
