use Rattle.std.proofs.Common.{◌≤◌, length, sym, ◌∙◌, ap, arith, true, false}
use Rattle.std.proofs.lemmas.Result.{err_from_is_err_and}
use Rattle.bz_devices.proofs.Searches.{searches_nothing, searches_one, searches_in_vain, searches_failed}
use Rattle.bz_devices.proofs.ReadOn.{grows}
use Rattle.bz_devices.proofs.ChunkAhead.{line_undecided, few_read}
use Rattle.bz_devices.proofs.ahead.read_where_open.Goals as goal

pub returns-in_default-clause-searches : goal.returns-in_default-clause-searches
returns-in_default-clause-searches g c = searches_nothing _ _ _ false _ _ (g.met.S.Source.gave_nothing _) c.requires.made c.requires.few c.requires.bound

pub returns-then-is_ended-clause-searches : goal.returns-then-is_ended-clause-searches
returns-then-is_ended-clause-searches g c = searches_nothing _ _ _ false _ _ (g.met.S.Source.gave_nothing _) c.requires.made c.requires.few c.requires.bound

pub returns-in_err-read-clause-searches : goal.returns-in_err-read-clause-searches
returns-in_err-read-clause-searches g c =
    let old = c.args.ahead.now in
    let done = c.in_err-read.ensures in
    let line = c.in-Some.ensures in
    let going = sym c.is_ended.ensures ∙ c.if-is_ended.false in
    let undecided = line_undecided c.args.limits.statement c.in-Some._line old going line.within line.begun line.open
    (omega (arith, ap length c.bytes.ensures, c.if-bytes-limits.false)) in
    let p = err_from_is_err_and c.from_residual.result c.from_residual.ensures.1 in
    searches_failed _ _ _ {A = Unit {0}} _ p.0 c.in_err-read.field-0.0 _ _ _ _ p.1 p.2
    (searches_in_vain _ _ _ c.in_err-read.field-0.0 _ _ old c.read.new.self done.read.0 done.read.1 done.read.2 done.err going undecided c.requires.bound
    done.fitting done.too_long done.failed done.steady)

pub returns-clause-searches : goal.returns-clause-searches
returns-clause-searches g c =
    let max = c.args.limits.reads in
    let old = c.args.ahead.now in
    let new = c.read.new.self in
    let done = c.in_ok-read.ensures in
    let line = c.in-Some.ensures in
    let read = done.read in
    let fits : length old.bytes ≤ c.args.limits.statement = omega (arith, ap length c.bytes.ensures, c.if-bytes-limits.false) in
    let undecided = line_undecided c.args.limits.statement c.in-Some._line old (sym c.is_ended.ensures ∙ c.if-is_ended.false) line.within line.begun line.open fits in
    searches_one _ _ _ true _ _ old new read.0 read.1 read.2 done.one undecided
    (few_read max c.in-Some._line old new read.0 read.2 read.3 line.within line.begun line.open)
    (omega (arith, grows max old new read.0 read.2, read.3, fits)) (done.steady (λ e. cc))
