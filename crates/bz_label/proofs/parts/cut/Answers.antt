use Rattle.std.proofs.Common.{rules, ◌≡◌, ◌==◌, ◌<◌, None, length}
use Rattle.std.specs.List.{position_or_len, before_first, after_first}
use Rattle.std.proofs.lemmas.List.Splits.{slice_split_first}
use Rattle.bz_label.proofs.Cuts.{uncut}
use Rattle.bz_label.proofs.parts.cut.Goals as goal

pub returns-in_err-part-clause-parts : goal.returns-in_err-part-clause-parts
returns-in_err-part-clause-parts c =
    let none : position_or_len (λ b. b == c.args.at) c.args.text.now ≡ length c.args.text.now = search rules in
    let gone : c.from_residual.result ≡ None = search rules in
    rw gone (uncut (λ b. b == c.args.at) c.args.text.now none)

pub returns-clause-parts : goal.returns-clause-parts
returns-clause-parts c =
    let front : c.in_ok-part.part.now ≡ before_first (λ b. b == c.args.at) c.args.text.now = search rules in
    let back : c.in_ok-part.rest.now ≡ after_first (λ b. b == c.args.at) c.args.text.now = search rules in
    let some : position_or_len (λ b. b == c.args.at) c.args.text.now < length c.args.text.now = search rules in
    rw (front, back) (slice_split_first (λ b. b == c.args.at) c.args.text.now 0 some)
