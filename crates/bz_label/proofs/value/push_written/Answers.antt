use Rattle.std.proofs.Common.{◌≡◌, rules, arith, encode_utf8}
use Rattle.std.specs.List.{flat_map}
use Rattle.bz_label.specs.Values.{written}
use Rattle.bz_label.proofs.Quoting.{plain_char}
use Rattle.bz_label.proofs.value.push_written.Goals as goal

pub returns-in_default : goal.returns-in_default
returns-in_default c =
    let plain : flat_map written (encode_utf8 c.args.c) ≡ encode_utf8 c.args.c = plain_char c.args.c (λ e. omega arith) (λ e. omega arith) (λ e. omega arith) (λ e. omega arith) (λ e. omega arith) in
    rw plain (search rules)
