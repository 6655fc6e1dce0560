use Rattle.std.proofs.Common.{◌≡◌, true, get_or, arith, rules}
use Rattle.bz_token.specs.Strings.{is_quote}
use Rattle.bz_attribute.proofs.LiteralEnds.{literal_ends_apart}
use Rattle.bz_attribute.proofs.apart.literal_apart.Goals as goal

pub returns-in-34 : goal.returns-in-34
returns-in-34 c is home =
    let quote : is_quote (get_or c.args.text.now 0 _) ≡ true = search rules in
    literal_ends_apart home c.args.text.now c.args.word.now _ (omega (arith, c.in-34.len_at_least)) quote (c.end_apart.ensures is)
