use Rattle.std.proofs.lemmas.List.{take_rest}
use Rattle.bz_token.proofs.Tables.{quote_opens}
use Rattle.bz_token.proofs.scan_string.quoted_at.Goals as goal

pub returns : goal.returns
returns c = quote_opens c.args.bytes.now _ c.requires.some c.requires.quote (rw take_rest at c.are_two.ensures)
