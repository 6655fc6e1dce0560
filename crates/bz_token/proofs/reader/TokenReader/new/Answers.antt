use Rattle.std.proofs.Common.{rules, refl, []}
use Rattle.bz_token.proofs.Progress.{read_fresh}
use Rattle.bz_token.proofs.reader.TokenReader.new.Goals as goal

pub returns : goal.returns
returns c =
    let s = c.start.ensures in
    record {
      read = (read_fresh c.args.first_line c.args.max_depth c.args.text.now [] _ _ _ _ _ refl c.new.ensures s.none s.rest s.line s.col c.utf8.text).0;
      depth_is = refl;
      fit = search rules;
    }
