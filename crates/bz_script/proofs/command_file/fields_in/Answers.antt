use Rattle.std.proofs.Common.{rules, arith}
use Rattle.std.proofs.lemmas.Iterator.{YieldsList-from_map_by}
use Rattle.std.proofs.lemmas.Iterator.Consumers.{map_from_collect}
use Rattle.std.proofs.lemmas.Iterator.Splits.{YieldsList-from_str_split}
use Rattle.bz_script.specs.CommandFiles.{trimmed}
use Rattle.bz_script.proofs.command_file.fields_in.Goals as goal

pub returns : goal.returns
returns c =
    map_from_collect _ c.collect.ensures.ran
    (YieldsList-from_map_by _ (λ field. field.now) trimmed
    (YieldsList-from_str_split 124 c.args.line.now (omega arith) (cc) (cc) (cc))
    c.map.ensures.closure
    (λ x r q k. search rules))
