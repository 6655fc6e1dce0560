use Rattle.std.proofs.Common.{rules, tests, ◌∙◌, sym}
use Rattle.std.proofs.lemmas.Iterator.{YieldsList-from_slice}
use Rattle.std.proofs.lemmas.Iterator.Search.{all_from_yields_List}
use Rattle.std.proofs.lemmas.List.Folds.{list_all-map}
use Rattle.bz_token.specs.Places.{placed}
use Rattle.bz_token.specs.private.LineEnds.{is_newline_token}
use Rattle.bz_token.proofs.chunk.are_newlines.Goals as goal

pub returns : goal.returns
returns c =
    all_from_yields_List (λ t. is_newline_token (placed t)) _ _ c.all.result c.all.ensures.ran (YieldsList-from_slice c.args.line.now cc) (λ x b q k. search (rules, tests))
    ∙ sym (list_all-map is_newline_token placed c.args.line.now)
