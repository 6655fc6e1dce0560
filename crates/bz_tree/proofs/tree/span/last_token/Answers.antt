use Rattle.std.proofs.Common.{rules, tests, ap, ◌∙◌, option_map}
use Rattle.std.proofs.lemmas.Iterator.Adapters.{YieldsList-from_rev_slice}
use Rattle.std.proofs.lemmas.Iterator.Search.{find_from_yields_List}
use Rattle.bz_token.specs.Places.{placed}
use Rattle.bz_tree.specs.Statement.{is_aside}
use Rattle.bz_tree.proofs.Trees.LastToken.{counts, last_token_found}
use Rattle.bz_tree.proofs.tree.span.last_token.Goals as goal

pub returns : goal.returns
returns c =
    ap (option_map placed) (c.copied.ensures ∙ find_from_yields_List (counts (λ t. is_aside t.kind)) _ _ c.find.result c.find.ensures.ran (YieldsList-from_rev_slice c.args.tokens.now (search rules)) (λ x b q k. search (rules, tests)))
    ∙ last_token_found c.args.tokens.now
