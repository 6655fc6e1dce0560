use Rattle.std.proofs.Common.{rules, tests, ap, ◌∙◌, option_map}
use Rattle.std.proofs.lemmas.Iterator.Adapters.{YieldsList-from_rev_slice}
use Rattle.std.proofs.lemmas.Iterator.Search.{find_from_yields_List}
use Rattle.bz_token.specs.Places.{placed}
use Rattle.bz_tree.specs.Kinds.{mark_of}
use Rattle.bz_tree.specs.Brackets.{is_line}
use Rattle.bz_tree.proofs.Trees.LastToken.{counts, last_seen_found}
use Rattle.bz_tree.proofs.tree.span.last_seen.Goals as goal

pub returns : goal.returns
returns c =
    ap (option_map placed) (c.copied.ensures ∙ find_from_yields_List (counts (λ t. is_line (mark_of t))) _ _ c.find.result c.find.ensures.ran (YieldsList-from_rev_slice c.args.tokens.now (search rules)) (λ x b q k. search (rules, tests)))
    ∙ last_seen_found c.args.tokens.now
