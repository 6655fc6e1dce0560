use Rattle.bz_token.proofs.TokenLines.{lines_are_lines, tokens_in_lines, lines_join}
use Rattle.bz_layout_laws.proofs.of_tokens.lines.newline_tokens_cut_lines.Goals as goal

pub returns-clause-reading : goal.returns-clause-reading
returns-clause-reading c = lines_are_lines

pub returns-clause-tokens : goal.returns-clause-tokens
returns-clause-tokens c = tokens_in_lines

pub returns-clause-joined : goal.returns-clause-joined
returns-clause-joined c = lines_join
