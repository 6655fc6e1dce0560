use Rattle.std.proofs.Common.{◌+◌, ◌*◌}
use Rattle.bz_canonical.proofs.guess.+guesses.Given as goal

-- a bracket goes one level deeper: a step down is a part of it
abbrev pub decreases-guess_segments : goal.decreases-guess_segments
decreases-guess_segments l = 10 * l.depth + 9

abbrev pub decreases-guess_segment : goal.decreases-guess_segment
decreases-guess_segment l = 10 * l.depth + 8

abbrev pub decreases-guess_nodes : goal.decreases-guess_nodes
decreases-guess_nodes l = 10 * l.depth + 7

abbrev pub decreases-guess_term : goal.decreases-guess_term
decreases-guess_term l = 10 * l.depth + 6

abbrev pub decreases-guess_value : goal.decreases-guess_value
decreases-guess_value l = 10 * l.depth + 5

abbrev pub decreases-guess_suffixes : goal.decreases-guess_suffixes
decreases-guess_suffixes l = 10 * l.depth + 4

abbrev pub decreases-guess_group : goal.decreases-guess_group
decreases-guess_group l = 10 * l.depth + 1
