-- Elements that are the same label (this project's own rule).
-- Begin with `has_no_double`.
use Rattle.std.specs.Prelude.{List, [], ◌∷◌, Bool, true, false, ◌&&◌, not}
use Rattle.std.specs.List.{list_any}
use Rattle.bz_token.specs.Common.{map_or}
use Rattle.bz_tree.specs.Tree.{Segment}
use Rattle.bz_label.specs.Labels.{Package}
use Rattle.bz_attribute.specs.Lists.{equals}
use Rattle.bz_attribute.specs.Rules.{string_value}

-- both are strings, whose values are the same label
abbrev pub are_same : Package → Segment → Segment → Bool
are_same home s t = map_or false (λ word. equals home word t) (string_value s.nodes)

abbrev pub has_no_double : Package → List Segment → Bool
has_no_double home [] = true
has_no_double home (s ∷ ss) = not (list_any (are_same home s) ss) && has_no_double home ss
