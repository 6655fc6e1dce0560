-- For proofs alone: parts of definitions under names of their own.
use Rattle.std.specs.Prelude.{ℕ, List, [], ◌∷◌, Bool, Option, if◌then◌else◌, bytes_eq, codes, filter}
use Rattle.std.specs.List.{join_by}
use Rattle.std.specs.Cmp.Lexicographic.{pointwise}
use Rattle.bz_token.specs.Common.{map_or}
use Rattle.bz_token.specs.declared.token.Kind.TheVariants.{Identifier, Operator}
use Rattle.bz_tree.specs.Tree.{Item, leaf, Segment}
use Rattle.bz_label.specs.Labels.{Package}
use Rattle.bz_label.specs.declared.arguments.Chosen.{Chosen}
use Rattle.bz_attribute.specs.Rules.{Rule, first_named, is_named, is_text, kind_text, string_value}
use Rattle.bz_attribute.specs.Effects.{edit_first, filtered, is_chosen, nodes_of, unchosen}
use Rattle.bz_rule.specs.Move.{arrivals, elements_of, put_in}
use Rattle.bz_rule.specs.Reports.{moves}
use Rattle.bz_rule.specs.Set.{kind_items}

-- strings with these values, one for each word
abbrev pub are_strings : List (List ℕ) → List Segment → Bool
are_strings words ss = pointwise (λ word s. is_text word (string_value s.nodes)) words ss

-- identifiers with a dot between two
abbrev pub joined_by_dots : List (List ℕ) → List Item
joined_by_dots names = join_by (λ name. leaf Identifier name ∷ []) (leaf Operator (codes ".") ∷ []) names

-- the nodes after `set kind`
abbrev pub kind_after : List ℕ → List Item → Option Rule → List Item
kind_after kind nodes rule = map_or nodes (λ r. if bytes_eq (kind_text r.kind) kind then nodes else nodes_of (record r { kind = kind_items kind })) rule

-- the chosen elements moved
abbrev pub moved : Package → List ℕ → List ℕ → Chosen → List Segment → List Segment
moved home old new chosen args =
    put_in new (arrivals home (elements_of (first_named new args)) (filter (is_chosen home chosen) (elements_of (first_named old args))))
    (edit_first (is_named old) (filtered (unchosen home chosen)) args)

-- nothing is moved where no element is chosen
abbrev pub moved_where : Package → List ℕ → List ℕ → Chosen → List Segment → List Segment
moved_where home old new chosen args = if moves home old chosen args then moved home old new chosen args else args
