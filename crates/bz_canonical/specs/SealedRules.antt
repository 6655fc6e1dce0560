-- The parts of a rule of which some arguments are sealed.
use Rattle.std.specs.Prelude.{bytes_eq, ◌==◌, zero, ◌-◌, ℕ, suc, List, [], ◌∷◌, ◌++◌, codes, flat_map, length, map, nat_le, take, drop, Bool, true, false, not, ◌&&◌, ◌||◌, if◌then◌else◌, Option}
use Rattle.bz_token.specs.declared.token.Kind.TheVariants.{Identifier}
use Rattle.bz_tree.specs.declared.tree.GroupKind.TheVariants.{RuleCall}
use Rattle.bz_tree.specs.Rows.{RowPart, a_token, above, beside_part, closing, opening, segs_parts}
use Rattle.bz_tree.specs.Tree.{Segment, segs_of}
use Rattle.bz_layout.specs.Broken.{has_comment}
use Rattle.bz_layout.specs.Pieces.{bytes_of, indent, suffix_piece}
use Rattle.bz_canonical.specs.Canonical.{argument_lines}
use Rattle.bz_canonical.specs.SealedArguments.{sealed_argument}
use Rattle.bz_canonical.specs.Spans.{NamedRule, is_asked}
use Rattle.bz_canonical.specs.declared.spans.ArgumentSpan.{ArgumentSpan}

-- bytes of a text between two places
abbrev pub between : ℕ → ℕ → List ℕ → List ℕ
between from to text = take (to - from) (drop from text)

-- comments on lines of their own, each with the newline after it
abbrev pub comment_rows : ℕ → List (List ℕ) → List ℕ
comment_rows level texts = flat_map (λ text. indent level ++ (text ++ 10 ∷ [])) texts

-- what is written of an argument between its first indent and its comma
abbrev pub inner_text : Segment → List ℕ
inner_text a = take (length (drop 5 (argument_lines (a ∷ []))) - suc (length (bytes_of (suffix_piece a.suffix)))) (drop 5 (argument_lines (a ∷ [])))

-- An argument that is written as another is, and shows nothing of it.
abbrev pub sealed : Segment → Segment
sealed a = sealed_argument (inner_text a) a.suffix

-- lines as one comment above what stands after them: its gap writes their first newline and indent
abbrev pub as_comment : List ℕ → List (List ℕ)
as_comment [] = []
as_comment (b ∷ lines) = drop 5 (b ∷ lines) ∷ []

-- An argument that is written as this one is after some others, and shows nothing of them. The comment keeps its rule on lines.
abbrev pub sealed_after : List Segment → Segment → Segment
sealed_after run a = record (sealed a) { before = as_comment (argument_lines run) }

-- An argument is the last that is sealed as one, or it is asked for: the next one is asked for, or there is none.
abbrev pub ends_run : Bool → List Bool → Bool
ends_run b [] = true
ends_run b (next ∷ asked) = b || next

-- arguments of which those are sealed that are not asked for, after a run that is sealed with the next of them
abbrev pub sealed_from : List Segment → List Bool → List Segment → List Segment
sealed_from run [] args = []
sealed_from run (b ∷ asked) [] = []
sealed_from run (b ∷ asked) (a ∷ args) =
    if ends_run b asked then (if b then a else sealed_after run a) ∷ sealed_from [] asked args
    else sealed_from (run ++ a ∷ []) asked args

-- arguments, of which those stay that are asked for, and each run of the others is sealed as one
abbrev pub sealed_args : List Bool → List Segment → List Segment
sealed_args asked args = sealed_from [] asked args

abbrev pub are_asked : List ArgumentSpan → List Bool
are_asked spans = map is_asked spans

-- those that are asked for, or all
abbrev pub shown : Bool → List ArgumentSpan → List Bool
shown all spans = map (λ span. all || is_asked span) spans

-- what stands before the arguments of a rule
abbrev pub front_parts : List (List ℕ) → List ℕ → List RowPart
front_parts notes kind = map above notes ++ (a_token Identifier kind ∷ opening RuleCall ∷ [])

-- the line of the argument `name`
abbrev pub name_line : List ℕ → List ℕ
name_line name = 10 ∷ (indent 1 ++ (codes "name" ++ (codes " = " ++ (34 ∷ (name ++ 34 ∷ 44 ∷ [])))))

-- A level of comments on lines: the byte that lines begin with, and the length of their indent.
pub data IsLevel : ℕ → ℕ → ℕ → Type 0 where
  outside : IsLevel 0 35 0
  inside : IsLevel 1 32 4
  deeper : IsLevel 2 32 8

-- what stands after them
abbrev pub back_parts : List (List ℕ) → Option (List ℕ) → List RowPart
back_parts end suffix = map above end ++ (closing false ∷ beside_part suffix)

-- a rule of which the arguments after the name are sealed that are not asked for
abbrev pub sealed_rule : List Bool → NamedRule → NamedRule
sealed_rule asked r = record r { args = sealed_args asked r.args }

abbrev pub last_end : ℕ → List ArgumentSpan → ℕ
last_end from [] = from
last_end from (span ∷ spans) = last_end span.end spans

-- The lines of both are the same, and what stands for two or more keeps its rule on lines.
abbrev pub are_alike : List Segment → Segment → Bool
are_alike run t = bytes_eq (argument_lines run) (argument_lines (t ∷ [])) && (nat_le (length run) 1 || has_comment t)

-- how many arguments are not asked for
abbrev pub count_sealed : List Bool → ℕ
count_sealed [] = zero
count_sealed (b ∷ asked) = if b then count_sealed asked else suc (count_sealed asked)

-- One argument alone is not asked for, and it might be left alone in its call, in place.
abbrev pub is_exposed : Bool → List ArgumentSpan → Bool
is_exposed alone spans = not alone && count_sealed (are_asked spans) == 1

-- the arguments of a rule that stay: those that are asked for, and all where one is exposed
abbrev pub are_shown : Bool → List ArgumentSpan → List Bool
are_shown alone spans = shown (is_exposed alone spans) spans

-- the parts of the small rule
abbrev pub small_parts : List Segment → List RowPart
small_parts args = a_token Identifier (codes "k") ∷ opening RuleCall ∷ (segs_parts (segs_of args) ++ above (codes "#") ∷ closing false ∷ [])
