-- Where the lines of the arguments of a rule stand, as they stand in its chunk and as they are written.
-- Begin with `HasSpans`.
use Rattle.std.specs.Prelude.{codes, ◌≡◌, ◌+◌, ℕ, suc, List, [], ◌∷◌, ◌++◌, length, Bool, true, false, if◌then◌else◌, Option, None, is_some, ◌||◌, bytes_eq}
use Rattle.std.specs.List.{concat, list_any, position}
use Rattle.bz_token.specs.Common.{is_empty, map_or}
use Rattle.bz_token.specs.Lexical.{is_text}
use Rattle.bz_token.specs.Places.{line_at}
use Rattle.bz_token.specs.declared.token.Kind.TheVariants.{Identifier, Operator, String}
use Rattle.bz_tree.specs.declared.tree.Class.TheVariants.{Rule as RuleClass}
use Rattle.bz_tree.specs.declared.tree.GroupKind.TheVariants.{RuleCall}
use Rattle.bz_tree.specs.Chunk.{IsStatementIn}
use Rattle.bz_tree.specs.Tree.{Segment, Statement, group, leaf, segs_of}
use Rattle.bz_layout.specs.Pieces.{bytes_of, comment_lines, comments, indent, suffix_piece}
use Rattle.bz_layout_laws.specs.Legible.{AreComments}
use Rattle.bz_layout_laws.specs.TextsOfKinds.{SegsHaveTexts}
use Rattle.bz_label.specs.Endings.{is_in}
use Rattle.bz_attribute.specs.Lists.{parts}
use Rattle.bz_attribute.specs.Rules.{is_named, only_text, value}
use Rattle.bz_canonical.specs.Canonical.{AreReadAlone, argument_lines}
use Rattle.bz_canonical.specs.declared.spans.ArgumentSpan.{ArgumentSpan}

-- the literal is an element of a list in the value of an argument
abbrev pub has_literal : List ℕ → Segment → Bool
has_literal text a = list_any (list_any (λ s. map_or false (bytes_eq text) (only_text s.nodes))) (parts (value a))

-- The lines of an argument, which stand so in the chunk, and are some: so many bytes are before them there, and so many in what is written.
-- `inner` is written of it on its lines, without the first indent, the comma and the comment beside it.
pub record IsSpan (names : List (List ℕ)) (from start : ℕ) (a : Segment) (stands : List ℕ) (span : ArgumentSpan) : Type 0 where
  pub inner : List ℕ
  pub lines : argument_lines (a ∷ []) ≡ 10 ∷ (indent 1 ++ (inner ++ (44 ∷ bytes_of (suffix_piece a.suffix))))
  pub some : is_empty stands ≡ false
  pub named : span.named ≡ position (λ name. is_named name a) names
  pub from_is : span.from ≡ from
  pub to_is : span.to ≡ from + length stands
  pub start_is : span.start ≡ start
  pub comma_is : span.comma ≡ start + length (10 ∷ (indent 1 ++ inner))
  pub end_is : span.end ≡ start + length (argument_lines (a ∷ []))
  pub literals : (text : List ℕ) → has_literal text a ≡ true → is_in text stands ≡ true

-- It has one of the names that are asked for, or may have a value that is sought.
abbrev pub is_asked : ArgumentSpan → Bool
is_asked span = is_some span.named || span.sought

-- one after another
abbrev pub AreSpans : List (List ℕ) → ℕ → ℕ → List Segment → List (List ℕ) → List ArgumentSpan → Type 0
AreSpans names from start [] [] [] = Unit {0}
AreSpans names from start (a ∷ args) (lines ∷ stands) (span ∷ spans) = IsSpan names from start a lines span × AreSpans names span.to span.end args stands spans
AreSpans names from start _ _ _ = ⊥

-- those that are kept, by a list that says so of each
abbrev pub kept : {A : Type 0} → List Bool → List A → List A
kept [] xs = []
kept (b ∷ keep) [] = []
kept (b ∷ keep) (x ∷ xs) = if b then x ∷ kept keep xs else kept keep xs

-- what stands before the arguments of a rule
abbrev pub front_text : List (List ℕ) → List ℕ → List ℕ
front_text notes kind = bytes_of (comment_lines notes) ++ (kind ++ 40 ∷ [])

-- what stands after them
abbrev pub back_text : List (List ℕ) → Option (List ℕ) → List ℕ
back_text end suffix = bytes_of (comments 1 end) ++ (10 ∷ 41 ∷ (bytes_of (suffix_piece suffix) ++ 10 ∷ []))

-- the argument `name`
abbrev pub name_argument : List ℕ → Segment
name_argument name = record { before = []; nodes = leaf Identifier (codes "name") ∷ leaf Operator (codes "=") ∷ leaf String (34 ∷ (name ++ 34 ∷ [])) ∷ []; suffix = None }

-- A rule of one kind, whose first argument is its name.
pub record NamedRule : Type 0 where
  pub notes : List (List ℕ)
  pub kind : List ℕ
  pub name : List ℕ
  pub args : List Segment
  pub end : List (List ℕ)
  pub suffix : Option (List ℕ)
  pub first_line : ℕ
  pub last_line : ℕ

abbrev pub statement_of : NamedRule → Statement
statement_of r = record {
  before = r.notes;
  nodes = leaf Identifier r.kind ∷ group RuleCall (segs_of (name_argument r.name ∷ r.args)) false r.end ∷ [];
  suffix = r.suffix;
  class = RuleClass;
  start = r.first_line;
  end = r.last_line;
}

-- what is written of it on lines
abbrev pub text_of : NamedRule → List ℕ
text_of r = front_text r.notes r.kind ++ (argument_lines (name_argument r.name ∷ r.args) ++ back_text r.end r.suffix)

-- The rule is written so, and its arguments have these spans; the lines of each stand so in its chunk.
pub record IsSpanned (names : List (List ℕ)) (r : NamedRule) (stands : List (List ℕ)) (written : List ℕ) (spans : List ArgumentSpan) : Type 0 where
  pub notes_are : AreComments r.notes
  pub kind_is : is_text Identifier r.kind ≡ true
  pub end_are : AreComments r.end
  pub written_is : written ≡ text_of r
  pub are : AreSpans names (length (front_text r.notes r.kind)) (length (front_text r.notes r.kind)) (name_argument r.name ∷ r.args) stands spans

-- A rule of a chunk is written so, and its arguments have these spans. The lines of any arguments are read as these alone.
pub record IsSpannedIn (depth : ℕ) (names : List (List ℕ)) (r : NamedRule) (stands : List (List ℕ)) (chunk written : List ℕ) (spans : List ArgumentSpan) : Type 0 where
  pub spanned : IsSpanned names r stands written spans
  pub back : List ℕ
  pub chunk_is : chunk ≡ front_text r.notes r.kind ++ (concat stands ++ back)
  pub reads : (keep : List Bool) → AreReadAlone depth (concat (kept keep stands)) (kept keep (name_argument r.name ∷ r.args))

-- The statement is such a rule, in a chunk that begins on this line: the rule begins after the comments above it, and ends on the
-- last line. Its tokens and comments are texts of their kinds.
pub record HasSpans (first depth : ℕ) (names : List (List ℕ)) (s : Statement) (chunk written : List ℕ) (spans : List ArgumentSpan) : Type 0 where
  pub rule : NamedRule
  pub statement_is : s ≡ statement_of rule
  pub begins_on : rule.first_line ≡ line_at first (front_text rule.notes rule.kind)
  pub ends_on : suc rule.last_line ≡ line_at first chunk
  pub stands : List (List ℕ)
  pub spanned : IsSpannedIn depth names rule stands chunk written spans
  pub texts : SegsHaveTexts (segs_of (name_argument rule.name ∷ rule.args))

-- of whatever statement is read of the chunk
abbrev pub AreSpansOf : ℕ → List (List ℕ) → List ℕ → List ℕ → List ArgumentSpan → Type 0
AreSpansOf depth names chunk written spans = (first : ℕ) (s : Statement) → IsStatementIn first depth chunk s → HasSpans first depth names s chunk written spans
