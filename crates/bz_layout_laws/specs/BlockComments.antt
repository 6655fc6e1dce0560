-- Where the comments of a block are: above its first token, or in the text that is kept.
use Rattle.std.specs.Prelude.{ℕ, List, [], ◌∷◌, ◌++◌, true, ◌≡◌, None}
use Rattle.bz_token.specs.declared.token.Kind.TheVariants.{Kept}
use Rattle.bz_token.specs.Places.{Placed}
use Rattle.bz_token.specs.Reading.{is_gap}
use Rattle.bz_tree.specs.Tree.{leaf, Statement}
use Rattle.bz_tree.specs.Brackets.{without_lines}
use Rattle.bz_tree.specs.Statement.{bare_tokens, first_token}
use Rattle.bz_tree.specs.Blocks.{IsAt}
use Rattle.bz_tree.specs.Comments.{comments_among}
use Rattle.bz_token.specs.Common.{first_of}

-- The bytes are these tokens in order, each at its place, with white space and continued lines alone before each. `before` are the
-- bytes in front of them.
abbrev pub AreWritten : ℕ → List ℕ → List Placed → List ℕ → Type 0
AreWritten first before [] bytes = bytes ≡ []
AreWritten first before (t ∷ ts) bytes =
    (gap : List ℕ) × (rest : List ℕ) × (bytes ≡ gap ++ (t.text ++ rest)) × (is_gap true gap ≡ true) × IsAt first (before ++ gap) t
    × AreWritten first (before ++ (gap ++ t.text)) ts rest

-- The tokens of a block are comments and newlines above it, those from its first word on, and newlines after it. The comments above
-- are the statement's own; the text that is kept is the tokens from the first word on, their comments with them.
pub record AreKept (first : ℕ) (bytes : List ℕ) (tokens : List Placed) (s : Statement) : Type 0 where
  pub above : List Placed
  pub inside : List Placed
  pub newlines : List Placed
  pub tokens_are : tokens ≡ above ++ (inside ++ newlines)
  pub only_aside : bare_tokens above ≡ []
  pub begins : first_of inside ≡ first_token tokens
  pub only_newlines : without_lines newlines ≡ []
  pub comments_are : s.before ≡ comments_among above
  pub no_suffix : s.suffix ≡ None
  pub kept : List ℕ
  pub node_is : s.nodes ≡ leaf Kept kept ∷ []
  pub before : List ℕ
  pub after : List ℕ
  pub bytes_are : bytes ≡ before ++ (kept ++ after)
  pub written : AreWritten first before inside kept
