-- The lexemes of a statement as it is written: kinds and texts of its tokens and comments, in order. Of the layout they show the
-- spelling of strings, the commas of broken groups and which comments stand beside a token, but no gap.
use Rattle.std.specs.Prelude.{codes, ℕ, ◌==◌, List, [], ◌∷◌, ◌++◌, map, Bool, true, false, ◌&&◌, if◌then◌else◌, Option, Some, None}
use Rattle.bz_token.specs.declared.token.Kind.{Kind}
use Rattle.bz_token.specs.declared.token.Kind.TheVariants.{Operator, Newline, Comment}
use Rattle.bz_token.specs.Ends.{is_comment_kind}
use Rattle.bz_token.specs.Places.{Placed}
use Rattle.bz_tree.specs.Tree.{Item, leaf, group, Items, no_items, item, Segs, no_segs, seg, Statement, items_of}
use Rattle.bz_tree.specs.Brackets.{end_line}
use Rattle.bz_tree.specs.Statement.{is_aside}
use Rattle.bz_layout.specs.Respell.{respell}
use Rattle.bz_layout.specs.Walked.{count, is_broken, segs_hold, opening, closing}
use Rattle.bz_layout.specs.Layout.{has_commas, is_comment}

-- a token or comment, and whether it is a comment on the line on which the token before it ends
pub record Lexeme : Type 0 where
  pub kind : Kind
  pub text : List ℕ
  pub beside : Bool

abbrev pub lexeme : Kind → List ℕ → Lexeme
lexeme kind text = record { kind = kind; text = text; beside = false }

-- comments on lines of their own, and the one beside a token
abbrev pub comment_lexemes : List (List ℕ) → List Lexeme
comment_lexemes texts = map (lexeme Comment) texts

abbrev pub suffix_lexemes : Option (List ℕ) → List Lexeme
suffix_lexemes None = []
suffix_lexemes (Some text) = record { kind = Comment; text = text; beside = true } ∷ []

-- the line on which a token ends; on that of a comment or newline nothing stands after it
abbrev pub end_after : Placed → Option ℕ
end_after t = if is_aside t.kind then None else Some (end_line t)

abbrev pub is_on : Option ℕ → ℕ → Bool
is_on None line = false
is_on (Some end) line = line == end

-- the lexemes of tokens, where what stands before them ends on this line
abbrev pub lexemes_from : Option ℕ → List Placed → List Lexeme
lexemes_from last [] = []
lexemes_from last (t ∷ ts) = record { kind = t.kind; text = t.text; beside = is_comment_kind t.kind && is_on last t.line } ∷ lexemes_from (end_after t) ts

abbrev pub token_lexemes : List Placed → List Lexeme
token_lexemes ts = lexemes_from None ts

abbrev pub comma_lexemes : Bool → List Lexeme
comma_lexemes b = if b then lexeme Operator (codes ",") ∷ [] else []

-- A broken group shows its comments, and has its commas after its segments; any other group has no comments, and its commas stand
-- between its segments, and after the one of `(x,)`.
abbrev mutual
  pub item_lexemes : Item → List Lexeme
  item_lexemes (leaf kind text) = lexeme kind (respell kind text) ∷ []
  item_lexemes (group kind segs one_comma end) =
      lexeme Operator (opening kind) ∷
      (if is_broken kind segs end (segs_hold segs)
      then ended_lexemes (has_commas kind one_comma (count segs)) segs ++ (comment_lexemes end ++ lexeme Operator (closing kind) ∷ [])
      else separated_lexemes true segs ++ (comma_lexemes one_comma ++ lexeme Operator (closing kind) ∷ []))

  pub items_lexemes : Items → List Lexeme
  items_lexemes no_items = []
  items_lexemes (item x xs) = item_lexemes x ++ items_lexemes xs

  -- each segment between its comments, with a comma or none
  pub ended_lexemes : Bool → Segs → List Lexeme
  ended_lexemes comma no_segs = []
  ended_lexemes comma (seg before nodes suffix ss) =
      comment_lexemes before ++ (items_lexemes nodes ++ (comma_lexemes comma ++ (suffix_lexemes suffix ++ ended_lexemes comma ss)))

  -- a comma before each segment but the first
  pub separated_lexemes : Bool → Segs → List Lexeme
  separated_lexemes first no_segs = []
  separated_lexemes first (seg before nodes suffix ss) =
      (if first then items_lexemes nodes else lexeme Operator (codes ",") ∷ items_lexemes nodes) ++ separated_lexemes false ss

-- comments above a statement, each with the newline after it
abbrev pub comment_line_lexemes : List (List ℕ) → List Lexeme
comment_line_lexemes [] = []
comment_line_lexemes (text ∷ texts) = lexeme Comment text ∷ lexeme Newline (codes "\n") ∷ comment_line_lexemes texts

abbrev pub line_lexemes : Statement → List Lexeme
line_lexemes s = items_lexemes (items_of s.nodes) ++ (suffix_lexemes s.suffix ++ lexeme Newline (codes "\n") ∷ [])

-- the comments above, the nodes, the comment beside them, a newline; comment lines alone have no more
abbrev pub lexemes_of : Statement → List Lexeme
lexemes_of s = comment_line_lexemes s.before ++ (if is_comment s.class then [] else line_lexemes s)
