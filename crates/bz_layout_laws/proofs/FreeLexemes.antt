-- The lexemes of a statement in a free layout: what stands in a bracket in one form, whether on lines or in place.
-- Begin with `lexemes_by`.
use Rattle.std.proofs.Common.{ℕ, ◌||◌, List, [], ◌∷◌, ◌++◌, Bool}
use Rattle.std.specs.Prelude.{codes, if◌then◌else◌}
use Rattle.bz_token.specs.declared.token.Kind.TheVariants.{Operator, Newline}
use Rattle.bz_token.specs.Common.{is_filled}
use Rattle.bz_tree.specs.declared.tree.GroupKind.{GroupKind}
use Rattle.bz_tree.specs.Tree.{Item, leaf, group, Items, no_items, item, Segs, no_segs, seg, Statement, items_of, segments}
use Rattle.bz_layout.specs.Walked.{count, is_broken, segs_hold, opening, closing}
use Rattle.bz_layout.specs.Layout.{has_commas, is_comment}
use Rattle.bz_layout_laws.specs.FreeLayout.{Choice, breaks_by, inside, following, text_of}
use Rattle.bz_layout_laws.specs.Inside.{HasShape}
use Rattle.bz_layout_laws.specs.Lexemes.{Lexeme, lexeme, comment_lexemes, suffix_lexemes, comma_lexemes, comment_line_lexemes}

-- a comma is written after the last segment
abbrev pub last_comma : Bool → GroupKind → Segs → Bool → Bool
last_comma broken kind segs one_comma = if broken then has_commas kind one_comma (count segs) else one_comma

abbrev mutual
  pub item_lexemes_by : Choice → Item → List Lexeme
  item_lexemes_by c (leaf kind text) = lexeme kind (text_of c kind text) ∷ []
  item_lexemes_by c (group kind segs one_comma end) =
      lexeme Operator (opening kind) ∷ (segs_lexemes_by (inside c) (last_comma (breaks_by c (is_broken kind segs end (segs_hold segs))) kind segs one_comma) segs end ++ lexeme Operator (closing kind) ∷ [])

  pub items_lexemes_by : Choice → Items → List Lexeme
  items_lexemes_by c no_items = []
  items_lexemes_by c (item x xs) = item_lexemes_by (inside c) x ++ items_lexemes_by (following c) xs

  pub segs_lexemes_by : Choice → Bool → Segs → List (List ℕ) → List Lexeme
  segs_lexemes_by c trailing no_segs end = comment_lexemes end
  segs_lexemes_by c trailing (seg before nodes suffix ss) end =
      comment_lexemes before ++ (items_lexemes_by (inside c) nodes ++ (comma_lexemes (trailing || is_filled (segments ss)) ++ (suffix_lexemes suffix ++ segs_lexemes_by (following c) trailing ss end)))

abbrev pub line_lexemes_by : Choice → Statement → List Lexeme
line_lexemes_by c s = items_lexemes_by c (items_of s.nodes) ++ (suffix_lexemes s.suffix ++ lexeme Newline (codes "\n") ∷ [])

abbrev pub lexemes_by : Choice → Statement → List Lexeme
lexemes_by c s = comment_line_lexemes s.before ++ (if is_comment s.class then [] else line_lexemes_by c s)

-- each bracket has as many segments as its kind allows
abbrev mutual
  pub HasShapes : Item → Type 0
  HasShapes (leaf kind text) = Unit {0}
  HasShapes (group kind segs one_comma end) = HasShape kind segs one_comma × SegsHaveShapes segs

  pub HaveShapes : Items → Type 0
  HaveShapes no_items = Unit {0}
  HaveShapes (item x xs) = HasShapes x × HaveShapes xs

  pub SegsHaveShapes : Segs → Type 0
  SegsHaveShapes no_segs = Unit {0}
  SegsHaveShapes (seg before nodes suffix ss) = HaveShapes nodes × SegsHaveShapes ss
