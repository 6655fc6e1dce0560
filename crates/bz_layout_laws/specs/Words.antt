-- The words of a statement and those among tokens: tokens in their order, but for commas, comments and newlines.
use Rattle.std.specs.Prelude.{codes, ℕ, List, [], ◌∷◌, ◌++◌}
use Rattle.bz_token.specs.Places.{Placed}
use Rattle.bz_token.specs.declared.token.Kind.{Kind}
use Rattle.bz_token.specs.declared.token.Kind.TheVariants.{Operator}
use Rattle.bz_tree.specs.declared.tree.GroupKind.{GroupKind}
use Rattle.bz_tree.specs.declared.tree.GroupKind.TheVariants.{Call, RuleCall, Load, Paren, List as ListKind, Index, Dict, ListComp, DictComp}
use Rattle.bz_tree.specs.declared.tree.kinds.Mark.{Mark}
use Rattle.bz_tree.specs.declared.tree.kinds.Mark.TheVariants.{Comma, Comment, Newline}
use Rattle.bz_tree.specs.Kinds.{mark_of, kind_mark}
use Rattle.bz_tree.specs.Tree.{Item, leaf, group, Items, no_items, item, Segs, no_segs, seg, Statement, items_of}

-- what a token is and its bytes
pub record Word : Type 0 where
  pub kind : Kind
  pub text : List ℕ

abbrev pub word_of : Mark → Kind → List ℕ → List Word
word_of Comma kind text = []
word_of Comment kind text = []
word_of Newline kind text = []
word_of _ kind text = record { kind = kind; text = text } ∷ []

abbrev pub words_among : List Placed → List Word
words_among [] = []
words_among (t ∷ ts) = word_of (mark_of t) t.kind t.text ++ words_among ts

-- the brackets of a group
abbrev pub opening : GroupKind → List ℕ
opening Call = codes "("
opening RuleCall = codes "("
opening Load = codes "("
opening Paren = codes "("
opening ListKind = codes "["
opening Index = codes "["
opening ListComp = codes "["
opening Dict = codes "{"
opening DictComp = codes "{"

abbrev pub closing : GroupKind → List ℕ
closing Call = codes ")"
closing RuleCall = codes ")"
closing Load = codes ")"
closing Paren = codes ")"
closing ListKind = codes "]"
closing Index = codes "]"
closing ListComp = codes "]"
closing Dict = codes "}"
closing DictComp = codes "}"

abbrev pub bracket_word : List ℕ → Word
bracket_word text = record { kind = Operator; text = text }

-- the words in a group stand between its brackets
abbrev mutual
  pub item_words : Item → List Word
  item_words (leaf kind text) = word_of (kind_mark kind text) kind text
  item_words (group kind segs one_comma end) = bracket_word (opening kind) ∷ segs_words segs ++ bracket_word (closing kind) ∷ []

  pub items_words : Items → List Word
  items_words no_items = []
  items_words (item x xs) = item_words x ++ items_words xs

  pub segs_words : Segs → List Word
  segs_words no_segs = []
  segs_words (seg before nodes suffix segs) = items_words nodes ++ segs_words segs

abbrev pub words_of : Statement → List Word
words_of s = items_words (items_of s.nodes)
