-- A rule whose name is on a line of its own, at the front of a text, and what is written of it, for private clauses.
use Rattle.std.specs.Prelude.{◌≡◌, ◌-◌, ℕ, List, ◌∷◌, ◌++◌, codes, length, take, Bool, true, if◌then◌else◌, Option, None, Some, option_map}
use Rattle.bz_token.specs.Lexical.{is_text}
use Rattle.bz_token.specs.declared.token.Kind.TheVariants.{Identifier}
use Rattle.bz_tree.specs.Comments.{beside}
use Rattle.bz_tree.specs.declared.tree.Class.TheVariants.{Rule as RuleClass}
use Rattle.bz_tree.specs.Tree.{Statement, items_of}
use Rattle.bz_layout.specs.Layout.{layout_text}
use Rattle.bz_layout.specs.Pieces.{bytes_of, comment_lines, indent, suffix_piece}
use Rattle.bz_layout_laws.specs.FreeLayout.{Choice, Stand, spelled_by, text_by}
use Rattle.bz_layout_laws.specs.Legible.{AreComments}
use Rattle.bz_layout_laws.specs.WellFormed.{IsWellFormed}
use Rattle.bz_attribute.specs.Rules.{first_named, rule_of}
use Rattle.bz_canonical.specs.Canonical.{HasArgumentName, HasName, rule_args}
use Rattle.bz_canonical.specs.declared.chunk.CanonicalChunk.{CanonicalChunk}
use Rattle.bz_canonical.specs.declared.arguments.ReadArguments.{ReadArguments}
use Rattle.bz_canonical.specs.declared.named_rule.ReadRule.{ReadRule}
use Rattle.bz_canonical.specs.declared.rule_chunk.NamedRule.{NamedRule}
use Rattle.bz_canonical.specs.private.Fronts.{IsQuotedFront}
use Rattle.bz_canonical.specs.private.Pendings.{IsPending}

-- the comments above a rule, its kind and its name
pub record IsRuleHead (text name inside rest : List ℕ) : Type 0 where
  pub notes : List (List ℕ)
  pub are : AreComments notes
  pub kind : List ℕ
  pub kind_is : is_text Identifier kind ≡ true
  pub name_is : IsQuotedFront (34 ∷ (name ++ 34 ∷ (44 ∷ rest))) name (44 ∷ rest)
  pub front : text ≡ bytes_of (comment_lines notes) ++ (kind ++ (40 ∷ inside))
  pub lines : inside ≡ 10 ∷ (indent 1 ++ (codes "name" ++ (codes " = " ++ (34 ∷ (name ++ 34 ∷ (44 ∷ rest))))))

-- it begins with its head, and has the name that stands there
pub record IsNamedRule (rule : NamedRule) : Type 0 where
  pub head : IsRuleHead rule.text.now rule.head.name.now rule.head.inside.now rule.head.rest.now
  pub named : rule.name.now ≡ rule.head.name.now

-- what is told of its chunk: the name, and whether nothing is asked of it
pub record IsNamedChunk (rule : NamedRule) (left : Bool) (found : CanonicalChunk) : Type 0 where
  pub named : option_map (λ name. name.now) found.name ≡ Some rule.name.now
  pub left_is : found.left ≡ left

-- the bracket that closes a rule, the comment beside it and the newline
pub record IsRuleEnd (text rest : List ℕ) : Type 0 where
  pub note : Option (List ℕ)
  pub is : AreComments (beside note)
  pub front : text ≡ 10 ∷ 41 ∷ (bytes_of (suffix_piece note) ++ 10 ∷ rest)

-- the end of a rule of these arguments, and what is written of the rule
pub record EndsRule (old new : List ℕ) (read : ReadArguments) (rule : ReadRule) : Type 0 where
  pub some : read.some ≡ true
  pub end : IsRuleEnd read.at.rest.now rule.rest.now
  pub written : (text all : List ℕ) → IsPending text old all read.at.from.now rule.rest.now → (if rule.as_is then take (length text - length rule.rest.now) text else new) ≡ all

-- a rule of this name, and what is written of it
pub record IsRuleRead (depth : ℕ) (name text rest written : List ℕ) : Type 0 where
  pub s : Statement
  pub choice : Choice
  pub well : IsWellFormed depth s
  pub stand : Stand choice (items_of s.nodes)
  pub spelled : spelled_by choice s ≡ s
  pub class_is : s.class ≡ RuleClass
  pub named : HasName (Some name) s
  pub front : text ≡ text_by choice s ++ rest
  pub spells : written ≡ layout_text s
  pub absent : (attr : List ℕ) → (HasArgumentName attr (layout_text s) → ⊥) → first_named attr (rule_args (rule_of s.nodes)) ≡ None
