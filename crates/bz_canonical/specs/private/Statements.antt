-- The statement at the front of a text that stands as it is laid out, for private clauses.
use Rattle.std.specs.Prelude.{◌≡◌, ◌≤◌, codes, ℕ, List, [], ◌∷◌, ◌++◌, Bool, true, false, if◌then◌else◌, map, Option, None, IfNone, IfSome, option_map}
use Rattle.bz_token.specs.declared.token.Kind.TheVariants.{String}
use Rattle.bz_tree.specs.declared.tree.kinds.Preceding.TheVariants.{Other}
use Rattle.bz_tree.specs.declared.tree.Class.{Class}
use Rattle.bz_tree.specs.declared.tree.GroupKind.TheVariants.{RuleCall, Load}
use Rattle.bz_tree.specs.private.Productions.{IsStatement}
use Rattle.bz_tree.specs.Statement.{class_of}
use Rattle.bz_tree.specs.Elements.{rule_call}
use Rattle.bz_tree.specs.Tree.{Item, Statement, items_of, segments, is_rule}
use Rattle.bz_layout.specs.declared.broken.Style.TheVariants.{Broken}
use Rattle.bz_layout.specs.declared.spacing.Edge.TheVariants.{Start}
use Rattle.bz_layout.specs.declared.spacing.Gap.TheVariants.{Closed}
use Rattle.bz_layout.specs.Layout.{is_comment, layout_text}
use Rattle.bz_layout.specs.Walked.{items_pieces}
use Rattle.bz_layout.specs.Pieces.{bytes_of}
use Rattle.bz_layout_laws.specs.Legible.{are_some, items_depth}
use Rattle.bz_layout_laws.specs.Parsed.{HaveKinds, plain_calls}
use Rattle.bz_layout_laws.specs.Spelled.{spelled, spelled_statement}
use Rattle.bz_layout_laws.specs.TextsOfKinds.{HaveTexts}
use Rattle.bz_layout_laws.specs.WellFormed.{IsWellFormed}
use Rattle.bz_attribute.specs.Rules.{first_named, name_in, rule_of}
use Rattle.bz_canonical.specs.Canonical.{HasArgumentName, HasName, IsCanonical, IsNameless, rule_args, rule_name}
use Rattle.bz_canonical.specs.declared.chunk.CanonicalChunk.{CanonicalChunk}
use Rattle.bz_canonical.specs.private.Fronts.{IsTokenFront}
use Rattle.bz_canonical.specs.private.Segments.{AreFlatFront, IsGroupFront}
use Rattle.bz_canonical.specs.private.Values.{AreNodesFront}

-- the call of a rule of this name
pub record IsRuleCallFront (depth : ℕ) (name : Option (List ℕ)) (text rest : List ℕ) : Type 0 where
  pub holds : Bool
  pub group : IsGroupFront RuleCall 0 depth text rest holds
  pub named : name_in (segments group.segs) ≡ name
  pub none : IfNone name (first_named (codes "name") (segments group.segs) ≡ None)

-- what stands in the bracket of a load, in place, and the closing bracket
pub record IsLoadFront (inside rest : List ℕ) : Type 0 where
  pub middle : List ℕ
  pub end : List ℕ
  pub many : ℕ
  pub file : IsTokenFront String inside middle
  pub names : AreFlatFront Load false 0 0 middle end many false
  pub ends : end ≡ 41 ∷ rest

abbrev pub assign_operator : Bool → List ℕ
assign_operator adds = if adds then codes "+=" else codes "="

-- the operator of an assignment and the value
pub record IsAssignedFront (depth : ℕ) (text rest : List ℕ) : Type 0 where
  pub adds : Bool
  pub value : List ℕ
  pub holds : Bool
  pub front : text ≡ 32 ∷ (assign_operator adds ++ 32 ∷ value)
  pub nodes : AreNodesFront 0 depth value rest holds

-- what well-formed statements ask of the nodes of one, where no string is to be spelled anew
pub record IsBareFront (depth : ℕ) (class : Class) (name kind : Option (List ℕ)) (text rest : List ℕ) : Type 0 where
  pub nodes : List Item
  pub some : are_some (items_of nodes) ≡ true
  pub texts : HaveTexts (items_of nodes)
  pub kinds : HaveKinds true Other (items_of (plain_calls nodes))
  pub rule : nodes ≡ (if is_rule (plain_calls nodes) then rule_call (plain_calls nodes) else plain_calls nodes)
  pub class_is : class ≡ class_of nodes
  pub other : is_comment class ≡ false
  pub grammar : IsStatement (items_of nodes)
  pub depth_fits : items_depth (items_of nodes) ≤ depth
  pub stays : map spelled nodes ≡ nodes
  pub front : text ≡ bytes_of (items_pieces Broken 0 None Closed Start (items_of nodes)) ++ rest
  pub named : rule_name (rule_of nodes) ≡ name
  pub nameless : IfSome kind (λ k. IsNameless k nodes)
  pub absent : (attr : List ℕ) → (HasArgumentName attr (bytes_of (items_pieces Broken 0 None Closed Start (items_of nodes))) → ⊥)
      → first_named attr (rule_args (rule_of nodes)) ≡ None

-- comment lines alone are a chunk with the empty line after them
abbrev pub empty_line : Class → List ℕ
empty_line class = if is_comment class then codes "\n" else []

-- The text begins with what is written of a well-formed statement of this class, name and kind, in which no string is to be spelled
-- anew. `end` follows that, `rest` its chunk.
pub record IsStatementFront (depth : ℕ) (class : Class) (name kind : Option (List ℕ)) (text end rest : List ℕ) : Type 0 where
  pub s : Statement
  pub well : IsWellFormed depth s
  pub stays : spelled_statement s ≡ s
  pub class_is : s.class ≡ class
  pub named : HasName name s
  pub nameless : IfSome kind (λ k. IsNameless k s.nodes)
  pub front : text ≡ layout_text s ++ end
  pub ends : end ≡ empty_line class ++ rest
  pub absent : (attr : List ℕ) → (HasArgumentName attr (layout_text s) → ⊥) → first_named attr (rule_args (rule_of s.nodes)) ≡ None

-- a chunk that is found at the front of a text
abbrev pub IsChunkOf : ℕ → List ℕ → CanonicalChunk → Type 0
IsChunkOf depth text found = IsCanonical depth found.class (option_map (λ name. name.now) found.name) (option_map (λ kind. kind.now) found.kind) found.chunk.now found.written.now text
