-- What is parsed is well-formed; what is well-formed is legible and begins no block, so its text is parsed again.
use Rattle.std.proofs.Common.{◌≡◌, ℕ, List, [], ◌∷◌, Bool, true, false, refl, sym, ap, ◌∙◌}
use Rattle.std.specs.Prelude.{IsSome, if◌then◌else◌}
use Rattle.std.proofs.lemmas.Bool.{false≢true}
use Rattle.bz_token.specs.declared.token.Kind.TheVariants.{Kept}
use Rattle.bz_token.specs.Places.{Placed}
use Rattle.bz_token.specs.Reading.{AreTokensOf}
use Rattle.bz_tree.specs.declared.tree.Class.{Class}
use Rattle.bz_tree.specs.declared.tree.Class.TheVariants.{Load, Assign, Rule, Other, Block}
use Rattle.bz_tree.specs.Chunk.{IsPlain, IsBlockOrPlain, IsStatementIn}
use Rattle.bz_tree.specs.Statement.{first_seen, first_token, is_kept, class_of, is_assign}
use Rattle.bz_tree.specs.Kinds.{is_load_word}
use Rattle.bz_tree.specs.Tree.{Item, leaf, group, Statement, items_of, is_rule}
use Rattle.bz_layout.specs.Layout.{layout_text}
use Rattle.bz_layout_laws.specs.Legible.{IsLegible, begins_block}
use Rattle.bz_layout_laws.specs.Spelled.{spelled_statement}
use Rattle.bz_layout_laws.specs.TextsOfKinds.{HasText, HaveTexts}
use Rattle.bz_layout_laws.specs.Lineless.{lineless}
use Rattle.bz_layout_laws.specs.WellFormed.{IsWellFormed}
use Rattle.bz_layout_laws.proofs.DepthRead.{read_depth}
use Rattle.bz_layout_laws.proofs.GrammarFollows.{nodes_may_follow}
use Rattle.bz_layout_laws.proofs.LegibleRead.{legible}
use Rattle.bz_layout_laws.proofs.LinesRead.{read_parsed}
use Rattle.bz_layout_laws.proofs.NoBlock.{begins_no_block}
use Rattle.bz_layout_laws.proofs.ParsedAgain.{parsed_again, parsed_only}
use Rattle.bz_layout_laws.proofs.TextsRead.{read_texts}
use Rattle.bz_token.specs.Common.{map_or}
use Rattle.bz_tree.specs.Blocks.{is_block_word}
use Rattle.std.specs.List.{list_any}

pub formed_legible : (depth : ℕ) (s : Statement) → IsWellFormed depth s → IsLegible s
formed_legible depth s formed = legible s formed.texts (nodes_may_follow s formed.grammar formed.texts)

pub formed_no_block : (depth : ℕ) (s : Statement) → IsWellFormed depth s → begins_block (items_of s.nodes) ≡ false
formed_no_block depth s formed = begins_no_block (items_of s.nodes) formed.grammar formed.texts.nodes

-- its text is parsed again
pub formed_again : (first depth : ℕ) (s : Statement) → IsWellFormed depth s → (t : Statement) × IsStatementIn first depth (layout_text s) t × (lineless t ≡ lineless (spelled_statement s))
formed_again first depth s formed = parsed_again first depth s (formed_legible depth s formed) formed.parsed formed.depth_fits (formed_no_block depth s formed) formed.grammar

pub formed_only : (first depth : ℕ) (s t : Statement) → IsWellFormed depth s → IsStatementIn first depth (layout_text s) t → (lineless t ≡ lineless (spelled_statement s)) × (layout_text t ≡ layout_text s)
formed_only first depth s t formed is = parsed_only first depth s t (formed_legible depth s formed) formed.parsed formed.depth_fits (formed_no_block depth s formed) is

-- what is parsed
pub plain_formed : (first depth : ℕ) (bytes : List ℕ) (tokens : List Placed) (s : Statement) → AreTokensOf first depth bytes tokens → IsSome (first_seen tokens) → IsPlain tokens s → IsWellFormed depth s
plain_formed first depth bytes tokens s are some plain = record {
  texts = read_texts first depth bytes tokens s are plain.tree;
  parsed = read_parsed tokens s plain.tree some;
  grammar = plain.grammar;
  depth_fits = read_depth first depth bytes tokens s are plain.tree;
}

pub chunk_formed : (first depth : ℕ) (bytes : List ℕ) (s : Statement) → IsStatementIn first depth bytes s → (s.class ≡ Block → ⊥) → IsWellFormed depth s
chunk_formed first depth bytes s is none = by (map_or false is_block_word (first_token is.tokens)) is.reads.chunk
  where
    by : (b : Bool) → IsBlockOrPlain b first bytes is.tokens s → IsWellFormed depth s
    by true block = absurd (none (ap (λ (u : Statement). u.class) block.is))
    by false plain = plain_formed first depth bytes is.tokens s is.are is.reads.some plain

-- a statement of tokens is no block
abbrev is_block_class : Class → Bool
is_block_class Block = true
is_block_class _ = false

not_kept : (x : Item) → HasText x → is_kept x ≡ false
not_kept (leaf Kept text) h = absurd (false≢true h.0)
not_kept (leaf _ text) h = refl
not_kept (group kind segs one_comma end) h = refl

either_class : (b : Bool) (m r : Class) → is_block_class m ≡ false → is_block_class r ≡ false → is_block_class (if b then m else r) ≡ false
either_class true m r p q = p
either_class false m r p q = q

class_no_block : (xs : List Item) → HaveTexts (items_of xs) → is_block_class (class_of xs) ≡ false
class_no_block [] h = refl
class_no_block (x ∷ xs) h =
    ap (λ b. is_block_class (if b then Block else (if is_load_word x then Load else (if list_any is_assign (x ∷ xs) then Assign else (if is_rule (x ∷ xs) then Rule else Other))))) (not_kept x h.0)
    ∙ either_class (is_load_word x) Load _ refl (either_class (list_any is_assign (x ∷ xs)) Assign _ refl (either_class (is_rule (x ∷ xs)) Rule Other refl refl))

pub formed_class : (depth : ℕ) (s : Statement) → IsWellFormed depth s → s.class ≡ Block → ⊥
formed_class depth s formed e = false≢true (sym (class_no_block s.nodes formed.texts.nodes) ∙ ap is_block_class (sym formed.parsed.class ∙ e))

-- what was parsed is parsed again
pub written_again : (first second depth : ℕ) (bytes : List ℕ) (tokens : List Placed) (s : Statement) → AreTokensOf first depth bytes tokens → IsSome (first_seen tokens) → IsPlain tokens s
    → (t : Statement) × IsStatementIn second depth (layout_text s) t × (lineless t ≡ lineless (spelled_statement s))
written_again first second depth bytes tokens s are some plain = formed_again second depth s (plain_formed first depth bytes tokens s are some plain)

pub written_only : (first second depth : ℕ) (bytes : List ℕ) (tokens : List Placed) (s t : Statement) → AreTokensOf first depth bytes tokens → IsSome (first_seen tokens) → IsPlain tokens s
    → IsStatementIn second depth (layout_text s) t → (lineless t ≡ lineless (spelled_statement s)) × (layout_text t ≡ layout_text s)
written_only first second depth bytes tokens s t are some plain is = formed_only second depth s t (plain_formed first depth bytes tokens s are some plain) is
