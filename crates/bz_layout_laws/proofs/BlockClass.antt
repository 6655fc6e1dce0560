-- A statement of the class of a block was read as a block.
use Rattle.std.proofs.Common.{◌≡◌, ℕ, List, [], ◌∷◌, Bool, true, false, refl, sym, ap, ◌∙◌}
use Rattle.std.specs.Prelude.{if◌then◌else◌}
use Rattle.std.proofs.lemmas.Bool.{false≢true}
use Rattle.bz_token.specs.declared.token.Kind.TheVariants.{Kept}
use Rattle.bz_tree.specs.declared.tree.Class.{Class}
use Rattle.bz_tree.specs.declared.tree.Class.TheVariants.{Load, Assign, Rule, Other, Block}
use Rattle.bz_tree.specs.Chunk.{IsBlockOrPlain, IsStatementIn}
use Rattle.bz_tree.specs.Statement.{class_of, first_token, is_assign}
use Rattle.bz_tree.specs.Kinds.{is_load_word}
use Rattle.bz_tree.specs.Tree.{Item, leaf, group, Statement, items_of, is_rule}
use Rattle.bz_layout_laws.specs.BlockIn.{IsBlockIn}
use Rattle.bz_layout_laws.specs.TextsOfKinds.{HaveTexts}
use Rattle.bz_layout_laws.proofs.LinesRead.{read_parsed}
use Rattle.bz_layout_laws.proofs.TextsRead.{read_texts}
use Rattle.bz_token.specs.Common.{map_or}
use Rattle.bz_tree.specs.Blocks.{is_block_word}
use Rattle.std.specs.List.{list_any}

abbrev is_block_class : Class → Bool
is_block_class Block = true
is_block_class _ = false

either : (b : Bool) (m r : Class) → is_block_class m ≡ false → is_block_class r ≡ false → is_block_class (if b then m else r) ≡ false
either true m r p q = p
either false m r p q = q

-- a text that is kept is of no kind of token
none_kept : (xs : List Item) → HaveTexts (items_of xs) → is_block_class (class_of xs) ≡ false
none_kept [] h = refl
none_kept (x ∷ xs) h =
    let others = either (is_load_word x) Load _ refl (either (list_any is_assign (x ∷ xs)) Assign _ refl (either (is_rule (x ∷ xs)) Rule Other refl refl)) in
    first x h others
  where
    first : (x : Item) → HaveTexts (items_of (x ∷ xs)) → is_block_class (if is_load_word x then Load else (if list_any is_assign (x ∷ xs) then Assign else (if is_rule (x ∷ xs) then Rule else Other))) ≡ false → is_block_class (class_of (x ∷ xs)) ≡ false
    first (leaf Kept text) h others = absurd (false≢true h.0.0)
    first (leaf _ text) h others = others
    first (group kind segs one_comma end) h others = others

pub known_by_class : (first depth : ℕ) (bytes : List ℕ) (s : Statement) → IsStatementIn first depth bytes s → s.class ≡ Block → IsBlockIn first depth bytes s
known_by_class first depth bytes s is class = by (map_or false is_block_word (first_token is.tokens)) refl is.reads.chunk
  where
    by : (b : Bool) → map_or false is_block_word (first_token is.tokens) ≡ b → IsBlockOrPlain b first bytes is.tokens s → IsBlockIn first depth bytes s
    by true begins chunk = record { tokens = is.tokens; are = is.are; reads = is.reads; begins = begins }
    by false begins chunk =
        let texts = read_texts first depth bytes is.tokens s is.are chunk.tree in
        let parsed = read_parsed is.tokens s chunk.tree is.reads.some in
        absurd (false≢true (sym (none_kept s.nodes texts.nodes) ∙ ap is_block_class (sym parsed.class ∙ class)))
