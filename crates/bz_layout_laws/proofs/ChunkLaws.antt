-- The laws of trees and statements.
use Rattle.std.proofs.Common.{◌≡◌, ℕ, List, Bool, true, false, sym, ap, ◌∙◌}
use Rattle.bz_token.specs.Places.{Placed}
use Rattle.bz_tree.specs.Tree.{Statement}
use Rattle.bz_tree.specs.Statement.{IsStatementOf, class_of, first_token}
use Rattle.bz_tree.specs.Chunk.{IsBlockOrPlain, IsChunkOf}
use Rattle.bz_tree.proofs.Trees.Sound.{some_injective}
use Rattle.bz_tree.proofs.Trees.Complete.{statement_found}
use Rattle.bz_layout_laws.proofs.KeptSame.{block_same}
use Rattle.bz_token.specs.Common.{map_or}
use Rattle.bz_tree.specs.Blocks.{is_block_word}

pub tree_same : (tokens : List Placed) (s t : Statement) → IsStatementOf tokens s → IsStatementOf tokens t → s ≡ t
tree_same tokens s t a b = some_injective s t (sym (statement_found tokens s a) ∙ statement_found tokens t b)

one_same : (block : Bool) (first : ℕ) (bytes : List ℕ) (tokens : List Placed) (s t : Statement) → IsBlockOrPlain block first bytes tokens s → IsBlockOrPlain block first bytes tokens t → s ≡ t
one_same true first bytes tokens s t a b = block_same first bytes tokens s t a b
one_same false first bytes tokens s t a b = tree_same tokens s t a.tree b.tree

pub chunk_same : (first : ℕ) (bytes : List ℕ) (tokens : List Placed) (s t : Statement) → IsChunkOf first bytes tokens s → IsChunkOf first bytes tokens t → s ≡ t
chunk_same first bytes tokens s t a b = one_same (map_or false is_block_word (first_token tokens)) first bytes tokens s t a b

one_class : (block : Bool) (first : ℕ) (bytes : List ℕ) (tokens : List Placed) (s : Statement) → IsBlockOrPlain block first bytes tokens s → s.class ≡ class_of s.nodes
one_class true first bytes tokens s a = ap (λ (x : Statement). x.class) a.is ∙ sym (ap (λ (x : Statement). class_of x.nodes) a.is)
one_class false first bytes tokens s a = ap (λ (x : Statement). x.class) a.tree.is ∙ sym (ap (λ (x : Statement). class_of x.nodes) a.tree.is)

pub chunk_class : (first : ℕ) (bytes : List ℕ) (tokens : List Placed) (s : Statement) → IsChunkOf first bytes tokens s → s.class ≡ class_of s.nodes
chunk_class first bytes tokens s a = one_class (map_or false is_block_word (first_token tokens)) first bytes tokens s a
