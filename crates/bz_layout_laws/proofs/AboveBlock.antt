-- The comments above a block pass a test that comments among its tokens pass. So they are comments, and UTF-8 where the chunk is.
use Rattle.std.proofs.Common.{◌≡◌, ℕ, List, [], ◌∷◌, Bool, true, refl, sym, ap, subst, ◌∙◌}
use Rattle.std.specs.List.{list_all}
use Rattle.std.specs.Str.{IsUtf8, is_utf8}
use Rattle.std.proofs.lemmas.Bool.{and_parts}
use Rattle.bz_token.specs.Lexical.{is_comment}
use Rattle.bz_token.specs.Places.{Placed}
use Rattle.bz_layout_laws.proofs.Deeper.{tokens_are_texts}
use Rattle.bz_token.proofs.Quiet.{both}
use Rattle.bz_tree.specs.declared.tree.kinds.Mark.{Mark}
use Rattle.bz_tree.specs.declared.tree.kinds.Mark.TheVariants.{Open, Close, Comma, Comment, Newline, Plain}
use Rattle.bz_tree.specs.Blocks.{above, IsBlockOf}
use Rattle.bz_tree.proofs.Trees.LogicalLines.{above_at, above_by_token, above_is}
use Rattle.bz_tree.specs.Chunk.{IsBlockOrPlain}
use Rattle.bz_tree.specs.Kinds.{mark_of}
use Rattle.bz_tree.specs.Tree.{Statement}
use Rattle.bz_layout_laws.specs.BlockIn.{IsBlockIn}
use Rattle.bz_layout_laws.specs.Legible.{AreComments}
use Rattle.bz_layout_laws.proofs.TextsRead.{is_token_text, comment_text}
use Rattle.bz_layout_laws.proofs.Utf8Tokens.{is_utf8_token, tokens_utf8}

abbrev Passed : (Placed → Bool) → (List ℕ → Bool) → Type 0
Passed test q = (t : Placed) → mark_of t ≡ Comment → test t ≡ true → q t.text ≡ true

one_passes : (q : List ℕ → Bool) (m : Mark) (text : List ℕ) (later : List (List ℕ)) → (m ≡ Comment → q text ≡ true) → list_all q later ≡ true → list_all q (above_at m text later) ≡ true
one_passes q Comment text later here rest = both (q text) (list_all q later) (here refl) rest
one_passes q Newline text later here rest = rest
one_passes q (Open shape) text later here rest = refl
one_passes q (Close shape) text later here rest = refl
one_passes q Comma text later here rest = refl
one_passes q Plain text later here rest = refl

each_passes : (test : Placed → Bool) (q : List ℕ → Bool) → Passed test q → (ts : List Placed) → list_all test ts ≡ true → list_all q (above_by_token ts) ≡ true
each_passes test q passed [] h = refl
each_passes test q passed (t ∷ ts) h =
    let p = and_parts (test t) (list_all test ts) h in
    one_passes q (mark_of t) t.text (above_by_token ts) (λ e. passed t e p.0) (each_passes test q passed ts p.1)

above_pass : (test : Placed → Bool) (q : List ℕ → Bool) → Passed test q → (ts : List Placed) → list_all test ts ≡ true → list_all q (above ts) ≡ true
above_pass test q passed ts h = ap (list_all q) (above_is ts) ∙ each_passes test q passed ts h

pub block_of : (first depth : ℕ) (bytes : List ℕ) (s : Statement) → (b : IsBlockIn first depth bytes s) → IsBlockOf first bytes b.tokens s
block_of first depth bytes s b = subst (λ w. IsBlockOrPlain w first bytes b.tokens s) b.begins b.reads.chunk

before_above : (first depth : ℕ) (bytes : List ℕ) (s : Statement) → (b : IsBlockIn first depth bytes s) → s.before ≡ above b.tokens
before_above first depth bytes s b = ap (λ (t : Statement). t.before) (block_of first depth bytes s b).is

pub block_comments : (first depth : ℕ) (bytes : List ℕ) (s : Statement) → IsBlockIn first depth bytes s → AreComments s.before
block_comments first depth bytes s b =
    subst AreComments (sym (before_above first depth bytes s b))
    (above_pass is_token_text is_comment (λ t e is. comment_text t.kind t.text e is) b.tokens (tokens_are_texts first depth bytes b.tokens b.are))

pub block_comments_utf8 : (first depth : ℕ) (bytes : List ℕ) (s : Statement) → IsUtf8 bytes → IsBlockIn first depth bytes s → list_all is_utf8 s.before ≡ true
block_comments_utf8 first depth bytes s u b =
    subst (λ texts. list_all is_utf8 texts ≡ true) (sym (before_above first depth bytes s b))
    (above_pass is_utf8_token is_utf8 (λ t e is. is) b.tokens (tokens_utf8 first depth bytes b.tokens b.are u))
