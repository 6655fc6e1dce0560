-- The words of a file are those of its statements, and its layout has the same.
use Rattle.std.proofs.Common.{◌≡◌, ℕ, List, [], ◌∷◌, ◌++◌, map, Bool, true, false, refl, sym, ap, ◌∙◌, subst}
use Rattle.std.specs.Prelude.{Option, None, Some, IsNone}
use Rattle.std.proofs.lemmas.List.{map-append}
use Rattle.bz_token.specs.Chunks.{chunks}
use Rattle.bz_token.specs.FreshStart.{tokens_on_lines}
use Rattle.bz_token.specs.Places.{Placed, line_at}
use Rattle.bz_token.specs.Reading.{AreTokensOf}
use Rattle.bz_token.specs.declared.token.Kind.{Kind}
use Rattle.bz_token.specs.declared.token.Kind.TheVariants.{Identifier, Keyword, Integer, String, Operator, Newline as NewlineToken, Comment as CommentToken, Kept}
use Rattle.bz_token.proofs.OneFault.{one_tokens}
use Rattle.bz_tree.specs.declared.tree.kinds.Mark.{Mark}
use Rattle.bz_tree.specs.declared.tree.kinds.Mark.TheVariants.{Open, Close, Comma, Comment as Remark, Newline, Plain}
use Rattle.bz_tree.specs.declared.tree.Class.TheVariants.{Block}
use Rattle.bz_tree.specs.Brackets.{without_lines}
use Rattle.bz_tree.specs.Chunk.{IsBlockOrPlain}
use Rattle.bz_tree.specs.Kinds.{operator_mark}
use Rattle.bz_tree.specs.Statement.{first_seen, first_token}
use Rattle.bz_tree.specs.Tree.{Item, leaf, group, Items, no_items, item, Segs, no_segs, seg, Statement, items_of}
use Rattle.bz_layout_laws.specs.Words.{Word, word_of, words_among, opening, closing, bracket_word, item_words, items_words, segs_words, words_of}
use Rattle.bz_layout_laws.proofs.WordsKept.{statement_words, lines_words, words_append}
use Rattle.bz_layout.specs.Respell.{respell}
use Rattle.bz_layout_laws.specs.FileRead.{AreFound}
use Rattle.bz_layout_laws.specs.Lineless.{lineless}
use Rattle.bz_layout_laws.specs.Spelled.{spelled, spelled_items, spelled_segs, spelled_statement}
use Rattle.bz_engine.specs.File.{IsFile}
use Rattle.bz_engine.specs.Outcome.{text_of}
use Rattle.bz_laws.specs.WholeFile.{IsOnLines, AreOnLines, tokens_by_chunks}
use Rattle.bz_laws.specs.Words.{words_of_all, respelled, HasNoBlock}
use Rattle.bz_laws.proofs.FileText.{text_again}
use Rattle.bz_laws.proofs.FileTokens.{read_by_tokens, each_in_a_chunk}
use Rattle.bz_laws.proofs.ScriptComments.{spelled_list}
use Rattle.bz_laws.proofs.SoundStatements.{file_sound}
use Rattle.bz_token.specs.Common.{first_of, map_or}
use Rattle.bz_tree.specs.Blocks.{is_block_word}

-- tokens of which none is seen have no words
no_first : (ts : List Placed) → IsNone (first_of ts) → ts ≡ []
no_first [] none = refl
no_first (t ∷ ts) none = absurd cc

unseen_words : (ts : List Placed) → IsNone (first_seen ts) → words_among ts ≡ []
unseen_words ts none = sym (lines_words ts) ∙ ap words_among (no_first (without_lines ts) none)

-- a statement that is no block has the words of its tokens
chunk_words : (b : Bool) (line : ℕ) (chunk : List ℕ) (ts : List Placed) (s : Statement) → IsBlockOrPlain b line chunk ts s → (s.class ≡ Block → ⊥) → words_among ts ≡ words_of s
chunk_words true line chunk ts s block none = absurd (none (ap (λ (t : Statement). t.class) block.is))
chunk_words false line chunk ts s plain none = sym (statement_words ts s plain.tree)

-- what stands on the lines of one chunk, and of the chunks after it
found_words : (line : ℕ) (chunk : List ℕ) (ts : List Placed) (found : Option Statement) (After : List Statement → Type 0) (rest : List Word) (ss : List Statement)
    → IsOnLines line chunk ts found → ((more : List Statement) → After more → HasNoBlock more → rest ≡ words_of_all more) → AreFound found After ss → HasNoBlock ss
    → words_among ts ++ rest ≡ words_of_all ss
found_words line chunk ts None After rest ss here next are none = ap (λ words. words ++ rest) (unseen_words ts here) ∙ next ss are none
found_words line chunk ts (Some s) After rest ss here next are none =
    let apart = subst HasNoBlock are.1 none in
    ap (λ words. words ++ rest) (chunk_words (map_or false is_block_word (first_token ts)) line chunk ts s here.chunk apart.0)
    ∙ ap (λ words. words_of s ++ words) (next are.0 are.2 apart.1) ∙ ap words_of_all (sym are.1)

chunks_words : (tokens : List Placed) (line : ℕ) (cs : List (List ℕ)) (ss : List Statement) → AreOnLines tokens line cs ss → HasNoBlock ss → words_among (tokens_by_chunks tokens line cs) ≡ words_of_all ss
chunks_words tokens line [] ss are none = ap words_of_all (sym are)
chunks_words tokens line (c ∷ cs) ss are none =
    words_append (tokens_on_lines line c tokens) (tokens_by_chunks tokens (line_at line c) cs)
    ∙ found_words line c (tokens_on_lines line c tokens) are.0 (AreOnLines tokens (line_at line c) cs) (words_among (tokens_by_chunks tokens (line_at line c) cs)) ss are.1
    (λ more later apart. chunks_words tokens (line_at line c) cs more later apart) are.2 none

pub file_words : (depth : ℕ) (bytes : List ℕ) (ss : List Statement) (tokens : List Placed) → IsFile depth bytes ss None → HasNoBlock ss → AreTokensOf 1 depth bytes tokens → words_among tokens ≡ words_of_all ss
file_words depth bytes ss tokens file none are =
    let read = read_by_tokens depth bytes ss file in
    let same = one_tokens 1 depth bytes tokens read.1 are read.2 in
    ap words_among (same ∙ each_in_a_chunk depth bytes read.1 read.2) ∙ chunks_words read.1 1 (chunks bytes) ss read.3 none

-- words as they are spelled
operator_respelled : (m : Mark) (text : List ℕ) → word_of m Operator text ≡ map respelled (word_of m Operator text)
operator_respelled (Open s) text = refl
operator_respelled (Close s) text = refl
operator_respelled Comma text = refl
operator_respelled Remark text = refl
operator_respelled Newline text = refl
operator_respelled Plain text = refl

leaf_respelled : (kind : Kind) (text : List ℕ) → item_words (leaf kind (respell kind text)) ≡ map respelled (item_words (leaf kind text))
leaf_respelled Identifier text = refl
leaf_respelled Keyword text = refl
leaf_respelled Integer text = refl
leaf_respelled String text = refl
leaf_respelled Operator text = operator_respelled (operator_mark text) text
leaf_respelled NewlineToken text = refl
leaf_respelled CommentToken text = refl
leaf_respelled Kept text = refl

mutual
  item_respelled : (x : Item) → item_words (spelled x) ≡ map respelled (item_words x)
  item_respelled (leaf kind text) = leaf_respelled kind text
  item_respelled (group kind segs one_comma end) =
      ap (λ words. bracket_word (opening kind) ∷ words ++ bracket_word (closing kind) ∷ []) (segs_respelled segs)
      ∙ ap (λ words. bracket_word (opening kind) ∷ words) (sym (map-append respelled (segs_words segs) (bracket_word (closing kind) ∷ [])))

  items_respelled : (xs : Items) → items_words (spelled_items xs) ≡ map respelled (items_words xs)
  items_respelled no_items = refl
  items_respelled (item x xs) =
      ap (λ words. words ++ items_words (spelled_items xs)) (item_respelled x) ∙ ap (λ words. map respelled (item_words x) ++ words) (items_respelled xs)
      ∙ sym (map-append respelled (item_words x) (items_words xs))

  segs_respelled : (ss : Segs) → segs_words (spelled_segs ss) ≡ map respelled (segs_words ss)
  segs_respelled no_segs = refl
  segs_respelled (seg before nodes suffix ss) =
      ap (λ words. words ++ segs_words (spelled_segs ss)) (items_respelled nodes) ∙ ap (λ words. map respelled (items_words nodes) ++ words) (segs_respelled ss)
      ∙ sym (map-append respelled (items_words nodes) (segs_words ss))

statement_respelled : (s : Statement) → words_of (spelled_statement s) ≡ map respelled (words_of s)
statement_respelled s = ap items_words (spelled_list s.nodes) ∙ items_respelled (items_of s.nodes)

-- statements that are the same but for lines and spelling
pub same_words : (found ss : List Statement) → map lineless found ≡ map (λ s. lineless (spelled_statement s)) ss → words_of_all found ≡ map respelled (words_of_all ss)
same_words [] [] e = refl
same_words [] (s ∷ ss) e = absurd cc
same_words (t ∷ found) [] e = absurd cc
same_words (t ∷ found) (s ∷ ss) e =
    let head : lineless t ≡ lineless (spelled_statement s) = cc in
    let tail : map lineless found ≡ map (λ u. lineless (spelled_statement u)) ss = cc in
    ap (λ words. words ++ words_of_all found) (ap words_of head ∙ statement_respelled s) ∙ ap (λ words. map respelled (words_of s) ++ words) (same_words found ss tail)
    ∙ sym (map-append respelled (words_of s) (words_of_all ss))

same_blocks : (found ss : List Statement) → map lineless found ≡ map (λ s. lineless (spelled_statement s)) ss → HasNoBlock ss → HasNoBlock found
same_blocks [] ss e none = tt
same_blocks (t ∷ found) [] e none = absurd cc
same_blocks (t ∷ found) (s ∷ ss) e none =
    let head : lineless t ≡ lineless (spelled_statement s) = cc in
    let tail : map lineless found ≡ map (λ u. lineless (spelled_statement u)) ss = cc in
    (λ block. none.0 (sym (ap (λ (u : Statement). u.class) head) ∙ block), same_blocks found ss tail none.1)

pub layout_words : (depth : ℕ) (bytes : List ℕ) (ss : List Statement) (tokens written : List Placed) → IsFile depth bytes ss None → HasNoBlock ss → AreTokensOf 1 depth bytes tokens → AreTokensOf 1 depth (text_of ss) written
    → words_among written ≡ map respelled (words_among tokens)
layout_words depth bytes ss tokens written file none are laid =
    let again = text_again depth ss (file_sound depth bytes ss None file) in
    file_words depth (text_of ss) again.0 written again.1 (same_blocks again.0 ss again.2 none) laid
    ∙ same_words again.0 ss again.2 ∙ ap (map respelled) (sym (file_words depth bytes ss tokens file none are))
