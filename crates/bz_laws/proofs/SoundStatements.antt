-- What is read of a chunk is sound, and so are the statements of a file.
use Rattle.std.proofs.Common.{◌≡◌, ℕ, List, [], ◌∷◌, ◌++◌, Bool, true, false, refl, sym, subst, ◌∙◌, inl, inr}
use Rattle.std.specs.Prelude.{Option, None, Some, Result, Ok, Err}
use Rattle.std.specs.List.{AllByRecursion}
use Rattle.bz_token.specs.Chunks.{chunks}
use Rattle.bz_token.specs.Places.{line_at}
use Rattle.bz_token.proofs.ChunkLaws.{first_chunk}
use Rattle.bz_tree.specs.Chunk.{IsBlockOrPlain}
use Rattle.bz_tree.specs.Statement.{first_token}
use Rattle.bz_tree.specs.Tree.{Statement}
use Rattle.bz_layout_laws.specs.BlockIn.{IsBlockIn}
use Rattle.bz_layout_laws.specs.KeptBlock.{IsKeptBlock}
use Rattle.bz_layout_laws.proofs.AboveBlock.{block_comments}
use Rattle.bz_layout_laws.proofs.BlockUtf8.{block_utf8}
use Rattle.bz_layout_laws.proofs.Utf8Read.{read_utf8}
use Rattle.bz_layout_laws.proofs.WellFormed.{plain_formed}
use Rattle.bz_engine.specs.declared.report.SyntaxFault.{SyntaxFault}
use Rattle.bz_engine.specs.File.{IsAnswerOf, Follows, AreStatementsOf, IsFile}
use Rattle.bz_engine.specs.Outcome.{BeginsWith}
use Rattle.bz_laws.specs.Sound.{IsSound}
use Rattle.bz_token.specs.Common.{map_or}
use Rattle.bz_tree.specs.Blocks.{is_block_word}

-- these bytes are one chunk by themselves
abbrev IsAlone : List ℕ → Type 0
IsAlone chunk = chunks chunk ≡ chunk ∷ []

kept_block : (line depth : ℕ) (chunk : List ℕ) (s : Statement) → IsAlone chunk → IsBlockIn line depth chunk s → IsKeptBlock depth s
kept_block line depth chunk s alone block = record {
  first = line;
  bytes = chunk;
  found = s;
  alone = alone;
  read = block;
  comments = block_comments line depth chunk s block;
  is = refl;
}

pub given_sound : (depth line : ℕ) (chunk : List ℕ) (s : Statement) → chunks chunk ≡ chunk ∷ [] → IsAnswerOf depth line chunk (Ok (Some s)) → IsSound depth s
given_sound depth line chunk s alone gives = by (map_or false is_block_word (first_token gives.1.tokens)) refl gives.1.reads.chunk
  where
    by : (b : Bool) → map_or false is_block_word (first_token gives.1.tokens) ≡ b → IsBlockOrPlain b line chunk gives.1.tokens s → IsSound depth s
    by true begins is =
        let block : IsBlockIn line depth chunk s = record { tokens = gives.1.tokens; are = gives.1.are; reads = gives.1.reads; begins = begins } in
        record { form = inr (kept_block line depth chunk s alone block); utf8 = block_utf8 line depth chunk s gives.0 block }
    by false begins plain = record {
      form = inl (plain_formed line depth chunk gives.1.tokens s gives.1.are gives.1.reads.some plain);
      utf8 = read_utf8 line depth chunk gives.1.tokens s gives.0 gives.1.are plain.tree;
    }

-- each chunk of a file is one by itself
chunks_alone : (cs : List (List ℕ)) (bytes : List ℕ) → chunks bytes ≡ cs → AllByRecursion IsAlone cs
chunks_alone [] bytes e = tt
chunks_alone (c ∷ cs) [] e = absurd cc
chunks_alone (c ∷ cs) (b ∷ bs) e =
    let f = first_chunk b bs in
    let both : f.chunk ∷ chunks f.rest ≡ c ∷ cs = sym f.chunks_are ∙ e in
    let head : f.chunk ≡ c = cc in
    let tail : chunks f.rest ≡ cs = cc in
    (subst IsAlone head f.alone, chunks_alone cs f.rest tail)

first_alone : (cs ds : List (List ℕ)) → AllByRecursion IsAlone (cs ++ ds) → AllByRecursion IsAlone cs
first_alone [] ds alone = tt
first_alone (c ∷ cs) ds alone = (alone.0, first_alone cs ds alone.1)

follows_sound : (depth line : ℕ) (chunk : List ℕ) (answer : Result (Option Statement) SyntaxFault) (After : List Statement → Option SyntaxFault → Type 0) (ss : List Statement) (fault : Option SyntaxFault) → IsAlone chunk
    → IsAnswerOf depth line chunk answer → ((more : List Statement) → After more fault → AllByRecursion (IsSound depth) more) → Follows answer After ss fault → AllByRecursion (IsSound depth) ss
follows_sound depth line chunk (Err f) After ss fault alone gives next follows = subst (AllByRecursion (IsSound depth)) (sym follows.0) tt
follows_sound depth line chunk (Ok None) After ss fault alone gives next follows = next ss follows
follows_sound depth line chunk (Ok (Some s)) After ss fault alone gives next follows =
    subst (AllByRecursion (IsSound depth)) (sym follows.1) (given_sound depth line chunk s alone gives, next follows.0 follows.2)

give_sound : (depth line : ℕ) (cs : List (List ℕ)) (ss : List Statement) (fault : Option SyntaxFault) → AllByRecursion IsAlone cs → AreStatementsOf depth line cs ss fault → AllByRecursion (IsSound depth) ss
give_sound depth line [] ss fault alone give = subst (AllByRecursion (IsSound depth)) (sym give.0) tt
give_sound depth line (c ∷ cs) ss fault alone give =
    follows_sound depth line c give.0 (AreStatementsOf depth (line_at line c) cs) ss fault alone.0 give.1 (λ more later. give_sound depth (line_at line c) cs more fault alone.1 later) give.2

pub file_sound : (depth : ℕ) (bytes : List ℕ) (statements : List Statement) (fault : Option SyntaxFault) → IsFile depth bytes statements fault → AllByRecursion (IsSound depth) statements
file_sound depth bytes statements fault file = give_sound depth 1 (chunks bytes) statements fault (chunks_alone (chunks bytes) bytes refl) file

pub front_sound : (depth : ℕ) (file : List ℕ) (statements : List Statement) → BeginsWith depth file statements → AllByRecursion (IsSound depth) statements
front_sound depth file statements begins =
    give_sound depth 1 begins.front statements None (first_alone begins.front begins.after (chunks_alone (begins.front ++ begins.after) file begins.chunks_are)) begins.read
