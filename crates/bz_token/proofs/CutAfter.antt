-- What a line does to the cutter's knowledge.
use Rattle.std.proofs.Common.{◌≡◌, ℕ, ◌<◌, ◌≤◌, List, [], ◌∷◌, ◌++◌, Bool, true, false, not, cond, length, Option, refl, sym, ap, subst, ◌∙◌, arith, inl, inr, append_assoc, append-nil, length-append}
use Rattle.std.proofs.lemmas.Bool.{cases_Bool, both_ways, and_parts, not-true, false≢true, true≢false}
use Rattle.bz_token.proofs.Units.{opener_is}
use Rattle.bz_token.specs.declared.cutter.scan.LineKind.{LineKind}
use Rattle.bz_token.specs.declared.cutter.scan.LineKind.TheVariants.{Blank, CommentLine, Statement}
use Rattle.bz_token.specs.declared.cutter.scan.Scan.{Scan}
use Rattle.bz_token.specs.declared.cutter.block.Opener.{Opener}
use Rattle.bz_token.specs.declared.cutter.block.ChunkPhase.{ChunkPhase}
use Rattle.bz_token.specs.declared.cutter.block.ChunkPhase.TheVariants.{Comments, InBlock, Done}
use Rattle.bz_token.specs.declared.cutter.Cutter.{Cutter}
use Rattle.bz_token.specs.Blocks.{word_at, opener, opener_of, goes_on}
use Rattle.bz_token.specs.Chunks.{chunks}
use Rattle.bz_token.specs.private.Phases.{phase_after, phase_step, takes}
use Rattle.bz_token.specs.Cuts.{is_physical_line, ends_in_newline, EndsBefore}
use Rattle.bz_token.specs.private.CutSteps.{is_ended, is_broken, is_blank_kind, line_here, seen_chunks, outside, next, start, run, head_after, moved, fresh, between, Takes}
use Rattle.bz_token.specs.CutterState.{IsAfter}
use Rattle.bz_token.proofs.CutMachine.{ended_restarts, run_depth, quiet_before, line_quiet, run_kind}
use Rattle.bz_token.proofs.CutLaws.{chunk_step, chunk_goes, chunk_cut, chunks_are, same_takes}
use Rattle.bz_token.proofs.CutHeads.{word_of_line, header}

pub over : (bs rest : List ℕ) (s : Scan) (phase : ChunkPhase) (before part : List ℕ) → quiet_before s bs ≡ true → seen_chunks s phase before part (bs ++ rest) ≡ seen_chunks (run s bs) phase before (part ++ bs) rest
over [] rest s phase before part h = ap (λ t. seen_chunks s phase before t rest) (sym (append-nil part))
over (b ∷ bs) rest s phase before part h =
    let parts = and_parts (not (is_ended s.inside)) (quiet_before (next s b) bs) h in
    chunk_step s phase before part b (bs ++ rest) (not-true _ parts.0) ∙ over bs rest (next s b) phase before (part ++ b ∷ []) parts.1
    ∙ ap (λ t. seen_chunks (run (next s b) bs) phase before t rest) (append_assoc part (b ∷ []) bs)

-- the first chunk begins with what was seen
pub begins : (bs : List ℕ) (s : Scan) (phase : ChunkPhase) (before part : List ℕ) → (more : List ℕ) × (cs : List (List ℕ)) × (seen_chunks s phase before part bs ≡ ((before ++ part) ++ more) ∷ cs)
begins [] s phase before part = ([], [], ap (λ t. t ∷ []) (sym (append-nil (before ++ part))))
begins (b ∷ bs) s phase before part = elim (cases_Bool (is_ended s.inside)) [
  | inr inside ↦
      let r = begins bs (next s b) phase before (part ++ b ∷ []) in
      (b ∷ r.0, r.1, chunk_step s phase before part b bs inside ∙ r.2 ∙ ap (λ t. t ∷ r.1) (simp append_assoc))
  | inl ended ↦ elim (cases_Bool (takes (phase_after phase (line_here s part)) (b ∷ bs))) [
    | inl goes ↦
        let r = begins bs (next s b) (phase_after phase (line_here s part)) (before ++ part) (b ∷ []) in
        (b ∷ r.0, r.1, chunk_goes s phase before part b bs ended goes ∙ r.2 ∙ ap (λ t. t ∷ r.1) (append_assoc (before ++ part) (b ∷ []) r.0))
    | inr stops ↦ ([], seen_chunks (next s b) Comments [] (b ∷ []) bs, chunk_cut s phase before part b bs ended stops ∙ ap (λ t. t ∷ seen_chunks (next s b) Comments [] (b ∷ []) bs) (sym (append-nil (before ++ part))))
  ]
]

takes_line : (phase : ChunkPhase) (b : ℕ) (bs rest : List ℕ) → ends_in_newline (b ∷ bs) ≡ true → takes phase ((b ∷ bs) ++ rest) ≡ takes phase (b ∷ bs)
takes_line phase b bs rest h = same_takes phase b (bs ++ rest) bs (word_of_line (b ∷ bs) rest h)

pub takes_more : (c : Cutter) (b : ℕ) (bs rest : List ℕ) → ends_in_newline (b ∷ bs) ≡ true → Takes c (b ∷ bs) → Takes c ((b ∷ bs) ++ rest)
takes_more c b bs rest h t e = takes_line c.phase b bs rest h ∙ t e

-- the chunks after a physical line
pub follows_line : (c : Cutter) (seen : List ℕ) (x : ℕ) (xs rest : List ℕ) (b : IsAfter c seen) → is_physical_line (x ∷ xs) ≡ true → Takes c ((x ∷ xs) ++ rest) → chunks ((seen ++ x ∷ xs) ++ rest) ≡ seen_chunks (run c.scan (x ∷ xs)) c.phase b.before (b.part ++ x ∷ xs) rest
follows_line c seen x xs rest b h t =
    ap chunks (append_assoc seen (x ∷ xs) rest)
    ∙ b.follows x (xs ++ rest) t
    ∙ over xs rest (next c.scan x) c.phase b.before (b.part ++ x ∷ []) (line_quiet x xs c.scan h)
    ∙ ap (λ p. seen_chunks (run c.scan (x ∷ xs)) c.phase b.before p rest) (append_assoc b.part (x ∷ []) xs)

pub whole : (c : Cutter) (seen line : List ℕ) (b : IsAfter c seen) → b.before ++ (b.part ++ line) ≡ seen ++ line
whole c seen line b = sym (append_assoc b.before b.part line) ∙ ap (λ t. t ++ line) (sym b.seen_is)

-- a line that is the last of the file
pub last_line : (c : Cutter) (seen : List ℕ) (x : ℕ) (xs : List ℕ) → IsAfter c seen → is_physical_line (x ∷ xs) ≡ true → Takes c (x ∷ xs) → chunks (seen ++ x ∷ xs) ≡ (seen ++ x ∷ xs) ∷ []
last_line c seen x xs b h t =
    ap chunks (sym (append-nil (seen ++ x ∷ xs)))
    ∙ follows_line c seen x xs [] b h (subst (Takes c) (sym (append-nil (x ∷ xs))) t)
    ∙ ap (λ s. s ∷ []) (whole c seen (x ∷ xs) b)

chosen : (c : Cutter) (line : List ℕ) → is_blank_kind c.scan.kind ≡ true → head_after c line ≡ opener_of (word_at line)
chosen c line was = ap (λ t. cond t (opener_of (word_at line)) c.opener) was

other : (c : Cutter) (line : List ℕ) → is_blank_kind c.scan.kind ≡ false → head_after c line ≡ c.opener
other c line some = ap (λ t. cond t (opener_of (word_at line)) c.opener) some

-- from a blank state the steps are those from the start
restarted : (c : Cutter) (seen : List ℕ) (x : ℕ) (xs : List ℕ) (b : IsAfter c seen) → is_blank_kind c.scan.kind ≡ true → run c.scan (x ∷ xs) ≡ run start (x ∷ xs)
restarted c seen x xs b was = ap (λ s. run s xs) ((b.blank was).0 x)

kept : (c : Cutter) (seen : List ℕ) (x : ℕ) (xs : List ℕ) (b : IsAfter c seen) → is_physical_line (x ∷ xs) ≡ true → is_blank_kind c.scan.kind ≡ false → is_blank_kind (run c.scan (x ∷ xs)).kind ≡ false
kept c seen x xs b h some = run_kind (x ∷ xs) c.scan (rw inside (line_quiet x xs c.scan h)) some where
  inside : is_ended c.scan.inside ≡ false
  inside = elim (cases_Bool (is_ended c.scan.inside)) [ inl ended ↦ absurd (both_ways _ some (b.waits ended).0) | inr open_ ↦ open_ ]

now_blank : (c : Cutter) (seen : List ℕ) (x : ℕ) (xs : List ℕ) (b : IsAfter c seen) → ends_in_newline (x ∷ xs) ≡ true → is_physical_line (x ∷ xs) ≡ true → is_ended (run c.scan (x ∷ xs)).inside ≡ false → is_blank_kind (run c.scan (x ∷ xs)).kind ≡ true → ((y : ℕ) → next (run c.scan (x ∷ xs)) y ≡ next start y) × ((more : List ℕ) → opener ((b.part ++ x ∷ xs) ++ more) ≡ opener more)
now_blank c seen x xs b n h inside e = elim (cases_Bool (is_blank_kind c.scan.kind)) [
  | inl was ↦
      let same = restarted c seen x xs b was in
      elim (header true (x ∷ xs) n h) [
        | inl r ↦ absurd (both_ways _ inside (ap (λ s. is_ended s.inside) same ∙ r.0))
        | inr r ↦ elim r [
          | inl g ↦ (λ y. ap (λ s. next s y) (same ∙ g.0), λ more. ap opener (append_assoc b.part (x ∷ xs) more) ∙ (b.blank was).1 ((x ∷ xs) ++ more) ∙ opener_is ((x ∷ xs) ++ more) ∙ ap (λ t. opener_of (word_at t)) (g.1 more) ∙ sym (opener_is more))
          | inr g ↦ absurd (both_ways _ g.0 (sym (ap (λ s. is_blank_kind s.kind) same) ∙ e))
        ]
      ]
  | inr some ↦ absurd (both_ways _ (kept c seen x xs b h some) e)
]

now_head : (c : Cutter) (seen : List ℕ) (x : ℕ) (xs : List ℕ) (b : IsAfter c seen) → ends_in_newline (x ∷ xs) ≡ true → is_physical_line (x ∷ xs) ≡ true → is_blank_kind (run c.scan (x ∷ xs)).kind ≡ false → (more : List ℕ) → opener ((b.part ++ x ∷ xs) ++ more) ≡ head_after c (x ∷ xs)
now_head c seen x xs b n h e more = elim (cases_Bool (is_blank_kind c.scan.kind)) [
  | inl was ↦
      let same = restarted c seen x xs b was in
      elim (header true (x ∷ xs) n h) [
        | inl r ↦ absurd (both_ways _ e (ap (λ s. is_blank_kind s.kind) same ∙ r.1))
        | inr r ↦ elim r [
          | inl g ↦ absurd (both_ways _ e (ap (λ s. is_blank_kind s.kind) (same ∙ g.0)))
          | inr g ↦ ap opener (append_assoc b.part (x ∷ xs) more) ∙ (b.blank was).1 ((x ∷ xs) ++ more) ∙ opener_is ((x ∷ xs) ++ more) ∙ g.1 more ∙ sym (chosen c (x ∷ xs) was)
        ]
      ]
  | inr some ↦ ap opener (append_assoc b.part (x ∷ xs) more) ∙ b.head some ((x ∷ xs) ++ more) ∙ sym (other c (x ∷ xs) some)
]

part_depth : (c : Cutter) (seen line : List ℕ) (b : IsAfter c seen) → (run c.scan line).depth ≤ length (b.part ++ line)
part_depth c seen line b = omega (arith, run_depth line c.scan, b.depth, length-append b.part line)

pub open_after_token : (c : Cutter) (seen : List ℕ) (x : ℕ) (xs : List ℕ) → IsAfter c seen → ends_in_newline (x ∷ xs) ≡ true → is_physical_line (x ∷ xs) ≡ true → Takes c (x ∷ xs) → is_ended (run c.scan (x ∷ xs)).inside ≡ false → IsAfter (moved c (x ∷ xs)) (seen ++ x ∷ xs)
open_after_token c seen x xs b n h t inside = record {
  before = b.before;
  part = b.part ++ x ∷ xs;
  seen_is = sym (whole c seen (x ∷ xs) b);
  depth = part_depth c seen (x ∷ xs) b;
  waits = λ e. absurd (both_ways _ inside e);
  blank = λ e. now_blank c seen x xs b n h inside e;
  head = λ e more. now_head c seen x xs b n h e more;
  last = λ some. last_line c seen x xs b h t;
  follows = λ y rest free. follows_line c seen x xs (y ∷ rest) b h (takes_more c x xs (y ∷ rest) n t) ∙ chunk_step (run c.scan (x ∷ xs)) c.phase b.before (b.part ++ x ∷ xs) y rest inside;
  ends = λ e. absurd (both_ways _ inside e);
}

-- a logical line has ended: the phase that the definition finds is the one that the cutter finds
blank_step : (phase : ChunkPhase) (k : LineKind) (v w : Option Opener) (broken : Bool) → is_blank_kind k ≡ true → phase_step phase k v broken ≡ phase_step phase k w broken
blank_step Comments Blank v w broken h = refl
blank_step Comments CommentLine v w broken h = absurd (false≢true h)
blank_step Comments Statement v w broken h = absurd (false≢true h)
blank_step (InBlock word) k v w broken h = refl
blank_step Done k v w broken h = refl

pub phase_is : (c : Cutter) (seen : List ℕ) (x : ℕ) (xs : List ℕ) (b : IsAfter c seen) → ends_in_newline (x ∷ xs) ≡ true → is_physical_line (x ∷ xs) ≡ true → phase_after c.phase (line_here (run c.scan (x ∷ xs)) (b.part ++ x ∷ xs)) ≡ phase_step c.phase (run c.scan (x ∷ xs)).kind (head_after c (x ∷ xs)) (is_broken (run c.scan (x ∷ xs)).inside)
phase_is c seen x xs b n h = elim (cases_Bool (is_blank_kind (run c.scan (x ∷ xs)).kind)) [
  | inl e ↦ blank_step c.phase (run c.scan (x ∷ xs)).kind (opener (b.part ++ x ∷ xs)) (head_after c (x ∷ xs)) (is_broken (run c.scan (x ∷ xs)).inside) e
  | inr e ↦ ap (λ w. phase_step c.phase (run c.scan (x ∷ xs)).kind w (is_broken (run c.scan (x ∷ xs)).inside)) (sym (ap opener (append-nil (b.part ++ x ∷ xs))) ∙ now_head c seen x xs b n h e [])
]

-- the chunk ends after the line
pub ends_here : (c : Cutter) (seen : List ℕ) (x : ℕ) (xs : List ℕ) (phase : ChunkPhase) → (b : IsAfter c seen) → ends_in_newline (x ∷ xs) ≡ true → is_physical_line (x ∷ xs) ≡ true → Takes c (x ∷ xs) → is_ended (run c.scan (x ∷ xs)).inside ≡ true → phase_after c.phase (line_here (run c.scan (x ∷ xs)) (b.part ++ x ∷ xs)) ≡ phase → (rest : List ℕ) → takes phase rest ≡ false → EndsBefore (seen ++ x ∷ xs) rest
ends_here c seen x xs phase b n h t ended is [] stops = ap chunks (append-nil (seen ++ x ∷ xs)) ∙ last_line c seen x xs b h t
ends_here c seen x xs phase b n h t ended is (y ∷ rest) stops =
    let s = run c.scan (x ∷ xs) in
    follows_line c seen x xs (y ∷ rest) b h (takes_more c x xs (y ∷ rest) n t)
    ∙ chunk_cut s c.phase b.before (b.part ++ x ∷ xs) y rest ended (ap (λ g. takes g (y ∷ rest)) is ∙ stops)
    ∙ (λ i. whole c seen (x ∷ xs) b i ∷ seen_chunks (ended_restarts s.inside s.depth s.kind y ended i) Comments [] (y ∷ []) rest)
    ∙ ap (λ cs. (seen ++ x ∷ xs) ∷ cs) (sym (chunks_are (y ∷ rest)))

-- or goes on
goes_here : (c : Cutter) (seen : List ℕ) (x : ℕ) (xs : List ℕ) (phase : ChunkPhase) → (b : IsAfter c seen) → ends_in_newline (x ∷ xs) ≡ true → is_physical_line (x ∷ xs) ≡ true → Takes c (x ∷ xs) → is_ended (run c.scan (x ∷ xs)).inside ≡ true → phase_after c.phase (line_here (run c.scan (x ∷ xs)) (b.part ++ x ∷ xs)) ≡ phase → (y : ℕ) (rest : List ℕ) → takes phase (y ∷ rest) ≡ true → chunks ((seen ++ x ∷ xs) ++ y ∷ rest) ≡ seen_chunks (outside 0 Blank y) phase (seen ++ x ∷ xs) (y ∷ []) rest
goes_here c seen x xs phase b n h t ended is y rest goes =
    let s = run c.scan (x ∷ xs) in
    follows_line c seen x xs (y ∷ rest) b h (takes_more c x xs (y ∷ rest) n t)
    ∙ chunk_goes s c.phase b.before (b.part ++ x ∷ xs) y rest ended (ap (λ g. takes g (y ∷ rest)) is ∙ goes)
    ∙ (λ i. seen_chunks (ended_restarts s.inside s.depth s.kind y ended i) (is i) (whole c seen (x ∷ xs) b i) (y ∷ []) rest)

pub comments_after : (c : Cutter) (seen : List ℕ) (x : ℕ) (xs : List ℕ) → (b : IsAfter c seen) → ends_in_newline (x ∷ xs) ≡ true → is_physical_line (x ∷ xs) ≡ true → Takes c (x ∷ xs) → is_ended (run c.scan (x ∷ xs)).inside ≡ true → phase_after c.phase (line_here (run c.scan (x ∷ xs)) (b.part ++ x ∷ xs)) ≡ Comments → IsAfter fresh (seen ++ x ∷ xs)
comments_after c seen x xs b n h t ended is = record {
  before = seen ++ x ∷ xs;
  part = [];
  seen_is = sym (append-nil (seen ++ x ∷ xs));
  depth = omega arith;
  waits = λ e. absurd (false≢true e);
  blank = λ e. (λ y. refl, λ more. refl);
  head = λ e. absurd (true≢false e);
  last = λ some. last_line c seen x xs b h t;
  follows = λ y rest free. goes_here c seen x xs Comments b n h t ended is y rest refl;
  ends = λ e. absurd (false≢true e);
}

pub block_after : (c : Cutter) (seen : List ℕ) (x : ℕ) (xs : List ℕ) (word : Opener) → (b : IsAfter c seen) → ends_in_newline (x ∷ xs) ≡ true → is_physical_line (x ∷ xs) ≡ true → Takes c (x ∷ xs) → is_ended (run c.scan (x ∷ xs)).inside ≡ true → phase_after c.phase (line_here (run c.scan (x ∷ xs)) (b.part ++ x ∷ xs)) ≡ InBlock word → IsAfter (between word) (seen ++ x ∷ xs)
block_after c seen x xs word b n h t ended is = record {
  before = seen ++ x ∷ xs;
  part = [];
  seen_is = sym (append-nil (seen ++ x ∷ xs));
  depth = omega arith;
  waits = λ e. (refl, (word, refl));
  blank = λ e. (λ y. refl, λ more. refl);
  head = λ e. absurd (true≢false e);
  last = λ some. last_line c seen x xs b h t;
  follows = λ y rest goes. goes_here c seen x xs (InBlock word) b n h t ended is y rest (goes refl);
  ends = λ e rest stops. ends_here c seen x xs (InBlock word) b n h t ended is rest stops;
}

pub fresh_after : IsAfter fresh []
fresh_after = record {
  before = [];
  part = [];
  seen_is = refl;
  depth = omega arith;
  waits = λ e. absurd (false≢true e);
  blank = λ e. (λ y. refl, λ more. refl);
  head = λ e. absurd (true≢false e);
  last = λ some. absurd (omega arith);
  follows = λ y rest free. chunks_are (y ∷ rest);
  ends = λ e. absurd (false≢true e);
}
