-- What reads gave, with more reads after them.
use Rattle.std.proofs.Common.{◌≡◌, ℕ, Bool, true, false, ◌||◌, List, [], ◌∷◌, ◌++◌, take, drop, take-append-drop, refl, sym, ◌∙◌, ap, append_assoc, append-nil}
use Rattle.std.specs.Prelude.{IsTrue}
use Rattle.std.specs.List.{concat}
use Rattle.std.proofs.lemmas.Bool.{false≢true}
use Rattle.std.proofs.lemmas.List.Concat.{flat_map-append}
use Rattle.std.proofs.lemmas.List.Folds.{concat-append}
use Rattle.bz_token.specs.Chunks.{chunks}
use Rattle.bz_token.specs.Cuts.{EndsBefore}
use Rattle.bz_devices.specs.Device.{ends, NoneEnds}
use Rattle.bz_devices.specs.DeviceLaws.{ends-append}

pub joined_more : (ps qs : List (List ℕ)) → concat (ps ++ qs) ≡ concat ps ++ concat qs
joined_more ps qs = flat_map-append (λ piece. piece) ps qs

-- whether the end was met
or_nothing : (b : Bool) → (b || false) ≡ b
or_nothing true = refl
or_nothing false = refl

abbrev is_some_list : List (List ℕ) → Bool
is_some_list [] = false
is_some_list (x ∷ xs) = true

some_pieces : {X : Type 0} (q : List ℕ) (qs : List (List ℕ)) → q ∷ qs ≡ [] → X
some_pieces q qs h = absurd (false≢true (sym (ap is_some_list h)))

pub ends_more : (before : Bool) (ps qs : List (List ℕ)) → before ≡ ends ps → (IsTrue before → qs ≡ []) → (before || ends qs) ≡ ends (ps ++ qs)
ends_more before ps [] same stays = or_nothing before ∙ same ∙ ap ends (sym (append-nil ps))
ends_more true ps (q ∷ qs) same stays = some_pieces q qs (stays refl)
ends_more false ps (q ∷ qs) same stays = sym (ends-append ps q qs)

pub none_ends_more : (ps qs : List (List ℕ)) → NoneEnds ps → NoneEnds qs → NoneEnds (ps ++ qs)
none_ends_more [] qs p q = q
none_ends_more (x ∷ ps) qs p q = (p.0, none_ends_more ps qs p.1 q)

or_is_false : (a b : Bool) → (a || b) ≡ false → a ≡ false
or_is_false true b h = h
or_is_false false b h = refl

pub open_more : (old new : Bool) (ps qs : List (List ℕ)) → new ≡ (old || ends qs) → (old ≡ false → NoneEnds ps) → (new ≡ false → NoneEnds qs) → new ≡ false → NoneEnds (ps ++ qs)
open_more old new ps qs is p q h = none_ends_more ps qs (p (or_is_false old (ends qs) (sym is ∙ h))) (q h)

-- the bytes of the reads are the chunks that are done, the chunk that is taken, and the bytes ahead
pub bytes_more : (ps qs cs : List (List ℕ)) (a b chunk left : List ℕ) → concat ps ≡ concat cs ++ a → b ≡ a ++ concat qs → b ≡ chunk ++ left
    → concat (ps ++ qs) ≡ concat (cs ++ chunk ∷ []) ++ left
bytes_more ps qs cs a b chunk left done read cut =
    joined_more ps qs
    ∙ ap (λ l. l ++ concat qs) done
    ∙ append_assoc (concat cs) a (concat qs)
    ∙ ap (λ l. concat cs ++ l) (sym read ∙ cut)
    ∙ sym (append_assoc (concat cs) chunk left)
    ∙ ap (λ l. l ++ left) (ap (λ l. concat cs ++ l) (sym (append-nil chunk)) ∙ sym (concat-append cs (chunk ∷ [])))

-- the file is the bytes of the reads and the rest
pub file_more : (ps qs : List (List ℕ)) (rest : List ℕ) → concat (ps ++ qs) ++ rest ≡ concat ps ++ (concat qs ++ rest)
file_more ps qs rest = ap (λ l. l ++ rest) (joined_more ps qs) ∙ append_assoc (concat ps) (concat qs) rest

joined_nothing : (qs : List (List ℕ)) (rest : List ℕ) → qs ≡ [] → rest ≡ [] → concat qs ++ rest ≡ []
joined_nothing qs rest none over = ap (λ l. concat l ++ rest) none ∙ over

-- the chunks of the file after more reads: those that are done, and those of the bytes ahead with the rest
pub chunks_more : (ps qs cs : List (List ℕ)) (a b : List ℕ) (old new : Bool)
    → ((rest : List ℕ) → (IsTrue old → rest ≡ []) → chunks (concat ps ++ rest) ≡ cs ++ chunks (a ++ rest))
    → b ≡ a ++ concat qs → new ≡ (old || ends qs) → (IsTrue old → qs ≡ [])
    → (rest : List ℕ) → (IsTrue new → rest ≡ []) → chunks (concat (ps ++ qs) ++ rest) ≡ cs ++ chunks (b ++ rest)
chunks_more ps qs cs a b old new first read is stays rest over =
    ap chunks (file_more ps qs rest)
    ∙ first (concat qs ++ rest) (λ h. joined_nothing qs rest (stays h) (over (was_true old (ends qs) new is h)))
    ∙ ap (λ l. cs ++ chunks l) (sym (append_assoc a (concat qs) rest) ∙ ap (λ l. l ++ rest) (sym read))
  where
    was_true : (o e n : Bool) → n ≡ (o || e) → IsTrue o → IsTrue n
    was_true true e n same h = same
    was_true false e n same h = absurd (false≢true h)

-- and where a chunk of the bytes ahead is taken
pub chunk_taken : (cs : List (List ℕ)) (b rest file : List ℕ) (n : ℕ)
    → chunks file ≡ cs ++ chunks (b ++ rest) → EndsBefore (take n b) (drop n b ++ rest)
    → chunks file ≡ cs ++ take n b ∷ chunks (drop n b ++ rest)
chunk_taken cs b rest file n all taken =
    all ∙ ap (λ l. cs ++ chunks l) (ap (λ l. l ++ rest) (sym (take-append-drop n b)) ∙ append_assoc (take n b) (drop n b) rest)
    ∙ ap (λ l. cs ++ l) taken

pub one_more : (cs more : List (List ℕ)) (chunk : List ℕ) → cs ++ chunk ∷ more ≡ (cs ++ chunk ∷ []) ++ more
one_more cs more chunk = sym (append_assoc cs (chunk ∷ []) more)
