-- What a file is read as on the lines of a chunk is what the chunk is read as by itself.
use Rattle.std.proofs.Common.{◌≡◌, ℕ, ◌<◌, List, [], ◌∷◌, ◌++◌, length, true, refl, sym, ap, ap₂, subst, ◌∙◌, append-nil}
use Rattle.std.specs.Prelude.{◌↔◌, Option, Some, None, nat_lt}
use Rattle.std.specs.List.{concat}
use Rattle.std.proofs.lemmas.List.Elements.{filter-append}
use Rattle.bz_token.specs.declared.fault.LexFault.{LexFault}
use Rattle.bz_token.specs.Places.{Placed, line_at}
use Rattle.bz_token.specs.Chunks.{chunks}
use Rattle.bz_token.specs.Cuts.{EndsBefore, ends_in_newline}
use Rattle.bz_token.specs.UpToFault.{IsReadAs}
use Rattle.bz_token.specs.FreshStart.{AreTokensOfChunks, is_line_of, line_of, tokens_on_lines, fault_on_lines}
use Rattle.bz_token.proofs.FreshChunks.{chunk_lines, first_cut, lines_of_chunks}
use Rattle.bz_token.proofs.ChunkFaults.{chunk_read, chunk_newline}
use Rattle.bz_token.proofs.FreshReading.{read_after_lines}
use Rattle.bz_token.proofs.OnLines.{read_lines, fault_line, lines_end, all_kept, none_kept, line_before, line_after}
use Rattle.bz_token.proofs.SomeReading.{some_reading}
use Rattle.bz_token.proofs.OneReading.{one_way}

nil : (us : List Placed) → us ++ [] ≡ us
nil [] = refl
nil (u ∷ us) = ap (λ x. u ∷ x) (nil us)

-- what a text that begins with a chunk is read as, and what of it stands on the chunk's lines
record ReadOn (first depth : ℕ) (d r : List ℕ) (us : List Placed) (fault : Option LexFault) : Type 0 where
  pub others : List Placed
  pub told : Option LexFault
  pub whole : IsReadAs first depth (d ++ r) (us ++ others) told
  pub tokens_are : tokens_on_lines first d (us ++ others) ≡ us
  pub fault_is : fault_on_lines first d told ≡ fault

alone : (first depth : ℕ) (d r : List ℕ) (us : List Placed) (fault : Option LexFault) → IsReadAs first depth (d ++ r) us fault → IsReadAs first depth d us fault → fault_on_lines first d fault ≡ fault → ReadOn first depth d r us fault
alone first depth d r us fault whole is same = record {
  others = [];
  told = fault;
  whole = subst (λ ts. IsReadAs first depth (d ++ r) ts fault) (sym (nil us)) whole;
  tokens_are = ap (tokens_on_lines first d) (nil us) ∙ all_kept (λ t. is_line_of first d t.line) us (read_lines first depth d us fault is);
  fault_is = same;
}

chunk_first : (first depth : ℕ) (d r : List ℕ) (us : List Placed) (fault : Option LexFault) → EndsBefore d r → 0 < length d → IsReadAs first depth d us fault → ReadOn first depth d r us fault
chunk_first first depth d r us (Some f) cut some is =
    let here = fault_line first depth d f is.0 in
    alone first depth d r us (Some f) (chunk_read first depth d r us f cut some is) is (rw here refl)
chunk_first first depth d [] us None cut some is = alone first depth d [] us None (subst (λ x. IsReadAs first depth x us None) (sym (append-nil d)) is) is refl
chunk_first first depth d (b ∷ bs) us None cut some is =
    let newline = chunk_newline d b bs cut some in
    let lines = chunk_lines first depth d b bs us cut some is in
    let next = some_reading (line_at first d) depth (b ∷ bs) in
    let after = read_lines (line_at first d) depth (b ∷ bs) next.0 next.1 next.2 in
    record {
      others = next.0;
      told = next.1;
      whole = read_after_lines first depth d (b ∷ bs) us next.0 next.1 lines next.2;
      tokens_are =
          filter-append (λ t. is_line_of first d t.line) us next.0
          ∙ ap₂ (λ x y. x ++ y) (all_kept (λ t. is_line_of first d t.line) us (read_lines first depth d us None is))
          (none_kept (λ t. is_line_of (line_at first d) (b ∷ bs) t.line) (λ t. is_line_of first d t.line) (λ t h. line_after first t.line d (b ∷ bs) newline h) next.0 after)
          ∙ nil us;
      fault_is = later next.1 next.2 newline;
    }
  where
    later : (told : Option LexFault) → IsReadAs (line_at first d) depth (b ∷ bs) (some_reading (line_at first d) depth (b ∷ bs)).0 told → ends_in_newline d ≡ true → fault_on_lines first d told ≡ None
    later None is newline = refl
    later (Some g) is newline =
        let elsewhere = line_after first (line_of g) d (b ∷ bs) newline (fault_line (line_at first d) depth (b ∷ bs) g is.0) in
        rw elsewhere refl

-- the same of a file, after chunks with tokens
record FileReadOn (first depth : ℕ) (bytes : List ℕ) (line : ℕ) (d : List ℕ) (ts us : List Placed) (fault : Option LexFault) : Type 0 where
  pub others : List Placed
  pub told : Option LexFault
  pub whole : IsReadAs first depth bytes (ts ++ (us ++ others)) told
  pub tokens_are : tokens_on_lines line d (ts ++ (us ++ others)) ≡ us
  pub fault_is : fault_on_lines line d told ≡ fault

file_read : (first depth : ℕ) (cs ds : List (List ℕ)) (d bytes : List ℕ) (ts us : List Placed) (fault : Option LexFault) → chunks bytes ≡ cs ++ d ∷ ds → AreTokensOfChunks first depth cs ts → IsReadAs (line_at first (concat cs)) depth d us fault
    → FileReadOn first depth bytes (line_at first (concat cs)) d ts us fault
file_read first depth cs ds d bytes ts us fault e t is =
    let line = line_at first (concat cs) in
    let l = lines_of_chunks first depth cs ds d bytes ts e t in
    let cut = first_cut l.0 d ds l.2 in
    let on = chunk_first line depth d cut.rest us fault cut.first_is cut.some is in
    let bytes_are : bytes ≡ concat cs ++ (d ++ cut.rest) = l.1 ∙ ap (λ x. concat cs ++ x) cut.bytes_are in
    record {
      others = on.others;
      told = on.told;
      whole = subst (λ x. IsReadAs first depth x (ts ++ (us ++ on.others)) on.told) (sym bytes_are) (read_after_lines first depth (concat cs) (d ++ cut.rest) ts (us ++ on.others) on.told l.3 on.whole);
      tokens_are =
          filter-append (λ t. is_line_of line d t.line) ts (us ++ on.others)
          ∙ ap₂ (λ x y. x ++ y) (none_kept (λ t. nat_lt t.line line) (λ t. is_line_of line d t.line) (λ t h. line_before line t.line d h) ts (lines_end first depth (concat cs) ts l.3)) on.tokens_are;
      fault_is = on.fault_is;
    }

pub on_its_lines : (first depth : ℕ) (cs ds : List (List ℕ)) (d bytes : List ℕ) (ts us vs : List Placed) (f g : Option LexFault) → chunks bytes ≡ cs ++ d ∷ ds → AreTokensOfChunks first depth cs ts → IsReadAs first depth bytes vs g
    → (IsReadAs (line_at first (concat cs)) depth d us f ↔ ((us ≡ tokens_on_lines (line_at first (concat cs)) d vs) × (f ≡ fault_on_lines (line_at first (concat cs)) d g)))
on_its_lines first depth cs ds d bytes ts us vs f g e t whole = (told us f, back)
  where
    told : (us : List Placed) (f : Option LexFault) → IsReadAs (line_at first (concat cs)) depth d us f → (us ≡ tokens_on_lines (line_at first (concat cs)) d vs) × (f ≡ fault_on_lines (line_at first (concat cs)) d g)
    told us f is =
        let r = file_read first depth cs ds d bytes ts us f e t is in
        let one = one_way first depth bytes vs (ts ++ (us ++ r.others)) g r.told whole r.whole in (
          sym (ap (tokens_on_lines (line_at first (concat cs)) d) one.0 ∙ r.tokens_are),
          sym (ap (fault_on_lines (line_at first (concat cs)) d) one.1 ∙ r.fault_is),
        )

    back : ((us ≡ tokens_on_lines (line_at first (concat cs)) d vs) × (f ≡ fault_on_lines (line_at first (concat cs)) d g)) → IsReadAs (line_at first (concat cs)) depth d us f
    back h =
        let r = some_reading (line_at first (concat cs)) depth d in
        let same = told r.0 r.1 r.2 in
        subst (λ x. IsReadAs (line_at first (concat cs)) depth d us x) (same.1 ∙ sym h.1) (subst (λ x. IsReadAs (line_at first (concat cs)) depth d x r.1) (same.0 ∙ sym h.0) r.2)

-- the first fault of a chunk, and the tokens before it
pub fault_of_file : (first depth : ℕ) (cs ds : List (List ℕ)) (d bytes : List ℕ) (ts us : List Placed) (f : LexFault) → chunks bytes ≡ cs ++ d ∷ ds → AreTokensOfChunks first depth cs ts → IsReadAs (line_at first (concat cs)) depth d us (Some f) → IsReadAs first depth bytes (ts ++ us) (Some f)
fault_of_file first depth cs ds d bytes ts us f e t is =
    let line = line_at first (concat cs) in
    let l = lines_of_chunks first depth cs ds d bytes ts e t in
    let cut = first_cut l.0 d ds l.2 in
    let here : IsReadAs line depth l.0 us (Some f) = subst (λ x. IsReadAs line depth x us (Some f)) (sym cut.bytes_are) (chunk_read line depth d cut.rest us f cut.first_is cut.some is) in
    subst (λ x. IsReadAs first depth x (ts ++ us) (Some f)) (sym l.1) (read_after_lines first depth (concat cs) l.0 ts us (Some f) l.3 here)

-- the tokens of a chunk without a fault
pub tokens_of_file : (first depth : ℕ) (cs ds : List (List ℕ)) (d bytes : List ℕ) (ts us vs : List Placed) (g : Option LexFault) → chunks bytes ≡ cs ++ d ∷ ds → AreTokensOfChunks first depth cs ts → IsReadAs (line_at first (concat cs)) depth d us None → IsReadAs first depth bytes vs g
    → (ws : List Placed) × (vs ≡ ts ++ (us ++ ws))
tokens_of_file first depth cs ds d bytes ts us vs g e t is whole =
    let r = file_read first depth cs ds d bytes ts us None e t is in
    (r.others, (one_way first depth bytes vs (ts ++ (us ++ r.others)) g r.told whole r.whole).0)
