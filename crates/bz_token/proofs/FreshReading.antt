-- What stands after lines is read as a text of its own.
use Rattle.std.proofs.Common.{◌≡◌, ℕ, List, [], ◌∷◌, ◌++◌, refl, sym, ap, ap₂, subst, ◌∙◌, arith, inl, inr}
use Rattle.std.specs.Prelude.{Option, Some, None}
use Rattle.std.specs.List.{concat}
use Rattle.bz_token.specs.declared.fault.LexFault.{LexFault}
use Rattle.bz_token.specs.Places.{Placed, line_at}
use Rattle.bz_token.specs.Reading.{tokens_of}
use Rattle.bz_token.specs.Faults.{IsFirstFault}
use Rattle.bz_token.specs.Chunks.{chunks}
use Rattle.bz_token.specs.UpToFault.{IsReadAs}
use Rattle.bz_token.specs.FreshStart.{AreLinesOf, AreTokensOfChunks}
use Rattle.bz_token.proofs.Progress.{newlines-append}
use Rattle.bz_token.proofs.Joins.{joined_tokens, tokens_after_lines}
use Rattle.bz_token.proofs.FaultJoins.{fault_after_lines}
use Rattle.bz_token.proofs.FreshChunks.{lines_of_chunks}
use Rattle.bz_token.proofs.SomeReading.{some_reading}
use Rattle.bz_token.proofs.OneReading.{one_way, tokens_or_fault}

pub read_after_lines : (first depth : ℕ) (a b : List ℕ) (ts us : List Placed) (fault : Option LexFault) → AreLinesOf first depth a ts → IsReadAs (line_at first a) depth b us fault → IsReadAs first depth (a ++ b) (ts ++ us) fault
read_after_lines first depth a b ts us None x y = tokens_after_lines first depth a b ts us x y
read_after_lines first depth a b ts us (Some f) x y =
    let is = fault_after_lines first depth a b ts f x y.0 in
    (is.0, ap₂ (λ s t. s ++ t) x.4 y.1 ∙ sym (joined_tokens first depth x.0 y.0.pieces a x.1 x.3) ∙ ap (tokens_of first [] []) (sym is.1))

pub read_split : (first depth : ℕ) (a b : List ℕ) (ts vs : List Placed) (fault : Option LexFault) → AreLinesOf first depth a ts → IsReadAs first depth (a ++ b) vs fault → (us : List Placed) × IsReadAs (line_at first a) depth b us fault × (vs ≡ ts ++ us)
read_split first depth a b ts vs fault x whole =
    let r = some_reading (line_at first a) depth b in
    let one = one_way first depth (a ++ b) vs (ts ++ r.0) fault r.1 whole (read_after_lines first depth a b ts r.0 r.1 x r.2) in
    (r.0, subst (λ f. IsReadAs (line_at first a) depth b r.0 f) (sym one.1) r.2, one.0)

-- what is left of a file after chunks with tokens
pub rest_read : (first depth : ℕ) (cs ds : List (List ℕ)) (d bytes rest : List ℕ) (ts us : List Placed) (fault : Option LexFault) → chunks bytes ≡ cs ++ d ∷ ds → AreTokensOfChunks first depth cs ts → bytes ≡ concat cs ++ rest → IsReadAs (line_at first (concat cs)) depth rest us fault
    → IsReadAs first depth bytes (ts ++ us) fault
rest_read first depth cs ds d bytes rest ts us fault e t whole r =
    let l = lines_of_chunks first depth cs ds d bytes ts e t in
    subst (λ x. IsReadAs first depth x (ts ++ us) fault) (sym whole) (read_after_lines first depth (concat cs) rest ts us fault l.3 r)

pub rest_split : (first depth : ℕ) (cs ds : List (List ℕ)) (d bytes rest : List ℕ) (ts vs : List Placed) (fault : Option LexFault) → chunks bytes ≡ cs ++ d ∷ ds → AreTokensOfChunks first depth cs ts → bytes ≡ concat cs ++ rest → IsReadAs first depth bytes vs fault
    → (us : List Placed) × IsReadAs (line_at first (concat cs)) depth rest us fault × (vs ≡ ts ++ us)
rest_split first depth cs ds d bytes rest ts vs fault e t whole r =
    let l = lines_of_chunks first depth cs ds d bytes ts e t in
    read_split first depth (concat cs) rest ts vs fault l.3 (subst (λ x. IsReadAs first depth x vs fault) whole r)

-- where no chunk has a fault, all have tokens
pub chunks_without_fault : (first depth : ℕ) (cs : List (List ℕ)) → ((before after : List (List ℕ)) (c : List ℕ) (f : LexFault) → cs ≡ before ++ c ∷ after → IsFirstFault (line_at first (concat before)) depth c f → ⊥) → (ts : List Placed) × AreTokensOfChunks first depth cs ts
chunks_without_fault first depth [] none = ([], refl)
chunks_without_fault first depth (c ∷ cs) none = elim (tokens_or_fault first depth c) [
  | inr f ↦ absurd (none [] cs c f.0 refl (subst (λ line. IsFirstFault line depth c f.0) (no_line first) f.1))
  | inl ts ↦
      let more = chunks_without_fault (line_at first c) depth cs (λ before after d f e is. none (c ∷ before) after d f (ap (λ ds. c ∷ ds) e) (subst (λ line. IsFirstFault line depth d f) (lines c (concat before)) is)) in
      (ts.0 ++ more.0, (ts.0, more.0, ts.1, more.1, refl))
]
  where
    no_line : (first : ℕ) → first ≡ line_at first []
    no_line first = omega arith

    lines : (c more : List ℕ) → line_at (line_at first c) more ≡ line_at first (c ++ more)
    lines c more = omega (arith, newlines-append c more)
