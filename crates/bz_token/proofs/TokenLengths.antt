-- The token of a kind that a text begins with, by what was scanned of it.
use Rattle.std.proofs.Common.{◌≡◌, ℕ, zero, suc, ◌==◌, ◌&&◌, List, [], ◌∷◌, take, drop, true, false, not, refl, sym, ap, subst, ◌∙◌, take-append-drop}
use Rattle.std.specs.Prelude.{Option, Some, None, if◌then◌else◌}
use Rattle.std.specs.List.{list_all, prefix_len}
use Rattle.std.specs.Char.{is_ascii_digit}
use Rattle.std.proofs.lemmas.Bool.{and_parts, false≢true}
use Rattle.bz_token.specs.declared.scan_string.Opening.{Opening}
use Rattle.bz_token.specs.declared.scan_token.Scanned.{Scanned}
use Rattle.bz_token.specs.declared.token.Kind.{Kind}
use Rattle.bz_token.specs.declared.token.Kind.TheVariants.{Identifier, String, Comment}
use Rattle.bz_token.specs.Lexical.{is_word_byte, is_keyword, is_text, counts, IsToken, HasNoToken}
use Rattle.bz_token.specs.private.BadPlaces.{IsOpenText}
use Rattle.bz_token.specs.private.Scans.{IsScanned}
use Rattle.bz_token.specs.Lengths.{front_word, word_length, IsTokenOf}
use Rattle.bz_token.proofs.Openings.{none_some, opening_more}
use Rattle.bz_token.proofs.Scanning.{all_front}
use Rattle.bz_token.specs.Common.{is_empty, begins}
use Rattle.bz_token.specs.Strings.{opening}
use Rattle.bz_token.specs.private.Closing.{is_closed}

-- the word at the front is an identifier: it begins as a name, and is no keyword
pub identifier_front : (bytes : List ℕ) (n : ℕ) → n ≡ prefix_len is_word_byte bytes → (not (is_empty (take n bytes)) && not (begins is_ascii_digit (take n bytes))) ≡ true
    → is_keyword (take n bytes) ≡ false → n ≡ word_length Identifier bytes
identifier_front bytes n len first other =
    let name = ap (λ k. not (is_empty (take k bytes)) && not (begins is_ascii_digit (take k bytes))) (sym len) ∙ first in
    let word = ap (λ k. is_keyword (take k bytes)) (sym len) ∙ other in
    len ∙ sym (ap (λ t. if t then prefix_len is_word_byte bytes else 0)
    (ap (λ a. (a && list_all is_word_byte (front_word bytes)) && not (is_keyword (front_word bytes))) name
    ∙ ap (λ l. l && not (is_keyword (front_word bytes))) (all_front is_word_byte bytes) ∙ ap (λ k. not k) word))

-- no string begins where no token of any kind does
pub none_of : (bytes : List ℕ) → HasNoToken bytes → (n : ℕ) → IsTokenOf String bytes n → ⊥
none_of bytes none n is = none String (take n bytes) (drop n bytes) (sym (take-append-drop n bytes)) is.1.whole
    (subst (λ place. counts place String (take n bytes) ≡ true) (take-append-drop n bytes) is.1.counted)

-- nor a string where no quotes open one
pub unopened : (bytes : List ℕ) → opening bytes ≡ None → (n : ℕ) → IsTokenOf String bytes n → ⊥
unopened bytes unquoted n is = by (opening (take n bytes)) refl is.1.whole
  where
    by : (o : Option Opening) → opening (take n bytes) ≡ o → is_closed o (take n bytes) ≡ true → ⊥
    by None e closed = false≢true closed
    by (Some o) e closed =
        let more = opening_more (take n bytes) (drop n bytes) o e in
        none_some more.more (sym unquoted ∙ ap opening (sym (take-append-drop n bytes)) ∙ more.opens)

-- nor where they are open
pub unclosed : (bytes : List ℕ) → IsOpenText bytes → (n : ℕ) → IsTokenOf String bytes n → ⊥
unclosed bytes never = none_of bytes never.none

-- what was scanned is a token of its kind
pub scanned_of : (kind : Kind) (bytes : List ℕ) (s : Scanned) → IsScanned bytes s → s.kind ≡ kind → IsTokenOf kind bytes s.len
scanned_of kind bytes s found is = (found.within, subst (λ k. IsToken k (take s.len bytes) (drop s.len bytes)) is found.token)

-- what begins with no number sign begins with no comment
pub no_comment : (bytes : List ℕ) → begins (λ b. b == 35) bytes ≡ false → (n : ℕ) → IsTokenOf Comment bytes n → ⊥
no_comment bytes other n is = by n bytes other is.1.whole
  where
    by : (n : ℕ) (bytes : List ℕ) → begins (λ b. b == 35) bytes ≡ false → is_text Comment (take n bytes) ≡ true → ⊥
    by zero bytes other whole = false≢true whole
    by (suc n) [] other whole = false≢true whole
    by (suc n) (b ∷ bs) other whole = false≢true (sym other ∙ (and_parts _ _ (and_parts _ _ whole).0).0)
