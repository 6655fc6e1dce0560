-- The first token of tokens whose lexemes are known.
use Rattle.std.proofs.Common.{◌≡◌, ℕ, ◌&&◌, List, [], ◌∷◌, Bool, true, false, Option, None, refl, sym, ap, ◌∙◌}
use Rattle.std.proofs.lemmas.Bool.{false≢true}
use Rattle.bz_token.specs.Ends.{is_comment_kind}
use Rattle.bz_token.specs.Places.{Placed}
use Rattle.bz_tree.specs.Cells.{Last, no_token, is_on as is_on_line}
use Rattle.bz_layout_laws.specs.Lexemes.{Lexeme, end_after, is_on, lexemes_from}
use Rattle.bz_token.specs.Common.{is_filled}

abbrev head_or : Lexeme → List Lexeme → Lexeme
head_or l [] = l
head_or l (x ∷ xs) = x

abbrev rest_of : List Lexeme → List Lexeme
rest_of [] = []
rest_of (x ∷ xs) = xs

-- the token of a lexeme at a place
abbrev pub placed_at : Lexeme → ℕ → ℕ → Bool → Placed
placed_at l line col fresh = record { kind = l.kind; text = l.text; line = line; col = col; fresh = fresh }

pub record First (last : Option ℕ) (ts : List Placed) (l : Lexeme) (ls : List Lexeme) : Type 0 where
  pub line : ℕ
  pub col : ℕ
  pub fresh : Bool
  pub others : List Placed
  pub are : ts ≡ placed_at l line col fresh ∷ others
  pub beside : (is_comment_kind l.kind && is_on last line) ≡ l.beside
  pub rest : lexemes_from (end_after (placed_at l line col fresh)) others ≡ ls

pub take_first : (last : Option ℕ) (ts : List Placed) (l : Lexeme) (ls : List Lexeme) → lexemes_from last ts ≡ l ∷ ls → First last ts l ls
take_first last [] l ls h = absurd (false≢true (ap is_filled h))
take_first last (t ∷ ts) l ls h =
    let first : record { kind = t.kind; text = t.text; beside = is_comment_kind t.kind && is_on last t.line } ≡ l = ap (head_or l) h in
    let same : t ≡ placed_at l t.line t.col t.fresh = λ i. record { kind = (first i).kind; text = (first i).text; line = t.line; col = t.col; fresh = t.fresh } in
    record {
      line = t.line;
      col = t.col;
      fresh = t.fresh;
      others = ts;
      are = ap (λ x. x ∷ ts) same;
      beside = ap (λ x. is_comment_kind x.kind && is_on last t.line) (sym same) ∙ ap (λ x. x.beside) first;
      rest = ap (λ x. lexemes_from (end_after x) ts) (sym same) ∙ ap rest_of h;
    }

pub no_tokens : (last : Option ℕ) (ts : List Placed) → lexemes_from last ts ≡ [] → ts ≡ []
no_tokens last [] h = refl
no_tokens last (t ∷ ts) h = absurd (false≢true (sym (ap is_filled h)))

-- where no comment stands first on that line, the line before plays no part
abbrev pub begins_beside : List Lexeme → Bool
begins_beside [] = false
begins_beside (l ∷ ls) = l.beside

pub from_none : (last : Option ℕ) (ts : List Placed) (ls : List Lexeme) → lexemes_from last ts ≡ ls → begins_beside ls ≡ false → lexemes_from None ts ≡ ls
from_none last [] ls h none = h
from_none last (t ∷ ts) ls h none =
    ap (λ b. record { kind = t.kind; text = t.text; beside = b } ∷ lexemes_from (end_after t) ts) (not_on (is_comment_kind t.kind) ∙ sym (ap begins_beside h ∙ none)) ∙ h
  where
    not_on : (b : Bool) → (b && false) ≡ false
    not_on true = refl
    not_on false = refl

-- what stands before a token ends on the same line, as lexemes and as the tree see it
pub record Agree (at : Last) (last : Option ℕ) : Type 0 where
  pub same : (line : ℕ) → is_on_line at line ≡ is_on last line

pub agree_none : Agree no_token None
agree_none = record { same = λ line. refl }
