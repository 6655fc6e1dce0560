-- What follows a block is judged by its first line: whether a block goes on with it.
use Rattle.std.proofs.Common.{◌≡◌, ℕ, ◌||◌, ◌⊎◌, List, [], ◌∷◌, ◌++◌, true, refl, sym, ap, ◌∙◌, inl, inr, append_assoc, append-nil}
use Rattle.std.proofs.lemmas.Bool.{cases_Bool}
use Rattle.bz_token.specs.declared.cutter.scan.LineKind.TheVariants.{Blank}
use Rattle.bz_token.specs.declared.cutter.scan.Scan.{Scan}
use Rattle.bz_token.specs.declared.cutter.block.Opener.{Opener}
use Rattle.bz_token.specs.Blocks.{goes_on}
use Rattle.bz_token.specs.LogicalLines.{Line, lines}
use Rattle.bz_token.specs.private.CutSteps.{is_ended, is_broken, line_at, line_here, outside, next, start}
use Rattle.bz_token.proofs.CutLaws.{EndsRight, ends_right, first_word}
use Rattle.bz_token.proofs.CutLines.{lines_are}
use Rattle.bz_token.proofs.CutSeen.{seen_lines, final_kind}
use Rattle.bz_token.proofs.CutStrings.{seen_step}
use Rattle.bz_layout_laws.proofs.BlockLines.{same_branch}
use Rattle.bz_token.specs.Pieces.{is_white}

line_cut : (s : Scan) (seen : List ℕ) (b : ℕ) (bs : List ℕ) → is_ended s.inside ≡ true → seen_lines s seen (b ∷ bs) ≡ line_here s seen ∷ seen_lines (next s b) (b ∷ []) bs
line_cut s seen b bs h = rw (h, seen_lines) refl

-- the first line after these bytes of it: a part of the text, up to a newline or the end
record First (all : List Line) (seen bytes : List ℕ) : Type 0 where
  line : Line
  others : List Line
  more : List ℕ
  rest : List ℕ
  lines_are : all ≡ line ∷ others
  text_is : line.text ≡ seen ++ more
  bytes_are : bytes ≡ more ++ rest
  ends : (rest ≡ []) ⊎ ((xs : List ℕ) × (seen ++ more ≡ xs ++ 10 ∷ []))

first_from : (bytes : List ℕ) (s : Scan) (seen : List ℕ) → EndsRight s seen → First (seen_lines s seen bytes) seen bytes
first_from [] s seen right = record {
  line = line_at seen (final_kind s.inside s.kind) (is_broken s.inside);
  others = [];
  more = [];
  rest = [];
  lines_are = refl;
  text_is = sym (append-nil seen);
  bytes_are = refl;
  ends = inl refl;
}
first_from (b ∷ bs) s seen right = elim (cases_Bool (is_ended s.inside)) [
  | inl ended ↦
      let r = right ended in
      record {
        line = line_here s seen;
        others = seen_lines (next s b) (b ∷ []) bs;
        more = [];
        rest = b ∷ bs;
        lines_are = line_cut s seen b bs ended;
        text_is = sym (append-nil seen);
        bytes_are = refl;
        ends = inr (r.0, append-nil seen ∙ r.1);
      }
  | inr inside ↦
      let f = first_from bs (next s b) (seen ++ b ∷ []) (ends_right s seen b) in
      record {
        line = f.line;
        others = f.others;
        more = b ∷ f.more;
        rest = f.rest;
        lines_are = seen_step s seen b bs inside ∙ f.lines_are;
        text_is = f.text_is ∙ append_assoc seen (b ∷ []) f.more;
        bytes_are = ap (λ xs. b ∷ xs) f.bytes_are;
        ends = elim f.ends [ inl none ↦ inl none | inr e ↦ inr (e.0, sym (append_assoc seen (b ∷ []) f.more) ∙ e.1) ];
      }
]

-- whether a block goes on with it is told by its first line
pub record Begun (b : ℕ) (bs : List ℕ) : Type 0 where
  pub line : Line
  pub others : List Line
  pub lines_are : lines (b ∷ bs) ≡ line ∷ others
  pub goes : (word : Opener) → goes_on word line.text ≡ goes_on word (b ∷ bs)

pub begun : (b : ℕ) (bs : List ℕ) → Begun b bs
begun b bs =
    let f = first_from bs (outside 0 Blank b) (b ∷ []) (ends_right start [] b) in
    record {
      line = f.line;
      others = f.others;
      lines_are = lines_are (b ∷ bs) ∙ f.lines_are;
      goes = λ word.
          ap (goes_on word) f.text_is
          ∙ ap (λ t. is_white true b || t) (same_branch word (b ∷ f.more) (b ∷ (f.more ++ f.rest)) (first_word b f.more f.rest f.ends))
          ∙ ap (λ xs. goes_on word (b ∷ xs)) (sym f.bytes_are);
    }
