use Rattle.std.proofs.Common.{◌≡◌, ◌∙◌, ℕ, List, ◌∷◌, ◌++◌, ap, sym}
use Rattle.std.specs.Prelude.{bytes_eq}
use Rattle.bz_layout.specs.Pieces.{bytes_of, comments, indent}
use Rattle.bz_canonical.proofs.Taken.{taken}
use Rattle.bz_canonical.proofs.arguments.read_argument_name.Goals as goal

pub returns : goal.returns
returns c attr =
    let above = c.after_comments-above.ensures in
    let word = c.in_ok-equals.ensures in
    let name : List ℕ = c.in_ok-name.name.now in
    let same : word.token ≡ name = sym (c.in_ok-name.ensures ∙ taken c.in_ok-inner.inner.now word.token c.in_ok-equals.equals.now word.front) in (
      record {
        notes = above.notes;
        are = above.are;
        word = word.token;
        is = word.is;
        front = above.front ∙ ap (λ (t : List ℕ). bytes_of (comments 1 above.notes) ++ t) (c.in_ok-inner.ensures ∙ ap (λ (t : List ℕ). 10 ∷ (indent 1 ++ t)) (word.front ∙ ap (λ (t : List ℕ). word.token ++ t) c.in_ok-value.ensures));
        named_is = ap (bytes_eq attr) same;
      },
      same,
    )
