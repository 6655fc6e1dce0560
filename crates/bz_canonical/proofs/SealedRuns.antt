-- Arguments that are to be sealed with the next.
use Rattle.std.proofs.Common.{◌≡◌, ℕ, List, [], ◌∷◌, ◌++◌, Bool, true, false, drop, refl, ap, sym, ◌∙◌, append-nil}
use Rattle.std.specs.Prelude.{Some, not}
use Rattle.std.proofs.lemmas.Bool.{false≢true, or_parts}
use Rattle.bz_token.specs.Common.{is_empty, is_filled}
use Rattle.bz_token.specs.declared.token.Kind.TheVariants.{Operator}
use Rattle.bz_tree.specs.declared.tree.GroupKind.TheVariants.{RuleCall}
use Rattle.bz_tree.specs.Tree.{Segment, items_of, segs_of}
use Rattle.bz_layout.specs.declared.broken.Style.TheVariants.{Broken}
use Rattle.bz_layout.specs.declared.spacing.Edge.TheVariants.{Start}
use Rattle.bz_layout.specs.declared.spacing.Gap.TheVariants.{Closed, Line}
use Rattle.bz_layout.specs.Pieces.{Piece, piece, bytes_of, comments, suffix_piece}
use Rattle.bz_layout.specs.Walked.{broken_segs, items_pieces}
use Rattle.bz_layout.proofs.Pieces.{bytes_append}
use Rattle.bz_canonical.specs.Canonical.{argument_lines}
use Rattle.bz_canonical.specs.SealedRules.{as_comment, ends_run}
use Rattle.bz_canonical.proofs.ArgumentLines.{lines_append}

-- their lines are written as a comment
abbrev pub AreAbove : List Segment → Type 0
AreAbove run = bytes_of (comments 1 (as_comment (argument_lines run))) ≡ argument_lines run

-- the next argument is there, and not asked for
abbrev pub begins_sealed : List Bool → Bool
begins_sealed [] = false
begins_sealed (b ∷ asked) = not b

pub goes_on : (b : Bool) (asked : List Bool) → ends_run b asked ≡ false → (b ≡ false) × (begins_sealed asked ≡ true)
goes_on b [] on = absurd (false≢true (sym on))
goes_on b (next ∷ asked) on = let both = or_parts b next on in (both.0, ap not both.1)

-- They are, and the next is not asked for.
pub record Waits (run : List Segment) (asked : List Bool) : Type 0 where
  pub above : AreAbove run
  pub next : is_filled run ≡ true → begins_sealed asked ≡ true

pub nothing_waits : (asked : List Bool) → Waits [] asked
nothing_waits asked = record { above = refl; next = λ some. absurd (false≢true some) }

pub none_waits : (run : List Segment) (asked : List Bool) → begins_sealed asked ≡ false → Waits run asked → run ≡ []
none_waits [] asked none waits = refl
none_waits (a ∷ run) asked none waits = absurd (false≢true (sym none ∙ waits.next refl))

some_bytes : (xs ys zs : List ℕ) (z : ℕ) → is_empty (xs ++ (ys ++ z ∷ zs)) ≡ false
some_bytes [] [] zs z = refl
some_bytes [] (y ∷ ys) zs z = refl
some_bytes (x ∷ xs) ys zs z = refl

some_lines : (a : Segment) (run : List Segment) → is_empty (argument_lines (a ∷ run)) ≡ false
some_lines a run =
    let above : List Piece = comments 1 a.before in
    let nodes : List Piece = items_pieces Broken 1 (Some RuleCall) (Line 1) Start (items_of a.nodes) in
    let rest : List Piece = suffix_piece a.suffix ++ broken_segs Broken 1 RuleCall true (segs_of run) in
    ap is_empty (bytes_append above (nodes ++ (piece Closed Operator (44 ∷ []) ∷ rest)) ∙ ap (λ (t : List ℕ). bytes_of above ++ t) (bytes_append nodes (piece Closed Operator (44 ∷ []) ∷ rest)))
    ∙ some_bytes (bytes_of above) (bytes_of nodes) (bytes_of rest) 44

filled : (lines : List ℕ) → is_empty lines ≡ false → is_filled (as_comment lines) ≡ true
filled [] some = absurd (false≢true (sym some))
filled (b ∷ lines) some = refl

pub comment_above : (a : Segment) (run : List Segment) → is_filled (as_comment (argument_lines (a ∷ run))) ≡ true
comment_above a run = filled (argument_lines (a ∷ run)) (some_lines a run)

-- lines that begin with a newline and an indent
above_is : (lines t : List ℕ) → lines ≡ 10 ∷ 32 ∷ 32 ∷ 32 ∷ 32 ∷ t → bytes_of (comments 1 (as_comment lines)) ≡ lines
above_is lines t is = ap (λ (xs : List ℕ). bytes_of (comments 1 (as_comment xs))) is ∙ ap (λ (xs : List ℕ). 10 ∷ 32 ∷ 32 ∷ 32 ∷ 32 ∷ xs) (append-nil t) ∙ sym is

begin_so : (lines : List ℕ) → is_empty lines ≡ false → bytes_of (comments 1 (as_comment lines)) ≡ lines → lines ≡ 10 ∷ 32 ∷ 32 ∷ 32 ∷ 32 ∷ (drop 5 lines ++ [])
begin_so [] some above = absurd (false≢true (sym some))
begin_so (b ∷ lines) some above = sym above

more_above : (run : List Segment) (a : Segment) (t : List ℕ) → AreAbove run → argument_lines (a ∷ []) ≡ 10 ∷ 32 ∷ 32 ∷ 32 ∷ 32 ∷ t → AreAbove (run ++ a ∷ [])
more_above [] a t above is = above_is (argument_lines (a ∷ [])) t is
more_above (x ∷ run) a t above is =
    let lines : List ℕ = argument_lines (x ∷ run) in
    above_is (argument_lines (x ∷ (run ++ a ∷ []))) ((drop 5 lines ++ []) ++ argument_lines (a ∷ []))
    (lines_append (x ∷ run) (a ∷ []) ∙ ap (λ (xs : List ℕ). xs ++ argument_lines (a ∷ [])) (begin_so lines (some_lines x run) above))

pub more_wait : (run : List Segment) (a : Segment) (inner : List ℕ) (asked : List Bool) → AreAbove run → argument_lines (a ∷ []) ≡ 10 ∷ 32 ∷ 32 ∷ 32 ∷ 32 ∷ (inner ++ 44 ∷ bytes_of (suffix_piece a.suffix)) → begins_sealed asked ≡ true
    → Waits (run ++ a ∷ []) asked
more_wait run a inner asked above lines more = record { above = more_above run a (inner ++ 44 ∷ bytes_of (suffix_piece a.suffix)) above lines; next = λ some. more }
