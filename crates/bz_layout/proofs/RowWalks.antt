-- The walk forwards, some parts at a time.
use Rattle.std.proofs.Common.{◌≡◌, codes, ◌+◌, ◌-◌, ◌≤◌, ◌<◌, ℕ, zero, suc, List, [], ◌∷◌, ◌++◌, append_assoc, map, take, drop, get_or, reverse, length, length-append, Bool, true, false, Option, Some, if◌then◌else◌, refl, ap, sym, ◌∙◌, arith}
use Rattle.std.proofs.lemmas.List.{drop-map, drop_more, length-map, take_at, take-append-drop, take_rest}
use Rattle.bz_token.specs.declared.token.Kind.{Kind}
use Rattle.bz_token.specs.declared.token.Kind.TheVariants.{Identifier, Operator as OperatorToken}
use Rattle.bz_tree.specs.declared.tree.GroupKind.{GroupKind}
use Rattle.bz_tree.specs.declared.tree.GroupKind.TheVariants.{Index}
use Rattle.bz_tree.specs.Tree.{leaf}
use Rattle.bz_tree.specs.Rows.{RowPart, a_token, opening, closing, segment_end, above, beside}
use Rattle.bz_layout.specs.declared.spacing.Edge.{Edge}
use Rattle.bz_layout.specs.declared.spacing.Edge.TheVariants.{Start, Operator, Operand}
use Rattle.bz_layout.specs.declared.spacing.Gap.TheVariants.{Line}
use Rattle.bz_layout.specs.declared.walk.RowWriter.{RowWriter}
use Rattle.bz_layout.specs.Pieces.{gap_bytes}
use Rattle.bz_layout.specs.Respell.{respell}
use Rattle.bz_layout.specs.Walked.{edge_after, no_space_before}
use Rattle.bz_layout.specs.private.RowLayout.{Laid, laid, run, step}

run_joined : (ps qs : List RowPart) (s : Laid) → run (ps ++ qs) s ≡ run qs (run ps s)
run_joined [] qs s = refl
run_joined (p ∷ ps) qs s = run_joined ps qs (step p s)

-- a part and those after it
pub rest_at : {P : Type 0} (f : P → RowPart) (ps : List P) (at : ℕ) (d : P) → at < length ps → f (get_or ps at d) ∷ map f (take (length ps - (at + 1)) (drop (at + 1) ps)) ≡ map f (drop at ps)
rest_at f ps at d h = ap (λ qs. f (get_or ps at d) ∷ map f qs) (take_rest ps (at + 1)) ∙ ap (map f) (sym (drop_more ps at d h))

-- a part is laid out, and some of those after it
pub run_on : {P : Type 0} (f : P → RowPart) (p : RowPart) (after : List P) (n : ℕ) (s t : Laid) → t ≡ run (take n (map f after)) (step p s) → run (map f (drop n after)) t ≡ run (p ∷ map f after) s
run_on f p after n s t is =
    let qs = map f after in
    ap (λ rs. run rs t) (sym (drop-map f n after)) ∙ (ap (run (drop n qs)) is ∙ (sym (run_joined (take n qs) (drop n qs) (step p s)) ∙ ap (λ rs. run rs (step p s)) (take-append-drop n qs)))

one_more : (b : Bool) (n : ℕ) → (if b then n + 1 else n) ≤ n + 1
one_more true n = omega arith
one_more false n = omega arith

one_less : (b : Bool) (n : ℕ) → (if b then n - 1 else n) ≤ n + 1
one_less true n = omega arith
one_less false n = omega arith

-- with a part a bracket at most opens
level_after : (p : RowPart) (s : Laid) → (step p s).level ≤ s.level + 1
level_after (opening kind) s = one_more _ s.level
level_after (closing one_comma) s = one_less _ s.level
level_after (a_token kind text) s = omega arith
level_after segment_end s = omega arith
level_after (above text) s = omega arith
level_after (beside text) s = omega arith

levels : (n : ℕ) (ps : List RowPart) (s : Laid) → (run (take n ps) s).level ≤ s.level + n
levels zero ps s = omega arith
levels (suc n) [] s = omega arith
levels (suc n) (p ∷ ps) s = omega (arith, levels n ps (step p s), level_after p s)

pub level_on : (n : ℕ) (p : RowPart) (ps : List RowPart) (s t : Laid) → t ≡ run (take n ps) (step p s) → t.level ≤ s.level + (1 + n)
level_on n p ps s t is = omega (arith, levels n ps (step p s), level_after p s, ap (λ (u : Laid). u.level) is)

-- some of the parts are laid out, and the others stay
pub record IsLaidUpTo (all rest : List RowPart) (old new : Laid) : Type 0 where
  pub done : List RowPart
  pub parts : all ≡ done ++ rest
  pub ok : new ≡ run done old

-- in a broken bracket, after this text
abbrev at_line : RowWriter → Bool → Edge → List ℕ → Laid
at_line w comma left text = record { text = text; marks = reverse w.marks.items; outer = reverse w.outer.items; here = record { within = w.here.within; mark = record { broken = true; comma = comma }; later = w.here.later }; left = left; level = w.level }

with_tail : (before gap text tail : List ℕ) → before ++ (gap ++ (text ++ tail)) ≡ (before ++ (gap ++ text)) ++ tail
with_tail before gap text tail = ap (λ (xs : List ℕ). before ++ xs) (sym (append_assoc gap text tail)) ∙ sym (append_assoc before (gap ++ text) tail)

-- a token that is written as it stands, on a line of its own with its comma, and the end of its segment
pub item_laid : (w : RowWriter) (before after text : List ℕ) (kind : Kind) → w.left ≡ Start → w.here.mark.broken ≡ true → w.here.mark.comma ≡ true → respell kind text ≡ text
    → after ≡ before ++ (gap_bytes (Line w.level) ++ (text ++ codes ",")) → laid w after ≡ run (a_token kind text ∷ segment_end ∷ []) (laid w before)
item_laid w before after text kind at_start broken comma stays put = rw (put, at_start, broken, comma, stays) (ap (at_line w true Start) (with_tail before (gap_bytes (Line w.level)) text (codes ",")))

equals_edge : (within : Option GroupKind) → edge_after within Operand (leaf OperatorToken (codes "=")) ≡ Operator
equals_edge (Some Index) = refl
equals_edge _ = refl

abbrev named : RowWriter → RowWriter
named w = record w { left = Operator }

-- the name of an argument on a line of its own, and its sign
pub name_laid : (w : RowWriter) (before after name : List ℕ) → w.left ≡ Start → w.here.mark.broken ≡ true → after ≡ before ++ (gap_bytes (Line w.level) ++ (name ++ codes " ="))
    → laid (named w) after ≡ run (a_token Identifier name ∷ a_token OperatorToken (codes "=") ∷ []) (laid w before)
name_laid w before after name at_start broken put = rw (put, at_start, broken, equals_edge w.here.within) (ap (at_line w w.here.mark.comma Operator) (with_tail before (gap_bytes (Line w.level)) name (codes " =")))

value_laid : (w : RowWriter) (before after text : List ℕ) (kind : Kind) → w.left ≡ Start → w.here.mark.broken ≡ true → w.here.mark.comma ≡ true → respell kind text ≡ text → no_space_before (leaf kind text) ≡ false
    → after ≡ before ++ (codes " " ++ (text ++ codes ",")) → laid w after ≡ run (a_token kind text ∷ segment_end ∷ []) (laid (named w) before)
value_laid w before after text kind at_start broken comma stays apart put = rw (put, at_start, broken, comma, stays, apart) (ap (at_line w true Start) (with_tail before (codes " ") text (codes ",")))

-- an argument of one token
pub argument_laid : (w : RowWriter) (before mid after name text : List ℕ) (kind : Kind) → w.left ≡ Start → w.here.mark.broken ≡ true → w.here.mark.comma ≡ true → respell kind text ≡ text → no_space_before (leaf kind text) ≡ false
    → mid ≡ before ++ (gap_bytes (Line w.level) ++ (name ++ codes " =")) → after ≡ mid ++ (codes " " ++ (text ++ codes ","))
    → laid w after ≡ run (a_token Identifier name ∷ a_token OperatorToken (codes "=") ∷ a_token kind text ∷ segment_end ∷ []) (laid w before)
argument_laid w before mid after name text kind at_start broken comma stays apart put last =
    value_laid w mid after text kind at_start broken comma stays apart last ∙ ap (run (a_token kind text ∷ segment_end ∷ [])) (name_laid w before mid name at_start broken put)

-- some parts more
pub more_up : (all rest seen more : List RowPart) (old mid new : Laid) → rest ≡ seen ++ more → IsLaidUpTo all rest old mid → new ≡ run seen mid → IsLaidUpTo all more old new
more_up all rest seen more old mid new is upto laid =
    record {
      done = upto.done ++ seen;
      parts = upto.parts ∙ (ap (λ qs. upto.done ++ qs) is ∙ sym (append_assoc upto.done seen more));
      ok = laid ∙ (ap (run seen) upto.ok ∙ sym (run_joined upto.done seen old));
    }

take_front : (xs ys : List RowPart) → take (length xs) (xs ++ ys) ≡ xs
take_front xs ys = take_at xs ys (length xs) refl

-- so many are laid out as do not stay
pub laid_up : {P : Type 0} (f : P → RowPart) (parts rest : List P) (old new : Laid) → IsLaidUpTo (map f parts) (map f rest) old new → new ≡ run (take (length parts - length rest) (map f parts)) old
laid_up f parts rest old new upto =
    let count : length parts - length rest ≡ length upto.done =
    omega (arith, length-map parts f, length-map rest f, ap length upto.parts, length-append upto.done (map f rest)) in
    let front : take (length parts - length rest) (map f parts) ≡ upto.done =
    ap (λ (n : ℕ). take n (map f parts)) count ∙ (ap (take (length upto.done)) upto.parts ∙ take_front upto.done (map f rest)) in
    upto.ok ∙ sym (ap (λ qs. run qs old) front)
