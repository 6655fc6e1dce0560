-- The walks over the tokens of a block find what its logical lines say.
use Rattle.std.proofs.Common.{◌≡◌, ℕ, ◌==◌, List, [], ◌∷◌, Bool, true, false, ◌&&◌, ◌||◌, if◌then◌else◌, cond, Option, Some, None, option_map, refl, sym, ap, ◌∙◌}
use Rattle.bz_token.specs.Places.{Placed}
use Rattle.bz_tree.specs.declared.tree.kinds.Mark.{Mark}
use Rattle.bz_tree.specs.declared.tree.kinds.Mark.TheVariants.{Comment, Newline}
use Rattle.bz_tree.specs.Kinds.{mark_of}
use Rattle.bz_tree.specs.Blocks.{is_colon, indented, ends_open, bad_line, block_indent, depth_after, has_colon, has_header_colon}
use Rattle.bz_tree.proofs.Trees.LogicalLines.{in_front, with_token, lines_by_token, lines_are, header_line, header_colon, opens_after, opens_is}

-- the columns of the open lines, the innermost first; whether the last token is `:`; whether a line has begun
pub record Lines : Type 0 where
  pub columns : List ℕ
  pub opens : Bool
  pub inside : Bool

abbrev begun : Placed → List ℕ → Lines
begun t columns = record { columns = columns; opens = is_colon t; inside = true }

abbrev next_indent : Mark → Placed → Lines → Option Lines
next_indent Newline t s = Some (record { columns = s.columns; opens = s.opens; inside = false })
next_indent Comment t s = Some s
next_indent _ t s = option_map (begun t) (if s.inside then Some s.columns else indented s.opens t.col s.columns)

abbrev pub indent_run : Lines → List Placed → Option ℕ
indent_run s [] = None
indent_run s (t ∷ ts) = elim (next_indent (mark_of t) t s) [ None ↦ Some t.line | Some new ↦ indent_run new ts ]

-- in the header line, so many brackets being open; `inside`: it has begun
abbrev colon_at : Mark → Placed → ℕ → Bool → Bool → Bool
colon_at Newline t depth inside later = later
colon_at Comment t depth inside later = later
colon_at _ t depth inside later = (depth == 0 && is_colon t) || later

abbrev ends_header : Mark → Bool → Bool
ends_header Newline inside = inside
ends_header _ inside = false

abbrev begins_header : Mark → Bool → Bool
begins_header Newline inside = inside
begins_header Comment inside = inside
begins_header _ inside = true

abbrev pub colon_run : ℕ → Bool → List Placed → Bool
colon_run depth inside [] = false
colon_run depth inside (t ∷ ts) =
    if ends_header (mark_of t) inside then false
    else colon_at (mark_of t) t depth inside (colon_run (depth_after (mark_of t) depth) (begins_header (mark_of t) inside) ts)

-- what the walk finds in the lines that begin in this state
abbrev found_in : Bool → Lines → List (List Placed) → Option ℕ
found_in true s [] = None
found_in true s (l ∷ ls) = bad_line s.columns (opens_after s.opens l) ls
found_in false s ls = bad_line s.columns s.opens ls

abbrev Found : List Placed → Type 0
Found ts = (columns : List ℕ) (opens inside : Bool) → indent_run (record { columns = columns; opens = opens; inside = inside }) ts ≡ found_in inside (record { columns = columns; opens = opens; inside = inside }) (lines_by_token ts)

abbrev line_after : Placed → List Placed → Option Lines → Option ℕ
line_after t ts o = elim o [ None ↦ Some t.line | Some new ↦ indent_run new ts ]

-- a token that counts
counted_found : (t : Placed) (ts : List Placed) → Found ts → (columns : List ℕ) (opens inside : Bool) → (ls : List (List Placed)) → lines_by_token ts ≡ ls
    → line_after t ts (option_map (begun t) (cond inside (Some columns) (indented opens t.col columns))) ≡ found_in inside (record { columns = columns; opens = opens; inside = inside }) (in_front t ls)
counted_found t ts more columns opens true [] is = more columns (is_colon t) true ∙ ap (found_in true (begun t columns)) is
counted_found t ts more columns opens true (l ∷ ls) is = more columns (is_colon t) true ∙ ap (found_in true (begun t columns)) is
counted_found t ts more columns opens false [] is = at_indent (indented opens t.col columns)
  where
    at_indent : (o : Option (List ℕ)) → line_after t ts (option_map (begun t) o) ≡ elim o [ None ↦ Some t.line | Some inner ↦ bad_line inner (ends_open (t ∷ [])) [] ]
    at_indent None = refl
    at_indent (Some inner) = more inner (is_colon t) true ∙ ap (found_in true (begun t inner)) is
counted_found t ts more columns opens false (l ∷ ls) is = at_indent (indented opens t.col columns)
  where
    at_indent : (o : Option (List ℕ)) → line_after t ts (option_map (begun t) o) ≡ elim o [ None ↦ Some t.line | Some inner ↦ bad_line inner (ends_open (t ∷ l)) ls ]
    at_indent None = refl
    at_indent (Some inner) = more inner (is_colon t) true ∙ ap (found_in true (begun t inner)) is ∙ ap (λ b. bad_line inner b ls) (sym (opens_is t l))

line_found : (ts : List Placed) → Found ts → (columns : List ℕ) (opens inside : Bool) → indent_run (record { columns = columns; opens = opens; inside = false }) ts ≡ found_in inside (record { columns = columns; opens = opens; inside = inside }) ([] ∷ lines_by_token ts)
line_found ts more columns opens true = more columns opens false
line_found ts more columns opens false = more columns opens false

mark_found : (m : Mark) (t : Placed) (ts : List Placed) → Found ts → (columns : List ℕ) (opens inside : Bool)
    → line_after t ts (next_indent m t (record { columns = columns; opens = opens; inside = inside })) ≡ found_in inside (record { columns = columns; opens = opens; inside = inside }) (with_token m t (lines_by_token ts))
mark_found Newline t ts more columns opens inside = line_found ts more columns opens inside
mark_found Comment t ts more columns opens inside = more columns opens inside
mark_found m t ts more columns opens inside = counted_found t ts more columns opens inside (lines_by_token ts) refl

run_found : (ts : List Placed) → Found ts
run_found [] = λ columns opens inside. at_inside columns opens inside
  where
    at_inside : (columns : List ℕ) (opens inside : Bool) → None ≡ found_in inside (record { columns = columns; opens = opens; inside = inside }) ([] ∷ [])
    at_inside columns opens true = refl
    at_inside columns opens false = refl
run_found (t ∷ ts) = λ columns opens inside. mark_found (mark_of t) t ts (run_found ts) columns opens inside

pub indent_found : (ts : List Placed) → indent_run (record { columns = 1 ∷ []; opens = false; inside = false }) ts ≡ block_indent ts
indent_found ts = run_found ts (1 ∷ []) false false ∙ ap (bad_line (1 ∷ []) false) (sym (lines_are ts))

-- the header's colon
abbrev header_of : Bool → List (List Placed) → List Placed
header_of true [] = []
header_of true (l ∷ ls) = l
header_of false ls = header_line ls

abbrev Colon : List Placed → Type 0
Colon ts = (depth : ℕ) (inside : Bool) → colon_run depth inside ts ≡ has_colon depth (header_of inside (lines_by_token ts))

front_colon : (m : Mark) (t : Placed) (ts : List Placed) → Colon ts → (depth : ℕ) (inside : Bool) (ls : List (List Placed)) → lines_by_token ts ≡ ls
    → ((depth == 0 && is_colon t) || colon_run (depth_after (mark_of t) depth) true ts) ≡ has_colon depth (header_of inside (in_front t ls))
front_colon m t ts more depth true [] is = ap (λ b. (depth == 0 && is_colon t) || b) (more (depth_after (mark_of t) depth) true ∙ ap (λ ls. has_colon (depth_after (mark_of t) depth) (header_of true ls)) is)
front_colon m t ts more depth true (l ∷ ls) is = ap (λ b. (depth == 0 && is_colon t) || b) (more (depth_after (mark_of t) depth) true ∙ ap (λ ls. has_colon (depth_after (mark_of t) depth) (header_of true ls)) is)
front_colon m t ts more depth false [] is = ap (λ b. (depth == 0 && is_colon t) || b) (more (depth_after (mark_of t) depth) true ∙ ap (λ ls. has_colon (depth_after (mark_of t) depth) (header_of true ls)) is)
front_colon m t ts more depth false (l ∷ ls) is = ap (λ b. (depth == 0 && is_colon t) || b) (more (depth_after (mark_of t) depth) true ∙ ap (λ ls. has_colon (depth_after (mark_of t) depth) (header_of true ls)) is)

abbrev colon_step : Mark → Placed → List Placed → ℕ → Bool → Bool
colon_step m t ts depth inside = cond (ends_header m inside) false (colon_at m t depth inside (colon_run (depth_after m depth) (begins_header m inside) ts))

line_colon : (ts : List Placed) → Colon ts → (depth : ℕ) (inside : Bool) → cond inside false (colon_run depth inside ts) ≡ has_colon depth (header_of inside ([] ∷ lines_by_token ts))
line_colon ts more depth true = refl
line_colon ts more depth false = more depth false

mark_colon : (m : Mark) (t : Placed) (ts : List Placed) → mark_of t ≡ m → Colon ts → (depth : ℕ) (inside : Bool) → colon_step m t ts depth inside ≡ has_colon depth (header_of inside (with_token m t (lines_by_token ts)))
mark_colon Newline t ts is more depth inside = line_colon ts more depth inside
mark_colon Comment t ts is more depth inside = more depth inside
mark_colon m t ts is more depth inside = ap (λ m. (depth == 0 && is_colon t) || colon_run (depth_after m depth) true ts) (sym is) ∙ front_colon m t ts more depth inside (lines_by_token ts) refl

colon_is : (ts : List Placed) → Colon ts
colon_is [] = λ depth inside. at_inside depth inside
  where
    at_inside : (depth : ℕ) (inside : Bool) → false ≡ has_colon depth (header_of inside ([] ∷ []))
    at_inside depth true = refl
    at_inside depth false = refl
colon_is (t ∷ ts) = λ depth inside. mark_colon (mark_of t) t ts refl (colon_is ts) depth inside

pub colon_found : (ts : List Placed) → colon_run 0 false ts ≡ has_header_colon ts
colon_found ts = colon_is ts 0 false ∙ sym (header_colon ts)
