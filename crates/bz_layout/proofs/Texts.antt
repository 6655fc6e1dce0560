-- The text of parts is that of their statement, or of their nodes.
use Rattle.std.proofs.Common.{◌≡◌, codes, ℕ, List, [], ◌∷◌, ◌++◌, map, true, false, if◌then◌else◌, Option, Some, None, refl, ap, sym, ◌∙◌, append_assoc, append-nil, inl, inr}
use Rattle.std.proofs.lemmas.Bool.{cases_Bool}
use Rattle.bz_tree.specs.Tree.{Item, leaf, group, Items, no_items, item, Statement, items_of}
use Rattle.bz_tree.specs.Rows.{RowPart, above, beside_part, items_parts, parts_of}
use Rattle.bz_tree.specs.declared.tree.Class.{Class}
use Rattle.bz_tree.specs.declared.tree.GroupKind.{GroupKind}
use Rattle.bz_token.specs.declared.token.Kind.TheVariants.{Newline}
use Rattle.bz_layout.specs.declared.marks.BracketForm.{BracketForm}
use Rattle.bz_layout.specs.declared.walk.OpenBracket.{OpenBracket}
use Rattle.bz_layout.specs.declared.spacing.Edge.{Edge}
use Rattle.bz_layout.specs.declared.spacing.Edge.TheVariants.{Start}
use Rattle.bz_layout.specs.declared.spacing.Gap.TheVariants.{Closed}
use Rattle.bz_layout.specs.declared.broken.Style.TheVariants.{Flat, Broken}
use Rattle.bz_layout.specs.Pieces.{Piece, piece, bytes_of, comment_lines, suffix_piece}
use Rattle.bz_layout.specs.Layout.{is_comment, layout_text, flat_text}
use Rattle.bz_layout.specs.Walked.{items_pieces, statement_line}
use Rattle.bz_layout.specs.Walked as walked
use Rattle.bz_layout.proofs.SameLayout.{flat_text_is, layout_text_is}
use Rattle.bz_layout.specs.private.RowLayout.{leading, Laid, Scan, lines_text, run, scan, start, top}
use Rattle.bz_layout.proofs.Pieces.{bytes_append}
use Rattle.bz_layout.proofs.Scans.{items_marks, scan_above, scan_items}
use Rattle.bz_layout.proofs.Runs.{at, last_edge, run_items, skip_above}

-- the text of a row after what stands before it
abbrev pub row_text : List ℕ → List RowPart → Class → List ℕ
row_text before ps class = if is_comment class then before ++ bytes_of (comment_lines (leading ps)) else lines_text before ps

-- the parts after the comments above the statement
abbrev rest_of : Statement → List RowPart
rest_of s = items_parts (items_of s.nodes) ++ beside_part s.suffix

no_leading : (xs : Items) (suffix : Option (List ℕ)) → leading (items_parts xs ++ beside_part suffix) ≡ []
no_leading no_items None = refl
no_leading no_items (Some comment) = refl
no_leading (item (leaf kind text) xs) suffix = refl
no_leading (item (group kind segs one_comma end) xs) suffix = refl

leads : (comments : List (List ℕ)) (ps : List RowPart) → leading ps ≡ [] → leading (map above comments ++ ps) ≡ comments
leads [] ps h = h
leads (comment ∷ comments) ps h = ap (λ ns. comment ∷ ns) (leads comments ps h)

marks_are : (xs : Items) (suffix : Option (List ℕ)) → (scan (items_parts xs ++ beside_part suffix)).marks ≡ items_marks xs ++ []
marks_are xs None = rw (scan_items xs []) refl
marks_are xs (Some comment) = rw (scan_items xs (beside_part (Some comment))) refl

all_marks : (s : Statement) → (scan (parts_of s)).marks ≡ items_marks (items_of s.nodes) ++ []
all_marks s = ap (λ (z : Scan). z.marks) (scan_above s.before (rest_of s)) ∙ marks_are (items_of s.nodes) s.suffix

beside_text : (suffix : Option (List ℕ)) (t : List ℕ) (ms : List BracketForm) (o : List OpenBracket) (l : Edge) (n : ℕ) → (run (beside_part suffix) (at t ms o (top None) l n)).text ≡ t ++ bytes_of (suffix_piece suffix)
beside_text None t ms o l n = sym (append-nil t)
beside_text (Some comment) t ms o l n = rw (append-nil comment) refl

line_joined : (t : List ℕ) (a b : List Piece) → ((t ++ bytes_of a) ++ bytes_of b) ++ codes "\n" ≡ t ++ bytes_of (a ++ (b ++ piece Closed Newline (codes "\n") ∷ []))
line_joined t a b = rw (bytes_append a (b ++ piece Closed Newline (codes "\n") ∷ []), bytes_append b (piece Closed Newline (codes "\n") ∷ [])) (simp append_assoc)

line_is : (t : List ℕ) (s : Statement) → (run (parts_of s) (start t (scan (parts_of s)).marks None)).text ++ codes "\n" ≡ t ++ bytes_of (statement_line s)
line_is t s =
    let xs = items_of s.nodes in
    let a = items_pieces Broken 0 None Closed Start xs in
    let skipped = skip_above s.before (rest_of s) t (items_marks xs ++ []) [] None false false Start 0 in
    let written = ap (λ (l : Laid). l.text) (skipped ∙ run_items Broken xs (beside_part s.suffix) t [] [] (top None) Start 0) ∙ beside_text s.suffix (t ++ bytes_of a) [] [] (last_edge None Start xs) 0 in
    rw (all_marks s) (ap (λ (u : List ℕ). u ++ codes "\n") written ∙ line_joined t a (suffix_piece s.suffix))

walk_laid : (t : List ℕ) (s : Statement) → row_text t (parts_of s) s.class ≡ t ++ walked.layout_text s
walk_laid t s =
    let comments : leading (parts_of s) ≡ s.before = leads s.before (rest_of s) (no_leading (items_of s.nodes) s.suffix) in
    rw comments (elim (cases_Bool (is_comment s.class)) [
      | inl hit ↦ rw (hit, append-nil (comment_lines s.before)) refl
      | inr miss ↦
          let above = bytes_of (comment_lines s.before) in
          rw (miss, bytes_append (comment_lines s.before) (statement_line s)) (line_is (t ++ above) s ∙ append_assoc t above (bytes_of (statement_line s)))
    ])

pub parts_laid : (t : List ℕ) (s : Statement) → row_text t (parts_of s) s.class ≡ t ++ layout_text s
parts_laid t s = walk_laid t s ∙ ap (λ (text : List ℕ). t ++ text) (sym (layout_text_is s))

row_laid : (t : List ℕ) (s : Statement) (ps : List RowPart) (class : Class) → ps ≡ parts_of s → class ≡ s.class → row_text t ps class ≡ t ++ layout_text s
row_laid t s ps class parts is = rw (parts, is) (parts_laid t s)

-- what was written of parts is the text of their statement: of a comment the comments above it, else also its line
pub comments_laid : (t now : List ℕ) (s : Statement) (ps : List RowPart) (class : Class) → is_comment class ≡ true → now ≡ t ++ bytes_of (comment_lines (leading ps)) → ps ≡ parts_of s → class ≡ s.class → now ≡ t ++ layout_text s
comments_laid t now s ps class is text parts same = text ∙ sym (rw is refl) ∙ row_laid t s ps class parts same

pub lines_laid : (t now : List ℕ) (s : Statement) (ps : List RowPart) (class : Class) → is_comment class ≡ false → now ≡ lines_text t ps → ps ≡ parts_of s → class ≡ s.class → now ≡ t ++ layout_text s
lines_laid t now s ps class is text parts same = text ∙ sym (rw is refl) ∙ row_laid t s ps class parts same

-- what was written is the line, below the comments above it
pub line_row : (before text now : List ℕ) (ps : List RowPart) (ms : List BracketForm) (first last : Laid) → text ≡ before ++ bytes_of (comment_lines (leading ps)) → ms ≡ (scan ps).marks → first ≡ start text ms None → last ≡ run ps first → now ≡ last.text ++ codes "\n" → now ≡ lines_text before ps
line_row before text now ps ms first last leads marks begun laid put =
    let started = begun ∙ ap (λ (t : List ℕ). start t ms None) leads ∙ ap (λ (m : List BracketForm). start (before ++ bytes_of (comment_lines (leading ps))) m None) marks in
    put ∙ ap (λ (l : Laid). l.text ++ codes "\n") (laid ∙ ap (run ps) started)

-- with no marks all brackets stand in place
pub flat_laid : (within : Option GroupKind) (xs : List Item) → (run (items_parts (items_of xs)) (start [] [] within)).text ≡ flat_text within xs
flat_laid within xs =
    let written = run_items Flat (items_of xs) [] [] [] [] (top within) Start 0 in
    ap (λ (l : Laid). l.text) (rw (append-nil (items_parts (items_of xs))) at written) ∙ sym (flat_text_is within xs)
