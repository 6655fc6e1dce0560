-- A block goes on with no text of a statement.
use Rattle.std.proofs.Common.{◌≡◌, ℕ, ◌==◌, ◌&&◌, not, None, List, [], ◌∷◌, ◌++◌, Bool, true, false, refl, sym, ap, ◌∙◌, append_assoc, inl, inr}
use Rattle.std.specs.Prelude.{codes, if◌then◌else◌}
use Rattle.std.proofs.lemmas.Bool.{cases_Bool, and_parts, false≢true, eqb-true}
use Rattle.bz_token.specs.declared.token.Kind.{Kind}
use Rattle.bz_token.specs.declared.token.Kind.TheVariants.{String, Operator, Newline}
use Rattle.bz_token.specs.declared.cutter.block.Opener.TheVariants.{If}
use Rattle.bz_token.specs.Blocks.{goes_on}
use Rattle.bz_token.specs.Brackets.{is_line}
use Rattle.bz_token.specs.Ends.{ends}
use Rattle.std.specs.List.{list_any}
use Rattle.bz_token.specs.Lexical.{is_comment as is_comment_text, ends_blank, is_text}
use Rattle.bz_token.specs.Reading.{bytes_of as bytes_read}
use Rattle.bz_token.proofs.Stops.{token_ended}
use Rattle.bz_layout_laws.specs.Readable.{are_texts, are_ended}
use Rattle.bz_tree.specs.declared.tree.GroupKind.{GroupKind}
use Rattle.bz_tree.specs.declared.tree.GroupKind.TheVariants.{Call}
use Rattle.bz_tree.specs.Tree.{leaf, group, Items, no_items, item, Statement, items_of}
use Rattle.bz_layout.specs.declared.spacing.Edge.TheVariants.{Start}
use Rattle.bz_layout.specs.declared.spacing.Gap.TheVariants.{Closed}
use Rattle.bz_layout.specs.Respell.{is_single, respell}
use Rattle.bz_layout.specs.Pieces.{Piece, piece, bytes_of, comment_lines, suffix_piece}
use Rattle.bz_layout.specs.Layout.{is_comment, layout_text}
use Rattle.bz_layout.specs.Walked.{opening}
use Rattle.bz_layout_laws.specs.FreeLayout.{own, items_by}
use Rattle.bz_layout_laws.specs.Legible.{IsLegible, AreLegible, are_some}
use Rattle.bz_layout_laws.specs.ReadPieces.{read_pieces}
use Rattle.bz_layout_laws.proofs.BranchWords.{is_branch, no_branch}
use Rattle.bz_layout_laws.proofs.Ended.{read_bytes, line_ended}
use Rattle.bz_layout_laws.proofs.NoBrackets.{leaf_line}
use Rattle.bz_layout_laws.proofs.OwnLayout.{line_by, text_own}
use Rattle.bz_layout_laws.proofs.Texts.{line_whole}
use Rattle.bz_token.specs.Common.{is_filled, is_newline}

-- the first node is a word of a branch
abbrev pub begins_branch : Items → Bool
begins_branch no_items = false
begins_branch (item (leaf kind text) xs) = is_branch text
begins_branch (item (group kind segs one_comma end) xs) = false

-- a string that is spelled anew is none
spelled_branch : (kind : Kind) (text : List ℕ) → is_branch text ≡ false → is_branch (respell kind text) ≡ false
spelled_branch String text h = elim (cases_Bool (is_single text)) [ inl hit ↦ rw hit refl | inr miss ↦ rw miss h ]
spelled_branch _ text h = h

opening_branch : (kind : GroupKind) → is_branch (opening kind) ≡ false
opening_branch Call = refl
opening_branch _ = refl

-- pieces of which the first is another token
first_piece : (kind : Kind) (text : List ℕ) (ps : List Piece) (rest : List ℕ) → is_line kind ≡ false → is_branch text ≡ false → are_texts (read_pieces (piece Closed kind text ∷ ps)) ≡ true
    → are_ended (read_pieces (piece Closed kind text ∷ ps)) rest ≡ true → goes_on If (bytes_of (piece Closed kind text ∷ ps) ++ rest) ≡ false
first_piece kind text ps rest line none texts ended =
    let after = bytes_read (read_pieces ps) ++ rest in
    let is = (and_parts (is_text kind text) (are_texts (read_pieces ps)) texts).0 in
    let ends_here = (and_parts (ends kind text after) (are_ended (read_pieces ps) rest) ended).0 in
    ap (goes_on If) (append_assoc text (bytes_of ps) rest ∙ ap (λ bs. text ++ (bs ++ rest)) (sym (read_bytes ps)))
    ∙ no_branch kind text after (token_ended kind text after is ends_here) line none

abbrev tail_of : List Piece → List Piece
tail_of [] = []
tail_of (p ∷ ps) = ps

abbrev nodes_of : Items → List Piece
nodes_of xs = items_by own 0 None Closed Start xs

nodes_begin : (xs : Items) (ps : List Piece) (rest : List ℕ) → are_some xs ≡ true → AreLegible None Start xs → begins_branch xs ≡ false → are_texts (read_pieces (nodes_of xs ++ ps)) ≡ true
    → are_ended (read_pieces (nodes_of xs ++ ps)) rest ≡ true → goes_on If (bytes_of (nodes_of xs ++ ps) ++ rest) ≡ false
nodes_begin no_items ps rest some h none texts ended = absurd (false≢true some)
nodes_begin (item (leaf kind text) xs) ps rest some h none texts ended =
    first_piece kind (respell kind text) (tail_of (nodes_of (item (leaf kind text) xs) ++ ps)) rest (leaf_line kind text h.1.1) (spelled_branch kind text none) texts ended
nodes_begin (item (group kind segs one_comma end) xs) ps rest some h none texts ended =
    first_piece Operator (opening kind) (tail_of (nodes_of (item (group kind segs one_comma end) xs) ++ ps)) rest refl (opening_branch kind) texts ended

-- a comment begins with a number sign
pub comment_begins : (comment rest : List ℕ) → is_comment_text comment ≡ true → goes_on If (comment ++ rest) ≡ false
comment_begins [] rest h = absurd (false≢true h)
comment_begins (b ∷ bs) rest h = by b (and_parts (b == 35) _ (and_parts ((b == 35) && not (list_any is_newline (b ∷ bs))) (not (ends_blank (b ∷ bs))) h).0).0
  where
    by : (b : ℕ) → (b == 35) ≡ true → goes_on If (b ∷ (bs ++ rest)) ≡ false
    by b is = let same : b ≡ 35 = eqb-true b 35 is in rw same refl

-- comment lines alone are one at least
abbrev HasLines : Statement → Type 0
HasLines s = is_comment s.class ≡ true → is_filled s.before ≡ true

pub text_begins : (s : Statement) → IsLegible s → HasLines s → begins_branch (items_of s.nodes) ≡ false → (rest : List ℕ) → goes_on If (layout_text s ++ rest) ≡ false
text_begins s h lines none rest = ap (λ bs. goes_on If (bs ++ rest)) (sym (text_own s)) ∙ above s.before refl
  where
    by : (b : Bool) → is_comment s.class ≡ b → s.before ≡ [] → goes_on If (bytes_of (if b then [] else line_by own s) ++ rest) ≡ false
    by true class e = absurd (false≢true (sym (ap is_filled e) ∙ lines class))
    by false class e = nodes_begin (items_of s.nodes) (suffix_piece s.suffix ++ piece Closed Newline (codes "\n") ∷ []) rest (h.some class) h.nodes none (line_whole own s h).texts (line_ended own s rest h).ended

    above : (before : List (List ℕ)) → s.before ≡ before → goes_on If (bytes_of (comment_lines s.before ++ (if is_comment s.class then [] else line_by own s)) ++ rest) ≡ false
    above [] e = rw e (by (is_comment s.class) refl e)
    above (comment ∷ comments) e =
        rw e
        (ap (goes_on If) (append_assoc comment (bytes_of (piece Closed Newline (codes "\n") ∷ (comment_lines comments ++ (if is_comment s.class then [] else line_by own s)))) rest)
        ∙ comment_begins comment _ (and_parts (is_comment_text comment) _ (rw e at h.before)).0)
