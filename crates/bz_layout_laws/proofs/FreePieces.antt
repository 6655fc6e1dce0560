-- The pieces of a free layout without gaps are its lexemes.
use Rattle.std.proofs.Common.{◌≡◌, ℕ, suc, ◌+◌, ◌||◌, List, [], ◌∷◌, ◌++◌, Bool, true, false, Option, Some, None, refl, sym, ap, ◌∙◌, append_assoc, arith}
use Rattle.std.specs.Prelude.{codes, nat_le, is_some, if◌then◌else◌}
use Rattle.std.proofs.lemmas.Bool.{or_parts}
use Rattle.std.proofs.lemmas.Bool.Decides.{nat_tests}
use Rattle.bz_token.specs.declared.token.Kind.TheVariants.{Operator as OperatorToken, Newline}
use Rattle.bz_token.specs.Common.{is_filled}
use Rattle.bz_tree.specs.declared.tree.GroupKind.{GroupKind}
use Rattle.bz_tree.specs.Tree.{Item, leaf, group, Items, no_items, item, Segs, no_segs, seg, Statement, items_of, segments}
use Rattle.bz_layout.specs.declared.spacing.Edge.{Edge}
use Rattle.bz_layout.specs.declared.spacing.Edge.TheVariants.{Start}
use Rattle.bz_layout.specs.declared.spacing.Gap.{Gap}
use Rattle.bz_layout.specs.declared.spacing.Gap.TheVariants.{Closed, Space, Line}
use Rattle.bz_layout.specs.Walked.{edge_after, gap_before, count, have_comments, is_broken, segs_hold, opening, closing}
use Rattle.bz_layout.specs.Pieces.{Piece, piece, comma_if, comments, comment_lines, suffix_piece}
use Rattle.bz_layout.specs.Layout.{has_commas, is_comment}
use Rattle.bz_layout_laws.specs.FreeLayout.{Choice, breaks_by, inside, following, item_by, items_by, broken_by, flat_by, statement_by, Stands, Stand, SegsStand}
use Rattle.bz_layout_laws.specs.Lexemes.{Lexeme, lexeme, comment_lexemes, suffix_lexemes, comma_lexemes}
use Rattle.bz_layout_laws.specs.ReadPieces.{is_apart, piece_lexemes}
use Rattle.bz_layout_laws.proofs.FreeLexemes.{last_comma, item_lexemes_by, items_lexemes_by, segs_lexemes_by, line_lexemes_by, lexemes_by, HasShapes, HaveShapes, SegsHaveShapes}
use Rattle.bz_layout_laws.proofs.Pieces.{pieces_join, comma_pieces, comment_pieces, suffix_pieces, line_pieces, gap_is}
use Rattle.bz_layout_laws.proofs.OwnLayout.{line_by}
use Rattle.bz_layout_laws.proofs.Written.{too_many, no_comments, no_suffix, few, no_end}

spread : {A : Type 0} (a b d e r z : List A) → (a ++ (b ++ (d ++ (e ++ r)))) ++ z ≡ a ++ (b ++ (d ++ (e ++ (r ++ z))))
spread a b d e r z = simp append_assoc

five : (a b d e r : List Piece) → piece_lexemes (a ++ (b ++ (d ++ (e ++ r)))) ≡ piece_lexemes a ++ (piece_lexemes b ++ (piece_lexemes d ++ (piece_lexemes e ++ piece_lexemes r)))
five a b d e r =
    pieces_join a (b ++ (d ++ (e ++ r)))
    ∙ ap (λ l. piece_lexemes a ++ l) (pieces_join b (d ++ (e ++ r)) ∙ ap (λ l. piece_lexemes b ++ l) (pieces_join d (e ++ r) ∙ ap (λ l. piece_lexemes d ++ l) (pieces_join e r)))

-- on lines either each segment has a comma after it, or there is one segment at most
fewer : (n : ℕ) → nat_le (suc n) 1 ≡ true → nat_le n 1 ≡ true
fewer n h = grind (arith, nat_tests)

same_comma : (comma : Bool) (ss : Segs) → (comma ≡ false → nat_le (suc (count ss)) 1 ≡ true) → (comma || is_filled (segments ss)) ≡ comma
same_comma true ss few = refl
same_comma false no_segs few = refl
same_comma false (seg before nodes suffix ss) few = absurd (too_many (count ss) (few refl))

-- in place no comment stands, and a comma after the one segment alone
record Bare (before : List (List ℕ)) (suffix : Option (List ℕ)) (ss : Segs) : Type 0 where
  above : comment_lexemes before ≡ []
  aside : suffix_lexemes suffix ≡ []
  rest : have_comments ss ≡ false

bare : (before : List (List ℕ)) (nodes : Items) (suffix : Option (List ℕ)) (ss : Segs) → have_comments (seg before nodes suffix ss) ≡ false → Bare before suffix ss
bare before nodes suffix ss none =
    let p = or_parts (is_filled before || is_some suffix) (have_comments ss) none in
    let q = or_parts (is_filled before) (is_some suffix) p.0 in
    record { above = no_comments before q.0; aside = no_suffix suffix q.1; rest = p.1 }

none_is_not_one : count no_segs ≡ 1 → ⊥
none_is_not_one e = omega (arith, e)

two_are_not_one : (n : ℕ) → suc (suc n) ≡ 1 → ⊥
two_are_not_one n e = omega (arith, e)

in_place : (i a s : List Lexeme) (before : List (List ℕ)) (suffix : Option (List ℕ)) (ss : Segs) (l : List Lexeme) → Bare before suffix ss → i ++ (a ++ (s ++ l)) ≡ (comment_lexemes before ++ (i ++ (a ++ (suffix_lexemes suffix ++ s)))) ++ l
in_place i a s before suffix ss l b = spread_three i a s l ∙ sym (rw (b.above, b.aside) refl)
  where
    spread_three : (i a s l : List Lexeme) → i ++ (a ++ (s ++ l)) ≡ (i ++ (a ++ s)) ++ l
    spread_three i a s l = simp append_assoc

pick : (P : Bool → Type 0) (b : Bool) → P true → (b ≡ false → P false) → P b
pick P true one other = one
pick P false one other = other refl

mutual
  item_written : (c : Choice) (level : ℕ) (gap : Gap) (x : Item) → is_apart gap ≡ false → Stands c x → HasShapes x → piece_lexemes (item_by c level gap x) ≡ item_lexemes_by c x
  item_written c level gap (leaf kind text) h stands shapes = rw h refl
  item_written c level gap (group kind segs one_comma end) h stands shapes =
      let broken = is_broken kind segs end (segs_hold segs) in
      let last : List Piece = piece (Line level) OperatorToken (closing kind) ∷ [] in
      let close : List Piece = piece Closed OperatorToken (closing kind) ∷ [] in
      let lines = broken_by (inside c) (level + 1) kind (has_commas kind one_comma (count segs)) segs ++ (comments (level + 1) end ++ last) in
      let place = flat_by (inside c) level kind true segs ++ (comma_if one_comma ++ close) in
      ap (λ b. record { kind = OperatorToken; text = opening kind; beside = b } ∷ piece_lexemes (if breaks_by c broken then lines else place)) h
      ∙ ap (λ l. lexeme OperatorToken (opening kind) ∷ l)
      (pick (λ b. piece_lexemes (if b then lines else place) ≡ segs_lexemes_by (inside c) (last_comma b kind segs one_comma) segs end ++ lexeme OperatorToken (closing kind) ∷ []) (breaks_by c broken)
      (broken_written (inside c) (level + 1) kind (has_commas kind one_comma (count segs)) segs end last stands.1 shapes.1 (few kind one_comma segs shapes.0))
      (λ none. flat_written (inside c) level kind segs one_comma close stands.1 shapes.1 (or_parts (is_filled end) (have_comments segs) (stands.0 none)).1 (λ is. (shapes.0.comma is).1)
      ∙ ap (λ ts. segs_lexemes_by (inside c) one_comma segs ts ++ lexeme OperatorToken (closing kind) ∷ []) (sym (no_end end (or_parts (is_filled end) (have_comments segs) (stands.0 none)).0))))

  pub items_written : (c : Choice) (level : ℕ) (within : Option GroupKind) (first : Gap) (left : Edge) (xs : Items) → is_apart first ≡ false → Stand c xs → HaveShapes xs → piece_lexemes (items_by c level within first left xs) ≡ items_lexemes_by c xs
  items_written c level within first left no_items h stands shapes = refl
  items_written c level within first left (item x xs) h stands shapes =
      pieces_join (item_by (inside c) level (gap_before first left x) x) (items_by (following c) level within first (edge_after within left x) xs)
      ∙ rw (item_written (inside c) level (gap_before first left x) x (gap_is first left x h) stands.0 shapes.0, items_written (following c) level within first (edge_after within left x) xs h stands.1 shapes.1) refl

  broken_written : (c : Choice) (level : ℕ) (kind : GroupKind) (comma : Bool) (ss : Segs) (end : List (List ℕ)) (ps : List Piece) → SegsStand c ss → SegsHaveShapes ss → (comma ≡ false → nat_le (count ss) 1 ≡ true)
      → piece_lexemes (broken_by c level kind comma ss ++ (comments level end ++ ps)) ≡ segs_lexemes_by c comma ss end ++ piece_lexemes ps
  broken_written c level kind comma no_segs end ps stands shapes few = pieces_join (comments level end) ps ∙ ap (λ l. l ++ piece_lexemes ps) (comment_pieces level end)
  broken_written c level kind comma (seg before nodes suffix ss) end ps stands shapes few =
      let tail = comments level end ++ ps in
      let rest = broken_by (following c) level kind comma ss in
      let own_nodes = items_by (inside c) level (Some kind) (Line level) Start nodes in
      let after = segs_lexemes_by (following c) comma ss end in
      ap piece_lexemes (spread (comments level before) own_nodes (comma_if comma) (suffix_piece suffix) rest tail)
      ∙ five (comments level before) own_nodes (comma_if comma) (suffix_piece suffix) (rest ++ tail)
      ∙ rw (
        comment_pieces level before,
        items_written (inside c) level (Some kind) (Line level) Start nodes refl stands.0 shapes.0,
        comma_pieces comma,
        suffix_pieces suffix,
        broken_written (following c) level kind comma ss end ps stands.1 shapes.1 (λ e. fewer (count ss) (few e)),
      ) refl
      ∙ sym (spread (comment_lexemes before) (items_lexemes_by (inside c) nodes) (comma_lexemes comma) (suffix_lexemes suffix) after (piece_lexemes ps))
      ∙ ap (λ b. (comment_lexemes before ++ (items_lexemes_by (inside c) nodes ++ (comma_lexemes b ++ (suffix_lexemes suffix ++ after)))) ++ piece_lexemes ps) (sym (same_comma comma ss few))

  -- the segments after the first, each after its comma
  rest_written : (c : Choice) (level : ℕ) (kind : GroupKind) (ss : Segs) (ps : List Piece) → SegsStand c ss → SegsHaveShapes ss → have_comments ss ≡ false
      → piece_lexemes (flat_by c level kind false ss ++ ps) ≡ comma_lexemes (is_filled (segments ss)) ++ (segs_lexemes_by c false ss [] ++ piece_lexemes ps)
  rest_written c level kind no_segs ps stands shapes none = refl
  rest_written c level kind (seg before nodes suffix ss) ps stands shapes none =
      let b = bare before nodes suffix ss none in
      let own_nodes = items_by (inside c) level (Some kind) Space Start nodes in
      let rest = flat_by (following c) level kind false ss in
      let after = segs_lexemes_by (following c) false ss [] in
      ap (λ l. lexeme OperatorToken (codes ",") ∷ l)
      (ap piece_lexemes (append_assoc own_nodes rest ps) ∙ pieces_join own_nodes (rest ++ ps)
      ∙ rw (items_written (inside c) level (Some kind) Space Start nodes refl stands.0 shapes.0, rest_written (following c) level kind ss ps stands.1 shapes.1 b.rest) refl
      ∙ in_place (items_lexemes_by (inside c) nodes) (comma_lexemes (is_filled (segments ss))) after before suffix ss (piece_lexemes ps) b)

  flat_written : (c : Choice) (level : ℕ) (kind : GroupKind) (ss : Segs) (one_comma : Bool) (ps : List Piece) → SegsStand c ss → SegsHaveShapes ss → have_comments ss ≡ false → (one_comma ≡ true → count ss ≡ 1)
      → piece_lexemes (flat_by c level kind true ss ++ (comma_if one_comma ++ ps)) ≡ segs_lexemes_by c one_comma ss [] ++ piece_lexemes ps
  flat_written c level kind no_segs true ps stands shapes none one = absurd (none_is_not_one (one refl))
  flat_written c level kind no_segs false ps stands shapes none one = refl
  flat_written c level kind (seg before nodes suffix (seg b n s ss)) true ps stands shapes none one = absurd (two_are_not_one (count ss) (one refl))
  flat_written c level kind (seg before nodes suffix no_segs) true ps stands shapes none one =
      let b = bare before nodes suffix no_segs none in
      let own_nodes = items_by (inside c) level (Some kind) Closed Start nodes in
      let more = comma_if true ++ ps in
      ap piece_lexemes (append_assoc own_nodes [] more) ∙ pieces_join own_nodes more
      ∙ rw (items_written (inside c) level (Some kind) Closed Start nodes refl stands.0 shapes.0) refl
      ∙ in_place (items_lexemes_by (inside c) nodes) (comma_lexemes true) [] before suffix no_segs (piece_lexemes ps) b
  flat_written c level kind (seg before nodes suffix ss) false ps stands shapes none one =
      let b = bare before nodes suffix ss none in
      let own_nodes = items_by (inside c) level (Some kind) Closed Start nodes in
      let rest = flat_by (following c) level kind false ss in
      let after = segs_lexemes_by (following c) false ss [] in
      ap piece_lexemes (append_assoc own_nodes rest ps) ∙ pieces_join own_nodes (rest ++ ps)
      ∙ rw (items_written (inside c) level (Some kind) Closed Start nodes refl stands.0 shapes.0, rest_written (following c) level kind ss ps stands.1 shapes.1 b.rest) refl
      ∙ in_place (items_lexemes_by (inside c) nodes) (comma_lexemes (is_filled (segments ss))) after before suffix ss (piece_lexemes ps) b

either : (b : Bool) (ps : List Piece) → piece_lexemes (if b then [] else ps) ≡ (if b then [] else piece_lexemes ps)
either true ps = refl
either false ps = refl

line_written : (c : Choice) (s : Statement) → Stand c (items_of s.nodes) → HaveShapes (items_of s.nodes) → piece_lexemes (line_by c s) ≡ line_lexemes_by c s
line_written c s stands shapes =
    let newline : List Piece = piece Closed Newline (codes "\n") ∷ [] in
    pieces_join (items_by c 0 None Closed Start (items_of s.nodes)) (suffix_piece s.suffix ++ newline)
    ∙ rw (pieces_join (suffix_piece s.suffix) newline, items_written c 0 None Closed Start (items_of s.nodes) refl stands shapes, suffix_pieces s.suffix) refl

pub statement_pieces : (c : Choice) (s : Statement) → Stand c (items_of s.nodes) → HaveShapes (items_of s.nodes) → piece_lexemes (statement_by c s) ≡ lexemes_by c s
statement_pieces c s stands shapes =
    pieces_join (comment_lines s.before) (if is_comment s.class then [] else line_by c s)
    ∙ rw (line_pieces s.before, either (is_comment s.class) (line_by c s), line_written c s stands shapes) refl
