-- A statement with its comments, by what was read of it.
use Rattle.std.proofs.Common.{◌≡◌, ◌≢◌, ℕ, List, [], ◌∷◌, ◌++◌, Bool, true, false, length, refl, sym, ap, subst, ◌∙◌, arith, append_assoc, append-nil}
use Rattle.std.specs.Prelude.{codes, if◌then◌else◌, Option, None}
use Rattle.std.proofs.lemmas.Bool.{false≢true}
use Rattle.bz_token.specs.declared.token.Kind.TheVariants.{Newline}
use Rattle.bz_tree.specs.declared.tree.Class.{Class}
use Rattle.bz_tree.specs.declared.tree.Class.TheVariants.{Comment}
use Rattle.bz_tree.proofs.Recognizer.InTable.{statement_form}
use Rattle.bz_tree.specs.private.Productions.{IsStatement}
use Rattle.bz_tree.specs.Tree.{Item, items_of}
use Rattle.bz_layout.specs.declared.spacing.Edge.TheVariants.{Start}
use Rattle.bz_layout.specs.declared.spacing.Gap.TheVariants.{Closed}
use Rattle.bz_layout.specs.declared.broken.Style.TheVariants.{Broken}
use Rattle.bz_layout.specs.Layout.{is_comment, layout_text}
use Rattle.bz_layout.proofs.SameLayout.{layout_text_is}
use Rattle.bz_layout.specs.Walked.{items_pieces}
use Rattle.bz_layout.specs.Pieces.{Piece, piece, bytes_of, comment_lines, suffix_piece}
use Rattle.bz_layout.proofs.Pieces.{bytes_append}
use Rattle.bz_layout_laws.specs.Legible.{are_some}
use Rattle.bz_canonical.specs.Canonical.{HasArgumentName}
use Rattle.bz_canonical.specs.private.Segments.{AreLinesFront, IsBesideFront}
use Rattle.bz_canonical.specs.private.Statements.{IsBareFront, IsStatementFront}
use Rattle.bz_canonical.proofs.RuleCalls.{after_it, before_it}
use Rattle.bz_token.specs.Common.{is_filled}

-- a statement that is more than comments
abbrev pub statement_front : (depth : ℕ) (class : Class) (name kind : Option (List ℕ)) (text start middle end rest : List ℕ) (b : Bool) → AreLinesFront text start
    → IsBareFront depth class name kind start middle → IsBesideFront middle end b
    → end ≡ 10 ∷ rest → IsStatementFront depth class name kind text rest rest
statement_front depth class name kind text start middle end rest b above s beside ends = record {
  s = record { before = above.notes; nodes = s.nodes; suffix = beside.note; class = class; start = 0; end = 0 };
  well = record {
    texts = record { some = λ no. s.some; before = above.are; nodes = s.texts; suffix = beside.is };
    parsed = record {
      kinds = s.kinds;
      rule = s.rule;
      class = s.class_is;
      alone = λ none. absurd (false≢true (sym (ap (λ (xs : List Item). are_some (items_of xs)) none) ∙ s.some));
      lines = λ none. absurd (false≢true (sym (ap (λ (xs : List Item). are_some (items_of xs)) none) ∙ s.some));
    };
    grammar = statement_form s.grammar;
    depth_fits = s.depth_fits;
  };
  stays = ap (λ xs. record { before = above.notes; nodes = xs; suffix = beside.note; class = class; start = 0; end = 0 }) s.stays;
  class_is = refl;
  named = s.named;
  nameless = s.nameless;
  front = above.front ∙ ap (λ (t : List ℕ). bytes_of (comment_lines above.notes) ++ t)
      (s.front ∙ ap (λ (t : List ℕ). bytes_of (items_pieces Broken 0 None Closed Start (items_of s.nodes)) ++ t)
      (beside.front ∙ ap (λ (t : List ℕ). bytes_of (suffix_piece beside.note) ++ t) ends))
      ∙ by (comment_lines above.notes) (items_pieces Broken 0 None Closed Start (items_of s.nodes)) (suffix_piece beside.note) (is_comment class) s.other
      ∙ ap (λ (t : List ℕ). t ++ rest) (sym laid);
  ends = none (is_comment class) s.other;
  absent = λ name no. s.absent name (λ has. no (subst (HasArgumentName name) (sym laid)
      (within name (comment_lines above.notes) (items_pieces Broken 0 None Closed Start (items_of s.nodes)) (suffix_piece beside.note ++ piece Closed Newline (codes "\n") ∷ []) (is_comment class) s.other has)));
}
  where
    laid : layout_text (record { before = above.notes; nodes = s.nodes; suffix = beside.note; class = class; start = 0; end = 0 })
        ≡ bytes_of (comment_lines above.notes ++ (if is_comment class then [] else items_pieces Broken 0 None Closed Start (items_of s.nodes) ++ (suffix_piece beside.note ++ piece Closed Newline (codes "\n") ∷ [])))
    laid = layout_text_is (record { before = above.notes; nodes = s.nodes; suffix = beside.note; class = class; start = 0; end = 0 })

    within : (attr : List ℕ) (C P S : List Piece) (b : Bool) → b ≡ false → HasArgumentName attr (bytes_of P) → HasArgumentName attr (bytes_of (C ++ (if b then [] else P ++ S)))
    within attr C P S b is has = rw (is, bytes_append C (P ++ S), bytes_append P S) (after_it attr (bytes_of C) _ (before_it attr (bytes_of P) (bytes_of S) has))

    by : (C P S : List Piece) (b : Bool) → b ≡ false → bytes_of C ++ (bytes_of P ++ (bytes_of S ++ (10 ∷ rest)))
        ≡ bytes_of (C ++ (if b then [] else P ++ (S ++ piece Closed Newline (codes "\n") ∷ []))) ++ rest
    by C P S b is = rw (is, bytes_append C (P ++ (S ++ piece Closed Newline (codes "\n") ∷ [])), bytes_append P (S ++ piece Closed Newline (codes "\n") ∷ []), bytes_append S (piece Closed Newline (codes "\n") ∷ [])) (simp append_assoc)

    none : (b : Bool) → b ≡ false → rest ≡ (if b then codes "\n" else []) ++ rest
    none b is = rw is refl

-- comment lines alone, one at least
pub comments_front : (depth : ℕ) (text start rest : List ℕ) → AreLinesFront text start → length start ≢ length text → start ≡ 10 ∷ rest → IsStatementFront depth Comment None None text start rest
comments_front depth text start rest above some ends = record {
  s = record { before = above.notes; nodes = []; suffix = None; class = Comment; start = 0; end = 0 };
  well = record {
    texts = record { some = λ no. absurd (false≢true (sym no)); before = above.are; nodes = tt; suffix = refl };
    parsed = record { kinds = tt; rule = refl; class = refl; alone = λ is. refl; lines = λ is. by above.notes above.front };
    grammar = statement_form IsStatement.comments;
    depth_fits = omega arith;
  };
  stays = refl;
  class_is = refl;
  named = refl;
  nameless = tt;
  front = above.front ∙ ap (λ (ps : List Piece). bytes_of ps ++ start) (sym (append-nil (comment_lines above.notes)));
  ends = ends;
  absent = λ name no. refl;
}
  where
    by : (notes : List (List ℕ)) → text ≡ bytes_of (comment_lines notes) ++ start → is_filled notes ≡ true
    by [] is = absurd (some (ap length (sym is)))
    by (note ∷ notes) is = refl
