-- Operands and groups by what was read of them.
use Rattle.std.proofs.Common.{◌≡◌, ℕ, suc, ◌+◌, List, [], ◌∷◌, ◌++◌, Bool, true, false, ◌||◌, ◌&&◌, refl, sym, ap, ◌∙◌, arith, append_assoc}
use Rattle.std.specs.Prelude.{if◌then◌else◌, nat_le}
use Rattle.std.proofs.lemmas.Bool.{false≢true}
use Rattle.bz_token.specs.declared.token.Kind.{Kind}
use Rattle.bz_token.specs.declared.token.Kind.TheVariants.{Identifier, Integer, String, Operator}
use Rattle.bz_tree.specs.declared.tree.GroupKind.{GroupKind}
use Rattle.bz_tree.specs.declared.tree.GroupKind.TheVariants.{List as ListKind, Dict}
use Rattle.bz_tree.specs.declared.tree.kinds.Shape.TheVariants.{Square, Curly}
use Rattle.bz_tree.specs.declared.tree.kinds.Preceding.TheVariants.{Other}
use Rattle.bz_tree.specs.private.Productions.{IsOperand, IsPrimary, AreSuffixes}
use Rattle.bz_tree.specs.Kinds.{group_kind}
use Rattle.bz_tree.specs.Tree.{leaf, group, Segs}
use Rattle.bz_layout.specs.declared.spacing.Gap.{Gap}
use Rattle.bz_layout.specs.declared.spacing.Gap.TheVariants.{Line, Closed}
use Rattle.bz_layout.specs.declared.broken.Style.TheVariants.{Broken}
use Rattle.bz_layout.specs.Broken.{breaks_by_count}
use Rattle.bz_layout.specs.Walked.{is_broken, segs_hold, have_comments, count, opening, closing, broken_segs, flat_segs}
use Rattle.bz_layout.specs.Layout.{has_commas, breaks}
use Rattle.bz_layout.specs.Pieces.{Piece, piece, gap_bytes, bytes_of, indent, comments}
use Rattle.bz_layout.specs.Respell.{respell}
use Rattle.bz_layout.proofs.Pieces.{bytes_append}
use Rattle.bz_canonical.specs.private.Fronts.{IsTokenFront}
use Rattle.bz_canonical.specs.private.Values.{IsValueFront}
use Rattle.bz_canonical.specs.private.Segments.{AreFlatFront, AreNotesFront, AreSegmentsFront, IsGroupFront}
use Rattle.bz_token.specs.Common.{is_filled}

pub token_front : (gap : Gap) (kind : Kind) (text rest : List ℕ) (f : IsTokenFront kind text rest) → gap_bytes gap ++ text ≡ bytes_of (piece gap kind (respell kind f.token) ∷ []) ++ rest
token_front gap kind text rest f =
    ap (λ (t : List ℕ). gap_bytes gap ++ t) f.front ∙ by (respell kind f.token) f.stays
  where
    by : (t : List ℕ) → t ≡ f.token → gap_bytes gap ++ (f.token ++ rest) ≡ (gap_bytes gap ++ (t ++ [])) ++ rest
    by t e = rw e (simp append_assoc)

abbrev pub string_value : (text rest : List ℕ) → IsTokenFront String text rest → (level depth : ℕ) → IsValueFront level depth text rest false
string_value text rest f level depth = record {
  x = leaf String f.token;
  is = record {
    texts = (f.is, refl);
    kinds = tt;
    primary = IsPrimary.operand (IsOperand.text refl) AreSuffixes.no_suffix;
    no_comma = refl;
    no_for = refl;
    apart = refl;
    depth_fits = omega arith;
    stays = ap (leaf String) f.stays;
    leaves = λ within left. refl;
    after = refl;
  };
  front = λ gap. token_front gap String text rest f;
  breaks = refl;
}

abbrev pub name_value : (text rest : List ℕ) → IsTokenFront Identifier text rest → (level depth : ℕ) → IsValueFront level depth text rest false
name_value text rest f level depth = record {
  x = leaf Identifier f.token;
  is = record {
    texts = (f.is, refl);
    kinds = tt;
    primary = IsPrimary.operand (IsOperand.ident refl) AreSuffixes.no_suffix;
    no_comma = refl;
    no_for = refl;
    apart = refl;
    depth_fits = omega arith;
    stays = refl;
    leaves = λ within left. refl;
    after = refl;
  };
  front = λ gap. token_front gap Identifier text rest f;
  breaks = refl;
}

abbrev pub number_value : (text rest : List ℕ) → IsTokenFront Integer text rest → (level depth : ℕ) → IsValueFront level depth text rest false
number_value text rest f level depth = record {
  x = leaf Integer f.token;
  is = record {
    texts = (f.is, refl);
    kinds = tt;
    primary = IsPrimary.number refl AreSuffixes.no_suffix refl;
    no_comma = refl;
    no_for = refl;
    apart = refl;
    depth_fits = omega arith;
    stays = ap (leaf Integer) f.stays;
    leaves = λ within left. refl;
    after = refl;
  };
  front = λ gap. token_front gap Integer text rest f;
  breaks = refl;
}

-- whether a group is broken, by what was counted
pub broken_by : (kind : GroupKind) (segs : Segs) (end : List (List ℕ)) (n : ℕ) (h c e : Bool) → is_filled end ≡ e → have_comments segs ≡ c → count segs ≡ n → segs_hold segs ≡ h
    → is_broken kind segs end (segs_hold segs) ≡ (e || c || breaks_by_count kind n || (nat_le 2 n && h))
broken_by kind segs end n h c e ends notes many holds = rw (ends, notes, many, holds) refl

-- a group on lines
abbrev pub broken_group : (kind : GroupKind) (level depth below : ℕ) (inside middle end after rest : List ℕ) (z n : ℕ) (h c e : Bool) → suc below ≡ depth → closing kind ≡ z ∷ []
    → ((n : ℕ) → has_commas kind false n ≡ true) → AreSegmentsFront kind (level + 1) below inside middle n h c → AreNotesFront (level + 1) middle end e
    → (e || c || breaks_by_count kind n || (nat_le 2 n && h)) ≡ true → end ≡ 10 ∷ (indent level ++ after) → after ≡ z ∷ rest
    → IsGroupFront kind level depth (opening kind ++ inside) rest true
broken_group kind level depth below inside middle end after rest z n h c e deeper closes commas s notes many line ends = record {
  segs = s.segs;
  below = below;
  depth_is = deeper;
  are = s.are;
  end = notes.notes;
  end_is = notes.are;
  front = λ gap. ap (λ (t : List ℕ). gap_bytes gap ++ (opening kind ++ t))
      (s.front ∙ ap (λ (t : List ℕ). bytes_of (broken_segs Broken (level + 1) kind true s.segs) ++ t)
      (notes.front ∙ ap (λ (t : List ℕ). bytes_of (comments (level + 1) notes.notes) ++ t) (line ∙ ap (λ (t : List ℕ). 10 ∷ (indent level ++ t)) ends)))
      ∙ by gap (is_broken kind s.segs notes.notes (segs_hold s.segs)) broken (has_commas kind false (count s.segs)) (commas (count s.segs)) (closing kind) closes _;
  breaks = ap (λ b. b || segs_hold s.segs) broken;
}
  where
    broken : is_broken kind s.segs notes.notes (segs_hold s.segs) ≡ true
    broken = broken_by kind s.segs notes.notes n h c e notes.some_is s.notes s.count_is s.breaks ∙ many

    body : (P Q : List Piece) (g : List ℕ) → g ++ (opening kind ++ (bytes_of P ++ (bytes_of Q ++ (10 ∷ (indent level ++ z ∷ rest)))))
        ≡ (g ++ (opening kind ++ bytes_of (P ++ (Q ++ piece (Line level) Operator (z ∷ []) ∷ [])))) ++ rest
    body P Q g = rw (bytes_append P (Q ++ piece (Line level) Operator (z ∷ []) ∷ []), bytes_append Q (piece (Line level) Operator (z ∷ []) ∷ [])) (simp append_assoc)

    by : (gap : Gap) (b : Bool) → b ≡ true → (k : Bool) → k ≡ true → (o : List ℕ) → o ≡ z ∷ [] → (A : List Piece)
        → gap_bytes gap ++ (opening kind ++ (bytes_of (broken_segs Broken (level + 1) kind true s.segs) ++ (bytes_of (comments (level + 1) notes.notes) ++ (10 ∷ (indent level ++ z ∷ rest)))))
        ≡ (gap_bytes gap ++ (opening kind ++ bytes_of (if breaks Broken b then broken_segs Broken (level + 1) kind k s.segs ++ (comments (level + 1) notes.notes ++ piece (Line level) Operator o ∷ []) else A))) ++ rest
    by gap b e1 k e2 o e3 A = rw (e1, e2, e3) (body (broken_segs Broken (level + 1) kind true s.segs) (comments (level + 1) notes.notes) (gap_bytes gap))

-- a group in place
abbrev pub flat_group : (kind : GroupKind) (level depth below : ℕ) (inside end rest : List ℕ) (z n : ℕ) (h : Bool) → suc below ≡ depth → closing kind ≡ z ∷ []
    → AreFlatFront kind true level below inside end n h → (breaks_by_count kind n || (nat_le 2 n && h)) ≡ false → end ≡ z ∷ rest
    → IsGroupFront kind level depth (opening kind ++ inside) rest h
flat_group kind level depth below inside end rest z n h deeper closes s few ends = record {
  segs = s.segs;
  below = below;
  depth_is = deeper;
  are = s.are;
  end = [];
  end_is = refl;
  front = λ gap. ap (λ (t : List ℕ). gap_bytes gap ++ (opening kind ++ t)) (s.front ∙ ap (λ (t : List ℕ). bytes_of (flat_segs Broken level kind true s.segs) ++ t) ends)
      ∙ by gap (is_broken kind s.segs [] (segs_hold s.segs)) flat (closing kind) closes _;
  breaks = ap (λ b. b || segs_hold s.segs) flat ∙ s.breaks;
}
  where
    flat : is_broken kind s.segs [] (segs_hold s.segs) ≡ false
    flat = broken_by kind s.segs [] n h false false refl s.bare s.count_is s.breaks ∙ few

    body : (P : List Piece) (g : List ℕ) → g ++ (opening kind ++ (bytes_of P ++ (z ∷ rest))) ≡ (g ++ (opening kind ++ bytes_of (P ++ (piece Closed Operator (z ∷ []) ∷ [])))) ++ rest
    body P g = rw (bytes_append P (piece Closed Operator (z ∷ []) ∷ [])) (simp append_assoc)

    by : (gap : Gap) (b : Bool) → b ≡ false → (o : List ℕ) → o ≡ z ∷ [] → (A : List Piece)
        → gap_bytes gap ++ (opening kind ++ (bytes_of (flat_segs Broken level kind true s.segs) ++ (z ∷ rest)))
        ≡ (gap_bytes gap ++ (opening kind ++ bytes_of (if breaks Broken b then A else flat_segs Broken level kind true s.segs ++ ([] ++ piece Closed Operator o ∷ [])))) ++ rest
    by gap b e1 o e2 A = rw (e1, e2) (body (flat_segs Broken level kind true s.segs) (gap_bytes gap))

pub absurd_of : {A : Type 0} → false ≡ true → A
absurd_of h = absurd (false≢true h)

-- a list or a dict as an operand
abbrev pub list_value : (level depth : ℕ) (text rest : List ℕ) (h : Bool) → IsGroupFront ListKind level depth text rest h → IsValueFront level depth text rest h
list_value level depth text rest h g = record {
  x = group ListKind g.segs false g.end;
  is = record {
    texts = (g.are.texts, g.end_is);
    kinds = (Square, ap (group_kind Square Other) (sym g.are.no_for), record { one = λ is. absurd_of is; comma = λ is. absurd_of is }, g.are.kinds);
    primary = IsPrimary.operand (IsOperand.list g.are.grammar) AreSuffixes.no_suffix;
    no_comma = refl;
    no_for = refl;
    apart = refl;
    depth_fits = omega (arith, g.are.depth_fits, g.depth_is);
    stays = ap (λ s. group ListKind s false g.end) g.are.stays;
    leaves = λ within left. refl;
    after = refl;
  };
  front = g.front;
  breaks = g.breaks;
}

abbrev pub dict_value : (level depth : ℕ) (text rest : List ℕ) (h : Bool) → IsGroupFront Dict level depth text rest h → IsValueFront level depth text rest h
dict_value level depth text rest h g = record {
  x = group Dict g.segs false g.end;
  is = record {
    texts = (g.are.texts, g.end_is);
    kinds = (Curly, ap (group_kind Curly Other) (sym g.are.no_for), record { one = λ is. absurd_of is; comma = λ is. absurd_of is }, g.are.kinds);
    primary = IsPrimary.operand (IsOperand.dict g.are.grammar) AreSuffixes.no_suffix;
    no_comma = refl;
    no_for = refl;
    apart = refl;
    depth_fits = omega (arith, g.are.depth_fits, g.depth_is);
    stays = ap (λ s. group Dict s false g.end) g.are.stays;
    leaves = λ within left. refl;
    after = refl;
  };
  front = g.front;
  breaks = g.breaks;
}
