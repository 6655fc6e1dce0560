-- What the walk over tokens spells, and that it makes one segment at the top.
use Rattle.std.proofs.Common.{◌≡◌, ℕ, ◌≤◌, ◌<◌, List, [], ◌∷◌, ◌++◌, length, map, slice_index_or, Bool, true, false, ◌&&◌, cond, Option, Some, None, option_map, Result, Ok, Err, OnOk, IfOk, IfSome, refl, sym, ap, subst, ◌∙◌, append_assoc, append-nil, arith, rules}
use Rattle.std.proofs.lemmas.List.{length-map}
use Rattle.std.specs.Option.{option_to_list}
use Rattle.bz_token.specs.Places.{Placed}
use Rattle.bz_tree.specs.declared.tree.Group.{Group as GroupValue, Group-F, out-Group, roll-Group, out-roll-Group}
use Rattle.bz_tree.specs.declared.tree.GroupKind.{GroupKind}
use Rattle.bz_tree.specs.declared.tree.GroupKind.TheVariants.{Call, RuleCall, Load, Paren, List as ListKind, Index, Dict, ListComp, DictComp}
use Rattle.bz_tree.specs.declared.tree.Node.{Node, Group, the_lemmas}
use Rattle.bz_tree.specs.declared.tree.Seg.{Seg, Seg-F, roll-Seg, out-roll-Seg}
use Rattle.bz_tree.specs.declared.tree.build.Frame.{Frame}
use Rattle.bz_tree.specs.declared.tree.owners.Inside.{Inside as RustInside}
use Rattle.bz_tree.specs.declared.tree.kinds.Mark.{Mark}
use Rattle.bz_tree.specs.declared.tree.kinds.Mark.TheVariants.{Open, Close, Comma, Comment, Newline, Plain}
use Rattle.bz_tree.specs.Tree.{Item}
use Rattle.bz_tree.specs.Kinds.{mark_of}
use Rattle.bz_tree.specs.private.KindSteps.{same_shape}
use Rattle.bz_tree.specs.View.{seg_view}
use Rattle.bz_tree.specs.Owners.{Inside, Inner, node, comma, comment}
use Rattle.bz_tree.specs.Cells.{Last, no_token, end_of_node, end_of_comma, is_on}
use Rattle.bz_tree.specs.Elements.{own_of}
use Rattle.bz_tree.specs.Places.{Spelled, opens, closes, joined, group_spelling, seg_spelling, spelled, AreSpelled}
use Rattle.bz_tree.specs.private.Steps.{Walked, Level, Levels, after_own, as_comprehension, closed, commented, done, has_one, inside_view, is_for, is_in_first, levels, new_level, next_at, shape_of, to_last, with_own}
use Rattle.bz_tree.specs.private.PlacedSteps.{AreFlat, AreSpelledFrom, IsFlat, IsFlatAt, nodes_spelling, segs_spelling}
use Rattle.bz_tree.proofs.Trees.Sound.{some_injective}

pub joined_more : {A : Type 0} → (f : A → List Spelled) (xs ys : List A) → joined (map f (xs ++ ys)) ≡ joined (map f xs) ++ joined (map f ys)
joined_more f [] ys = refl
joined_more f (x ∷ xs) ys = ap (λ ps. f x ++ ps) (joined_more f xs ys) ∙ sym (append_assoc (f x) (joined (map f xs)) (joined (map f ys)))

pub joined_push : {A : Type 0} → (f : A → List Spelled) (xs : List A) (x : A) → joined (map f (xs ++ x ∷ [])) ≡ joined (map f xs) ++ f x
joined_push f xs x = joined_more f xs (x ∷ []) ∙ ap (λ ps. joined (map f xs) ++ ps) (append-nil (f x))

pub joined_pop : {A : Type 0} → (f : A → List Spelled) (xs : List A) (o : Option A) (x : A) → o ≡ Some x → joined (map f (xs ++ option_to_list o)) ≡ joined (map f xs) ++ f x
joined_pop f xs o x e = ap (λ p. joined (map f (xs ++ option_to_list p))) e ∙ joined_push f xs x

-- nothing is spelled after `a`
pub ends_here : (a b c : List Spelled) → a ≡ c → b ≡ [] → a ++ b ≡ c
ends_here a b c e f = rw (e, f) (append-nil c)

pub more_of : (a b c x : List Spelled) → b ≡ c ++ x → a ++ b ≡ (a ++ c) ++ x
more_of a b c x e = ap (λ ps. a ++ ps) e ∙ sym (append_assoc a c x)

pub on_always : {E A G : Type 0} → (r : Result A E) → G → OnOk r G
on_always (Ok u) g = g
on_always (Err why) g = tt

pub spelled_seg : (s : Seg) → seg_spelling s ≡ nodes_spelling s.nodes.items
spelled_seg s = search (rules, the_lemmas)

pub spelled_group : (g : GroupValue) → group_spelling g ≡ opens ∷ (segs_spelling (out-Group g).segs.items ++ closes ∷ [])
spelled_group g = search (rules, the_lemmas)

pub made_group : (g : Group-F Node GroupValue Seg) → group_spelling (roll-Group g) ≡ opens ∷ (segs_spelling g.segs.items ++ closes ∷ [])
made_group g = spelled_group (roll-Group g) ∙ ap (λ (x : Group-F Node GroupValue Seg). opens ∷ (segs_spelling x.segs.items ++ closes ∷ [])) (out-roll-Group g)

pub made_seg : (s : Seg-F Node GroupValue Seg) → seg_spelling (roll-Seg s) ≡ nodes_spelling s.nodes.items
made_seg s = spelled_seg (roll-Seg s) ∙ ap (λ (x : Seg-F Node GroupValue Seg). nodes_spelling x.nodes.items) (out-roll-Seg s)

pub added : (new dest below g h : List Spelled) → new ≡ dest ++ g → dest ≡ below → g ≡ h → new ≡ below ++ h
added new dest below g h e f k = e ∙ (ap (λ ps. ps ++ g) f ∙ ap (λ ps. below ++ ps) k)

-- a bracket that closes is spelled where it opened
pub close_spelled : (j b t o new : List Spelled) → o ≡ j ++ (b ++ opens ∷ []) → new ≡ b ++ (opens ∷ (t ++ closes ∷ [])) → j ++ new ≡ (o ++ t) ++ closes ∷ []
close_spelled j b t o new e f =
    let end = t ++ closes ∷ [] in
    ap (λ ps. j ++ ps) f
    ∙ (sym (append_assoc (j ++ (b ++ opens ∷ [])) t (closes ∷ []) ∙ (append_assoc j (b ++ opens ∷ []) end ∙ ap (λ ps. j ++ ps) (append_assoc b (opens ∷ []) end)))
    ∙ ap (λ ps. (ps ++ t) ++ closes ∷ []) (sym e))

pub each_some : {A E : Type 0} → (P Q : A → Type 0) (r : Result (Option A) E) → ((x : A) → P x → Q x) → IfOk r (λ o. IfSome o P) → IfOk r (λ o. IfSome o Q)
each_some P Q (Ok None) f h = tt
each_some P Q (Ok (Some x)) f h = f x h
each_some P Q (Err why) f h = tt

-- all is one segment
pub only_first : (ss : List Seg) (s : Seg) → 0 < length ss → s ≡ slice_index_or ss 0 s → length ss ≤ 1 → nodes_spelling s.nodes.items ≡ segs_spelling ss
only_first [] s some e short = absurd (omega (arith, some))
only_first (x ∷ []) s some e short = ap (λ (y : Seg). nodes_spelling y.nodes.items) e ∙ (sym (spelled_seg x) ∙ sym (append-nil (seg_spelling x)))
only_first (x ∷ y ∷ ss) s some e short = absurd (omega (arith, short))

done_short : (w : Walked) → w.segs ≡ [] → length (done w).segs ≤ 1
done_short w e = by w.nodes refl
  where
    by : (ns : List Item) → w.nodes ≡ ns → length (done w).segs ≤ 1
    by [] f = rw (f, e) (omega arith)
    by (x ∷ xs) f = rw (f, e) (omega arith)

some≢none : {A : Type 0} (x : A) → Some x ≡ None → ⊥
some≢none x e = absurd (cc)

pub inside_short : (o : Option RustInside) (w : Option Walked) (i : RustInside) → o ≡ Some i → option_map inside_view o ≡ option_map done w → IsFlatAt None w → length i.segs.items ≤ 1
inside_short o None i e h flat = absurd (some≢none _ (sym (ap (option_map inside_view) e) ∙ h))
inside_short o (Some w) i e h flat =
    let same : inside_view i ≡ done w = some_injective _ _ (sym (ap (option_map inside_view) e) ∙ h) in
    omega (arith, done_short w flat, ap (λ (j : Inside). length j.segs) same, length-map i.segs.items seg_view)

-- the walk over tokens, one by one
pub from_next : (before mid now : List Spelled) (kept : Bool) (t : Placed) (ts : List Placed) → mid ≡ before ++ spelled (mark_of t) kept t → AreSpelledFrom mid ts now → AreSpelledFrom before (t ∷ ts) now
from_next before mid now kept t ts e h =
    let here = spelled (mark_of t) kept t in
    (here ++ h.0, (h.1.0 ∙ (ap (λ ps. ps ++ h.0) e ∙ append_assoc before here h.0), (kept, h.0, (refl, h.1.1))))

pub from_here : (before now : List Spelled) → now ≡ before → AreSpelledFrom before [] now
from_here before now e = ([], (e ∙ sym (append-nil before), refl))

pub from_nothing : (before now : List Spelled) (ts : List Placed) → before ≡ [] → AreSpelledFrom before ts now → AreSpelled ts now
from_nothing before now ts e h = subst (AreSpelled ts) (sym (h.1.0 ∙ ap (λ ps. ps ++ h.0) e)) h.1.1

-- at the top no segment ends
comment_flat : (last : Last) (on : Bool) (text : List ℕ) (w : Walked) → w.segs ≡ [] → (commented last on text w).segs ≡ []
comment_flat no_token true text w e = e
comment_flat no_token false text w e = e
comment_flat (end_of_node end) true text w e = e
comment_flat (end_of_node end) false text w e = e
comment_flat (end_of_comma end) true text w e = ap (to_last text) e
comment_flat (end_of_comma end) false text w e = e

top_flat : (w : Option Walked) (o : Inner) → IsFlatAt None w → IsFlatAt None (after_own true o w)
top_flat None (node line x) h = tt
top_flat None (comma t) h = tt
top_flat None (comment line text) h = tt
top_flat (Some w) (node line x) h = h
top_flat (Some w) (comma t) h = h
top_flat (Some w) (comment line text) h = comment_flat w.last (is_on w.last line) text w h

kind_flat : (k : GroupKind) (w : Option Walked) → IsFlatAt (as_comprehension (Some k)) w
kind_flat Call w = tt
kind_flat RuleCall w = tt
kind_flat Load w = tt
kind_flat Paren w = tt
kind_flat ListKind w = tt
kind_flat Index w = tt
kind_flat Dict w = tt
kind_flat ListComp w = tt
kind_flat DictComp w = tt

own_flat_at : (k : Option GroupKind) (w : Option Walked) (o : Inner) (b : Bool) → IsFlatAt k w → IsFlatAt (cond b (as_comprehension k) k) (after_own (has_one k) o w)
own_flat_at None w o true h = top_flat w o h
own_flat_at None w o false h = top_flat w o h
own_flat_at (Some k) w o true h = kind_flat k (after_own (has_one (Some k)) o w)
own_flat_at (Some k) w o false h = tt

own_flat : (l : Level) (o : Inner) → IsFlat l → IsFlat (with_own l o)
own_flat l o h = own_flat_at l.kind l.walked o (is_for o && is_in_first l.walked) h

abbrev FlatWhere : Option Levels → Type 0
FlatWhere None = Unit {0}
FlatWhere (Some ls) = AreFlat (ls.0 ∷ ls.1)

next_flat_where : (m : Mark) (t : Placed) (top : Level) (outer : List Level) → AreFlat (top ∷ outer) → FlatWhere (next_at m t top outer)
next_flat_where Newline t top outer h = h
next_flat_where (Open shape) t top outer h = (tt, h)
next_flat_where (Close shape) t top [] h = tt
next_flat_where (Close shape) t top (below ∷ outer) h = closes_flat (same_shape (option_map shape_of top.kind) shape) (closed top.kind top.walked)
  where
    closes_flat : (b : Bool) (g : Option Item) → FlatWhere (cond b (option_map {U = Levels} (λ x. (with_own below (node t.line x), outer)) g) None)
    closes_flat true None = tt
    closes_flat true (Some x) = (own_flat below (node t.line x) h.1.0, h.1.1)
    closes_flat false g = tt
next_flat_where Comma t top outer h = (own_flat top (own_of Comma t) h.0, h.1)
next_flat_where Comment t top outer h = (own_flat top (own_of Comment t) h.0, h.1)
next_flat_where Plain t top outer h = (own_flat top (own_of Plain t) h.0, h.1)

pub next_flat : (m : Mark) (t : Placed) (top new : Level) (outer rest : List Level) → Some (new, rest) ≡ next_at m t top outer → AreFlat (top ∷ outer) → AreFlat (new ∷ rest)
next_flat m t top new outer rest e h = subst FlatWhere (sym e) (next_flat_where m t top outer h)

pub flat_begun : (top : Level) (outer : List Frame) → top ≡ new_level None → outer ≡ [] → AreFlat (top ∷ levels outer)
flat_begun top outer e f = (subst IsFlat (sym e) refl, subst (λ fs. AreFlat (levels fs)) (sym f) tt)
