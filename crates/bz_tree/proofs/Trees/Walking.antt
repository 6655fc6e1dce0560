-- One more thing in an open bracket: its view as it is made, and its level.
use Rattle.std.proofs.Common.{◌≡◌, ℕ, ◌==◌, List, [], ◌∷◌, ◌++◌, length, map, reverse, Bool, true, false, Option, option_map, refl, ap, ◌∙◌, arith, rules}
use Rattle.std.proofs.lemmas.List.{map-append, reverse-append}
use Rattle.bz_tree.specs.declared.tree.Group.{Group, Group-F, roll-Group, out-roll-Group}
use Rattle.bz_tree.specs.declared.tree.GroupKind.{GroupKind}
use Rattle.bz_tree.specs.declared.tree.Leaf.{Leaf}
use Rattle.bz_tree.specs.declared.tree.Node.{Node, Token, the_lemmas}
use Rattle.bz_tree.specs.declared.tree.Seg.{Seg, Seg-F, roll-Seg, out-roll-Seg}
use Rattle.bz_tree.specs.declared.tree.kinds.Preceding.{Preceding}
use Rattle.bz_tree.specs.Tree.{Segment, leaf, group, segs_of}
use Rattle.bz_tree.specs.View.{text_of, texts, node_view, nodes_view, group_view, seg_view, segs_view}
use Rattle.bz_tree.specs.private.Steps.{Walked, Level}
use Rattle.bz_tree.proofs.Trees.Views.{view-group, view-seg}

pub view-Token : (t : Leaf) → node_view (Token t) ≡ leaf t.kind (text_of t.text)
view-Token t = search (rules, the_lemmas)

pub made-group : (g : Group-F Node Group Seg) → group_view (roll-Group g) ≡ group g.kind (segs_of (segs_view g.segs.items)) g.one_comma (texts g.end.items)
made-group g = view-group (roll-Group g) ∙ ap (λ (x : Group-F Node Group Seg). group x.kind (segs_of (segs_view x.segs.items)) x.one_comma (texts x.end.items)) (out-roll-Group g)

abbrev segment_of : Seg-F Node Group Seg → Segment
segment_of s = record { before = texts s.before.items; nodes = nodes_view s.nodes.items; suffix = option_map text_of s.suffix }

pub made-seg : (s : Seg-F Node Group Seg) → seg_view (roll-Seg s) ≡ segment_of s
made-seg s = view-seg (roll-Seg s) ∙ ap segment_of (out-roll-Seg s)

pub none_left : {A : Type 0} (xs : List A) → length xs ≡ 0 → xs ≡ []
none_left [] e = refl
none_left (x ∷ xs) e = absurd (omega (arith, e))

-- the last comes first
pub last_first : {A B : Type 0} (f : A → B) (xs ys : List A) (x : A) → xs ≡ ys ++ x ∷ [] → reverse (map f xs) ≡ f x ∷ reverse (map f ys)
last_first f xs ys x e = ap (λ zs. reverse (map f zs)) e ∙ (ap reverse (map-append f ys (x ∷ [])) ∙ reverse-append (map f ys) (f x ∷ []))

-- what `is_empty` tells
pub none_in : {A : Type 0} (xs : List A) (n : ℕ) (b : Bool) → length xs ≡ n → b ≡ (n == 0) → b ≡ true → xs ≡ []
none_in [] n b e f h = refl
none_in (x ∷ xs) n b e f h = grind arith

pub some_in : {A : Type 0} (xs : List A) (n : ℕ) (b : Bool) → length xs ≡ n → b ≡ (n == 0) → b ≡ false → (x : A) × (ys : List A) × (xs ≡ x ∷ ys)
some_in [] n b e f h = absurd (grind arith)
some_in (x ∷ xs) n b e f h = (x, xs, refl)

abbrev leveled : Option GroupKind → Option Walked → Preceding → Level
leveled kind w at = record { kind = kind; walked = w; at = at }

pub level_is : (k k2 : Option GroupKind) (w w2 : Option Walked) (at at2 : Preceding) → k ≡ k2 → w ≡ w2 → at ≡ at2 → leveled k w at ≡ leveled k2 w2 at2
level_is k k2 w w2 at at2 e f g = rw (e, f, g) refl
