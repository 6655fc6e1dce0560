-- Sums over lists that are joined, and the count of a segment's owned texts by its parts.
use Rattle.std.proofs.Common.{◌≡◌, ℕ, ◌+◌, ◌≤◌, ◌<◌, List, [], ◌∷◌, ◌++◌, length, map, slice_index_or, Option, Some, Result, Ok, Err, cond, is_ok, OnOk, arith, rules, ap, ◌∙◌}
use Rattle.std.specs.Option.{option_to_list}
use Rattle.bz_tree.specs.declared.tree.Group.{Group, Group-F, out-Group, roll-Group, out-roll-Group}
use Rattle.bz_tree.specs.declared.tree.Node.{Node, the_lemmas}
use Rattle.bz_tree.specs.declared.tree.Seg.{Seg}
use Rattle.bz_tree.specs.Borrowed.{total, owned_in, owned_of, group_owned, seg_owned}
use Rattle.bz_tree.specs.private.BorrowedSteps.{nodes_owned, segs_owned}

plus_assoc : (a b c : ℕ) → a + (b + c) ≡ (a + b) + c
plus_assoc a b c = search (arith)

plus_zero : (a : ℕ) → a ≡ 0 + a
plus_zero a = search (arith)

zero_plus : (a : ℕ) → a + 0 ≡ a
zero_plus a = search (arith)

pub total_append : (xs ys : List ℕ) → total (xs ++ ys) ≡ total xs + total ys
total_append [] ys = plus_zero (total ys)
total_append (x ∷ xs) ys = ap (λ n. x + n) (total_append xs ys) ∙ plus_assoc x (total xs) (total ys)

pub owned_more : {A : Type 0} → (f : A → ℕ) (xs ys : List A) → total (map f (xs ++ ys)) ≡ total (map f xs) + total (map f ys)
owned_more f [] ys = plus_zero (total (map f ys))
owned_more f (x ∷ xs) ys = ap (λ n. f x + n) (owned_more f xs ys) ∙ plus_assoc (f x) (total (map f xs)) (total (map f ys))

pub owned_push : {A : Type 0} → (f : A → ℕ) (xs : List A) (x : A) → total (map f (xs ++ x ∷ [])) ≡ total (map f xs) + f x
owned_push f xs x = owned_more f xs (x ∷ []) ∙ ap (λ n. total (map f xs) + n) (zero_plus (f x))

pub owned_pop : {A : Type 0} → (f : A → ℕ) (xs : List A) (o : Option A) (x : A) → o ≡ Some x → total (map f (xs ++ option_to_list o)) ≡ total (map f xs) + f x
owned_pop f xs o x e = ap (λ p. total (map f (xs ++ option_to_list p))) e ∙ owned_push f xs x

pub owned_seg : (s : Seg) → seg_owned s ≡ owned_in s.before.items + nodes_owned s.nodes.items + owned_of s.suffix
owned_seg s = search (rules, the_lemmas)

pub seg_at_most : (s : Seg) (n : ℕ) → owned_in s.before.items + nodes_owned s.nodes.items + owned_of s.suffix ≤ n → seg_owned s ≤ n
seg_at_most s n h = omega (arith, owned_seg s, h)

pub seg_push : (ss : List Seg) (s : Seg) → segs_owned (ss ++ s ∷ []) ≡ segs_owned ss + (owned_in s.before.items + nodes_owned s.nodes.items + owned_of s.suffix)
seg_push ss s = owned_push seg_owned ss s ∙ ap (λ n. segs_owned ss + n) (owned_seg s)

pub owned_first : {A : Type 0} → (f : A → ℕ) (xs : List A) (x : A) → 0 < length xs → x ≡ slice_index_or xs 0 x → f x ≤ total (map f xs)
owned_first f [] x some e = omega (arith, some)
owned_first f (y ∷ ys) x some e = let first : f x ≡ f y = ap f e in omega (arith, first)

owned_group : (g : Group) → group_owned g ≡ segs_owned (out-Group g).segs.items + owned_in (out-Group g).end.items
owned_group g = search (rules, the_lemmas)

pub made_group : (g : Group-F Node Group Seg) → group_owned (roll-Group g) ≡ segs_owned g.segs.items + owned_in g.end.items
made_group g = owned_group (roll-Group g) ∙ ap (λ (x : Group-F Node Group Seg). segs_owned x.segs.items + owned_in x.end.items) (out-roll-Group g)

-- what a push at the end of a function gives
pub on_pushed : {E G A : Type 0} → (r : Result (Unit {0}) E) (x a b : List A) → x ≡ cond (is_ok r) a b → (x ≡ a → G) → OnOk r G
on_pushed (Ok u) x a b e f = f e
on_pushed (Err why) x a b e f = tt

pub on_both : {E A B G : Type 0} → (r : Result (Unit {0}) E) (x a b : List A) (y d e : List B) → x ≡ cond (is_ok r) a b → y ≡ cond (is_ok r) d e → (x ≡ a → y ≡ d → G) → OnOk r G
on_both (Ok u) x a b y d e on_x on_y f = f on_x on_y
on_both (Err why) x a b y d e on_x on_y f = tt
