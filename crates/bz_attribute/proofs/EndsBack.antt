-- Where the comments above an argument begin, and where the arguments of a rule end.
use Rattle.std.proofs.Common.{◌≡◌, ℕ, zero, suc, ◌+◌, ◌-◌, ◌<◌, ◌≤◌, List, [], ◌∷◌, ◌++◌, Bool, true, false, ◌&&◌, ◌||◌, if◌then◌else◌, Option, Some, None, map, length, get_or, drop, refl, ap, sym, ◌∙◌, subst, arith, append_assoc, append-nil, length-append}
use Rattle.std.specs.List.{list_all, list_any}
use Rattle.std.proofs.Math.Seq.{drop-append_seam}
use Rattle.bz_tree.specs.declared.row.Part.{Part}
use Rattle.bz_tree.specs.declared.tree.GroupKind.TheVariants.{RuleCall}
use Rattle.bz_tree.specs.Tree.{Items, no_items, item, leaf, group, Segment, Statement, items_of, segs_of}
use Rattle.bz_tree.specs.Rows.{RowPart, part_view, opening, closing, segment_end, above, beside, beside_part, items_parts, segs_parts}
use Rattle.bz_attribute.specs.Rules.{Rule}
use Rattle.bz_attribute.specs.private.Parts.{arguments_end, besides, end_len, is_above, is_stop, parts_len, plain_len, segment_len}
use Rattle.bz_attribute.proofs.Lengths.{nodes_ended}
use Rattle.bz_attribute.specs.RowPlaces.{before_args}
use Rattle.bz_attribute.proofs.RuleParts.{after_args}

-- comments at the end
all_above : (texts : List (List ℕ)) → list_all is_above (map above texts) ≡ true
all_above [] = refl
all_above (text ∷ texts) = all_above texts

plain_texts : (texts : List (List ℕ)) → plain_len (map above texts) ≡ 0
plain_texts [] = refl
plain_texts (text ∷ texts) = rw (all_above texts) refl

not_all : (p : RowPart → Bool) (xs ys : List RowPart) (x : RowPart) → p x ≡ false → list_all p (xs ++ x ∷ ys) ≡ false
not_all p [] ys x h = rw h refl
not_all p (y ∷ xs) ys x h = elim (p y) as (λ b. b && list_all p (xs ++ x ∷ ys) ≡ false) [ true ↦ not_all p xs ys x h | false ↦ refl ]

plain_at : (xs : List RowPart) (p : RowPart) (texts : List (List ℕ)) → is_above p ≡ false → plain_len (xs ++ p ∷ map above texts) ≡ length xs + 1
plain_at [] p texts h = rw h (omega (arith, plain_texts texts))
plain_at (x ∷ xs) p texts h = rw (not_all is_above (x ∷ xs) (map above texts) p h) (omega (arith, plain_at xs p texts h))

-- the last argument, and the end of what stands before an argument
pub record EndsAt (ps : List RowPart) : Type 0 where
  pub pre : List RowPart
  pub suffix : Option (List ℕ)
  pub are : ps ≡ pre ++ (segment_end ∷ beside_part suffix)

last_argument : (a : Segment) (args : List Segment) → EndsAt (segs_parts (segs_of (a ∷ args)))
last_argument a [] =
    let nodes = items_parts (items_of a.nodes) in
    let joined : map above a.before ++ (nodes ++ (segment_end ∷ beside_part a.suffix)) ≡ (map above a.before ++ nodes) ++ (segment_end ∷ beside_part a.suffix) = simp append_assoc in
    record {
      pre = map above a.before ++ nodes;
      suffix = a.suffix;
      are = ap (λ (ps : List RowPart). map above a.before ++ (nodes ++ (segment_end ∷ ps))) (append-nil (beside_part a.suffix)) ∙ joined;
    }
last_argument a (b ∷ args) =
    let nodes = items_parts (items_of a.nodes) in
    let last = last_argument b args in
    let end = segment_end ∷ beside_part last.suffix in
    let joined : map above a.before ++ (nodes ++ (segment_end ∷ (beside_part a.suffix ++ (last.pre ++ end)))) ≡ (map above a.before ++ (nodes ++ (segment_end ∷ (beside_part a.suffix ++ last.pre)))) ++ end = simp append_assoc in
    record {
      pre = map above a.before ++ (nodes ++ (segment_end ∷ (beside_part a.suffix ++ last.pre)));
      suffix = last.suffix;
      are = ap (λ (ps : List RowPart). map above a.before ++ (nodes ++ (segment_end ∷ (beside_part a.suffix ++ ps)))) last.are ∙ joined;
    }

plain_after : (xs : List RowPart) (suffix : Option (List ℕ)) (texts : List (List ℕ)) → plain_len ((xs ++ (segment_end ∷ beside_part suffix)) ++ map above texts) ≡ length (xs ++ (segment_end ∷ beside_part suffix))
plain_after xs None texts =
    let moved : (xs ++ segment_end ∷ []) ++ map above texts ≡ xs ++ segment_end ∷ map above texts = simp append_assoc in
    ap plain_len moved ∙ plain_at xs segment_end texts refl ∙ sym (length-append xs (segment_end ∷ []))
plain_after xs (Some text) texts =
    let moved : (xs ++ (segment_end ∷ beside text ∷ [])) ++ map above texts ≡ (xs ++ segment_end ∷ []) ++ beside text ∷ map above texts = simp append_assoc in
    ap plain_len moved ∙ plain_at (xs ++ segment_end ∷ []) (beside text) texts refl ∙ omega (arith, length-append xs (segment_end ∷ []), length-append xs (segment_end ∷ beside text ∷ []))

-- the comments at the end of a list are of no element
pub plain_elements : (ss : List Segment) (texts : List (List ℕ)) → plain_len (segs_parts (segs_of ss) ++ map above texts) ≡ length (segs_parts (segs_of ss))
plain_elements [] texts = plain_texts texts
plain_elements (a ∷ ss) texts =
    let last = last_argument a ss in
    ap (λ (ps : List RowPart). plain_len (ps ++ map above texts)) last.are ∙ plain_after last.pre last.suffix texts ∙ sym (ap length last.are)

-- what stands before an argument ends with no comment of it
pub comments_at : (s : Statement) (r : Rule) (front : List Segment) (texts : List (List ℕ)) → plain_len ((before_args s r ++ segs_parts (segs_of front)) ++ map above texts) ≡ length (before_args s r ++ segs_parts (segs_of front))
comments_at s r [] texts =
    let kind : List RowPart = map above s.before ++ items_parts (items_of r.kind) in
    let moved : (before_args s r ++ []) ++ map above texts ≡ kind ++ opening RuleCall ∷ map above texts = simp append_assoc in
    let same : before_args s r ++ [] ≡ kind ++ opening RuleCall ∷ [] = simp append_assoc in
    ap plain_len moved ∙ plain_at kind (opening RuleCall) texts refl ∙ sym (ap length same ∙ length-append kind (opening RuleCall ∷ []))
comments_at s r (a ∷ front) texts =
    let last = last_argument a front in
    let joined : before_args s r ++ (last.pre ++ (segment_end ∷ beside_part last.suffix)) ≡ (before_args s r ++ last.pre) ++ (segment_end ∷ beside_part last.suffix) = sym (append_assoc (before_args s r) last.pre (segment_end ∷ beside_part last.suffix)) in
    let same : before_args s r ++ segs_parts (segs_of (a ∷ front)) ≡ (before_args s r ++ last.pre) ++ (segment_end ∷ beside_part last.suffix) = ap (λ (ps : List RowPart). before_args s r ++ ps) last.are ∙ joined in
    ap (λ (ps : List RowPart). plain_len (ps ++ map above texts)) same ∙ plain_after (before_args s r ++ last.pre) last.suffix texts ∙ sym (ap length same)

-- the end of an argument
no_beside : (back : List RowPart) (suffix : Option (List ℕ)) → end_len (segment_end ∷ back) ≡ 1 → end_len (segment_end ∷ (beside_part suffix ++ back)) ≡ 1 + length (beside_part suffix)
no_beside back None h = h ∙ omega arith
no_beside back (Some text) h = omega arith

pub segment_long : (a : Segment) (back : List RowPart) → end_len (segment_end ∷ back) ≡ 1
    → segment_len (items_parts (items_of a.nodes) ++ segment_end ∷ (beside_part a.suffix ++ back)) ≡ length (items_parts (items_of a.nodes)) + (1 + length (beside_part a.suffix))
segment_long a back h =
    let nodes : List RowPart = items_parts (items_of a.nodes) in
    let after : List RowPart = segment_end ∷ (beside_part a.suffix ++ back) in
    let len : parts_len true 0 (nodes ++ after) ≡ length nodes = nodes_ended (items_of a.nodes) (beside_part a.suffix ++ back) in
    (λ i. len i + end_len (drop (len i) (nodes ++ after)))
    ∙ ap (λ (ps : List RowPart). length nodes + end_len ps) (drop-append_seam nodes after)
    ∙ ap (λ (k : ℕ). length nodes + k) (no_beside back a.suffix h)

pub argument_long : (a : Segment) → length (segs_parts (segs_of (a ∷ []))) ≡ length (map above a.before) + (length (items_parts (items_of a.nodes)) + (1 + length (beside_part a.suffix)))
argument_long a =
    let rest : List RowPart = segment_end ∷ (beside_part a.suffix ++ []) in
    omega (arith, length-append (map above a.before) (items_parts (items_of a.nodes) ++ rest), length-append (items_parts (items_of a.nodes)) rest, length-append (beside_part a.suffix) [])

no_beside_node : (xs : Items) (rest : List RowPart) → end_len (segment_end ∷ (items_parts xs ++ segment_end ∷ rest)) ≡ 1
no_beside_node no_items rest = refl
no_beside_node (item (leaf kind text) xs) rest = refl
no_beside_node (item (group kind segs one_comma end) xs) rest = refl

pub no_beside_argument : (before : List (List ℕ)) (xs : Items) (rest : List RowPart) → end_len (segment_end ∷ (map above before ++ (items_parts xs ++ segment_end ∷ rest))) ≡ 1
no_beside_argument [] xs rest = no_beside_node xs rest
no_beside_argument (text ∷ texts) xs rest = refl

pub no_beside_end : (texts : List (List ℕ)) (one_comma : Bool) (rest : List RowPart) → end_len (segment_end ∷ ((map above texts ++ closing one_comma ∷ []) ++ rest)) ≡ 1
no_beside_end [] one_comma rest = refl
no_beside_end (text ∷ texts) one_comma rest = refl

-- no comment is beside an argument but its own
pub end_alone : (s : Statement) (r : Rule) (back : List Segment) → end_len (segment_end ∷ (segs_parts (segs_of back) ++ after_args s r)) ≡ 1
end_alone s r [] = no_beside_end r.end r.one_comma (beside_part s.suffix)
end_alone s r (b ∷ back) =
    let nodes : List RowPart = items_parts (items_of b.nodes) in
    let rest : List RowPart = beside_part b.suffix ++ (segs_parts (segs_of back) ++ after_args s r) in
    let moved : segs_parts (segs_of (b ∷ back)) ++ after_args s r ≡ map above b.before ++ (nodes ++ segment_end ∷ rest) = simp append_assoc in
    ap (λ (ps : List RowPart). end_len (segment_end ∷ ps)) moved ∙ no_beside_argument b.before (items_of b.nodes) rest

-- where the arguments end
has_stop : (pre post : List RowPart) (p : RowPart) → is_stop p ≡ true → list_any is_stop (pre ++ p ∷ post) ≡ true
has_stop [] post p h = rw h refl
has_stop (q ∷ pre) post p h = elim (is_stop q) as (λ b. b || list_any is_stop (pre ++ p ∷ post) ≡ true) [ true ↦ refl | false ↦ has_stop pre post p h ]

end_at : (pre post : List RowPart) (p : RowPart) → is_stop p ≡ true → list_any is_stop post ≡ false → arguments_end (pre ++ p ∷ post) ≡ length pre + (1 + besides post)
end_at [] post p is h = rw (h, is) (omega arith)
end_at (q ∷ pre) post p is h = rw (has_stop pre post p is) (omega (arith, end_at pre post p is h))

no_stop_after : (texts : List (List ℕ)) (one_comma : Bool) (suffix : Option (List ℕ)) → list_any is_stop ((map above texts ++ closing one_comma ∷ []) ++ beside_part suffix) ≡ false
no_stop_after [] one_comma None = refl
no_stop_after [] one_comma (Some text) = refl
no_stop_after (text ∷ texts) one_comma suffix = no_stop_after texts one_comma suffix

no_stop_beside : (suffix : Option (List ℕ)) (ps : List RowPart) → list_any is_stop ps ≡ false → list_any is_stop (beside_part suffix ++ ps) ≡ false
no_stop_beside None ps h = h
no_stop_beside (Some text) ps h = h

one_beside : (suffix : Option (List ℕ)) (texts : List (List ℕ)) (one_comma : Bool) (after : List RowPart)
    → besides (beside_part suffix ++ ((map above texts ++ closing one_comma ∷ []) ++ after)) ≡ length (beside_part suffix)
one_beside None [] one_comma after = refl
one_beside None (text ∷ texts) one_comma after = refl
one_beside (Some shown) texts one_comma after = refl

pub args_end : (s : Statement) (r : Rule) (args : List Segment) → arguments_end (before_args s r ++ (segs_parts (segs_of args) ++ after_args s r)) ≡ length (before_args s r ++ segs_parts (segs_of args))
args_end s r [] =
    let kind : List RowPart = map above s.before ++ items_parts (items_of r.kind) in
    let back : List RowPart = after_args s r in
    let moved : before_args s r ++ back ≡ kind ++ opening RuleCall ∷ back = simp append_assoc in
    let same : before_args s r ++ [] ≡ kind ++ opening RuleCall ∷ [] = simp append_assoc in
    ap arguments_end moved
    ∙ end_at kind back (opening RuleCall) refl (no_stop_after r.end r.one_comma s.suffix)
    ∙ ap (λ (n : ℕ). length kind + (1 + n)) (one_beside None r.end r.one_comma (beside_part s.suffix))
    ∙ omega arith ∙ sym (ap length same ∙ length-append kind (opening RuleCall ∷ []))
args_end s r (a ∷ args) =
    let last = last_argument a args in
    let front = before_args s r in
    let back = after_args s r in
    let post = beside_part last.suffix ++ back in
    let moved : front ++ ((last.pre ++ (segment_end ∷ beside_part last.suffix)) ++ back) ≡ (front ++ last.pre) ++ (segment_end ∷ post) = simp append_assoc in
    let end = segment_end ∷ beside_part last.suffix in
    let joined : (front ++ last.pre) ++ end ≡ front ++ (last.pre ++ end) = append_assoc front last.pre end in
    let sizes : length (front ++ last.pre) + (1 + length (beside_part last.suffix)) ≡ length ((front ++ last.pre) ++ end) = omega (arith, length-append (front ++ last.pre) end) in
    ap (λ (ps : List RowPart). arguments_end (front ++ (ps ++ back))) last.are
    ∙ ap arguments_end moved
    ∙ end_at (front ++ last.pre) post segment_end refl (no_stop_beside last.suffix back (no_stop_after r.end r.one_comma s.suffix))
    ∙ ap (λ (n : ℕ). length (front ++ last.pre) + (1 + n)) (one_beside last.suffix r.end r.one_comma (beside_part s.suffix))
    ∙ sizes
    ∙ ap length joined
    ∙ ap (λ (ps : List RowPart). length (front ++ ps)) (sym last.are)

-- the walks of the code, from the last part on
stop_among : (ps : List Part) (n : ℕ) (d : Part) → n < length ps → is_stop (part_view (get_or ps n d)) ≡ true → list_any is_stop (map part_view ps) ≡ true
stop_among [] n d within is = absurd (omega (arith, within))
stop_among (p ∷ ps) zero d within is = rw is refl
stop_among (p ∷ ps) (suc n) d within is =
    elim (is_stop (part_view p)) as (λ b. b || list_any is_stop (map part_view ps) ≡ true) [ true ↦ refl | false ↦ stop_among ps n d (omega (arith, within)) is ]

last_stop : (ps : List Part) (n : ℕ) (d : Part) → n < length ps → is_stop (part_view (get_or ps n d)) ≡ true → list_any is_stop (map part_view (drop (suc n) ps)) ≡ false
    → suc n + besides (map part_view (drop (suc n) ps)) ≡ arguments_end (map part_view ps)
last_stop [] n d within is none = absurd (omega (arith, within))
last_stop (p ∷ ps) zero d within is none = rw (none, is) refl
last_stop (p ∷ ps) (suc n) d within is none =
    let inner : n < length ps = omega (arith, within) in
    rw (stop_among ps n d inner is) (omega (arith, last_stop ps n d inner is none))

pub last_stop_at : (ps : List Part) (at : ℕ) (d : Part) → 0 < at → at ≤ length ps → is_stop (part_view (get_or ps (at - 1) d)) ≡ true
    → list_any is_stop (map part_view (drop at ps)) ≡ false → at + besides (map part_view (drop at ps)) ≡ arguments_end (map part_view ps)
last_stop_at ps zero d some within is none = absurd (omega (arith, some))
last_stop_at ps (suc n) d some within is none =
    let same : suc n - 1 ≡ n = omega arith in
    last_stop ps n d (omega (arith, within)) (subst (λ (k : ℕ). is_stop (part_view (get_or ps k d)) ≡ true) same is) none

pub no_stop : (ps : List RowPart) → list_any is_stop ps ≡ false → arguments_end ps ≡ 0
no_stop [] h = refl
no_stop (p ∷ ps) h =
    elim (is_stop p) as (λ b. b || list_any is_stop ps ≡ false → (if list_any is_stop ps then 1 + arguments_end ps else (if b then 1 + besides ps else 0)) ≡ 0)
    [ true ↦ λ e. absurd cc | false ↦ λ e. rw e refl ] h

plain_among : (ps : List Part) (n : ℕ) (d : Part) → n < length ps → is_above (part_view (get_or ps n d)) ≡ false → list_all is_above (map part_view ps) ≡ false
plain_among [] n d within is = absurd (omega (arith, within))
plain_among (p ∷ ps) zero d within is = rw is refl
plain_among (p ∷ ps) (suc n) d within is =
    elim (is_above (part_view p)) as (λ b. b && list_all is_above (map part_view ps) ≡ false) [ true ↦ plain_among ps n d (omega (arith, within)) is | false ↦ refl ]

plain_all : (ps : List RowPart) → list_all is_above ps ≡ true → plain_len ps ≡ 0
plain_all [] h = refl
plain_all (p ∷ ps) h = rw h refl

last_plain : (ps : List Part) (n : ℕ) (d : Part) → n < length ps → is_above (part_view (get_or ps n d)) ≡ false → list_all is_above (map part_view (drop (suc n) ps)) ≡ true
    → suc n ≡ plain_len (map part_view ps)
last_plain [] n d within is all = absurd (omega (arith, within))
last_plain (p ∷ ps) zero d within is all = rw is (omega (arith, plain_all (map part_view ps) all))
last_plain (p ∷ ps) (suc n) d within is all =
    let inner : n < length ps = omega (arith, within) in
    rw (plain_among (p ∷ ps) (suc n) d within is) (omega (arith, last_plain ps n d inner is all))

pub last_plain_at : (ps : List Part) (at : ℕ) (d : Part) → 0 < at → at ≤ length ps → is_above (part_view (get_or ps (at - 1) d)) ≡ false
    → list_all is_above (map part_view (drop at ps)) ≡ true → at ≡ plain_len (map part_view ps)
last_plain_at ps zero d some within is all = absurd (omega (arith, some))
last_plain_at ps (suc n) d some within is all =
    let same : suc n - 1 ≡ n = omega arith in
    last_plain ps n d (omega (arith, within)) (subst (λ (k : ℕ). is_above (part_view (get_or ps k d)) ≡ false) same is) all

pub all_comments : (ps : List RowPart) → list_all is_above ps ≡ true → 0 ≡ plain_len ps
all_comments ps h = sym (plain_all ps h)
