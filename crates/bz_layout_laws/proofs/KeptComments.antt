-- No comment is lost, none is there twice, and each owner has its comments in their order.
use Rattle.std.proofs.Common.{◌≡◌, ℕ, List, [], ◌∷◌, ◌++◌, Bool, true, false, cond, Option, Some, None, refl, sym, ap, subst, ◌∙◌, append_assoc, append-nil}
use Rattle.std.proofs.lemmas.Bool.{false≢true}
use Rattle.bz_token.specs.Places.{Placed}
use Rattle.bz_tree.specs.declared.tree.GroupKind.{GroupKind}
use Rattle.bz_tree.specs.declared.tree.kinds.Shape.{Shape}
use Rattle.bz_tree.specs.declared.tree.kinds.Mark.{Mark}
use Rattle.bz_tree.specs.declared.tree.kinds.Mark.TheVariants.{Open, Close, Comma, Comment as Remark, Newline, Plain}
use Rattle.bz_tree.specs.declared.tree.kinds.Preceding.{Preceding}
use Rattle.bz_tree.specs.declared.tree.kinds.Preceding.TheVariants.{Other}
use Rattle.bz_tree.specs.Tree.{Item, leaf, group, Segment, Statement, items_of, segs_of, is_rule}
use Rattle.bz_tree.specs.Kinds.{mark_of, group_kind, is_one}
use Rattle.bz_tree.specs.Owners.{Inner, node, comma, comment, Inside}
use Rattle.bz_tree.specs.Cells.{Last, no_token, end_of_node, end_of_comma, is_on, inside, no_empty_cell}
use Rattle.bz_tree.specs.private.KindSteps.{own_item}
use Rattle.bz_tree.specs.Brackets.{with_comma_nodes, preceding, is_line, without_lines}
use Rattle.bz_tree.specs.Elements.{has_for}
use Rattle.bz_tree.specs.Elements.{group_of}
use Rattle.bz_tree.specs.Elements.{Elem, single, bracket, Elems, no_elems, elem, elem_tokens, elems_tokens, elem_own, elems_own, own_of, is_single, IsWell, AreWell}
use Rattle.bz_tree.specs.Statement.{as_rule_call, statement_with, IsStatementOf}
use Rattle.bz_tree.specs.Elements.{one_segment, rule_call}
use Rattle.bz_tree.specs.Elements.{segment_of}
use Rattle.bz_tree.specs.private.Steps.{Walked, at_start, after_node, add_beside, to_last, commented, after_comment, done}
use Rattle.bz_tree.proofs.Trees.ByOwns.{walk}
use Rattle.bz_tree.specs.Comments.{Lists, beside, item_owners, items_owners, segs_owners, owners_of, comments_of, comment_of, comments_among, AreDealt, times}
use Rattle.bz_layout_laws.proofs.Dealt.{Mixed, mixed_swap, mixed_left, mixed_right, mixed_after, mixed_more, left_more, right_more, AreMixed, one_mixed, one_alone, both_mixed, mixed_following, to_end, list_more, lists_more, dealt_of, times_all}
use Rattle.bz_tree.proofs.Trees.OneBracket.{inside_found, nodes_alone}
use Rattle.bz_tree.proofs.Trees.Nested.{tree_of}

-- the owners in a list of nodes, and in segments
abbrev nodes_owners : List Item → Lists
nodes_owners xs = items_owners (items_of xs)

abbrev segment_owners : Segment → Lists
segment_owners s = s.before ∷ beside s.suffix ∷ nodes_owners s.nodes

abbrev segments_owners : List Segment → Lists
segments_owners ss = segs_owners (segs_of ss)

abbrev own_owners : Inner → Lists
own_owners (node line x) = item_owners x
own_owners (comma t) = []
own_owners (comment line text) = (text ∷ []) ∷ []

abbrev inside_owners : Inside → Lists
inside_owners i = segments_owners i.segs ++ i.end ∷ []

nodes_append : (xs ys : List Item) → nodes_owners (xs ++ ys) ≡ nodes_owners xs ++ nodes_owners ys
nodes_append [] ys = refl
nodes_append (x ∷ xs) ys = ap (λ l. item_owners x ++ l) (nodes_append xs ys) ∙ sym (append_assoc (item_owners x) (nodes_owners xs) (nodes_owners ys))

segments_append : (ss rs : List Segment) → segments_owners (ss ++ rs) ≡ segments_owners ss ++ segments_owners rs
segments_append [] rs = refl
segments_append (s ∷ ss) rs = ap (λ l. segment_owners s ++ l) (segments_append ss rs) ∙ sym (append_assoc (segment_owners s) (segments_owners ss) (segments_owners rs))

-- The comments of what stands in a bracket, one thing after another.
abbrev AreSpelled : List Inner → List (List ℕ) → Type 0
AreSpelled [] texts = texts ≡ []
AreSpelled (o ∷ os) texts = (here : List (List ℕ)) × (more : List (List ℕ)) × (texts ≡ here ++ more) × AreMixed here (own_owners o) × AreSpelled os more

-- what the walk holds of the segment here, its nodes aside
abbrev here : Walked → List (List ℕ)
here w = w.before ++ (beside w.suffix ++ w.after)

-- What the walk holds: the comments of the finished segments, those of the segment here, and those in its nodes.
record Holds (w : Walked) (texts : List (List ℕ)) : Type 0 where
  finished : List (List ℕ)
  rest : List (List ℕ)
  inner : List (List ℕ)
  all : Mixed finished rest texts
  those : Mixed (here w) inner rest
  segs : AreMixed finished (segments_owners w.segs)
  nodes : AreMixed inner (nodes_owners w.nodes)

abbrev NoNodes : List Item → List (List ℕ) → Option (List ℕ) → Type 0
NoNodes [] before suffix = (before ≡ []) × (suffix ≡ None)
NoNodes (x ∷ xs) before suffix = Unit {0}

abbrev HasNode : List Item → Type 0
HasNode [] = ⊥
HasNode (x ∷ xs) = Unit {0}

abbrev HasSegment : List Segment → Type 0
HasSegment [] = ⊥
HasSegment (s ∷ ss) = Unit {0}

abbrev AfterLast : Last → List Segment → List Item → Option (List ℕ) → List (List ℕ) → Type 0
AfterLast no_token segs nodes suffix after = Unit {0}
AfterLast (end_of_node line) segs nodes suffix after = (suffix ≡ None) × (after ≡ []) × HasNode nodes
AfterLast (end_of_comma line) segs nodes suffix after = HasSegment segs

record Fits (w : Walked) : Type 0 where
  nodes : NoNodes w.nodes w.before w.suffix
  last : AfterLast w.last w.segs w.nodes w.suffix w.after

abbrev walked_of : List Segment → List (List ℕ) → List Item → Option (List ℕ) → List (List ℕ) → Last → Bool → Walked
walked_of segs before nodes suffix after last trailing = record { segs = segs; before = before; nodes = nodes; suffix = suffix; after = after; last = last; trailing = trailing }

nodes_push : (xs : List Item) (x : Item) (before : List (List ℕ)) (suffix : Option (List ℕ)) → NoNodes (xs ++ x ∷ []) before suffix
nodes_push [] x before suffix = tt
nodes_push (y ∷ xs) x before suffix = tt

node_push : (xs : List Item) (x : Item) → HasNode (xs ++ x ∷ [])
node_push [] x = tt
node_push (y ∷ xs) x = tt

segment_push : (segs : List Segment) (s : Segment) → HasSegment (segs ++ s ∷ [])
segment_push [] s = tt
segment_push (r ∷ segs) s = tt

with_suffix : (nodes : List Item) (before : List (List ℕ)) (suffix : Option (List ℕ)) → HasNode nodes → NoNodes nodes before suffix
with_suffix [] before suffix has = absurd has
with_suffix (x ∷ xs) before suffix has = tt

-- a node
node_holds : (line : ℕ) (x : Item) (w : Walked) (texts more : List (List ℕ)) → Holds w texts → AreMixed more (item_owners x) → Holds (after_node line x w) (texts ++ more)
node_holds line x w texts more h mixed =
    let same : here w ++ [] ≡ here w = append-nil (here w) in
    let nodes : AreMixed (h.inner ++ more) (nodes_owners w.nodes ++ (item_owners x ++ [])) =
    mixed_following (nodes_owners w.nodes) (item_owners x ++ []) h.inner more h.nodes (subst (AreMixed more) (sym (append-nil (item_owners x))) mixed) in
    record {
      finished = h.finished;
      rest = h.rest ++ more;
      inner = h.inner ++ more;
      all = right_more texts h.finished h.rest more h.all;
      those = subst (λ l. Mixed l (h.inner ++ more) (h.rest ++ more)) (sym same) (right_more h.rest (here w) h.inner more h.those);
      segs = h.segs;
      nodes = subst (AreMixed (h.inner ++ more)) (sym (nodes_append w.nodes (x ∷ []))) nodes;
    }

-- the comments of a segment are those before it and its suffix
segment_split : (before : List (List ℕ)) (suffix : Option (List ℕ)) (after : List (List ℕ)) → Mixed (before ++ after) (beside suffix) (before ++ (beside suffix ++ after))
segment_split before None after = mixed_left (before ++ after)
segment_split before (Some text) after = mixed_more before before [] after (text ∷ []) (text ∷ after) (mixed_left before) (mixed_swap (text ∷ after) (text ∷ []) after (mixed_after (text ∷ []) after))

closed_mixed : (segs : List Segment) (before : List (List ℕ)) (nodes : List Item) (suffix : Option (List ℕ)) (after : List (List ℕ)) (last : Last) (trailing : Bool) (texts : List (List ℕ))
    → Holds (walked_of segs before nodes suffix after last trailing) texts → AreMixed texts (segments_owners segs ++ ((before ++ after) ∷ beside suffix ∷ nodes_owners nodes))
closed_mixed segs before nodes suffix after last trailing texts h =
    let own : AreMixed (before ++ (beside suffix ++ after)) ((before ++ after) ∷ beside suffix ∷ []) = (beside suffix, segment_split before suffix after, one_mixed (beside suffix)) in
    let rest = both_mixed ((before ++ after) ∷ beside suffix ∷ []) (nodes_owners nodes) (before ++ (beside suffix ++ after)) h.inner h.rest h.those own h.nodes in
    both_mixed (segments_owners segs) ((before ++ after) ∷ beside suffix ∷ nodes_owners nodes) h.finished h.rest texts h.all h.segs rest

-- a comma
comma_holds : (line : ℕ) (segs : List Segment) (before : List (List ℕ)) (nodes : List Item) (suffix : Option (List ℕ)) (after : List (List ℕ)) (last : Last) (trailing : Bool) (texts : List (List ℕ))
    → Holds (walked_of segs before nodes suffix after last trailing) texts
    → Holds (walked_of (segs ++ record { before = before ++ after; nodes = nodes; suffix = suffix } ∷ []) [] [] None [] (end_of_comma line) true) texts
comma_holds line segs before nodes suffix after last trailing texts h =
    let s : Segment = record { before = before ++ after; nodes = nodes; suffix = suffix } in
    let closed : AreMixed texts (segments_owners segs ++ segment_owners s) = closed_mixed segs before nodes suffix after last trailing texts h in
    let owners : segments_owners (segs ++ s ∷ []) ≡ segments_owners segs ++ segment_owners s = segments_append segs (s ∷ []) ∙ ap (λ l. segments_owners segs ++ l) (append-nil (segment_owners s)) in
    record {
      finished = texts;
      rest = [];
      inner = [];
      all = mixed_left texts;
      those = (refl, refl);
      segs = subst (AreMixed texts) (sym owners) closed;
      nodes = refl;
    }

-- one more comment after a segment's comma
beside_more : (text : List ℕ) (before : List (List ℕ)) (nodes : List Item) (suffix : Option (List ℕ)) (back : Lists) (texts : List (List ℕ))
    → AreMixed texts (segment_owners (record { before = before; nodes = nodes; suffix = suffix }) ++ back)
    → AreMixed (texts ++ text ∷ []) (segment_owners (add_beside text (record { before = before; nodes = nodes; suffix = suffix })) ++ back)
beside_more text before nodes None back texts m = list_more (before ∷ []) [] (nodes_owners nodes ++ back) texts (text ∷ []) m
beside_more text before nodes (Some other) back texts m = list_more [] before ((other ∷ []) ∷ (nodes_owners nodes ++ back)) texts (text ∷ []) m

last_more : (text : List ℕ) (s : Segment) (ss : List Segment) (texts : List (List ℕ)) → AreMixed texts (segments_owners (s ∷ ss)) → AreMixed (texts ++ text ∷ []) (segments_owners (to_last text (s ∷ ss)))
last_more text s [] texts m = beside_more text s.before s.nodes s.suffix [] texts m
last_more text s (r ∷ ss) texts m = lists_more (segment_owners s) (segments_owners (r ∷ ss)) (segments_owners (to_last text (r ∷ ss))) (text ∷ []) (λ ts k. last_more text r ss ts k) texts m

comma_comment_holds : (text : List ℕ) (s : Segment) (ss : List Segment) (before : List (List ℕ)) (nodes : List Item) (suffix : Option (List ℕ)) (after : List (List ℕ)) (last : Last) (trailing : Bool) (texts : List (List ℕ))
    → Holds (walked_of (s ∷ ss) before nodes suffix after last trailing) texts → Holds (walked_of (to_last text (s ∷ ss)) before nodes suffix after no_token trailing) (texts ++ text ∷ [])
comma_comment_holds text s ss before nodes suffix after last trailing texts h = record {
  finished = h.finished ++ text ∷ [];
  rest = h.rest;
  inner = h.inner;
  all = left_more texts h.finished h.rest (text ∷ []) h.all;
  those = h.those;
  segs = last_more text s ss h.finished h.segs;
  nodes = h.nodes;
}

-- one more comment of the segment here
here_more : (w v : Walked) (text : List ℕ) (texts : List (List ℕ)) → v.segs ≡ w.segs → v.nodes ≡ w.nodes → here v ≡ here w ++ text ∷ [] → Holds w texts → Holds v (texts ++ text ∷ [])
here_more w v text texts segs nodes grown h = record {
  finished = h.finished;
  rest = h.rest ++ text ∷ [];
  inner = h.inner;
  all = right_more texts h.finished h.rest (text ∷ []) h.all;
  those = subst (λ l. Mixed l h.inner (h.rest ++ text ∷ [])) (sym grown) (left_more h.rest (here w) h.inner (text ∷ []) h.those);
  segs = subst (λ ss. AreMixed h.finished (segments_owners ss)) (sym segs) h.segs;
  nodes = subst (λ xs. AreMixed h.inner (nodes_owners xs)) (sym nodes) h.nodes;
}

alone_grown : (text : List ℕ) (before : List (List ℕ)) (suffix : Option (List ℕ)) (after : List (List ℕ)) → before ++ (beside suffix ++ (after ++ text ∷ [])) ≡ (before ++ (beside suffix ++ after)) ++ text ∷ []
alone_grown text before suffix after = simp append_assoc

suffix_grown : (text : List ℕ) (before : List (List ℕ)) (suffix : Option (List ℕ)) (after : List (List ℕ)) → suffix ≡ None → after ≡ [] → before ++ (text ∷ after) ≡ (before ++ (beside suffix ++ after)) ++ text ∷ []
suffix_grown text before suffix after none empty = rw (none, empty) (sym (append_assoc before [] (text ∷ [])))

commented_holds : (last : Last) (on : Bool) (text : List ℕ) (segs : List Segment) (before : List (List ℕ)) (nodes : List Item) (suffix : Option (List ℕ)) (after : List (List ℕ)) (trailing : Bool) (texts : List (List ℕ))
    → AfterLast last segs nodes suffix after → Holds (walked_of segs before nodes suffix after last trailing) texts
    → Holds (commented last on text (walked_of segs before nodes suffix after last trailing)) (texts ++ text ∷ [])
commented_holds no_token true text segs before nodes suffix after trailing texts fits h = here_more _ _ text texts refl refl (alone_grown text before suffix after) h
commented_holds no_token false text segs before nodes suffix after trailing texts fits h = here_more _ _ text texts refl refl (alone_grown text before suffix after) h
commented_holds (end_of_node line) true text segs before nodes suffix after trailing texts fits h = here_more _ _ text texts refl refl (suffix_grown text before suffix after fits.0 fits.1) h
commented_holds (end_of_node line) false text segs before nodes suffix after trailing texts fits h = here_more _ _ text texts refl refl (alone_grown text before suffix after) h
commented_holds (end_of_comma line) true text [] before nodes suffix after trailing texts fits h = absurd fits
commented_holds (end_of_comma line) true text (s ∷ ss) before nodes suffix after trailing texts fits h = comma_comment_holds text s ss before nodes suffix after (end_of_comma line) trailing texts h
commented_holds (end_of_comma line) false text segs before nodes suffix after trailing texts fits h = here_more _ _ text texts refl refl (alone_grown text before suffix after) h

commented_fits : (last : Last) (on : Bool) (text : List ℕ) (segs : List Segment) (before : List (List ℕ)) (nodes : List Item) (suffix : Option (List ℕ)) (after : List (List ℕ)) (trailing : Bool)
    → NoNodes nodes before suffix → AfterLast last segs nodes suffix after → Fits (commented last on text (walked_of segs before nodes suffix after last trailing))
commented_fits no_token true text segs before nodes suffix after trailing none fits = record { nodes = none; last = tt }
commented_fits no_token false text segs before nodes suffix after trailing none fits = record { nodes = none; last = tt }
commented_fits (end_of_node line) true text segs before nodes suffix after trailing none fits = record { nodes = with_suffix nodes before (Some text) fits.2; last = tt }
commented_fits (end_of_node line) false text segs before nodes suffix after trailing none fits = record { nodes = none; last = tt }
commented_fits (end_of_comma line) true text segs before nodes suffix after trailing none fits = record { nodes = none; last = tt }
commented_fits (end_of_comma line) false text segs before nodes suffix after trailing none fits = record { nodes = none; last = tt }

-- without commas no segment is finished
abbrev has_comma : List Inner → Bool
has_comma [] = false
has_comma (comma t ∷ os) = true
has_comma (node line x ∷ os) = has_comma os
has_comma (comment line text ∷ os) = has_comma os

commented_alone : (last : Last) (on : Bool) (text : List ℕ) (w : Walked) → w.segs ≡ [] → (commented last on text w).segs ≡ []
commented_alone no_token true text w none = none
commented_alone no_token false text w none = none
commented_alone (end_of_node line) true text w none = none
commented_alone (end_of_node line) false text w none = none
commented_alone (end_of_comma line) true text w none = ap (to_last text) none
commented_alone (end_of_comma line) false text w none = none

-- the end of a walk
record Ended (w : Walked) (os : List Inner) (texts : List (List ℕ)) (i : Inside) : Type 0 where
  last : Walked
  holds : Holds last texts
  fits : Fits last
  is : done last ≡ i
  alone : has_comma os ≡ false → w.segs ≡ [] → last.segs ≡ []

some_same : (x y : Inside) → Some x ≡ Some y → x ≡ y
some_same x y e = cc

walk_ends : (os : List Inner) (w : Walked) (i : Inside) (texts more all : List (List ℕ)) → all ≡ texts ++ more → Fits w → Holds w texts → AreSpelled os more → walk w os ≡ Some i → Ended w os all i
walk_ends [] w i texts more all all_is fits h spelled is = record {
  last = w;
  holds = subst (Holds w) (sym (all_is ∙ ap (λ l. texts ++ l) spelled ∙ append-nil texts)) h;
  fits = fits;
  is = some_same (done w) i is;
  alone = λ one none. none;
}
walk_ends (node line x ∷ os) w i texts more all all_is fits h spelled is =
    let now : Fits (after_node line x w) = record { nodes = nodes_push w.nodes x (w.before ++ (beside w.suffix ++ w.after)) None; last = (refl, refl, node_push w.nodes x) } in
    let split : all ≡ (texts ++ spelled.0) ++ spelled.1 = all_is ∙ ap (λ l. texts ++ l) spelled.2 ∙ sym (append_assoc texts spelled.0 spelled.1) in
    let e = walk_ends os (after_node line x w) i (texts ++ spelled.0) spelled.1 all split now (node_holds line x w texts spelled.0 h spelled.3) spelled.4 is in
    record { last = e.last; holds = e.holds; fits = e.fits; is = e.is; alone = e.alone }
walk_ends (comma t ∷ os) w i texts more all all_is fits h spelled is =
    let split : all ≡ texts ++ spelled.1 = all_is ∙ ap (λ l. texts ++ l) spelled.2 ∙ ap (λ l. texts ++ (l ++ spelled.1)) spelled.3 in
    at_nodes w.nodes (λ v f k found. walk_ends os v i texts spelled.1 all split f k spelled.4 found) h is
  where
    none_some : (i : Inside) → None ≡ Some i → ⊥
    none_some i e = cc

    at_nodes : (nodes : List Item) → ((v : Walked) → Fits v → Holds v texts → walk v os ≡ Some i → Ended v os all i) → Holds (walked_of w.segs w.before nodes w.suffix w.after w.last w.trailing) texts → walk (walked_of w.segs w.before nodes w.suffix w.after w.last w.trailing) (comma t ∷ os) ≡ Some i → Ended w (comma t ∷ os) all i
    at_nodes [] ends h is = absurd (none_some i is)
    at_nodes (x ∷ xs) ends h is =
        let s : Segment = record { before = w.before ++ w.after; nodes = x ∷ xs; suffix = w.suffix } in
        let v : Walked = walked_of (w.segs ++ s ∷ []) [] [] None [] (end_of_comma t.line) true in
        let e = ends v (record { nodes = (refl, refl); last = segment_push w.segs s }) (comma_holds t.line w.segs w.before (x ∷ xs) w.suffix w.after w.last w.trailing texts h) is in
        record { last = e.last; holds = e.holds; fits = e.fits; is = e.is; alone = λ one none. absurd (false≢true (sym one)) }
walk_ends (comment line text ∷ os) w i texts more all all_is fits h spelled is =
    let now = commented_fits w.last (is_on w.last line) text w.segs w.before w.nodes w.suffix w.after w.trailing fits.nodes fits.last in
    let commented_now = commented_holds w.last (is_on w.last line) text w.segs w.before w.nodes w.suffix w.after w.trailing texts fits.last h in
    let one : spelled.0 ≡ text ∷ [] = one_alone (text ∷ []) spelled.0 spelled.3 in
    let split : all ≡ (texts ++ text ∷ []) ++ spelled.1 = all_is ∙ ap (λ l. texts ++ l) (spelled.2 ∙ ap (λ l. l ++ spelled.1) one) ∙ sym (append_assoc texts (text ∷ []) spelled.1) in
    let e = walk_ends os (after_comment line text w) i (texts ++ text ∷ []) spelled.1 all split now commented_now spelled.4 is in
    record { last = e.last; holds = e.holds; fits = e.fits; is = e.is; alone = λ one none. e.alone one (commented_alone w.last (is_on w.last line) text w none) }

-- the inside of a bracket
done_mixed : (segs : List Segment) (before : List (List ℕ)) (nodes : List Item) (suffix : Option (List ℕ)) (after : List (List ℕ)) (last : Last) (trailing : Bool) (texts : List (List ℕ))
    → NoNodes nodes before suffix → Holds (walked_of segs before nodes suffix after last trailing) texts
    → AreMixed texts (inside_owners (done (walked_of segs before nodes suffix after last trailing)))
done_mixed segs before [] suffix after last trailing texts none h =
    let own : before ++ (beside suffix ++ after) ≡ after = rw (none.0, none.1) refl in
    let those : Mixed after h.inner h.rest = subst (λ l. Mixed l h.inner h.rest) own h.those in
    let rest : AreMixed h.rest (after ∷ []) = both_mixed (after ∷ []) [] after h.inner h.rest those (one_mixed after) h.nodes in
    both_mixed (segments_owners segs) (after ∷ []) h.finished h.rest texts h.all h.segs rest
done_mixed segs before (x ∷ xs) suffix after last trailing texts none h =
    let nodes : List Item = x ∷ xs in
    let s : Segment = record { before = before; nodes = nodes; suffix = suffix } in
    let own : AreMixed (before ++ (beside suffix ++ after)) (before ∷ beside suffix ∷ after ∷ []) = (beside suffix ++ after, mixed_after before (beside suffix ++ after), (after, at_suffix suffix, one_mixed after)) in
    let rest = both_mixed (before ∷ beside suffix ∷ after ∷ []) (nodes_owners nodes) (before ++ (beside suffix ++ after)) h.inner h.rest h.those own h.nodes in
    let all = both_mixed (segments_owners segs) (before ∷ beside suffix ∷ after ∷ nodes_owners nodes) h.finished h.rest texts h.all h.segs rest in
    let front : Lists = segments_owners segs ++ (before ∷ beside suffix ∷ []) in
    let split : segments_owners segs ++ (before ∷ beside suffix ∷ after ∷ nodes_owners nodes) ≡ front ++ after ∷ nodes_owners nodes = sym (append_assoc (segments_owners segs) (before ∷ beside suffix ∷ []) (after ∷ nodes_owners nodes)) in
    let turned = to_end front after (nodes_owners nodes) texts (subst (AreMixed texts) split all) in
    let owners : front ++ (nodes_owners nodes ++ after ∷ []) ≡ segments_owners (segs ++ s ∷ []) ++ after ∷ [] = rw (segments_append segs (s ∷ [])) (simp append_assoc) in
    subst (AreMixed texts) owners turned
  where
    at_suffix : (o : Option (List ℕ)) → Mixed (beside o) after (beside o ++ after)
    at_suffix None = mixed_right after
    at_suffix (Some text) = mixed_after (text ∷ []) after

start_fits : Fits at_start
start_fits = record { nodes = (refl, refl); last = tt }

start_holds : Holds at_start []
start_holds = record { finished = []; rest = []; inner = []; all = (refl, refl); those = (refl, refl); segs = refl; nodes = refl }

inside_ends : (os : List Inner) (texts : List (List ℕ)) → no_empty_cell false os ≡ true → AreSpelled os texts → Ended at_start os texts (inside os)
inside_ends os texts full spelled =
    let found : walk at_start os ≡ Some (inside os) = inside_found os ∙ ap (λ b. cond b (Some (inside os)) None) full in
    walk_ends os at_start (inside os) [] texts texts refl start_fits start_holds spelled found

inside_mixed : (os : List Inner) (texts : List (List ℕ)) → no_empty_cell false os ≡ true → AreSpelled os texts → AreMixed texts (inside_owners (inside os))
inside_mixed os texts full spelled =
    let e = inside_ends os texts full spelled in
    let w = e.last in
    subst (λ i. AreMixed texts (inside_owners i)) e.is (done_mixed w.segs w.before w.nodes w.suffix w.after w.last w.trailing texts e.fits.nodes e.holds)

-- commas as nodes have no comments either
own_item_owners : (one : Bool) (o : Inner) → own_owners (own_item one o) ≡ own_owners o
own_item_owners true (node line x) = refl
own_item_owners true (comma t) = refl
own_item_owners true (comment line text) = refl
own_item_owners false o = refl

items_spelled : (one : Bool) (os : List Inner) (texts : List (List ℕ)) → AreSpelled os texts → AreSpelled (with_comma_nodes one os) texts
items_spelled one [] texts s = s
items_spelled one (o ∷ os) texts s = (s.0, s.1, s.2, subst (AreMixed s.0) (sym (own_item_owners one o)) s.3, items_spelled one os s.1 s.4)

comments_append : (xs ys : List Placed) → comments_among (xs ++ ys) ≡ comments_among xs ++ comments_among ys
comments_append [] ys = refl
comments_append (t ∷ xs) ys = ap (λ l. comment_of (mark_of t) t.text ++ l) (comments_append xs ys) ∙ sym (append_assoc (comment_of (mark_of t) t.text) (comments_among xs) (comments_among ys))

single_mixed : (m : Mark) (t : Placed) → is_single m ≡ true → AreMixed (comment_of m t.text) (own_owners (own_of m t))
single_mixed Comma t alone = refl
single_mixed Remark t alone = one_mixed (t.text ∷ [])
single_mixed Plain t alone = refl
single_mixed Newline t alone = absurd (false≢true alone)
single_mixed (Open s) t alone = absurd (false≢true alone)
single_mixed (Close s) t alone = absurd (false≢true alone)

group_mixed : (kind : GroupKind) (owns : List Inner) (texts : List (List ℕ)) → no_empty_cell false (with_comma_nodes (is_one kind) owns) ≡ true → AreSpelled owns texts → AreMixed texts (item_owners (group_of kind owns))
group_mixed kind owns texts full spelled = inside_mixed (with_comma_nodes (is_one kind) owns) texts full (items_spelled (is_one kind) owns texts spelled)

-- brackets are no comments
bracket_comments : (s : Shape) (opening : Placed) (inner : List Placed) (closing : Placed) → mark_of opening ≡ Open s → mark_of closing ≡ Close s → comments_among (opening ∷ inner ++ closing ∷ []) ≡ comments_among inner
bracket_comments s opening inner closing opens closes =
    let front : comment_of (mark_of opening) opening.text ≡ [] = ap (λ m. comment_of m opening.text) opens in
    let end : comments_among (closing ∷ []) ≡ [] = ap (λ m. comment_of m closing.text ++ []) closes in
    ap (λ l. l ++ comments_among (inner ++ closing ∷ [])) front ∙ comments_append inner (closing ∷ []) ∙ ap (λ l. comments_among inner ++ l) end ∙ append-nil (comments_among inner)

mutual
  elem_mixed : (x : Elem) (b : Preceding) → IsWell b x → AreMixed (comments_among (elem_tokens x)) (own_owners (elem_own b x))
  elem_mixed (single t) b well = subst (λ l. AreMixed l (own_owners (elem_own b (single t)))) (sym (append-nil (comment_of (mark_of t) t.text))) (single_mixed (mark_of t) t well)
  elem_mixed (bracket s opening inner closing) b well =
      let owns = elems_own Other inner in
      let mixed = group_mixed (group_kind s b (has_for owns)) owns (comments_among (elems_tokens inner)) well.3 (elems_spelled inner Other well.2) in
      subst (λ l. AreMixed l (own_owners (elem_own b (bracket s opening inner closing)))) (sym (bracket_comments s opening (elems_tokens inner) closing well.0 well.1)) mixed

  elems_spelled : (xs : Elems) (b : Preceding) → AreWell b xs → AreSpelled (elems_own b xs) (comments_among (elems_tokens xs))
  elems_spelled no_elems b well = refl
  elems_spelled (elem x xs) b well =
      (comments_among (elem_tokens x), comments_among (elems_tokens xs), comments_append (elem_tokens x) (elems_tokens xs), elem_mixed x b well.0, elems_spelled xs (preceding b (elem_own b x)) well.1)

-- At depth 0 there is one segment, and the end comments stand above it.
no_commas : (os : List Inner) → has_comma (with_comma_nodes true os) ≡ false
no_commas [] = refl
no_commas (node line x ∷ os) = no_commas os
no_commas (comma t ∷ os) = no_commas os
no_commas (comment line text ∷ os) = no_commas os

alone_mixed : (segs : List Segment) (before : List (List ℕ)) (nodes : List Item) (suffix : Option (List ℕ)) (after : List (List ℕ)) (last : Last) (trailing : Bool) (texts : List (List ℕ))
    → segs ≡ [] → NoNodes nodes before suffix → Holds (walked_of segs before nodes suffix after last trailing) texts
    → (let i = done (walked_of segs before nodes suffix after last trailing) in AreMixed texts (segment_owners (one_segment i.segs i.end)))
alone_mixed (s ∷ ss) before nodes suffix after last trailing texts alone none h = absurd (some_none s ss alone)
  where
    some_none : (s : Segment) (ss : List Segment) → s ∷ ss ≡ [] → ⊥
    some_none s ss e = cc
alone_mixed [] before [] suffix after last trailing texts alone none h =
    let closed = closed_mixed [] before [] suffix after last trailing texts h in
    subst (λ b. AreMixed texts ((b ++ after) ∷ [] ∷ [])) none.0 (subst (λ o. AreMixed texts ((before ++ after) ∷ beside o ∷ [])) none.1 closed)
alone_mixed [] before (x ∷ xs) suffix after last trailing texts alone none h = closed_mixed [] before (x ∷ xs) suffix after last trailing texts h

-- the call of a rule has the same comments
call_owners : (x : Item) → item_owners (as_rule_call x) ≡ item_owners x
call_owners (leaf kind text) = refl
call_owners (group kind segs one_comma end) = refl

calls_owners : (xs : List Item) → nodes_owners (rule_call xs) ≡ nodes_owners xs
calls_owners [] = refl
calls_owners (x ∷ []) = ap (λ l. l ++ []) (call_owners x)
calls_owners (x ∷ y ∷ ys) = ap (λ l. item_owners x ++ l) (calls_owners (y ∷ ys))

marked_owners : (b : Bool) (xs : List Item) → nodes_owners (cond b (rule_call xs) xs) ≡ nodes_owners xs
marked_owners true xs = calls_owners xs
marked_owners false xs = refl

segment_mixed : (owns : List Inner) (texts : List (List ℕ)) → AreSpelled owns texts → AreMixed texts (segment_owners (segment_of owns))
segment_mixed owns texts spelled =
    let os = with_comma_nodes true owns in
    let e = inside_ends os texts (nodes_alone false owns) (items_spelled true owns texts spelled) in
    let w = e.last in
    let one = alone_mixed w.segs w.before w.nodes w.suffix w.after w.last w.trailing texts (e.alone (no_commas owns) refl) e.fits.nodes e.holds in
    let i = inside os in
    let s = one_segment i.segs i.end in
    let here : AreMixed texts (segment_owners s) = subst (λ (i : Inside). AreMixed texts (segment_owners (one_segment i.segs i.end))) e.is one in
    subst (λ l. AreMixed texts (s.before ∷ beside s.suffix ∷ l)) (sym (marked_owners (is_rule s.nodes) s.nodes)) here

-- newlines are no comments
line_comments : (m : Mark) (t : Placed) (ts : List Placed) → mark_of t ≡ m → comments_among (cond (is_line m) ts (t ∷ ts)) ≡ comment_of m t.text ++ comments_among ts
line_comments Newline t ts e = refl
line_comments Comma t ts e = ap (λ k. comment_of k t.text ++ comments_among ts) e
line_comments Remark t ts e = ap (λ k. comment_of k t.text ++ comments_among ts) e
line_comments Plain t ts e = ap (λ k. comment_of k t.text ++ comments_among ts) e
line_comments (Open s) t ts e = ap (λ k. comment_of k t.text ++ comments_among ts) e
line_comments (Close s) t ts e = ap (λ k. comment_of k t.text ++ comments_among ts) e

pub lines_comments : (ts : List Placed) → comments_among (without_lines ts) ≡ comments_among ts
lines_comments [] = refl
lines_comments (t ∷ ts) = line_comments (mark_of t) t (without_lines ts) refl ∙ ap (λ l. comment_of (mark_of t) t.text ++ l) (lines_comments ts)

statement_mixed : (tokens : List Placed) (s : Statement) → IsStatementOf tokens s → AreMixed (comments_among tokens) (owners_of s)
statement_mixed tokens s of =
    let is = tree_of tokens s of in
    let owns = elems_own Other is.elems in
    let mixed : AreMixed (comments_among (elems_tokens is.elems)) (owners_of (statement_with tokens (segment_of owns))) = segment_mixed owns (comments_among (elems_tokens is.elems)) (elems_spelled is.elems Other is.well) in
    let same : comments_among (elems_tokens is.elems) ≡ comments_among tokens = sym (ap comments_among is.tokens_are) ∙ lines_comments tokens in
    subst (λ l. AreMixed l (owners_of s)) same (subst (λ (x : Statement). AreMixed (comments_among (elems_tokens is.elems)) (owners_of x)) (sym is.is) mixed)

pub comments_in_order : (tokens : List Placed) (s : Statement) → IsStatementOf tokens s → AreDealt (comments_among tokens) (owners_of s)
comments_in_order tokens s is = dealt_of (comments_among tokens) (owners_of s) (statement_mixed tokens s is)

pub comments_kept : (tokens : List Placed) (s : Statement) (c : List ℕ) → IsStatementOf tokens s → times c (comments_of s) ≡ times c (comments_among tokens)
comments_kept tokens s c is = times_all c (owners_of s) (comments_among tokens) (statement_mixed tokens s is)
