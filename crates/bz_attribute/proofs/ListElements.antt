-- The elements of a list part, and the value of an argument, by their parts.
use Rattle.std.proofs.Common.{is_some, ◌≡◌, ℕ, ◌+◌, ◌<◌, ◌≤◌, List, [], ◌∷◌, ◌++◌, Bool, true, false, Option, Some, None, map, length, length-drop, take, drop, refl, ap, sym, ◌∙◌, arith, append_assoc, length-append, drop-drop}
use Rattle.std.proofs.lemmas.Bool.{false≢true}
use Rattle.std.proofs.lemmas.List.{length-map}
use Rattle.std.proofs.Math.Seq.{drop-append_seam, take-append_seam}
use Rattle.std.specs.Prelude.{codes, option_and_then}
use Rattle.bz_tree.specs.Tree.{Item, leaf, group, Segment, Statement, items_of, segs_of}
use Rattle.bz_tree.specs.Rows.{RowPart, a_token, closing, segment_end, above, beside, beside_part, items_parts, segs_parts}
use Rattle.bz_token.specs.declared.token.Kind.TheVariants.{String}
use Rattle.bz_attribute.specs.Elements.{AreElementsTo, IsElementOf, IsValueAt, ListRest, rest_parts, value_parts}
use Rattle.bz_attribute.specs.Effects.{edit_first, has, with_args, nodes_of}
use Rattle.bz_attribute.specs.private.RuleNodes.{nodes_after}
use Rattle.bz_attribute.specs.Lists.{with_value}
use Rattle.bz_attribute.specs.RowPlaces.{IsArgumentAt, IsRuleRow}
use Rattle.bz_attribute.specs.Rules.{Rule, first_named, is_named, is_text, name_in, name_of, only_text, string_value, value}
use Rattle.bz_attribute.specs.private.Parts.{above_len, bare_string, end_len, ends_list, parts_len, plain_len, segment_len, string_in}
use Rattle.bz_label.specs.Values.{value_of}
use Rattle.bz_attribute.proofs.EditedAt.{edited_at, first_at, none_first, segs_join}
use Rattle.bz_attribute.proofs.EndsBack.{argument_long, plain_elements, no_beside_argument, no_beside_end, segment_long}
use Rattle.bz_attribute.proofs.Lengths.{above_passed, no_more_above, segs_ended}
use Rattle.bz_attribute.proofs.RuleNodes.{rule_nodes}
use Rattle.bz_attribute.proofs.PlaceFound.{in_three, nodes_split, post, pre}
use Rattle.bz_attribute.proofs.FoundArgs.{group_name, split}

-- what comes after the elements of a list
abbrev tail : List (List ℕ) → Bool → List Item → List RowPart → List RowPart
tail end one_comma items after = map above end ++ closing one_comma ∷ value_parts items after

-- no element is left
no_above_close : (end : List (List ℕ)) (one_comma : Bool) (qs : List RowPart) → above_len (map above end ++ closing one_comma ∷ qs) ≡ length end
no_above_close end one_comma qs = above_passed end (closing one_comma ∷ qs) ∙ omega arith

pub at_close : (end : List (List ℕ)) (one_comma : Bool) (qs ps : List RowPart) (at token : ℕ) → drop at ps ≡ map above end ++ closing one_comma ∷ qs → token ≡ at + above_len (drop at ps)
    → drop token ps ≡ closing one_comma ∷ qs
at_close end one_comma qs ps at token read is =
    let rest : List RowPart = closing one_comma ∷ qs in
    let long : token ≡ at + length (map above end) = omega (arith, is, ap above_len read, no_above_close end one_comma qs, length-map end above) in
    ap (λ (n : ℕ). drop n ps) long ∙ sym (drop-drop (length (map above end)) at ps) ∙ ap (drop (length (map above end))) read ∙ drop-append_seam (map above end) rest

-- an element is left: its nodes, and what comes after it
pub record AreNodes (s : Segment) (ps rest : List RowPart) (at token : ℕ) : Type 0 where
  pub begins : token ≡ at + length s.before
  pub read : drop token ps ≡ items_parts (items_of s.nodes) ++ segment_end ∷ (beside_part s.suffix ++ rest)

pub at_nodes : (s : Segment) (ss : List Segment) (last ps : List RowPart) (at token : ℕ) → drop at ps ≡ segs_parts (segs_of (s ∷ ss)) ++ last → token ≡ at + above_len (drop at ps) → AreNodes s ps (segs_parts (segs_of ss) ++ last) at token
at_nodes s ss last ps at token read is =
    let nodes : List RowPart = items_parts (items_of s.nodes) ++ segment_end ∷ (beside_part s.suffix ++ (segs_parts (segs_of ss) ++ last)) in
    let cut : drop at ps ≡ map above s.before ++ nodes = read ∙ split s ss last in
    let long : above_len (drop at ps) ≡ length s.before = ap above_len cut ∙ above_passed s.before nodes ∙ omega (arith, no_more_above (items_of s.nodes) (beside_part s.suffix ++ (segs_parts (segs_of ss) ++ last))) in
    let place : token ≡ at + length (map above s.before) = omega (arith, is, long, length-map s.before above) in
    record {
      begins = omega (arith, is, long);
      read = ap (λ (n : ℕ). drop n ps) place ∙ sym (drop-drop (length (map above s.before)) at ps) ∙ ap (drop (length (map above s.before))) cut ∙ drop-append_seam (map above s.before) nodes;
    }

goes_on : (xs : List Item) (qs : List RowPart) → ends_list (items_parts (items_of xs) ++ segment_end ∷ qs) ≡ false
goes_on [] qs = refl
goes_on (leaf kind text ∷ xs) qs = refl
goes_on (group kind segs one_comma end ∷ xs) qs = refl

pub none_of : (ss : List Segment) (last ps : List RowPart) (at token : ℕ) → drop at ps ≡ segs_parts (segs_of ss) ++ last → token ≡ at + above_len (drop at ps) → ends_list (drop token ps) ≡ true → ss ≡ []
none_of [] last ps at token read is ends = refl
none_of (s ∷ ss) last ps at token read is ends =
    let n = at_nodes s ss last ps at token read is in
    absurd (false≢true (sym (goes_on s.nodes (beside_part s.suffix ++ (segs_parts (segs_of ss) ++ last))) ∙ ap ends_list (sym n.read) ∙ ends))

pub none_left : (rest : ListRest) (after ps : List RowPart) (at token : ℕ) → drop at ps ≡ rest_parts rest after → token ≡ at + above_len (drop at ps) → ends_list (drop token ps) ≡ true → rest.elements ≡ []
none_left rest after ps at token read is ends = none_of rest.elements (tail rest.end rest.one_comma rest.items after) ps at token read is ends

-- no comment of the next element, or of the end, is beside this one
beside_none : (ss : List Segment) (end : List (List ℕ)) (one_comma : Bool) (qs : List RowPart) → end_len (segment_end ∷ (segs_parts (segs_of ss) ++ (map above end ++ closing one_comma ∷ qs))) ≡ 1
beside_none [] end one_comma qs = ap (λ (ps : List RowPart). end_len (segment_end ∷ ps)) (sym (append_assoc (map above end) (closing one_comma ∷ []) qs)) ∙ no_beside_end end one_comma qs
beside_none (s ∷ ss) end one_comma qs =
    let last : List RowPart = map above end ++ closing one_comma ∷ qs in
    ap (λ (ps : List RowPart). end_len (segment_end ∷ ps)) (split s ss last) ∙ no_beside_argument s.before (items_of s.nodes) (beside_part s.suffix ++ (segs_parts (segs_of ss) ++ last))

-- its text
pub text_told : (xs : List Item) (qs : List RowPart) → string_in (items_parts (items_of xs) ++ segment_end ∷ qs) ≡ only_text xs
text_told [] qs = refl
text_told (leaf String text ∷ []) qs = refl
text_told (leaf String text ∷ leaf k t ∷ xs) qs = refl
text_told (leaf String text ∷ group k segs one_comma end ∷ xs) qs = refl
text_told (leaf _ text ∷ xs) qs = refl
text_told (group kind segs one_comma end ∷ xs) qs = refl

-- the segment that begins at a place: its nodes, its end, and what is left
pub record IsSegmentAt (ss : List Segment) (last ps : List RowPart) (at token to : ℕ) : Type 0 where
  pub segment : Segment
  pub others : List Segment
  pub are : ss ≡ segment ∷ others
  pub begins : token ≡ at + length segment.before
  pub nodes : drop token ps ≡ items_parts (items_of segment.nodes) ++ segment_end ∷ (beside_part segment.suffix ++ (segs_parts (segs_of others) ++ last))
  pub ends : to ≡ at + length (segs_parts (segs_of (segment ∷ [])))
  pub own : drop at ps ≡ segs_parts (segs_of (segment ∷ [])) ++ drop to ps
  pub left : drop to ps ≡ segs_parts (segs_of others) ++ last

pub segment_there : (ss : List Segment) (end : List (List ℕ)) (one_comma : Bool) (after ps : List RowPart) (at token to : ℕ) → drop at ps ≡ segs_parts (segs_of ss) ++ (map above end ++ closing one_comma ∷ after)
    → token ≡ at + above_len (drop at ps) → ends_list (drop token ps) ≡ false → to ≡ token + segment_len (drop token ps) → IsSegmentAt ss (map above end ++ closing one_comma ∷ after) ps at token to
segment_there [] end one_comma after ps at token to read is more to_is = absurd (false≢true (sym more ∙ ap ends_list (at_close end one_comma after ps at token read is)))
segment_there (s ∷ ss) end one_comma after ps at token to read is more to_is =
    let last : List RowPart = map above end ++ closing one_comma ∷ after in
    let own : List RowPart = segs_parts (segs_of (s ∷ [])) in
    let n = at_nodes s ss last ps at token read is in
    let long : segment_len (drop token ps) ≡ length (items_parts (items_of s.nodes)) + (1 + length (beside_part s.suffix)) =
    ap segment_len n.read ∙ segment_long s (segs_parts (segs_of ss) ++ last) (beside_none ss end one_comma after) in
    let cut : drop at ps ≡ own ++ (segs_parts (segs_of ss) ++ last) = read ∙ ap (λ (qs : List RowPart). qs ++ last) (segs_join (s ∷ []) ss) ∙ append_assoc own (segs_parts (segs_of ss)) last in
    let place : to ≡ at + length own = omega (arith, to_is, long, argument_long s, length-map s.before above, n.begins) in
    let left : drop to ps ≡ segs_parts (segs_of ss) ++ last = ap (λ (k : ℕ). drop k ps) place ∙ sym (drop-drop (length own) at ps) ∙ ap (drop (length own)) cut ∙ drop-append_seam own (segs_parts (segs_of ss) ++ last) in
    record { segment = s; others = ss; are = refl; begins = n.begins; nodes = n.read; ends = place; own = cut ∙ ap (λ (qs : List RowPart). own ++ qs) (sym left); left = left }

pub element_there : (rest : ListRest) (after ps : List RowPart) (at token to : ℕ) (string : Option (List ℕ)) → drop at ps ≡ rest_parts rest after → token ≡ at + above_len (drop at ps) → ends_list (drop token ps) ≡ false
    → to ≡ token + segment_len (drop token ps) → string ≡ string_in (drop token ps) → IsElementOf rest after ps at token to string
element_there rest after ps at token to string read is more to_is string_is =
    let e = segment_there rest.elements rest.end rest.one_comma (value_parts rest.items after) ps at token to read is more to_is in
    record { element = e.segment; others = e.others; are = e.are; begins = e.begins; ends = e.ends; own = e.own; read = e.left; text = string_is ∙ ap string_in e.nodes ∙ text_told e.segment.nodes (beside_part e.segment.suffix ++ (segs_parts (segs_of e.others) ++ tail rest.end rest.one_comma rest.items after)) }

-- the element that begins at a place in a list part ends there
abbrev pub HasElement : List RowPart → ℕ → ℕ → ℕ → Option (List ℕ) → Type 0
HasElement ps at token to string = (rest : ListRest) (after : List RowPart) → drop at ps ≡ rest_parts rest after → IsElementOf rest after ps at token to string

-- one that is one string token, without comments
record IsBare (qs : List RowPart) (text : List ℕ) : Type 0 where
  above : above_len qs ≡ 0
  more : ends_list qs ≡ false
  long : segment_len qs ≡ 2
  string : string_in qs ≡ Some text

is_bare : (qs : List RowPart) (text : List ℕ) → bare_string qs ≡ Some text → IsBare qs text
is_bare (a_token String t ∷ segment_end ∷ beside comment ∷ ps) text h = let clash : None ≡ Some text = h in absurd cc
is_bare (a_token String t ∷ segment_end ∷ p ∷ ps) text h = record { above = refl; more = refl; long = refl; string = h }
is_bare _ text h = let clash : None ≡ Some text = h in absurd cc

pub bare_there : (ps : List RowPart) (at : ℕ) (text : List ℕ) → bare_string (drop at ps) ≡ Some text → HasElement ps at at (at + 2) (Some text)
bare_there ps at text h = λ rest after read.
    let b = is_bare (drop at ps) text h in
    element_there rest after ps at at (at + 2) (Some text) read (omega (arith, b.above)) b.more (omega (arith, b.long)) (sym b.string)

-- where the elements end
pub elements_told : (l : ListRest) (after ps : List RowPart) (from close end : ℕ) → drop from ps ≡ rest_parts l after → close ≡ parts_len false 0 (drop from ps) → end ≡ from + plain_len (take close (drop from ps)) → AreElementsTo l ps from end
elements_told l after ps from close end read close_is end_is =
    let own : List RowPart = segs_parts (segs_of l.elements) in
    let comments : List RowPart = map above l.end in
    let later : List RowPart = closing l.one_comma ∷ value_parts l.items after in
    let long : close ≡ length (own ++ comments) =
    omega (arith, close_is, ap (parts_len false 0) read, segs_ended (segs_of l.elements) l.end l.one_comma (value_parts l.items after), length-append own comments) in
    let inside : take close (drop from ps) ≡ own ++ comments = (λ i. take (long i) ((read ∙ sym (append_assoc own comments later)) i)) ∙ take-append_seam (own ++ comments) later in
    let size : end ≡ from + length own = end_is ∙ ap (λ (qs : List RowPart). from + plain_len qs) inside ∙ ap (λ (n : ℕ). from + n) (plain_elements l.elements l.end) in
    let left : drop end ps ≡ comments ++ later = ap (λ (n : ℕ). drop n ps) size ∙ sym (drop-drop (length own) from ps) ∙ ap (drop (length own)) read ∙ drop-append_seam own (comments ++ later) in
    record { are = read ∙ ap (λ (qs : List RowPart). own ++ qs) (sym left); size = size }

-- the list ends
pub record HasClosed (rest : ListRest) (after ps : List RowPart) (at token : ℕ) : Type 0 where
  pub place : token ≡ at + length rest.end
  pub more : token < length ps
  pub read : drop (token + 1) ps ≡ value_parts rest.items after

pub closed_there : (rest : ListRest) (after ps : List RowPart) (at token : ℕ) → rest.elements ≡ [] → drop at ps ≡ rest_parts rest after → token ≡ at + above_len (drop at ps) → token ≤ length ps → HasClosed rest after ps at token
closed_there rest after ps at token none read is within =
    let tail_read : drop at ps ≡ tail rest.end rest.one_comma rest.items after = read ∙ ap (λ (ss : List Segment). segs_parts (segs_of ss) ++ tail rest.end rest.one_comma rest.items after) none in
    let close = at_close rest.end rest.one_comma (value_parts rest.items after) ps at token tail_read is in
    record {
      place = omega (arith, is, ap above_len tail_read, no_above_close rest.end rest.one_comma (value_parts rest.items after));
      more = omega (arith, ap length close, length-drop token ps, within);
      read = sym (drop-drop 1 token ps) ∙ ap (drop 1) close;
    }

-- the nodes of a keyword argument
pub record IsKeyword (nodes : List Item) : Type 0 where
  pub name : Item
  pub operator : Item
  pub first : RowPart
  pub second : RowPart
  pub are : nodes ≡ name ∷ operator ∷ drop 2 nodes
  pub parts : (more : List Item) → items_parts (items_of (name ∷ operator ∷ more)) ≡ first ∷ second ∷ items_parts (items_of more)

pub is_keyword : (nodes : List Item) → is_some (name_of nodes) ≡ true → IsKeyword nodes
is_keyword [] h = absurd (false≢true h)
is_keyword (x ∷ []) h = absurd (false≢true h)
is_keyword (leaf kind text ∷ leaf k t ∷ rest) h = record { name = leaf kind text; operator = leaf k t; first = a_token kind text; second = a_token k t; are = refl; parts = λ more. refl }
is_keyword (leaf kind text ∷ group k segs one_comma end ∷ rest) h = absurd (false≢true h)
is_keyword (group k segs one_comma end ∷ y ∷ rest) h = absurd (false≢true (sym (ap is_some (group_name k segs one_comma end y rest)) ∙ h))

named_some : (name : List ℕ) (o : Option (List ℕ)) → is_text name o ≡ true → is_some o ≡ true
named_some name None h = h
named_some name (Some text) h = refl

-- the value of the first argument of a name
pub value_there : (name : List ℕ) (s : Statement) (r : Rule) (ps : List RowPart) (at to : ℕ) → IsRuleRow s r ps → IsArgumentAt name s r at → to ≡ at + 2 → IsValueAt name s r ps to
value_there name s r ps at to h f to_is =
    let a : Segment = f.arg in
    let n = is_keyword a.nodes (named_some name (name_of a.nodes) f.is) in
    let two : List RowPart = n.first ∷ n.second ∷ [] in
    let first : List RowPart = pre s r f.front ++ map above a.before in
    let front : List RowPart = first ++ two in
    let after : List RowPart = beside_part a.suffix ++ post s r f.back in
    let nodes : (v : List Item) → items_parts (items_of (n.name ∷ n.operator ∷ v)) ++ segment_end ∷ after ≡ two ++ value_parts v after = λ v. ap (λ (qs : List RowPart). qs ++ segment_end ∷ after) (n.parts v) in
    let own : items_parts (items_of a.nodes) ++ segment_end ∷ after ≡ two ++ value_parts (value a) after = ap (λ (xs : List Item). items_parts (items_of xs) ++ segment_end ∷ after) n.are ∙ nodes (value a) in
    let all : ps ≡ front ++ value_parts (value a) after =
    h.are ∙ in_three s r f.front (a ∷ []) f.back (rule_nodes s.nodes r h.rule) f.are ∙ nodes_split s r f.front f.back a
    ∙ ap (λ (qs : List RowPart). first ++ qs) own ∙ sym (append_assoc first two (value_parts (value a) after)) in
    let begins : at + 2 ≡ length front =
    omega (arith, f.begins, length-append first two, length-append (pre s r f.front) (map above a.before)) in
    let place : to ≡ length front = to_is ∙ begins in
    record {
      arg = a;
      after = after;
      first = ap (first_named name) f.are ∙ first_at name f.front a f.back f.none f.is;
      read = (λ i. drop (place i) (all i)) ∙ drop-append_seam front (value_parts (value a) after);
      put = λ edit v made.
          let b : Segment = with_value v a in
          let b_is : b ≡ record a { nodes = n.name ∷ n.operator ∷ v } = ap (λ (xs : List Item). record a { nodes = take 2 xs ++ v }) n.are in
          let r2 : Rule = record r { args = edit_first (is_named name) edit r.args } in
          let args : r2.args ≡ f.front ++ (b ∷ f.back) =
          ap (edit_first (is_named name) edit) f.are ∙ edited_at (is_named name) edit f.front a f.back f.none f.is ∙ ap (λ (zs : List Segment). f.front ++ (zs ++ f.back)) made in
          let written : nodes_of r2 ≡ (with_args (edit_first (is_named name) edit) s).nodes = sym (ap (nodes_after (edit_first (is_named name) edit) s.nodes) h.rule) in
          let taken : take to ps ≡ front = (λ i. take (place i) (all i)) ∙ take-append_seam front (value_parts (value a) after) in
          let own_now : items_parts (items_of b.nodes) ++ segment_end ∷ after ≡ two ++ value_parts v after = ap (λ (x : Segment). items_parts (items_of x.nodes) ++ segment_end ∷ after) b_is ∙ nodes v in
          ap (λ (qs : List RowPart). qs ++ value_parts v after) taken ∙ append_assoc first two (value_parts v after) ∙ ap (λ (qs : List RowPart). first ++ qs) (sym own_now)
          ∙ sym (in_three (with_args (edit_first (is_named name) edit) s) r2 f.front (b ∷ []) f.back written args ∙ nodes_split s r f.front f.back b);
    }

-- its name and the operator stand before it
pub value_within : (name : List ℕ) (s : Statement) (r : Rule) (ps : List RowPart) (at : ℕ) → IsRuleRow s r ps → IsArgumentAt name s r at → at + 2 ≤ length ps
value_within name s r ps at h f =
    let v = value_there name s r ps at (at + 2) h f refl in
    omega (arith, ap length v.read, length-drop (at + 2) ps, length-append (items_parts (items_of (value v.arg))) (segment_end ∷ v.after))

-- the string that it is
pub string_told : (s : Statement) (r : Rule) (ps : List RowPart) (at : ℕ) → IsValueAt (codes "name") s r ps at → option_and_then value_of (string_in (drop at ps)) ≡ name_in r.args
string_told s r ps at v = ap (option_and_then value_of) (ap string_in v.read ∙ text_told (value v.arg) v.after) ∙ sym (ap (option_and_then (λ a. string_value (value a))) v.first)

pub none_told : (args : List Segment) → has (codes "name") args ≡ false → option_and_then value_of None ≡ name_in args
none_told args none = sym (ap (option_and_then (λ a. string_value (value a))) (none_first (codes "name") args none))
