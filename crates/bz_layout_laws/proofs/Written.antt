-- What stands in a bracket is written in one form.
use Rattle.std.proofs.Common.{◌≡◌, ℕ, suc, ◌==◌, ◌&&◌, ◌||◌, List, [], ◌∷◌, ◌++◌, length, map, Bool, true, false, Option, Some, None, refl, sym, ap, subst, ◌∙◌, append_assoc, append-nil, inl, inr, arith}
use Rattle.std.specs.Prelude.{codes, nat_le, is_some, if◌then◌else◌}
use Rattle.std.proofs.lemmas.Bool.{cases_Bool, or_parts, false≢true, eqb-true}
use Rattle.std.proofs.lemmas.Bool.Decides.{nat_tests}
use Rattle.bz_token.specs.declared.token.Kind.TheVariants.{Operator, Comment}
use Rattle.bz_tree.specs.declared.tree.GroupKind.{GroupKind}
use Rattle.bz_tree.specs.declared.tree.GroupKind.TheVariants.{Paren, Index, ListComp, DictComp}
use Rattle.bz_tree.specs.Brackets.{is_paren}
use Rattle.bz_tree.specs.Cells.{Entry, a_node, a_comma}
use Rattle.bz_tree.specs.Tree.{group, Items, no_items, item, Segs, no_segs, seg, list_of, segments}
use Rattle.bz_layout_laws.specs.Written.{own_lines, suffix_entry, written_entries}
use Rattle.bz_layout.specs.Broken.{breaks_by_count}
use Rattle.bz_layout.specs.Walked.{count, have_comments, is_broken, segs_hold, opening, closing}
use Rattle.bz_layout.specs.Layout.{has_commas}
use Rattle.bz_layout_laws.specs.Lexemes.{Lexeme, lexeme, comment_lexemes, suffix_lexemes, comma_lexemes, item_lexemes, items_lexemes, ended_lexemes, separated_lexemes}
use Rattle.bz_layout_laws.proofs.FreeLexemes.{last_comma}
use Rattle.bz_layout_laws.proofs.Texts.{both}
use Rattle.bz_layout_laws.specs.Inside.{entry_lexemes, entries_lexemes, has_last_comma, HasShape}
use Rattle.bz_token.specs.Common.{is_filled}

join : (xs ys : List Entry) → entries_lexemes (xs ++ ys) ≡ entries_lexemes xs ++ entries_lexemes ys
join [] ys = refl
join (x ∷ xs) ys = ap (λ l. entry_lexemes x ++ l) (join xs ys) ∙ sym (append_assoc (entry_lexemes x) (entries_lexemes xs) (entries_lexemes ys))

pub own_lines_are : (texts : List (List ℕ)) → entries_lexemes (own_lines texts) ≡ comment_lexemes texts
own_lines_are [] = refl
own_lines_are (text ∷ texts) = ap (λ l. lexeme Comment text ∷ l) (own_lines_are texts)

nodes_are : (xs : Items) → entries_lexemes (map a_node (list_of xs)) ≡ items_lexemes xs
nodes_are no_items = refl
nodes_are (item x xs) = ap (λ l. item_lexemes x ++ l) (nodes_are xs)

suffix_is : (suffix : Option (List ℕ)) → entries_lexemes (suffix_entry suffix) ≡ suffix_lexemes suffix
suffix_is None = refl
suffix_is (Some text) = refl

abbrev pub comma_entry : Bool → List Entry
comma_entry c = if c then a_comma ∷ [] else []

comma_is : (c : Bool) → entries_lexemes (comma_entry c) ≡ comma_lexemes c
comma_is true = refl
comma_is false = refl

-- a segment with what stands after it
abbrev pub segment_entries : List (List ℕ) → Items → Bool → Option (List ℕ) → List Entry → List Entry
segment_entries before nodes c suffix es = own_lines before ++ (map a_node (list_of nodes) ++ (comma_entry c ++ (suffix_entry suffix ++ es)))

pub segment_is : (before : List (List ℕ)) (nodes : Items) (c : Bool) (suffix : Option (List ℕ)) (es : List Entry) → entries_lexemes (segment_entries before nodes c suffix es) ≡ comment_lexemes before ++ (items_lexemes nodes ++ (comma_lexemes c ++ (suffix_lexemes suffix ++ entries_lexemes es)))
segment_is before nodes c suffix es =
    let a = own_lines before in
    let b = map a_node (list_of nodes) in
    join a (b ++ (comma_entry c ++ (suffix_entry suffix ++ es)))
    ∙ rw (join b (comma_entry c ++ (suffix_entry suffix ++ es)), join (comma_entry c) (suffix_entry suffix ++ es), join (suffix_entry suffix) es, own_lines_are before, nodes_are nodes, comma_is c, suffix_is suffix) refl

-- broken over lines, with a comma after each segment
ended_true : (ss : Segs) (end : List (List ℕ)) → ended_lexemes true ss ++ comment_lexemes end ≡ entries_lexemes (written_entries true (segments ss) end)
ended_true no_segs end = sym (own_lines_are end)
ended_true (seg before nodes suffix ss) end =
    let rest = ended_true ss end in
    spread before nodes suffix (ended_lexemes true ss) (comment_lexemes end) ∙ ap (λ l. comment_lexemes before ++ (items_lexemes nodes ++ (comma_lexemes true ++ (suffix_lexemes suffix ++ l)))) rest
    ∙ sym (segment_is before nodes true suffix (written_entries true (segments ss) end))
  where
    spread : (before : List (List ℕ)) (nodes : Items) (suffix : Option (List ℕ)) (x y : List Lexeme) → (comment_lexemes before ++ (items_lexemes nodes ++ (comma_lexemes true ++ (suffix_lexemes suffix ++ x)))) ++ y ≡ comment_lexemes before ++ (items_lexemes nodes ++ (comma_lexemes true ++ (suffix_lexemes suffix ++ (x ++ y))))
    spread before nodes suffix x y = simp append_assoc

pub too_many : (n : ℕ) → nat_le (suc (suc n)) 1 ≡ true → ⊥
too_many n h = grind (arith, nat_tests)

none_is_not_one : count no_segs ≡ 1 → ⊥
none_is_not_one e = omega (arith, e)

-- or with none, where there is one segment at most
ended_false : (ss : Segs) (end : List (List ℕ)) → nat_le (count ss) 1 ≡ true → ended_lexemes false ss ++ comment_lexemes end ≡ entries_lexemes (written_entries false (segments ss) end)
ended_false no_segs end h = sym (own_lines_are end)
ended_false (seg before nodes suffix (seg b n s ss)) end h = absurd (too_many (count ss) h)
ended_false (seg before nodes suffix no_segs) end h =
    spread before nodes suffix (comment_lexemes end) ∙ ap (λ l. comment_lexemes before ++ (items_lexemes nodes ++ (comma_lexemes false ++ (suffix_lexemes suffix ++ l)))) (sym (own_lines_are end))
    ∙ sym (segment_is before nodes false suffix (own_lines end))
  where
    spread : (before : List (List ℕ)) (nodes : Items) (suffix : Option (List ℕ)) (y : List Lexeme) → (comment_lexemes before ++ (items_lexemes nodes ++ (comma_lexemes false ++ (suffix_lexemes suffix ++ [])))) ++ y ≡ comment_lexemes before ++ (items_lexemes nodes ++ (comma_lexemes false ++ (suffix_lexemes suffix ++ y)))
    spread before nodes suffix y = simp append_assoc

-- on one line
pub no_comments : (before : List (List ℕ)) → is_filled before ≡ false → comment_lexemes before ≡ []
no_comments [] h = refl
no_comments (text ∷ texts) h = absurd (false≢true (sym h))

pub no_suffix : (suffix : Option (List ℕ)) → is_some suffix ≡ false → suffix_lexemes suffix ≡ []
no_suffix None h = refl
no_suffix (Some text) h = absurd (false≢true (sym h))

separated_are : (ss : Segs) (c : Bool) → have_comments ss ≡ false → (c ≡ true → count ss ≡ 1) → separated_lexemes true ss ++ comma_lexemes c ≡ entries_lexemes (written_entries c (segments ss) [])
separated_are no_segs true none some = absurd (none_is_not_one (some refl))
separated_are no_segs false none some = refl
separated_are (seg before nodes suffix no_segs) c none some =
    let p = or_parts (is_filled before || is_some suffix) false none in
    let q = or_parts (is_filled before) (is_some suffix) p.0 in
    let above = no_comments before q.0 in
    let aside = no_suffix suffix q.1 in
    ap (λ l. l ++ comma_lexemes c) (append-nil (items_lexemes nodes)) ∙ sym (ap (λ b. entries_lexemes (segment_entries before nodes b suffix [])) (alone c) ∙ segment_is before nodes c suffix [] ∙ rw (above, aside, append-nil (comma_lexemes c)) refl)
  where
    alone : (c : Bool) → (c || false) ≡ c
    alone true = refl
    alone false = refl
separated_are (seg before nodes suffix (seg b n s ss)) true none some = absurd (not_one (some refl))
  where
    not_one : suc (suc (count ss)) ≡ 1 → ⊥
    not_one e = omega (arith, e)
separated_are (seg before nodes suffix (seg b n s ss)) false none some =
    let p = or_parts (is_filled before || is_some suffix) (have_comments (seg b n s ss)) none in
    let q = or_parts (is_filled before) (is_some suffix) p.0 in
    let above = no_comments before q.0 in
    let aside = no_suffix suffix q.1 in
    let es = written_entries false (segments (seg b n s ss)) [] in
    let rest : separated_lexemes true (seg b n s ss) ++ [] ≡ entries_lexemes es = separated_are (seg b n s ss) false p.1 (λ e. absurd (false≢true e)) in
    spread (items_lexemes nodes) (items_lexemes n) (separated_lexemes false ss) ∙ ap (λ l. items_lexemes nodes ++ (lexeme Operator (codes ",") ∷ l)) rest
    ∙ sym (segment_is before nodes true suffix es ∙ rw (above, aside) refl)
  where
    spread : (x y z : List Lexeme) → (x ++ ((lexeme Operator (codes ",") ∷ y) ++ z)) ++ [] ≡ x ++ (lexeme Operator (codes ",") ∷ ((y ++ z) ++ []))
    spread x y z = simp append_assoc

-- where no comma is written after a segment, there is one at most
pub few : (kind : GroupKind) (one_comma : Bool) (ss : Segs) → HasShape kind ss one_comma → has_commas kind one_comma (count ss) ≡ false → nat_le (count ss) 1 ≡ true
few ListComp one_comma ss h none = h.one refl
few DictComp one_comma ss h none = h.one refl
few Index one_comma ss h none = h.one refl
few Paren one_comma ss h none = less (count ss) (or_parts one_comma (nat_le 2 (count ss)) none).1
  where
    less : (n : ℕ) → nat_le 2 n ≡ false → nat_le n 1 ≡ true
    less n h = grind (arith, nat_tests)
few _ one_comma ss h none = absurd (false≢true (sym none))

ended_are : (kind : GroupKind) (one_comma : Bool) (ss : Segs) (end : List (List ℕ)) → HasShape kind ss one_comma → (c : Bool) → has_commas kind one_comma (count ss) ≡ c → ended_lexemes c ss ++ comment_lexemes end ≡ entries_lexemes (written_entries c (segments ss) end)
ended_are kind one_comma ss end h true e = ended_true ss end
ended_are kind one_comma ss end h false e = ended_false ss end (few kind one_comma ss h e)

pub no_end : (end : List (List ℕ)) → is_filled end ≡ false → end ≡ []
no_end [] h = refl
no_end (text ∷ texts) h = absurd (false≢true (sym h))

pub bracket_written : (kind : GroupKind) (segs : Segs) (one_comma : Bool) (end : List (List ℕ)) → HasShape kind segs one_comma
    → item_lexemes (group kind segs one_comma end) ≡ lexeme Operator (opening kind) ∷ (entries_lexemes (written_entries (has_last_comma kind segs one_comma end) (segments segs) end) ++ lexeme Operator (closing kind) ∷ [])
bracket_written kind segs one_comma end h = ap (λ l. lexeme Operator (opening kind) ∷ l) (by (is_broken kind segs end (segs_hold segs)) refl)
  where
    by : (b : Bool) → is_broken kind segs end (segs_hold segs) ≡ b
        → (if b then ended_lexemes (has_commas kind one_comma (count segs)) segs ++ (comment_lexemes end ++ lexeme Operator (closing kind) ∷ []) else separated_lexemes true segs ++ (comma_lexemes one_comma ++ lexeme Operator (closing kind) ∷ []))
        ≡ entries_lexemes (written_entries (if b then has_commas kind one_comma (count segs) else one_comma) (segments segs) end) ++ lexeme Operator (closing kind) ∷ []
    by true e =
        sym (append_assoc (ended_lexemes (has_commas kind one_comma (count segs)) segs) (comment_lexemes end) (lexeme Operator (closing kind) ∷ []))
        ∙ ap (λ l. l ++ lexeme Operator (closing kind) ∷ []) (ended_are kind one_comma segs end h (has_commas kind one_comma (count segs)) refl)
    by false e =
        let p = or_parts (is_filled end || have_comments segs || breaks_by_count kind (count segs)) (nat_le 2 (count segs) && segs_hold segs) e in
        let q = or_parts (is_filled end || have_comments segs) (breaks_by_count kind (count segs)) p.0 in
        let r = or_parts (is_filled end) (have_comments segs) q.0 in
        sym (append_assoc (separated_lexemes true segs) (comma_lexemes one_comma) (lexeme Operator (closing kind) ∷ []))
        ∙ ap (λ l. l ++ lexeme Operator (closing kind) ∷ []) (separated_are segs one_comma r.1 (λ is. (h.comma is).1) ∙ ap (λ ts. entries_lexemes (written_entries one_comma (segments segs) ts)) (sym (no_end end r.0)))

segments_count : (ss : Segs) → length (segments ss) ≡ count ss
segments_count no_segs = refl
segments_count (seg before nodes suffix ss) = ap suc (segments_count ss)

some_filled : (ss : Segs) → count ss ≡ 1 → is_filled (segments ss) ≡ true
some_filled no_segs e = absurd (none_is_not_one e)
some_filled (seg before nodes suffix ss) e = refl

and_false : (x y : Bool) → y ≡ false → (x && y) ≡ false
and_false true y h = h
and_false false y h = refl

paren_comma : (b : Bool) (ss : Segs) → count ss ≡ 1 → (is_paren Paren && (length (segments ss) == 1) && (last_comma b Paren ss true && is_filled (segments ss))) ≡ true
paren_comma b ss e = both (length (segments ss) == 1) (last_comma b Paren ss true && is_filled (segments ss)) (ap (λ n. n == 1) (segments_count ss ∙ e)) (both (last_comma b Paren ss true) (is_filled (segments ss)) (last b) (some_filled ss e))
  where
    last : (b : Bool) → last_comma b Paren ss true ≡ true
    last true = refl
    last false = refl

paren_plain : (b : Bool) (ss : Segs) → (is_paren Paren && (length (segments ss) == 1) && (last_comma b Paren ss false && is_filled (segments ss))) ≡ false
paren_plain b ss = elim (cases_Bool (length (segments ss) == 1)) [
  | inr miss ↦ rw miss refl
  | inl hit ↦
      let e : count ss ≡ 1 = sym (segments_count ss) ∙ eqb-true (length (segments ss)) 1 hit in
      and_false (length (segments ss) == 1) (last_comma b Paren ss false && is_filled (segments ss)) (front_false (last_comma b Paren ss false) (is_filled (segments ss)) (last e b))
]
  where
    front_false : (x y : Bool) → x ≡ false → (x && y) ≡ false
    front_false true y h = absurd (false≢true (sym h))
    front_false false y h = refl

    last : count ss ≡ 1 → (b : Bool) → last_comma b Paren ss false ≡ false
    last e true = ap (nat_le 2) e
    last e false = refl

-- on lines or in place
pub comma_read_by : (b : Bool) (kind : GroupKind) (segs : Segs) (one_comma : Bool) → HasShape kind segs one_comma → (is_paren kind && (length (segments segs) == 1) && (last_comma b kind segs one_comma && is_filled (segments segs))) ≡ one_comma
comma_read_by b kind segs true h =
    let p = h.comma refl in
    subst (λ k. (is_paren k && (length (segments segs) == 1) && (last_comma b k segs true && is_filled (segments segs))) ≡ true) (sym p.0) (paren_comma b segs p.1)
comma_read_by b Paren segs false h = paren_plain b segs
comma_read_by b _ segs false h = refl

pub comma_read : (kind : GroupKind) (segs : Segs) (one_comma : Bool) (end : List (List ℕ)) → HasShape kind segs one_comma → (is_paren kind && (length (segments segs) == 1) && (has_last_comma kind segs one_comma end && is_filled (segments segs))) ≡ one_comma
comma_read kind segs one_comma end h = comma_read_by (is_broken kind segs end (segs_hold segs)) kind segs one_comma h
