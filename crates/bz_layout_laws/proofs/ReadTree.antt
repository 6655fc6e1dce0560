-- Nodes and segments are read back, by induction over the tree.
use Rattle.std.proofs.Common.{◌≡◌, ℕ, ◌==◌, ◌&&◌, ◌||◌, List, [], ◌∷◌, ◌++◌, length, map, Bool, true, false, Option, Some, None, refl, sym, ap, subst, ◌∙◌, append_assoc, arith}
use Rattle.std.specs.Prelude.{nat_le, suc}
use Rattle.std.proofs.lemmas.Bool.{false≢true}
use Rattle.std.proofs.lemmas.Bool.Decides.{nat_tests}
use Rattle.bz_token.specs.declared.token.Kind.TheVariants.{Operator}
use Rattle.bz_tree.specs.declared.tree.GroupKind.{GroupKind}
use Rattle.bz_tree.specs.declared.tree.GroupKind.TheVariants.{Index, ListComp, DictComp}
use Rattle.bz_tree.specs.declared.tree.kinds.Preceding.{Preceding}
use Rattle.bz_tree.specs.declared.tree.kinds.Preceding.TheVariants.{Other}
use Rattle.bz_tree.specs.Brackets.{is_paren}
use Rattle.bz_tree.specs.Kinds.{is_one, group_kind, after_item}
use Rattle.bz_tree.specs.Cells.{Entry, a_node}
use Rattle.bz_tree.specs.Tree.{Item, leaf, group, Items, no_items, item, Segs, no_segs, seg, list_of, segments}
use Rattle.bz_layout_laws.specs.Written.{own_lines, suffix_entry, written_entries}
use Rattle.bz_layout.specs.declared.spacing.Edge.{Edge}
use Rattle.bz_layout.specs.declared.spacing.Edge.TheVariants.{Start}
use Rattle.bz_layout.specs.Walked.{count, is_broken, segs_hold, edge_after, closing}
use Rattle.bz_layout.specs.Layout.{has_commas}
use Rattle.bz_layout_laws.specs.Legible.{is_leaf_mark, are_some, IsLegibleItem, AreLegible, AreLegibleSegs}
use Rattle.bz_layout_laws.specs.FreeLayout.{Choice, breaks_by, inside, following, text_of, item_spelled_by, items_spelled_by, segs_spelled_by}
use Rattle.bz_layout_laws.specs.Lexemes.{Lexeme, lexeme, comment_lexemes, suffix_lexemes, comma_lexemes}
use Rattle.bz_layout_laws.specs.Inside.{HasShape}
use Rattle.bz_layout_laws.specs.Parsed.{is_comma_mark, is_comma, HasKind, HaveKinds, SegsHaveKinds}
use Rattle.bz_layout_laws.proofs.FreeLexemes.{last_comma, item_lexemes_by, items_lexemes_by, segs_lexemes_by}
use Rattle.bz_layout_laws.proofs.FreeSpelled.{have_for_by, length_by, filled_by}
use Rattle.bz_layout_laws.proofs.Written.{comma_entry, segment_entries, too_many, comma_read_by}
use Rattle.bz_layout_laws.proofs.TextOf.{mark_is, after_is}
use Rattle.bz_layout_laws.proofs.Taken.{begins_beside}
use Rattle.bz_layout_laws.proofs.ReadSteps.{Reads, read_nothing, read_comment, read_comma, read_leaf}
use Rattle.bz_layout_laws.proofs.SameInside.{have_nodes}
use Rattle.bz_layout_laws.proofs.ReadGroup.{read_group}
use Rattle.bz_token.specs.Common.{is_filled}

-- comments on lines of their own
pub read_comments : (one : Bool) (b : Preceding) (texts : List (List ℕ)) (ls : List Lexeme) (es : List Entry) (tail : List Lexeme) → Reads one b ls es tail → Reads one b (comment_lexemes texts ++ ls) (own_lines texts ++ es) tail
read_comments one b [] ls es tail next = next
read_comments one b (text ∷ texts) ls es tail next = read_comment one b false text (comment_lexemes texts ++ ls) (own_lines texts ++ es) tail (read_comments one b texts ls es tail next)

pub read_end : (one : Bool) (b : Preceding) (end : List (List ℕ)) (tail : List Lexeme) → Reads one b (comment_lexemes end) (own_lines end) tail
read_end one b [] tail = read_nothing one b tail
read_end one b (text ∷ texts) tail = read_comment one b false text (comment_lexemes texts) (own_lines texts) tail (read_end one b texts tail)

pub read_suffix : (one : Bool) (b : Preceding) (suffix : Option (List ℕ)) (ls : List Lexeme) (es : List Entry) (tail : List Lexeme) → Reads one b ls es tail → Reads one b (suffix_lexemes suffix ++ ls) (suffix_entry suffix ++ es) tail
read_suffix one b None ls es tail next = next
read_suffix one b (Some text) ls es tail next = read_comment one b true text ls es tail next

-- a comma after a segment, or none
read_comma_if : (one : Bool) (b : Preceding) (c : Bool) (ls : List Lexeme) (es : List Entry) (tail : List Lexeme) → (c ≡ true → one ≡ false) → ((p : Preceding) → (c ≡ true → p ≡ Other) → Reads one p ls es tail)
    → Reads one b (comma_lexemes c ++ ls) (comma_entry c ++ es) tail
read_comma_if one b false ls es tail many next = next b (λ e. absurd (false≢true e))
read_comma_if false b true ls es tail many next = read_comma b ls es tail (next Other (λ e. refl))
read_comma_if true b true ls es tail many next = absurd (false≢true (sym (many refl)))

-- segments and end comments, with their strings as they are spelled
abbrev SegsRead : Bool → Preceding → Choice → Bool → Segs → List (List ℕ) → List Lexeme → Type 0
SegsRead one b c trailing ss end tail = Reads one b (segs_lexemes_by c trailing ss end) (written_entries trailing (segments (segs_spelled_by c ss)) end) tail

-- after the last segment nothing hangs on what stands before
later : (one : Bool) (p : Preceding) (c : Choice) (trailing : Bool) (ss : Segs) (end : List (List ℕ)) (tail : List Lexeme) → ((trailing || is_filled (segments ss)) ≡ true → p ≡ Other) → SegsRead one Other c trailing ss end tail → SegsRead one p c trailing ss end tail
later one p c trailing no_segs end tail is next = read_end one p end tail
later one p c true (seg before nodes suffix ss) end tail is next = subst (λ q. SegsRead one q c true (seg before nodes suffix ss) end tail) (sym (is refl)) next
later one p c false (seg before nodes suffix ss) end tail is next = subst (λ q. SegsRead one q c false (seg before nodes suffix ss) end tail) (sym (is refl)) next

-- no comment of a bracket stands on the line of the opening bracket
comments_begin : (texts : List (List ℕ)) (ls : List Lexeme) → begins_beside ls ≡ false → begins_beside (comment_lexemes texts ++ ls) ≡ false
comments_begin [] ls h = h
comments_begin (text ∷ texts) ls h = refl

nodes_begin : (c : Choice) (xs : Items) (ls : List Lexeme) → are_some xs ≡ true → begins_beside (items_lexemes_by c xs ++ ls) ≡ false
nodes_begin c no_items ls h = absurd (false≢true h)
nodes_begin c (item (leaf kind text) xs) ls h = refl
nodes_begin c (item (group kind segs one_comma end) xs) ls h = refl

pub segs_begin : (c : Choice) (kind : GroupKind) (trailing : Bool) (ss : Segs) (end : List (List ℕ)) (ls : List Lexeme) → AreLegibleSegs kind ss → begins_beside ls ≡ false → begins_beside (segs_lexemes_by c trailing ss end ++ ls) ≡ false
segs_begin c kind trailing no_segs end ls h none = comments_begin end ls none
segs_begin c kind trailing (seg before nodes suffix ss) end ls h none =
    let own_nodes = items_lexemes_by (inside c) nodes in
    let rest = comma_lexemes (trailing || is_filled (segments ss)) ++ (suffix_lexemes suffix ++ segs_lexemes_by (following c) trailing ss end) in
    ap begins_beside (append_assoc (comment_lexemes before) (own_nodes ++ rest) ls ∙ ap (λ l. comment_lexemes before ++ l) (append_assoc own_nodes rest ls))
    ∙ comments_begin before (own_nodes ++ (rest ++ ls)) (nodes_begin (inside c) nodes (rest ++ ls) h.1)

-- a bracket of one segment has no comma after it
pub record Few (one trailing : Bool) (ss : Segs) : Type 0 where
  pub none : one ≡ true → (trailing ≡ false) × (nat_le (count ss) 1 ≡ true)

no_commas : (kind : GroupKind) (one_comma : Bool) (n : ℕ) → is_one kind ≡ true → has_commas kind one_comma n ≡ false
no_commas ListComp one_comma n h = refl
no_commas DictComp one_comma n h = refl
no_commas Index one_comma n h = refl
no_commas _ one_comma n h = absurd (false≢true h)

no_one_comma : (kind : GroupKind) (segs : Segs) (one_comma : Bool) → HasShape kind segs one_comma → is_one kind ≡ true → one_comma ≡ false
no_one_comma kind segs false h one = refl
no_one_comma kind segs true h one = sym one ∙ ap is_one (h.comma refl).0

pub few_segs : (b : Bool) (kind : GroupKind) (segs : Segs) (one_comma : Bool) → HasShape kind segs one_comma → Few (is_one kind) (last_comma b kind segs one_comma) segs
few_segs b kind segs one_comma h = record { none = λ one. (by one b, h.one one) }
  where
    by : is_one kind ≡ true → (b : Bool) → last_comma b kind segs one_comma ≡ false
    by one true = no_commas kind one_comma (count segs) one
    by one false = no_one_comma kind segs one_comma h one

-- the comma of `(x,)`
pub comma_by : (c : Choice) (b : Bool) (kind : GroupKind) (segs : Segs) (one_comma : Bool) → HasShape kind segs one_comma
    → (is_paren kind && (length (segments (segs_spelled_by c segs)) == 1) && (last_comma b kind segs one_comma && is_filled (segments (segs_spelled_by c segs)))) ≡ one_comma
comma_by c b kind segs one_comma h = (λ i. is_paren kind && (length_by c segs i == 1) && (last_comma b kind segs one_comma && filled_by c segs i)) ∙ comma_read_by b kind segs one_comma h

few_later : (one trailing : Bool) (before : List (List ℕ)) (nodes : Items) (suffix : Option (List ℕ)) (ss : Segs) → Few one trailing (seg before nodes suffix ss) → Few one trailing ss
few_later one trailing before nodes suffix ss few = record { none = λ is. ((few.none is).0, fewer (count ss) (few.none is).1) }
  where
    fewer : (n : ℕ) → nat_le (suc n) 1 ≡ true → nat_le n 1 ≡ true
    fewer n h = grind (arith, nat_tests)

-- where a comma stands there are several segments
is_many : (one trailing : Bool) (before : List (List ℕ)) (nodes : Items) (suffix : Option (List ℕ)) (ss : Segs) → Few one trailing (seg before nodes suffix ss) → (trailing || is_filled (segments ss)) ≡ true → one ≡ false
is_many false trailing before nodes suffix ss few h = refl
is_many true true before nodes suffix ss few h = (few.none refl).0
is_many true false before nodes suffix no_segs few h = absurd (false≢true h)
is_many true false before nodes suffix (seg b n s ss) few h = absurd (too_many (count ss) (few.none refl).1)

mutual
  pub item_reads : (one : Bool) (b : Preceding) (c : Choice) (x : Item) (ls : List Lexeme) (es : List Entry) (tail : List Lexeme) → IsLegibleItem x → (is_comma x ≡ true → one ≡ true) → HasKind b x → Reads one (after_item x) ls es tail
      → Reads one b (item_lexemes_by c x ++ ls) (a_node (item_spelled_by c x) ∷ es) tail
  item_reads one b c (leaf kind text) ls es tail legible commas kinds next =
      read_leaf one b kind (text_of c kind text) ls es tail (ap is_leaf_mark (mark_is c kind text) ∙ legible.1) (λ is. commas (ap is_comma_mark (sym (mark_is c kind text)) ∙ is))
      (subst (λ p. Reads one p ls es tail) (sym (after_is c kind text)) next)
  item_reads one b c (group kind segs one_comma end) ls es tail legible commas kinds next =
      let broken = breaks_by c (is_broken kind segs end (segs_hold segs)) in
      let trailing = last_comma broken kind segs one_comma in
      read_group one b kind (segs_spelled_by (inside c) segs) one_comma end trailing (segs_lexemes_by (inside c) trailing segs end) ls es tail kinds.0 (kinds.1 ∙ ap (group_kind kinds.0 b) (sym (have_for_by (inside c) segs)))
      (have_nodes (inside c) kind segs legible.0) (comma_by (inside c) broken kind segs one_comma kinds.2)
      (λ after. segs_reads (is_one kind) kind (inside c) trailing segs end after legible.0 kinds.3 (few_segs broken kind segs one_comma kinds.2))
      (λ after. segs_begin (inside c) kind trailing segs end (lexeme Operator (closing kind) ∷ after) legible.0 refl) next

  items_reads : (one : Bool) (b : Preceding) (c : Choice) (within : Option GroupKind) (left : Edge) (xs : Items) (ls : List Lexeme) (es : List Entry) (tail : List Lexeme) → AreLegible within left xs → HaveKinds one b xs → ((p : Preceding) → Reads one p ls es tail)
      → Reads one b (items_lexemes_by c xs ++ ls) (map a_node (list_of (items_spelled_by c xs)) ++ es) tail
  items_reads one b c within left no_items ls es tail legible kinds next = next b
  items_reads one b c within left (item x xs) ls es tail legible kinds next =
      let others = items_lexemes_by (following c) xs in
      let entries = map a_node (list_of (items_spelled_by (following c) xs)) ++ es in
      subst (λ l. Reads one b l (a_node (item_spelled_by (inside c) x) ∷ entries) tail) (sym (append_assoc (item_lexemes_by (inside c) x) others ls))
      (item_reads one b (inside c) x (others ++ ls) entries tail legible.1 kinds.0 kinds.1
      (items_reads one (after_item x) (following c) within (edge_after within left x) xs ls es tail legible.2 kinds.2 next))

  pub segs_reads : (one : Bool) (kind : GroupKind) (c : Choice) (trailing : Bool) (ss : Segs) (end : List (List ℕ)) (tail : List Lexeme) → AreLegibleSegs kind ss → SegsHaveKinds one ss → Few one trailing ss → SegsRead one Other c trailing ss end tail
  segs_reads one kind c trailing no_segs end tail legible kinds few = read_end one Other end tail
  segs_reads one kind c trailing (seg before nodes suffix ss) end tail legible kinds few =
      let comma = trailing || is_filled (segments ss) in
      let own_nodes = items_spelled_by (inside c) nodes in
      let ls = segs_lexemes_by (following c) trailing ss end in
      let es = written_entries trailing (segments (segs_spelled_by (following c) ss)) end in
      let rest = segs_reads one kind (following c) trailing ss end tail legible.4 kinds.1 (few_later one trailing before nodes suffix ss few) in
      subst (λ f. Reads one Other (segs_lexemes_by c trailing (seg before nodes suffix ss) end) (segment_entries before own_nodes (trailing || f) suffix es) tail) (sym (filled_by (following c) ss))
      (read_comments one Other before (items_lexemes_by (inside c) nodes ++ (comma_lexemes comma ++ (suffix_lexemes suffix ++ ls))) (map a_node (list_of own_nodes) ++ (comma_entry comma ++ (suffix_entry suffix ++ es))) tail
      (items_reads one Other (inside c) (Some kind) Start nodes (comma_lexemes comma ++ (suffix_lexemes suffix ++ ls)) (comma_entry comma ++ (suffix_entry suffix ++ es)) tail legible.2 kinds.0
      (λ b. read_comma_if one b comma (suffix_lexemes suffix ++ ls) (suffix_entry suffix ++ es) tail (is_many one trailing before nodes suffix ss few)
      (λ p is. read_suffix one p suffix ls es tail (later one p (following c) trailing ss end tail is rest)))))
