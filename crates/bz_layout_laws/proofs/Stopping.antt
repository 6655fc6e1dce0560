-- What follows a node ends it: the first byte of the next node after its gap.
use Rattle.std.proofs.Common.{◌≡◌, ℕ, ◌&&◌, ◌||◌, List, [], ◌∷◌, ◌++◌, Bool, true, false, not, Option, refl, sym, ap, ◌∙◌, inl, inr}
use Rattle.bz_layout.specs.private.RowLayout.{is_start}
use Rattle.std.specs.Prelude.{codes, bytes_eq, if◌then◌else◌}
use Rattle.std.proofs.lemmas.Bool.{cases_Bool, and_parts, or_cases, not-true, false≢true, eqb-true}
use Rattle.bz_token.specs.declared.token.Kind.{Kind}
use Rattle.bz_token.specs.declared.token.Kind.TheVariants.{String, Operator as OperatorToken, Newline, Comment, Kept}
use Rattle.bz_token.specs.Strings.{is_quote}
use Rattle.bz_token.specs.Lexical.{is_text, is_word_byte}
use Rattle.bz_token.specs.Ends.{is_comment_kind, stops_at, ends}
use Rattle.bz_token.proofs.Classes.{same_bytes, empty_no_text}
use Rattle.bz_token.proofs.Stops.{operator_stops, plain_stops}
use Rattle.bz_layout_laws.proofs.Readable.{stopped_at_ends}
use Rattle.bz_tree.specs.declared.tree.GroupKind.{GroupKind}
use Rattle.bz_tree.specs.declared.tree.GroupKind.TheVariants.{Call}
use Rattle.bz_tree.specs.Tree.{Item, leaf, group}
use Rattle.bz_layout.specs.declared.spacing.Edge.{Edge}
use Rattle.bz_layout.specs.declared.spacing.Edge.TheVariants.{Start, Joined, Dotted, Operator, Operand}
use Rattle.bz_layout.specs.declared.spacing.Gap.{Gap}
use Rattle.bz_layout.specs.declared.spacing.Gap.TheVariants.{Closed, Space}
use Rattle.bz_layout.specs.Respell.{is_single, respell}
use Rattle.bz_layout.specs.Walked.{no_space_before, edge_after, no_space_after, gap_before, is_prefix, begins_argument, is_index_colon, opening}
use Rattle.bz_layout.specs.Pieces.{Piece, bytes_of}
use Rattle.bz_layout_laws.specs.FreeLayout.{Choice, own, free, text_of, item_by}
use Rattle.bz_layout_laws.specs.Legible.{is_later, may_follow, IsLegibleItem}
use Rattle.bz_layout_laws.proofs.Respelled.{respelled_text}
use Rattle.bz_layout_laws.proofs.TextOf.{text_is}
use Rattle.bz_token.specs.Common.{begins, is_newline}

-- the text of pieces and what follows it
abbrev pub before : List Piece → List ℕ → List ℕ
before ps rest = bytes_of ps ++ rest

-- a first byte that ends every text but a comment's
abbrev pub stops_all : List ℕ → Bool
stops_all [] = true
stops_all (b ∷ bs) = not (is_word_byte b) && not (is_quote b) && not (is_later b)

-- what may stand directly after a node that leaves this edge
abbrev pub may_stand : Edge → List ℕ → Bool
may_stand e bytes = if no_space_after e then not (begins is_later bytes) else stops_all bytes

pub stops_may : (e : Edge) (bytes : List ℕ) → stops_all bytes ≡ true → may_stand e bytes ≡ true
stops_may Start bytes h = h
stops_may Operator bytes h = h
stops_may Operand bytes h = h
stops_may Joined [] h = refl
stops_may Joined (b ∷ bs) h = (and_parts (not (is_word_byte b) && not (is_quote b)) (not (is_later b)) h).1
stops_may Dotted [] h = refl
stops_may Dotted (b ∷ bs) h = (and_parts (not (is_word_byte b) && not (is_quote b)) (not (is_later b)) h).1

pub newline_stops_all : (bytes : List ℕ) → begins is_newline bytes ≡ true → stops_all bytes ≡ true
newline_stops_all [] h = refl
newline_stops_all (b ∷ bs) h = let same : b ≡ 10 = eqb-true b 10 h in rw same refl

-- a text but a comment's, and such a byte after it
stopped_plain : (kind : Kind) (text after : List ℕ) → is_text kind text ≡ true → is_comment_kind kind ≡ false → stops_all after ≡ true → stops_at kind text after ≡ true
stopped_plain kind text [] is comment h = refl
stopped_plain kind text (b ∷ bs) is comment h =
    let p = and_parts (not (is_word_byte b) && not (is_quote b)) (not (is_later b)) h in
    let q = and_parts (not (is_word_byte b)) (not (is_quote b)) p.0 in
    plain_stops kind text b is comment (not-true _ q.0) (not-true _ q.1) (not-true _ p.1)

pub ended_plain : (kind : Kind) (text after : List ℕ) → is_text kind text ≡ true → is_comment_kind kind ≡ false → stops_all after ≡ true → ends kind text after ≡ true
ended_plain kind text after is comment h = stopped_at_ends kind text after (stopped_plain kind text after is comment h)

-- an operator, and no byte after it that lengthens one
ended_operator : (text after : List ℕ) → is_text OperatorToken text ≡ true → not (begins is_later after) ≡ true → ends OperatorToken text after ≡ true
ended_operator text [] is h = refl
ended_operator text (b ∷ bs) is h = operator_stops text b is (not-true _ h)

operator_by_edge : (e : Edge) (text after : List ℕ) → is_text OperatorToken text ≡ true → may_stand e after ≡ true → ends OperatorToken text after ≡ true
operator_by_edge Joined text after is h = ended_operator text after is h
operator_by_edge Dotted text after is h = ended_operator text after is h
operator_by_edge _ text after is h = ended_plain OperatorToken text after is refl h

-- a leaf is ended by what may stand after it
as_it_is : (within : Option GroupKind) (left : Edge) (kind : Kind) (text : List ℕ) (after : List ℕ) → IsLegibleItem (leaf kind text) → may_stand (edge_after within left (leaf kind text)) after ≡ true → ends kind text after ≡ true
as_it_is within left OperatorToken text after h stands = operator_by_edge (edge_after within left (leaf OperatorToken text)) text after h.0 stands
as_it_is within left Newline text after h stands = absurd (false≢true h.1)
as_it_is within left Comment text after h stands = absurd (false≢true h.1)
as_it_is within left Kept text after h stands = absurd (false≢true h.0)
as_it_is within left kind text after h stands = ended_plain kind text after h.0 refl stands

pub leaf_ended : (c : Choice) (within : Option GroupKind) (left : Edge) (kind : Kind) (text : List ℕ) (after : List ℕ) → IsLegibleItem (leaf kind text) → may_stand (edge_after within left (leaf kind text)) after ≡ true
    → ends kind (text_of c kind text) after ≡ true
leaf_ended (free breaks inner others) within left kind text after h stands = as_it_is within left kind text after h stands
leaf_ended own within left String text after h stands = ended_plain String (respell String text) after (respelled_text String text h.0) refl stands
leaf_ended own within left kind text after h stands = as_it_is within left kind text after h stands

-- what is after a node is no start
pub edge_started : (within : Option GroupKind) (left : Edge) (x : Item) → is_start (edge_after within left x) ≡ false
edge_started within left (leaf OperatorToken text) = by (bytes_eq text (codes ".")) (is_prefix left text || begins_argument within left text || is_index_colon within text)
  where
    by : (a b : Bool) → is_start (if a then Dotted else (if b then Joined else Operator)) ≡ false
    by true b = refl
    by false true = refl
    by false false = refl
edge_started within left (leaf _ text) = refl
edge_started within left (group kind segs one_comma end) = refl

respelled_begins : (kind : Kind) (text : List ℕ) → begins is_later text ≡ false → begins is_later (respell kind text) ≡ false
respelled_begins String text h = elim (cases_Bool (is_single text)) [ inl hit ↦ rw hit refl | inr miss ↦ rw miss h ]
respelled_begins _ text h = h

text_begins : (c : Choice) (kind : Kind) (text : List ℕ) → begins is_later text ≡ false → begins is_later (text_of c kind text) ≡ false
text_begins own kind text h = respelled_begins kind text h
text_begins (free breaks inner others) kind text h = h

-- directly after what holds on to it
leaf_held : (c : Choice) (kind : Kind) (text more rest : List ℕ) → is_text kind text ≡ true → not (begins is_later text) ≡ true → not (begins is_later ((text_of c kind text ++ more) ++ rest)) ≡ true
leaf_held c kind text more rest is h =
    ap not (begins_twice (text_of c kind text) (text_is c kind text is) ∙ text_begins c kind text (not-true _ h))
  where
    begins_twice : (t : List ℕ) → is_text kind t ≡ true → begins is_later ((t ++ more) ++ rest) ≡ begins is_later t
    begins_twice [] is = absurd (empty_no_text kind is)
    begins_twice (b ∷ bs) is = refl

group_held : (kind : GroupKind) (more rest : List ℕ) → not (begins is_later ((opening kind ++ more) ++ rest)) ≡ true
group_held Call more rest = refl
group_held _ more rest = refl

pub opening_stops : (kind : GroupKind) (more rest : List ℕ) → stops_all ((opening kind ++ more) ++ rest) ≡ true
opening_stops Call more rest = refl
opening_stops _ more rest = refl

-- a leaf that closes up begins with a mark
mark_stops_all : (text more rest : List ℕ) → (bytes_eq text (codes ".") || bytes_eq text (codes ",") || bytes_eq text (codes ":")) ≡ true → stops_all ((text ++ more) ++ rest) ≡ true
mark_stops_all text more rest h = elim (or_cases (bytes_eq text (codes ".") || bytes_eq text (codes ",")) (bytes_eq text (codes ":")) h) [
  | inr colon ↦ at (codes ":") colon refl
  | inl two ↦ elim (or_cases (bytes_eq text (codes ".")) (bytes_eq text (codes ",")) two) [ inl point ↦ at (codes ".") point refl | inr comma ↦ at (codes ",") comma refl ]
]
  where
    at : (t : List ℕ) → bytes_eq text t ≡ true → stops_all ((t ++ more) ++ rest) ≡ true → stops_all ((text ++ more) ++ rest) ≡ true
    at t is h = ap (λ x. stops_all ((x ++ more) ++ rest)) (same_bytes text t is) ∙ h

closed_up : (c : Choice) (kind : Kind) (text : List ℕ) (more rest : List ℕ) → no_space_before (leaf kind text) ≡ true → stops_all ((text_of c kind text ++ more) ++ rest) ≡ true
closed_up own OperatorToken text more rest h = mark_stops_all text more rest h
closed_up (free breaks inner others) OperatorToken text more rest h = mark_stops_all text more rest h
closed_up c _ text more rest h = absurd (false≢true h)

abbrev spaced : Bool → Gap
spaced c = if c then Closed else Space

-- a node after its gap, where neither holds on
spaced_stands : (c : Choice) (level : ℕ) (x : Item) (more : List Piece) (rest : List ℕ) (closes : Bool) → no_space_before x ≡ closes → stops_all (before (item_by c level (spaced closes) x ++ more) rest) ≡ true
spaced_stands c level (leaf kind text) more rest false e = refl
spaced_stands c level (leaf kind text) more rest true e = closed_up c kind text (bytes_of more) rest e
spaced_stands c level (group kind segs one_comma end) more rest false e = refl
spaced_stands c level (group kind segs one_comma end) more rest true e = opening_stops kind _ rest

held_stands : (c : Choice) (level : ℕ) (x : Item) (more : List Piece) (rest : List ℕ) → IsLegibleItem x → may_follow Joined x ≡ true → not (begins is_later (before (item_by c level Closed x ++ more) rest)) ≡ true
held_stands c level (leaf kind text) more rest h follows = leaf_held c kind text (bytes_of more) rest h.0 follows
held_stands c level (group kind segs one_comma end) more rest h follows = group_held kind _ rest

-- the next node after its gap may stand there
pub next_stands : (c : Choice) (level : ℕ) (first : Gap) (e : Edge) (x : Item) (more : List Piece) (rest : List ℕ) → is_start e ≡ false → may_follow e x ≡ true → IsLegibleItem x
    → may_stand e (before (item_by c level (gap_before first e x) x ++ more) rest) ≡ true
next_stands c level first Start x more rest started follows h = absurd (false≢true (sym started))
next_stands c level first Joined x more rest started follows h = held_stands c level x more rest h follows
next_stands c level first Dotted x more rest started follows h = held_stands c level x more rest h follows
next_stands c level first Operator x more rest started follows h = spaced_stands c level x more rest (no_space_before x) refl
next_stands c level first Operand x more rest started follows h = spaced_stands c level x more rest (no_space_before x) refl
