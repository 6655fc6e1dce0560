-- Where a comment line goes that is put above an argument.
use Rattle.std.proofs.Common.{◌≡◌, ◌-◌, ◌==◌, ℕ, List, [], ◌∷◌, ◌++◌, Bool, true, false, ◌||◌, not, if◌then◌else◌, length, nat_eq, take, drop, refl, sym, ap, ◌∙◌, append_assoc, append-nil, subst, arith}
use Rattle.std.proofs.Math.Seq.{drop-append_seam}
use Rattle.std.proofs.lemmas.Bool.{and_parts, eqb-true, false≢true}
use Rattle.std.proofs.lemmas.List.{append_cancel_left, length-append}
use Rattle.std.specs.List.{list_any}
use Rattle.std.specs.Prelude.{codes, Option, Some, None, option_to_list}
use Rattle.bz_token.specs.Common.{is_empty, is_newline}
use Rattle.bz_token.specs.Lexical.{is_comment, is_name, is_text, is_word_byte}
use Rattle.bz_token.specs.declared.token.Kind.TheVariants.{Identifier, Operator}
use Rattle.bz_tree.specs.declared.tree.GroupKind.TheVariants.{RuleCall}
use Rattle.bz_tree.specs.Tree.{Item, Segment, Statement, items_of, leaf, segs_of, is_operator_item}
use Rattle.bz_layout.specs.declared.broken.Style.TheVariants.{Broken}
use Rattle.bz_layout.specs.declared.spacing.Edge.TheVariants.{Start}
use Rattle.bz_layout.specs.declared.spacing.Gap.TheVariants.{Closed, Line}
use Rattle.bz_layout.specs.Layout.{layout_text}
use Rattle.bz_layout.specs.Walked.{items_pieces}
use Rattle.bz_layout.specs.Pieces.{Piece, piece, bytes_of, comments, indent, suffix_piece}
use Rattle.bz_layout.proofs.Pieces.{bytes_append}
use Rattle.bz_layout_laws.specs.Legible.{AreComments}
use Rattle.bz_layout_laws.specs.TextsOfKinds.{HaveTexts, SegsHaveTexts}
use Rattle.bz_attribute.specs.Effects.{has, with_args, with_comment}
use Rattle.bz_attribute.specs.RowPlaces.{IsLocal}
use Rattle.bz_attribute.specs.Rules.{Rule, first_named, ident_of, is_named, is_text as is_named_so, name_of, rule_of}
use Rattle.bz_attribute.proofs.Locals.{edit_local, is_first_named, kept_first}
use Rattle.bz_attribute.proofs.RuleNodes.{rule_nodes}
use Rattle.bz_canonical.specs.Canonical.{Between, HasPlace, argument_lines, first_args, rule_args}
use Rattle.bz_canonical.specs.Commented.{TakesComment, commented}
use Rattle.bz_canonical.specs.private.Segments.{AreNotesFront}
use Rattle.bz_canonical.proofs.Taken.{taken}

-- a comment begins with a number sign
pub begins_sign : (text : List ℕ) → is_comment text ≡ true → (rest : List ℕ) × (text ≡ 35 ∷ rest)
begins_sign [] h = absurd (false≢true h)
begins_sign (b ∷ bs) h = (bs, ap (λ x. x ∷ bs) (eqb-true b 35 (and_parts (b == 35) _ (and_parts _ _ h).0).0))

no_notes : (notes : List (List ℕ)) (line tail rest : List ℕ) (first : ℕ) → AreComments notes → line ≡ bytes_of (comments 1 notes) ++ tail → line ≡ 10 ∷ (indent 1 ++ first ∷ rest) → (first == 35) ≡ false → notes ≡ []
no_notes [] line tail rest first are is begins other = refl
no_notes (n ∷ ns) line tail rest first are is begins other =
    let sign = begins_sign n (and_parts (is_comment n) _ are).0 in
    let both : 10 ∷ (indent 1 ++ first ∷ rest) ≡ 10 ∷ (indent 1 ++ (35 ∷ ((sign.0 ++ bytes_of (comments 1 ns)) ++ tail))) = sym begins ∙ is ∙ ap (λ (t : List ℕ). 10 ∷ (indent 1 ++ ((t ++ bytes_of (comments 1 ns)) ++ tail))) sign.1 in
    let same : first ≡ 35 = cc in
    absurd (false≢true (sym other ∙ ap (λ b. b == 35) same))

-- and holds no newline
not_true : (b : Bool) → not b ≡ true → b ≡ false
not_true true h = absurd (false≢true h)
not_true false h = refl

pub one_line : (text : List ℕ) → is_comment text ≡ true → list_any is_newline text ≡ false
one_line text h = not_true (list_any is_newline text) (and_parts _ (not (list_any is_newline text)) (and_parts _ _ h).0).1

or_none : (a b : Bool) → (a || b) ≡ false → (a ≡ false) × (b ≡ false)
or_none true b none = absurd (false≢true (sym none))
or_none false b none = (refl, none)

pub line_same : (n m x y : List ℕ) → list_any is_newline n ≡ false → list_any is_newline m ≡ false → n ++ (10 ∷ x) ≡ m ++ (10 ∷ y) → n ≡ m
line_same [] [] x y hn hm is = refl
line_same [] (b ∷ m) x y hn hm is =
    let same : 10 ≡ b = cc in
    absurd (false≢true (sym (or_none (is_newline b) (list_any is_newline m) hm).0 ∙ ap is_newline (sym same)))
line_same (a ∷ n) [] x y hn hm is =
    let same : 10 ≡ a = cc in
    absurd (false≢true (sym (or_none (is_newline a) (list_any is_newline n) hn).0 ∙ ap is_newline (sym same)))
line_same (a ∷ n) (b ∷ m) x y hn hm is =
    let first : a ≡ b = cc in
    let rest : n ++ (10 ∷ x) ≡ m ++ (10 ∷ y) = cc in
    let same : n ≡ m = line_same n m x y (or_none (is_newline a) (list_any is_newline n) hn).1 (or_none (is_newline b) (list_any is_newline m) hm).1 rest in
    λ i. first i ∷ same i

begin_line : (ns : List (List ℕ)) (x rest : List ℕ) → x ≡ 10 ∷ rest → (more : List ℕ) × (bytes_of (comments 1 ns) ++ x ≡ 10 ∷ more)
begin_line [] x rest is = (rest, is)
begin_line (n ∷ ns) x rest is = (_, refl)

-- so what begins with comments and a line of another kind does so in one way
notes_same : (ns ms : List (List ℕ)) (x y xs ys : List ℕ) (f g : ℕ) → AreComments ns → AreComments ms → x ≡ 10 ∷ (indent 1 ++ f ∷ xs) → (f == 35) ≡ false → y ≡ 10 ∷ (indent 1 ++ g ∷ ys) → (g == 35) ≡ false
    → bytes_of (comments 1 ns) ++ x ≡ bytes_of (comments 1 ms) ++ y → ns ≡ ms
notes_same [] [] x y xs ys f g an am hx hf hy hg is = refl
notes_same [] (m ∷ ms) x y xs ys f g an am hx hf hy hg is = sym (no_notes (m ∷ ms) x y xs f am is hx hf)
notes_same (n ∷ ns) [] x y xs ys f g an am hx hf hy hg is = no_notes (n ∷ ns) y x ys g an (sym is) hy hg
notes_same (n ∷ ns) (m ∷ ms) x y xs ys f g an am hx hf hy hg is =
    let two = and_parts (is_comment n) _ an in
    let twice = and_parts (is_comment m) _ am in
    let N : List ℕ = bytes_of (comments 1 ns) in
    let M : List ℕ = bytes_of (comments 1 ms) in
    let whole : 10 ∷ (indent 1 ++ ((n ++ N) ++ x)) ≡ 10 ∷ (indent 1 ++ ((m ++ M) ++ y)) = is in
    let inner : (n ++ N) ++ x ≡ (m ++ M) ++ y = cc in
    let apart : n ++ (N ++ x) ≡ m ++ (M ++ y) = sym (append_assoc n N x) ∙ inner ∙ append_assoc m M y in
    let p = begin_line ns x (indent 1 ++ f ∷ xs) hx in
    let q = begin_line ms y (indent 1 ++ g ∷ ys) hy in
    let first : n ≡ m = line_same n m p.0 q.0 (one_line n two.0) (one_line m twice.0) (ap (λ (t : List ℕ). n ++ t) (sym p.1) ∙ apart ∙ ap (λ (t : List ℕ). m ++ t) q.1) in
    let rest : N ++ x ≡ M ++ y = append_cancel_left n (N ++ x) (M ++ y) (apart ∙ ap (λ (t : List ℕ). t ++ (M ++ y)) (sym first)) in
    let others : ns ≡ ms = notes_same ns ms x y xs ys f g two.1 twice.1 hx hf hy hg rest in
    λ i. first i ∷ others i

-- the line of an argument that has a name
no_sign : (f : ℕ) → is_word_byte f ≡ true → (f == 35) ≡ false
no_sign f word = by (f == 35) refl
  where
    by : (b : Bool) → (f == 35) ≡ b → b ≡ false
    by true is = absurd (false≢true (ap is_word_byte (sym (eqb-true f 35 is)) ∙ word))
    by false is = refl

word_first : (word : List ℕ) → is_text Identifier word ≡ true → (f : ℕ) × (rest : List ℕ) × (word ≡ f ∷ rest) × ((f == 35) ≡ false)
word_first [] h = absurd (false≢true h)
word_first (f ∷ rest) h = (f, rest, refl, no_sign f (and_parts (is_word_byte f) _ (and_parts _ _ (and_parts (is_name (f ∷ rest)) _ h).0).1).0)

ident_is : (x : Item) (word : List ℕ) → ident_of x ≡ Some word → x ≡ leaf Identifier word
ident_is (leaf Identifier text) word is = let same : text ≡ word = cc in ap (leaf Identifier) same
ident_is _ word is = absurd cc

named_is : (name : List ℕ) (o : Option (List ℕ)) → is_named_so name o ≡ true → (word : List ℕ) × (o ≡ Some word)
named_is name None h = absurd (false≢true h)
named_is name (Some word) h = (word, refl)

chosen : (b : Bool) (o : Option (List ℕ)) (word : List ℕ) → (if b then o else None) ≡ Some word → o ≡ Some word
chosen true o word is = is
chosen false o word is = absurd cc

name_line : (name : List ℕ) (nodes : List Item) (more : List Piece) → is_named_so name (name_of nodes) ≡ true → HaveTexts (items_of nodes)
    → (f : ℕ) × (rest : List ℕ) × (bytes_of (items_pieces Broken 1 (Some RuleCall) (Line 1) Start (items_of nodes) ++ more) ≡ 10 ∷ (indent 1 ++ f ∷ rest)) × ((f == 35) ≡ false)
name_line name [] more named have = absurd (false≢true named)
name_line name (x ∷ []) more named have = absurd (false≢true named)
name_line name (x ∷ y ∷ nodes) more named have =
    let word = named_is name (name_of (x ∷ y ∷ nodes)) named in
    let is : x ≡ leaf Identifier word.0 = ident_is x word.0 (chosen (is_operator_item (codes "=") y) (ident_of x) word.0 word.1) in
    let texts = subst (λ (z : Item). HaveTexts (items_of (z ∷ y ∷ nodes))) is have in
    let first = word_first word.0 texts.0.0 in (
      first.0,
      _,
      ap (λ (z : Item). bytes_of (items_pieces Broken 1 (Some RuleCall) (Line 1) Start (items_of (z ∷ y ∷ nodes)) ++ more)) is ∙ ap (λ (t : List ℕ). bytes_of (items_pieces Broken 1 (Some RuleCall) (Line 1) Start (items_of (leaf Identifier t ∷ y ∷ nodes)) ++ more)) first.2,
      first.3,
    )

comments_more : (notes : List (List ℕ)) (line : List ℕ) → bytes_of (comments 1 (notes ++ line ∷ [])) ≡ bytes_of (comments 1 notes) ++ (codes "\n    " ++ line)
comments_more [] line = append-nil (10 ∷ (indent 1 ++ line))
comments_more (n ∷ ns) line = ap (λ (t : List ℕ). (10 ∷ (indent 1 ++ n)) ++ t) (comments_more ns line) ∙ sym (append_assoc (10 ∷ (indent 1 ++ n)) (bytes_of (comments 1 ns)) (codes "\n    " ++ line))

-- what is written of an argument below its comments
abbrev below_pieces : Segment → List Piece
below_pieces a = items_pieces Broken 1 (Some RuleCall) (Line 1) Start (items_of a.nodes) ++ (piece Closed Operator (codes ",") ∷ (suffix_piece a.suffix ++ []))

lines_below : (a : Segment) (notes : List (List ℕ)) → argument_lines (record a { before = notes } ∷ []) ≡ bytes_of (comments 1 notes) ++ bytes_of (below_pieces a)
lines_below a notes = bytes_append (comments 1 notes) (below_pieces a)

-- an edit that leaves all arguments
as_is_local : (attr : List ℕ) → IsLocal attr (λ args. args)
as_is_local attr = record { absent = λ args none. sym (append-nil args); there = λ args a is. kept_first attr args a is }

as_is_same : (s : Statement) (r : Rule) → rule_of s.nodes ≡ Some r → with_args (λ args. args) s ≡ s
as_is_same s r is = rw is (ap (λ (nodes : List Item). record s { nodes = nodes }) (rule_nodes s.nodes r is))

left_of : (text front rest : List ℕ) → text ≡ front ++ rest → drop (length text - length rest) text ≡ rest
left_of text front rest is = ap (λ t. drop (length t - length rest) t) is ∙ ap (λ n. drop n (front ++ rest)) size ∙ drop-append_seam front rest
  where
    size : length (front ++ rest) - length rest ≡ length front
    size = omega (arith, length-append front rest)

pub some_lines : (text : List ℕ) → nat_eq (length text) 0 ≡ false → is_empty text ≡ false
some_lines [] some = absurd (false≢true (sym some))
some_lines (b ∷ text) some = refl

pub comment_taken : (depth : ℕ) (attr : List ℕ) (s : Statement) (b : Between) (written from line inner above below rest : List ℕ) (first : ℕ) (some : Bool) → is_empty b.lines ≡ false → from ≡ drop (length b.before) written
    → AreNotesFront 1 from line some → line ≡ 10 ∷ (indent 1 ++ inner) → inner ≡ first ∷ rest → (first == 35) ≡ false → above ≡ take (length written - length inner) written
    → below ≡ drop (length written - length line) written → layout_text s ≡ written → HasPlace depth attr s b → TakesComment attr s above below
comment_taken depth attr s b written from line inner above below rest first some filled from_is n line_is inner_is other above_is below_is laid place = by (first_named attr (rule_args (rule_of s.nodes))) refl
  where
    by : (o : Option Segment) → first_named attr (rule_args (rule_of s.nodes)) ≡ o → TakesComment attr s above below
    by None is = absurd (false≢true (sym filled ∙ place.none ∙ ap (λ o. is_empty (option_to_list o)) is))
    by (Some a) is =
        let first_is : first_args attr s ≡ a ∷ [] = ap option_to_list is in
        let named : is_named attr a ≡ true = is_first_named attr (rule_args (rule_of s.nodes)) a is in
        let texts = subst (λ xs. SegsHaveTexts (segs_of xs)) first_is place.texts in
        let C : List ℕ = bytes_of (comments 1 a.before) in
        let B : List ℕ = bytes_of (below_pieces a) in
        let begins = name_line attr a.nodes (piece Closed Operator (codes ",") ∷ (suffix_piece a.suffix ++ [])) named texts.2 in
        let some_first : is_empty (first_args attr s) ≡ false = ap is_empty first_is in
        let whole : written ≡ b.before ++ ((C ++ B) ++ b.after) = sym laid ∙ ap layout_text (sym (as_is_same s place.rule place.rule_is)) ∙ place.takes (λ args. args) (as_is_local attr) (λ none. absurd (false≢true (sym some_first ∙ none)))
        ∙ ap (λ xs. b.before ++ (argument_lines xs ++ b.after)) first_is ∙ ap (λ (t : List ℕ). b.before ++ (t ++ b.after)) (lines_below a a.before) in
        let there : from ≡ C ++ (B ++ b.after) = from_is ∙ ap (λ (t : List ℕ). drop (length b.before) t) whole ∙ drop-append_seam b.before ((C ++ B) ++ b.after) ∙ append_assoc C B b.after in
        let opens : B ++ b.after ≡ 10 ∷ (indent 1 ++ (begins.0 ∷ (begins.1 ++ b.after))) = ap (λ (t : List ℕ). t ++ b.after) begins.2 in
        let notes : n.notes ≡ a.before =
        notes_same n.notes a.before line (B ++ b.after) rest (begins.1 ++ b.after) first begins.0 n.are texts.0 (line_is ∙ ap (λ (t : List ℕ). 10 ∷ (indent 1 ++ t)) inner_is) other opens begins.3 (sym n.front ∙ there) in
        let at : line ≡ B ++ b.after = append_cancel_left C line (B ++ b.after) (ap (λ (ns : List (List ℕ)). bytes_of (comments 1 ns) ++ line) (sym notes) ∙ sym n.front ∙ there) in
        let up_to_line : written ≡ (b.before ++ C) ++ line = whole ∙ ap (λ (t : List ℕ). b.before ++ t) (append_assoc C B b.after) ∙ sym (append_assoc b.before C (B ++ b.after)) ∙ ap (λ (t : List ℕ). (b.before ++ C) ++ t) (sym at) in
        let up_to_name : written ≡ ((b.before ++ C) ++ codes "\n    ") ++ inner = up_to_line ∙ ap (λ (t : List ℕ). (b.before ++ C) ++ t) line_is ∙ sym (append_assoc (b.before ++ C) (codes "\n    ") inner) in
        let above_at : above ≡ (b.before ++ C) ++ codes "\n    " = above_is ∙ taken written ((b.before ++ C) ++ codes "\n    ") inner up_to_name in
        let below_at : below ≡ B ++ b.after = below_is ∙ left_of written (b.before ++ C) line up_to_line ∙ at in
        record {
          there = ap (has attr) first_is ∙ rw named refl;
          takes = λ new.
              let made : commented attr new (first_args attr s) ≡ with_comment new a ∷ [] = ap (commented attr new) first_is ∙ made_of new a named in
              place.takes (commented attr new) (edit_local attr (λ x. with_comment new x ∷ [])) (λ none. absurd (false≢true (sym (ap is_empty made) ∙ none)))
              ∙ ap (λ xs. b.before ++ (argument_lines xs ++ b.after)) made
              ∙ ap (λ (t : List ℕ). b.before ++ (t ++ b.after)) (lines_below a (a.before ++ new ∷ []) ∙ ap (λ (t : List ℕ). t ++ B) (comments_more a.before new))
              ∙ joined b.before C new B b.after ∙ (λ i. sym above_at i ++ (new ++ sym below_at i));
        }
      where
        made_of : (new : List ℕ) (a : Segment) → is_named attr a ≡ true → commented attr new (a ∷ []) ≡ with_comment new a ∷ []
        made_of new a named = rw named refl

        joined : (F C new B E : List ℕ) → F ++ (((C ++ (codes "\n    " ++ new)) ++ B) ++ E) ≡ ((F ++ C) ++ codes "\n    ") ++ (new ++ (B ++ E))
        joined F C new B E = simp append_assoc
