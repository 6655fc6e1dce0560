-- Lists of strings by what was read of them.
use Rattle.std.proofs.Common.{◌≡◌, ℕ, suc, ◌+◌, ◌-◌, take, List, [], ◌∷◌, ◌++◌, length, Bool, true, false, ◌||◌, ◌&&◌, refl, sym, ap, ◌∙◌, arith, append_assoc, append-nil, subst}
use Rattle.std.specs.Prelude.{codes, flat_map, nat_le, Option, None, Some, if◌then◌else◌}
use Rattle.bz_token.specs.Lexical.{is_text}
use Rattle.std.specs.List.{list_any}
use Rattle.std.proofs.lemmas.Bool.{false≢true}
use Rattle.std.proofs.lemmas.Bool.Decides.{nat_tests}
use Rattle.std.proofs.lemmas.List.Folds.{list_any-append}
use Rattle.bz_token.specs.Common.{is_filled}
use Rattle.bz_token.specs.declared.token.Kind.TheVariants.{Operator, String}
use Rattle.bz_tree.specs.declared.tree.GroupKind.TheVariants.{List as ListKind}
use Rattle.bz_layout.specs.Walked.{count, have_comments, is_broken, broken_segs, item_pieces}
use Rattle.bz_layout.specs.Layout.{breaks}
use Rattle.bz_layout.specs.Pieces.{Piece, piece, bytes_of, comments, indent, suffix_piece}
use Rattle.bz_layout.specs.Respell.{respell}
use Rattle.bz_layout.specs.declared.broken.Style.TheVariants.{Broken}
use Rattle.bz_layout.specs.declared.spacing.Gap.TheVariants.{Closed, Line}
use Rattle.bz_layout.proofs.Pieces.{bytes_append}
use Rattle.bz_layout_laws.specs.FreeLayout.{broken_by, flat_by, free, item_by, own}
use Rattle.bz_canonical.specs.declared.lists.ReadElement.{ReadElement}
use Rattle.bz_canonical.specs.declared.lists.ReadString.{ReadString}
use Rattle.bz_canonical.specs.private.Elements.{AreElements, AreElementsRead, ArePassed, Element, IsElementRead, IsListRead, as_is, separator, are_broken, closing, element_line, element_lines, element_list, element_segs, element_stands, element_written, elements_as_is, elements_stand, is_noted, others_in_place}
use Rattle.bz_canonical.specs.private.Strings.{IsSingleFront, IsStringRead, spelling}
use Rattle.bz_canonical.specs.private.Segments.{AreNotesFront, IsBesideFront}
use Rattle.bz_canonical.proofs.GroupSegments.{second_of_more}
use Rattle.bz_canonical.proofs.Taken.{taken}

-- their texts

on_line : (C S Q : List Piece) (token new : List ℕ) → bytes_of Q ≡ new
    → bytes_of (C ++ (piece (Line 2) String token ∷ (piece Closed Operator (codes ",") ∷ (S ++ Q)))) ≡ (bytes_of C ++ (10 ∷ (indent 2 ++ (token ++ (44 ∷ bytes_of S))))) ++ new
on_line C S Q token new is = rw (bytes_append C (piece (Line 2) String token ∷ (piece Closed Operator (codes ",") ∷ (S ++ Q))), bytes_append S Q, is) (simp append_assoc)

lines_as_is : (es : List Element) → bytes_of (broken_by (elements_as_is es) 2 ListKind true (element_segs es)) ≡ element_lines as_is es
lines_as_is [] = refl
lines_as_is (e ∷ es) = on_line (comments 2 e.before) (suffix_piece e.suffix) (broken_by (elements_as_is es) 2 ListKind true (element_segs es)) e.token (element_lines as_is es) (lines_as_is es)

lines_written : (es : List Element) → bytes_of (broken_segs Broken 2 ListKind true (element_segs es)) ≡ element_lines (respell String) es
lines_written [] = refl
lines_written (e ∷ es) = on_line (comments 2 e.before) (suffix_piece e.suffix) (broken_segs Broken 2 ListKind true (element_segs es)) (respell String e.token) (element_lines (respell String) es) (lines_written es)

others_stand : (es : List Element) → bytes_of (flat_by (elements_as_is es) 1 ListKind false (element_segs es)) ≡ others_in_place es
others_stand [] = refl
others_stand (e ∷ es) = ap (λ (t : List ℕ). 44 ∷ 32 ∷ (e.token ++ t)) (others_stand es)

abbrev pub closed : List ℕ
closed = 10 ∷ (indent 1 ++ 93 ∷ [])

broken_text : (P : List Piece) (lines : List ℕ) → bytes_of P ≡ lines → bytes_of (piece Closed Operator (codes "[") ∷ (P ++ (piece (Line 1) Operator (codes "]") ∷ []))) ≡ 91 ∷ (lines ++ closed)
broken_text P lines is = ap (λ (t : List ℕ). 91 ∷ t) (bytes_append P (piece (Line 1) Operator (codes "]") ∷ []) ∙ ap (λ (t : List ℕ). t ++ closed) is)

pub noted : (es : List Element) → have_comments (element_segs es) ≡ list_any is_noted es
noted [] = refl
noted (e ∷ es) = by (is_filled e.before) _ (have_comments (element_segs es)) ∙ ap (λ b. is_noted e || b) (noted es)
  where
    by : (x y t : Bool) → (x || y || t) ≡ ((x || y) || t)
    by true y t = refl
    by false true t = refl
    by false false t = refl

counted : (es : List Element) → count (element_segs es) ≡ length es
counted [] = refl
counted (e ∷ es) = ap suc (counted es)

broken : (es : List Element) (h : Bool) → (list_any is_noted es || nat_le 2 (length es)) ≡ true → is_broken ListKind (element_segs es) [] h ≡ true
broken es h some = rw (noted es, counted es) (by (list_any is_noted es) (nat_le 2 (length es)) some)
  where
    by : (c t : Bool) → (c || t) ≡ true → (false || c || t || (t && h)) ≡ true
    by true t some = refl
    by false true some = refl
    by false false some = absurd (false≢true some)

pub written_broken : (es : List Element) → (list_any is_noted es || nat_le 2 (length es)) ≡ true → bytes_of (item_pieces Broken 1 Closed (element_list es)) ≡ 91 ∷ (element_lines (respell String) es ++ closed)
written_broken es some = by _ (broken es _ some) _
  where
    by : (b : Bool) → b ≡ true → (A : List Piece)
        → bytes_of (piece Closed Operator (codes "[") ∷ (if breaks Broken b then broken_segs Broken 2 ListKind true (element_segs es) ++ (piece (Line 1) Operator (codes "]") ∷ []) else A)) ≡ 91 ∷ (element_lines (respell String) es ++ closed)
    by b is A = rw is (broken_text (broken_segs Broken 2 ListKind true (element_segs es)) (element_lines (respell String) es) (lines_written es))

-- one more

pub elements_append : (xs ys : List Element) → AreElements xs → AreElements ys → AreElements (xs ++ ys)
elements_append [] ys are more = more
elements_append (x ∷ xs) ys are more = (are.0, are.1, are.2, elements_append xs ys are.3 more)

pub flat_append : {A B : Type 0} (f : A → List B) (xs ys : List A) → flat_map f (xs ++ ys) ≡ flat_map f xs ++ flat_map f ys
flat_append f [] ys = refl
flat_append f (x ∷ xs) ys = ap (λ t. f x ++ t) (flat_append f xs ys) ∙ sym (append_assoc (f x) (flat_map f xs) (flat_map f ys))

pub flat_one : {A B : Type 0} (f : A → List B) (xs : List A) (y : A) → flat_map f (xs ++ y ∷ []) ≡ flat_map f xs ++ f y
flat_one f xs y = flat_append f xs (y ∷ []) ∙ ap (λ t. flat_map f xs ++ t) (append-nil (f y))

pub longer : {A : Type 0} (xs : List A) (y : A) → length (xs ++ y ∷ []) ≡ length xs + 1
longer [] y = refl
longer (x ∷ xs) y = ap suc (longer xs y) ∙ omega arith

pub one_at_least : (n : ℕ) → true ≡ nat_le 1 (n + 1)
one_at_least n = grind (arith, nat_tests)

pub or_yes : (b t : Bool) → t ≡ true → (b || t) ≡ true
or_yes true t is = refl
or_yes false t is = is

pub one_of_two : (n : ℕ) → nat_le 2 n ≡ true → nat_le 1 n ≡ true
one_of_two n h = grind (arith, nat_tests, h)

pub none_stand : (lines : Bool) (text : List ℕ) → text ≡ elements_stand lines [] ++ text
none_stand true text = refl
none_stand false text = refl

abbrev pub passed_none : (lines : Bool) (text : List ℕ) → ArePassed lines text text [] false false
passed_none lines text = record { elements = []; are = tt; bare = λ no. refl; front = none_stand lines text; spells = refl; one_is = refl; broken_is = refl }

pub stand_one : (lines one : Bool) (es : List Element) (e : Element) → one ≡ nat_le 1 (length es) → elements_stand lines es ++ element_stands lines one e ≡ elements_stand lines (es ++ e ∷ [])
stand_one true one es e is = sym (flat_one (element_line as_is) es e)
stand_one false one [] e is = rw is (sym (append-nil e.token))
stand_one false one (x ∷ xs) e is =
    ap (λ b. (x.token ++ others_in_place xs) ++ (separator b ++ e.token)) (is ∙ one_first (length xs))
    ∙ append_assoc x.token (others_in_place xs) (44 ∷ 32 ∷ e.token) ∙ ap (λ (t : List ℕ). x.token ++ t) (sym (flat_one (λ e. 44 ∷ 32 ∷ e.token) xs e))
  where
    one_first : (n : ℕ) → nat_le 1 (suc n) ≡ true
    one_first n = grind (arith, nat_tests)

-- whether they are written on lines then
pub broken_more : (es : List Element) (e : Element) (b one noted : Bool) → b ≡ are_broken es → one ≡ nat_le 1 (length es) → is_noted e ≡ noted → (b || (one || noted)) ≡ are_broken (es ++ e ∷ [])
broken_more es e b one noted b_is one_is noted_is =
    rw (b_is, one_is, list_any-append is_noted es (e ∷ []), noted_is, longer es e, sym (second_of_more (length es)))
    (by (list_any is_noted es) (nat_le 2 (length es)) (nat_le 1 (length es)) (one_of_two (length es)) noted)
  where
    by : (c t o : Bool) → (t ≡ true → o ≡ true) → (d : Bool) → ((c || t) || (o || d)) ≡ ((c || (d || false)) || o)
    by true t o less d = refl
    by false true true less d = by_noted d
      where
        by_noted : (d : Bool) → true ≡ ((d || false) || true)
        by_noted true = refl
        by_noted false = refl
    by false true false less d = absurd (false≢true (less refl))
    by false false true less true = refl
    by false false true less false = refl
    by false false false less true = refl
    by false false false less false = refl

abbrev pub passed_more : (lines one b : Bool) (text rest w : List ℕ) (read : ReadElement) → ArePassed lines text rest w one b → IsElementRead lines one rest read
    → ArePassed lines text read.rest.now (w ++ element_written read) true (b || (one || read.noted))
passed_more lines one b text rest w read l e = record {
  elements = l.elements ++ e.element ∷ [];
  are = elements_append l.elements (e.element ∷ []) l.are e.are;
  bare = λ no. list_any-append is_noted l.elements (e.element ∷ []) ∙ (λ i. l.bare no i || (e.bare no i || false));
  front = l.front ∙ ap (λ (t : List ℕ). elements_stand lines l.elements ++ t) e.front ∙ sym (append_assoc (elements_stand lines l.elements) (element_stands lines one e.element) read.rest.now)
      ∙ ap (λ (t : List ℕ). t ++ read.rest.now) (stand_one lines one l.elements e.element l.one_is);
  spells = (λ i. l.spells i ++ e.spells i) ∙ sym (flat_one (element_line (respell String)) l.elements e.element);
  one_is = one_at_least (length l.elements) ∙ ap (nat_le 1) (sym (longer l.elements e.element));
  broken_is = broken_more l.elements e.element b one read.noted l.broken_is l.one_is e.noted_is;
}

abbrev pub passed_first : (lines : Bool) (text : List ℕ) (read : ReadElement) → IsElementRead lines false text read → ArePassed lines text read.rest.now (element_written read) true read.noted
passed_first lines text read e = passed_more lines false false text text [] read (passed_none lines text) e

pub passed_others : (lines b : Bool) (text rest w : List ℕ) (read : ReadElement) → ArePassed lines text rest w true b → IsElementRead lines true rest read
    → ArePassed lines text read.rest.now (w ++ element_written read) true true
passed_others lines b text rest w read l e = subst (ArePassed lines text read.rest.now (w ++ element_written read) true) (or_yes b true refl) (passed_more lines true b text rest w read l e)

-- the list

pub lines_stand : (es : List Element) (rest : List ℕ) → 91 ∷ (element_lines as_is es ++ (10 ∷ (indent 1 ++ 93 ∷ rest))) ≡ bytes_of (item_by (free true (elements_as_is es) own) 1 Closed (element_list es)) ++ rest
lines_stand es rest = ap (λ (t : List ℕ). 91 ∷ t) (sym (append_assoc (element_lines as_is es) closed rest))
    ∙ ap (λ (t : List ℕ). t ++ rest) (sym (broken_text (broken_by (elements_as_is es) 2 ListKind true (element_segs es)) (element_lines as_is es) (lines_as_is es)))

pub place_stands : (first : Element) (others : List Element) (rest : List ℕ)
    → 91 ∷ (first.token ++ (others_in_place others ++ (93 ∷ rest))) ≡ bytes_of (item_by (free false (elements_as_is (first ∷ others)) own) 1 Closed (element_list (first ∷ others))) ++ rest
place_stands first others rest = by (flat_by (elements_as_is others) 1 ListKind false (element_segs others)) (others_stand others)
  where
    last : (T O : List ℕ) → 91 ∷ (T ++ (O ++ (93 ∷ rest))) ≡ (91 ∷ (T ++ (O ++ 93 ∷ []))) ++ rest
    last T O = simp append_assoc

    by : (P : List Piece) → bytes_of P ≡ others_in_place others
        → 91 ∷ (first.token ++ (others_in_place others ++ (93 ∷ rest))) ≡ bytes_of (piece Closed Operator (codes "[") ∷ ((piece Closed String first.token ∷ P) ++ (piece Closed Operator (codes "]") ∷ []))) ++ rest
    by P is = rw (bytes_append P (piece Closed Operator (codes "]") ∷ []), is) (last first.token (others_in_place others))

pub stand_list : (lines : Bool) (es : List Element) (rest : List ℕ)
    → 91 ∷ (elements_stand lines es ++ (closing lines ++ rest)) ≡ bytes_of (item_by (free lines (elements_as_is es) own) 1 Closed (element_list es)) ++ rest
stand_list true es rest = lines_stand es rest
stand_list false [] rest = refl
stand_list false (e ∷ es) rest = ap (λ (t : List ℕ). 91 ∷ t) (append_assoc e.token (others_in_place es) (93 ∷ rest)) ∙ place_stands e es rest

abbrev pub elements_read : (lines one b : Bool) (text rest end w : List ℕ) → ArePassed lines text rest w one b → rest ≡ closing lines ++ end → AreElementsRead text end w one b
elements_read lines one b text rest end w l ends = record {
  elements = l.elements;
  are = l.are;
  breaks = lines;
  stands = λ no. noted l.elements ∙ l.bare no;
  front = ap (λ (t : List ℕ). 91 ∷ t) (l.front ∙ ap (λ (t : List ℕ). elements_stand lines l.elements ++ t) ends) ∙ stand_list lines l.elements end;
  spells = l.spells;
  one_is = l.one_is;
  broken_is = l.broken_is;
}

pub list_broken : (one b : Bool) (text end w : List ℕ) → AreElementsRead text end w one b → b ≡ true → IsListRead (91 ∷ text) end (91 ∷ (w ++ codes "\n    ]"))
list_broken one b text end w r some = record {
  elements = r.elements;
  are = r.are;
  breaks = r.breaks;
  stands = r.stands;
  front = r.front;
  spells = ap (λ (t : List ℕ). 91 ∷ (t ++ closed)) r.spells ∙ sym (written_broken r.elements (sym r.broken_is ∙ some));
}

pub alone_written : (before : List (List ℕ)) (token : List ℕ) (suffix : Option (List ℕ)) → is_noted (record { before = before; token = token; suffix = suffix }) ≡ false
    → 91 ∷ (respell String token ++ 93 ∷ []) ≡ bytes_of (item_pieces Broken 1 Closed (element_list (record { before = before; token = token; suffix = suffix } ∷ [])))
alone_written [] token None bare = refl
alone_written [] token (Some s) bare = absurd (false≢true (sym bare))
alone_written (x ∷ xs) token suffix bare = absurd (false≢true (sym bare))

pub list_of_one : (lines : Bool) (text end : List ℕ) (read : ReadElement) → IsElementRead lines false text read → read.noted ≡ false → read.rest.now ≡ closing lines ++ end
    → IsListRead (91 ∷ text) end (91 ∷ (spelling read.string ++ 93 ∷ []))
list_of_one lines text end read e bare ends =
    let r = elements_read lines true read.noted text read.rest.now end (element_written read) (passed_first lines text read e) ends in
    record {
      elements = r.elements;
      are = r.are;
      breaks = r.breaks;
      stands = r.stands;
      front = r.front;
      spells = ap (λ (t : List ℕ). 91 ∷ (t ++ 93 ∷ [])) e.string_is ∙ alone_written e.element.before e.element.token e.element.suffix (e.noted_is ∙ bare);
    }

-- what is put after a text, and then after that
pub put_two : (a b c x y : List ℕ) → b ≡ a ++ x → c ≡ b ++ y → c ≡ a ++ (x ++ y)
put_two a b c x y first second = second ∙ ap (λ (t : List ℕ). t ++ y) first ∙ append_assoc a x y

pub put_three : (a b c d x y z : List ℕ) → b ≡ a ++ x → c ≡ b ++ y → d ≡ c ++ z → d ≡ a ++ (x ++ (y ++ z))
put_three a b c d x y z first second third = put_two a c d (x ++ y) z (put_two a b c x y first second) third ∙ ap (λ (t : List ℕ). a ++ t) (append_assoc x y z)

-- strings

single : (read : ReadString) → read.single ≡ true → spelling read ≡ 34 ∷ (read.body.now ++ 34 ∷ [])
single read once = rw once refl

pub single_read : (text inner : List ℕ) (read : ReadString) → IsSingleFront text inner read.rest.now → read.token.now ≡ take (length text - length read.rest.now) text → read.body.now ≡ inner → read.single ≡ true
    → IsStringRead text read
single_read text inner read t token body once =
    let is : read.token.now ≡ 39 ∷ (inner ++ 39 ∷ []) = token ∙ taken text (39 ∷ (inner ++ 39 ∷ [])) read.rest.now t.front in
    record {
      is = ap (is_text String) is ∙ t.is;
      front = t.front ∙ ap (λ (x : List ℕ). x ++ read.rest.now) (sym is);
      spells = single read once ∙ ap (λ (x : List ℕ). 34 ∷ (x ++ 34 ∷ [])) body ∙ sym t.spells ∙ ap (respell String) (sym is);
      same = λ no. absurd (false≢true (sym no ∙ once));
    }

-- an element with its comments
pub element_read : (text below inner comma : List ℕ) (d e : Bool) (read : ReadElement) → AreNotesFront 2 text below d → below ≡ 10 ∷ (indent 2 ++ inner) → read.front.now ≡ take (length text - length inner) text
    → IsStringRead inner read.string → read.string.rest.now ≡ 44 ∷ comma → IsBesideFront comma read.rest.now e → read.back.now ≡ take (length read.string.rest.now - length read.rest.now) read.string.rest.now
    → read.noted ≡ (d || e) → read.otherwise ≡ read.string.single → (one : Bool) → IsElementRead true one text read
element_read text below inner comma d e read above line front_is s is side back_is noted_is otherwise_is = λ one.
    let C : List ℕ = bytes_of (comments 2 above.notes) in
    let S : List ℕ = bytes_of (suffix_piece side.note) in
    let T : List ℕ = read.string.token.now in
    let next : List ℕ = read.rest.now in
    let begins : text ≡ (C ++ (10 ∷ indent 2)) ++ inner = above.front ∙ ap (λ (t : List ℕ). C ++ t) line ∙ sym (append_assoc C (10 ∷ indent 2) inner) in
    let ends : read.string.rest.now ≡ (44 ∷ S) ++ next = is ∙ ap (λ (t : List ℕ). 44 ∷ t) side.front in
    let stands : text ≡ (C ++ (10 ∷ (indent 2 ++ (T ++ (44 ∷ S))))) ++ next = begins ∙ ap (λ (t : List ℕ). (C ++ (10 ∷ indent 2)) ++ t) (s.front ∙ ap (λ (t : List ℕ). T ++ t) ends) ∙ whole C S T next in
    let before : read.front.now ≡ C ++ (10 ∷ indent 2) = front_is ∙ taken text (C ++ (10 ∷ indent 2)) inner begins in
    let after : read.back.now ≡ 44 ∷ S = back_is ∙ taken read.string.rest.now (44 ∷ S) next ends in
    let puts : element_written read ≡ C ++ (10 ∷ (indent 2 ++ (spelling read.string ++ (44 ∷ S)))) = (λ i. before i ++ (spelling read.string ++ after i)) ∙ append_assoc C (10 ∷ indent 2) (spelling read.string ++ (44 ∷ S)) in
    record {
      element = record { before = above.notes; token = T; suffix = side.note };
      are = (above.are, s.is, side.is, tt);
      token_is = refl;
      string_is = s.spells;
      front_is = before;
      back_is = after;
      front = stands;
      spells = puts ∙ ap (λ (t : List ℕ). C ++ (10 ∷ (indent 2 ++ (t ++ (44 ∷ S))))) s.spells;
      noted_is = (λ i. above.some_is i || side.some_is i) ∙ sym noted_is;
      bare = λ no. absurd (false≢true (sym no));
      same = λ no. stands ∙ ap (λ (t : List ℕ). (C ++ (10 ∷ (indent 2 ++ (t ++ (44 ∷ S))))) ++ next) (sym (s.same (sym otherwise_is ∙ no))) ∙ ap (λ (t : List ℕ). t ++ next) (sym puts);
    }
  where
    whole : (C S T next : List ℕ) → (C ++ (10 ∷ indent 2)) ++ (T ++ ((44 ∷ S) ++ next)) ≡ (C ++ (10 ∷ (indent 2 ++ (T ++ (44 ∷ S))))) ++ next
    whole C S T next = simp append_assoc

pub place_read : (one : Bool) (text inner : List ℕ) (read : ReadElement) → text ≡ separator one ++ inner → IsStringRead inner read.string → read.rest.now ≡ read.string.rest.now → read.front.now ≡ codes "\n        "
    → read.back.now ≡ codes "," → read.noted ≡ false → read.otherwise ≡ true → IsElementRead false one text read
place_read one text inner read is s rest_is front_is back_is noted_is otherwise_is =
    let T : List ℕ = read.string.token.now in
    record {
      element = record { before = []; token = T; suffix = None };
      are = (refl, s.is, refl, tt);
      token_is = refl;
      string_is = s.spells;
      front_is = front_is;
      back_is = back_is;
      front = is ∙ ap (λ (t : List ℕ). separator one ++ t) (s.front ∙ ap (λ (t : List ℕ). T ++ t) (sym rest_is)) ∙ sym (append_assoc (separator one) T read.rest.now);
      spells = λ i. front_is i ++ (s.spells i ++ back_is i);
      noted_is = sym noted_is;
      bare = λ no. refl;
      same = λ no. absurd (false≢true (sym no ∙ otherwise_is));
    }
