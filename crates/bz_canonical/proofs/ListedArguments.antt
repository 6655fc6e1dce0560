-- The parts of arguments whose values are lists of strings.
use Rattle.std.proofs.Common.{◌≡◌, ◌<◌, ℕ, ◌+◌, List, [], ◌∷◌, ◌++◌, Bool, true, false, ◌||◌, length, map, drop, get_or, refl, sym, ap, ◌∙◌, arith, append_assoc, append-nil, subst, take}
use Rattle.std.specs.Prelude.{codes, Option, None, Some, is_some}
use Rattle.std.specs.List.{concat}
use Rattle.std.proofs.Math.Seq.{drop-append_seam, take-append_seam}
use Rattle.std.proofs.lemmas.Bool.{false≢true}
use Rattle.std.proofs.lemmas.List.{drop-drop, drop_more, length-append, map-append}
use Rattle.std.proofs.lemmas.Slice.Eq.{bytes_eq-Decides}
use Rattle.bz_token.specs.Common.{is_filled}
use Rattle.bz_token.specs.Lexical.{is_text}
use Rattle.bz_token.specs.declared.token.Kind.TheVariants.{Identifier, Operator, String}
use Rattle.bz_tree.specs.declared.tree.GroupKind.TheVariants.{List as ListKind}
use Rattle.bz_tree.specs.declared.row.Part.{Part}
use Rattle.bz_tree.specs.Rows.{RowPart, a_token, above, beside_part, closing, opening, part_view, segment_end, segs_parts}
use Rattle.bz_tree.specs.Tree.{Segment, segs_of}
use Rattle.bz_layout.specs.Pieces.{bytes_of, comments, indent, suffix_piece}
use Rattle.bz_attribute.proofs.EditedAt.{segs_join}
use Rattle.bz_canonical.specs.Canonical.{AreReadAlone}
use Rattle.bz_canonical.specs.SealedRules.{between, shown}
use Rattle.bz_canonical.specs.Spans.{AreSpans, is_asked, kept}
use Rattle.bz_canonical.specs.declared.listed.ElementPlace.{ElementPlace}
use Rattle.bz_canonical.specs.declared.lists.ReadElement.{ReadElement}
use Rattle.bz_canonical.specs.declared.spans.ArgumentSpan.{ArgumentSpan}
use Rattle.bz_canonical.specs.private.Added.{list_arg}
use Rattle.bz_canonical.specs.private.Arguments.{IsHeadRead}
use Rattle.bz_canonical.specs.private.Elements.{Element, IsElementRead, IsLast, element_segs, element_stands, element_written, is_noted, separator, closing as ends_with}
use Rattle.bz_canonical.specs.private.Listed.{ArePut, AreReadEach, IsListHead, IsListPut, IsPlaceOf, element_parts, gap_text}
use Rattle.bz_canonical.proofs.ArgumentParts.{lines_cut}
use Rattle.bz_canonical.proofs.CutTexts.{cut_at, rest_at}
use Rattle.bz_canonical.proofs.ElementLists.{elements_read, passed_more, passed_none}
use Rattle.bz_canonical.proofs.ListLines.{list_alone}

-- one more element

abbrev pub bare : List ℕ → Element
bare token = record { before = []; token = token; suffix = None }

is_bare : (e : Element) → is_noted e ≡ false → e ≡ bare e.token
is_bare e plain = by e.before e.suffix plain
  where
    with_notes : List (List ℕ) → Option (List ℕ) → Element
    with_notes before suffix = record { before = before; token = e.token; suffix = suffix }

    by : (before : List (List ℕ)) (suffix : Option (List ℕ)) → (is_filled before || is_some suffix) ≡ false → with_notes before suffix ≡ bare e.token
    by [] None plain = refl
    by [] (Some text) plain = absurd (false≢true (sym plain))
    by (b ∷ before) suffix plain = absurd (false≢true (sym plain))

parts_join : (es fs : List Element) → segs_parts (element_segs (es ++ fs)) ≡ segs_parts (element_segs es) ++ segs_parts (element_segs fs)
parts_join [] fs = refl
parts_join (e ∷ es) fs =
    ap (λ (ps : List RowPart). map above e.before ++ (a_token String e.token ∷ segment_end ∷ (beside_part e.suffix ++ ps))) (parts_join es fs)
    ∙ moved (map above e.before) (beside_part e.suffix) (segs_parts (element_segs es)) (segs_parts (element_segs fs)) (a_token String e.token) segment_end
  where
    moved : (A B X Y : List RowPart) (t s : RowPart) → A ++ (t ∷ s ∷ (B ++ (X ++ Y))) ≡ (A ++ (t ∷ s ∷ (B ++ X))) ++ Y
    moved A B X Y t s = simp append_assoc

one_parts : (e : Element) → segs_parts (element_segs (e ∷ [])) ≡ element_parts e
one_parts e = ap (λ (t : List RowPart). map above e.before ++ (a_token String e.token ∷ segment_end ∷ t)) (append-nil (beside_part e.suffix))

parts_more : (es : List Element) (e : Element) → segs_parts (element_segs (es ++ e ∷ [])) ≡ segs_parts (element_segs es) ++ element_parts e
parts_more es e = parts_join es (e ∷ []) ∙ ap (λ (t : List RowPart). segs_parts (element_segs es) ++ t) (one_parts e)

-- of one without comments
pub bare_parts : (e : Element) → is_noted e ≡ false → element_parts e ≡ a_token String e.token ∷ segment_end ∷ []
bare_parts e plain = ap element_parts (is_bare e plain)

pub put_none : (lines : Bool) (inside : List ℕ) (old : List RowPart) → ArePut lines false inside inside old old
put_none lines inside old = record { written = []; broken = false; passed = passed_none lines inside; parts = sym (append-nil old) }

pub put_more : (lines one : Bool) (inside rest next : List ℕ) (old mid new : List RowPart) (read : ReadElement) → ArePut lines one inside rest old mid → (e : IsElementRead lines one rest read) → next ≡ read.rest.now
    → new ≡ mid ++ element_parts e.element → ArePut lines true inside next old new
put_more lines one inside rest next old mid new read o e next_is new_is = subst (λ (t : List ℕ). ArePut lines true inside t old new) (sym next_is) (record {
  written = o.written ++ element_written read;
  broken = o.broken || (one || read.noted);
  passed = passed_more lines one o.broken inside rest o.written read o.passed e;
  parts =
      let P : List RowPart = segs_parts (element_segs o.passed.elements) in
      new_is ∙ ap (λ (t : List RowPart). t ++ element_parts e.element) o.parts ∙ append_assoc old P (element_parts e.element)
      ∙ ap (λ (t : List RowPart). old ++ t) (sym (parts_more o.passed.elements e.element));
})

-- parts that are pushed

pub pushed : (ps qs : List Part) (x : Part) → qs ≡ ps ++ x ∷ [] → map part_view qs ≡ map part_view ps ++ part_view x ∷ []
pushed ps qs x is = ap (map part_view) is ∙ map-append part_view ps (x ∷ [])

pub two_more : (A B C : List RowPart) (x y : RowPart) → B ≡ A ++ x ∷ [] → C ≡ B ++ y ∷ [] → C ≡ A ++ (x ∷ y ∷ [])
two_more A B C x y first second = second ∙ ap (λ (t : List RowPart). t ++ y ∷ []) first ∙ append_assoc A (x ∷ []) (y ∷ [])

pub three_more : (A B C D : List RowPart) (x y z : RowPart) → B ≡ A ++ x ∷ [] → C ≡ B ++ y ∷ [] → D ≡ C ++ z ∷ [] → D ≡ A ++ (x ∷ y ∷ z ∷ [])
three_more A B C D x y z first second third = third ∙ ap (λ (t : List RowPart). t ++ z ∷ []) (two_more A B C x y first second) ∙ append_assoc A (x ∷ y ∷ []) (z ∷ [])

-- those of an element that has comments
pub noted_parts : (e : Element) (token : List ℕ) (A B C D : List RowPart) → token ≡ e.token → B ≡ A ++ map above e.before → C ≡ B ++ (a_token String token ∷ segment_end ∷ []) → D ≡ C ++ beside_part e.suffix → D ≡ A ++ element_parts e
noted_parts e token A B C D token_is notes two side =
    side ∙ ap (λ (t : List RowPart). t ++ beside_part e.suffix) (two ∙ ap (λ (t : List RowPart). t ++ (a_token String token ∷ segment_end ∷ [])) notes) ∙ moved (map above e.before) (beside_part e.suffix)
    ∙ ap (λ (t : List ℕ). A ++ (map above e.before ++ (a_token String t ∷ segment_end ∷ beside_part e.suffix))) token_is
  where
    moved : (N S : List RowPart) → ((A ++ N) ++ (a_token String token ∷ segment_end ∷ [])) ++ S ≡ A ++ (N ++ (a_token String token ∷ segment_end ∷ S))
    moved N S = simp append_assoc

-- its place in the text

stands_at : (lines one : Bool) (text : List ℕ) (read : ReadElement) (e : IsElementRead lines one text read)
    → (back : List ℕ) × (element_stands lines one e.element ≡ gap_text lines one read ++ (e.element.token ++ back)) × (is_noted e.element ≡ true → back ≡ 44 ∷ bytes_of (suffix_piece e.element.suffix))
    × (is_noted e.element ≡ true → gap_text lines one read ≡ bytes_of (comments 2 e.element.before) ++ (10 ∷ indent 2))
stands_at true one text read e =
    let S : List ℕ = 44 ∷ bytes_of (suffix_piece e.element.suffix) in (
      S,
      by (bytes_of (comments 2 e.element.before)) (indent 2) e.element.token S ∙ ap (λ (t : List ℕ). t ++ (e.element.token ++ S)) (sym e.front_is),
      λ noted. refl,
      λ noted. e.front_is,
    )
  where
    by : (C I T S : List ℕ) → C ++ (10 ∷ (I ++ (T ++ S))) ≡ (C ++ (10 ∷ I)) ++ (T ++ S)
    by C I T S = simp append_assoc
stands_at false one text read e = (
  [],
  ap (λ (t : List ℕ). separator one ++ t) (sym (append-nil e.element.token)),
  λ noted. absurd (false≢true (sym (e.bare refl) ∙ noted)),
  λ noted. absurd (false≢true (sym (e.bare refl) ∙ noted)),
)

pub place_is : (lines one : Bool) (text element others : List ℕ) (read : ReadElement) (place : ElementPlace) (len gap size : ℕ) → len + length read.rest.now ≡ length text → element ≡ take len text → place.rest.now ≡ drop len text
    → gap ≡ length (gap_text lines one read) → place.above.now ≡ take gap element → others ≡ drop gap element → size ≡ length read.string.token.now → place.token.now ≡ take size others → place.side.now ≡ drop size others
    → place.noted ≡ read.noted → IsPlaceOf lines one text read place
place_is lines one text element others read place len gap size len_is element_is rest_is gap_is above_is others_is size_is token_is side_is noted_is = λ e.
    let E : List ℕ = element_stands lines one e.element in
    let R : List ℕ = read.rest.now in
    let G : List ℕ = gap_text lines one read in
    let T : List ℕ = e.element.token in
    let at = stands_at lines one text read e in
    let B : List ℕ = at.0 in
    let len_eq : len ≡ length E = omega (arith, len_is, ap length e.front, length-append E R) in
    let element_eq : element ≡ G ++ (T ++ B) = element_is ∙ ap (take len) e.front ∙ ap (λ n. take n (E ++ R)) len_eq ∙ take-append_seam E R ∙ at.1 in
    let others_eq : others ≡ T ++ B = others_is ∙ ap (drop gap) element_eq ∙ ap (λ n. drop n (G ++ (T ++ B))) gap_is ∙ drop-append_seam G (T ++ B) in
    let size_eq : size ≡ length T = size_is ∙ ap length (sym e.token_is) in
    let noted : place.noted ≡ is_noted e.element = noted_is ∙ sym e.noted_is in (
      rest_is ∙ ap (drop len) e.front ∙ ap (λ n. drop n (E ++ R)) len_eq ∙ drop-append_seam E R,
      record {
        are = e.are.0;
        token_is = token_is ∙ ap (take size) others_eq ∙ ap (λ n. take n (T ++ B)) size_eq ∙ take-append_seam T B;
        noted_is = noted;
        above_is = λ yes. above_is ∙ ap (take gap) element_eq ∙ ap (λ n. take n (G ++ (T ++ B))) gap_is ∙ take-append_seam G (T ++ B) ∙ at.3 (sym noted ∙ yes);
        side_is = λ yes. side_is ∙ ap (drop size) others_eq ∙ ap (λ n. drop n (T ++ B)) size_eq ∙ drop-append_seam T B ∙ at.2 (sym noted ∙ yes);
      },
    )

-- all elements

pub list_put : (lines one : Bool) (inside rest : List ℕ) (old new : List RowPart) → ArePut lines one inside rest old new → rest ≡ ends_with lines ++ (44 ∷ []) → IsListPut inside old new
list_put lines one inside rest old new o ends = record {
  written = o.written;
  one = one;
  broken = o.broken;
  read = elements_read lines one o.broken inside rest (44 ∷ []) o.written o.passed ends;
  parts = o.parts;
}

-- the argument

pub head_cut : (text inner equals value list token name inside : List ℕ) (end from : ℕ) → text ≡ 10 ∷ 32 ∷ 32 ∷ 32 ∷ 32 ∷ inner → inner ≡ token ++ equals → equals ≡ codes " = " ++ value → value ≡ 91 ∷ list → is_text Identifier token ≡ true
    → end + length equals ≡ length text → name ≡ between 5 end text → from + length list ≡ length text → inside ≡ drop from text → IsListHead text name inside
head_cut text inner equals value list token name inside end from text_is inner_is equals_is value_is is size name_is from_is inside_is =
    let cut : between 5 end text ≡ token = cut_at (10 ∷ 32 ∷ 32 ∷ 32 ∷ 32 ∷ []) token equals text 5 end (text_is ∙ ap (λ (t : List ℕ). 10 ∷ 32 ∷ 32 ∷ 32 ∷ 32 ∷ t) inner_is) refl
    (omega (arith, size, ap length text_is, ap length inner_is, length-append token equals)) in
    let same : name ≡ token = name_is ∙ cut in
    let whole : text ≡ 10 ∷ 32 ∷ 32 ∷ 32 ∷ 32 ∷ (token ++ (codes " = [" ++ list)) = text_is ∙ ap (λ (t : List ℕ). 10 ∷ 32 ∷ 32 ∷ 32 ∷ 32 ∷ t) (inner_is ∙ ap (λ (t : List ℕ). token ++ t) (equals_is ∙ ap (λ (t : List ℕ). codes " = " ++ t) value_is)) in
    let F : List ℕ = 10 ∷ 32 ∷ 32 ∷ 32 ∷ 32 ∷ (token ++ codes " = [") in
    let parted : text ≡ F ++ list = whole ∙ ap (λ (t : List ℕ). 10 ∷ 32 ∷ 32 ∷ 32 ∷ 32 ∷ t) (sym (append_assoc token (codes " = [") list)) in
    let inside_eq : inside ≡ list = inside_is ∙ rest_at F list text from parted (omega (arith, from_is, ap length parted, length-append F list)) in
    record {
      is = ap (is_text Identifier) same ∙ is;
      front = whole ∙ (λ i. 10 ∷ 32 ∷ 32 ∷ 32 ∷ 32 ∷ (sym same i ++ (codes " = [" ++ sym inside_eq i)));
    }

joined : (O E : List RowPart) (x y z c e : RowPart) → ((O ++ (x ∷ y ∷ z ∷ [])) ++ E) ++ (c ∷ e ∷ []) ≡ O ++ ((x ∷ y ∷ ((z ∷ (E ++ c ∷ [])) ++ [])) ++ (e ∷ []))
joined O E x y z c e = rw (append-nil (E ++ c ∷ [])) (simp append_assoc)

pub argument_put : (depth : ℕ) (text word inside : List ℕ) (old mid new : List RowPart) (args : List Segment) → 1 < depth → IsListHead text word inside → (begun : List RowPart)
    → begun ≡ old ++ (a_token Identifier word ∷ a_token Operator (codes "=") ∷ opening ListKind ∷ []) → IsListPut inside begun mid → new ≡ mid ++ (closing false ∷ segment_end ∷ [])
    → AreReadAlone depth text args → new ≡ old ++ segs_parts (segs_of args)
argument_put depth text word inside old mid new args deep h begun begun_is p new_is reads =
    let head : IsHeadRead word text (91 ∷ inside) true = record { notes = []; are = refl; word = word; is = h.is; front = h.front; named_is = (bytes_eq-Decides word word).1 refl } in
    let last : IsLast (44 ∷ []) = record { suffix = None; is = refl; front = refl } in
    let same : args ≡ list_arg [] word p.read.elements None ∷ [] = (list_alone depth word text inside (44 ∷ []) p.written p.one p.broken deep head p.read last).same args reads in
    new_is ∙ ap (λ (t : List RowPart). t ++ (closing false ∷ segment_end ∷ [])) (p.parts ∙ ap (λ (t : List RowPart). t ++ segs_parts (element_segs p.read.elements)) begun_is)
    ∙ joined old (segs_parts (element_segs p.read.elements)) _ _ _ _ _ ∙ ap (λ (xs : List Segment). old ++ segs_parts (segs_of xs)) (sym same)

-- arguments that are put one by one

-- the parts of some are put, and these spans are left
pub record AreListsLeft (depth : ℕ) (names : List (List ℕ)) (chunk : List ℕ) (all : Bool) (spans : List ArgumentSpan) (put whole : List RowPart) : Type 0 where
  pub from : ℕ
  pub start : ℕ
  pub args : List Segment
  pub stands : List (List ℕ)
  pub after : List ℕ
  pub are : AreSpans names from start args stands spans
  pub text : drop from chunk ≡ concat stands ++ after
  pub reads : AreReadEach depth stands args
  pub whole_is : put ++ segs_parts (segs_of (kept (shown all spans) args)) ≡ whole

-- what is told of one that is put
abbrev pub PutsList : ℕ → List ℕ → List RowPart → List RowPart → Type 0
PutsList depth lines old new = (args : List Segment) → AreReadAlone depth lines args → new ≡ old ++ segs_parts (segs_of args)

lists_one : (depth : ℕ) (names : List (List ℕ)) (chunk : List ℕ) (all here : Bool) (span : ArgumentSpan) (spans : List ArgumentSpan) (put new whole : List RowPart) → here ≡ (all || is_asked span)
    → (here ≡ true → PutsList depth (between span.from span.to chunk) put new) → (here ≡ false → new ≡ put) → AreListsLeft depth names chunk all (span ∷ spans) put whole → AreListsLeft depth names chunk all spans new whole
lists_one depth names chunk all here span spans put new whole here_is puts passes h = by h.args h.stands h.are h.text h.reads h.whole_is
  where
    by : (args : List Segment) (stands : List (List ℕ)) → AreSpans names h.from h.start args stands (span ∷ spans) → drop h.from chunk ≡ concat stands ++ h.after → AreReadEach depth stands args
        → put ++ segs_parts (segs_of (kept (shown all (span ∷ spans)) args)) ≡ whole → AreListsLeft depth names chunk all spans new whole
    by [] [] are text reads whole_is = absurd are
    by [] (l ∷ ls) are text reads whole_is = absurd are
    by (a ∷ args) [] are text reads whole_is = absurd are
    by (a ∷ args) (lines ∷ stands) are text reads whole_is =
        let full : drop h.from chunk ≡ lines ++ (concat stands ++ h.after) = text ∙ append_assoc lines (concat stands) h.after in
        let cut : between span.from span.to chunk ≡ lines = lines_cut h.from span.from span.to lines (concat stands ++ h.after) chunk full are.0.from_is are.0.to_is in
        record {
          from = span.to;
          start = span.end;
          args = args;
          stands = stands;
          after = h.after;
          are = are.1;
          text = ap (λ n. drop n chunk) are.0.to_is ∙ sym (drop-drop (length lines) h.from chunk) ∙ ap (drop (length lines)) full ∙ drop-append_seam lines (concat stands ++ h.after);
          reads = reads.1;
          whole_is = one here (all || is_asked span) here_is puts passes (subst (λ (t : List ℕ). AreReadAlone depth t (a ∷ [])) (sym cut) reads.0) whole_is;
        }
      where
        one : (b c : Bool) → b ≡ c → (b ≡ true → PutsList depth (between span.from span.to chunk) put new) → (b ≡ false → new ≡ put) → AreReadAlone depth (between span.from span.to chunk) (a ∷ [])
            → put ++ segs_parts (segs_of (kept (c ∷ shown all spans) (a ∷ args))) ≡ whole → new ++ segs_parts (segs_of (kept (shown all spans) args)) ≡ whole
        one b true is puts passes read whole_is =
            ap (λ (t : List RowPart). t ++ segs_parts (segs_of (kept (shown all spans) args))) (puts is (a ∷ []) read) ∙ append_assoc put (segs_parts (segs_of (a ∷ []))) (segs_parts (segs_of (kept (shown all spans) args)))
            ∙ ap (λ (t : List RowPart). put ++ t) (sym (segs_join (a ∷ []) (kept (shown all spans) args))) ∙ whole_is
        one b false is puts passes read whole_is = ap (λ (t : List RowPart). t ++ segs_parts (segs_of (kept (shown all spans) args))) (passes is) ∙ whole_is

pub lists_next : (depth : ℕ) (names : List (List ℕ)) (chunk : List ℕ) (all here : Bool) (spans : List ArgumentSpan) (i : ℕ) (d : ArgumentSpan) (put new whole : List RowPart) → i < length spans → here ≡ (all || is_asked (get_or spans i d))
    → (here ≡ true → PutsList depth (between (get_or spans i d).from (get_or spans i d).to chunk) put new) → (here ≡ false → new ≡ put) → AreListsLeft depth names chunk all (drop i spans) put whole
    → AreListsLeft depth names chunk all (drop (i + 1) spans) new whole
lists_next depth names chunk all here spans i d put new whole within here_is puts passes h =
    lists_one depth names chunk all here (get_or spans i d) (drop (i + 1) spans) put new whole here_is puts passes (subst (λ (ss : List ArgumentSpan). AreListsLeft depth names chunk all ss put whole) (drop_more spans i d within) h)

pub lists_all : (depth : ℕ) (names : List (List ℕ)) (chunk : List ℕ) (all : Bool) (spans : List ArgumentSpan) (put whole : List RowPart) → spans ≡ [] → AreListsLeft depth names chunk all spans put whole → put ≡ whole
lists_all depth names chunk all spans put whole none h = by spans none h.whole_is
  where
    by : (ss : List ArgumentSpan) → ss ≡ [] → put ++ segs_parts (segs_of (kept (shown all ss) h.args)) ≡ whole → put ≡ whole
    by [] none is = sym (append-nil put) ∙ is
    by (s ∷ ss) none is = absurd (omega (arith, ap length none))

-- each argument of a rule is read of its lines
pub read_each : (depth : ℕ) (names : List (List ℕ)) (from start : ℕ) (args : List Segment) (stands : List (List ℕ)) (spans : List ArgumentSpan) → AreSpans names from start args stands spans
    → ((keep : List Bool) → AreReadAlone depth (concat (kept keep stands)) (kept keep args)) → AreReadEach depth stands args
read_each depth names from start [] [] [] are reads = tt
read_each depth names from start [] [] (s ∷ ss) are reads = absurd are
read_each depth names from start [] (l ∷ ls) ss are reads = absurd are
read_each depth names from start (a ∷ args) [] ss are reads = absurd are
read_each depth names from start (a ∷ args) (l ∷ ls) [] are reads = absurd are
read_each depth names from start (a ∷ args) (l ∷ ls) (s ∷ ss) are reads =
    (subst (λ (t : List ℕ). AreReadAlone depth t (a ∷ [])) (append-nil l) (reads (true ∷ [])), read_each depth names s.to s.end args ls ss are.1 (λ keep. reads (false ∷ keep)))
