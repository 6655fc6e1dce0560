-- Where the arguments of a rule stand.
use Rattle.std.proofs.Common.{◌≡◌, ℕ, ◌+◌, length, List, [], ◌∷◌, ◌++◌, Bool, true, false, refl, sym, ap, ◌∙◌, arith, append_assoc, append-nil, subst, bytes_eq}
use Rattle.std.specs.Prelude.{codes, flat_map, map, Option, Some}
use Rattle.std.specs.List.{position}
use Rattle.std.proofs.lemmas.List.{length-append}
use Rattle.bz_token.specs.declared.token.Kind.TheVariants.{Identifier, Operator}
use Rattle.bz_tree.specs.declared.tree.GroupKind.TheVariants.{RuleCall}
use Rattle.bz_tree.specs.Tree.{Item, leaf, Segment, items_of}
use Rattle.bz_layout.specs.Walked.{items_pieces}
use Rattle.bz_layout.specs.Pieces.{Piece, piece, bytes_of, comments, indent, suffix_piece}
use Rattle.bz_layout.specs.declared.broken.Style.TheVariants.{Broken}
use Rattle.bz_layout.specs.declared.spacing.Edge.TheVariants.{Start}
use Rattle.bz_layout.specs.declared.spacing.Gap.TheVariants.{Closed, Line}
use Rattle.bz_layout.proofs.Pieces.{bytes_append}
use Rattle.bz_token.proofs.Classes.{same_bytes}
use Rattle.bz_attribute.specs.Rules.{is_named}
use Rattle.bz_canonical.specs.Canonical.{argument_lines}
use Rattle.bz_canonical.specs.Spans.{AreSpans, IsSpan}
use Rattle.bz_canonical.specs.declared.spans.ArgumentSpan.{ArgumentSpan}
use Rattle.bz_canonical.specs.declared.spans.NamesSought.{NamesSought}
use Rattle.bz_canonical.specs.declared.spans.Place.{Place}
use Rattle.bz_canonical.specs.private.Noted.{AreNoted, IsSpanBetween}
use Rattle.bz_canonical.specs.private.Arguments.{IsArgumentRead}
use Rattle.bz_canonical.specs.private.Placed.{Placed, args_of, placed_lines}
use Rattle.bz_canonical.proofs.ArgumentLines.{lines_append}
use Rattle.bz_canonical.proofs.SingleStrings.{bytes_same}
use Rattle.bz_canonical.proofs.SoughtValues.{literal_in_lines}
use Rattle.bz_canonical.proofs.ReadRules.{some_lines}
use Rattle.bz_token.specs.Common.{is_empty}
use Rattle.bz_canonical.proofs.ReadArguments.{append_read, none_read, or_true, single_read}

-- the lines of an argument that has a name

abbrev named_argument : List (List ℕ) → List ℕ → List Item → Option (List ℕ) → Segment
named_argument notes word value suffix = record { before = notes; nodes = leaf Identifier word ∷ leaf Operator (codes "=") ∷ value; suffix = suffix }

abbrev HasInner : Segment → Type 0
HasInner a = (inner : List ℕ) × (argument_lines (a ∷ []) ≡ 10 ∷ (indent 1 ++ (inner ++ (44 ∷ bytes_of (suffix_piece a.suffix)))))

named_inner : (notes : List (List ℕ)) (word : List ℕ) (value : List Item) (suffix : Option (List ℕ)) → HasInner (named_argument notes word value suffix)
named_inner notes word value suffix = by notes (items_pieces Broken 1 (Some RuleCall) (Line 1) Start (items_of (leaf Identifier word ∷ leaf Operator (codes "=") ∷ value))) (_, refl)
  where
    by : (notes : List (List ℕ)) (P : List Piece) → (x : List ℕ) × (bytes_of P ≡ 10 ∷ (indent 1 ++ x))
        → (inner : List ℕ) × (bytes_of (comments 1 notes ++ (P ++ (piece Closed Operator (codes ",") ∷ (suffix_piece suffix ++ [])))) ≡ 10 ∷ (indent 1 ++ (inner ++ (44 ∷ bytes_of (suffix_piece suffix)))))
    by [] P is = (is.0, rw (append-nil (suffix_piece suffix), bytes_append P (piece Closed Operator (codes ",") ∷ suffix_piece suffix), is.1) (simp append_assoc))
    by (c ∷ cs) P is = (
      c ++ (bytes_of (comments 1 cs) ++ bytes_of P),
      rw (append-nil (suffix_piece suffix), bytes_append (comments 1 cs) (P ++ (piece Closed Operator (codes ",") ∷ suffix_piece suffix)), bytes_append P (piece Closed Operator (codes ",") ∷ suffix_piece suffix)) (simp append_assoc),
    )

has_inner : (a : Segment) (word : List ℕ) (value : List Item) → a.nodes ≡ leaf Identifier word ∷ leaf Operator (codes "=") ∷ value → HasInner a
has_inner a word value is = subst (λ (nodes : List Item). HasInner (record { before = a.before; nodes = nodes; suffix = a.suffix })) (sym is) (named_inner a.before word value a.suffix)

-- which of the names it has
named_by : (names : List (List ℕ)) (a : Segment) (word : List ℕ) (value : List Item) → a.nodes ≡ leaf Identifier word ∷ leaf Operator (codes "=") ∷ value
    → position (λ name. bytes_eq name word) names ≡ position (λ name. is_named name a) names
named_by names a word value is = ap (λ (nodes : List Item). position (λ name. is_named name (record { before = a.before; nodes = nodes; suffix = a.suffix })) names) (sym is)

same_word : (a b : List ℕ) → bytes_eq a a ≡ bytes_eq a b → a ≡ b
same_word a b is = same_bytes a b (sym is ∙ bytes_same a)

-- the span of an argument that was passed
span_is : (names : List (List ℕ)) (depth from start : ℕ) (name at comma rest w : List ℕ) (named : Option ℕ) (before to : Place) (span : ArgumentSpan) → (read : IsArgumentRead depth name at rest w (bytes_eq name name))
    → comma ≡ 44 ∷ (bytes_of (suffix_piece read.placed.arg.suffix) ++ rest) → named ≡ position (λ n. bytes_eq n name) names → before.stands ≡ from → before.written ≡ start
    → to.stands ≡ from + length (placed_lines read.placed) → to.written ≡ start + length w → IsSpanBetween named before (length comma) (length rest) to span
    → IsSpan names from start read.placed.arg (placed_lines read.placed) span
span_is names depth from start name at comma rest w named before to span read comma_is named_is from_is start_is to_is end_is s =
    let a : Segment = read.placed.arg in
    let inner = has_inner a read.word read.value read.nodes_is in
    let S : List ℕ = bytes_of (suffix_piece a.suffix) in
    let word : name ≡ read.word = same_word name read.word (sym read.named_is ∙ ap (λ (nodes : List Item). is_named name (record { before = a.before; nodes = nodes; suffix = a.suffix })) read.nodes_is) in
    let long : length w ≡ length (argument_lines (a ∷ [])) = ap length read.spells in
    record {
      inner = inner.0;
      lines = inner.1;
      some = subst (λ (t : List ℕ). is_empty t ≡ false) (append-nil (placed_lines read.placed)) (some_lines read.placed []);
      named = s.named_is ∙ named_is ∙ ap (λ (w : List ℕ). position (λ n. bytes_eq n w) names) word ∙ named_by names a read.word read.value read.nodes_is;
      from_is = s.from_is ∙ from_is;
      to_is = s.to_is ∙ to_is;
      start_is = s.start_is ∙ start_is;
      comma_is = omega (arith, s.comma_is, end_is, long, ap length inner.1, length-append inner.0 (44 ∷ S), ap length comma_is, length-append S rest);
      end_is = s.end_is ∙ end_is ∙ ap (λ n. start + n) long;
      literals = literal_in_lines depth read.placed read.is;
    }

-- one after another

abbrev stands_of : List Placed → List (List ℕ)
stands_of ps = map placed_lines ps

one_span : (names : List (List ℕ)) (from start f s : ℕ) (a : Segment) (lines : List ℕ) (x : ArgumentSpan) → f ≡ from → s ≡ start → IsSpan names f s a lines x → IsSpan names from start a lines x
one_span names from start f s a lines x f_is s_is is = subst (λ n. IsSpan names n start a lines x) f_is (subst (λ n. IsSpan names f n a lines x) s_is is)

spans_more : (names : List (List ℕ)) (from start : ℕ) (ps : List Placed) (xs : List ArgumentSpan) (p : Placed) (x : ArgumentSpan) → AreSpans names from start (args_of ps) (stands_of ps) xs
    → IsSpan names (from + length (flat_map placed_lines ps)) (start + length (argument_lines (args_of ps))) p.arg (placed_lines p) x
    → AreSpans names from start (args_of (ps ++ p ∷ [])) (stands_of (ps ++ p ∷ [])) (xs ++ x ∷ [])
spans_more names from start [] [] p x are is = (one_span names from start _ _ p.arg (placed_lines p) x (omega arith) (omega arith) is, tt)
spans_more names from start [] (y ∷ ys) p x are is = absurd are
spans_more names from start (q ∷ ps) [] p x are is = absurd are
spans_more names from start (q ∷ ps) (y ∷ ys) p x are is =
    let L : List ℕ = flat_map placed_lines ps in
    let W : List ℕ = argument_lines (args_of ps) in
    let stood : from + length (placed_lines q ++ L) ≡ y.to + length L = omega (arith, length-append (placed_lines q) L, are.0.to_is) in
    let wrote : start + length (argument_lines (args_of (q ∷ ps))) ≡ y.end + length W =
    omega (arith, ap length (lines_append (q.arg ∷ []) (args_of ps)), length-append (argument_lines (q.arg ∷ [])) W, are.0.end_is) in
    (are.0, spans_more names y.to y.end ps ys p x are.1 (one_span names (y.to + length L) (y.end + length W) _ _ p.arg (placed_lines p) x stood wrote is))

pub none_noted : (notes : NamesSought) (text begun : List ℕ) (old : List ArgumentSpan) → AreNoted notes text text begun [] old old false
none_noted notes text begun old = record { read = none_read notes.depth text; more = []; all = sym (append-nil old); are = λ from is. tt }

pub noted_more : (notes : NamesSought) (text at comma rest begun w v name : List ℕ) (old new : List ArgumentSpan) (one : Bool) (named : Option ℕ) (from to : Place) (span : ArgumentSpan) → AreNoted notes text at begun w old new one
    → (read : IsArgumentRead notes.depth name at rest v (bytes_eq name name)) → comma ≡ 44 ∷ (bytes_of (suffix_piece read.placed.arg.suffix) ++ rest) → named ≡ position (λ n. bytes_eq n name) notes.names.now
    → from.stands + length at ≡ notes.len → from.written ≡ length (begun ++ w) → to.stands + length rest ≡ notes.len → to.written ≡ length ((begun ++ w) ++ v)
    → IsSpanBetween named from (length comma) (length rest) to span → AreNoted notes text rest begun (w ++ v) old (new ++ span ∷ []) true
noted_more notes text at comma rest begun w v name old new one named from to span a read comma_is named_is from_is start_is to_is end_is s =
    let ps : List Placed = a.read.placed in
    let L : List ℕ = flat_map placed_lines ps in
    let lines : List ℕ = placed_lines read.placed in
    let stood : length text ≡ length L + length at = ap length a.read.front ∙ length-append L at in
    let next : length at ≡ length lines + length rest = ap length read.front ∙ length-append lines rest in
    let begins : length (begun ++ w) ≡ length begun + length (argument_lines (args_of ps)) = length-append begun w ∙ ap (λ (t : List ℕ). length begun + length t) a.read.spells in
    subst (λ b. AreNoted notes text rest begun (w ++ v) old (new ++ span ∷ []) b) (or_true one) (record {
      read = append_read notes.depth text at rest w v one true a.read (single_read notes.depth name at rest v (bytes_eq name name) read);
      more = a.more ++ span ∷ [];
      all = ap (λ (xs : List ArgumentSpan). xs ++ span ∷ []) a.all ∙ append_assoc old a.more (span ∷ []);
      are = λ f f_is. spans_more notes.names.now f (length begun) ps a.more read.placed span (a.are f f_is)
          (span_is notes.names.now notes.depth (f + length L) (length begun + length (argument_lines (args_of ps))) name at comma rest v named from to span read comma_is named_is
          (omega (arith, f_is, from_is, stood)) (start_is ∙ begins) (omega (arith, f_is, to_is, stood, next)) (end_is ∙ length-append (begun ++ w) v ∙ ap (λ n. n + length v) begins) s);
    })
