-- Tokens of entries are read as the entries, one more at a time.
use Rattle.std.proofs.Common.{◌≡◌, ℕ, ◌+◌, ◌==◌, List, [], ◌∷◌, ◌++◌, Bool, true, false, Option, Some, None, refl, sym, ap, subst, ◌∙◌, append_assoc, arith, rules}
use Rattle.std.specs.Prelude.{codes, count_by, if◌then◌else◌}
use Rattle.std.specs.Str.{bytes_eq}
use Rattle.std.proofs.lemmas.Bool.{false≢true}
use Rattle.std.proofs.lemmas.Bool.Decides.{nat_tests}
use Rattle.std.proofs.lemmas.Slice.Eq.{bytes_eq-Decides}
use Rattle.bz_token.specs.declared.token.Kind.{Kind}
use Rattle.bz_token.specs.declared.token.Kind.TheVariants.{String, Operator, Newline, Comment as CommentToken}
use Rattle.bz_token.specs.Places.{Placed}
use Rattle.bz_tree.specs.declared.tree.kinds.Shape.TheVariants.{Round, Square, Curly}
use Rattle.bz_tree.specs.declared.tree.kinds.Mark.{Mark}
use Rattle.bz_tree.specs.declared.tree.kinds.Mark.TheVariants.{Open, Close, Comma, Comment, Newline as NewlineMark, Plain}
use Rattle.bz_tree.specs.declared.tree.kinds.Preceding.{Preceding}
use Rattle.bz_tree.specs.declared.tree.kinds.Preceding.TheVariants.{Other}
use Rattle.bz_tree.specs.Brackets.{leaf_of, with_comma_nodes, preceding, end_line}
use Rattle.bz_tree.specs.Elements.{Elem, single, Elems, no_elems, elem, elem_tokens, elems_tokens, own_of, elem_own, elems_own, is_single, IsWell, AreWell}
use Rattle.bz_tree.specs.Kinds.{kind_mark, operator_mark, mark_of}
use Rattle.bz_tree.specs.private.KindSteps.{own_item, kind_after}
use Rattle.bz_tree.specs.Owners.{node, comma, comment}
use Rattle.bz_tree.specs.Cells.{Last, no_token, end_of_node, end_of_comma, Entry, a_node, a_comma, a_comment, entries_of}
use Rattle.bz_tree.specs.Statement.{is_aside}
use Rattle.bz_tree.specs.Tree.{Item, leaf}
use Rattle.bz_layout.specs.Respell.{respell}
use Rattle.bz_layout_laws.specs.Legible.{is_leaf_mark}
use Rattle.bz_layout_laws.specs.Lexemes.{Lexeme, lexeme, end_after, lexemes_from}
use Rattle.bz_layout_laws.specs.Parsed.{is_comma_mark}
use Rattle.bz_layout_laws.proofs.Taken.{placed_at, take_first, Agree, agree_none}

-- Tokens, first of them those of brackets and leaves that are read as these entries, and then those of `tail`. They stand
-- after `b` and after what ends there.
pub record Read (one : Bool) (b : Preceding) (at : Last) (ts : List Placed) (es : List Entry) (tail : List Lexeme) : Type 0 where
  pub elems : Elems
  pub after : List Placed
  pub last : Option ℕ
  pub tokens : ts ≡ elems_tokens elems ++ after
  pub rest : lexemes_from last after ≡ tail
  pub well : AreWell b elems
  pub entries : entries_of at (with_comma_nodes one (elems_own b elems)) ≡ es

-- whatever tokens have these lexemes
pub record Reads (one : Bool) (b : Preceding) (ls : List Lexeme) (es : List Entry) (tail : List Lexeme) : Type 0 where
  pub each : (at : Last) (last : Option ℕ) (ts : List Placed) → Agree at last → lexemes_from last ts ≡ ls ++ tail → Read one b at ts es tail

pub read_nothing : (one : Bool) (b : Preceding) (tail : List Lexeme) → Reads one b [] [] tail
read_nothing one b tail = record { each = λ at last ts agree h. record { elems = no_elems; after = ts; last = last; tokens = refl; rest = h; well = tt; entries = refl } }

pub own_node : (one : Bool) (line : ℕ) (x : Item) → own_item one (node line x) ≡ node line x
own_node true line x = refl
own_node false line x = refl

own_comment : (one : Bool) (line : ℕ) (text : List ℕ) → own_item one (comment line text) ≡ comment line text
own_comment true line text = refl
own_comment false line text = refl

same_line : (end other line : ℕ) → end ≡ other → (end == line) ≡ (line == other)
same_line end other line e = ap (λ n. n == line) e ∙ turned other line
  where
    turned : (m n : ℕ) → (m == n) ≡ (n == m)
    turned m n = grind (arith, nat_tests)

pub agree_node : (line end : ℕ) → line ≡ end → Agree (end_of_node line) (Some end)
agree_node line end e = record { same = λ other. same_line line end other e }

agree_comma : (line end : ℕ) → line ≡ end → Agree (end_of_comma line) (Some end)
agree_comma line end e = record { same = λ other. same_line line end other e }

-- a comment
pub read_comment : (one : Bool) (b : Preceding) (beside : Bool) (text : List ℕ) (ls : List Lexeme) (es : List Entry) (tail : List Lexeme) → Reads one b ls es tail → Reads one b (record { kind = CommentToken; text = text; beside = beside } ∷ ls) (a_comment beside text ∷ es) tail
read_comment one b beside text ls es tail next = record {
  each = λ at last ts agree h.
      let l : Lexeme = record { kind = CommentToken; text = text; beside = beside } in
      let f = take_first last ts l (ls ++ tail) h in
      let t = placed_at l f.line f.col f.fresh in
      let r = next.each no_token None f.others agree_none f.rest in
      record {
        elems = elem (single t) r.elems;
        after = r.after;
        last = r.last;
        tokens = f.are ∙ ap (λ us. t ∷ us) r.tokens;
        rest = r.rest;
        well = (refl, r.well);
        entries =
            ap (λ o. entries_of at (o ∷ with_comma_nodes one (elems_own b r.elems))) (own_comment one f.line text)
            ∙ (λ i. a_comment ((agree.same f.line ∙ f.beside) i) text ∷ r.entries i);
      };
}

-- a comma between segments
pub read_comma : (b : Preceding) (ls : List Lexeme) (es : List Entry) (tail : List Lexeme) → Reads false Other ls es tail → Reads false b (lexeme Operator (codes ",") ∷ ls) (a_comma ∷ es) tail
read_comma b ls es tail next = record {
  each = λ at last ts agree h.
      let l : Lexeme = lexeme Operator (codes ",") in
      let f = take_first last ts l (ls ++ tail) h in
      let t = placed_at l f.line f.col f.fresh in
      let r = next.each (end_of_comma f.line) (Some (end_line t)) f.others (agree_comma f.line (end_line t) (omega (arith))) f.rest in
      record {
        elems = elem (single t) r.elems;
        after = r.after;
        last = r.last;
        tokens = f.are ∙ ap (λ us. t ∷ us) r.tokens;
        rest = r.rest;
        well = (refl, r.well);
        entries = ap (λ es. a_comma ∷ es) r.entries;
      };
}

-- one more node
pub add_node : (one : Bool) (b : Preceding) (at : Last) (x : Elem) (line : ℕ) (y : Item) (es : List Entry) (tail : List Lexeme) (ts others : List Placed) → IsWell b x → own_item one (elem_own b x) ≡ node line y → ts ≡ elem_tokens x ++ others
    → Read one (preceding b (elem_own b x)) (end_of_node line) others es tail → Read one b at ts (a_node y ∷ es) tail
add_node one b at x line y es tail ts others well own are r = record {
  elems = elem x r.elems;
  after = r.after;
  last = r.last;
  tokens = are ∙ ap (λ us. elem_tokens x ++ us) r.tokens ∙ sym (append_assoc (elem_tokens x) (elems_tokens r.elems) r.after);
  rest = r.rest;
  well = (well, r.well);
  entries =
      ap (λ o. entries_of at (o ∷ with_comma_nodes one (elems_own (preceding b (elem_own b x)) r.elems))) own
      ∙ ap (λ es. a_node y ∷ es) r.entries;
}

-- a leaf, be it a comma or not
record LeafOwn (one : Bool) (b : Preceding) (t : Placed) : Type 0 where
  line : ℕ
  own : own_item one (own_of (mark_of t) t) ≡ node line (leaf_of t)
  before : preceding b (own_of (mark_of t) t) ≡ kind_after t.kind t.text
  one_token : is_single (mark_of t) ≡ true
  agree : Agree (end_of_node line) (end_after t)

pub no_aside : (kind : Kind) (text : List ℕ) → is_leaf_mark (kind_mark kind text) ≡ true → is_aside kind ≡ false
no_aside Newline text h = absurd (false≢true h)
no_aside CommentToken text h = absurd (false≢true h)
no_aside _ text h = refl

skip : (b : Bool) (m r : Mark) → is_comma_mark m ≡ false → is_comma_mark (if b then m else r) ≡ true → is_comma_mark r ≡ true
skip true m r none h = absurd (false≢true (sym none ∙ h))
skip false m r none h = h

last_test : (b : Bool) → is_comma_mark (if b then Comma else Plain) ≡ true → b ≡ true
last_test true h = refl
last_test false h = h

comma_operator : (text : List ℕ) → is_comma_mark (operator_mark text) ≡ true → text ≡ codes ","
comma_operator text h =
    let is : bytes_eq text (codes ",") ≡ true =
    last_test (bytes_eq text (codes ",")) (skip (bytes_eq text (codes "}")) (Close Curly) _ refl (skip (bytes_eq text (codes "]")) (Close Square) _ refl (skip (bytes_eq text (codes ")")) (Close Round) _ refl
    (skip (bytes_eq text (codes "{")) (Open Curly) _ refl (skip (bytes_eq text (codes "[")) (Open Square) _ refl (skip (bytes_eq text (codes "(")) (Open Round) _ refl h)))))) in
    search (rules, bytes_eq-Decides)

pub comma_leaf : (kind : Kind) (text : List ℕ) → is_comma_mark (kind_mark kind text) ≡ true → (kind_after kind text ≡ Other) × (text ≡ codes ",")
comma_leaf Operator text h = (refl, comma_operator text h)
comma_leaf _ text h = absurd (false≢true h)

ends_there : (t : Placed) (line : ℕ) → is_aside t.kind ≡ false → line ≡ end_line t → Agree (end_of_node line) (end_after t)
ends_there t line none e = subst (λ b. Agree (end_of_node line) (if b then None else Some (end_line t))) (sym none) (agree_node line (end_line t) e)

leaf_own : (one : Bool) (b : Preceding) (t : Placed) (m : Mark) → mark_of t ≡ m → is_leaf_mark m ≡ true → (is_comma_mark m ≡ true → one ≡ true) → LeafOwn one b t
leaf_own one b t Plain e token single_is = record {
  line = end_line t;
  own = ap (λ m. own_item one (own_of m t)) e ∙ own_node one (end_line t) (leaf_of t);
  before = ap (λ m. preceding b (own_of m t)) e;
  one_token = ap is_single e;
  agree = ends_there t (end_line t) (no_aside t.kind t.text (ap is_leaf_mark e)) refl;
}
leaf_own one b t Comma e token single_is =
    let is = comma_leaf t.kind t.text (ap is_comma_mark e) in
    let end : t.line ≡ t.line + count_by (λ b. b == 10) (codes ",") = omega (arith) in
    record {
      line = t.line;
      own = ap (λ m. own_item one (own_of m t)) e ∙ ap (λ o. own_item o (comma t)) (single_is refl);
      before = ap (λ m. preceding b (own_of m t)) e ∙ sym is.0;
      one_token = ap is_single e;
      agree = ends_there t t.line (no_aside t.kind t.text (ap is_leaf_mark e)) (end ∙ ap (λ text. t.line + count_by (λ b. b == 10) text) (sym is.1));
    }
leaf_own one b t (Open shape) e token single_is = absurd (false≢true token)
leaf_own one b t (Close shape) e token single_is = absurd (false≢true token)
leaf_own one b t Comment e token single_is = absurd (false≢true token)
leaf_own one b t NewlineMark e token single_is = absurd (false≢true token)

pub same_mark : (kind : Kind) (text : List ℕ) → kind_mark kind (respell kind text) ≡ kind_mark kind text
same_mark String text = refl
same_mark _ text = refl

pub same_after : (kind : Kind) (text : List ℕ) → kind_after kind (respell kind text) ≡ kind_after kind text
same_after String text = refl
same_after _ text = refl

pub read_leaf : (one : Bool) (b : Preceding) (kind : Kind) (text : List ℕ) (ls : List Lexeme) (es : List Entry) (tail : List Lexeme) → is_leaf_mark (kind_mark kind text) ≡ true → (is_comma_mark (kind_mark kind text) ≡ true → one ≡ true)
    → Reads one (kind_after kind text) ls es tail → Reads one b (lexeme kind text ∷ ls) (a_node (leaf kind text) ∷ es) tail
read_leaf one b kind text ls es tail mark single_is next = record {
  each = λ at last ts agree h.
      let l : Lexeme = lexeme kind text in
      let f = take_first last ts l (ls ++ tail) h in
      let t = placed_at l f.line f.col f.fresh in
      let o = leaf_own one b t (kind_mark kind text) refl mark single_is in
      let go = subst (λ p. Reads one p ls es tail) (sym o.before) next in
      let r = go.each (end_of_node o.line) (end_after t) f.others o.agree f.rest in
      add_node one b at (single t) o.line (leaf_of t) es tail ts f.others o.one_token o.own f.are r;
}
