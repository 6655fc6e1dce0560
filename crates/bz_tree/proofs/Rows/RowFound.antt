-- The row that the walk finds is that of the statement of its tokens.
use Rattle.std.proofs.Common.{◌≡◌, ℕ, ◌==◌, List, [], ◌∷◌, ◌++◌, map, Bool, true, false, not, ◌&&◌, Option, Some, None, IfSome, IsSome, option_map, option_and_then, refl, sym, ap, subst, ◌∙◌, append-nil}
use Rattle.std.specs.Bool.{then_some}
use Rattle.std.proofs.lemmas.Bool.{false≢true, and_parts, not-true}
use Rattle.bz_token.specs.Places.{Placed}
use Rattle.bz_token.specs.Reading.{AreTokensOf}
use Rattle.bz_tree.specs.declared.tree.GroupKind.{GroupKind}
use Rattle.bz_tree.specs.declared.tree.Class.{Class}
use Rattle.bz_tree.specs.declared.tree.Class.TheVariants.{Comment}
use Rattle.bz_tree.specs.declared.grammar.stage.Stage.TheVariants.{Statement as Begins}
use Rattle.bz_tree.specs.declared.row.Row.{Row}
use Rattle.bz_tree.specs.Tree.{Item, Segment, Statement, items_of}
use Rattle.bz_tree.specs.Kinds.{mark_of}
use Rattle.bz_tree.specs.Statement.{class_of, first_token, first_seen, start_of, end_of, statement_with}
use Rattle.bz_tree.specs.Blocks.{is_block_word}
use Rattle.bz_tree.specs.Chunk.{indent_at, IsBlockOrPlain, IsStatementIn}
use Rattle.bz_tree.specs.Rows.{RowPart, above, beside_part, IsRowOf}
use Rattle.bz_tree.specs.private.Machine.{accepts, may_end, is_statement}
use Rattle.bz_tree.specs.private.Steps.{new_level, run}
use Rattle.bz_tree.specs.private.RowSteps.{start, RowState, row_next_at, RowView, row_view, read_class, is_lost, row_end, row_run, row_start, is_upright}
use Rattle.bz_tree.proofs.Trees.Plain.{plain_is}
use Rattle.bz_tree.proofs.Trees.Sound.{none_is_some, some_injective}
use Rattle.bz_tree.proofs.Rows.RowParts.{Place, none, some, over, Bracket, bracket, read_items, shown, nodes_parts, accepts_read}
use Rattle.bz_tree.proofs.Rows.RowClass.{with_rule, shown_rule, with_rule_accepts, class_is}
use Rattle.bz_tree.proofs.Rows.RowWalk.{level_of, image, IsGoodAt, IsGood, AreGood, next_leads}
use Rattle.bz_token.specs.Common.{map_or}

-- the statement's segment that the walk for the tree finds, and the row
pub record Found (answer : Option Segment) (r : RowView) : Type 0 where
  pub segment : Segment
  pub answer_is : answer ≡ Some segment
  pub parts_are : r.parts ≡ map above segment.before ++ (nodes_parts segment.nodes ++ beside_part segment.suffix)
  pub class_is : r.class ≡ class_of segment.nodes
  pub grammar : is_statement (items_of segment.nodes) ≡ true

abbrev row_of : List RowPart → Class → RowView
row_of ps c = record { parts = ps; class = c }

-- the end of the tokens
class_ends : (ends : Bool) (ps : List RowPart) (c : Class) (r : RowView) → option_map (row_of ps) (then_some ends c) ≡ Some r → (ends ≡ true) × (row_of ps c ≡ r)
class_ends true ps c r h = (refl, some_injective (row_of ps c) r h)
class_ends false ps c r h = absurd (none_is_some r h)

-- the parts of the statement's segment, and the class that the walk finds
segment_found : (before : List (List ℕ)) (x : Item) (xs : List Item) (suffix : Option (List ℕ)) (answer : Option Segment) (ps : List RowPart) (r : RowView) → answer ≡ Some (record { before = before; nodes = with_rule (x ∷ xs); suffix = suffix })
    → ps ≡ map above before ++ (nodes_parts (shown (start None) (x ∷ xs)) ++ beside_part suffix)
    → (let read = read_items (start None) (x ∷ xs) in option_map (row_of ps) (then_some (may_end read.stage && not (is_lost read.naming)) (read_class read)) ≡ Some r) → Found answer r
segment_found before x xs suffix answer ps r answer_is ps_are same =
    let nodes = x ∷ xs in
    let read = read_items (start None) nodes in
    let p = class_ends (may_end read.stage && not (is_lost read.naming)) ps (read_class read) r same in
    let q = and_parts (may_end read.stage) (not (is_lost read.naming)) p.0 in
    let accepted : accepts Begins (items_of nodes) ≡ true = accepts_read nodes (start None) ∙ q.0 in
    record {
      segment = record { before = before; nodes = with_rule nodes; suffix = suffix };
      answer_is = answer_is;
      parts_are = ap (λ (v : RowView). v.parts) (sym p.1) ∙ (ps_are ∙ ap (λ ys. map above before ++ (nodes_parts ys ++ beside_part suffix)) (shown_rule nodes (start None) refl (not-true (is_lost read.naming) q.1)));
      class_is = ap (λ (v : RowView). v.class) (sym p.1) ∙ class_is x xs (start None) refl refl refl accepted;
      grammar = with_rule_accepts nodes Begins ∙ accepted;
    }

top_found : (place : Place) (r : RowView) → IsGoodAt None [] place → row_end None [] (image (bracket None [] place) []) ≡ Some r → Found (run (level_of (bracket None [] place)) [] []) r
top_found (none after) r good same =
    let e = some_injective (row_of (map above after) Comment) r same in
    record {
      segment = record { before = after; nodes = []; suffix = None };
      answer_is = refl;
      parts_are = ap (λ (v : RowView). v.parts) (sym e) ∙ sym (append-nil (map above after));
      class_is = ap (λ (v : RowView). v.class) (sym e);
      grammar = refl;
    }
top_found (some before x xs line) r good same =
    segment_found before x xs None _ _ r
    (ap (λ bs. Some (record { before = bs; nodes = with_rule (x ∷ xs); suffix = None })) (append-nil before))
    (ap (λ ps. map above before ++ ps) (sym (append-nil (nodes_parts (shown (start None) (x ∷ xs))))))
    same
top_found (over before x xs suffix []) r good same =
    segment_found before x xs suffix _ _ r
    (ap (λ bs. Some (record { before = bs; nodes = with_rule (x ∷ xs); suffix = suffix })) (append-nil before))
    (ap (λ ps. map above before ++ (nodes_parts (shown (start None) (x ∷ xs)) ++ ps)) (append-nil (beside_part suffix)))
    same
top_found _ r good same = absurd (false≢true good.1)

end_found : (kind : Option GroupKind) (segs : List Segment) (place : Place) (gs : List Bracket) (r : RowView) → IsGoodAt kind segs place → row_run (image (bracket kind segs place) gs) [] ≡ Some r
    → Found (run (level_of (bracket kind segs place)) (map level_of gs) []) r
end_found None segs place [] r good same =
    subst (λ ss. Found (run (level_of (bracket None ss place)) [] []) r) (sym good.0) (top_found place r (refl, good.1) (ap (λ ss. row_end None [] (image (bracket None ss place) [])) (sym good.0) ∙ same))
end_found _ segs place gs r good same = absurd (none_is_some r same)

abbrev RunFound : List Placed → Type 0
RunFound ts = (g : Bracket) (gs : List Bracket) (r : RowView) → row_run (image g gs) ts ≡ Some r → IsGood g → AreGood gs → Found (run (level_of g) (map level_of gs) ts) r

after_step : (t : Placed) (ts : List Placed) → RunFound ts → (g : Bracket) (gs : List Bracket) (r : RowView) (o : Option RowState) → row_next_at (mark_of t) t (image g gs) ≡ o → option_and_then (λ s. row_run s ts) o ≡ Some r → IsGood g → AreGood gs
    → Found (run (level_of g) (map level_of gs) (t ∷ ts)) r
after_step t ts more g gs r None is same good goods = absurd (none_is_some r same)
after_step t ts more g gs r (Some new) is same good goods =
    let led = next_leads (mark_of t) t refl g gs new is good goods in
    let rest = more led.to led.around r (ap (λ s. row_run s ts) (sym led.state_is) ∙ same) led.good led.goods in
    subst (λ o. Found (option_and_then (λ ls. run ls.0 ls.1 ts) o) r) (sym led.step_is) rest

run_found : (ts : List Placed) → RunFound ts
run_found [] = λ g gs r same good goods. end_found g.kind g.segs g.place gs r good same
run_found (t ∷ ts) = λ g gs r same good goods. after_step t ts (run_found ts) g gs r (row_next_at (mark_of t) t (image g gs)) refl same good goods

-- what the walk finds
pub row_found : (ts : List Placed) (r : RowView) → row_run row_start ts ≡ Some r → Found (run (new_level None) [] ts) r
row_found ts r same = run_found ts (bracket None [] (none [])) [] r same (refl, refl) tt

upright : (o : Option Placed) (ts : List Placed) → is_upright o ≡ true → (indent_at o ts ≡ None) × (map_or false is_block_word o ≡ false)
upright None ts h = (refl, refl)
upright (Some t) ts h =
    let p = and_parts (t.col == 1) (not (is_block_word t)) h in
    let word : is_block_word t ≡ false = not-true (is_block_word t) p.1 in
    (rw (p.0, word) refl, word)

-- the row has the lines of these tokens
abbrev pub StandsOn : List Placed → Row → Type 0
StandsOn ts row = (row.start ≡ start_of ts) × (row.end ≡ end_of ts)

-- the row of a statement that stands upright
abbrev pub IsRowIn : List Placed → Row → Type 0
IsRowIn ts row = (first depth : ℕ) (bytes : List ℕ) → AreTokensOf first depth bytes ts → (s : Statement) × IsStatementIn first depth bytes s × IsRowOf s row

upright_row : (ts : List Placed) (row : Row) → row_run row_start ts ≡ Some (row_view row) → StandsOn ts row → IsSome (first_seen ts) → is_upright (first_token ts) ≡ true → IsRowIn ts row
upright_row ts row same lines seen stands first depth bytes are =
    let found = row_found ts (row_view row) same in
    let s = statement_with ts found.segment in
    let p = upright (first_token ts) ts stands in
    let plain = plain_is ts found.segment s found.answer_is found.grammar refl in (
      s,
      record { tokens = ts; are = are; reads = record { upright = p.0; some = seen; chunk = subst (λ b. IsBlockOrPlain b first bytes ts s) (sym p.1) plain } },
      record { parts = found.parts_are; class = found.class_is; start = lines.0; end = lines.1 },
    )

pub upright_rows : (ts : List Placed) (start end : ℕ) (o : Option Row) → option_map row_view o ≡ row_run row_start ts → IfSome o (λ row. (row.start ≡ start) × (row.end ≡ end)) → start ≡ start_of ts → end ≡ end_of ts → IsSome (first_seen ts) → is_upright (first_token ts) ≡ true → IfSome o (IsRowIn ts)
upright_rows ts start end None same lines starts ends seen stands = tt
upright_rows ts start end (Some row) same lines starts ends seen stands = upright_row ts row (sym same) (lines.0 ∙ starts, lines.1 ∙ ends) seen stands
