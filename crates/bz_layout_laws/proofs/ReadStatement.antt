-- The tokens of a statement's text are read as the statement.
use Rattle.std.proofs.Common.{◌≡◌, ℕ, ◌≤◌, List, [], ◌∷◌, ◌++◌, map, Bool, true, false, Option, None, refl, sym, ap, subst, ◌∙◌, append-nil, append_assoc}
use Rattle.std.specs.Prelude.{if◌then◌else◌}
use Rattle.std.proofs.lemmas.Bool.{false≢true}
use Rattle.bz_token.specs.Places.{Placed}
use Rattle.bz_token.specs.Reading.{AreTokensOf}
use Rattle.bz_token.specs.declared.token.Kind.TheVariants.{Operator}
use Rattle.bz_tree.specs.declared.tree.GroupKind.{GroupKind}
use Rattle.bz_tree.specs.declared.tree.GroupKind.TheVariants.{Call, RuleCall}
use Rattle.bz_tree.specs.declared.tree.Class.{Class}
use Rattle.bz_tree.specs.declared.tree.Class.TheVariants.{Load as LoadClass, Assign, Rule, Other as OtherClass, Block}
use Rattle.bz_tree.specs.Kinds.{group_kind, after_item, is_load_word}
use Rattle.bz_tree.specs.declared.tree.kinds.Preceding.{Preceding}
use Rattle.bz_tree.specs.declared.tree.kinds.Preceding.TheVariants.{Other}
use Rattle.bz_tree.specs.Brackets.{with_comma_nodes, without_lines}
use Rattle.bz_tree.specs.Elements.{Elems, elems_tokens, elems_own, AreWell}
use Rattle.bz_tree.specs.Owners.{Inner}
use Rattle.bz_tree.specs.Cells.{Entry, a_node, no_token, entries_of}
use Rattle.bz_tree.specs.Statement.{class_of, is_kept, statement_with, IsStatementOf, is_assign}
use Rattle.bz_tree.specs.Elements.{segment_of}
use Rattle.bz_tree.specs.Tree.{Item, leaf, group, Segment, Statement, items_of, is_rule}
use Rattle.bz_layout_laws.specs.Written.{own_lines, suffix_entry, written_entries}
use Rattle.bz_layout_laws.proofs.WrittenBack.{statement_back, comments_back}
use Rattle.bz_layout_laws.proofs.ChunkLaws.{tree_same}
use Rattle.bz_layout.specs.declared.spacing.Edge.{Edge}
use Rattle.bz_layout.specs.declared.spacing.Edge.TheVariants.{Start}
use Rattle.bz_layout.specs.Walked.{is_broken, segs_hold, edge_after, closing}
use Rattle.bz_layout.specs.Layout.{is_comment, layout_text}
use Rattle.bz_layout_laws.specs.FreeLayout.{Choice, own, breaks_by, inside, following, item_spelled_by, segs_spelled_by, spelled_by, text_by, Stand}
use Rattle.bz_layout_laws.specs.Inside.{without_newlines, own_segment}
use Rattle.bz_layout_laws.specs.Legible.{are_some, IsLegibleItem, AreLegible, IsLegible, depth_of}
use Rattle.bz_layout_laws.specs.Lexemes.{Lexeme, lexeme, comment_lexemes, suffix_lexemes, lexemes_from, token_lexemes}
use Rattle.bz_layout_laws.specs.Parsed.{HasKind, HaveKinds, plain_call, plain_calls, IsParsed}
use Rattle.bz_layout_laws.specs.Spelled.{spelled_statement}
use Rattle.bz_layout_laws.specs.Lineless.{lineless}
use Rattle.bz_layout_laws.proofs.FreeLexemes.{last_comma, item_lexemes_by, items_lexemes_by, segs_lexemes_by, lexemes_by}
use Rattle.bz_layout_laws.proofs.FreeSpelled.{have_for_by, nodes_by, class_by, rule_nodes_by, spelled_own}
use Rattle.bz_layout_laws.proofs.OwnLayout.{text_own}
use Rattle.bz_layout_laws.proofs.ReadGroup.{read_group}
use Rattle.bz_layout_laws.proofs.ReadSteps.{Reads, read_nothing}
use Rattle.bz_layout_laws.proofs.ReadTree.{read_comments, read_end, read_suffix, segs_begin, few_segs, comma_by, item_reads, segs_reads}
use Rattle.bz_layout_laws.proofs.SameInside.{have_nodes}
use Rattle.bz_layout_laws.proofs.Shapes.{rule_shape, tops_have_shapes, own_stands}
use Rattle.bz_layout_laws.proofs.SpelledAgain.{written_again}
use Rattle.bz_layout_laws.proofs.Taken.{agree_none, no_tokens}
use Rattle.bz_layout_laws.proofs.TokensBack.{tokens_by_only}
use Rattle.bz_layout_laws.proofs.Unlined.{lines_out, nodes_none}
use Rattle.bz_layout_laws.proofs.WrittenLine.{free_line_is, free_comments_are}
use Rattle.bz_token.specs.Common.{is_filled}
use Rattle.std.specs.List.{list_any}
use Rattle.bz_tree.proofs.Trees.Nested.{of_tree}

-- the call of a rule is read as a call
top_reads : (b : Preceding) (c : Choice) (x : Item) (ls : List Lexeme) (es : List Entry) (tail : List Lexeme) → IsLegibleItem x → HasKind b (plain_call x) → Reads true (after_item x) ls es tail
    → Reads true b (item_lexemes_by c x ++ ls) (a_node (item_spelled_by c (plain_call x)) ∷ es) tail
top_reads b c (leaf kind text) ls es tail legible kinds next = item_reads true b c (leaf kind text) ls es tail legible (λ e. refl) kinds next
top_reads b c (group RuleCall segs one_comma end) ls es tail legible kinds next =
    let broken = breaks_by c (is_broken RuleCall segs end (segs_hold segs)) in
    let trailing = last_comma broken RuleCall segs one_comma in
    let shape = rule_shape segs one_comma kinds.2 in
    read_group true b Call (segs_spelled_by (inside c) segs) one_comma end trailing (segs_lexemes_by (inside c) trailing segs end) ls es tail kinds.0 (kinds.1 ∙ ap (group_kind kinds.0 b) (sym (have_for_by (inside c) segs)))
    (have_nodes (inside c) RuleCall segs legible.0) (comma_by (inside c) broken RuleCall segs one_comma shape)
    (λ after. segs_reads false RuleCall (inside c) trailing segs end after legible.0 kinds.3 (few_segs broken RuleCall segs one_comma shape))
    (λ after. segs_begin (inside c) RuleCall trailing segs end (lexeme Operator (closing Call) ∷ after) legible.0 refl) next
top_reads b c (group kind segs one_comma end) ls es tail legible kinds next = item_reads true b c (group kind segs one_comma end) ls es tail legible (λ e. refl) kinds next

after_plain : (x : Item) → after_item (plain_call x) ≡ after_item x
after_plain (leaf kind text) = refl
after_plain (group kind segs one_comma end) = refl

tops_read : (b : Preceding) (c : Choice) (within : Option GroupKind) (left : Edge) (xs : List Item) (ls : List Lexeme) (es : List Entry) (tail : List Lexeme) → AreLegible within left (items_of xs) → HaveKinds true b (items_of (plain_calls xs))
    → ((p : Preceding) → Reads true p ls es tail) → Reads true b (items_lexemes_by c (items_of xs) ++ ls) (map a_node (nodes_by c (plain_calls xs)) ++ es) tail
tops_read b c within left [] ls es tail legible kinds next = next b
tops_read b c within left (x ∷ xs) ls es tail legible kinds next =
    let others = items_lexemes_by (following c) (items_of xs) in
    let entries = map a_node (nodes_by (following c) (plain_calls xs)) ++ es in
    let rest = tops_read (after_item (plain_call x)) (following c) within (edge_after within left x) xs ls es tail legible.2 kinds.2 next in
    subst (λ l. Reads true b l (a_node (item_spelled_by (inside c) (plain_call x)) ∷ entries) tail) (sym (append_assoc (item_lexemes_by (inside c) x) others ls))
    (top_reads b (inside c) x (others ++ ls) entries tail legible.1 kinds.1 (subst (λ p. Reads true p (others ++ ls) entries tail) (after_plain x) rest))

-- the segment of a statement as it is spelled, the call of a rule as one that is none
abbrev plain_segment : Choice → Statement → Segment
plain_segment c s = record { before = s.before; nodes = nodes_by c (plain_calls s.nodes); suffix = s.suffix }

-- tokens that are read so are those of a statement
record Tree (c : Choice) (s : Statement) (tokens : List Placed) : Type 0 where
  elems : Elems
  tokens_are : without_lines tokens ≡ elems_tokens elems
  well : AreWell Other elems
  segment : segment_of (elems_own Other elems) ≡ own_segment (spelled_by c s)

finish : (c : Choice) (s : Statement) (tokens : List Placed) → IsParsed s → Tree c s tokens → (t : Statement) × IsStatementOf tokens t × (lineless t ≡ lineless (spelled_by c s))
finish c s tokens parsed tree =
    let found = segment_of (elems_own Other tree.elems) in
    let class : class_of found.nodes ≡ s.class = ap (λ (g : Segment). class_of g.nodes) tree.segment ∙ class_by c s.nodes ∙ sym parsed.class in (
      statement_with tokens found,
      of_tree tokens (statement_with tokens found) (record { elems = tree.elems; tokens_are = tree.tokens_are; well = tree.well; is = refl }),
      λ i. record { before = (tree.segment i).before; nodes = (tree.segment i).nodes; suffix = (tree.segment i).suffix; class = class i; start = 0; end = 0 },
    )

-- tokens whose entries are those of a statement
tree_of : (c : Choice) (s : Statement) (tokens : List Placed) (ls : List Lexeme) (es : List Entry) → lexemes_from None (without_lines tokens) ≡ ls → Reads true Other ls es []
    → ((owns : List Inner) → entries_of no_token (with_comma_nodes true owns) ≡ es → segment_of owns ≡ own_segment (spelled_by c s)) → Tree c s tokens
tree_of c s tokens ls es lexemes reads back =
    let r = reads.each no_token None (without_lines tokens) agree_none (lexemes ∙ sym (append-nil ls)) in
    record {
      elems = r.elems;
      tokens_are = r.tokens ∙ ap (λ us. elems_tokens r.elems ++ us) (no_tokens r.last r.after r.rest) ∙ append-nil (elems_tokens r.elems);
      well = r.well;
      segment = back (elems_own Other r.elems) r.entries;
    }

some_nodes : (c : Choice) (xs : List Item) → are_some (items_of xs) ≡ true → is_filled (nodes_by c (plain_calls xs)) ≡ true
some_nodes c [] h = absurd (false≢true h)
some_nodes c (x ∷ xs) h = refl

-- a statement that has nodes
statement_tree : (c : Choice) (s : Statement) (tokens : List Placed) → IsLegible s → IsParsed s → Stand c (items_of s.nodes) → is_comment s.class ≡ false → lexemes_from None (without_lines tokens) ≡ without_newlines (lexemes_by c s) → Tree c s tokens
statement_tree c s tokens legible parsed stands class lexemes =
    tree_of c s tokens (comment_lexemes s.before ++ (items_lexemes_by c (items_of s.nodes) ++ (suffix_lexemes s.suffix ++ []))) (written_entries false (plain_segment c s ∷ []) [])
    (lexemes ∙ free_line_is c s (nodes_none c s legible stands (tops_have_shapes Other s.nodes parsed.kinds)) class)
    (read_comments true Other s.before (items_lexemes_by c (items_of s.nodes) ++ (suffix_lexemes s.suffix ++ [])) (map a_node (nodes_by c (plain_calls s.nodes)) ++ (suffix_entry s.suffix ++ [])) []
    (tops_read Other c None Start s.nodes (suffix_lexemes s.suffix ++ []) (suffix_entry s.suffix ++ []) [] legible.nodes parsed.kinds (λ p. read_suffix true p s.suffix [] [] [] (read_nothing true p []))))
    (λ owns e. statement_back owns (plain_segment c s) (some_nodes c s.nodes (legible.some class)) e
    ∙ ap (λ xs. record { before = s.before; nodes = xs; suffix = s.suffix }) (sym (rule_nodes_by c (plain_calls s.nodes)) ∙ ap (nodes_by c) (sym parsed.rule)))

-- comment lines alone have none
no_comment : (b : Bool) (m r : Class) → is_comment m ≡ false → is_comment r ≡ false → is_comment (if b then m else r) ≡ false
no_comment true m r p q = p
no_comment false m r p q = q

pub none_there : (xs : List Item) → is_comment (class_of xs) ≡ true → xs ≡ []
none_there [] h = refl
none_there (x ∷ xs) h = absurd (false≢true (sym (no_comment (is_kept x) Block _ refl (no_comment (is_load_word x) LoadClass _ refl (no_comment (list_any is_assign (x ∷ xs)) Assign _ refl (no_comment (is_rule (x ∷ xs)) Rule OtherClass refl refl)))) ∙ h))

comment_tree : (c : Choice) (s : Statement) (tokens : List Placed) → IsParsed s → is_comment s.class ≡ true → lexemes_from None (without_lines tokens) ≡ without_newlines (lexemes_by c s) → Tree c s tokens
comment_tree c s tokens parsed class lexemes =
    let none = none_there s.nodes (ap is_comment (sym parsed.class) ∙ class) in
    tree_of c s tokens (comment_lexemes s.before) (own_lines s.before) (lexemes ∙ free_comments_are c s class) (read_end true Other s.before [])
    (λ owns e. comments_back owns s.before e ∙ λ i. record { before = s.before; nodes = ap (nodes_by c) (sym none) i; suffix = sym (parsed.alone none) i })

tree_is : (c : Choice) (s : Statement) (tokens : List Placed) → IsLegible s → IsParsed s → Stand c (items_of s.nodes) → token_lexemes tokens ≡ lexemes_by c s → Tree c s tokens
tree_is c s tokens legible parsed stands e = by (is_comment s.class) refl
  where
    out : lexemes_from None (without_lines tokens) ≡ without_newlines (lexemes_by c s)
    out = lines_out c s tokens legible stands (tops_have_shapes Other s.nodes parsed.kinds) e

    by : (b : Bool) → is_comment s.class ≡ b → Tree c s tokens
    by true class = comment_tree c s tokens parsed class out
    by false class = statement_tree c s tokens legible parsed stands class out

pub reads_by : (first depth : ℕ) (c : Choice) (s : Statement) (tokens : List Placed) → IsLegible s → IsParsed s → depth_of s ≤ depth → Stand c (items_of s.nodes) → AreTokensOf first depth (text_by c s) tokens
    → (t : Statement) × IsStatementOf tokens t × (lineless t ≡ lineless (spelled_by c s))
reads_by first depth c s tokens legible parsed room stands are =
    finish c s tokens parsed (tree_is c s tokens legible parsed stands (tokens_by_only first depth c s tokens legible room stands (tops_have_shapes Other s.nodes parsed.kinds) are))

-- in the layout's own way
pub statement_reads : (first depth : ℕ) (s : Statement) (tokens : List Placed) → IsLegible s → IsParsed s → depth_of s ≤ depth → AreTokensOf first depth (layout_text s) tokens
    → (t : Statement) × IsStatementOf tokens t × (lineless t ≡ lineless (spelled_statement s))
statement_reads first depth s tokens legible parsed room are =
    let found = reads_by first depth own s tokens legible parsed room (own_stands (items_of s.nodes)) (subst (λ bytes. AreTokensOf first depth bytes tokens) (sym (text_own s)) are) in
    (found.0, found.1, found.2 ∙ ap lineless (spelled_own s))

pub statement_only : (first depth : ℕ) (s t : Statement) (tokens : List Placed) → IsLegible s → IsParsed s → depth_of s ≤ depth → AreTokensOf first depth (layout_text s) tokens → IsStatementOf tokens t
    → (lineless t ≡ lineless (spelled_statement s)) × (layout_text t ≡ layout_text s)
statement_only first depth s t tokens legible parsed room are tree =
    let found = statement_reads first depth s tokens legible parsed room are in
    let same : lineless t ≡ lineless (spelled_statement s) = ap lineless (tree_same tokens t found.0 tree found.1) ∙ found.2 in
    (same, written_again s t same)
