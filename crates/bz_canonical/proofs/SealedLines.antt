-- Rules whose arguments are written the same are written the same; a sealed argument has the lines of another.
use Rattle.std.proofs.Common.{◌≡◌, ◌≤◌, ℕ, suc, List, [], ◌∷◌, ◌++◌, Bool, true, false, length, refl, sym, ap, ◌∙◌, arith, append_assoc, append-nil}
use Rattle.std.proofs.lemmas.Bool.{false≢true}
use Rattle.std.proofs.lemmas.Bool.Decides.{nat_tests}
use Rattle.std.specs.Prelude.{◌||◌, codes, nat_le, Option, Some, None, if◌then◌else◌}
use Rattle.bz_token.specs.Common.{is_empty, is_filled}
use Rattle.bz_token.specs.declared.token.Kind.TheVariants.{Newline, Operator}
use Rattle.bz_tree.specs.declared.tree.GroupKind.TheVariants.{RuleCall}
use Rattle.bz_tree.specs.Tree.{Item, group, leaf, Segs, Segment, Statement, items_of, segs_of}
use Rattle.bz_layout.specs.declared.spacing.Edge.{Edge}
use Rattle.bz_layout.specs.declared.spacing.Edge.TheVariants.{Start}
use Rattle.bz_layout.specs.declared.spacing.Gap.{Gap}
use Rattle.bz_layout.specs.declared.spacing.Gap.TheVariants.{Closed, Line}
use Rattle.bz_layout.specs.declared.broken.Style.TheVariants.{Broken}
use Rattle.bz_layout.specs.Walked.{count, have_comments, is_broken, segs_hold, broken_segs, item_pieces, items_pieces, statement_line, edge_after, gap_before}
use Rattle.bz_layout.proofs.SameLayout.{layout_text_is}
use Rattle.bz_layout.specs.Layout.{breaks, is_comment, layout_text}
use Rattle.bz_layout.specs.Pieces.{Piece, piece, bytes_of, comment_lines, comments, gap_bytes, suffix_piece}
use Rattle.bz_layout.proofs.Pieces.{bytes_append}
use Rattle.bz_attribute.specs.Effects.{nodes_of}
use Rattle.bz_attribute.specs.Rules.{Rule, rule_of}
use Rattle.bz_attribute.proofs.RuleNodes.{rule_nodes}
use Rattle.bz_canonical.specs.Canonical.{argument_lines}
use Rattle.bz_canonical.specs.SealedArguments.{beside_text, lines_around, own_lines, sealed_argument}

count_is : (args : List Segment) → count (segs_of args) ≡ length args
count_is [] = refl
count_is (a ∷ args) = ap suc (count_is args)

two_counted : (n m : ℕ) → n ≡ m → 2 ≤ m → nat_le 2 n ≡ true
two_counted n m is two = grind (arith, nat_tests, is, two)

-- What keeps a call of these arguments on lines: comments of them, or that they are two or more.
abbrev pub StayOnLines : List Segment → Type 0
StayOnLines args = (have_comments (segs_of args) || nat_le 2 (count (segs_of args))) ≡ true

pub comments_stay : (args : List Segment) → have_comments (segs_of args) ≡ true → StayOnLines args
comments_stay args are = rw are refl

pub two_stay : (args : List Segment) → 2 ≤ length args → StayOnLines args
two_stay args two = either (have_comments (segs_of args)) (nat_le 2 (count (segs_of args))) (two_counted _ _ (count_is args) two)
  where
    either : (c n : Bool) → n ≡ true → (c || n) ≡ true
    either true n is = refl
    either false n is = is

on_lines : (e c n x : Bool) → (c || n) ≡ true → (e || c || n || x) ≡ true
on_lines true c n x h = refl
on_lines false true n x h = refl
on_lines false false true x h = refl
on_lines false false false x h = absurd (false≢true h)

-- such a call stands on lines, whatever its arguments are
call_lines : (gap : Gap) (args : List Segment) (one_comma : Bool) (end : List (List ℕ)) → StayOnLines args
    → bytes_of (item_pieces Broken 0 gap (group RuleCall (segs_of args) one_comma end))
    ≡ gap_bytes gap ++ (40 ∷ (argument_lines args ++ bytes_of (comments 1 end ++ piece (Line 0) Operator (codes ")") ∷ [])))
call_lines gap args one_comma end stay =
    whole (segs_of args) (is_broken RuleCall (segs_of args) end (segs_hold (segs_of args)))
    (on_lines (is_filled end) (have_comments (segs_of args)) (nat_le 2 (count (segs_of args))) _ stay) _
  where
    whole : (ss : Segs) (b : Bool) → b ≡ true → (A : List Piece)
        → gap_bytes gap ++ (40 ∷ bytes_of (if breaks Broken b then broken_segs Broken 1 RuleCall true ss ++ (comments 1 end ++ piece (Line 0) Operator (codes ")") ∷ []) else A))
        ≡ gap_bytes gap ++ (40 ∷ (bytes_of (broken_segs Broken 1 RuleCall true ss) ++ bytes_of (comments 1 end ++ piece (Line 0) Operator (codes ")") ∷ [])))
    whole ss b on A = rw (on, bytes_append (broken_segs Broken 1 RuleCall true ss) (comments 1 end ++ piece (Line 0) Operator (codes ")") ∷ [])) refl

call_same : (args others : List Segment) (one_comma : Bool) (end : List (List ℕ)) → argument_lines args ≡ argument_lines others → StayOnLines args → StayOnLines others
    → (gap : Gap) → bytes_of (item_pieces Broken 0 gap (group RuleCall (segs_of args) one_comma end)) ≡ bytes_of (item_pieces Broken 0 gap (group RuleCall (segs_of others) one_comma end))
call_same args others one_comma end same stay others_stay gap =
    call_lines gap args one_comma end stay
    ∙ ap (λ (t : List ℕ). gap_bytes gap ++ (40 ∷ (t ++ bytes_of (comments 1 end ++ piece (Line 0) Operator (codes ")") ∷ [])))) same
    ∙ sym (call_lines gap others one_comma end others_stay)

-- the call after the kind
nodes_same : (args others : List Segment) (one_comma : Bool) (end : List (List ℕ))
    → ((gap : Gap) → bytes_of (item_pieces Broken 0 gap (group RuleCall (segs_of args) one_comma end)) ≡ bytes_of (item_pieces Broken 0 gap (group RuleCall (segs_of others) one_comma end)))
    → (first : Gap) (left : Edge) (kind : List Item)
    → bytes_of (items_pieces Broken 0 None first left (items_of (kind ++ group RuleCall (segs_of args) one_comma end ∷ [])))
    ≡ bytes_of (items_pieces Broken 0 None first left (items_of (kind ++ group RuleCall (segs_of others) one_comma end ∷ [])))
nodes_same args others one_comma end same first left [] =
    let gap : Gap = gap_before first left (group RuleCall (segs_of args) one_comma end) in
    bytes_append (item_pieces Broken 0 gap (group RuleCall (segs_of args) one_comma end)) []
    ∙ ap (λ (t : List ℕ). t ++ []) (same gap)
    ∙ sym (bytes_append (item_pieces Broken 0 gap (group RuleCall (segs_of others) one_comma end)) [])
nodes_same args others one_comma end same first left (x ∷ kind) =
    let here : List Piece = item_pieces Broken 0 (gap_before first left x) x in
    bytes_append here (items_pieces Broken 0 None first (edge_after None left x) (items_of (kind ++ group RuleCall (segs_of args) one_comma end ∷ [])))
    ∙ ap (λ (t : List ℕ). bytes_of here ++ t) (nodes_same args others one_comma end same first (edge_after None left x) kind)
    ∙ sym (bytes_append here (items_pieces Broken 0 None first (edge_after None left x) (items_of (kind ++ group RuleCall (segs_of others) one_comma end ∷ []))))

-- what stands before and after the nodes
text_same : (s : Statement) (nodes : List Item)
    → bytes_of (items_pieces Broken 0 None Closed Start (items_of s.nodes)) ≡ bytes_of (items_pieces Broken 0 None Closed Start (items_of nodes))
    → layout_text s ≡ layout_text (record s { nodes = nodes })
text_same s nodes same =
    layout_text_is s
    ∙ bytes_append (comment_lines s.before) (if is_comment s.class then [] else statement_line s)
    ∙ ap (λ (t : List ℕ). bytes_of (comment_lines s.before) ++ t) (by (is_comment s.class))
    ∙ sym (bytes_append (comment_lines s.before) (if is_comment s.class then [] else statement_line (record s { nodes = nodes })))
    ∙ sym (layout_text_is (record s { nodes = nodes }))
  where
    end : List Piece
    end = suffix_piece s.suffix ++ piece Closed Newline (codes "\n") ∷ []

    by : (b : Bool) → bytes_of (if b then [] else statement_line s) ≡ bytes_of (if b then [] else statement_line (record s { nodes = nodes }))
    by true = refl
    by false =
        bytes_append (items_pieces Broken 0 None Closed Start (items_of s.nodes)) end
        ∙ (λ i. same i ++ bytes_of end)
        ∙ sym (bytes_append (items_pieces Broken 0 None Closed Start (items_of nodes)) end)

-- Rules that differ in their arguments alone, which have the same lines, are written the same where both stay on lines.
pub rules_written_same : (s t : Statement) (rule : Rule) (args : List Segment) → rule_of s.nodes ≡ Some rule → rule_of t.nodes ≡ Some (record rule { args = args })
    → t ≡ record s { nodes = t.nodes } → argument_lines rule.args ≡ argument_lines args → StayOnLines rule.args → StayOnLines args → layout_text s ≡ layout_text t
rules_written_same s t rule args is is_other rest same stay others_stay =
    let from : nodes_of rule ≡ s.nodes = rule_nodes s.nodes rule is in
    let to : nodes_of (record rule { args = args }) ≡ t.nodes = rule_nodes t.nodes (record rule { args = args }) is_other in
    text_same s t.nodes (
    ap (λ (xs : List Item). bytes_of (items_pieces Broken 0 None Closed Start (items_of xs))) (sym from)
    ∙ nodes_same rule.args args rule.one_comma rule.end (call_same rule.args args rule.one_comma rule.end same stay others_stay) Closed Start rule.kind
    ∙ ap (λ (xs : List Item). bytes_of (items_pieces Broken 0 None Closed Start (items_of xs))) to
    )
    ∙ ap layout_text (sym rest)

-- with the same arguments they are the same
pub rules_same : (s t : Statement) (rule : Rule) (args : List Segment) → rule_of s.nodes ≡ Some rule → rule_of t.nodes ≡ Some (record rule { args = args })
    → t ≡ record s { nodes = t.nodes } → rule.args ≡ args → s ≡ t
rules_same s t rule args is is_other rest same =
    let nodes : s.nodes ≡ t.nodes = sym (rule_nodes s.nodes rule is) ∙ ap (λ (xs : List Segment). nodes_of (record rule { args = xs })) same ∙ rule_nodes t.nodes (record rule { args = args }) is_other in
    (λ i. record s { nodes = nodes i }) ∙ sym rest

-- what is written of a sealed argument
beside_is : (suffix : Option (List ℕ)) → bytes_of (suffix_piece suffix ++ []) ≡ beside_text suffix
beside_is None = refl
beside_is (Some comment) = ap (λ (t : List ℕ). 32 ∷ 32 ∷ t) (append-nil comment)

pub sealed_lines : (text : List ℕ) (suffix : Option (List ℕ)) → argument_lines (sealed_argument text suffix ∷ []) ≡ lines_around text suffix
sealed_lines text suffix = ap (λ (t : List ℕ). codes "\n    " ++ (text ++ (codes "," ++ t))) (beside_is suffix)

-- what stands after the gap of the first piece
abbrev first_text : List Piece → List ℕ
first_text [] = []
first_text (p ∷ ps) = p.text ++ bytes_of ps

-- an argument that has nodes begins on a line of its own
nodes_begin : (nodes : List Item) → is_empty nodes ≡ false
    → bytes_of (items_pieces Broken 1 (Some RuleCall) (Line 1) Start (items_of nodes)) ≡ codes "\n    " ++ first_text (items_pieces Broken 1 (Some RuleCall) (Line 1) Start (items_of nodes))
nodes_begin [] some = absurd cc
nodes_begin (leaf kind text ∷ xs) some = refl
nodes_begin (group kind segs one_comma end ∷ xs) some = refl

-- the same as lines of their own
pub own_lines_are : (a : Segment) (text : List ℕ) → argument_lines (a ∷ []) ≡ lines_around text a.suffix → argument_lines (a ∷ []) ++ 10 ∷ [] ≡ 10 ∷ own_lines text a.suffix
own_lines_are a text is = ap (λ (t : List ℕ). t ++ 10 ∷ []) is ∙ ap (λ (t : List ℕ). codes "\n    " ++ t) (append_assoc text (codes "," ++ beside_text a.suffix) (10 ∷ []))

-- a token that has an argument's lines is written as the argument is
pub seals : (a : Segment) (text : List ℕ) → argument_lines (a ∷ []) ≡ lines_around text a.suffix → argument_lines (a ∷ []) ≡ argument_lines (sealed_argument text a.suffix ∷ [])
seals a text is = is ∙ sym (sealed_lines text a.suffix)
