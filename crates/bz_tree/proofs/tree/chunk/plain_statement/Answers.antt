use Rattle.std.proofs.Common.{arith, rules, tests, ◌≤◌, ◌^◌, map, option_map, sym, ap, ◌∙◌}
use Rattle.std.proofs.lemmas.Grind.{common_steps}
use Rattle.bz_token.specs.Places.{placed}
use Rattle.bz_tree.specs.declared.tree.Node.{the_lemmas}
use Rattle.bz_tree.specs.Tree.{Segment, items_of}
use Rattle.bz_tree.specs.Statement.{end_of}
use Rattle.bz_tree.specs.View.{seg_view, nodes_view}
use Rattle.bz_tree.specs.private.Machine.{is_statement}
use Rattle.bz_tree.proofs.Trees.Views.{view-seg}
use Rattle.bz_tree.proofs.Trees.Plain.{end_fits, plain_is, no_plain_tree, no_plain_grammar}
use Rattle.bz_tree.proofs.tree.chunk.plain_statement.Goals as goal

pub returns-in_default-2-clause-none : goal.returns-in_default-2-clause-none
returns-in_default-2-clause-none c = no_plain_tree (map placed c.args.tokens.now) (sym c.in_ok-seg.ensures.value ∙ ap (option_map seg_view) c.in_default-2.is)

pub returns-then-not-accepts-clause-none : goal.returns-then-not-accepts-clause-none
returns-then-not-accepts-clause-none c =
    no_plain_grammar (map placed c.args.tokens.now) (seg_view c.in-Some-2.seg) (sym c.in_ok-seg.ensures.value ∙ ap (option_map seg_view) c.in-Some-2.is)
    (ap (λ (s : Segment). is_statement (items_of s.nodes)) (view-seg c.in-Some-2.seg) ∙ ap (λ ns. is_statement (items_of (nodes_view ns))) (sym c.deref.ensures.value) ∙ sym c.accepts.ensures ∙ c.if-not-accepts.true)

pub returns-in_default-clause-none : goal.returns-in_default-clause-none
returns-in_default-clause-none c =
    let over : 2 ^ 64 ≤ end_of (map placed c.args.tokens.now) = search (rules, tests) in
    absurd (omega (arith, over, end_fits (map placed c.args.tokens.now) c.requires))

pub returns-clause-statement : goal.returns-clause-statement
returns-clause-statement c =
    plain_is (map placed c.args.tokens.now) (seg_view c.in-Some-2.seg) _ (sym c.in_ok-seg.ensures.value ∙ ap (option_map seg_view) c.in-Some-2.is)
    (ap (λ (s : Segment). is_statement (items_of s.nodes)) (view-seg c.in-Some-2.seg) ∙ ap (λ ns. is_statement (items_of (nodes_view ns))) (sym c.deref.ensures.value) ∙ sym c.accepts.ensures ∙ c.if-not-accepts.false)
    (grind (arith, common_steps, the_lemmas))
