use Rattle.std.proofs.Common.{◌≡◌, ℕ, List, [], ◌∷◌, Bool, true, false, Option, Some, None, option_map, option_and_then, if◌then◌else◌, Bor, codes, refl, ap, sym, ◌∙◌, rules, tests}
use Rattle.std.specs.List.{find}
use Rattle.std.proofs.lemmas.Iterator.{YieldsList-from_slice}
use Rattle.std.proofs.lemmas.Iterator.Search.{find_from_yields_List}
use Rattle.bz_tree.specs.declared.tree.Seg.{Seg}
use Rattle.bz_tree.specs.Tree.{Segment}
use Rattle.bz_tree.specs.View.{seg_view, segs_view}
use Rattle.bz_label.specs.Values.{value_of}
use Rattle.bz_attribute.specs.Rules.{first_named, is_named, name_in, only_text, string_value, value}
use Rattle.bz_attribute.proofs.marks.name_text.Goals as goal

abbrev name_here : Seg → Bool
name_here s = is_named (codes "name") (seg_view s)

-- the first of a name, before and after it is seen as a segment
first_seen : (args : List Seg) → first_named (codes "name") (segs_view args) ≡ option_map seg_view (find name_here args)
first_seen [] = refl
first_seen (a ∷ args) =
    elim (name_here a) as (λ b. (if b then Some (seg_view a) else first_named (codes "name") (segs_view args)) ≡ option_map seg_view (if b then Some a else find name_here args))
    [ true ↦ refl | false ↦ first_seen args ]

named : (args : List Seg) (first : Option Seg) → first ≡ find name_here args → option_and_then (λ (a : Segment). string_value (value a)) (option_map seg_view first) ≡ name_in (segs_view args)
named args first is = ap (option_and_then (λ (a : Segment). string_value (value a))) (ap (option_map seg_view) is ∙ sym (first_seen args))

pub returns-in_err-arg : goal.returns-in_err-arg
returns-in_err-arg c =
    let at : option_map (λ (b : Bor Seg). b.now) c.find.result ≡ find name_here c.args.args.now = find_from_yields_List name_here _ _ c.find.result c.find.ensures.ran (YieldsList-from_slice c.args.args.now cc) (λ x b q k. search (rules, tests)) in
    let none : None ≡ find name_here c.args.args.now = sym (ap (option_map (λ (b : Bor Seg). b.now)) c.in_err-arg.was) ∙ at in
    let left : c.from_residual.result ≡ None = search rules in
    ap (λ (r : Option (Bor (List ℕ))). option_and_then value_of (option_map (λ text. text.now) r)) left ∙ named c.args.args.now None none

pub returns : goal.returns
returns c =
    let at : option_map (λ (b : Bor Seg). b.now) c.find.result ≡ find name_here c.args.args.now = find_from_yields_List name_here _ _ c.find.result c.find.ensures.ran (YieldsList-from_slice c.args.args.now cc) (λ x b q k. search (rules, tests)) in
    let some : Some c.in_ok-arg.arg.now ≡ find name_here c.args.args.now = sym (ap (option_map (λ (b : Bor Seg). b.now)) c.in_ok-arg.was) ∙ at in
    ap (option_and_then value_of) (c.only_text.ensures ∙ ap only_text c.value_nodes.ensures) ∙ named c.args.args.now (Some c.in_ok-arg.arg.now) some
