use Rattle.std.proofs.Common.{rules, tests, ◌≡◌, List, [], ◌∷◌, length, true, not, nat_eq, refl, ap, sym, arith, ◌∙◌}
use Rattle.std.proofs.lemmas.Bool.Decides.{nat_tests}
use Rattle.bz_tree.specs.declared.tree.GroupKind.{GroupKind}
use Rattle.bz_tree.specs.declared.tree.GroupKind.TheVariants.{Load}
use Rattle.bz_tree.specs.declared.tree.Seg.{Seg}
use Rattle.bz_tree.specs.Kinds.{is_one}
use Rattle.bz_tree.specs.Tree.{Segs, segs_of}
use Rattle.bz_tree.specs.View.{segs_view}
use Rattle.bz_tree.specs.private.Machine.{is_single, is_whole}
use Rattle.bz_tree.proofs.grammar.is_whole.Goals as goal

some_length : (ss : List Seg) → not (nat_eq (length ss) 0) ≡ is_whole Load (segs_of (segs_view ss))
some_length [] = refl
some_length (s ∷ ss) = grind (arith, nat_tests)

single_length : (ss : List Seg) → nat_eq (length ss) 1 ≡ is_single (segs_of (segs_view ss))
single_length [] = refl
single_length (s ∷ []) = refl
single_length (s ∷ r ∷ ss) = grind (arith, nat_tests)

one_single : (kind : GroupKind) (ss : Segs) → is_one kind ≡ true → is_single ss ≡ is_whole kind ss
one_single va vb vc = grind arith

pub returns-in-Load : goal.returns-in-Load
returns-in-Load c = ap not c.is_empty.ensures ∙ (some_length c.args.segs.now ∙ ap (λ kind. is_whole kind (segs_of (segs_view c.args.segs.now))) (sym c.in-Load.is))

pub returns-else-not-is_one : goal.returns-else-not-is_one
returns-else-not-is_one c =
    let one : is_one c.args.kind ≡ true = search (rules, tests) in
    single_length c.args.segs.now ∙ one_single c.args.kind (segs_of (segs_view c.args.segs.now)) one
