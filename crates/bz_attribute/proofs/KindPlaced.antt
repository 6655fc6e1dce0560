-- The place of the kind among the parts of its rule.
use Rattle.std.proofs.Common.{◌≡◌, ℕ, ◌+◌, List, [], ◌∷◌, ◌++◌, true, length, map, take, drop, refl, ap, sym, ◌∙◌, arith, append_assoc, length-append}
use Rattle.std.proofs.lemmas.List.{length-map, map-append}
use Rattle.std.proofs.Math.Seq.{drop-append_seam, take-append_seam}
use Rattle.bz_tree.specs.declared.tree.GroupKind.TheVariants.{RuleCall}
use Rattle.bz_tree.specs.Tree.{Statement, items_of, segs_of}
use Rattle.bz_tree.specs.Rows.{RowPart, opening, above, items_parts, segs_parts, parts_of}
use Rattle.bz_attribute.specs.RowPlaces.{IsKindPlace, IsRuleRow}
use Rattle.bz_attribute.specs.Rules.{Rule}
use Rattle.bz_attribute.specs.Effects.{nodes_of}
use Rattle.bz_attribute.specs.private.Parts.{above_len, tokens_len}
use Rattle.bz_attribute.proofs.Lengths.{above_passed, none_above}
use Rattle.bz_attribute.proofs.RuleNodes.{rule_nodes}
use Rattle.bz_attribute.proofs.RuleParts.{after_args, parts_cut, rule_dotted, tokens, tokens_long}

-- the parts from the call on
abbrev call_parts : Statement → Rule → List RowPart
call_parts s r = opening RuleCall ∷ (segs_parts (segs_of r.args) ++ after_args s r)

in_three : (s : Statement) (r : Rule) → nodes_of r ≡ s.nodes → parts_of s ≡ map above s.before ++ (items_parts (items_of r.kind) ++ call_parts s r)
in_three s r nodes =
    let moved : (map above s.before ++ (items_parts (items_of r.kind) ++ opening RuleCall ∷ [])) ++ (segs_parts (segs_of r.args) ++ after_args s r)
    ≡ map above s.before ++ (items_parts (items_of r.kind) ++ call_parts s r) = simp append_assoc in
    parts_cut s r nodes ∙ moved

pub kind_at : (s : Statement) (r : Rule) (ps : List RowPart) (from to : ℕ) → IsRuleRow s r ps → from ≡ above_len ps → to ≡ from + tokens_len (drop from ps) → IsKindPlace s r ps from to
kind_at s r ps from to h from_is to_is =
    let comments : List RowPart = map above s.before in
    let kind : List RowPart = items_parts (items_of r.kind) in
    let call : List RowPart = call_parts s r in
    let nodes : nodes_of r ≡ s.nodes = rule_nodes s.nodes r h.rule in
    let all : ps ≡ comments ++ (kind ++ call) = h.are ∙ in_three s r nodes in
    let joined : comments ++ (kind ++ call) ≡ (comments ++ kind) ++ call = sym (append_assoc comments kind call) in
    let starts : from ≡ length comments =
    omega (arith, from_is ∙ ap above_len all ∙ above_passed s.before (kind ++ call), none_above r.kind RuleCall (segs_parts (segs_of r.args) ++ after_args s r), length-map s.before above) in
    let dropped : drop from ps ≡ kind ++ call = (λ i. drop (starts i) (all i)) ∙ drop-append_seam comments (kind ++ call) in
    let long : tokens_len (drop from ps) ≡ length kind = ap tokens_len dropped ∙ tokens_long r.kind RuleCall _ (tokens true r.kind (rule_dotted s.nodes r h.rule)) in
    let ends : to ≡ length (comments ++ kind) = omega (arith, to_is, long, starts, length-append comments kind) in
    let taken : take from ps ≡ comments = (λ i. take (starts i) (all i)) ∙ take-append_seam comments (kind ++ call) in
    let left : drop to ps ≡ call = (λ i. drop (ends i) ((all ∙ joined) i)) ∙ drop-append_seam (comments ++ kind) call in
    let args : List RowPart = segs_parts (segs_of r.args) ++ after_args s r in
    let moved : comments ++ (kind ++ call) ≡ (comments ++ (kind ++ opening RuleCall ∷ [])) ++ args = simp append_assoc in
    let after : to + 1 ≡ length (comments ++ (kind ++ opening RuleCall ∷ [])) =
    omega (arith, ends, length-append comments kind, length-append comments (kind ++ opening RuleCall ∷ []), length-append kind (opening RuleCall ∷ [])) in
    record {
      kind = λ new.
          let r2 : Rule = record r { kind = new } in
          (λ i. taken i ++ (items_parts (items_of new) ++ left i)) ∙ sym (in_three (record s { nodes = nodes_of r2 }) r2 refl);
      line = λ line.
          let more : comments ++ above line ∷ (kind ++ call) ≡ map above (s.before ++ line ∷ []) ++ (kind ++ call) =
          sym (append_assoc comments (above line ∷ []) (kind ++ call)) ∙ ap (λ (qs : List RowPart). qs ++ (kind ++ call)) (sym (map-append above s.before (line ∷ []))) in
          (λ i. taken i ++ above line ∷ dropped i) ∙ more ∙ sym (in_three (record s { before = s.before ++ line ∷ [] }) r nodes);
      call =
          let opened : ps ≡ (comments ++ (kind ++ opening RuleCall ∷ [])) ++ args = all ∙ moved in
          (λ i. take (after i) (opened i)) ∙ take-append_seam (comments ++ (kind ++ opening RuleCall ∷ [])) args;
      before_call = omega (arith, ap length all, ends, length-append comments (kind ++ call), length-append kind call, length-append comments kind);
    }
