use Rattle.std.proofs.Common.{◌≡◌, ◌+◌, ◌∷◌, ◌++◌, ◌≤◌, [], ◌∙◌, List, true, is_some, length, map, take, drop, drop-drop, ap, sym, refl, false, ℕ, subst, arith}
use Rattle.std.proofs.lemmas.Bool.{false≢true}
use Rattle.std.proofs.lemmas.List.{length-map}
use Rattle.bz_token.specs.declared.token.Kind.TheVariants.{Identifier}
use Rattle.bz_tree.specs.declared.row.Part.{Part}
use Rattle.bz_tree.specs.Rows.{RowPart, a_token, above, beside_part, items_parts, part_view, parts_of, segment_end}
use Rattle.bz_tree.specs.Tree.{Item, leaf, group, Segment, Statement, items_of}
use Rattle.bz_attribute.specs.Rules.{Rule, is_named, is_text, name_of}
use Rattle.bz_attribute.specs.RowEdits.{replaced_at}
use Rattle.bz_attribute.specs.RowPlaces.{HasArgument, IsArgumentAt, IsRuleRow}
use Rattle.bz_attribute.specs.Effects.{edit_first, has, with_args}
use Rattle.bz_rule.specs.Rename.{rename, rename_to}
use Rattle.bz_attribute.specs.declared.done.Done.{Done}
use Rattle.bz_attribute.proofs.EditedAt.{with_args_at}
use Rattle.bz_attribute.proofs.FoundArgs.{group_name}
use Rattle.bz_attribute.proofs.RowEdits.{changed, unchanged}
use Rattle.bz_rule.proofs.NamedArgument.{argument_at, has_found}
use Rattle.bz_rule.proofs.commands.rename.rename.Goals as goal

-- another name: a named argument begins with a token
begins : (name new : List ℕ) (xs : List Item) (rest : List RowPart) → is_text name (name_of xs) ≡ true
    → items_parts (items_of (leaf Identifier new ∷ drop 1 xs)) ++ rest ≡ a_token Identifier new ∷ drop 1 (items_parts (items_of xs) ++ rest)
begins name new [] rest h = absurd cc
begins name new (x ∷ []) rest h = absurd cc
begins name new (leaf k text ∷ y ∷ xs) rest h = refl
begins name new (group k segs one_comma end ∷ y ∷ xs) rest h = absurd (false≢true (sym (ap (is_text name) (group_name k segs one_comma end y xs)) ∙ h))

argument_renamed : (old new : List ℕ) (s : Statement) (r : Rule) (ps : List RowPart) (at : ℕ) → IsRuleRow s r ps → IsArgumentAt old s r at → has new r.args ≡ false
    → take at ps ++ a_token Identifier new ∷ drop (at + 1) ps ≡ parts_of (with_args (rename old new) s)
argument_renamed old new s r ps at h is free =
    let p = argument_at old s r ps at h is in
    let edit : List Segment → List Segment = edit_first (is_named old) (λ a. rename_to new a ∷ []) in
    let same : rename old new r.args ≡ edit r.args = rw (p.there, free) refl in
    let next : drop (at + 1) ps ≡ drop 1 (drop at ps) = sym (drop-drop 1 at ps) in
    (λ i. p.taken i ++ a_token Identifier new ∷ (next ∙ ap (drop 1) p.left) i)
    ∙ ap (λ (qs : List RowPart). (p.front ++ map above p.arg.before) ++ qs) (sym (begins old new p.arg.nodes (segment_end ∷ (beside_part p.arg.suffix ++ p.back)) p.is))
    ∙ sym (p.edited (rename_to new)) ∙ sym (ap parts_of (with_args_at (rename old new) edit s r h.rule same))

pub returns-in_default : goal.returns-in_default
returns-in_default c =
    let ps : List RowPart = map part_view c.args.parts.now in
    let told = c.in_ok-no_attribute.ensures in
    unchanged _ _ ps _ _ _ c.none.ensures (ap (λ (d : Done). d.changed) told)
    (λ s r h. rw (has_found c.args.old.now s r ps c.find_argument.result h (c.find_argument.ensures.found s r h) ∙ ap is_some c.in_default.is) told)

pub returns-then-is_some : goal.returns-then-is_some
returns-then-is_some c =
    let ps : List RowPart = map part_view c.args.parts.now in
    let told = c.in_ok-attribute_exists.ensures in
    unchanged _ _ ps _ _ _ c.none-then-is_some.ensures (ap (λ (d : Done). d.changed) told)
    (λ s r h. rw (
      has_found c.args.old.now s r ps c.find_argument.result h (c.find_argument.ensures.found s r h) ∙ ap is_some c.in-Some.is,
      has_found c.args.new.now s r ps c.find_argument-2.result h (c.find_argument-2.ensures.found s r h) ∙ sym c.is_some.ensures ∙ c.if-is_some.true,
    ) told)

pub returns : goal.returns
returns c =
    let parts : List Part = c.args.parts.now in
    let ps : List RowPart = map part_view parts in
    let at : ℕ = c.in-Some.at in
    let free = λ (s : Statement) (r : Rule) (h : IsRuleRow s r ps). has_found c.args.new.now s r ps c.find_argument-2.result h (c.find_argument-2.ensures.found s r h) ∙ sym c.is_some.ensures ∙ c.if-is_some.false in
    let name : map part_view c.push_token.new.written.items ≡ a_token Identifier c.args.new.now ∷ [] =
    c.in_ok-push_token.ensures ∙ ap (λ (qs : List Part). map part_view qs ++ a_token Identifier c.args.new.now ∷ []) c.clear.ensures.items in
    let within : at + 1 ≤ length parts = grind (arith, c.in-Some.is, c.find_argument.ensures.within) in
    changed _ _ ps _ _ _ c.at.ensures (omega arith, omega (arith, within, length-map parts part_view))
    (λ s r h. ap (λ (new : List RowPart). replaced_at (record { from = at; to = at + 1 }) new ps) name
    ∙ argument_renamed c.args.old.now c.args.new.now s r ps at h (subst (HasArgument c.args.old.now s r) c.in-Some.is (c.find_argument.ensures.found s r h)) (free s r h))
    (λ s r h. rw (has_found c.args.old.now s r ps c.find_argument.result h (c.find_argument.ensures.found s r h) ∙ ap is_some c.in-Some.is, free s r h) refl)
