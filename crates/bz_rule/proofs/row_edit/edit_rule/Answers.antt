use Rattle.std.proofs.Common.{◌≡◌, ◌-◌, ◌+◌, ◌∙◌, ◌++◌, ◌≤◌, [], ℕ, List, true, length, map, take, drop, ap, refl, sym, subst, IfOk, rules, arith}
use Rattle.std.proofs.lemmas.List.{length-drop, length-map}
use Rattle.std.proofs.lemmas.Result.{IfOk-weaker}
use Rattle.bz_tree.specs.Tree.{Statement}
use Rattle.bz_tree.specs.Rows.{RowPart, above, part_view, parts_of}
use Rattle.bz_token.specs.Common.{map_or}
use Rattle.bz_attribute.specs.Heads.{HasHead}
use Rattle.bz_attribute.specs.Rules.{kind_text, rule_of}
use Rattle.bz_attribute.specs.RowEdits.{IsWithin, replaced_at}
use Rattle.bz_attribute.specs.RowPlaces.{IsRuleRow}
use Rattle.bz_attribute.proofs.Slices.{rest_seen}
use Rattle.bz_rule.specs.private.RowEdits.{edits_arguments}
use Rattle.bz_label.specs.declared.arguments.Commented.TheVariants.{Rule as Above}
use Rattle.bz_rule.specs.declared.command.Action.TheVariants.{Comment}
use Rattle.bz_rule.proofs.Below.{after_off, below, first_off, fits_parts, parts_below, replaced_behind, told_below}
use Rattle.bz_rule.proofs.RowEdited.{IsEditOf, arguments_edited, comment_edited, kind_known, some_rule}
use Rattle.bz_rule.proofs.row_edit.edit_rule.Goals as goal
use Rattle.bz_rule.proofs.row_edit.edit_rule.Goals.{in-None, in-Some, in-Set-ToKind, in-Comment-Rule-default, in_default, in_default-via-in-Set+in_default, in_default-via-in-Comment+in_default, in_default-via-in_default}

parts_len : (c : goal.In_ok-edit) → length (parts_of c.args.stmt.now) ≡ length c.deref.result.now
parts_len c = sym (ap length (ap (map part_view) c.deref.ensures.value ∙ c.stmt.invariant.are ∙ ap parts_of c.stmt.view_is)) ∙ length-map c.deref.result.now part_view

-- the place that the command told, behind the comments
placed : (c : goal.In_ok-edit) → (c.in_ok-edit.edit.place.from ≤ c.in_ok-edit.edit.place.to) × (c.stmt.inside.comments + c.in_ok-edit.edit.place.to ≤ length (parts_of c.args.stmt.now))
placed c =
    let s = c.args.stmt.now in
    let n : ℕ = c.stmt.inside.comments in
    let items = c.deref.result.now in
    let rest : List RowPart = map part_view (take (length items - n) (drop n items)) in
    let are : map part_view items ≡ parts_of s = ap (map part_view) c.deref.ensures.value ∙ c.stmt.invariant.are ∙ ap parts_of c.stmt.view_is in
    let fits = fits_parts n s (subst (λ (z : Statement). n ≤ length z.before) c.stmt.view_is c.stmt.invariant.below) in
    let told : IfOk c.match-command.branch' (λ e. IsWithin e.place rest) = elim c.match-command.branch [
      | in-Set-ToKind w ↦ rw w.branch'-is w.set_kind.ensures.within
      | in-Comment-Rule-default w ↦ rw w.branch'-is w.comment_rule.ensures.within
      | in_default w ↦ rw w.branch'-is (IfOk-weaker w.edit_arguments.result _ _ (λ e h. h.within) w.edit_arguments.ensures)
    ] in
    let within = rw c.in_ok-edit.was at told in
    (within.0, omega (arith, within.1, fits, ap length (rest_seen items n), length-drop n (map part_view items), ap length are))

pub overflow_add-edit : goal.overflow_add-edit
overflow_add-edit c = let p = placed c in omega (arith, parts_len c)

pub overflow_add-edit-2 : goal.overflow_add-edit-2
overflow_add-edit-2 c = let p = placed c in omega (arith, parts_len c)

pub returns-clause-within : goal.returns-clause-within
returns-clause-within c = let p = placed c in (omega arith, p.1)

pub returns-clause-edit : goal.returns-clause-edit
returns-clause-edit c =
    let i = c.stmt.inside in
    let s = c.args.stmt.now in
    let n : ℕ = i.comments in
    let command = c.args.command.now in
    let home = c.args.env.home.now in
    let kind = c.match-stmt.kind.now in
    let items = c.deref.result.now in
    let ps : List RowPart = map part_view items in
    let rest : List RowPart = map part_view (take (length items - n) (drop n items)) in
    let are : ps ≡ parts_of s = ap (map part_view) c.deref.ensures.value ∙ c.stmt.invariant.are ∙ ap parts_of c.stmt.view_is in
    let fits : n ≤ length s.before = subst (λ (z : Statement). n ≤ length z.before) c.stmt.view_is c.stmt.invariant.below in
    let r = some_rule (rule_of s.nodes) c.requires.rule in
    let known : kind ≡ map_or [] (λ h. h.kind.now) i.head = elim c.match-stmt.branch [
      | in-None w ↦ rw (w.kind-is, w.in-None.is) refl
      | in-Some w ↦ rw (w.kind-is, w.in-Some.is) refl
    ] in
    let kind_is : kind_text r.0.kind ≡ kind = kind_known i.head s r.0 (subst (HasHead i.head) c.stmt.view_is c.stmt.invariant.has) r.1 ∙ sym known in
    let new : List RowPart = map part_view c.match-command.new.items in
    let edited : IfOk c.match-command.branch' (IsEditOf command home kind rest new) = elim c.match-command.branch [
      | in-Set-ToKind w ↦ rw (w.branch'-is, w.new-is) (search rules)
      | in-Comment-Rule-default w ↦
          let is : command ≡ Comment Above w.as_str-in-Comment-Rule-default.result.now = search rules in
          rw (w.branch'-is, w.new-is, is) (comment_edited _ home kind rest _ w.comment_rule.result w.comment_rule.ensures.within w.comment_rule.ensures.parts w.comment_rule.ensures.done)
      | in_default w ↦
          let edits : edits_arguments command ≡ true = elim w.in_default.branch [
            | in_default-via-in-Set+in_default v ↦ search rules
            | in_default-via-in-Comment+in_default v ↦ search rules
            | in_default-via-in_default v ↦ search rules
          ] in
          rw (w.branch'-is, w.new-is) (IfOk-weaker w.edit_arguments.result _ _
          (λ e h. arguments_edited command home kind rest (map part_view w.edit_arguments.new.written.items) e edits h) (rw c.command.view_is at w.edit_arguments.ensures))
    ] in
    let edit = rw c.in_ok-edit.was at edited in
    let place = c.in_ok-edit.edit.place in
    let seen = rest_seen items n in
    let row : IsRuleRow (below n s) r.0 rest = record { are = seen ∙ ap (drop n) are ∙ parts_below n s fits; rule = r.1 } in
    record {
      parts = λ changed.
          ap (replaced_at (record { from = n + place.from; to = n + place.to }) new) (sym are)
          ∙ replaced_behind n place ps new (subst (λ (qs : List RowPart). n ≤ length qs) (sym are) (fits_parts n s fits))
          ∙ (λ i. (ap (take n) are ∙ first_off n s fits) i ++ replaced_at place new (sym seen i))
          ∙ ap (λ (qs : List RowPart). map above (take n s.before) ++ qs) (edit.parts (below n s) r.0 row kind_is changed)
          ∙ sym (after_off command home n s fits);
      done = edit.done (below n s) r.0 row kind_is ∙ told_below command home n s c.requires.edits;
    }
