use Rattle.std.proofs.Common.{◌≡◌, List, ◌++◌, map, refl, ap, ◌∙◌}
use Rattle.std.proofs.lemmas.Result.{on_ok_weaker}
use Rattle.bz_tree.specs.declared.row.Part.{Part}
use Rattle.bz_tree.specs.View.{view}
use Rattle.bz_tree.specs.Rows.{part_view, parts_of}
use Rattle.bz_layout.proofs.row.put_stmt.Goals as goal

pub returns-clause-appended : goal.returns-clause-appended
returns-clause-appended c =
    let parts : map part_view c.deref.result.now ≡ parts_of (view c.args.stmt.now) = ap (map part_view) c.deref.ensures.value ∙ c.in_ok-push_parts.ensures ∙ ap (λ (ps : List Part). map part_view ps ++ parts_of (view c.args.stmt.now)) c.new-parts.ensures.items in
    on_ok_weaker c.put_parts.result (λ h. h (view c.args.stmt.now) parts refl) c.put_parts.ensures.appended
