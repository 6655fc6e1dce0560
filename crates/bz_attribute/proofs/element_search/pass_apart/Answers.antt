use Rattle.std.proofs.Common.{◌+◌, Some, false, ap, map, refl, rules, sym, ◌∙◌}
use Rattle.bz_tree.specs.Rows.{part_view}
use Rattle.bz_label.specs.Values.{value_of}
use Rattle.bz_token.specs.Common.{map_or}
use Rattle.bz_label.specs.Same.{same}
use Rattle.bz_attribute.specs.private.Parts.{bare_string}
use Rattle.bz_attribute.proofs.ElementSearch.{sought_more}
use Rattle.bz_attribute.proofs.ListElements.{bare_there}
use Rattle.bz_attribute.proofs.Slices.{rest_seen}
use Rattle.bz_attribute.proofs.ValueElements.{next_here}
use Rattle.bz_attribute.proofs.element_search.pass_apart.Goals as goal

pub loop-text-preserved : goal.loop-text-preserved
loop-text-preserved c =
    let ps = map part_view c.args.parts.now in
    let at = c.loop-text.at in
    let text = c.in-Some.text.now in
    record {
      within = search rules;
      after = search rules;
      sought = λ home.
          sought_more home c.args.word.now ps c.args.from at at at (at + 2) (Some text) (c.loop-text.invariant.sought home)
          (λ l after read. next_here ps at at at (at + 2) (Some text) l after refl (bare_there ps at text (ap bare_string (sym (rest_seen c.args.parts.now at)) ∙ sym c.in-Some.ensures.text)) read)
          (sym (c.literal_apart.ensures c.if-not-literal_apart.false home) ∙ (λ i. map_or false (λ value. same home value (c.as_bytes-in-Some.ensures.value i)) (value_of (c.as_bytes.ensures.value i))));
    }
