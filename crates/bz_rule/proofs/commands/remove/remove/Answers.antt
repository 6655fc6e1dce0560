use Rattle.std.proofs.Common.{false, ◌≡◌, ℕ, List, [], ◌∷◌, map, arith, ap, sym, ◌∙◌}
use Rattle.bz_tree.specs.Rows.{part_view}
use Rattle.bz_rule.specs.private.StringEdits.{equals_one, equals_word}
use Rattle.bz_rule.proofs.Meanings.{no_words, one_alone, one_word, rows_dropped, rows_removed_some}
use Rattle.bz_rule.specs.private.ArgumentEdits.{goes_by, kept}
use Rattle.bz_rule.proofs.PlaceEdits.{every_row}
use Rattle.bz_rule.proofs.WrittenParts.{ok_as}
use Rattle.bz_rule.proofs.commands.remove.remove.Goals as goal
use Rattle.bz_token.specs.Common.{map_or}

pub returns-in-empty : goal.returns-in-empty
returns-in-empty c =
    ok_as (λ e h. rows_dropped c.args.env.home.now c.args.attributes.now c.args.values.now (map part_view c.args.parts.now) (map part_view c.edit_in.new.new.items) e (no_words c.args.values.now (omega (arith, c.in-empty.len_below)))
    (every_row (kept c.args.attributes.now) (goes_by c.args.attributes.now) c.all_arguments.result (map part_view c.args.parts.now) (map part_view c.edit_in.new.new.items) e h c.all_arguments.ensures.place)) c.edit_in.result c.edit_in.ensures

pub returns-in-len1 : goal.returns-in-len1
returns-in-len1 c =
    let one : c.args.values.now ≡ c.as_str.result.now ∷ [] =
    one_alone c.args.values.now c.word-item.result _ (omega (arith, c.in-len1.len_at_least)) (omega (arith, c.in-len1.len_below)) c.word-item.is ∙ ap (λ (v : List ℕ). v ∷ []) (sym c.as_str.ensures) in
    ok_as
    (λ e h. rows_removed_some c.args.env.home.now c.args.attributes.now c.args.values.now (map_or false (equals_word c.args.env.home.now c.as_str.result.now)) (map part_view c.args.parts.now) (map part_view c.edit_strings.new.new.items) e (omega (arith, c.in-len1.len_at_least))
    (one_word c.args.env.home.now c.as_str.result.now ∙ ap (λ (words : List (List ℕ)). map_or false (equals_one c.args.env.home.now words)) (sym one)) h)
    c.edit_strings.result c.edit_strings.ensures

pub returns-in_ok-words-in_default : goal.returns-in_ok-words-in_default
returns-in_ok-words-in_default c =
    ok_as
    (λ e h. rows_removed_some c.args.env.home.now c.args.attributes.now c.args.values.now (map_or false (equals_one c.args.env.home.now c.in_ok-words-in_default.words.words.now)) (map part_view c.args.parts.now) (map part_view c.edit_strings-in_default.new.new.items) e (omega (arith, c.in_default.len_at_least))
    (ap (λ (words : List (List ℕ)). map_or false (equals_one c.args.env.home.now words)) c.in_ok-words-in_default.ensures) h)
    c.edit_strings-in_default.result c.edit_strings-in_default.ensures
