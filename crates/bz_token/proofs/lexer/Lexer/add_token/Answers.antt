use Rattle.std.proofs.Common.{◌≡◌, ◌++◌, map, is_ok, sym, refl, ap, ◌∙◌, arith, take-append-drop, append_assoc, not}
use Rattle.std.proofs.ResultArms.{chosen}
use Rattle.std.proofs.lemmas.Str.{IsUtf8-drop}
use Rattle.bz_token.specs.Places.{placed}
use Rattle.bz_token.specs.private.Scans.{opened}
use Rattle.bz_token.proofs.Progress.{places_fit, token_read, newlines_split, same_as}
use Rattle.bz_token.proofs.Innermost.{map_push}
use Rattle.bz_token.proofs.Fitting.{token_fits}
use Rattle.bz_token.proofs.lexer.Lexer.add_token.Goals as goal

pub pass-requires-clause-line_fits : goal.pass-requires-clause-line_fits
pass-requires-clause-line_fits c =
    let here = c.requires.1 in
    let fits = places_fit _ _ _ _ _ _ _ _ _ here.4 in
    let parts = newlines_split c.args.cursor.rest.now c.as_bytes.result.now _ _ (c.as_bytes.ensures.value ∙ c.split_at.ensures.front) c.split_at.ensures.back in
    omega (arith, fits.0, parts.0, here.5.0)

pub pass-requires-clause-col_fits : goal.pass-requires-clause-col_fits
pass-requires-clause-col_fits c =
    let here = c.requires.1 in
    let fits = places_fit _ _ _ _ _ _ _ _ _ here.4 in
    let parts = newlines_split c.args.cursor.rest.now c.as_bytes.result.now _ _ (c.as_bytes.ensures.value ∙ c.split_at.ensures.front) c.split_at.ensures.back in
    omega (arith, fits.1, parts.1, here.5.1)

pub pass-requires-clause-col_counts : goal.pass-requires-clause-col_counts
pass-requires-clause-col_counts c = (places_fit _ _ _ _ _ _ _ _ _ c.requires.1.4).2

pub returns-clause-read : goal.returns-clause-read
returns-clause-read c first depth bytes given outer before found =
    let here = c.args.cursor.rest.now in
    let cut = c.split_at.ensures in
    let token = c.split_at.result.0.now in
    let following = c.split_at.result.1.now in
    let scanned = c.args.scanned in
    let split : c.args.cursor.rest.now ≡ token ++ following = rw (cut.front, cut.back, take-append-drop) refl in
    let whole = rw (← cut.front) at found.1.token.whole in
    let fitting = token_fits depth scanned.kind outer here token following scanned.len found.1.some found.1.within cut.front split whole found.0 found.2 in
    let pushed = chosen _ _ _ _ c.push.ensures.items (ap is_ok c.in_ok-push.was) in
    let utf8 = IsUtf8-drop here scanned.len before.utf8 (found.1.boundary before.utf8) in
    rw (ap (λ ts. given ++ map placed ts) pushed ∙ (ap (λ ts. given ++ ts) (map_push c.args.self.now.tokens.items _) ∙ sym (append_assoc given (map placed c.args.self.now.tokens.items) _)))
    (token_read first depth bytes _ outer (opened c.args.self.now.brackets) c.args.cursor.last_line here token following scanned.kind
    _ _ c.pass.result.line c.pass.result.col c.is_fresh.result before found.0 split (rw (← cut.front, ← cut.back) at found.1.token) fitting.0 (found.3 ∙ fitting.1) (c.is_fresh.ensures ∙ ap not (same_as c.args.cursor.last_line c.args.cursor.place.line)) (rw (← cut.back) at utf8)
    (rw c.as_bytes.ensures.value at c.pass.ensures.line)
    (rw c.as_bytes.ensures.value at c.pass.ensures.col))
