use Rattle.std.proofs.Common.{sym, subst}
use Rattle.std.specs.Prelude.{IsUtf8}
use Rattle.std.proofs.lemmas.List.{take_rest}
use Rattle.std.proofs.lemmas.Str.{IsUtf8-drop}
use Rattle.bz_devices.proofs.ahead.text_left.Goals as goal

pub returns-then-is_char_boundary-clause-utf8 : goal.returns-then-is_char_boundary-clause-utf8
returns-then-is_char_boundary-clause-utf8 c =
    let text = c.args.text.now in
    subst IsUtf8 (sym (take_rest text c.args.n)) (IsUtf8-drop text c.args.n c.utf8.text (c.is_char_boundary.ensures.test.0 c.if-is_char_boundary.true))
