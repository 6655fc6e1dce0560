use Rattle.std.proofs.Common.{◌∙◌, ap, sym, take, ◌≡◌, true, false, not, refl, Bool, ◌&&◌}
use Rattle.std.specs.List.{prefix_len}
use Rattle.bz_token.specs.declared.token.Kind.TheVariants.{Identifier, Keyword}
use Rattle.bz_token.specs.Lexical.{is_keyword, is_word_byte}
use Rattle.bz_token.proofs.Scanning.{name_scanned, scanned_as}
use Rattle.bz_token.proofs.scan_token.scan_name.Goals as goal

pub returns-then-is_keyword : goal.returns-then-is_keyword
returns-then-is_keyword c =
    let made = c.on_one_line.ensures in
    let word = ap (λ n. is_keyword (take n c.args.bytes.now)) (sym c.word_len-len.ensures) ∙ sym c.if-is_keyword.ensures in
    scanned_as c.args.bytes.now c.on_one_line.result Keyword (prefix_len is_word_byte c.args.bytes.now) made.kind (made.len ∙ c.word_len-len.ensures) made.newline
    (name_scanned Keyword c.args.bytes.now c.requires.unquoted c.requires.word c.requires.no_digit (λ name. word))

pub returns-else-is_keyword : goal.returns-else-is_keyword
returns-else-is_keyword c =
    let made = c.on_one_line-else-is_keyword.ensures in
    let none : is_keyword (take (prefix_len is_word_byte c.args.bytes.now) c.args.bytes.now) ≡ false = ap (λ n. is_keyword (take n c.args.bytes.now)) (sym c.word_len-len.ensures) ∙ sym c.if-is_keyword.ensures in
    scanned_as c.args.bytes.now c.on_one_line-else-is_keyword.result Identifier (prefix_len is_word_byte c.args.bytes.now) made.kind (made.len ∙ c.word_len-len.ensures) made.newline
    (name_scanned Identifier c.args.bytes.now c.requires.unquoted c.requires.word c.requires.no_digit (λ name. both _ _ name none))
  where
    both : (x y : Bool) → x ≡ true → y ≡ false → (x && not y) ≡ true
    both x y a b = rw (a, b) refl
