-- A statement of the grammar begins with no word of a branch.
use Rattle.std.proofs.Common.{◌≡◌, ℕ, ◌||◌, List, true, false, refl, ap, ◌∙◌}
use Rattle.std.specs.Prelude.{codes}
use Rattle.std.proofs.lemmas.Bool.{false≢true, or_parts}
use Rattle.bz_token.specs.declared.token.Kind.{Kind}
use Rattle.bz_token.specs.declared.token.Kind.TheVariants.{Keyword, String}
use Rattle.bz_token.specs.Lexical.{is_text, keywords, operators}
use Rattle.bz_token.proofs.Classes.{same_bytes}
use Rattle.bz_tree.specs.Grammar as Table
use Rattle.bz_tree.proofs.Recognizer.FromTable.{statement_produced}
use Rattle.bz_tree.specs.private.Productions.{IsLoad, load, IsStatement, comments, load_statement, expression, assignment}
use Rattle.bz_tree.specs.Kinds.{is_load_word}
use Rattle.bz_tree.specs.Tree.{Item, leaf, group, Items, no_items, item}
use Rattle.bz_layout_laws.specs.TextsOfKinds.{HaveTexts}
use Rattle.bz_layout_laws.proofs.BranchWords.{is_branch}
use Rattle.bz_layout_laws.proofs.FirstByte.{begins_branch}
use Rattle.bz_layout_laws.proofs.NoBlock.{begins_operand, is_leading, other_text, both, expr_begins, join_begins}

-- no operand and no prefix is one
none_leads : (kind : Kind) → (is_leading kind (codes "elif") || is_leading kind (codes "else")) ≡ false
unfolding keywords operators
none_leads String = refl
none_leads _ = refl

leading_no_branch : (kind : Kind) (text : List ℕ) → is_leading kind text ≡ true → is_branch text ≡ false
leading_no_branch kind text is =
    let none = or_parts (is_leading kind (codes "elif")) (is_leading kind (codes "else")) (none_leads kind) in
    let no_elif = other_text kind text (codes "elif") none.0 is in
    let no_else = other_text kind text (codes "else") none.1 is in
    rw (no_elif, no_else) refl

operand_no_branch : (xs : Items) → begins_operand xs ≡ true → HaveTexts xs → begins_branch xs ≡ false
operand_no_branch no_items h are = refl
operand_no_branch (item (leaf kind text) xs) h are = leading_no_branch kind text (both (is_text kind text) _ are.0.0 h)
operand_no_branch (item (group kind segs one_comma end) xs) h are = refl

load_no_branch : (w : Item) (xs : Items) → is_load_word w ≡ true → begins_branch (item w xs) ≡ false
load_no_branch (leaf Keyword text) xs is = ap is_branch (same_bytes text (codes "load") is)
load_no_branch (leaf _ text) xs is = absurd (false≢true is)
load_no_branch (group kind segs one_comma end) xs is = refl

load_begins : {xs : Items} → IsLoad xs → begins_branch xs ≡ false
load_begins (load {w} is s args) = load_no_branch w _ is

produced_begins : (xs : Items) → IsStatement xs → HaveTexts xs → begins_branch xs ≡ false
produced_begins xs comments are = refl
produced_begins xs (load_statement l) are = load_begins l
produced_begins xs (expression e) are = operand_no_branch xs (expr_begins e) are
produced_begins xs (assignment {a} {b} s is ea es eb) are = operand_no_branch xs (ap begins_operand is ∙ join_begins a (item s b) (expr_begins ea)) are

pub begins_no_branch : (xs : Items) → Table.IsStatement xs → HaveTexts xs → begins_branch xs ≡ false
begins_no_branch xs h are = produced_begins xs (statement_produced xs h) are
