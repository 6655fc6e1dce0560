-- The recognizer accepts the statements of the grammar, and nothing else.
use Rattle.std.proofs.Common.{◌≡◌, true, false, cond, refl, ap, ◌∙◌}
use Rattle.std.proofs.lemmas.Bool.{false≢true, and_from}
use Rattle.bz_tree.specs.declared.tree.GroupKind.TheVariants.{Load}
use Rattle.bz_tree.specs.declared.grammar.role.Role.{Role}
use Rattle.bz_tree.specs.declared.grammar.role.Role.TheVariants.{Name, Value, Comma, Equals, Augmented, LoadWord, LoadGroup, Stray}
use Rattle.bz_tree.specs.declared.grammar.stage.Goal.{Goal}
use Rattle.bz_tree.specs.declared.grammar.stage.Goal.TheVariants.{Left, Right}
use Rattle.bz_tree.specs.declared.grammar.stage.Stage.TheVariants.{Statement, Wants, Loads, Text, LoadArgument, Renames}
use Rattle.bz_tree.specs.Tree.{Item, leaf, group, Items, no_items, item, Segs, seg}
use Rattle.bz_tree.specs.Kinds.{is_load_word}
use Rattle.bz_tree.specs.private.Productions.{token_role, leaf_role, is_assignment, join, IsExpr, last_test, test, IsString, string, IsLoadArg, loaded, renamed, AreLoadArgs, no_load_arg, load_arg, IsLoad, load, IsStatement, comments, load_statement, expression, assignment}
use Rattle.bz_tree.specs.private.Machine.{accepts, role_of, each, after_goal, next_wanted, next, is_statement}
use Rattle.bz_tree.proofs.Recognizer.Accepted.{join_assoc, role_known, step, refused, leave, whole, Accepts, is_test_part, test_run}
use Rattle.bz_tree.specs.Grammar as Table
use Rattle.bz_tree.proofs.Recognizer.Meant.{statement_read}
use Rattle.bz_tree.proofs.Recognizer.InTable.{statement_form}
use Rattle.bz_tree.proofs.Recognizer.FromTable.{statement_produced}

-- expressions
expr_run : {xs : Items} → IsExpr xs → (p : Goal) (r : Items) → is_test_part p ≡ true → after_goal p Comma ≡ Wants p false → Accepts p false r → accepts (Wants p false) (join xs r) ≡ true
expr_run (last_test t) p r of_test e acc = test_run t p r of_test acc
expr_run (test {xs} {a} {b} c is t rc more) p r of_test e acc =
    rw (is, join_assoc a (item c b) r) (test_run t p (item c (join b r)) of_test (leave p false c (join b r) Comma (Wants p false) (role_known c Comma rc refl) e e (expr_run more p r of_test e acc)))

operator_run : (s : Item) (r : Role) → token_role s ≡ r → is_assignment r ≡ true → (xs : Items) → accepts (Wants Right false) xs ≡ true → Accepts Left false (item s xs)
operator_run s Equals e is xs h = leave Left false s xs Equals (Wants Right false) (role_known s Equals e refl) refl refl h
operator_run s Augmented e is xs h = leave Left false s xs Augmented (Wants Right false) (role_known s Augmented e refl) refl refl h
operator_run s _ e is xs h = absurd (false≢true is)

-- loads
string_run : {xs : Items} → IsString xs → accepts Text xs ≡ true
string_run (string {x} e) = step Text x no_items Value (role_known x Value e refl) refl

load_arg_run : {xs : Items} → IsLoadArg xs → accepts LoadArgument xs ≡ true
load_arg_run (loaded (string {x} e)) = step LoadArgument x no_items Value (role_known x Value e refl) refl
load_arg_run (renamed {n} {e} {xs} en ee s) = step LoadArgument n (item e xs) Name (role_known n Name en refl) (step Renames e xs Equals (role_known e Equals ee refl) (string_run s))

load_args_run : {segs : Segs} → AreLoadArgs segs → each LoadArgument segs ≡ true
load_args_run no_load_arg = refl
load_args_run (load_arg a as_) = and_from _ _ (load_arg_run a) (load_args_run as_)

pub load_word : (w : Item) → is_load_word w ≡ true → role_of w ≡ LoadWord
load_word (leaf kind text) is = ap (λ b. cond b LoadWord (leaf_role kind text)) is
load_word (group kind segs one_comma end) is = absurd (false≢true is)

load_run : {xs : Items} → IsLoad xs → accepts Statement xs ≡ true
load_run (load {w} {before} {nodes} {beside} {segs} {one_comma} {end} is s args) =
    let g = group Load (seg before nodes beside segs) one_comma end in
    let good : role_of g ≡ LoadGroup = ap (λ b. cond b LoadGroup Stray) (and_from (accepts Text nodes) (each LoadArgument segs) (string_run s) (load_args_run args)) in
    step Statement w (item g no_items) LoadWord (load_word w is) (step Loads g no_items LoadGroup good refl)

-- a statement that is no load
statement_step : (r : Role) (xs : Items) → accepts (next_wanted Left false r) xs ≡ true → accepts (next Statement r) xs ≡ true
statement_step LoadWord xs h = absurd (refused xs h)
statement_step _ xs h = h

statement_run : (xs : Items) → accepts (Wants Left false) xs ≡ true → accepts Statement xs ≡ true
statement_run no_items h = refl
statement_run (item x xs) h = statement_step (role_of x) xs h

pub produced_accepted : {xs : Items} → IsStatement xs → is_statement xs ≡ true
produced_accepted comments = refl
produced_accepted (load_statement l) = load_run l
produced_accepted (expression {xs} e) = statement_run xs (whole (Wants Left false) xs (expr_run e Left no_items refl refl (refl, refl)))
produced_accepted (assignment {xs} {a} {b} s is ea es eb) =
    let right : accepts (Wants Right false) b ≡ true = whole (Wants Right false) b (expr_run eb Right no_items refl refl (refl, refl)) in
    let all : accepts (Wants Left false) (join a (item s b)) ≡ true = expr_run ea Left (item s b) refl refl (operator_run s (token_role s) refl es b right) in
    statement_run xs (ap (accepts (Wants Left false)) is ∙ all)

-- and the other way
pub accepted_produced : (xs : Items) → is_statement xs ≡ true → IsStatement xs
accepted_produced xs h = statement_read xs h

-- the same of the table
pub statement_accepted : (xs : Items) → Table.IsStatement xs → is_statement xs ≡ true
statement_accepted xs h = produced_accepted (statement_produced xs h)

pub accepted_statement : (xs : Items) → is_statement xs ≡ true → Table.IsStatement xs
accepted_statement xs h = statement_form (accepted_produced xs h)
