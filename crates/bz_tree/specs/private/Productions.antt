-- For proofs: the rows of `Grammar` as relations of their own, in the words of the recognizer.
-- In comments `{x}` is any number of x, `[x]` one or none.
use Rattle.std.specs.Prelude.{codes, ◌≡◌, ℕ, List, [], ◌∷◌, Bool, true, false, if◌then◌else◌, Option}
use Rattle.std.specs.Str.{bytes_eq}
use Rattle.bz_token.specs.declared.token.Kind.{Kind}
use Rattle.bz_token.specs.declared.token.Kind.TheVariants.{Identifier, Keyword, Integer, String, Operator as OperatorToken}
use Rattle.bz_tree.specs.declared.tree.GroupKind.{GroupKind}
use Rattle.bz_tree.specs.declared.tree.GroupKind.TheVariants.{Load, Paren, List as ListKind, Index, Dict, ListComp, DictComp}
use Rattle.bz_tree.specs.declared.grammar.role.Role.{Role}
use Rattle.bz_tree.specs.declared.grammar.role.Role.TheVariants.{Name, Number, Value, Dot, Comma, Colon, Equals, Augmented, If, Else, For, In, Not, Tilde, Sum, Star, Stars, Operator, Stray}
use Rattle.bz_tree.specs.Tree.{Item, leaf, group, Items, no_items, item, Segs, no_segs, seg, is_call}
use Rattle.bz_tree.specs.Kinds.{is_load_word}
use Rattle.bz_tree.specs.private.KindSteps.{is_augmented}
use Rattle.bz_token.specs.Common.{is_one_of}

abbrev pub word_role : List ℕ → Role
word_role text =
    if bytes_eq text (codes "if") then If
    else (if bytes_eq text (codes "else") then Else
    else (if bytes_eq text (codes "for") then For
    else (if bytes_eq text (codes "in") then In
    else (if bytes_eq text (codes "not") then Not
    else (if is_one_of (codes "and" ∷ codes "or" ∷ []) text then Operator
    else Stray)))))

abbrev pub is_infix : List ℕ → Bool
is_infix text = is_one_of (codes "==" ∷ codes "!=" ∷ codes "<" ∷ codes ">" ∷ codes "<=" ∷ codes ">=" ∷ codes "|" ∷ codes "^" ∷ codes "&" ∷ codes "<<" ∷ codes ">>" ∷ codes "/" ∷ codes "//" ∷ codes "%" ∷ []) text

abbrev pub operator_role : List ℕ → Role
operator_role text =
    if bytes_eq text (codes ".") then Dot
    else (if bytes_eq text (codes ",") then Comma
    else (if bytes_eq text (codes ":") then Colon
    else (if bytes_eq text (codes "=") then Equals
    else (if bytes_eq text (codes "~") then Tilde
    else (if bytes_eq text (codes "*") then Star
    else (if bytes_eq text (codes "**") then Stars
    else (if is_one_of (codes "+" ∷ codes "-" ∷ []) text then Sum
    else (if is_augmented text then Augmented
    else (if is_infix text then Operator
    else Stray)))))))))

-- what a token is to the grammar
abbrev pub leaf_role : Kind → List ℕ → Role
leaf_role Identifier text = Name
leaf_role Integer text = Number
leaf_role String text = Value
leaf_role Keyword text = word_role text
leaf_role OperatorToken text = operator_role text
leaf_role _ text = Stray

abbrev pub token_role : Item → Role
token_role (leaf kind text) = leaf_role kind text
token_role (group kind segs one_comma end) = Stray

-- `+ - ~ not`
abbrev pub is_prefix : Role → Bool
is_prefix Sum = true
is_prefix Tilde = true
is_prefix Not = true
is_prefix _ = false

-- `or and in == != < > <= >= | ^ & << >> + - * / // %`
abbrev pub is_operator : Role → Bool
is_operator Sum = true
is_operator Star = true
is_operator In = true
is_operator Operator = true
is_operator _ = false

-- `*` and `**` before an argument
abbrev pub is_star : Role → Bool
is_star Star = true
is_star Stars = true
is_star _ = false

-- `=` and the augmented assignments
abbrev pub is_assignment : Role → Bool
is_assignment Equals = true
is_assignment Augmented = true
is_assignment _ = false

-- two lists of items, one after the other
abbrev pub join : Items → Items → Items
join no_items ys = ys
join (item x xs) ys = item x (join xs ys)

abbrev pub is_dot_role : Role → Bool
is_dot_role Dot = true
is_dot_role _ = false

abbrev pub begins_dot : Items → Bool
begins_dot no_items = false
begins_dot (item x xs) = is_dot_role (token_role x)

-- BinOp: an operator, or `not in`
pub data IsBinOp : Items → Type 0 where
  operator : {o : Item} → is_operator (token_role o) ≡ true → IsBinOp (item o no_items)
  not_in : {n i : Item} → token_role n ≡ Not → token_role i ≡ In → IsBinOp (item n (item i no_items))

mutual
  -- Test: Chain [`if` Chain `else` Test]
  pub data IsTest : Items → Type 0 where
    plain : {xs : Items} → IsChain xs → IsTest xs
    conditional : {xs a b c : Items} (i e : Item) → xs ≡ join a (item i (join b (item e c))) → IsChain a → token_role i ≡ If → IsChain b → token_role e ≡ Else → IsTest c → IsTest xs

  -- Chain: {Prefix} Primary {BinOp {Prefix} Primary}
  pub data IsChain : Items → Type 0 where
    single : {xs : Items} → IsTerm xs → IsChain xs
    binary : {xs a b : Items} (o : Items) → xs ≡ join a (join o b) → IsTerm a → IsBinOp o → IsChain b → IsChain xs

  -- {Prefix} Primary
  pub data IsTerm : Items → Type 0 where
    primary : {xs : Items} → IsPrimary xs → IsTerm xs
    unary : {p : Item} {xs : Items} → is_prefix (token_role p) ≡ true → IsTerm xs → IsTerm (item p xs)

  -- Primary: Operand {`.` Ident, Call or Index}; an Int takes no `.` directly after it
  pub data IsPrimary : Items → Type 0 where
    number : {x : Item} {xs : Items} → token_role x ≡ Number → AreSuffixes xs → begins_dot xs ≡ false → IsPrimary (item x xs)
    operand : {x : Item} {xs : Items} → IsOperand x → AreSuffixes xs → IsPrimary (item x xs)

  -- {`.` Ident, Call or Index}
  pub data AreSuffixes : Items → Type 0 where
    no_suffix : AreSuffixes no_items
    member : {d n : Item} {xs : Items} → token_role d ≡ Dot → token_role n ≡ Name → AreSuffixes xs → AreSuffixes (item d (item n xs))
    suffix : {x : Item} {xs : Items} → IsSuffix x → AreSuffixes xs → AreSuffixes (item x xs)

  -- Call: `(` [Arg {`,` Arg} [`,`]] `)`; Index: one segment
  pub data IsSuffix : Item → Type 0 where
    call : {kind : GroupKind} {segs : Segs} {one_comma : Bool} {end : List (List ℕ)} → is_call kind ≡ true → AreArgs segs → IsSuffix (group kind segs one_comma end)
    index : {before : List (List ℕ)} {nodes : Items} {beside : Option (List ℕ)} {one_comma : Bool} {end : List (List ℕ)} → IsIndex nodes → IsSuffix (group Index (seg before nodes beside no_segs) one_comma end)

  -- Operand: Ident, Text, Paren, List, Dict, ListComp, DictComp (an Int stands in Primary)
  pub data IsOperand : Item → Type 0 where
    ident : {x : Item} → token_role x ≡ Name → IsOperand x
    text : {x : Item} → token_role x ≡ Value → IsOperand x
    paren : {segs : Segs} {one_comma : Bool} {end : List (List ℕ)} → AreTests segs → IsOperand (group Paren segs one_comma end)
    list : {segs : Segs} {one_comma : Bool} {end : List (List ℕ)} → AreTests segs → IsOperand (group ListKind segs one_comma end)
    dict : {segs : Segs} {one_comma : Bool} {end : List (List ℕ)} → AreEntries segs → IsOperand (group Dict segs one_comma end)
    list_comp : {before : List (List ℕ)} {nodes : Items} {beside : Option (List ℕ)} {one_comma : Bool} {end : List (List ℕ)} → IsElement nodes → IsOperand (group ListComp (seg before nodes beside no_segs) one_comma end)
    dict_comp : {before : List (List ℕ)} {nodes : Items} {beside : Option (List ℕ)} {one_comma : Bool} {end : List (List ℕ)} → IsEntryElement nodes → IsOperand (group DictComp (seg before nodes beside no_segs) one_comma end)

  -- Test {`,` Test}, between brackets
  pub data AreTests : Segs → Type 0 where
    no_test : AreTests no_segs
    one_test : {before : List (List ℕ)} {nodes : Items} {beside : Option (List ℕ)} {segs : Segs} → IsTest nodes → AreTests segs → AreTests (seg before nodes beside segs)

  -- Arg {`,` Arg}
  pub data AreArgs : Segs → Type 0 where
    no_arg : AreArgs no_segs
    one_arg : {before : List (List ℕ)} {nodes : Items} {beside : Option (List ℕ)} {segs : Segs} → IsArg nodes → AreArgs segs → AreArgs (seg before nodes beside segs)

  -- Arg: Test, Ident `=` Test, `*` Test, `**` Test
  pub data IsArg : Items → Type 0 where
    positional : {xs : Items} → IsTest xs → IsArg xs
    keyword : {n e : Item} {xs : Items} → token_role n ≡ Name → token_role e ≡ Equals → IsTest xs → IsArg (item n (item e xs))
    starred : {s : Item} {xs : Items} → is_star (token_role s) ≡ true → IsTest xs → IsArg (item s xs)

  -- Test `:` Test {`,` Test `:` Test}
  pub data AreEntries : Segs → Type 0 where
    no_entry : AreEntries no_segs
    one_entry : {before : List (List ℕ)} {nodes : Items} {beside : Option (List ℕ)} {segs : Segs} → IsEntry nodes → AreEntries segs → AreEntries (seg before nodes beside segs)

  -- Test `:` Test
  pub data IsEntry : Items → Type 0 where
    entry : {xs a b : Items} (c : Item) → xs ≡ join a (item c b) → IsTest a → token_role c ≡ Colon → IsTest b → IsEntry xs

  -- in a ListComp: Test For {For or `if` Chain}
  pub data IsElement : Items → Type 0 where
    element : {xs a b : Items} → xs ≡ join a b → IsTest a → IsFor b → IsElement xs

  -- in a DictComp: Test `:` Test For {For or `if` Chain}
  pub data IsEntryElement : Items → Type 0 where
    entry_element : {xs a b : Items} (c : Item) → xs ≡ join a (item c b) → IsTest a → token_role c ≡ Colon → IsElement b → IsEntryElement xs

  -- For {For or `if` Chain}, where For is `for` Primary {`,` Primary} `in` Chain
  pub data IsFor : Items → Type 0 where
    for : {xs t c m : Items} (f i : Item) → xs ≡ item f (join t (item i (join c m))) → token_role f ≡ For → AreTargets t → token_role i ≡ In → IsChain c → AreClauses m → IsFor xs

  -- Primary {`,` Primary}
  pub data AreTargets : Items → Type 0 where
    last_target : {xs : Items} → IsPrimary xs → AreTargets xs
    target : {xs a b : Items} (c : Item) → xs ≡ join a (item c b) → IsPrimary a → token_role c ≡ Comma → AreTargets b → AreTargets xs

  -- {For or `if` Chain}
  pub data AreClauses : Items → Type 0 where
    no_clause : AreClauses no_items
    for_clause : {xs : Items} → IsFor xs → AreClauses xs
    if_clause : {xs c m : Items} (i : Item) → xs ≡ item i (join c m) → token_role i ≡ If → IsChain c → AreClauses m → AreClauses xs

  -- Index: Test, or [Test] `:` [Test] [`:` [Test]]
  pub data IsIndex : Items → Type 0 where
    at : {xs : Items} → IsTest xs → IsIndex xs
    slice : {xs a b : Items} (c : Item) → xs ≡ join a (item c b) → IsOptional a → token_role c ≡ Colon → IsRange b → IsIndex xs

  -- [Test] [`:` [Test]]
  pub data IsRange : Items → Type 0 where
    upper : {xs : Items} → IsOptional xs → IsRange xs
    stepped : {xs a b : Items} (c : Item) → xs ≡ join a (item c b) → IsOptional a → token_role c ≡ Colon → IsOptional b → IsRange xs

  -- [Test]
  pub data IsOptional : Items → Type 0 where
    nothing : IsOptional no_items
    some : {xs : Items} → IsTest xs → IsOptional xs

-- Expr: Test {`,` Test}
pub data IsExpr : Items → Type 0 where
  last_test : {xs : Items} → IsTest xs → IsExpr xs
  test : {xs a b : Items} (c : Item) → xs ≡ join a (item c b) → IsTest a → token_role c ≡ Comma → IsExpr b → IsExpr xs

-- Text
pub data IsString : Items → Type 0 where
  string : {x : Item} → token_role x ≡ Value → IsString (item x no_items)

-- [Ident `=`] Text
pub data IsLoadArg : Items → Type 0 where
  loaded : {xs : Items} → IsString xs → IsLoadArg xs
  renamed : {n e : Item} {xs : Items} → token_role n ≡ Name → token_role e ≡ Equals → IsString xs → IsLoadArg (item n (item e xs))

pub data AreLoadArgs : Segs → Type 0 where
  no_load_arg : AreLoadArgs no_segs
  load_arg : {before : List (List ℕ)} {nodes : Items} {beside : Option (List ℕ)} {segs : Segs} → IsLoadArg nodes → AreLoadArgs segs → AreLoadArgs (seg before nodes beside segs)

-- Load: `load` `(` Text {`,` [Ident `=`] Text} [`,`] `)`
pub data IsLoad : Items → Type 0 where
  load : {w : Item} {before : List (List ℕ)} {nodes : Items} {beside : Option (List ℕ)} {segs : Segs} {one_comma : Bool} {end : List (List ℕ)} → is_load_word w ≡ true → IsString nodes → AreLoadArgs segs → IsLoad (item w (item (group Load (seg before nodes beside segs) one_comma end) no_items))

-- Statement: Load, or Expr, or Expr AssignOperator Expr; of comment lines alone, nothing
pub data IsStatement : Items → Type 0 where
  comments : IsStatement no_items
  load_statement : {xs : Items} → IsLoad xs → IsStatement xs
  expression : {xs : Items} → IsExpr xs → IsStatement xs
  assignment : {xs a b : Items} (s : Item) → xs ≡ join a (item s b) → IsExpr a → is_assignment (token_role s) ≡ true → IsExpr b → IsStatement xs
