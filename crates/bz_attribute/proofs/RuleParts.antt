-- The parts of a rule: before its arguments, of these, and after them.
use Rattle.std.proofs.Common.{◌≡◌, List, [], ◌∷◌, ◌++◌, Bool, true, false, if◌then◌else◌, Some, None, length, map, refl, ap, sym, ◌∙◌, arith, append_assoc, append-nil}
use Rattle.std.proofs.lemmas.Bool.{false≢true, and_parts}
use Rattle.bz_token.specs.declared.token.Kind.TheVariants.{Identifier}
use Rattle.bz_tree.specs.declared.tree.GroupKind.{GroupKind}
use Rattle.bz_tree.specs.declared.tree.GroupKind.TheVariants.{RuleCall}
use Rattle.bz_tree.specs.Tree.{Item, leaf, group, Statement, items_of, segs_of, segments}
use Rattle.bz_tree.specs.Rows.{RowPart, opening, closing, above, beside_part, item_parts, items_parts, segs_parts, parts_of}
use Rattle.bz_attribute.specs.Rules.{Rule, rule_of}
use Rattle.bz_attribute.proofs.Calls.{called_at}
use Rattle.bz_attribute.specs.private.RuleSteps.{call_at, dotted}
use Rattle.bz_attribute.specs.Effects.{nodes_of}
use Rattle.bz_attribute.specs.RowPlaces.{before_args}
use Rattle.bz_attribute.specs.private.Parts.{tokens_len}

abbrev pub after_args : Statement → Rule → List RowPart
after_args s r = (map above r.end ++ closing r.one_comma ∷ []) ++ beside_part s.suffix

pub with_last : (kind : List Item) (x : Item) → items_parts (items_of (kind ++ x ∷ [])) ≡ items_parts (items_of kind) ++ item_parts x
with_last [] x = append-nil (item_parts x)
with_last (y ∷ kind) x = ap (λ (ps : List RowPart). item_parts y ++ ps) (with_last kind x) ∙ sym (append_assoc (item_parts y) (items_parts (items_of kind)) (item_parts x))

pub parts_cut : (s : Statement) (r : Rule) → nodes_of r ≡ s.nodes → parts_of s ≡ before_args s r ++ (segs_parts (segs_of r.args) ++ after_args s r)
parts_cut s r are =
    let args = segs_parts (segs_of r.args) in
    let kind = items_parts (items_of r.kind) in
    let end = map above r.end ++ closing r.one_comma ∷ [] in
    let moved : map above s.before ++ ((kind ++ (opening RuleCall ∷ (args ++ end))) ++ beside_part s.suffix) ≡ before_args s r ++ (args ++ after_args s r) = simp append_assoc in
    ap (λ (nodes : List Item). map above s.before ++ (items_parts (items_of nodes) ++ beside_part s.suffix)) (sym are)
    ∙ ap (λ (ps : List RowPart). map above s.before ++ (ps ++ beside_part s.suffix)) (with_last r.kind (group RuleCall (segs_of r.args) r.one_comma r.end))
    ∙ moved

-- a kind is tokens
call_dotted : (kind : List Item) (x : Item) (r : Rule) → call_at kind x ≡ Some r → dotted true r.kind ≡ true
call_dotted kind (leaf k text) r h = absurd cc
call_dotted kind (group RuleCall segs one_comma end) r h =
    elim (dotted true kind) as (λ b. dotted true kind ≡ b → (if b then Some (record { kind = kind; args = segments segs; one_comma = one_comma; end = end }) else None) ≡ Some r → dotted true r.kind ≡ true) [
      | true ↦ λ e k.
          let is : record { kind = kind; args = segments segs; one_comma = one_comma; end = end } ≡ r = cc in
          sym (ap (λ (z : Rule). dotted true z.kind) is) ∙ e
      | false ↦ λ e k. absurd cc
    ] refl h
call_dotted kind (group _ segs one_comma end) r h = absurd cc

pub rule_dotted : (nodes : List Item) (r : Rule) → rule_of nodes ≡ Some r → dotted true r.kind ≡ true
rule_dotted nodes r h = let c = called_at nodes r h in call_dotted c.split.front c.split.last r c.is

abbrev pub AreTokens : List Item → Type 0
AreTokens [] = Unit {0}
AreTokens (leaf kind text ∷ xs) = AreTokens xs
AreTokens (group k segs one_comma end ∷ xs) = ⊥

pub tokens : (b : Bool) (kind : List Item) → dotted b kind ≡ true → AreTokens kind
tokens b [] h = tt
tokens true (leaf Identifier text ∷ xs) h = tokens false xs h
tokens true (leaf _ text ∷ xs) h = absurd (false≢true h)
tokens true (group k segs one_comma end ∷ xs) h = absurd (false≢true h)
tokens false (leaf kind text ∷ xs) h = tokens true xs (and_parts _ (dotted true xs) h).1
tokens false (group k segs one_comma end ∷ xs) h = absurd (false≢true h)

pub tokens_long : (kind : List Item) (k : GroupKind) (rest : List RowPart) → AreTokens kind → tokens_len (items_parts (items_of kind) ++ opening k ∷ rest) ≡ length (items_parts (items_of kind))
tokens_long [] k rest h = refl
tokens_long (leaf kind text ∷ xs) k rest h = omega (arith, tokens_long xs k rest h)
tokens_long (group l segs one_comma end ∷ xs) k rest h = absurd h
