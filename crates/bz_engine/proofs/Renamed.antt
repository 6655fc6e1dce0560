-- What `rename` makes of a rule by its text. The name of an argument stands where a comment line that is put above it ends.
use Rattle.std.proofs.Common.{◌≡◌, ℕ, suc, List, [], ◌∷◌, ◌++◌, true, false, length, drop, refl, sym, ap, ◌∙◌, append_assoc, append-nil, subst, arith}
use Rattle.std.proofs.Math.Seq.{drop-append_seam}
use Rattle.std.proofs.lemmas.Bool.{false≢true}
use Rattle.std.proofs.lemmas.List.{map-append}
use Rattle.std.specs.Prelude.{bytes_eq, codes, if◌then◌else◌, is_some, Option, None, Some, option_to_list}
use Rattle.bz_token.specs.Common.{is_empty, map_or}
use Rattle.bz_token.specs.declared.token.Kind.TheVariants.{Comment, Identifier, Operator}
use Rattle.bz_tree.specs.declared.tree.GroupKind.TheVariants.{RuleCall}
use Rattle.bz_tree.specs.Tree.{Item, Segment, Statement, is_operator_item, items_of, leaf}
use Rattle.bz_layout.specs.declared.broken.Style.TheVariants.{Broken}
use Rattle.bz_layout.specs.declared.spacing.Edge.TheVariants.{Operand, Start}
use Rattle.bz_layout.specs.declared.spacing.Gap.TheVariants.{Closed, Line}
use Rattle.bz_layout.specs.Layout.{layout_text}
use Rattle.bz_layout.specs.Pieces.{bytes_of, comments, piece, suffix_piece}
use Rattle.bz_layout.specs.Walked.{items_pieces}
use Rattle.bz_layout.proofs.Pieces.{bytes_append}
use Rattle.bz_attribute.specs.Effects.{edit_first, has, with_args, with_comment}
use Rattle.bz_attribute.specs.Reports.{done}
use Rattle.bz_attribute.specs.Rules.{Rule, first_named, ident_of, is_named, is_text, name_of, rule_of}
use Rattle.bz_attribute.proofs.Locals.{edit_local, is_first_named, is_there}
use Rattle.bz_attribute.proofs.EditedAt.{with_args_at}
use Rattle.bz_label.specs.Labels.{Package}
use Rattle.bz_rule.specs.Commands.{Command, args_after, args_done}
use Rattle.bz_rule.specs.Rename.{rename, rename_note, rename_to}
use Rattle.bz_rule.specs.declared.command.Action.TheVariants.{Rename}
use Rattle.bz_rule.proofs.HeadKept.{renamed_name_stays}
use Rattle.bz_canonical.specs.Canonical.{Between, HasPlace, argument_lines, first_args, rule_args}
use Rattle.bz_canonical.specs.Commented.{TakesComment}
use Rattle.bz_engine.specs.private.Found.{AreMarkedAlike, IsWithout, Makes, told_line}
use Rattle.bz_engine.specs.private.Renamed.{TakesName, renamed}
use Rattle.bz_engine.proofs.CanonicalChunks.{same_bytes}
use Rattle.bz_engine.proofs.OnlyPass.{name_left}
use Rattle.bz_engine.proofs.TextAnswers.{none_has}

-- what stands around any text is known by that
around : (P Q A B : List ℕ) → ((line : List ℕ) → P ++ (line ++ Q) ≡ A ++ (line ++ B)) → (P ≡ A) × (Q ≡ B)
around [] Q [] B same = (refl, same [])
around [] Q (a ∷ A) B same =
    let both : suc a ∷ Q ≡ a ∷ (A ++ (suc a ∷ B)) = same (suc a ∷ []) in
    let is : suc a ≡ a = cc in
    absurd (omega (arith, is))
around (p ∷ P) Q [] B same =
    let both : p ∷ (P ++ (suc p ∷ Q)) ≡ suc p ∷ B = same (suc p ∷ []) in
    let is : p ≡ suc p = cc in
    absurd (omega (arith, is))
around (p ∷ P) Q (a ∷ A) B same =
    let both : p ∷ (P ++ Q) ≡ a ∷ (A ++ B) = same [] in
    let first : p ≡ a = cc in
    let rest = around P Q A B (λ line. ap (drop 1) (same line)) in
    (λ i. first i ∷ rest.0 i, rest.1)

-- a named argument begins with its name
name_item : (attr : List ℕ) (x : Item) → is_text attr (ident_of x) ≡ true → x ≡ leaf Identifier attr
name_item attr (leaf Identifier text) is = ap (leaf Identifier) (sym (same_bytes attr text is))
name_item attr _ is = absurd cc

named_item : (attr : List ℕ) (x y : Item) (xs : List Item) → is_text attr (name_of (x ∷ y ∷ xs)) ≡ true → x ≡ leaf Identifier attr
named_item attr x y xs named =
    elim (is_operator_item (codes "=") y) as (λ b. is_text attr (if b then ident_of x else None) ≡ true → x ≡ leaf Identifier attr)
    [ true ↦ λ is. name_item attr x is | false ↦ λ is. absurd (false≢true is) ] named

named_nodes : (attr : List ℕ) (nodes : List Item) → is_text attr (name_of nodes) ≡ true → nodes ≡ leaf Identifier attr ∷ drop 1 nodes
named_nodes attr [] named = absurd (false≢true named)
named_nodes attr (x ∷ []) named = absurd (false≢true named)
named_nodes attr (x ∷ y ∷ xs) named = ap (λ z. z ∷ (y ∷ xs)) (named_item attr x y xs named)

as_named : (attr : List ℕ) (a : Segment) → is_named attr a ≡ true → a ≡ rename_to attr a
as_named attr a named = ap (λ nodes. record a { nodes = nodes }) (named_nodes attr a.nodes named)

-- What is written of it after its name does not hang on the name.
abbrev after_name : Segment → List ℕ
after_name a = bytes_of (items_pieces Broken 1 (Some RuleCall) (Line 1) Operand (items_of (drop 1 a.nodes)) ++ (piece Closed Operator (codes ",") ∷ (suffix_piece a.suffix ++ [])))

abbrev comment_text : List (List ℕ) → List ℕ
comment_text notes = bytes_of (comments 1 notes)

name_lines : (a : Segment) (name : List ℕ) → argument_lines (rename_to name a ∷ []) ≡ comment_text a.before ++ (codes "\n    " ++ (name ++ after_name a))
name_lines a name =
    bytes_append (comments 1 a.before) (items_pieces Broken 1 (Some RuleCall) (Line 1) Start (items_of (leaf Identifier name ∷ drop 1 a.nodes)) ++ (piece Closed Operator (codes ",") ∷ (suffix_piece a.suffix ++ [])))

one_more : (notes : List (List ℕ)) (line : List ℕ) → comment_text (notes ++ line ∷ []) ≡ comment_text notes ++ (codes "\n    " ++ line)
one_more notes line =
    ap bytes_of (map-append (piece (Line 1) Comment) notes (line ∷ [])) ∙ bytes_append (comments 1 notes) (comments 1 (line ∷ []))
    ∙ ap (λ (t : List ℕ). comment_text notes ++ (codes "\n    " ++ t)) (append-nil line)

commented_lines : (attr line : List ℕ) (a : Segment) → is_named attr a ≡ true
    → argument_lines (with_comment line a ∷ []) ≡ (comment_text a.before ++ (codes "\n    " ++ line)) ++ (codes "\n    " ++ (attr ++ after_name a))
commented_lines attr line a named =
    ap (λ (x : Segment). argument_lines (with_comment line x ∷ [])) (as_named attr a named) ∙ name_lines (with_comment line a) attr
    ∙ ap (λ (t : List ℕ). t ++ (codes "\n    " ++ (attr ++ after_name a))) (one_more a.before line)

-- what is written of a rule with its first argument of a name edited
made_of : (attr : List ℕ) (f : Segment → Segment) (a : Segment) → is_named attr a ≡ true → edit_first (is_named attr) (λ x. f x ∷ []) (a ∷ []) ≡ f a ∷ []
made_of attr f a named = rw named refl

edited_text : (depth : ℕ) (attr : List ℕ) (s : Statement) (b : Between) (a : Segment) (f : Segment → Segment) → HasPlace depth attr s b → first_args attr s ≡ a ∷ [] → is_named attr a ≡ true
    → layout_text (with_args (edit_first (is_named attr) (λ x. f x ∷ [])) s) ≡ b.before ++ (argument_lines (f a ∷ []) ++ b.after)
edited_text depth attr s b a f place first named =
    let edit : List Segment → List Segment = edit_first (is_named attr) (λ x. f x ∷ []) in
    let made : edit (first_args attr s) ≡ f a ∷ [] = ap edit first ∙ made_of attr f a named in
    place.takes edit (edit_local attr (λ x. f x ∷ [])) (λ none. absurd (false≢true (sym (ap is_empty made) ∙ none)))
    ∙ ap (λ xs. b.before ++ (argument_lines xs ++ b.after)) made

comment_joined : (F C line attr R E : List ℕ)
    → F ++ (((C ++ (codes "\n    " ++ line)) ++ (codes "\n    " ++ (attr ++ R))) ++ E) ≡ ((F ++ C) ++ codes "\n    ") ++ (line ++ ((codes "\n    " ++ (attr ++ R)) ++ E))
comment_joined F C line attr R E = simp append_assoc

name_joined : (F C name R E : List ℕ) → F ++ ((C ++ (codes "\n    " ++ (name ++ R))) ++ E) ≡ ((F ++ C) ++ codes "\n    ") ++ (name ++ (R ++ E))
name_joined F C name R E = simp append_assoc

-- A comment line is put before the line of the name, where that begins after the indent.
pub name_taken : (depth : ℕ) (attr : List ℕ) (s : Statement) (b : Between) (above below named after : List ℕ) → HasPlace depth attr s b → TakesComment attr s above below
    → named ≡ drop 5 below → after ≡ drop (length attr) named → TakesName attr s above after
name_taken depth attr s b above below named after place t named_is after_is = by (first_named attr (rule_args (rule_of s.nodes))) refl
  where
    by : (o : Option Segment) → first_named attr (rule_args (rule_of s.nodes)) ≡ o → TakesName attr s above after
    by None is = absurd (false≢true (ap (λ o. has attr (option_to_list o)) (sym is) ∙ t.there))
    by (Some a) is =
        let first : first_args attr s ≡ a ∷ [] = ap option_to_list is in
        let is_it : is_named attr a ≡ true = is_first_named attr (rule_args (rule_of s.nodes)) a is in
        let C : List ℕ = comment_text a.before in
        let R : List ℕ = after_name a in
        let sides = around ((b.before ++ C) ++ codes "\n    ") ((codes "\n    " ++ (attr ++ R)) ++ b.after) above below (λ line.
        sym (comment_joined b.before C line attr R b.after) ∙ ap (λ (t : List ℕ). b.before ++ (t ++ b.after)) (sym (commented_lines attr line a is_it))
        ∙ sym (edited_text depth attr s b a (with_comment line) place first is_it) ∙ t.takes line) in
        let named_at : named ≡ attr ++ (R ++ b.after) = named_is ∙ ap (drop 5) (sym sides.1) ∙ append_assoc attr R b.after in
        let after_at : after ≡ R ++ b.after = after_is ∙ ap (drop (length attr)) named_at ∙ drop-append_seam attr (R ++ b.after) in
        record {
          there = t.there;
          takes = λ name.
              edited_text depth attr s b a (rename_to name) place first is_it ∙ ap (λ (t : List ℕ). b.before ++ (t ++ b.after)) (name_lines a name)
              ∙ name_joined b.before C name R b.after ∙ (λ i. sides.0 i ++ (name ++ sym after_at i));
        }

-- another name of an argument
has_of_first : (attr : List ℕ) (s : Statement) (r : Rule) → rule_of s.nodes ≡ Some r → has attr (first_args attr s) ≡ true → has attr r.args ≡ true
has_of_first attr s r is there = by (first_named attr r.args) refl
  where
    first_is : first_args attr s ≡ option_to_list (first_named attr r.args)
    first_is = ap (λ o. option_to_list (first_named attr (rule_args o))) is

    by : (o : Option Segment) → first_named attr r.args ≡ o → has attr r.args ≡ true
    by None e = absurd (false≢true (ap (λ o. has attr (option_to_list o)) (sym e) ∙ ap (has attr) (sym first_is) ∙ there))
    by (Some a) e = is_there attr r.args a e

renames : (old new : List ℕ) (home : Package) (s : Statement) (before after : List ℕ) → (r : Rule) × (rule_of s.nodes ≡ Some r) → IsWithout new s → TakesName old s before after
    → Makes (Rename old new) home s (with_args (args_after (Rename old new) home) s) (told_line true None)
    × (layout_text (with_args (args_after (Rename old new) home) s) ≡ before ++ (new ++ after))
renames old new home s before after rule without t =
    let here : has old rule.0.args ≡ true = has_of_first old s rule.0 rule.1 t.there in
    let free : has new rule.0.args ≡ false = none_has new rule.0.args (ap (λ o. first_named new (rule_args o)) (sym rule.1) ∙ without) in
    let quiet : rename_note old new rule.0.args ≡ None = rw (here, free) refl in
    let made : rename old new rule.0.args ≡ renamed old new rule.0.args = ap (λ n. if is_some n then rule.0.args else renamed old new rule.0.args) quiet in (
      record {
        after_is = refl;
        done = ap (λ o. map_or (done None false) (λ r. args_done (Rename old new) home r.args) o) rule.1 ∙ ap (λ n. done n true) quiet;
      },
      ap layout_text (with_args_at (rename old new) (renamed old new) s rule.0 rule.1 made) ∙ t.takes new,
    )

pub rename_changes : (command : Command) (old new : List ℕ) (home : Package) (s : Statement) (before after name : List ℕ) → command ≡ Rename old new → name ≡ new → (r : Rule) × (rule_of s.nodes ≡ Some r)
    → IsWithout new s → TakesName old s before after
    → Makes command home s (with_args (args_after command home) s) (told_line true None) × (layout_text (with_args (args_after command home) s) ≡ before ++ (name ++ after))
rename_changes command old new home s before after name is name_is rule without t =
    let made = renames old new home s before after rule without t in (
      subst (λ (c : Command). Makes c home s (with_args (args_after c home) s) (told_line true None)) (sym is) made.0,
      ap (λ (c : Command). layout_text (with_args (args_after c home) s)) is ∙ made.1 ∙ ap (λ (t : List ℕ). before ++ (t ++ after)) (sym name_is),
    )

-- the name of the rule stays, where it is another argument
pub renamed_name_kept : (command : Command) (home : Package) (old new : List ℕ) (s : Statement) → command ≡ Rename old new → bytes_eq old (codes "name") ≡ false → bytes_eq new (codes "name") ≡ false
    → AreMarkedAlike s (with_args (args_after command home) s)
renamed_name_kept command home old new s is h g =
    subst (λ (c : Command). AreMarkedAlike s (with_args (args_after c home) s)) (sym is)
    (name_left (args_after (Rename old new) home) s (λ args. renamed_name_stays home old new args h g))
