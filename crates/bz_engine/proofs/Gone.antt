-- What `remove` of an attribute makes of a rule by its text.
use Rattle.std.proofs.Common.{◌≡◌, ◌≤◌, ℕ, List, [], ◌∷◌, ◌++◌, Bool, true, false, cond, filter, length, not, refl, sym, ap, ◌∙◌, subst, arith}
use Rattle.std.proofs.lemmas.Bool.{false≢true}
use Rattle.std.specs.Prelude.{bytes_eq, codes, if◌then◌else◌, Option, None, Some, option_to_list}
use Rattle.bz_token.specs.Common.{is_empty, map_or}
use Rattle.bz_tree.specs.Tree.{Segment, Statement}
use Rattle.bz_layout.specs.Layout.{layout_text}
use Rattle.bz_attribute.specs.Effects.{edit_first, has, with_args}
use Rattle.bz_attribute.specs.Reports.{done}
use Rattle.bz_attribute.specs.Rules.{Rule, first_named, is_named, rule_of}
use Rattle.bz_attribute.proofs.EditedAt.{with_args_at}
use Rattle.bz_attribute.proofs.Locals.{edit_local, is_first_named, is_there}
use Rattle.bz_label.specs.Labels.{Package}
use Rattle.bz_label.specs.declared.arguments.Attributes.TheVariants.{Named}
use Rattle.bz_rule.specs.Commands.{Command, args_after, args_done}
use Rattle.bz_rule.specs.declared.command.Action.TheVariants.{Remove}
use Rattle.bz_rule.proofs.HeadKept.{removed_name_stays}
use Rattle.bz_canonical.specs.Canonical.{Between, HasOnce, HasPlace, argument_lines, first_args, rule_args}
use Rattle.bz_engine.specs.private.Found.{AreMarkedAlike, Makes, told_line}
use Rattle.bz_engine.specs.private.Gone.{IsGone}
use Rattle.bz_engine.proofs.OnlyPass.{name_left}

-- the arguments without those of a name
abbrev without : List ℕ → List Segment → List Segment
without attr args = filter (λ a. not (is_named attr a)) args

-- without the first
abbrev without_first : List ℕ → List Segment → List Segment
without_first attr = edit_first (is_named attr) (λ a. [])

-- where none has the name, all stay
none_goes : (attr : List ℕ) (args : List Segment) → length (filter (is_named attr) args) ≤ 0 → without attr args ≡ args
none_goes attr [] few = refl
none_goes attr (a ∷ args) few = by (none_goes attr args) (is_named attr a) few
  where
    by : (length (filter (is_named attr) args) ≤ 0 → without attr args ≡ args) → (b : Bool) → length (cond b (a ∷ filter (is_named attr) args) (filter (is_named attr) args)) ≤ 0 → cond (not b) (a ∷ without attr args) (without attr args) ≡ a ∷ args
    by others true few = absurd (omega (arith, few))
    by others false few = ap (λ (xs : List Segment). a ∷ xs) (others few)

-- where one has it at most, the first goes
first_goes : (attr : List ℕ) (args : List Segment) → length (filter (is_named attr) args) ≤ 1 → without attr args ≡ without_first attr args
first_goes attr [] few = refl
first_goes attr (a ∷ args) few = by (first_goes attr args) (is_named attr a) few
  where
    by : (length (filter (is_named attr) args) ≤ 1 → without attr args ≡ without_first attr args) → (b : Bool) → length (cond b (a ∷ filter (is_named attr) args) (filter (is_named attr) args)) ≤ 1
        → cond (not b) (a ∷ without attr args) (without attr args) ≡ (if b then args else a ∷ without_first attr args)
    by later true few = none_goes attr args (omega (arith, few))
    by later false few = ap (λ (xs : List Segment). a ∷ xs) (later few)

no_length : (lines : List ℕ) → is_empty lines ≡ true → length lines ≡ 0
no_length [] none = refl
no_length (b ∷ lines) none = absurd (false≢true none)

-- the place of the one argument of a name
pub gone_from : (depth : ℕ) (attr : List ℕ) (s : Statement) (place : Between) → HasPlace depth attr s place → place.may_go ≡ true → (length place.lines ≡ 0 → ⊥) → HasOnce attr s
    → IsGone attr s place.before place.after
gone_from depth attr s place has goes some once = by (first_named attr (rule_args (rule_of s.nodes))) refl
  where
    by : (o : Option Segment) → first_named attr (rule_args (rule_of s.nodes)) ≡ o → IsGone attr s place.before place.after
    by None is = absurd (some (no_length place.lines (has.none ∙ ap (λ o. is_empty (option_to_list o)) is)))
    by (Some a) is =
        let named : is_named attr a ≡ true = is_first_named attr (rule_args (rule_of s.nodes)) a is in
        let nothing : without_first attr (first_args attr s) ≡ [] = ap (λ o. without_first attr (option_to_list o)) is ∙ ap (λ (b : Bool). if b then [] else a ∷ []) named in
        let few = subst (λ (o : Option Rule). length (filter (is_named attr) (rule_args o)) ≤ 1) has.rule_is once in
        record {
          there = is_there attr (rule_args (rule_of s.nodes)) a is;
          written =
              ap layout_text (with_args_at (without attr) (without_first attr) s has.rule has.rule_is (first_goes attr has.rule.args few))
              ∙ has.takes (without_first attr) (edit_local attr (λ a. [])) (λ none. goes) ∙ ap (λ xs. place.before ++ (argument_lines xs ++ place.after)) nothing;
        }

-- what the command makes of the rule
removes : (attr : List ℕ) (home : Package) (s : Statement) (before after : List ℕ) → (r : Rule) × (rule_of s.nodes ≡ Some r) → IsGone attr s before after
    → Makes (Remove (Named attr) []) home s (with_args (args_after (Remove (Named attr) []) home) s) (told_line true None)
removes attr home s before after rule gone = record {
  after_is = refl;
  done = ap (λ o. map_or (done None false) (λ r. args_done (Remove (Named attr) []) home r.args) o) rule.1 ∙ ap (done None) there;
}
  where
    there : has attr rule.0.args ≡ true
    there = ap (λ o. has attr (rule_args o)) (sym rule.1) ∙ gone.there

pub remove_changes : (command : Command) (attr : List ℕ) (home : Package) (s : Statement) (before after lines : List ℕ) → command ≡ Remove (Named attr) [] → lines ≡ [] → (r : Rule) × (rule_of s.nodes ≡ Some r)
    → IsGone attr s before after
    → Makes command home s (with_args (args_after command home) s) (told_line true None) × (layout_text (with_args (args_after command home) s) ≡ before ++ (lines ++ after))
remove_changes command attr home s before after lines is none rule gone = (
  subst (λ (c : Command). Makes c home s (with_args (args_after c home) s) (told_line true None)) (sym is) (removes attr home s before after rule gone),
  ap (λ (c : Command). layout_text (with_args (args_after c home) s)) is ∙ gone.written ∙ ap (λ (t : List ℕ). before ++ (t ++ after)) (sym none),
)

-- the name of the rule stays, where another attribute goes
pub gone_name_kept : (command : Command) (home : Package) (attr : List ℕ) (s : Statement) → command ≡ Remove (Named attr) [] → bytes_eq attr (codes "name") ≡ false
    → AreMarkedAlike s (with_args (args_after command home) s)
gone_name_kept command home attr s is h =
    subst (λ (c : Command). AreMarkedAlike s (with_args (args_after c home) s)) (sym is)
    (name_left (args_after (Remove (Named attr) []) home) s (λ args. removed_name_stays home attr args h))
