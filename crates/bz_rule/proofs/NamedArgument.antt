-- The first argument of a name among the parts of its rule, also with one comment line more.
use Rattle.std.proofs.Common.{◌≡◌, ℕ, List, [], ◌∷◌, ◌++◌, true, Option, Some, None, is_some, length, map, take, drop, refl, ap, sym, ◌∙◌, arith, append_assoc, length-append}
use Rattle.std.proofs.lemmas.List.{map-append}
use Rattle.std.proofs.Math.Seq.{drop-append_seam, take-append_seam}
use Rattle.bz_tree.specs.Tree.{Segment, Statement, items_of}
use Rattle.bz_tree.specs.Rows.{RowPart, segment_end, above, beside_part, items_parts, parts_of}
use Rattle.bz_attribute.specs.Rules.{Rule, first_named, is_named}
use Rattle.bz_attribute.specs.Effects.{edit_first, has, with_args, with_comment}
use Rattle.bz_attribute.specs.private.RuleNodes.{nodes_after}
use Rattle.bz_rule.specs.Comment.{comment_attribute, comment_line}
use Rattle.bz_attribute.specs.RowPlaces.{HasArgument, IsArgumentAt, IsRuleRow}
use Rattle.bz_attribute.proofs.RuleNodes.{rule_nodes}
use Rattle.bz_attribute.proofs.EditedAt.{edited_at, first_at, with_args_at}
use Rattle.bz_attribute.proofs.Locals.{is_there}
use Rattle.bz_attribute.proofs.PlaceFound.{in_three, nodes_split, post, pre}

-- an argument between other parts
abbrev pub with_argument : List RowPart → Segment → List RowPart → List RowPart
with_argument front a back = (front ++ map above a.before) ++ (items_parts (items_of a.nodes) ++ (segment_end ∷ (beside_part a.suffix ++ back)))

-- the first argument of the name, and where its nodes begin
pub record IsAt (name : List ℕ) (s : Statement) (r : Rule) (ps : List RowPart) (at : ℕ) : Type 0 where
  pub front : List RowPart
  pub arg : Segment
  pub back : List RowPart
  pub is : is_named name arg ≡ true
  pub there : has name r.args ≡ true
  pub taken : take at ps ≡ front ++ map above arg.before
  pub left : drop at ps ≡ items_parts (items_of arg.nodes) ++ (segment_end ∷ (beside_part arg.suffix ++ back))
  pub edited : (f : Segment → Segment) → parts_of (with_args (edit_first (is_named name) (λ a. f a ∷ [])) s) ≡ with_argument front (f arg) back

-- by what the finder told
pub argument_at : (name : List ℕ) (s : Statement) (r : Rule) (ps : List RowPart) (at : ℕ) → IsRuleRow s r ps → IsArgumentAt name s r at → IsAt name s r ps at
argument_at name s r ps at h arg =
    let a : Segment = arg.arg in
    let first : List RowPart = pre s r arg.front ++ map above a.before in
    let rest : List RowPart = items_parts (items_of a.nodes) ++ (segment_end ∷ (beside_part a.suffix ++ post s r arg.back)) in
    let all : ps ≡ first ++ rest = h.are ∙ in_three s r arg.front (a ∷ []) arg.back (rule_nodes s.nodes r h.rule) arg.are ∙ nodes_split s r arg.front arg.back a in
    let begins : at ≡ length first = omega (arith, arg.begins, length-append (pre s r arg.front) (map above a.before)) in
    record {
      front = pre s r arg.front;
      arg = a;
      back = post s r arg.back;
      is = arg.is;
      there = is_there name r.args a (ap (first_named name) arg.are ∙ first_at name arg.front a arg.back arg.none arg.is);
      taken = (λ i. take (begins i) (all i)) ∙ take-append_seam first rest;
      left = (λ i. drop (begins i) (all i)) ∙ drop-append_seam first rest;
      edited = λ f.
          let edit : List Segment → List Segment = edit_first (is_named name) (λ z. f z ∷ []) in
          let args : edit r.args ≡ arg.front ++ f a ∷ arg.back = ap edit arg.are ∙ edited_at (is_named name) (λ z. f z ∷ []) arg.front a arg.back arg.none arg.is in
          in_three (with_args edit s) (record r { args = edit r.args }) arg.front (f a ∷ []) arg.back (sym (ap (nodes_after edit s.nodes) h.rule)) args ∙ nodes_split s r arg.front arg.back (f a);
    }

-- whether there is one
pub has_found : (name : List ℕ) (s : Statement) (r : Rule) (ps : List RowPart) (o : Option ℕ) → IsRuleRow s r ps → HasArgument name s r o → has name r.args ≡ is_some o
has_found name s r ps None h none = none
has_found name s r ps (Some at) h is = (argument_at name s r ps at h is).there

-- a line more above it
pub argument_commented : (text name : List ℕ) (s : Statement) (r : Rule) (ps : List RowPart) (at : ℕ) → IsRuleRow s r ps → IsArgumentAt name s r at
    → take at ps ++ above (comment_line text) ∷ drop at ps ≡ parts_of (with_args (comment_attribute name text) s)
argument_commented text name s r ps at h is =
    let p = argument_at name s r ps at h is in
    let edit : List Segment → List Segment = edit_first (is_named name) (λ a. with_comment (comment_line text) a ∷ []) in
    let line : List ℕ = comment_line text in
    let rest : List RowPart = items_parts (items_of p.arg.nodes) ++ (segment_end ∷ (beside_part p.arg.suffix ++ p.back)) in
    let moved : (p.front ++ map above p.arg.before) ++ above line ∷ rest ≡ with_argument p.front (with_comment line p.arg) p.back = rw (map-append above p.arg.before (line ∷ [])) (simp append_assoc) in
    (λ i. p.taken i ++ above line ∷ p.left i) ∙ moved ∙ sym (p.edited (with_comment line))
    ∙ sym (ap parts_of (with_args_at (comment_attribute name text) edit s r h.rule refl))
