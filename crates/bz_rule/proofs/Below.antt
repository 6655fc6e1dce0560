-- A statement without the first of its comments, and what a command makes of both.
use Rattle.std.proofs.Common.{◌≡◌, ◌≤◌, ◌+◌, ◌∙◌, ◌++◌, ℕ, List, [], ◌∷◌, true, Option, None, Some, length, map, take, drop, refl, ap, sym, arith, append_assoc, length-append}
use Rattle.std.specs.List.{drop-map, take-map}
use Rattle.std.proofs.lemmas.Bool.{false≢true}
use Rattle.std.proofs.lemmas.List.{drop-append-le, take-append-le, length-map, map-append, take-append-drop, drop-drop, length-take-le}
use Rattle.std.proofs.Math.Seq.{take-append-add}
use Rattle.bz_tree.specs.Tree.{Statement, items_of}
use Rattle.bz_tree.specs.Rows.{RowPart, above, beside_part, items_parts, parts_of}
use Rattle.bz_label.specs.Labels.{Package}
use Rattle.bz_label.specs.declared.arguments.Commented.TheVariants.{Rule as Above}
use Rattle.bz_label.specs.declared.arguments.Setting.TheVariants.{ToKind}
use Rattle.bz_rule.specs.Comment.{comment_line}
use Rattle.bz_rule.specs.Set.{with_kind}
use Rattle.bz_attribute.specs.Rules.{Rule, rule_of}
use Rattle.bz_attribute.specs.RowEdits.{replaced_at}
use Rattle.bz_attribute.specs.declared.place.Place.{Place}
use Rattle.bz_rule.specs.Commands.{Command, done_of}
use Rattle.bz_rule.specs.declared.command.Action.TheVariants.{Comment, Delete, Print, Set}
use Rattle.bz_rule.specs.private.RowEdits.{is_edit, rule_after}
use Rattle.bz_token.specs.Common.{map_or}

-- without the first of the comments above it
abbrev pub below : ℕ → Statement → Statement
below comments s = record s { before = drop comments s.before }

-- what stands below the comments
abbrev own_parts : Statement → List RowPart
own_parts s = items_parts (items_of s.nodes) ++ beside_part s.suffix

-- comments, of which n are taken off
off : (n : ℕ) (comments : List (List ℕ)) (rest : List RowPart) → map above comments ++ rest ≡ map above (take n comments) ++ (map above (drop n comments) ++ rest)
off n comments rest =
    ap (λ (texts : List (List ℕ)). map above texts ++ rest) (sym (take-append-drop n comments)) ∙ ap (λ (ps : List RowPart). ps ++ rest) (map-append above (take n comments) (drop n comments))
    ∙ append_assoc (map above (take n comments)) (map above (drop n comments)) rest

pub parts_off : (n : ℕ) (s : Statement) → parts_of s ≡ map above (take n s.before) ++ parts_of (below n s)
parts_off n s = off n s.before (own_parts s)

pub parts_below : (n : ℕ) (s : Statement) → n ≤ length s.before → drop n (parts_of s) ≡ parts_of (below n s)
parts_below n s h = drop-append-le n (map above s.before) (own_parts s) (omega (arith, h, length-map s.before above)) ∙ ap (λ (ps : List RowPart). ps ++ own_parts s) (drop-map above n s.before)

pub fits_parts : (n : ℕ) (s : Statement) → n ≤ length s.before → n ≤ length (parts_of s)
fits_parts n s h = omega (arith, h, length-append (map above s.before) (own_parts s), length-map s.before above)

-- and so after a command
commented : (n : ℕ) (text : List ℕ) (s : Statement) (o : Option Rule) → n ≤ length s.before
    → map above (map_or s.before (λ r. s.before ++ comment_line text ∷ []) o) ++ own_parts s ≡ map above (take n s.before) ++ (map above (map_or (drop n s.before) (λ r. (drop n s.before) ++ comment_line text ∷ []) o) ++ own_parts s)
commented n text s None h = off n s.before (own_parts s)
commented n text s (Some r) h =
    let line : List RowPart = above (comment_line text) ∷ [] in
    ap (λ (ps : List RowPart). ps ++ own_parts s) (map-append above s.before (comment_line text ∷ [])) ∙ append_assoc (map above s.before) line (own_parts s)
    ∙ off n s.before (line ++ own_parts s)
    ∙ ap (λ (ps : List RowPart). map above (take n s.before) ++ ps) (sym (ap (λ (ps : List RowPart). ps ++ own_parts s) (map-append above (drop n s.before) (comment_line text ∷ [])) ∙ append_assoc (map above (drop n s.before)) line (own_parts s)))

pub after_off : (c : Command) (home : Package) (n : ℕ) (s : Statement) → n ≤ length s.before → parts_of (rule_after c home s) ≡ map above (take n s.before) ++ parts_of (rule_after c home (below n s))
after_off (Comment Above text) home n s h = commented n text s (rule_of s.nodes) h
after_off (Set (ToKind kind)) home n s h = parts_off n (with_kind kind s)
after_off c home n s h = parts_off n (rule_after c home s)

pub told_below : (c : Command) (home : Package) (n : ℕ) (s : Statement) → is_edit c ≡ true → done_of c home (Some (below n s)) ≡ done_of c home (Some s)
told_below Delete home n s h = absurd (false≢true h)
told_below (Print fields) home n s h = absurd (false≢true h)
told_below (Set (ToKind kind)) home n s h = refl
told_below (Comment Above text) home n s h = refl
told_below _ home n s h = refl

-- others in a place behind the first n parts
pub replaced_behind : (n : ℕ) (place : Place) (ps new : List RowPart) → n ≤ length ps
    → replaced_at (record { from = n + place.from; to = n + place.to }) new ps ≡ take n ps ++ replaced_at place new (drop n ps)
replaced_behind n place ps new h =
    let size : length (take n ps) ≡ n = length-take-le n ps h in
    let cut : ps ≡ take n ps ++ drop n ps = sym (take-append-drop n ps) in
    let front : take (n + place.from) ps ≡ take n ps ++ take place.from (drop n ps) =
    (λ i. take (sym size i + place.from) (cut i)) ∙ take-append-add (take n ps) (drop n ps) place.from in
    let behind : drop (n + place.to) ps ≡ drop place.to (drop n ps) = sym (drop-drop place.to n ps) in
    (λ i. front i ++ (new ++ behind i)) ∙ append_assoc (take n ps) (take place.from (drop n ps)) (new ++ drop place.to (drop n ps))

-- the first comments are the first parts
pub first_off : (n : ℕ) (s : Statement) → n ≤ length s.before → take n (parts_of s) ≡ map above (take n s.before)
first_off n s h =
    take-append-le n (map above s.before) (own_parts s) (omega (arith, h, length-map s.before above)) ∙ take-map above n s.before
