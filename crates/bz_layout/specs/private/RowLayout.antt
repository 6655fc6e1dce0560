-- For private clauses: what is appended, and the two walks over the parts of a statement.
use Rattle.std.specs.Prelude.{codes, ℕ, ◌+◌, ◌-◌, ◌≤◌, length, take, IfOk, List, [], ◌∷◌, ◌++◌, reverse, drop, get_or, Bool, true, false, not, ◌||◌, ◌&&◌, if◌then◌else◌, nat_le, nat_lt, Option, Some, None, is_some, ◌≡◌, Result, OnOk}
use Rattle.bz_token.specs.declared.token.Kind.{Kind}
use Rattle.bz_token.specs.Common.{map_or}
use Rattle.bz_tree.specs.declared.tree.GroupKind.{GroupKind}
use Rattle.bz_tree.specs.Tree.{leaf}
use Rattle.bz_tree.specs.Rows.{RowPart, a_token, opening, closing, segment_end, above, beside}
use Rattle.bz_layout.specs.declared.spacing.Edge.{Edge}
use Rattle.bz_layout.specs.declared.spacing.Edge.TheVariants.{Start, Operand}
use Rattle.bz_layout.specs.declared.spacing.Gap.{Gap}
use Rattle.bz_layout.specs.declared.spacing.Gap.TheVariants.{Closed, Space, Apart, Line}
use Rattle.bz_layout.specs.declared.marks.BracketForm.{BracketForm}
use Rattle.bz_layout.specs.declared.marks.Contents.{Contents}
use Rattle.bz_layout.specs.declared.marks.Marks.{Marks}
use Rattle.bz_layout.specs.declared.walk.OpenBracket.{OpenBracket}
use Rattle.bz_layout.specs.declared.walk.RowWriter.{RowWriter}
use Rattle.bz_layout.specs.Respell.{respell}
use Rattle.bz_layout.specs.Spacing.{is_group_without_space}
use Rattle.bz_layout.specs.Walked.{no_space_before, edge_after, gap_for, opening as opening_text, closing as closing_text}
use Rattle.bz_layout.specs.Broken.{breaks_by_count}
use Rattle.bz_layout.specs.Pieces.{gap_bytes, bytes_of, comment_lines}
use Rattle.bz_layout.specs.Layout.{has_commas}

-- bytes that stay, whether memory was refused or not
pub record IsBegunBy (old new : List ℕ) : Type 0 where
  pub more : List ℕ
  pub is : new ≡ old ++ more

-- a text is appended; where memory was refused, some of it may be
pub record Puts {A E : Type 0} (result : Result A E) (old new text : List ℕ) : Type 0 where
  pub put : OnOk result (new ≡ old ++ text)
  pub begun : IsBegunBy old new

-- The walk backwards: marks of the brackets after it, the first one first, and what stands in the brackets that it is in, the innermost first.
pub record Scan : Type 0 where
  pub marks : List BracketForm
  pub here : Contents
  pub outer : List Contents

abbrev pub closed : Bool → Contents
closed one_comma = record { one_comma = one_comma; comments = false; holds = false; segs = 0 }

abbrev pub mark_of : GroupKind → Contents → BracketForm
mark_of kind i = record { broken = i.comments || breaks_by_count kind i.segs || (nat_le 2 i.segs && i.holds); comma = has_commas kind i.one_comma i.segs }

-- before the bracket, below it
abbrev pub below : BracketForm → Bool → List BracketForm → List Contents → Scan
below mark holds marks outer =
    let i = get_or outer 0 (closed false) in
    record { marks = mark ∷ marks; here = record i { holds = holds || i.holds }; outer = drop 1 outer }

abbrev pub opened_back : GroupKind → Scan → Scan
opened_back kind s = below (mark_of kind s.here) ((mark_of kind s.here).broken || s.here.holds) s.marks s.outer

abbrev pub back : RowPart → Scan → Scan
back (a_token kind text) s = s
back (opening kind) s = opened_back kind s
back (closing one_comma) s = record s { here = closed one_comma; outer = s.here ∷ s.outer }
back segment_end s = record s { here = record s.here { segs = if nat_lt s.here.segs 2 then s.here.segs + 1 else s.here.segs } }
back _ s = record s { here = record s.here { comments = true } }

-- the walk over some parts, ahead of what it read of those after them
abbrev pub scan_onto : List RowPart → Scan → Scan
scan_onto [] s = s
scan_onto (p ∷ ps) s = back p (scan_onto ps s)

abbrev pub scan : List RowPart → Scan
scan ps = scan_onto ps (record { marks = []; here = closed false; outer = [] })

abbrev pub scanned : Marks → Scan
scanned m = record { marks = reverse m.marks.items; here = m.here; outer = reverse m.outer.items }

-- The walk forwards: what is written, the marks of the brackets to come, and the brackets that it is in, the innermost first.
pub record Laid : Type 0 where
  pub text : List ℕ
  pub marks : List BracketForm
  pub outer : List OpenBracket
  pub here : OpenBracket
  pub left : Edge
  pub level : ℕ

abbrev pub top : Option GroupKind → OpenBracket
top within = record { within = within; mark = record { broken = false; comma = false }; later = false }

-- the gap before the first node of a segment
abbrev pub first_gap : OpenBracket → ℕ → Gap
first_gap f level = if f.mark.broken then Line level else (if f.later then Space else Closed)

-- in place a comma stands before each segment but the first; it is written where the segment begins ..
abbrev pub comma_bytes : Bool → List ℕ
comma_bytes b = if b then codes "," else []

abbrev pub is_start : Edge → Bool
is_start Start = true
is_start _ = false

abbrev pub due : OpenBracket → Edge → List ℕ
due f left = if f.mark.broken then [] else (if f.later then comma_bytes (is_start left) else [])

abbrev pub start : List ℕ → List BracketForm → Option GroupKind → Laid
start text marks within = record { text = text; marks = marks; outer = []; here = top within; left = Start; level = 0 }

abbrev pub laid : RowWriter → List ℕ → Laid
laid w text = record { text = text; marks = reverse w.marks.items; outer = reverse w.outer.items; here = w.here; left = w.left; level = w.level }

-- a step is made, and its text appended; where memory was refused, some of that may be
pub record Lays {A E : Type 0} (result : Result A E) (step : Laid → Laid) (old : RowWriter) (before : List ℕ) (new : RowWriter) (after : List ℕ) : Type 0 where
  pub ok : OnOk result (laid new after ≡ step (laid old before))
  pub begun : IsBegunBy before after

abbrev pub put_comment : Bool → Gap → List ℕ → Laid → Laid
put_comment has gap text s = record s { text = s.text ++ (if has then gap_bytes gap ++ text else []) }

abbrev pub with_token : Kind → List ℕ → Laid → Laid
with_token kind text s = record s {
  text = s.text ++ (due s.here s.left ++ (gap_bytes (gap_for (first_gap s.here s.level) s.left (no_space_before (leaf kind text))) ++ respell kind text));
  left = edge_after s.here.within s.left (leaf kind text);
}

abbrev pub opened : GroupKind → Laid → Laid
opened kind s = record {
  text = s.text ++ (due s.here s.left ++ (gap_bytes (gap_for (first_gap s.here s.level) s.left (is_group_without_space kind)) ++ opening_text kind));
  marks = drop 1 s.marks;
  outer = s.here ∷ s.outer;
  here = record { within = Some kind; mark = get_or s.marks 0 (top None).mark; later = false };
  left = Start;
  level = if (get_or s.marks 0 (top None).mark).broken then s.level + 1 else s.level;
}

abbrev pub closed_by : Bool → Laid → Laid
closed_by one_comma s = record s {
  text = s.text ++ ((if s.here.mark.broken then gap_bytes (Line (s.level - 1)) else comma_bytes one_comma) ++ map_or [] closing_text s.here.within);
  outer = drop 1 s.outer;
  here = get_or s.outer 0 (top None);
  left = Operand;
  level = if s.here.mark.broken then s.level - 1 else s.level;
}

-- .. and of one without nodes where it ends
abbrev pub ended : Laid → Laid
ended s = record s {
  text = s.text ++ (if s.here.mark.broken then comma_bytes s.here.mark.comma else due s.here s.left);
  here = record s.here { later = not s.here.mark.broken || s.here.later };
  left = Start;
}

abbrev pub step : RowPart → Laid → Laid
step (a_token kind text) s = with_token kind text s
step (opening kind) s = opened kind s
step (closing one_comma) s = closed_by one_comma s
step segment_end s = ended s
-- comments stand on lines of their own in broken brackets, and beside their segment there and at the top
step (above text) s = put_comment s.here.mark.broken (Line s.level) text s
step (beside text) s = put_comment (s.here.mark.broken || not (is_some s.here.within)) Apart text s

abbrev pub run : List RowPart → Laid → Laid
run [] s = s
run (p ∷ ps) s = run ps (step p s)

-- a step is made, and some of the parts after it are laid out: so many as are answered
pub record LaysAlso {E : Type 0} (result : Result ℕ E) (step : Laid → Laid) (after : List RowPart) (old : RowWriter) (before : List ℕ) (new : RowWriter) (now : List ℕ) : Type 0 where
  pub within : IfOk result (λ n. n ≤ length after)
  pub ok : IfOk result (λ n. laid new now ≡ run (take n after) (step (laid old before)))
  pub begun : IsBegunBy before now

-- the comments above the statement
abbrev pub leading : List RowPart → List (List ℕ)
leading (above text ∷ ps) = text ∷ leading ps
leading _ = []

-- the comments above the statement and its line, after what stands before them
abbrev pub lines_text : List ℕ → List RowPart → List ℕ
lines_text before ps = (run ps (start (before ++ bytes_of (comment_lines (leading ps))) (scan ps).marks None)).text ++ codes "\n"
