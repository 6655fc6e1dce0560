-- For private clauses alone: where the first list part of an attribute is, what `add` writes for it, and which of the elements that
-- leave another arrive there.
use Rattle.std.specs.Prelude.{◌≡◌, ℕ, ◌≤◌, List, [], ◌++◌, true, false, Option, None, Some, ◌-◌, Bool, take, drop, filter, ⊤}
use Rattle.bz_tree.specs.Rows.{parts_of, RowPart, segs_parts}
use Rattle.bz_tree.specs.Tree.{Segment, Statement, segs_of}
use Rattle.bz_label.specs.Labels.{Package}
use Rattle.bz_attribute.specs.Effects.{has, with_args}
use Rattle.bz_attribute.specs.Elements.{AreLists, elements_left, IsListIn, IsValueAt, ListRest, rest_parts}
use Rattle.bz_attribute.specs.Lists.{parts}
use Rattle.bz_attribute.specs.Rules.{Rule, value}
use Rattle.bz_rule.specs.AddByValue.{new_elements}
use Rattle.bz_rule.specs.declared.commands.list_place.ListPlace.{ListPlace}
use Rattle.bz_rule.specs.declared.commands.list_place.ListPlace.TheVariants.{Absent, At, NoList}
use Rattle.std.specs.List.{All, flat_map}
use Rattle.bz_rule.specs.Move.{arrivals, put_in}
use Rattle.bz_attribute.specs.RowPlaces.{IsRuleRow}
use Rattle.bz_attribute.specs.declared.place.Place.{Place}
use Rattle.bz_rule.specs.private.StringEdits.{is_meant}
use Rattle.bz_rule.specs.declared.commands.arrivals.Lists.{Lists}

abbrev pub IsInside : ListPlace → ℕ → Type 0
IsInside Absent n = ⊤
IsInside NoList n = ⊤
IsInside (At from) n = from ≤ n

-- the value has no list part
pub record HasNoListPart (name : List ℕ) (s : Statement) (r : Rule) (ps : List RowPart) : Type 0 where
  pub place : ℕ
  pub there : IsValueAt name s r ps place
  pub none : parts (value there.arg) ≡ []

-- the elements of its first list part begin at `from`
pub record IsListAt (name : List ℕ) (s : Statement) (r : Rule) (ps : List RowPart) (from : ℕ) : Type 0 where
  pub place : ℕ
  pub there : IsValueAt name s r ps place
  pub list : IsListIn true (value there.arg) there.after ps place from

abbrev pub IsListPlace : List ℕ → Statement → Rule → List RowPart → ListPlace → Type 0
IsListPlace name s r ps Absent = has name r.args ≡ false
IsListPlace name s r ps NoList = HasNoListPart name s r ps
IsListPlace name s r ps (At from) = IsListAt name s r ps from

-- the list to which elements may come stands there, or the rule has no such attribute
abbrev pub IsTarget : List ℕ → Statement → Rule → List RowPart → Option ℕ → Type 0
IsTarget name s r ps None = has name r.args ≡ false
IsTarget name s r ps (Some from) = IsListAt name s r ps from

-- the elements for the values that are missing in some list parts were written
abbrev pub HaveWritten : Package → List (List ℕ) → List RowPart → Option ℕ → List RowPart → List RowPart → Type 0
HaveWritten home values ps list before now = (lists : List (List Segment)) → AreLists ps list lists → now ≡ before ++ segs_parts (segs_of (new_elements home lists values))

-- ranges of so many parts
abbrev pub AreWithin : List Place → ℕ → Type 0
AreWithin places n = All (λ place. (place.from ≤ place.to) × (place.to ≤ n)) places

-- the parts that stand there
abbrev pub parts_at : List RowPart → List Place → List RowPart
parts_at ps places = flat_map (λ place. take (place.to - place.from) (drop place.from ps)) places

-- of the elements of one list, those that are meant and arrive among the elements of another stand there
abbrev pub HaveArrivals : Package → (Option (List ℕ) → Bool) → Lists → List RowPart → List Place → Type 0
HaveArrivals home p at ps places =
    (l : ListRest) (after : List RowPart) (lists : List (List Segment)) → drop at.from ps ≡ rest_parts l after → AreLists ps at.to lists
    → parts_at ps places ≡ segs_parts (segs_of (arrivals home (flat_map (λ ss. ss) lists) (filter (is_meant p) (elements_left l))))

-- the lists from which and to which elements go stand there
abbrev pub AreFound : List ℕ → List ℕ → Lists → List RowPart → Type 0
AreFound old new at ps =
    ((s : Statement) (r : Rule) → IsRuleRow s r ps → IsListAt old s r ps at.from) × ((s : Statement) (r : Rule) → IsRuleRow s r ps → IsTarget new s r ps at.to)

-- the elements that stand there came to an attribute of the rule that has the parts `left`
abbrev pub HasPut : List ℕ → List RowPart → List Place → List RowPart → List RowPart → Type 0
HasPut attr ps places left out =
    (ss : List Segment) (s : Statement) (r : Rule) → parts_at ps places ≡ segs_parts (segs_of ss) → IsRuleRow s r left → out ≡ parts_of (with_args (put_in attr ss) s)
