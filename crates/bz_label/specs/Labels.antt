-- Labels: a package and what is meant in it (buildozer README, targets; what it leaves open is this project's
-- own rule).
-- Begin with `Package` and `Target`.
-- In no stop: `is_kind` of `Names` (identifiers joined by dots, none a keyword), for how a label is read,
-- which `run` does not reach.
use Rattle.std.specs.Prelude.{ℕ, nat_lt, nat_eq, ◌==◌, ◌<◌, ◌^◌, List, [], ◌∷◌, Bool, true, false, ◌&&◌, ◌||◌, not, if◌then◌else◌, IsTrue, Option, None, Some, Result, Ok, Err, codes, length, drop, bytes_eq, unwrap_or, ◌++◌, ⊤}
use Rattle.std.specs.List.{position_or_len, list_all, before_first, after_first, starts_with, slice_split}
use Rattle.bz_token.specs.Common.{is_one_of, last_of}
use Rattle.std.specs.Char.{is_ascii_digit}
use Rattle.std.specs.Str.Parse.{digits_value}
use Rattle.bz_label.specs.declared.labels.LabelFault.{LabelFault}
use Rattle.bz_label.specs.declared.labels.LabelFault.TheVariants.{BadPackage, BadTarget}
use Rattle.bz_label.specs.Names.{is_kind}

-- a package: the path of its folder, or nothing for standard input and output (what contracts see of a `Package`
-- of `src/package.rt`)
abbrev pub Package : Type 0
Package = Option (List ℕ)

-- a text after the path of a package, as `:name` after `//path`; standard input has no path
abbrev pub in_package : Package → List ℕ → List ℕ
in_package None text = text
in_package (Some path) text = codes "//" ++ (path ++ text)

-- what is meant in a package (what contracts see of a `Target` of `src/target.rt`)
pub data Target : Type 0 where
  -- the rules of a name
  Name : List ℕ → Target
  -- the `package` calls
  Pkg : Target
  -- every rule
  All : Target
  -- the rules of a kind: here what stands before a rule's call, not the `Kind` of a token
  Kind : List ℕ → Target
  -- the rules that begin on a line
  Line : ℕ → Target

-- a byte that may stand in a path or a target
abbrev pub is_plain : ℕ → Bool
is_plain b = nat_lt 32 b && not (b == 127)

-- `/`
abbrev pub is_slash : ℕ → Bool
is_slash b = b == 47

-- `:`
abbrev pub is_colon : ℕ → Bool
is_colon b = b == 58

-- the parts of a path: what stands between its slashes
abbrev pub parts_of : List ℕ → List (List ℕ)
parts_of path = slice_split is_slash path

abbrev pub is_part : List ℕ → Bool
is_part part = not (is_one_of (codes "" ∷ codes "." ∷ codes ".." ∷ codes "..." ∷ []) part)

-- The path of a package: empty for the root, or parts joined by `/`. One that begins with `@` would name
-- another repository.
abbrev pub is_path : List ℕ → Bool
is_path path = list_all is_plain path && not (starts_with nat_eq path (codes "@")) && (bytes_eq path [] || list_all is_part (parts_of path))

-- two slashes before a path are dropped
abbrev pub path_of : List ℕ → List ℕ
path_of text = if starts_with nat_eq text (codes "//") then drop 2 text else text

-- `-` is standard input and output
abbrev pub package_of : List ℕ → Result Package LabelFault
package_of text =
    if bytes_eq text (codes "-") then Ok None
    else (if is_path (path_of text) then Ok (Some (path_of text)) else Err BadPackage)

-- a text that can be a target
abbrev pub is_target : List ℕ → Bool
is_target text = not (bytes_eq text []) && list_all (λ b. is_plain b && not (is_colon b)) text

abbrev pub is_number : List ℕ → Bool
is_number text = not (bytes_eq text []) && list_all is_ascii_digit text

-- after a percent sign stands a line number or a kind
abbrev pub percent_of : List ℕ → Result Target LabelFault
percent_of text =
    if is_number text then (if nat_lt (digits_value 10 text) (2 ^ 64) then Ok (Line (digits_value 10 text)) else Err BadTarget)
    else (if is_kind text then Ok (Kind text) else Err BadTarget)

abbrev pub target_of : List ℕ → Result Target LabelFault
target_of text =
    if not (is_target text) then Err BadTarget
    else (if bytes_eq text (codes "__pkg__") then Ok Pkg
    else (if bytes_eq text (codes "*") then Ok All
    else (if starts_with nat_eq text (codes "%") then percent_of (drop 1 text) else Ok (Name text))))

-- a package and a target of it; a bad package is told first
abbrev pub pair_of : Result Package LabelFault → Result Target LabelFault → Result (Package × Target) LabelFault
pair_of (Err fault) target = Err fault
pair_of (Ok package_) (Err fault) = Err fault
pair_of (Ok package_) (Ok target) = Ok (package_, target)

-- the last part of a path; empty, where there is none
abbrev pub last_part : List (List ℕ) → List ℕ
last_part parts = unwrap_or (last_of parts) []

-- without a colon the last part of the path is the name; the root and standard input have none
abbrev pub named_of : Result Package LabelFault → Result (Package × Target) LabelFault
named_of (Err fault) = Err fault
named_of (Ok None) = Err BadTarget
named_of (Ok (Some path)) = if bytes_eq path [] then Err BadTarget else Ok (Some path, Name (last_part (parts_of path)))

-- a label is cut at its first colon
abbrev pub label_of : List ℕ → Result (Package × Target) LabelFault
label_of text =
    if nat_lt (position_or_len is_colon text) (length text) then pair_of (package_of (before_first is_colon text)) (target_of (after_first is_colon text))
    else named_of (package_of text)

-- what a package and a target that were read keep
abbrev pub IsPackage : Package → Type 0
IsPackage None = ⊤
IsPackage (Some path) = IsTrue (is_path path)

abbrev pub IsRead : Target → Type 0
IsRead (Name name) = IsTrue (is_target name)
IsRead Pkg = ⊤
IsRead All = ⊤
IsRead (Kind kind) = IsTrue (is_kind kind)
IsRead (Line line) = line < 2 ^ 64

-- a target that has to mark something: not `*` and not a kind, of which there may be no rule
abbrev pub must_mark : Target → Bool
must_mark All = false
must_mark (Kind kind) = false
must_mark _ = true
