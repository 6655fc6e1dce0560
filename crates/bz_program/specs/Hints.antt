-- The second lines below `cannot open` and `cannot write`: why, and what to do (this project's own rule).
use Rattle.std.specs.Prelude.{ℕ, Bool, ◌||◌, if◌then◌else◌, List, [], ◌∷◌, Option, Some, None, codes, nat_eq, bytes_eq}
use Rattle.std.specs.List.{list_any, starts_with, ends_with}
use Rattle.bz_token.specs.Common.{is_one_of}
use Rattle.bz_rule.specs.declared.command.TheConstants.{LEFT_OUT}
use Rattle.bz_folder.specs.declared.folder.CannotOpen.{CannotOpen}
use Rattle.bz_folder.specs.declared.folder.CannotOpen.TheVariants.{Absent, NoRight as NoRightToOpen, NotRegular, Failed}
use Rattle.bz_folder.specs.declared.folder.Refusal.{Refusal}
use Rattle.bz_folder.specs.declared.folder.Refusal.TheVariants.{NoRight, NoSpace, Folder, Changed, Unknown}

-- one of the commands of Bazel's own buildozer (README, "Edit commands" and "Print commands") that this program does not have
abbrev pub is_left_out : List ℕ → Bool
is_left_out home = list_any (λ command. bytes_eq command.now home) LEFT_OUT

-- the names of a BUILD file, and paths that end in one
abbrev pub is_build_file : List ℕ → Bool
is_build_file path = is_one_of (codes "BUILD" ∷ codes "BUILD.bazel" ∷ []) path

abbrev pub ends_in_build_file : List ℕ → Bool
ends_in_build_file path = ends_with nat_eq path (codes "/BUILD") || ends_with nat_eq path (codes "/BUILD.bazel")

-- the names of other files that Bazel reads, and paths that end in one
abbrev pub is_other_file : List ℕ → Bool
is_other_file path = is_one_of (codes "WORKSPACE" ∷ codes "WORKSPACE.bazel" ∷ codes "MODULE.bazel" ∷ []) path

abbrev pub ends_in_other_file : List ℕ → Bool
ends_in_other_file path = ends_with nat_eq path (codes "/WORKSPACE") || (ends_with nat_eq path (codes "/WORKSPACE.bazel") || ends_with nat_eq path (codes "/MODULE.bazel"))

-- of a package without a file: what else its name may have been meant for
abbrev pub absent_hint : List ℕ → List ℕ
absent_hint home =
    if is_left_out home then codes "it is not there; Bazel's buildozer has a command of this name, and this one has none"
    else (if is_build_file home || ends_in_build_file home then codes "a package is a folder; leave out the name of its file, as in //app:base"
    else (if is_other_file home || ends_in_other_file home then codes "a package is a folder; give another file as standard input, with a target such as -:base"
    else codes "it is not there; packages are below the current folder"))

abbrev pub why_unopened : List ℕ → CannotOpen → Option (List ℕ)
why_unopened home Absent = Some (absent_hint home)
why_unopened home NoRightToOpen = Some (codes "there is no right to open it")
why_unopened home NotRegular = Some (codes "it is not a regular file")
why_unopened home Failed = None

-- where a path begins with a dash, its package may be a flag that stands after the commands
abbrev pub is_dashed : List ℕ → Bool
is_dashed path = starts_with nat_eq path (codes "-")

-- of a package's file at a path that cannot be opened
abbrev pub unopened_hint : List ℕ → List ℕ → CannotOpen → Option (List ℕ)
unopened_hint home path why =
    if is_dashed path then Some (codes "flags come before the commands; a word after them that begins with a dash is a package")
    else why_unopened home why

-- of a file that cannot be written
abbrev pub unwritten_hint : Refusal → Option (List ℕ)
unwritten_hint NoRight = Some (codes "there is no right to write in its folder")
unwritten_hint NoSpace = Some (codes "there is no space left")
unwritten_hint Folder = Some (codes "a folder is at the path of its temporary file; remove it")
unwritten_hint Changed = Some (codes "another program changed it meanwhile; run it again")
unwritten_hint Unknown = None
