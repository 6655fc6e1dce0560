-- Which texts are the same label: a label in full (this project's own rule, after Bazel's short forms of labels).
-- Begin with `same`.
use Rattle.std.specs.Prelude.{ℕ, nat_eq, List, [], ◌∷◌, ◌++◌, Bool, ◌&&◌, not, if◌then◌else◌, codes, bytes_eq}
use Rattle.std.specs.List.{list_any, starts_with}
use Rattle.bz_label.specs.Labels.{Package, is_colon, parts_of, last_part, in_package}

-- a name alone, without a colon: a target of the package
abbrev pub is_local : List ℕ → Bool
is_local text = not (bytes_eq text []) && not (list_any is_colon text)
    && not (starts_with nat_eq text (codes "/")) && not (starts_with nat_eq text (codes "@"))

-- a path with its last part as its name (58 is `:`), if that is not empty; any other text as it is
abbrev pub with_name : List ℕ → List ℕ
with_name text =
    if starts_with nat_eq text (codes "//") && not (list_any is_colon text)
    then (let name = last_part (parts_of text) in if bytes_eq name [] then text else text ++ 58 ∷ name)
    else text

-- a label in full: a name alone gets its colon, a target of the package the path before it, and a path its
-- name
abbrev pub completed : Package → List ℕ → List ℕ
completed package_ text =
    let target = if is_local text then 58 ∷ text else text in
    with_name (if starts_with nat_eq target (codes ":") then in_package package_ target else target)

-- Two texts are the same label in the package `home` if they are equal in full.
abbrev pub same : Package → List ℕ → List ℕ → Bool
same home a b = bytes_eq (completed home a) (completed home b)
