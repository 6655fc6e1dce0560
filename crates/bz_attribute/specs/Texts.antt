-- How labels and rules are shown (this project's own rule).
-- Begin with `shown_text`.
use Rattle.std.specs.Prelude.{ℕ, List, [], ◌∷◌, ◌++◌, codes, unwrap_or, Some}
use Rattle.std.specs.Fmt.{decimal}
use Rattle.bz_tree.specs.Tree.{Statement}
use Rattle.bz_label.specs.Labels.{Package, in_package, Target, Name, Pkg, All, Kind, Line}
use Rattle.bz_attribute.specs.Rules.{rule_of, kind_text, name_in}
use Rattle.bz_token.specs.Common.{map_or}

-- a package and the colon after it, as in a label: standard input is `-`
abbrev pub home_text : Package → List ℕ
home_text home = map_or (codes "-:") (λ path. in_package (Some path) (codes ":")) home

-- a target, as it is written in a label (37 is `%`)
abbrev pub target_text : Target → List ℕ
target_text (Name name) = name
target_text Pkg = codes "__pkg__"
target_text All = codes "*"
target_text (Kind kind) = 37 ∷ kind
target_text (Line line) = 37 ∷ decimal line

-- a rule by its name, or by its kind; what is no rule is not shown
abbrev pub shown_text : Package → Statement → List ℕ
shown_text home s =
    map_or [] (λ r. home_text home ++ unwrap_or (name_in r.args) (37 ∷ kind_text r.kind)) (rule_of s.nodes)
