-- What the private enums of packages and targets stand for.
use Rattle.std.specs.Prelude.{◌≡◌, None, Some, refl}
use Rattle.std.proofs.Common.{ap}
use Rattle.bz_label.specs.declared.package.Package.TheInside.{Inside}
use Rattle.bz_label.specs.Labels as spec
use Rattle.bz_label.specs.declared.package.PackagePlace.{PackagePlace}
use Rattle.bz_label.specs.declared.package.PackagePlace.TheVariants.{Standard, Path}
use Rattle.bz_label.specs.declared.target.Form.{Form}
use Rattle.bz_label.specs.declared.target.Form.TheVariants.{Name, Pkg, All, Kind, Line}
use Rattle.bz_label.specs.declared.target.Marked.{Marked}
use Rattle.bz_label.specs.declared.target.Marked.TheVariants as marked

abbrev pub package_view : PackagePlace → spec.Package
package_view Standard = None
package_view (Path path) = Some path

abbrev pub target_view : Form → spec.Target
target_view (Name name) = spec.Name name
target_view Pkg = spec.Pkg
target_view All = spec.All
target_view (Kind kind) = spec.Kind kind
target_view (Line line) = spec.Line line

-- the target that marks these rules
abbrev pub marked_view : Marked → spec.Target
marked_view (marked.Name name) = spec.Name name.now
marked_view marked.Pkg = spec.Pkg
marked_view marked.All = spec.All
marked_view (marked.Kind kind) = spec.Kind kind.now
marked_view (marked.Line line) = spec.Line line

-- the place of a package
abbrev pub place_of : spec.Package → PackagePlace
place_of None = Standard
place_of (Some path) = Path path

place_of_view : (p : PackagePlace) → place_of (package_view p) ≡ p
place_of_view Standard = refl
place_of_view (Path path) = refl

pub place_back : (a : Inside) → (let b : Inside = record { place = place_of (package_view a.place) } in b) ≡ a
place_back a = ap (λ (p : PackagePlace). let b : Inside = record { place = p } in b) (place_of_view a.place)
