-- For private clauses alone: what an attribute is set to.
use Rattle.bz_rule.specs.Set as spec
use Rattle.bz_rule.specs.declared.commands.set.New.{New}
use Rattle.bz_rule.specs.declared.commands.set.New.TheVariants.{String, Number, Constant, Strings}

abbrev pub new_view : New → spec.New
new_view (String word) = spec.NewString word.now
new_view (Number digits) = spec.NewNumber digits.now
new_view (Constant name) = spec.NewConstant name.now
new_view (Strings words) = spec.NewStrings words.now
