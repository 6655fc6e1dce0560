-- The text of a token is one of its kind, whether it stands as it is or as the layout spells it.
use Rattle.std.proofs.Common.{◌≡◌, ℕ, List, true, refl}
use Rattle.bz_token.specs.declared.token.Kind.{Kind}
use Rattle.bz_token.specs.Lexical.{is_text}
use Rattle.bz_tree.specs.Kinds.{kind_mark}
use Rattle.bz_tree.specs.private.KindSteps.{kind_after}
use Rattle.bz_layout_laws.specs.FreeLayout.{Choice, own, free, text_of}
use Rattle.bz_layout_laws.proofs.ReadSteps.{same_mark, same_after}
use Rattle.bz_layout_laws.proofs.Respelled.{respelled_text}

pub text_is : (c : Choice) (kind : Kind) (text : List ℕ) → is_text kind text ≡ true → is_text kind (text_of c kind text) ≡ true
text_is own kind text h = respelled_text kind text h
text_is (free breaks inner others) kind text h = h

pub mark_is : (c : Choice) (kind : Kind) (text : List ℕ) → kind_mark kind (text_of c kind text) ≡ kind_mark kind text
mark_is own kind text = same_mark kind text
mark_is (free breaks inner others) kind text = refl

pub after_is : (c : Choice) (kind : Kind) (text : List ℕ) → kind_after kind (text_of c kind text) ≡ kind_after kind text
after_is own kind text = same_after kind text
after_is (free breaks inner others) kind text = refl
