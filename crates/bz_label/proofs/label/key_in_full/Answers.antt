use Rattle.std.proofs.Common.{◌≡◌, ◌++◌, ℕ, List, length, ap, sym, ◌∙◌, rules}
use Rattle.std.specs.List.{fold, flat_map}
use Rattle.std.proofs.lemmas.List.{take_all}
use Rattle.std.proofs.lemmas.List.Sums.{fold-append}
use Rattle.bz_label.specs.Same.{completed}
use Rattle.bz_label.specs.private.ByteSteps.{left}
use Rattle.bz_label.specs.private.LabelSteps.{stirred, key_of}
use Rattle.bz_label.specs.declared.bytes.Bytes.{Bytes}
use Rattle.bz_label.proofs.label.key_in_full.Goals as goal

pub returns : goal.returns
unfolding key_of
returns c =
    let long : 4 ≡ length c.completed.result = search rules in
    c.loop-text.invariant ∙ ap (λ (texts : List Bytes). fold stirred 0 (flat_map left texts)) (take_all c.loop-text.text-index c.completed.result (rw (sym long) c.loop-text-test.false)) ∙ ap (fold stirred 0) c.completed.ensures.bytes

in_turn : (a b c d : List ℕ) → fold stirred (fold stirred (fold stirred (fold stirred 0 a) b) c) d ≡ fold stirred 0 (a ++ (b ++ (c ++ d)))
in_turn a b c d = sym (fold-append stirred 0 a (b ++ (c ++ d)) ∙ fold-append stirred (fold stirred 0 a) b (c ++ d) ∙ fold-append stirred (fold stirred (fold stirred 0 a) b) c d)

pub returns-in-Some : goal.returns-in-Some
unfolding key_of
returns-in-Some c =
    let front = c.in-Some.front in
    let text = c.in-Plain.bytes.now in
    let path : c.stirred_by-key.result ≡ fold stirred (fold stirred 0 front.slashes.now) front.path.now = c.stirred_by-key.ensures ∙ ap (λ (key : ℕ). fold stirred key front.path.now) c.stirred_by.ensures in
    let colon : c.stirred_by-in-Some.result ≡ fold stirred (fold stirred (fold stirred 0 front.slashes.now) front.path.now) front.colon.now = c.stirred_by-in-Some.ensures ∙ ap (λ (key : ℕ). fold stirred key front.colon.now) path in
    c.stirred_by-in-Some-2.ensures
    ∙ ap (λ (key : ℕ). fold stirred key text) colon
    ∙ in_turn front.slashes.now front.path.now front.colon.now text
    ∙ ap (fold stirred 0) (c.in-Some.ensures ∙ ap (λ (t : Bytes). completed c.args.home.now (left t)) (sym c.in-Plain.is))
