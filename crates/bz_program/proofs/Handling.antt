-- How packages are handled one after another, and their statuses joined.
use Rattle.std.proofs.Common.{◌≡◌, ◌⊎◌, ℕ, ◌==◌, Bool, true, false, ◌||◌, if◌then◌else◌, List, [], ◌∷◌, ◌++◌, refl, sym, ◌∙◌, ap, subst, append_assoc, append-nil, map, None, Some, inl, inr}
use Rattle.bz_label.specs.Labels.{Package}
use Rattle.std.proofs.lemmas.Bool.{false≢true, eqb-true}
use Rattle.std.proofs.lemmas.List.{map-append}
use Rattle.std.proofs.lemmas.List.Concat.{flat_map-append}
use Rattle.std.proofs.lemmas.List.Folds.{list_any-append}
use Rattle.std.specs.List.{flat_map}
use Rattle.bz_engine.specs.Outcome.{status_of}
use Rattle.bz_engine.specs.declared.report.Report.{Report}
use Rattle.bz_script.specs.Groups.{Step}
use Rattle.bz_script.specs.declared.flags.Flags.{Flags}
use Rattle.bz_folder.specs.Files.{Event}
use Rattle.bz_program.specs.Console.{Shows, has_failed}
use Rattle.bz_program.specs.Files.{Leaves}
use Rattle.bz_program.specs.Handled.{Account, IsShownAs, IsAccountAt, IsHandled, is_last, Done, AreHandled, IsStatusOfAll}
use Rattle.bz_program.specs.declared.package.Devices.{Devices}
use Rattle.bz_program.proofs.Edited.{leaves_nothing, leaves_more}
use Rattle.bz_program.proofs.Shown.{shows_nothing, shows_more}
use Rattle.bz_program.specs.Runs.{Job}
use Rattle.bz_script.specs.Packages.{by_package}
use Rattle.bz_program.specs.Program.{Task, job_of}
use Rattle.bz_script.specs.Statuses.{some_is, whole_status}

abbrev status_from : Bool → Bool → ℕ
status_from failed changed = if failed then 2 else (if changed then 0 else 3)

joined : (failed changed : Bool) (status : ℕ)
    → status_from (failed || (status == 2 || false)) (changed || (status == 0 || false)) ≡ whole_status (status_from failed changed ∷ status ∷ [])
joined true changed status = refl
joined false true status = refl
joined false false status = refl

-- two packages have status 3 together where none of them has 2 or 0
three_of : (two_first two_then none_first none_then : Bool)
    → status_from (two_first || (two_then || false)) (none_first || (none_then || false)) ≡ 3
    → (two_first ≡ false) × (two_then ≡ false) × (none_first ≡ false) × (none_then ≡ false)
three_of true two_then none_first none_then is = absurd cc
three_of false true none_first none_then is = absurd cc
three_of false false true none_then is = absurd cc
three_of false false false true is = absurd cc
three_of false false false false is = (refl, refl, refl, refl)

three_from : (failed changed : Bool) (status : ℕ) → status ≡ status_from failed changed → (status == 2) ≡ false → (status == 0) ≡ false → status ≡ 3
three_from true changed status is two none = absurd (false≢true (sym two ∙ ap (λ n. n == 2) is))
three_from false true status is two none = absurd (false≢true (sym none ∙ ap (λ n. n == 0) is))
three_from false false status is two none = is

-- the status of packages, and of one more
whole_status-more : (statuses : List ℕ) (status : ℕ) → whole_status (whole_status statuses ∷ status ∷ []) ≡ whole_status (statuses ++ status ∷ [])
whole_status-more statuses status =
    sym (joined (some_is 2 statuses) (some_is 0 statuses) status)
    ∙ ap (λ failed. status_from failed (some_is 0 statuses || (status == 0 || false))) (sym (list_any-append (λ other. other == 2) statuses (status ∷ [])))
    ∙ ap (λ changed. status_from (some_is 2 (statuses ++ status ∷ [])) changed) (sym (list_any-append (λ other. other == 0) statuses (status ∷ [])))

not_two : (two : Bool) (status : ℕ) → (status == 2) ≡ two → (status ≡ 2 → ⊥) → two ≡ false
not_two false status is other = refl
not_two true status is other = absurd (other (eqb-true status 2 is))

-- a package that did not fail is not the last
pub goes_on_after : (keep_going : Bool) (status : ℕ) → (status ≡ 2 → ⊥) → is_last keep_going status ≡ false
goes_on_after true status other = refl
goes_on_after false status other = not_two (status == 2) status refl other

-- what is said of each element of a list, and of one more
flat_map_next : {A B : Type 0} (f : A → List B) (xs : List A) (x : A) → flat_map f xs ++ f x ≡ flat_map f (xs ++ x ∷ [])
flat_map_next f xs x = ap (λ ys. flat_map f xs ++ ys) (sym (append-nil (f x))) ∙ sym (flat_map-append f xs (x ∷ []))

-- a package's own status is 2, or that of a report
abbrev IsOwn : ℕ → Type 0
IsOwn status = (status ≡ 2) ⊎ ((report : Report) × (status ≡ status_of report))

own_shown : {S : Type 0} (gave : S → List (List ℕ) → S → Type 0) (failures : S → ℕ) (job : Job) (name : List ℕ) (source source_after : S) (account : Account)
    → IsShownAs gave failures job name source source_after account → IsOwn account.status
own_shown gave failures job name source source_after account (inl ran) = inr (ran.report, ap (λ (a : Account). a.status) ran.account_is)
own_shown gave failures job name source source_after account (inr cut) = inl (ap (λ (a : Account). a.status) cut.account_is)

-- the laws of what both outputs and the folder did
pub record Laws {D O E : Type 0} (did : D → List Event → D → Type 0) (out_took : O → List ℕ → O → Type 0) (err_took : E → List ℕ → E → Type 0) : Type 0 where
  pub did_nothing : (s : D) → did s [] s
  pub did_more : (a b c : D) (es fs : List Event) → did a es b → did b fs c → did a (es ++ fs) c
  pub out_nothing : (s : O) → out_took s [] s
  pub out_more : (a b c : O) (xs ys : List ℕ) → out_took a xs b → out_took b ys c → out_took a (xs ++ ys) c
  pub err_nothing : (s : E) → err_took s [] s
  pub err_more : (a b c : E) (xs ys : List ℕ) → err_took a xs b → err_took b ys c → err_took a (xs ++ ys) c

module _ {D F S O E : Type 0} (did : D → List Event → D → Type 0) (leads : List ℕ → List ℕ → F → Type 0) (absent : D → List ℕ → Type 0)
    (gave : F → List (List ℕ) → F → Type 0) (failures : F → ℕ) (input_gave : S → List (List ℕ) → S → Type 0) (input_failures : S → ℕ)
    (out_took : O → List ℕ → O → Type 0) (err_took : E → List ℕ → E → Type 0) (flags : Flags) (script : List Step)
    (start : Devices D S O E) where
  -- The packages that come first were handled: with those after them, all are.
  pub record HandledTo (done : List Task) (devices : Devices D S O E) (whole : ℕ) : Type 0 where
    pub dones : List Done
    pub whole_is : whole ≡ whole_status (map (λ d. d.1) dones)
    pub left : Leaves did (flat_map (λ d. d.0.puts) dones) start.draft.folder devices.draft.folder
    pub shows : Shows out_took err_took start.console (flat_map (λ d. d.0.shown) dones) (flat_map (λ d. d.0.told) dones) devices.console
    pub goes_on : (left : List Task) (more : List Done) (end : Devices D S O E) → by_package script ≡ done ++ left
        → AreHandled did leads absent gave failures input_gave input_failures out_took err_took flags left devices more end
        → AreHandled did leads absent gave failures input_gave input_failures out_took err_took flags (by_package script) start (dones ++ more) end

module _ {D F S O E : Type 0} (did : D → List Event → D → Type 0) (leads : List ℕ → List ℕ → F → Type 0) (absent : D → List ℕ → Type 0)
    (gave : F → List (List ℕ) → F → Type 0) (failures : F → ℕ) (input_gave : S → List (List ℕ) → S → Type 0) (input_failures : S → ℕ)
    (out_took : O → List ℕ → O → Type 0) (err_took : E → List ℕ → E → Type 0) (flags : Flags) (laws : Laws did out_took err_took) (script : List Step)
    (start : Devices D S O E) where
  abbrev pub To : List Task → Devices D S O E → ℕ → Type 0
  To = HandledTo did leads absent gave failures input_gave input_failures out_took err_took flags script start

  pub handled_none : (whole : ℕ) → whole ≡ whole_status [] → To [] start whole
  handled_none whole is = record {
    dones = [];
    whole_is = is;
    left = leaves_nothing did laws.did_nothing start.draft.folder;
    shows = shows_nothing out_took err_took laws.out_nothing laws.err_nothing start.console;
    goes_on = λ left more end all h. subst (λ tasks. AreHandled did leads absent gave failures input_gave input_failures out_took err_took flags tasks start more end) (sym all) h;
  }

  -- the status of the packages with that of one more
  with_next : (dones : List Done) (whole next : ℕ) (done : Done) → whole ≡ whole_status (map (λ d. d.1) dones) → next ≡ whole_status (whole ∷ done.1 ∷ [])
      → next ≡ whole_status (map (λ d. d.1) (dones ++ done ∷ []))
  with_next dones whole next done is next_is =
      next_is ∙ ap (λ w. whole_status (w ∷ done.1 ∷ [])) is ∙ whole_status-more (map (λ d. d.1) dones) done.1
      ∙ ap whole_status (sym (map-append (λ d. d.1) dones (done ∷ [])))

  module _ (before : List Task) (devices devices_then : Devices D S O E) (whole next : ℕ) (task : Task) (done : Done) (first : To before devices whole)
      (this : IsHandled did leads absent gave failures input_gave input_failures out_took err_took flags (job_of flags.k task) devices devices_then done.0 done.1)
      (next_is : next ≡ whole_status (whole ∷ done.1 ∷ [])) where
    left_next : Leaves did (flat_map (λ d. d.0.puts) (first.dones ++ done ∷ [])) start.draft.folder devices_then.draft.folder
    left_next =
        subst (λ puts. Leaves did puts start.draft.folder devices_then.draft.folder) (flat_map_next (λ (d : Done). d.0.puts) first.dones done)
        (leaves_more did laws.did_more (flat_map (λ d. d.0.puts) first.dones) done.0.puts start.draft.folder devices.draft.folder devices_then.draft.folder first.left this.left)

    shows_next : Shows out_took err_took start.console (flat_map (λ d. d.0.shown) (first.dones ++ done ∷ [])) (flat_map (λ d. d.0.told) (first.dones ++ done ∷ [])) devices_then.console
    shows_next =
        subst (λ shown. Shows out_took err_took start.console shown (flat_map (λ d. d.0.told) (first.dones ++ done ∷ [])) devices_then.console) (flat_map_next (λ (d : Done). d.0.shown) first.dones done)
        (subst (λ told. Shows out_took err_took start.console (flat_map (λ d. d.0.shown) first.dones ++ done.0.shown) told devices_then.console) (flat_map_next (λ (d : Done). d.0.told) first.dones done)
        (shows_more out_took err_took laws.out_more laws.err_more start.console devices.console devices_then.console (flat_map (λ d. d.0.shown) first.dones) (flat_map (λ d. d.0.told) first.dones) done.0.shown done.0.told
        first.shows this.shows))

    more : is_last flags.k done.1 ≡ false → To (before ++ task ∷ []) devices_then next
    more not_last = record {
      dones = first.dones ++ done ∷ [];
      whole_is = with_next first.dones whole next done first.whole_is next_is;
      left = left_next;
      shows = shows_next;
      goes_on = λ left rest end all h.
          subst (λ dones. AreHandled did leads absent gave failures input_gave input_failures out_took err_took flags (by_package script) start dones end) (sym (append_assoc first.dones (done ∷ []) rest))
          (first.goes_on (task ∷ left) (done ∷ rest) end (all ∙ append_assoc before (task ∷ []) left)
          (devices_then, this, (λ last. absurd (false≢true (sym not_last ∙ last))), λ _. h));
    }

    pub handled_last : (left : List Task) → by_package script ≡ before ++ task ∷ left → is_last flags.k done.1 ≡ true
        → IsStatusOfAll did leads absent gave failures input_gave input_failures out_took err_took flags script start devices_then next
    handled_last left all last = record {
      dones = first.dones ++ done ∷ [];
      handled = first.goes_on (task ∷ left) (done ∷ []) devices_then all (devices_then, this, (λ _. (refl, refl)), λ not_last. absurd (false≢true (sym not_last ∙ last)));
      whole_is = with_next first.dones whole next done first.whole_is next_is;
      left = left_next;
      shows = shows_next;
    }

  -- the same after a turn of a loop over entries, each of them seen as a task
  pub handled_more : {T : Type 0} (view : T → Task) (yielded : List T) (entry : T) (devices devices_then : Devices D S O E) (whole next : ℕ) (done : Done) → To (map view yielded) devices whole
      → IsHandled did leads absent gave failures input_gave input_failures out_took err_took flags (job_of flags.k (view entry)) devices devices_then done.0 done.1
      → is_last flags.k done.1 ≡ false → next ≡ whole_status (whole ∷ done.1 ∷ []) → To (map view (yielded ++ entry ∷ [])) devices_then next
  handled_more view yielded entry devices devices_then whole next done first this not_last next_is =
      subst (λ tasks. To tasks devices_then next) (sym (map-append view yielded (entry ∷ [])))
      (more (map view yielded) devices devices_then whole next (view entry) done first this next_is not_last)

  pub handled_all : (before : List Task) (devices : Devices D S O E) (whole : ℕ) → To before devices whole → by_package script ≡ before
      → IsStatusOfAll did leads absent gave failures input_gave input_failures out_took err_took flags script start devices whole
  handled_all before devices whole first all = record {
    dones = first.dones;
    handled = subst (λ dones. AreHandled did leads absent gave failures input_gave input_failures out_took err_took flags (by_package script) start dones devices) (append-nil first.dones)
        (first.goes_on [] [] devices (all ∙ sym (append-nil before)) (refl, refl));
    whole_is = first.whole_is;
    left = first.left;
    shows = first.shows;
  }

  own_at : (home : Package) (job : Job) (folder : D) (input input_after : S) (account : Account)
      → IsAccountAt leads absent gave failures input_gave input_failures flags home job folder input input_after account → IsOwn account.status
  own_at None job folder input input_after account is = own_shown input_gave input_failures job _ input input_after account is
  own_at (Some home) job folder input input_after account (same, inl none) = inl (ap (λ (a : Account). a.status) none)
  own_at (Some home) job folder input input_after account (same, inr (path, inl unopened)) = inl (ap (λ (a : Account). a.status) unopened.account_is)
  own_at (Some home) job folder input input_after account (same, inr (path, inr (opened, is, inl shown))) = own_shown gave failures job path opened.source shown.1 account shown.2
  own_at (Some home) job folder input input_after account (same, inr (path, inr (opened, is, inr (placed, inl edited)))) = inr (edited.report, ap (λ (a : Account). a.status) edited.account_is)
  own_at (Some home) job folder input input_after account (same, inr (path, inr (opened, is, inr (placed, inr kept)))) = inl (ap (λ (a : Account). a.status) kept.account_is)

  own_three : (own : ℕ) → IsOwn own → (own == 2) ≡ false → (own == 0) ≡ false → own ≡ 3
  own_three own (inl failed) two none = absurd (false≢true (sym two ∙ ap (λ n. n == 2) failed))
  own_three own (inr (report, is)) two none = three_from report.failed report.changed own is two none

  output_three : (failed : Bool) (own status : ℕ) → status ≡ (if failed then 2 else own) → IsOwn own → (status == 2) ≡ false → (status == 0) ≡ false → status ≡ 3
  output_three true own status is from two none = absurd (false≢true (sym two ∙ ap (λ n. n == 2) is))
  output_three false own status is from two none = own_three status (subst IsOwn (sym is) from) two none

  package_three : (job : Job) (devices devices_then : Devices D S O E) (account : Account) (status : ℕ)
      → IsHandled did leads absent gave failures input_gave input_failures out_took err_took flags job devices devices_then account status → (status == 2) ≡ false → (status == 0) ≡ false → status ≡ 3
  package_three job devices devices_then account status this two none =
      output_three (has_failed devices_then.console) account.status status this.status_is (own_at job.home job devices.draft.folder devices.input devices_then.input account this.is_its) two none

  -- where the status of packages and of one more is 3, that of both is 3
  pub three_both : (before : List Task) (job : Job) (devices devices_then : Devices D S O E) (whole next : ℕ) (account : Account) (status : ℕ) → To before devices whole
      → IsHandled did leads absent gave failures input_gave input_failures out_took err_took flags job devices devices_then account status
      → next ≡ whole_status (whole ∷ status ∷ []) → next ≡ 3 → (whole ≡ 3) × (status ≡ 3)
  three_both before job devices devices_then whole next account status first this next_is three =
      let parts = three_of (whole == 2) (status == 2) (whole == 0) (status == 0) (sym next_is ∙ three) in (
        three_from (some_is 2 (map (λ d. d.1) first.dones)) (some_is 0 (map (λ d. d.1) first.dones)) whole first.whole_is parts.0 parts.2,
        package_three job devices devices_then account status this parts.1 parts.3,
      )
