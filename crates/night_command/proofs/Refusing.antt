-- The first refusal of files that are read one after another.
use Rattle.std.proofs.Common.{◌≡◌, ◌⊎◌, ◌<◌, ◌+◌, ◌++◌, ◌∷◌, ◌∙◌, [], inl, inr, ℕ, List, Option, Some}
use Rattle.std.proofs.Common.{ap, drop, get_or, length, refl, subst, sym, take}
use Rattle.std.proofs.lemmas.List.{drop_more, take-append-drop, take_more}
use Rattle.guide_tree.specs.declared.rows.GuideRows.{GuideRows}
use Rattle.guide_toml.specs.declared.fault.GuideFileFault.{GuideFileFault}
use Rattle.partner_setup.specs.SetupFaults.{first_fault}
use Rattle.partner_setup.specs.SetupFile.{setup_of_table}
use Rattle.partner_setup.specs.declared.rows.CounterRow.{CounterRow}
use Rattle.partner_setup.specs.declared.rows.SetupRows.{SetupRows}
use Rattle.partner_setup.specs.declared.setup_fault.SetupFault.{SetupFault}
use Rattle.partner_setup.specs.declared.setup_fault.SetupFault.TheVariants as setup
use Rattle.night_command.specs.Failure.{setup_failure}
use Rattle.guide_toml.specs.FileBytes.{IsFileOf, IsGuideOf}
use Rattle.night_command.specs.SetupFiles.{AreGuidesOf, AreRead, IsFirstGuideRefused, IsFirstRefusal, IsGuideRefused}
use Rattle.night_command.specs.SetupFiles.{IsMemoryOrIs, IsOfCounters, IsOfGuide, IsOfGuides, IsOfSetupFile, path_of}
use Rattle.night_command.specs.declared.setup_files.SetupFiles.{SetupFiles}
use Rattle.night_command.specs.declared.failure.Failure.{Failure}
use Rattle.night_command.specs.declared.failure.Failure.TheVariants as failure
use Rattle.night_command.specs.FileAt.{FileValue}

-- one guide more
pub one_more : (fs : List FileValue) (gs : List GuideRows) (f : FileValue) (g : GuideRows) → AreGuidesOf fs gs → IsGuideOf f.bytes g
    → AreGuidesOf (fs ++ f ∷ []) (gs ++ g ∷ [])
one_more [] [] f g all is = (is, tt)
one_more [] (h ∷ gs) f g all is = absurd all
one_more (e ∷ fs) [] f g all is = absurd all
one_more (e ∷ fs) (h ∷ gs) f g all is = (all.0, one_more fs gs f g all.1 is)

first_refused : (fs rest : List FileValue) (gs : List GuideRows) (f : FileValue) (path : List ℕ) (refusal : Option GuideFileFault)
    → AreGuidesOf fs gs → path_of f ≡ path → IsGuideRefused f.bytes refusal → IsFirstGuideRefused (fs ++ f ∷ rest) path refusal
first_refused [] rest gs f path refusal all at is = inl (at, is)
first_refused (e ∷ fs) rest [] f path refusal all at is = absurd all
first_refused (e ∷ fs) rest (h ∷ gs) f path refusal all at is = inr (h, all.0, first_refused fs rest gs f path refusal all.1 at is)

refused_behind : (fs rest : List FileValue) (gs : List GuideRows) (f : FileValue) (failed : Failure) → AreGuidesOf fs gs
    → IsOfGuide f failed → IsOfGuides (fs ++ f ∷ rest) failed
refused_behind fs rest gs f (failure.Guide path refusal) all is = first_refused fs rest gs f path.now refusal all is.0 is.1
refused_behind fs rest gs f _ all is = absurd is

-- guides, and after them one that is refused
pub stopped_at : (fs rest : List FileValue) (gs : List GuideRows) (f : FileValue) (failed : Failure) → AreGuidesOf fs gs
    → IsMemoryOrIs (IsOfGuide f) failed → IsMemoryOrIs (IsOfGuides (fs ++ f ∷ rest)) failed
stopped_at fs rest gs f failed all (inl memory) = inl memory
stopped_at fs rest gs f failed all (inr is) = inr (refused_behind fs rest gs f failed all is)

-- one step on in the list of files
pub more_guides : (fs : List FileValue) (i : ℕ) (gs new : List GuideRows) (f : FileValue) (g : GuideRows) → i < length fs
    → f ≡ get_or fs i f → AreGuidesOf (take i fs) gs → IsGuideOf f.bytes g → new ≡ gs ++ g ∷ [] → AreGuidesOf (take (i + 1) fs) new
more_guides fs i gs new f g within at all is pushed =
    let here : take i fs ++ f ∷ [] ≡ take (i + 1) fs =
    sym (take_more fs i f within ∙ ap (λ (x : FileValue). take i fs ++ x ∷ []) (sym at)) in
    rw (pushed) (subst (λ (xs : List FileValue). AreGuidesOf xs (gs ++ g ∷ [])) here (one_more (take i fs) gs f g all is))

-- and no step on
pub no_more_guides : (fs : List FileValue) (i : ℕ) (gs : List GuideRows) (f : FileValue) (failed : Failure) → i < length fs
    → f ≡ get_or fs i f → AreGuidesOf (take i fs) gs → IsMemoryOrIs (IsOfGuide f) failed → IsMemoryOrIs (IsOfGuides fs) failed
no_more_guides fs i gs f failed within at all is =
    let here : drop i fs ≡ f ∷ drop (i + 1) fs = drop_more fs i f within ∙ ap (λ (x : FileValue). x ∷ drop (i + 1) fs) (sym at) in
    let whole : take i fs ++ f ∷ drop (i + 1) fs ≡ fs = ap (λ (xs : List FileValue). take i fs ++ xs) (sym here) ∙ take-append-drop i fs in
    subst (λ (xs : List FileValue). IsMemoryOrIs (IsOfGuides xs) failed) whole
    (stopped_at (take i fs) (drop (i + 1) fs) gs f failed all is)

guides_first : (files : SetupFiles) (failed : Failure) → IsOfGuides files.guides failed → IsFirstRefusal files failed
guides_first files (failure.Guide path refusal) is = is
guides_first files _ is = absurd is

pub guides_fail : (files : SetupFiles) (failed : Failure) → IsMemoryOrIs (IsOfGuides files.guides) failed
    → IsMemoryOrIs (IsFirstRefusal files) failed
guides_fail files failed (inl memory) = inl memory
guides_fail files failed (inr is) = inr (guides_first files failed is)

setup_file_next : (files : SetupFiles) (gs : List GuideRows) (failed : Failure) → AreGuidesOf files.guides gs
    → IsOfSetupFile files.setup.bytes failed → IsFirstRefusal files failed
setup_file_next files gs (failure.SetupFile refusal) guides is = (gs, guides, is)
setup_file_next files gs _ guides is = absurd is

-- the setup file after its guides
pub setup_fails : (files : SetupFiles) (gs : List GuideRows) (failed : Failure) → AreGuidesOf files.guides gs
    → IsMemoryOrIs (IsOfSetupFile files.setup.bytes) failed → IsMemoryOrIs (IsFirstRefusal files) failed
setup_fails files gs failed guides (inl memory) = inl memory
setup_fails files gs failed guides (inr is) = inr (setup_file_next files gs failed guides is)

counters_next : (files : SetupFiles) (gs : List GuideRows) (rows : SetupRows) (failed : Failure) → AreGuidesOf files.guides gs
    → IsFileOf setup_of_table files.setup.bytes rows → IsOfCounters files.counters.bytes failed → IsFirstRefusal files failed
counters_next files gs rows (failure.CountersFile refusal) guides setup is = (gs, rows, guides, setup, is)
counters_next files gs rows _ guides setup is = absurd is

-- the counters file after the setup file
pub counters_file_fails : (files : SetupFiles) (gs : List GuideRows) (rows : SetupRows) (failed : Failure) → AreGuidesOf files.guides gs
    → IsFileOf setup_of_table files.setup.bytes rows → IsMemoryOrIs (IsOfCounters files.counters.bytes) failed
    → IsMemoryOrIs (IsFirstRefusal files) failed
counters_file_fails files gs rows failed guides setup (inl memory) = inl memory
counters_file_fails files gs rows failed guides setup (inr is) = inr (counters_next files gs rows failed guides setup is)

-- what they make together
pub build_fails : (files : SetupFiles) (gs : List GuideRows) (rows : SetupRows) (counters : List CounterRow) (f : SetupFault)
    → AreRead files gs rows counters → (f ≡ setup.NoMemory) ⊎ (first_fault rows counters gs ≡ Some f)
    → IsMemoryOrIs (IsFirstRefusal files) (setup_failure f)
build_fails files gs rows counters setup.NoMemory read is = inl refl
build_fails files gs rows counters (setup.SamePartner place) read (inr is) = inr (gs, rows, counters, read, is)
build_fails files gs rows counters (setup.BadDelimiters place) read (inr is) = inr (gs, rows, counters, read, is)
build_fails files gs rows counters (setup.BadId owner) read (inr is) = inr (gs, rows, counters, read, is)
build_fails files gs rows counters (setup.BadGuides owner) read (inr is) = inr (gs, rows, counters, read, is)
build_fails files gs rows counters (setup.BadRoute place) read (inr is) = inr (gs, rows, counters, read, is)
build_fails files gs rows counters (setup.BadCounter place) read (inr is) = inr (gs, rows, counters, read, is)
build_fails files gs rows counters (setup.BadCap place) read (inr is) = inr (gs, rows, counters, read, is)
build_fails files gs rows counters _ read (inl memory) = cc
