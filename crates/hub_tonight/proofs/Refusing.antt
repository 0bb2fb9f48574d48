-- Why a file isn't read, and which guide is the first that isn't.
use Rattle.std.proofs.Common.{◌≡◌, ◌≢◌, ◌<◌, ◌+◌, ◌++◌, ◌∷◌, ◌∙◌, ◌==◌, [], ℕ, false, List, Some, refl, subst, sym, ap, get_or}
use Rattle.std.proofs.Common.{length, take}
use Rattle.std.specs.Prelude.{slice_get}
use Rattle.std.proofs.lemmas.List.{take_more}
use Rattle.std.proofs.lemmas.Option.{slice_get_read}
use Rattle.guide_tree.specs.declared.fault.GuideFault.{GuideFault}
use Rattle.guide_tree.specs.declared.fault.GuideFault.TheVariants as own
use Rattle.guide_tree.specs.declared.rows.GuideRows.{GuideRows}
use Rattle.guide_toml.specs.FileBytes.{IsFaultOf, IsFileOf, IsGuideFaultOf, IsGuideOf}
use Rattle.guide_toml.specs.declared.fault.GuideFileFault.{GuideFileFault}
use Rattle.guide_toml.specs.declared.fault.GuideFileFault.TheVariants as fault
use Rattle.night_shelf.specs.declared.night.NightFile.{NightFile}
use Rattle.partner_setup.specs.CountersFile.{counters_of_table}
use Rattle.partner_setup.specs.SetupFile.{setup_of_table}
use Rattle.partner_setup.specs.declared.rows.CounterRow.{CounterRow}
use Rattle.toml_keys.specs.declared.file_fault.FileFault.{FileFault}
use Rattle.toml_keys.specs.declared.file_fault.FileFault.TheVariants as file
use Rattle.hub_tonight.specs.Faults.{first_stopped, guide_stopped, own_stopped, setup_stopped}
use Rattle.hub_tonight.specs.Files.{AreFirst, AreGuides}
use Rattle.hub_tonight.specs.Made.{IsOfFirst, IsOfGuide, IsOfGuides, IsOfSetup}
use Rattle.hub_tonight.specs.declared.stopped.Stopped.{Stopped}
use Rattle.hub_tonight.specs.declared.stopped.Stopped.TheVariants as stopped

own_refused : (place : ℕ) (bytes : List ℕ) (f : GuideFault) → IsGuideFaultOf bytes (fault.Guide f)
    → IsOfGuide place bytes (own_stopped place f)
own_refused place bytes own.NoMemory is = tt
own_refused place bytes own.TooDeep is = (refl, is)
own_refused place bytes own.TooMany is = (refl, is)
own_refused place bytes (own.BadBounds k) is = (refl, is)
own_refused place bytes (own.BadTrigger k) is = (refl, is)
own_refused place bytes (own.Ambiguous a b) is = (refl, is)
own_refused place bytes (own.BadCondition k) is = (refl, is)

pub guide_refused : (place : ℕ) (bytes : List ℕ) (f : GuideFileFault) → (f ≢ fault.NoMemory → IsGuideFaultOf bytes f)
    → IsOfGuide place bytes (guide_stopped place f)
guide_refused place bytes fault.NoMemory is = tt
guide_refused place bytes fault.NotToml is = (refl, is (λ e. cc))
guide_refused place bytes (fault.Missing k slot) is = (refl, is (λ e. cc))
guide_refused place bytes (fault.WrongKind k slot) is = (refl, is (λ e. cc))
guide_refused place bytes (fault.Unknown k slot) is = (refl, is (λ e. cc))
guide_refused place bytes (fault.Guide f) is = own_refused place bytes f (is (λ e. cc))

pub setup_refused : (bytes : List ℕ) (f : FileFault) → (f ≢ file.NoMemory → IsFaultOf setup_of_table bytes f)
    → IsOfSetup bytes (setup_stopped f)
setup_refused bytes file.NoMemory is = tt
setup_refused bytes file.NotToml is = is (λ e. cc)
setup_refused bytes (file.Missing key) is = is (λ e. cc)
setup_refused bytes (file.WrongKind key) is = is (λ e. cc)
setup_refused bytes (file.Unknown key) is = is (λ e. cc)

pub first_refused : (bytes : List ℕ) (f : FileFault) → bytes ≢ [] → (f ≢ file.NoMemory → IsFaultOf counters_of_table bytes f)
    → IsOfFirst bytes (first_stopped f)
first_refused bytes file.NoMemory some is = tt
first_refused bytes file.NotToml some is = (some, is (λ e. cc))
first_refused bytes (file.Missing key) some is = (some, is (λ e. cc))
first_refused bytes (file.WrongKind key) some is = (some, is (λ e. cc))
first_refused bytes (file.Unknown key) some is = (some, is (λ e. cc))

-- a first counters file that isn't empty
pub some_bytes : (bytes : List ℕ) → false ≡ (length bytes == 0) → bytes ≢ []
some_bytes [] e none = cc
some_bytes (b ∷ bytes) e none = cc

pub first_are : (bytes : List ℕ) (rows : List CounterRow) → bytes ≢ [] → IsFileOf counters_of_table (Some bytes) rows → AreFirst bytes rows
first_are [] rows some is = absurd (some refl)
first_are (b ∷ bytes) rows some is = is

one_more : (fs : List NightFile) (gs : List GuideRows) (f : NightFile) (g : GuideRows) → AreGuides fs gs → IsGuideOf (Some f.bytes) g
    → AreGuides (fs ++ f ∷ []) (gs ++ g ∷ [])
one_more [] [] f g all is = (is, tt)
one_more [] (h ∷ gs) f g all is = absurd all
one_more (e ∷ fs) [] f g all is = absurd all
one_more (e ∷ fs) (h ∷ gs) f g all is = (all.0, one_more fs gs f g all.1 is)

-- one step on in the list of guide files
pub more_guides : (fs : List NightFile) (i : ℕ) (gs new : List GuideRows) (f : NightFile) (g : GuideRows) (bytes : List ℕ) → i < length fs
    → f ≡ get_or fs i f → bytes ≡ f.bytes → AreGuides (take i fs) gs → IsGuideOf (Some bytes) g → new ≡ gs ++ g ∷ []
    → AreGuides (take (i + 1) fs) new
more_guides fs i gs new f g bytes low at same all is pushed =
    let taken : take (i + 1) fs ≡ take i fs ++ f ∷ [] = take_more fs i f low ∙ ap (λ (x : NightFile). take i fs ++ x ∷ []) (sym at) in
    subst (λ (xs : List NightFile). AreGuides xs new) (sym taken)
    (subst (AreGuides (take i fs ++ f ∷ [])) (sym pushed)
    (one_more (take i fs) gs f g all (subst (λ (b : List ℕ). IsGuideOf (Some b) g) same is)))

stands_at : (fs : List NightFile) (i : ℕ) (f : NightFile) → i < length fs → f ≡ get_or fs i f → slice_get fs i ≡ Some f
stands_at fs i f low at = slice_get_read fs (length fs) i f refl low at

-- guides, and after them one that is refused
pub no_more_guides : (fs : List NightFile) (i : ℕ) (gs : List GuideRows) (f : NightFile) (bytes : List ℕ) (s : Stopped) → i < length fs
    → f ≡ get_or fs i f → bytes ≡ f.bytes → AreGuides (take i fs) gs → IsOfGuide i bytes s → IsOfGuides fs s
no_more_guides fs i gs f bytes stopped.Memory low at same all is = tt
no_more_guides fs i gs f bytes (stopped.Guide place fault) low at same all is =
    subst (λ (n : ℕ). IsOfGuides fs (stopped.Guide n fault)) (sym is.0)
    (record {
      before = gs;
      taken = all;
      file = f;
      stands = stands_at fs i f low at;
      refused = subst (λ (b : List ℕ). IsGuideFaultOf b fault) same is.1;
    })
no_more_guides fs i gs f bytes _ low at same all is = absurd is
