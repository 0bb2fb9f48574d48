-- What is reported of files one after another is what is reported of all.
use Rattle.std.proofs.Common.{◌≡◌, ◌<◌, ◌+◌, ◌++◌, ◌∷◌, ◌∙◌, [], inl, inr, ℕ, List, Option, None, Some, append_assoc}
use Rattle.std.proofs.Common.{ap, get_or, length, map, option_map, refl, subst, sym, take}
use Rattle.std.proofs.lemmas.List.{take_more}
use Rattle.guide_tree.specs.declared.rows.GuideRows.{GuideRows}
use Rattle.partner_setup.specs.declared.rows.CounterRow.{CounterRow}
use Rattle.partner_setup.specs.declared.rows.SetupRows.{SetupRows}
use Rattle.check_command.specs.Files.{listed, path_of, paths_of, paths_told}
use Rattle.check_command.specs.Judgements.{AreCountersFound, AreGuidesFound, IsGuideFound, IsToldBeside, told_beside, with_guide}
use Rattle.check_command.specs.Judgements.{AreCountedAlone, AreCountedBeside, IsCountedAlone, with_told}
use Rattle.guide_toml.specs.FileBytes.{IsGuideOf}
use Rattle.check_command.specs.SetupFiles.{AreGuidesOf, IsGuideRefused, IsSomeRefused}
use Rattle.check_command.specs.Tellings.{AreGuidesTold, AreTold, IsCountersTold, IsFileTold, IsGuideTold, IsJudged, IsSetupTold, IsSomeTold}
use Rattle.check_command.specs.declared.files.Given.{Given}
use Rattle.check_command.specs.declared.files.GivenFiles.{GivenFiles}
use Rattle.check_command.specs.declared.told.FileTold.{FileTold}
use Rattle.check_command.specs.declared.told.Told.{Told}

one_line_more : (fs : List Given) (ls : List FileTold) (f : Given) (l : FileTold) → AreGuidesTold fs ls → IsFileTold IsGuideTold f l
    → AreGuidesTold (fs ++ f ∷ []) (ls ++ l ∷ [])
one_line_more [] [] f l all is = (is, tt)
one_line_more [] (k ∷ ls) f l all is = absurd all
one_line_more (e ∷ fs) [] f l all is = absurd all
one_line_more (e ∷ fs) (k ∷ ls) f l all is = (all.0, one_line_more fs ls f l all.1 is)

here : (fs : List Given) (i : ℕ) (f : Given) → i < length fs → f ≡ get_or fs i f → take i fs ++ f ∷ [] ≡ take (i + 1) fs
here fs i f within at = sym (take_more fs i f within ∙ ap (λ (x : Given). take i fs ++ x ∷ []) (sym at))

-- one file more
pub more_lines : (fs : List Given) (i : ℕ) (ls new : List FileTold) (f : Given) (l : FileTold) → i < length fs → f ≡ get_or fs i f
    → AreGuidesTold (take i fs) ls → IsFileTold IsGuideTold f l → new ≡ ls ++ l ∷ [] → AreGuidesTold (take (i + 1) fs) new
more_lines fs i ls new f l within at all is pushed =
    rw (pushed)
    (subst (λ (xs : List Given). AreGuidesTold xs (ls ++ l ∷ [])) (here fs i f within at) (one_line_more (take i fs) ls f l all is))

one_guide_more : (fs : List Given) (gs : List GuideRows) (f : Given) (g : GuideRows) → AreGuidesOf fs gs → IsGuideOf f.bytes g
    → AreGuidesOf (fs ++ f ∷ []) (gs ++ g ∷ [])
one_guide_more [] [] f g all is = (is, tt)
one_guide_more [] (h ∷ gs) f g all is = absurd all
one_guide_more (e ∷ fs) [] f g all is = absurd all
one_guide_more (e ∷ fs) (h ∷ gs) f g all is = (all.0, one_guide_more fs gs f g all.1 is)

still_refused : (fs : List Given) (f : Given) → IsSomeRefused fs → IsSomeRefused (fs ++ f ∷ [])
still_refused [] f some = absurd some
still_refused (e ∷ fs) f (inl is) = inl is
still_refused (e ∷ fs) f (inr some) = inr (still_refused fs f some)

last_refused : (fs : List Given) (f : Given) → ((text : List ℕ) × IsGuideRefused f.bytes text) → IsSomeRefused (fs ++ f ∷ [])
last_refused [] f is = inl is
last_refused (e ∷ fs) f is = inr (last_refused fs f is)

one_found_more : (fs : List Given) (gs : Option (List GuideRows)) (f : Given) (g : Option GuideRows) → AreGuidesFound fs gs
    → IsGuideFound f.bytes g → AreGuidesFound (fs ++ f ∷ []) (with_guide gs g)
one_found_more fs None f g all is = still_refused fs f all
one_found_more fs (Some gs) f None all is = last_refused fs f is
one_found_more fs (Some gs) f (Some g) all is = one_guide_more fs gs f g all is

pub more_found : (fs : List Given) (i : ℕ) (gs new : Option (List GuideRows)) (f : Given) (g : Option GuideRows) → i < length fs
    → f ≡ get_or fs i f → AreGuidesFound (take i fs) gs → IsGuideFound f.bytes g → new ≡ with_guide gs g
    → AreGuidesFound (take (i + 1) fs) new
more_found fs i gs new f g within at all is joined =
    rw (joined)
    (subst (λ (xs : List Given). AreGuidesFound xs (with_guide gs g)) (here fs i f within at)
    (one_found_more (take i fs) gs f g all is))

judged : (fs : List Given) (counters : Option Given) (gs : Option (List GuideRows)) (cs : Option (List CounterRow)) (rows : SetupRows)
    (t : Told) → AreGuidesFound fs gs → AreCountersFound counters cs → t ≡ told_beside rows gs cs → IsJudged fs counters rows t
judged fs counters None cs rows t guides found is = inr (inl guides, is)
judged fs counters (Some gs) None rows t guides found is = inr (inr found, is)
judged fs counters (Some gs) (Some cs) rows t guides found is = inl (gs, cs, guides, found, is)

setup_told : (fs : List Given) (counters : Option Given) (gs : Option (List GuideRows)) (cs : Option (List CounterRow))
    (bytes : Option (List ℕ)) (t : Told) → AreGuidesFound fs gs → AreCountersFound counters cs → IsToldBeside gs cs bytes t
    → IsSetupTold fs counters bytes t
setup_told fs counters gs cs bytes t guides found (inl is) = inl is
setup_told fs counters gs cs bytes t guides found (inr (rows, file, is)) =
    inr (rows, file, judged fs counters gs cs rows t guides found is)

pub setup_line : (fs : List Given) (counters : Option Given) (gs : Option (List GuideRows)) (cs : Option (List CounterRow))
    (file : Option Given) (line : Option FileTold) → AreGuidesFound fs gs → AreCountersFound counters cs
    → IsSomeTold (IsToldBeside gs cs) file line → IsSomeTold (IsSetupTold fs counters) file line
setup_line fs counters gs cs None None guides found is = is
setup_line fs counters gs cs None (Some l) guides found is = is
setup_line fs counters gs cs (Some f) None guides found is = is
setup_line fs counters gs cs (Some f) (Some l) guides found is =
    (is.0, setup_told fs counters gs cs f.bytes l.told guides found is.1)

-- counters that no setup judges
left_alone : (fs : List Given) (setup : Option Given) (gs : Option (List GuideRows)) (cs : Option (List CounterRow))
    (bytes : Option (List ℕ)) (t : Told) → AreGuidesFound fs gs → AreCountedBeside gs cs setup None → IsCountedAlone bytes cs t
    → IsCountersTold fs setup bytes t
left_alone fs setup gs None bytes t guides beside is = inl is
left_alone fs None gs (Some rows) bytes t guides beside is = inr (rows, is.0, inr (inr tt, is.1))
left_alone fs (Some f) gs (Some rows) bytes t guides (inl (text, refused, none)) is =
    inr (rows, is.0, inr (inr (text, refused), is.1))
left_alone fs (Some f) None (Some rows) bytes t guides (inr found) is = inr (rows, is.0, inr (inl guides, is.1))
left_alone fs (Some f) (Some gs) (Some rows) bytes t guides (inr (setup, file, none)) is = absurd (cc)

-- counters that a setup judges
counted : (fs : List Given) (setup : Option Given) (gs : Option (List GuideRows)) (cs : Option (List CounterRow))
    (bytes : Option (List ℕ)) (t u : Told) → AreGuidesFound fs gs → AreCountedBeside gs cs setup (Some u) → IsCountedAlone bytes cs t
    → IsCountersTold fs setup bytes u
counted fs None gs cs bytes t u guides beside is = absurd (cc)
counted fs (Some f) gs cs bytes t u guides (inl (text, refused, none)) is = absurd (cc)
counted fs (Some f) None cs bytes t u guides (inr (setup, file, none)) is = absurd (cc)
counted fs (Some f) (Some gs) None bytes t u guides (inr (setup, file, none)) is = absurd (cc)
counted fs (Some f) (Some gs) (Some rows) bytes t u guides (inr (setup, file, same)) is =
    inr (rows, is.0, inl (gs, setup, guides, file, cc))

pub counters_line : (fs : List Given) (setup : Option Given) (gs : Option (List GuideRows)) (cs : Option (List CounterRow))
    (file : Option Given) (line : Option FileTold) (t : Option Told) → AreGuidesFound fs gs → AreCountedBeside gs cs setup t
    → AreCountedAlone file cs line → IsSomeTold (IsCountersTold fs setup) file (with_told line t)
counters_line fs setup gs cs None None t guides beside is = tt
counters_line fs setup gs cs None (Some l) t guides beside is = absurd is
counters_line fs setup gs cs (Some f) None t guides beside is = absurd is
counters_line fs setup gs cs (Some f) (Some l) None guides beside is =
    (is.0, left_alone fs setup gs cs f.bytes l.told guides beside is.1)
counters_line fs setup gs cs (Some f) (Some l) (Some u) guides beside is =
    (is.0, counted fs setup gs cs f.bytes l.told u guides beside is.1)

-- the guides' lines, then that of the setup, then that of the counters
pub all_told : (given : GivenFiles) (lines new : List FileTold) (setup line : Option FileTold) (gs : Option (List GuideRows))
    (cs : Option (List CounterRow)) (t : Option Told) → AreGuidesTold given.guides lines → AreGuidesFound given.guides gs
    → AreCountersFound given.counters cs → IsSomeTold (IsToldBeside gs cs) given.setup setup → AreCountedBeside gs cs given.setup t
    → AreCountedAlone given.counters cs line → new ≡ (lines ++ listed setup) ++ listed (with_told line t) → AreTold given new
all_told given lines new setup line gs cs t told found rows judged beside alone pushed = record {
  guides = lines;
  setup = setup;
  counters = with_told line t;
  order = pushed ∙ append_assoc lines (listed setup) (listed (with_told line t));
  of_guides = told;
  of_setup = setup_line given.guides given.counters gs cs given.setup setup found rows judged;
  of_counters = counters_line given.guides given.setup gs cs given.counters line t found beside alone;
}

guide_paths : (fs : List Given) (ls : List FileTold) → AreGuidesTold fs ls → paths_told ls ≡ map path_of fs
guide_paths [] [] all = refl
guide_paths [] (l ∷ ls) all = absurd all
guide_paths (f ∷ fs) [] all = absurd all
guide_paths (f ∷ fs) (l ∷ ls) all = let a = all.0.0 in let b = guide_paths fs ls all.1 in cc

some_path : (P : Option (List ℕ) → Told → Type 0) (f : Option Given) (l : Option FileTold) → IsSomeTold P f l
    → paths_told (listed l) ≡ listed (option_map path_of f)
some_path P None None is = refl
some_path P None (Some l) is = absurd is
some_path P (Some f) None is = absurd is
some_path P (Some f) (Some l) is = ap (λ (p : List ℕ). p ∷ []) is.0

joined_paths : (xs ys : List FileTold) → paths_told (xs ++ ys) ≡ paths_told xs ++ paths_told ys
joined_paths [] ys = refl
joined_paths (x ∷ xs) ys = ap (λ (ps : List (List ℕ)). x.path.now ∷ ps) (joined_paths xs ys)

-- each file has its line
pub same_paths : (given : GivenFiles) (lines : List FileTold) → AreTold given lines → paths_told lines ≡ paths_of given
same_paths given lines told =
    ap paths_told told.order
    ∙ joined_paths told.guides (listed told.setup ++ listed told.counters)
    ∙ ap (λ (ps : List (List ℕ)). paths_told told.guides ++ ps) (joined_paths (listed told.setup) (listed told.counters))
    ∙ ap (λ (ps : List (List ℕ)). ps ++ (paths_told (listed told.setup) ++ paths_told (listed told.counters)))
    (guide_paths given.guides told.guides told.of_guides)
    ∙ ap (λ (ps : List (List ℕ)). map path_of given.guides ++ (ps ++ paths_told (listed told.counters)))
    (some_path (IsSetupTold given.guides given.counters) given.setup told.setup told.of_setup)
    ∙ ap (λ (ps : List (List ℕ)). map path_of given.guides ++ (listed (option_map path_of given.setup) ++ ps))
    (some_path (IsCountersTold given.guides given.setup) given.counters told.counters told.of_counters)
