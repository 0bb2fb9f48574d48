-- What is said further of a file is what its bytes say, and of all files what is said of each.
use Rattle.std.proofs.Common.{◌≡◌, ◌≢◌, ◌<◌, ◌+◌, ◌++◌, ◌∷◌, ◌∙◌, [], inl, inr, ℕ, List, Option, Some, Result, Ok, Err}
use Rattle.std.proofs.Common.{ap, append_assoc, get_or, length, refl, subst, sym, take}
use Rattle.std.proofs.lemmas.List.{take_more}
use Rattle.toml.specs.Data.{Members}
use Rattle.guide_tree.specs.declared.rows.GuideRows.{GuideRows}
use Rattle.guide_tree.specs.Words.{guide_of, nodes_view, numbered}
use Rattle.guide_toml.specs.Answers.{Answers}
use Rattle.guide_toml.specs.Guides.{guide_of_table}
use Rattle.guide_toml.specs.declared.fault.GuideFileFault.{GuideFileFault}
use Rattle.guide_toml.specs.declared.fault.GuideFileFault.TheVariants as fault
use Rattle.toml_keys.specs.Answers.{Gives}
use Rattle.toml_keys.specs.Refusals.{Refusal}
use Rattle.toml_keys.specs.declared.file_fault.FileFault.{FileFault}
use Rattle.toml_keys.specs.declared.file_fault.FileFault.TheVariants as file
use Rattle.setup_errors.specs.NodesSaid.{node_faults}
use Rattle.check_command.specs.Files.{listed}
use Rattle.check_command.specs.Further.{AreNodesSaid, AreSaid, AreSaidOfGuides, IsFileFurther, IsGuideFurther, IsSaidOfCounters}
use Rattle.check_command.specs.Further.{IsSaidOfFile, IsSaidOfGuide, IsSaidOfSetup, IsSomeSaid, Sentences}
use Rattle.check_command.specs.declared.files.Given.{Given}
use Rattle.check_command.specs.declared.files.GivenFiles.{GivenFiles}
use Rattle.guide_toml.proofs.ForAbove.{SaysNone, SaysOf, fault_is, guide_fault_is, guide_is, has_table, one_or_none, rows_are}

pub guide_taken : (from : Option (List ℕ)) (bytes : List ℕ) (g : GuideRows) (said : Sentences) → Some bytes ≡ from
    → SaysOf bytes (λ t. Answers (Ok g) (guide_of_table t)) → SaysNone GuideRows GuideFileFault bytes fault.NotToml fault.NoMemory (Ok g)
    → said ≡ [] → IsSaidOfGuide from said
guide_taken from bytes g said is table toml none =
    subst (λ (b : Option (List ℕ)). IsSaidOfGuide b said) is (inl (g, guide_is (Some bytes) bytes g refl table toml, none))

pub guide_behind : (from : Option (List ℕ)) (bytes : List ℕ) (f : GuideFileFault) (said : Sentences) → Some bytes ≡ from
    → SaysOf bytes (λ t. Answers (Err f) (guide_of_table t))
    → SaysNone GuideRows GuideFileFault bytes fault.NotToml fault.NoMemory (Err f) → f ≢ fault.NoMemory → IsGuideFurther bytes f said
    → IsSaidOfGuide from said
guide_behind from bytes f said is table toml memory behind =
    subst (λ (b : Option (List ℕ)). IsSaidOfGuide b said) is (inr (f, guide_fault_is bytes f table toml memory, behind))

pub nodes_are : (bytes : List ℕ) (rows : GuideRows) (said : Sentences) → SaysOf bytes (λ t. guide_of_table t ≡ Ok (guide_of rows))
    → SaysNone GuideRows GuideFileFault bytes fault.NotToml fault.NoMemory (Ok rows)
    → length said ≡ length (node_faults (numbered 1 (nodes_view rows.nodes.items))) → AreNodesSaid bytes said
nodes_are bytes rows said table toml is = (
  guide_of rows,
  has_table bytes (λ t. guide_of_table t ≡ Ok (guide_of rows)) fault.NotToml fault.NoMemory (Ok rows) (one_or_none bytes) (λ e. cc)
      (λ e. cc) table toml,
  is,
)

pub rows_taken : {A : Type 0} (read : Members → Result A Refusal) (keys : Members → Sentences) (rows : A → Sentences)
    (from : Option (List ℕ)) (bytes : List ℕ) (own : A) (said : Sentences) → Some bytes ≡ from
    → SaysOf bytes (λ t. Gives (Ok own) (read t)) → SaysNone A FileFault bytes file.NotToml file.NoMemory (Ok own) → said ≡ rows own
    → IsSaidOfFile read keys rows from said
rows_taken read keys rows from bytes own said is table toml same =
    subst (λ (b : Option (List ℕ)). IsSaidOfFile read keys rows b said) is
    (inl (own, rows_are read (Some bytes) bytes own refl table toml, same))

pub rows_behind : {A : Type 0} (read : Members → Result A Refusal) (keys : Members → Sentences) (rows : A → Sentences)
    (from : Option (List ℕ)) (bytes : List ℕ) (f : FileFault) (said : Sentences) → Some bytes ≡ from
    → SaysOf bytes (λ t. Gives (Err f) (read t)) → SaysNone A FileFault bytes file.NotToml file.NoMemory (Err f) → f ≢ file.NoMemory
    → IsFileFurther keys bytes f said → IsSaidOfFile read keys rows from said
rows_behind read keys rows from bytes f said is table toml memory behind =
    subst (λ (b : Option (List ℕ)). IsSaidOfFile read keys rows b said) is
    (inr (f, fault_is read bytes f table toml memory, behind))

one_more : (fs : List Given) (ss : List Sentences) (f : Given) (s : Sentences) → AreSaidOfGuides fs ss → IsSaidOfGuide f.bytes s
    → AreSaidOfGuides (fs ++ f ∷ []) (ss ++ s ∷ [])
one_more [] [] f s all is = (is, tt)
one_more [] (r ∷ ss) f s all is = absurd all
one_more (e ∷ fs) [] f s all is = absurd all
one_more (e ∷ fs) (r ∷ ss) f s all is = (all.0, one_more fs ss f s all.1 is)

pub more_said : (fs : List Given) (i : ℕ) (ss new : List Sentences) (f : Given) (s : Sentences) → i < length fs → f ≡ get_or fs i f
    → AreSaidOfGuides (take i fs) ss → IsSaidOfGuide f.bytes s → new ≡ ss ++ s ∷ [] → AreSaidOfGuides (take (i + 1) fs) new
more_said fs i ss new f s within at all is pushed =
    rw (pushed)
    (subst (λ (xs : List Given). AreSaidOfGuides xs (ss ++ s ∷ []))
    (sym (take_more fs i f within ∙ ap (λ (x : Given). take i fs ++ x ∷ []) (sym at))) (one_more (take i fs) ss f s all is))

pub all_said : (given : GivenFiles) (guides all : List Sentences) (setup counters : Option Sentences)
    → AreSaidOfGuides given.guides guides → IsSomeSaid IsSaidOfSetup given.setup setup
    → IsSomeSaid IsSaidOfCounters given.counters counters → all ≡ (guides ++ listed setup) ++ listed counters → AreSaid given all
all_said given guides all setup counters of_guides of_setup of_counters is = record {
  guides = guides;
  setup = setup;
  counters = counters;
  order = is ∙ append_assoc guides (listed setup) (listed counters);
  of_guides = of_guides;
  of_setup = of_setup;
  of_counters = of_counters;
}
