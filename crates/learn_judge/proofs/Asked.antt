-- A set that is asked for as the index has it is one of the text.
use Rattle.std.proofs.Common.{◌≡◌, ◌∙◌, ◌<◌, ℕ, zero, suc, List, [], ◌∷◌, length, get_or}
use Rattle.std.proofs.Common.{Option, inl, inr, refl, sym, subst, arith}
use Rattle.std.specs.Prelude.{◌⊎◌, IsTrue, bytes_eq, true}
use Rattle.std.specs.Option.{option_map_or}
use Rattle.std.specs.List.{All, Any}
use Rattle.std.proofs.lemmas.List.Elements.{All-head, All-tail}
use Rattle.env_index.specs.Words as then
use Rattle.env_index.specs.declared.entry.SetEnvelope.{SetEnvelope}
use Rattle.night_definition.specs.Segments.{Segment, element}
use Rattle.night_definition.specs.Envelopes.{Group, Set}
use Rattle.night_definition.specs.Interchanges.{Interchange, text_of}
use Rattle.night_equal_text.specs.Kept.{AreGroupsKept, AreSetsKept, IsKept, IsSetKept}
use Rattle.night_equal_text.specs.Laws.{FaultsAreOne, InterchangesAreKept, TextsAreIndexes}
use Rattle.night_equal_text.specs.Seen.{AreSame}
use Rattle.learn_judge.proofs.Taking.{same_fault}
use Rattle.learn_judge.specs.Indexed.{EntryHasSet, GroupHasSetIn, is_asked_in}
use Rattle.learn_judge.specs.Samples.{GroupHasSet, HasSet, InterchangeHasSet, is_asked}

any_first : {A : Type 0} (P : A → Type 0) (x : A) (xs : List A) → P x → Any P (x ∷ xs)
any_first P x xs holds = (0, x, omega arith, refl, holds)

any_later : {A : Type 0} (P : A → Type 0) (x : A) (xs : List A) → Any P xs → Any P (x ∷ xs)
any_later P x xs any = (suc any.0, any.1, omega (arith, any.2), any.3, any.4)

cases_at : {A : Type 0} (P : A → Type 0) (x : A) (xs : List A) (k : ℕ) (y : A) → k < length (x ∷ xs) → get_or (x ∷ xs) k y ≡ y → P y
    → P x ⊎ Any P xs
cases_at P x xs zero y within at holds = inl (subst P (sym at) holds)
cases_at P x xs (suc k) y within at holds = inr (k, y, omega (arith, within), at, holds)

any_cases : {A : Type 0} (P : A → Type 0) (x : A) (xs : List A) → Any P (x ∷ xs) → P x ⊎ Any P xs
any_cases P x xs any = cases_at P x xs any.0 any.1 any.2 any.3 any.4

module _ (st01 : Option (List ℕ)) where
  abbrev AskedIn : SetEnvelope → Type 0
  AskedIn e = IsTrue (is_asked_in st01 e.header)

  abbrev Asked : Set → Type 0
  Asked s = IsTrue (is_asked st01 s)

  set : (s : Set) (e : SetEnvelope) → IsSetKept s e → AskedIn e → Asked s
  set s e kept asked =
      subst (λ (h : Segment). IsTrue (option_map_or (λ id. bytes_eq (element 1 h.elements) id) st01 true)) (sym kept.header) asked

  sets : (ss : List Set) (es : List SetEnvelope) → AreSetsKept ss es → Any AskedIn es → Any Asked ss
  sets [] [] kept any = absurd (omega (arith, any.2))
  sets [] (e ∷ es) kept any = absurd kept
  sets (s ∷ ss) [] kept any = absurd kept
  sets (s ∷ ss) (e ∷ es) kept any = elim (any_cases AskedIn e es any) [
    | inl here ↦ any_first Asked s ss (set s e kept.0 here)
    | inr later ↦ any_later Asked s ss (sets ss es kept.1 later)
  ]

  groups : (gs : List Group) (es : List then.GroupEntry) → AreGroupsKept gs es → Any (GroupHasSetIn st01) es → Any (GroupHasSet st01) gs
  groups [] [] kept any = absurd (omega (arith, any.2))
  groups [] (e ∷ es) kept any = absurd kept
  groups (g ∷ gs) [] kept any = absurd kept
  groups (g ∷ gs) (e ∷ es) kept any = elim (any_cases (GroupHasSetIn st01) e es any) [
    | inl here ↦ any_first (GroupHasSet st01) g gs (sets g.sets e.sets kept.0.sets here)
    | inr later ↦ any_later (GroupHasSet st01) g gs (groups gs es kept.1 later)
  ]

  interchange : FaultsAreOne → (x : Interchange) (e : then.IndexEntry) → IsKept x e.interchange → e.fault ≡ then.fault_of e.interchange
      → EntryHasSet st01 e → InterchangeHasSet st01 x
  interchange faults x e kept fault has = (
    same_fault x x.content.iea refl ∙ faults x e.interchange kept ∙ sym fault ∙ has.0,
    groups x.content.groups e.interchange.content.groups kept.content.groups has.1,
  )

  interchanges : InterchangesAreKept → FaultsAreOne → (text : List ℕ) (xs : List Interchange) (es : List then.IndexEntry)
      → AreSame text xs es → All (then.IsEntryOf text) es → Any (EntryHasSet st01) es → Any (InterchangeHasSet st01) xs
  interchanges keeps faults text [] [] same entries any = absurd (omega (arith, any.2))
  interchanges keeps faults text [] (e ∷ es) same entries any = absurd same
  interchanges keeps faults text (x ∷ xs) [] same entries any = absurd same
  interchanges keeps faults text (x ∷ xs) (e ∷ es) same entries any = elim (any_cases (EntryHasSet st01) e es any) [
    | inl here ↦ any_first (InterchangeHasSet st01) x xs (interchange faults x e (keeps text x e.interchange same.0)
        (All-head (then.IsEntryOf text) e es entries).fault here)
    | inr later ↦ any_later (InterchangeHasSet st01) x xs (interchanges keeps faults text xs es same.1
        (All-tail (then.IsEntryOf text) e es entries) later)
  ]

  -- a text has a set that is asked for if its index has one
  pub text_has : TextsAreIndexes → InterchangesAreKept → FaultsAreOne → (text : List ℕ) (index : then.IndexValue)
      → then.IsIndex text index → Any (EntryHasSet st01) index.entries → HasSet st01 text
  text_has texts keeps faults text index is any =
      interchanges keeps faults text (text_of text).interchanges index.entries (texts text index is).0 is.entries any
