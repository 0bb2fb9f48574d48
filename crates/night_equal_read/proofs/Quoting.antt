-- What the acknowledgments of a partner repeat holds none of its delimiters, where its guides can be quoted.
use Rattle.std.proofs.Common.{◌≡◌, ℕ, Bool, true, false, not, List, [], ◌∷◌, Option, Some, None, refl, sym, ap, subst, ◌∙◌}
use Rattle.std.proofs.Common.{arith, true≢false}
use Rattle.std.specs.Prelude.{filter, if◌then◌else◌, is_none}
use Rattle.std.specs.List.{All}
use Rattle.std.proofs.lemmas.List.Elements.{All-cons, All-head, All-nil, All-tail}
use Rattle.x12_bytes.specs.declared.delims.Delims.{Delims}
use Rattle.moment.specs.Moment.{IsMoment}
use Rattle.hub_kinds.specs.declared.interchange.InterchangeFault.{InterchangeFault}
use Rattle.env_index.specs.Words.{GroupEntry, IndexEntry}
use Rattle.partner_setup.specs.declared.partner.Partner.{Partner}
use Rattle.partner_setup.specs.Setup.{SetupValue}
use Rattle.partner_setup.specs.SetupFaults.{are_ids}
use Rattle.partner_setup.specs.Sound.{IsSoundPartner}
use Rattle.answered_sets.specs.Judged.{is_fa, responded_groups}
use Rattle.set_answers.specs.declared.answered.AnsweredGroup.{AnsweredGroup}
use Rattle.set_answers.specs.Acknowledgments.{present}
use Rattle.set_answers.specs.Answers.{SentValue}
use Rattle.set_answers.specs.CheckedText.{AreAnswersBy, AreCheckedAs, CheckedInterchange, IsCheckedAs, acknowledged_to, is_acknowledged_to}
use Rattle.set_answers.specs.CheckedText.{sent_by}
use Rattle.set_answers.specs.Pairs.{AreAllPairs}
use Rattle.night_law.specs.Quotable.{AreQuotable, IsGroupQuotable}
use Rattle.night_law.specs.Told.{groups_told, is_told_to}
use Rattle.night_law.proofs.ForAbove.{IsAnsweredGroup, IsGroupRead, IsRead, acknowledged_as_told, answered_anywhere, answers_here, at_index}
use Rattle.night_law.proofs.ForAbove.{component, elements_undivided, group_quoted, groups_read, pairs_all, pairs_tail}
use Rattle.night_equal_read.proofs.Enveloped.{IsQuoted}

-- what is so of the items that pass a test, is so of each that passes
module _ {A : Type 0} (P : A → Type 0) (test : A → Bool) where
  abbrev IfPassed : A → Type 0
  IfPassed x = test x ≡ true → P x

  pub each_passed : (xs : List A) → All P (filter test xs) → All IfPassed xs
  each_passed [] all = All-nil IfPassed
  each_passed (x ∷ xs) all = by (test x) refl (λ kept. each_passed xs kept) all
    where
      by : (b : Bool) → test x ≡ b → (All P (filter test xs) → All IfPassed xs)
          → All P (if b then x ∷ filter test xs else filter test xs) → All IfPassed (x ∷ xs)
      by true is rest kept =
          All-cons IfPassed x xs (λ _. All-head P x (filter test xs) kept) (rest (All-tail P x (filter test xs) kept))
      by false is rest kept = All-cons IfPassed x xs (λ passed. absurd (true≢false (sym passed ∙ is))) (rest kept)

  pub passed_all : (xs : List A) → All IfPassed xs → All P (filter test xs)
  passed_all [] all = All-nil P
  passed_all (x ∷ xs) all = by (test x) refl (All-head IfPassed x xs all) (passed_all xs (All-tail IfPassed x xs all))
    where
      by : (b : Bool) → test x ≡ b → IfPassed x → All P (filter test xs) → All P (if b then x ∷ filter test xs else filter test xs)
      by true is one rest = All-cons P x (filter test xs) (one is) rest
      by false is one rest = rest

module _ (text : List ℕ) (setup : SetupValue) (at : List ℕ) (moment : IsMoment at) (place : ℕ) (p : Partner) (count : ℕ)
    (hub_ids : are_ids setup.hub.qualifier setup.hub.id setup.hub.code ≡ true) (sound : IsSoundPartner count p) where
  abbrev d : Delims
  d = p.delims

  abbrev is_other : GroupEntry → Bool
  is_other g = not (is_fa g)

  abbrev IsIfOther : SentValue → GroupEntry → Type 0
  IsIfOther sent g = is_other g ≡ true → IsGroupQuotable d sent g

  groups_quoted : (sent : SentValue) (groups : List GroupEntry) (answers : List (Option AnsweredGroup)) → All (IsGroupRead d sent) groups
      → All (IsIfOther sent) groups → AreAllPairs (λ m group answered. IsAnsweredGroup sent group answered) groups answers
      → All (IsQuoted d) (present answers)
  groups_quoted sent [] [] read quotable are = All-nil (IsQuoted d)
  groups_quoted sent [] (a ∷ more) read quotable are = absurd (omega (arith, are.count))
  groups_quoted sent (g ∷ gs) [] read quotable are = All-nil (IsQuoted d)
  groups_quoted sent (g ∷ gs) (None ∷ more) read quotable are =
      groups_quoted sent gs more (All-tail (IsGroupRead d sent) g gs read) (All-tail (IsIfOther sent) g gs quotable)
      (pairs_tail (λ m group answered. IsAnsweredGroup sent group answered) g None gs more are)
  groups_quoted sent (g ∷ gs) (Some a ∷ more) read quotable are =
      let first : IsAnsweredGroup sent g (Some a) = are.each 0 g (Some a) refl refl in
      let here : IsGroupRead d sent g = All-head (IsGroupRead d sent) g gs read in
      All-cons (IsQuoted d) a (present more)
      (group_quoted sent first.0 g a first.1 here.0 d sound.divides (component setup p count hub_ids sound at moment) here.1
      (All-head (IsIfOther sent) g gs quotable (ap not first.1.other)))
      (groups_quoted sent gs more (All-tail (IsGroupRead d sent) g gs read) (All-tail (IsIfOther sent) g gs quotable)
      (pairs_tail (λ m group answered. IsAnsweredGroup sent group answered) g (Some a) gs more are))

  abbrev AreQuoted : CheckedInterchange → Type 0
  AreQuoted c = All (IsQuoted d) (present c.groups)

  abbrev IsQuotableIn : IndexEntry → Type 0
  IsQuotableIn e = All (IsGroupQuotable d (sent_by text setup place e)) (responded_groups (groups_told e))

  abbrev told_by : Option InterchangeFault → IndexEntry → List GroupEntry
  told_by fault e = if is_none fault then e.interchange.content.groups else []

  by_fault : (e : IndexEntry) (answers : List (Option AnsweredGroup)) (fault : Option InterchangeFault) → e.fault ≡ fault → IsRead text e
      → AreAnswersBy text setup e fault (Some place) answers
      → All (IsGroupQuotable d (sent_by text setup place e)) (responded_groups (told_by fault e)) → All (IsQuoted d) (present answers)
  by_fault e answers (Some f) same read are quotable =
      subst (λ (given : List (Option AnsweredGroup)). All (IsQuoted d) (present given)) (sym are) (All-nil (IsQuoted d))
  by_fault e answers None same read are quotable =
      let sent : SentValue = sent_by text setup place e in
      let groups : List GroupEntry = e.interchange.content.groups in
      groups_quoted sent groups answers
      (groups_read d sent groups read.0 (elements_undivided d sound.divides e.interchange (read.1 same)))
      (each_passed (IsGroupQuotable d sent) is_other groups quotable) (answered_anywhere sent groups answers are)

  one_quoted : (e : IndexEntry) (c : CheckedInterchange) → IsRead text e → IsCheckedAs text setup e c
      → (is_told_to setup place e ≡ true → IsQuotableIn e) → is_acknowledged_to place c ≡ true → AreQuoted c
  one_quoted e c read is quotable told =
      by_fault e c.groups e.fault refl read (answers_here text setup place e c is told)
      (quotable (sym (acknowledged_as_told text setup place e c is) ∙ told))

  pub all_quoted : (es : List IndexEntry) (cs : List CheckedInterchange) → All (IsRead text) es → AreCheckedAs text setup es cs
      → AreQuotable text setup place p es → All AreQuoted (acknowledged_to place cs)
  all_quoted es cs read are quotable =
      let told : All (λ (e : IndexEntry). is_told_to setup place e ≡ true → IsQuotableIn e) es =
      each_passed IsQuotableIn (is_told_to setup place) es quotable in
      passed_all AreQuoted (is_acknowledged_to place) cs
      (pairs_all (λ n e c. IsCheckedAs text setup e c)
      (λ (c : CheckedInterchange). is_acknowledged_to place c ≡ true → AreQuoted c) es cs are
      (λ n e c at_e is. one_quoted e c (at_index (IsRead text) es n e at_e read) is
      (at_index (λ (e : IndexEntry). is_told_to setup place e ≡ true → IsQuotableIn e) es n e at_e told)))
