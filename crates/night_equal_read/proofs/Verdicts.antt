-- The verdict on a set is A exactly if the set meets its guide, in the definition's words.
use Rattle.std.proofs.Common.{◌≡◌, ◌↔◌, ℕ, zero, suc, List, [], ◌∷◌, ◌++◌, map, take, not, Bool, true, false, Option, Some, None, refl}
use Rattle.std.proofs.Common.{sym, ap, subst, ◌∙◌, true≢false, append_assoc, append-nil}
use Rattle.std.specs.Prelude.{bytes_eq, filter, if◌then◌else◌, option_map, slice_get}
use Rattle.std.specs.List.{All, AllZip, list_any}
use Rattle.std.proofs.lemmas.List.Elements.{All-cons, All-contains, All-nil}
use Rattle.x12_bytes.specs.declared.delims.Delims.{Delims}
use Rattle.x12_segs.specs.Words.{SegValue, element_of}
use Rattle.x12_segs.specs.declared.set_span.SetSpan.{SetSpan}
use Rattle.hub_kinds.specs.declared.answers.SetAnswer.{SetAnswer}
use Rattle.hub_kinds.specs.declared.interchange.InterchangeFault.{InterchangeFault}
use Rattle.hub_kinds.specs.declared.set_codes.Verdict.TheVariants as ik501
use Rattle.guide_tree.specs.Tree.{GuideTree}
use Rattle.guide_tree.specs.View as rows
use Rattle.env_index.specs.Words as index
use Rattle.env_index.specs.declared.entry.SetEnvelope.{SetEnvelope}
use Rattle.partner_setup.specs.Setup.{SetupValue}
use Rattle.set_check.specs.Checked.{Checked, guide_in, parts_in}
use Rattle.set_check.specs.Codes as set_codes
use Rattle.set_check.specs.Meets as old_meets
use Rattle.set_check.specs.MeetsLaw.{IsWellGuided}
use Rattle.set_check.specs.SetParts.{set_parts}
use Rattle.set_check.proofs.ForAbove.{meets_by}
use Rattle.number_register.specs.SeenNumbers.{is_among}
use Rattle.set_answers.specs.Answers as answers
use Rattle.set_answers.specs.Answers.{SentValue, IsSetAnswer}
use Rattle.set_answers.specs.CheckedText.{AreAnswersBy, CheckedInterchange, sent_by}
use Rattle.set_answers.specs.declared.answered.AnsweredGroup as layer
use Rattle.set_answers.specs.Pairs.{AreAllPairs}
use Rattle.night_law.proofs.ForAbove.{IsAnsweredGroup, answered_anywhere, pairs_tail}
use Rattle.night_definition.specs.Segments.{Segment, element}
use Rattle.night_definition.specs.Envelopes.{Set, Group}
use Rattle.night_definition.specs.Interchanges.{Interchange, text_of}
use Rattle.night_definition.specs.Setup.{Judged, Setup, guide_of, judged_after}
use Rattle.night_definition.specs.Sets.{Meets, MeetsAlone, control_of}
use Rattle.night_definition.specs.Answers.{Answer, AnsweredGroup, Answered, answer_to, answered, answered_group}
use Rattle.night_definition.specs.Answers.{answers_after, groups_after}
use Rattle.night_definition.specs.Acknowledgments.{reported}
use Rattle.night_definition.specs.Night.{answered_text}
use Rattle.night_definition.specs.ReadBack.{IsVerdictTrue}
use Rattle.night_equal_set.specs.Meeting.{IsConditioned, MeetingsAreOne}
use Rattle.night_equal_text.specs.Seen.{seen}
use Rattle.night_equal_text.specs.LookedUp.{seen_setup}
use Rattle.night_equal_text.specs.Kept.{AreSetsKept, IsSetKept, IsGroupKept, AreGroupsKept, IsKept}
use Rattle.night_equal_text.specs.Spanned.{IsSetOf, AreSetsIn, AreGroupsIn}
use Rattle.night_equal_text.specs.Answered.{AreAnswersOf, AreGroupsOf, ChecksAreOne, IsAnswerOf, IsGroupOf}
use Rattle.night_equal_text.specs.Laws.{AnswersFollow, GuidesAreOne, InterchangesAreKept, NightsAreSettled, SetNumbersAreOne, SetsAreParts}
use Rattle.night_equal_text.proofs.ForAbove.{sets_kept_on}
use Rattle.night_equal_night.proofs.ForAbove.{IsReady, ready, that_set}
use Rattle.night_equal_read.specs.Read.{VerdictsAreTrue}
use Rattle.night_equal_read.proofs.Conditioned.{conditioned}

-- what is known of guides, of numbers and of what it is to meet a guide
pub record MeetingLaws : Type 0 where
  pub guides : GuidesAreOne
  pub numbers : SetNumbersAreOne
  pub meetings : MeetingsAreOne

all_conditioned : (guide : Option GuideTree) → IsWellGuided guide → (g : GuideTree) → guide ≡ Some g → IsConditioned g
all_conditioned None well g is = cc
all_conditioned (Some h) well g is = conditioned g (subst IsWellGuided is well)

both_ways : {A B C : Type 0} → A ↔ B → B ↔ C → A ↔ C
both_ways ab bc = (λ a. bc.0 (ab.0 a), λ c. ab.1 (bc.1 c))

module _ (laws : MeetingLaws) (sent : SentValue) where
  abbrev now : Setup
  now = seen_setup sent.setup

  -- a set, its answer here and its answer there
  module _ (gs : SegValue) (before : List Set) (olds : List SetEnvelope) (s : Set) (e : SetEnvelope) (a : Answer) (o : SetAnswer)
      (befores : AreSetsKept before olds) (kept : IsSetKept s e) (is_in : IsSetOf s (set_parts sent.text (index.span_of sent.delims e)))
      (same : IsAnswerOf a o) (is : IsSetAnswer sent gs olds e o) where
    abbrev c : Checked
    c = is.checked

    abbrev earlier : Bool
    earlier = is_among (set_codes.control_of e.header) (answers.controls_of olds)

    guide : guide_of now sent.sender (seen gs).elements (element 1 s.header.elements) ≡ guide_in c
    guide =
        ap (λ (h : Segment). guide_of now sent.sender (seen gs).elements (element 1 h.elements)) kept.header
        ∙ laws.guides sent.setup sent.sender gs (element_of e.header 1)
        ∙ sym (ap (option_map rows.guide_of) is.guide)

    delims : sent.delims ≡ c.span.delims
    delims = sym (ap (λ (span : SetSpan). span.delims) is.span)

    parts : IsSetOf s (parts_in c)
    parts =
        subst (λ t. IsSetOf s (set_parts t c.span)) (sym is.text)
        (subst (λ span. IsSetOf s (set_parts sent.text span)) (sym is.span) is_in)

    verdict : (a.verdict ≡ ik501.Accepted) ↔ (o.verdict ≡ ik501.Accepted)
    verdict = (λ v. sym same.verdict ∙ v, λ v. same.verdict ∙ v)

    alone : MeetsAlone (guide_in c) c.span.delims s ↔ old_meets.MeetsAlone (guide_in c) (parts_in c)
    alone = laws.meetings (guide_in c) c.span.delims s (parts_in c) (that_set c s parts) (all_conditioned (guide_in c) is.exact.well_guided)

    first : list_any (λ t. bytes_eq (control_of t) (control_of s)) before ≡ earlier
    first = laws.numbers before olds s e befores kept

    met : ((earlier ≡ false) × old_meets.MeetsAlone (guide_in c) (parts_in c)) ↔ Meets (guide_in c) c.span.delims before s
    met = (
      λ m. record { alone = alone.1 m.1; first = first ∙ m.0 },
      λ m. (sym first ∙ m.first, alone.0 m.alone),
    )

    pub set_true : (a.verdict ≡ ik501.Accepted)
        ↔ Meets (guide_of now sent.sender (seen gs).elements (element 1 s.header.elements)) sent.delims before s
    set_true =
        subst (λ g. (a.verdict ≡ ik501.Accepted) ↔ Meets g sent.delims before s) (sym guide)
        (subst (λ d. (a.verdict ≡ ik501.Accepted) ↔ Meets (guide_in c) d before s) (sym delims)
        (both_ways verdict (both_ways (meets_by c is.exact earlier o.verdict (ap (λ (x : SetAnswer). x.verdict) is.is)) met)))

  -- the verdicts on a group's sets are true
  abbrev IsTrueAt : Group → Delims → (before : List Set) → Answer → Type 0
  IsTrueAt group d before a =
      (a.verdict ≡ ik501.Accepted)
      ↔ Meets (guide_of now sent.sender group.header.elements (element 1 a.set.header.elements)) d before a.set

  abbrev answers_to : Group → (before ss : List Set) → List Answer
  answers_to group before ss = answers_after now sent.sender sent.delims group before ss

  sets_true : (group : Group) (gs : SegValue) → group.header ≡ seen gs → (before : List Set) (olds : List SetEnvelope)
      → AreSetsKept before olds → (ss : List Set) (es : List SetEnvelope) (os : List SetAnswer) → AreSetsKept ss es
      → AreSetsIn sent.text sent.delims ss es → AreAnswersOf (answers_to group before ss) os
      → ((n : ℕ) (e : SetEnvelope) (o : SetAnswer) → slice_get es n ≡ Some e → slice_get os n ≡ Some o
      → IsSetAnswer sent gs (olds ++ take n es) e o)
      → (n : ℕ) (a : Answer) → slice_get (answers_to group before ss) n ≡ Some a → IsTrueAt group sent.delims (before ++ take n ss) a
  sets_true group gs header before olds befores [] es os kept is_in are each n a at_n = let none : None ≡ Some a = at_n in cc
  sets_true group gs header before olds befores (s ∷ ss) [] os kept is_in are each n a at_n = absurd kept
  sets_true group gs header before olds befores (s ∷ ss) (e ∷ es) [] kept is_in are each n a at_n = absurd are
  sets_true group gs header before olds befores (s ∷ ss) (e ∷ es) (o ∷ os) kept is_in are each zero a at_n =
      let b : Answer = answer_to now sent.sender sent.delims group before s in
      let is : IsSetAnswer sent gs olds e o =
      subst (λ (l : List SetEnvelope). IsSetAnswer sent gs l e o) (append-nil olds) (each 0 e o refl refl) in
      let one : IsTrueAt group sent.delims before b =
      subst (λ (h : Segment). (b.verdict ≡ ik501.Accepted)
      ↔ Meets (guide_of now sent.sender h.elements (element 1 s.header.elements)) sent.delims before s) (sym header)
      (set_true gs before olds s e b o befores kept.0 is_in.0 are.0 is) in
      let same : b ≡ a = cc in
      subst (IsTrueAt group sent.delims (before ++ [])) same
      (subst (λ (l : List Set). IsTrueAt group sent.delims l b) (sym (append-nil before)) one)
  sets_true group gs header before olds befores (s ∷ ss) (e ∷ es) (o ∷ os) kept is_in are each (suc n) a at_n =
      subst (λ (l : List Set). IsTrueAt group sent.delims l a) (append_assoc before (s ∷ []) (take n ss))
      (sets_true group gs header (before ++ s ∷ []) (olds ++ e ∷ [])
      (sets_kept_on before (s ∷ []) olds (e ∷ []) befores (kept.0, tt)) ss es os
      kept.1 is_in.1 are.1
      (λ k x y p q. subst (λ (l : List SetEnvelope). IsSetAnswer sent gs l x y) (sym (append_assoc olds (e ∷ []) (take k es)))
      (each (suc k) x y p q)) n a at_n)

  abbrev GroupTrue : Delims → AnsweredGroup → Type 0
  GroupTrue d g = (n : ℕ) (a : Answer) → slice_get g.answers n ≡ Some a → IsTrueAt g.group d (take n g.group.sets) a

  abbrev is_reported : AnsweredGroup → Bool
  is_reported g = not g.is_fa

  abbrev groups_to : (before gs : List Group) → List AnsweredGroup
  groups_to before gs = groups_after now sent.sender sent.delims before gs

  with_group : (g : AnsweredGroup) (more : List AnsweredGroup) → (g.is_fa ≡ false → GroupTrue sent.delims g)
      → All (GroupTrue sent.delims) (filter is_reported more) → All (GroupTrue sent.delims) (filter is_reported (g ∷ more))
  with_group g more one all = by g.is_fa refl
    where
      by : (b : Bool) → g.is_fa ≡ b
          → All (GroupTrue sent.delims) (if not b then g ∷ filter is_reported more else filter is_reported more)
      by true fa = all
      by false fa = All-cons (GroupTrue sent.delims) g (filter is_reported more) (one fa) all

  group_true : (before : List Group) (g : Group) (e : index.GroupEntry) (o : Option layer.AnsweredGroup) → IsGroupKept g e
      → AreSetsIn sent.text sent.delims g.sets e.sets → IsAnsweredGroup sent e o
      → IsGroupOf (answered_group now sent.sender sent.delims before g) o
      → (answered_group now sent.sender sent.delims before g).is_fa ≡ false
      → GroupTrue sent.delims (answered_group now sent.sender sent.delims before g)
  group_true before g e None kept is_in is of fa = absurd (true≢false (sym of ∙ fa))
  group_true before g e (Some o) kept is_in is of fa =
      sets_true g e.header kept.header [] [] tt g.sets e.sets o.sets kept.sets is_in of.answers is.1.sets.each

  groups_true : (before gs : List Group) (es : List index.GroupEntry) (os : List (Option layer.AnsweredGroup)) → AreGroupsKept gs es
      → AreGroupsIn sent.text sent.delims gs es → AreAllPairs (λ m e o. IsAnsweredGroup sent e o) es os
      → AreGroupsOf (groups_to before gs) os → All (GroupTrue sent.delims) (filter is_reported (groups_to before gs))
  groups_true before [] es os kept is_in are of = All-nil (GroupTrue sent.delims)
  groups_true before (g ∷ gs) [] os kept is_in are of = absurd kept
  groups_true before (g ∷ gs) (e ∷ es) [] kept is_in are of = absurd of
  groups_true before (g ∷ gs) (e ∷ es) (o ∷ os) kept is_in are of =
      with_group (answered_group now sent.sender sent.delims before g) (groups_to (before ++ g ∷ []) gs)
      (group_true before g e o kept.0 is_in.0 (are.each 0 e o refl refl) of.0)
      (groups_true (before ++ g ∷ []) gs es os kept.1 is_in.1 (pairs_tail (λ m e o. IsAnsweredGroup sent e o) e o es os are) of.1)

-- what is reported of an interchange
abbrev InterchangeTrue : Setup → Answered → Type 0
InterchangeTrue setup x =
    All (λ (g : AnsweredGroup). (n : ℕ) (a : Answer) → slice_get g.answers n ≡ Some a → IsVerdictTrue setup x g n a) (reported x)

module _ (laws : MeetingLaws) (follow : AnswersFollow) (checks : ChecksAreOne) (text : List ℕ) (setup : SetupValue) where
  abbrev here : Setup
  here = seen_setup setup

  module _ (x : Interchange) (e : index.InterchangeEntry) (kept : IsKept x e)
      (is_in : AreGroupsIn text x.delims x.content.groups e.content.groups) where
    abbrev entry_with : Option InterchangeFault → index.IndexEntry
    entry_with f = record { interchange = e; fault = f }

    by_fault : (f : Option InterchangeFault) (s : Option ℕ) (os : List (Option layer.AnsweredGroup))
        → AreAnswersBy text setup (entry_with f) f s os
        → InterchangeTrue here (answered here (record { interchange = x; sender = s; fault = f }))
    by_fault (Some k) s os are = All-nil _
    by_fault None None os are = All-nil _
    by_fault None (Some n) os are =
        let sent : SentValue = sent_by text setup n (entry_with None) in
        let gs : List Group = x.content.groups in
        let marks : AreGroupsIn text sent.delims gs e.content.groups =
        subst (λ d. AreGroupsIn text d gs e.content.groups) kept.delims is_in in
        subst (λ (d : Delims). All (GroupTrue laws sent d) (filter (λ (g : AnsweredGroup). not g.is_fa) (groups_after here n d [] gs)))
        (sym kept.delims)
        (groups_true laws sent [] gs e.content.groups os kept.content.groups marks
        (answered_anywhere sent e.content.groups os are) (follow checks sent gs e.content.groups os kept.content.groups marks are))

  one_true : InterchangesAreKept → (c : CheckedInterchange) (j : Judged) → IsReady text setup c j → InterchangeTrue here (answered here j)
  one_true keeps c j r =
      let with : Option ℕ → Option InterchangeFault → Judged = λ s f. record { interchange = j.interchange; sender = s; fault = f } in
      let same : with c.sender c.entry.fault ≡ j =
      ap (λ s. with s c.entry.fault) (r.sender ∙ sym r.judged.sender) ∙ ap (with j.sender) (sym r.judged.fault) in
      subst (λ (k : Judged). InterchangeTrue here (answered here k)) same
      (by_fault j.interchange c.entry.interchange (keeps text j.interchange c.entry.interchange r.judged.same) r.sets c.entry.fault c.sender
      c.groups r.groups)

  all_true : InterchangesAreKept → (cs : List CheckedInterchange) (js : List Judged) → AllZip (IsReady text setup) cs js
      → All (InterchangeTrue here) (map (answered here) js)
  all_true keeps [] [] zip = All-nil (InterchangeTrue here)
  all_true keeps [] (j ∷ js) zip = absurd zip
  all_true keeps (c ∷ cs) [] zip = absurd zip
  all_true keeps (c ∷ cs) (j ∷ js) zip =
      All-cons (InterchangeTrue here) (answered here j) (map (answered here) js) (one_true keeps c j zip.0) (all_true keeps cs js zip.1)

pub verdicts : MeetingLaws → InterchangesAreKept → NightsAreSettled → SetsAreParts → AnswersFollow → ChecksAreOne → VerdictsAreTrue
verdicts laws keeps settle parts follow checks text setup known outside is x g n a there in_x at_n =
    let now : Setup = seen_setup setup in
    let js : List Judged = judged_after now [] (text_of text).interchanges in
    let all : All (InterchangeTrue now) (answered_text text now) =
    all_true laws follow checks text setup keeps known js (ready text setup settle parts is.index known is.read is.answered) in
    let one : InterchangeTrue now x = All-contains (InterchangeTrue now) (answered_text text now) x all there in
    All-contains (λ (g : AnsweredGroup). (n : ℕ) (a : Answer) → slice_get g.answers n ≡ Some a → IsVerdictTrue now x g n a)
    (reported x) g one in_x n a at_n
