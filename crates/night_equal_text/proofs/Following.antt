-- Groups are answered alike, once sets are.
use Rattle.std.proofs.Common.{◌≡◌, ℕ, suc, List, [], ◌∷◌, ◌++◌, map, Bool, not, ◌&&◌, cond, Option, Some, None, length, take, refl, sym}
use Rattle.std.proofs.Common.{ap, subst, ◌∙◌, append_assoc, arith}
use Rattle.std.specs.Prelude.{option_map, bytes_eq, codes}
use Rattle.std.specs.List.{list_all, list_any, slice_get}
use Rattle.std.specs.Option.{option_map_or}
use Rattle.std.proofs.lemmas.List.{append-nil}
use Rattle.x12_segs.specs.Words.{SegValue, element_of}
use Rattle.x12_segs.specs.declared.set_span.SetSpan.{SetSpan}
use Rattle.hub_kinds.specs.declared.answers.GroupAnswer.{GroupAnswer}
use Rattle.hub_kinds.specs.declared.answers.SetAnswer.{SetAnswer}
use Rattle.hub_kinds.specs.declared.set_codes.GroupCode.{GroupCode}
use Rattle.hub_kinds.specs.declared.set_codes.Verdict.{Verdict}
use Rattle.hub_kinds.specs.declared.set_codes.Verdict.TheVariants as ik501
use Rattle.hub_kinds.specs.declared.set_codes.GroupVerdict.{GroupVerdict}
use Rattle.hub_kinds.specs.declared.set_codes.GroupVerdict.TheVariants as ak901
use Rattle.guide_tree.specs.View as rows
use Rattle.env_index.specs.Words as then
use Rattle.env_index.specs.declared.entry.SetEnvelope.{SetEnvelope}
use Rattle.ack_999.specs.Group as old
use Rattle.set_check.specs.Checked.{guide_in, parts_in}
use Rattle.set_check.specs.Codes as set_codes
use Rattle.set_check.specs.SetParts.{set_parts}
use Rattle.number_register.specs.SeenNumbers.{is_among}
use Rattle.answered_sets.specs.Judged.{is_fa}
use Rattle.set_answers.specs.Answers as answers
use Rattle.set_answers.specs.declared.answered.AnsweredGroup as layer
use Rattle.night_definition.specs.Segments.{Segment, element}
use Rattle.night_definition.specs.Envelopes.{Set, Group}
use Rattle.night_definition.specs.Setup.{guide_of}
use Rattle.night_definition.specs.Sets.{control_of}
use Rattle.night_definition.specs.Answers.{Answer, answer_to, answers_after, answered_group, groups_after, group_codes, group_verdict}
use Rattle.night_definition.specs.Answers as room
use Rattle.night_equal_text.specs.Seen.{seen}
use Rattle.night_equal_text.specs.LookedUp.{seen_setup}
use Rattle.night_equal_text.specs.Kept.{IsSetKept, AreSetsKept, IsGroupKept, AreGroupsKept}
use Rattle.night_equal_text.specs.Spanned.{IsSetOf, AreSetsIn, AreGroupsIn}
use Rattle.night_equal_text.specs.Answered.{answer_with, IsAnswerOf, ChecksAreOne, AreAnswersOf, IsGroupOf, AreGroupsOf}
use Rattle.night_equal_text.proofs.LookingUp.{guides_are_one}
use Rattle.night_equal_text.proofs.GroupCodes.{set_numbers_are_one, group_codes_are_one}

-- pairs, each behind those before it
module _ {A B : Type 0} (R : List A → A → B → Type 0) where
  abbrev pub Behind : List A → List A → List B → Type 0
  Behind olds [] [] = Unit {0}
  Behind olds [] (y ∷ ys) = ⊥
  Behind olds (x ∷ xs) [] = ⊥
  Behind olds (x ∷ xs) (y ∷ ys) = R olds x y × Behind (olds ++ x ∷ []) xs ys

  pub pairs_behind : (olds xs : List A) (ys : List B) → length ys ≡ length xs
      → ((n : ℕ) (x : A) (y : B) → slice_get xs n ≡ Some x → slice_get ys n ≡ Some y → R (olds ++ take n xs) x y) → Behind olds xs ys
  pairs_behind olds [] [] long each = tt
  pairs_behind olds [] (y ∷ ys) long each = absurd (omega (arith, long))
  pairs_behind olds (x ∷ xs) [] long each = absurd (omega (arith, long))
  pairs_behind olds (x ∷ xs) (y ∷ ys) long each = (
    subst (λ l. R l x y) (append-nil olds) (each 0 x y refl refl),
    pairs_behind (olds ++ x ∷ []) xs ys (omega (arith, long))
        (λ n a b p q. subst (λ l. R l a b) (sym (append_assoc olds (x ∷ []) (take n xs))) (each (suc n) a b p q)),
  )

pub sets_kept_on : (ss ts : List Set) (es fs : List SetEnvelope) → AreSetsKept ss es → AreSetsKept ts fs → AreSetsKept (ss ++ ts) (es ++ fs)
sets_kept_on [] ts [] fs p q = q
sets_kept_on [] ts (e ∷ es) fs p q = absurd p
sets_kept_on (s ∷ ss) ts [] fs p q = absurd p
sets_kept_on (s ∷ ss) ts (e ∷ es) fs p q = (p.0, sets_kept_on ss ts es fs p.1 q)

groups_kept_on : (ss ts : List Group) (es fs : List then.GroupEntry) → AreGroupsKept ss es → AreGroupsKept ts fs
    → AreGroupsKept (ss ++ ts) (es ++ fs)
groups_kept_on [] ts [] fs p q = q
groups_kept_on [] ts (e ∷ es) fs p q = absurd p
groups_kept_on (s ∷ ss) ts [] fs p q = absurd p
groups_kept_on (s ∷ ss) ts (e ∷ es) fs p q = (p.0, groups_kept_on ss ts es fs p.1 q)

module _ (checks : ChecksAreOne) (sent : answers.SentValue) where
  one_answer : (group : Group) (gs : SegValue) → group.header ≡ seen gs → (before : List Set) (olds : List SetEnvelope) (s : Set)
      (e : SetEnvelope) (o : SetAnswer) → AreSetsKept before olds → IsSetKept s e
      → IsSetOf s (set_parts sent.text (then.span_of sent.delims e)) → answers.IsSetAnswer sent gs olds e o
      → IsAnswerOf (answer_to (seen_setup sent.setup) sent.sender sent.delims group before s) o
  one_answer group gs header before olds s e o kept is_kept is_in is =
      let earlier : Bool = is_among (set_codes.control_of e.header) (answers.controls_of olds) in
      let guide : guide_of (seen_setup sent.setup) sent.sender group.header.elements (element 1 s.header.elements) ≡ guide_in is.checked
      = ap (λ (h : Segment). guide_of (seen_setup sent.setup) sent.sender h.elements (element 1 s.header.elements)) header
      ∙ ap (λ (h : Segment). guide_of (seen_setup sent.setup) sent.sender (seen gs).elements (element 1 h.elements)) is_kept.header
      ∙ guides_are_one sent.setup sent.sender gs (element_of e.header 1)
      ∙ sym (ap (option_map rows.guide_of) is.guide) in
      let delims : sent.delims ≡ is.checked.span.delims = sym (ap (λ (span : SetSpan). span.delims) is.span) in
      let parts : IsSetOf s (parts_in is.checked)
      = subst (λ t. IsSetOf s (set_parts t is.checked.span)) (sym is.text)
      (subst (λ span. IsSetOf s (set_parts sent.text span)) (sym is.span) is_in) in
      let same : answer_to (seen_setup sent.setup) sent.sender sent.delims group before s
      ≡ answer_with (guide_in is.checked) is.checked.span.delims s earlier
      = ap (λ g. answer_with g sent.delims s (list_any (λ t. bytes_eq (control_of t) (control_of s)) before)) guide
      ∙ ap (λ d. answer_with (guide_in is.checked) d s (list_any (λ t. bytes_eq (control_of t) (control_of s)) before)) delims
      ∙ ap (answer_with (guide_in is.checked) is.checked.span.delims s) (set_numbers_are_one before olds s e kept is_kept) in
      subst (λ a. IsAnswerOf a o) (sym same)
      (subst (λ b. IsAnswerOf (answer_with (guide_in is.checked) is.checked.span.delims s earlier) b) (sym is.is)
      (checks is.checked s earlier parts is.exact))

  all_answers : (group : Group) (gs : SegValue) → group.header ≡ seen gs → (before : List Set) (olds : List SetEnvelope)
      → AreSetsKept before olds → (ss : List Set) (es : List SetEnvelope) (os : List SetAnswer) → AreSetsKept ss es
      → AreSetsIn sent.text sent.delims ss es → Behind (answers.IsSetAnswer sent gs) olds es os
      → AreAnswersOf (answers_after (seen_setup sent.setup) sent.sender sent.delims group before ss) os
  all_answers group gs header before olds kept [] [] [] is_kept is_in is = tt
  all_answers group gs header before olds kept [] [] (o ∷ os) is_kept is_in is = absurd is
  all_answers group gs header before olds kept [] (e ∷ es) os is_kept is_in is = absurd is_kept
  all_answers group gs header before olds kept (s ∷ ss) [] os is_kept is_in is = absurd is_kept
  all_answers group gs header before olds kept (s ∷ ss) (e ∷ es) [] is_kept is_in is = absurd is
  all_answers group gs header before olds kept (s ∷ ss) (e ∷ es) (o ∷ os) is_kept is_in is = (
    one_answer group gs header before olds s e o kept is_kept.0 is_in.0 is.0,
    all_answers group gs header (before ++ s ∷ []) (olds ++ e ∷ [])
        (sets_kept_on before (s ∷ []) olds (e ∷ []) kept (is_kept.0, tt)) ss es os is_kept.1 is_in.1 is.1,
  )

verdicts_are : (xs : List Answer) (os : List SetAnswer) → AreAnswersOf xs os
    → map (λ (a : Answer). a.verdict) xs ≡ old.verdicts_of os
verdicts_are [] [] are = refl
verdicts_are [] (o ∷ os) are = absurd are
verdicts_are (a ∷ xs) [] are = absurd are
verdicts_are (a ∷ xs) (o ∷ os) are =
    ap (λ v. v ∷ map (λ (a : Answer). a.verdict) xs) are.0.verdict ∙ ap (λ vs. o.verdict ∷ vs) (verdicts_are xs os are.1)

all_alike : (p q : Verdict → Bool) → ((v : Verdict) → p v ≡ q v) → (vs : List Verdict) → list_all p vs ≡ list_all q vs
all_alike p q same [] = refl
all_alike p q same (v ∷ vs) = ap (λ b. b && list_all p vs) (same v) ∙ ap (λ b. q v && b) (all_alike p q same vs)

accepted_is : (v : Verdict) → room.is_accepted v ≡ old.is_accepted v
accepted_is ik501.Accepted = refl
accepted_is ik501.AcceptedWithErrors = refl
accepted_is ik501.Rejected = refl

rejected_is : (v : Verdict) → room.is_rejected v ≡ old.is_rejected v
rejected_is ik501.Accepted = refl
rejected_is ik501.AcceptedWithErrors = refl
rejected_is ik501.Rejected = refl

abbrev chosen : Bool → Bool → Bool → GroupVerdict
chosen a n r = cond a ak901.Accepted (cond n ak901.AcceptedWithErrors (cond r ak901.Rejected ak901.PartlyAccepted))

verdict_is : (codes : List GroupCode) (vs : List Verdict) → group_verdict codes vs ≡ old.group_verdict_of codes vs
verdict_is (c ∷ codes) vs = refl
verdict_is [] vs =
    ap (λ a. chosen a (list_all (λ v. not (room.is_rejected v)) vs) (list_all room.is_rejected vs))
    (all_alike room.is_accepted old.is_accepted accepted_is vs)
    ∙ ap (λ n. chosen (list_all old.is_accepted vs) n (list_all room.is_rejected vs))
    (all_alike (λ v. not (room.is_rejected v)) (λ v. not (old.is_rejected v)) (λ v. ap not (rejected_is v)) vs)
    ∙ ap (chosen (list_all old.is_accepted vs) (list_all (λ v. not (old.is_rejected v)) vs))
    (all_alike room.is_rejected old.is_rejected rejected_is vs)

fa_is : (g : Group) (e : then.GroupEntry) → g.header ≡ seen e.header → bytes_eq (element 1 g.header.elements) (codes "FA") ≡ is_fa e
fa_is g e header = ap (λ (h : Segment). bytes_eq (element 1 h.elements) (codes "FA")) header

listed_is : (o : Option SegValue) → option_map_or (λ (ge : Segment). element 1 ge.elements) (option_map seen o) [] ≡ answers.listed_by o
listed_is None = refl
listed_is (Some ge) = refl

module _ (checks : ChecksAreOne) (sent : answers.SentValue) where
  one_group : (before : List Group) (olds : List then.GroupEntry) (g : Group) (e : then.GroupEntry) (o : Option layer.AnsweredGroup)
      → AreGroupsKept before olds → IsGroupKept g e → AreSetsIn sent.text sent.delims g.sets e.sets
      → answers.IsGroupAnswered sent olds e o
      → IsGroupOf (answered_group (seen_setup sent.setup) sent.sender sent.delims before g) o
  one_group before olds g e None kept is_kept is_in is = fa_is g e is_kept.header ∙ is
  one_group before olds g e (Some o) kept is_kept is_in is =
      let own : List GroupCode = group_codes (seen_setup sent.setup) sent.sender before g in
      let xs : List Answer = answers_after (seen_setup sent.setup) sent.sender sent.delims g [] g.sets in
      let same : own ≡ o.answer.codes
      = group_codes_are_one sent before olds g e kept is_kept ∙ sym (ap (λ (a : GroupAnswer). a.codes) is.is) in
      let all : AreAnswersOf xs o.sets
      = all_answers checks sent g e.header is_kept.header [] [] tt g.sets e.sets o.sets is_kept.sets is_in
      (pairs_behind (answers.IsSetAnswer sent e.header) [] e.sets o.sets is.sets.count is.sets.each) in
      record {
        other = fa_is g e is_kept.header ∙ is.other;
        functional_id = ap (λ (h : Segment). element 1 h.elements) is_kept.header ∙ sym (ap (λ (a : GroupAnswer). a.functional_id) is.is);
        control = ap (λ (h : Segment). element 6 h.elements) is_kept.header ∙ sym (ap (λ (a : GroupAnswer). a.control) is.is);
        version = ap (λ (h : Segment). element 8 h.elements) is_kept.header ∙ sym (ap (λ (a : GroupAnswer). a.version) is.is);
        listed = ap (λ o. option_map_or (λ (ge : Segment). element 1 ge.elements) o []) is_kept.trailer ∙ listed_is e.trailer
            ∙ sym (ap (λ (a : GroupAnswer). a.listed) is.is);
        codes = same;
        answers = all;
        verdict = verdict_is own (map (λ (a : Answer). a.verdict) xs)
            ∙ ap (old.group_verdict_of own) (verdicts_are xs o.sets all)
            ∙ ap (λ cs. old.group_verdict_of cs (old.verdicts_of o.sets)) (group_codes_are_one sent before olds g e kept is_kept)
            ∙ sym (ap (λ (a : GroupAnswer). a.verdict) is.is);
      }

  all_groups : (before : List Group) (olds : List then.GroupEntry) → AreGroupsKept before olds → (gs : List Group)
      (es : List then.GroupEntry) (os : List (Option layer.AnsweredGroup)) → AreGroupsKept gs es
      → AreGroupsIn sent.text sent.delims gs es → Behind (answers.IsGroupAnswered sent) olds es os
      → AreGroupsOf (groups_after (seen_setup sent.setup) sent.sender sent.delims before gs) os
  all_groups before olds kept [] [] [] is_kept is_in is = tt
  all_groups before olds kept [] [] (o ∷ os) is_kept is_in is = absurd is
  all_groups before olds kept [] (e ∷ es) os is_kept is_in is = absurd is_kept
  all_groups before olds kept (g ∷ gs) [] os is_kept is_in is = absurd is_kept
  all_groups before olds kept (g ∷ gs) (e ∷ es) [] is_kept is_in is = absurd is
  all_groups before olds kept (g ∷ gs) (e ∷ es) (o ∷ os) is_kept is_in is = (
    one_group before olds g e o kept is_kept.0 is_in.0 is.0,
    all_groups (before ++ g ∷ []) (olds ++ e ∷ [])
        (groups_kept_on before (g ∷ []) olds (e ∷ []) kept (is_kept.0, tt)) gs es os is_kept.1 is_in.1 is.1,
  )

pub answers_follow : ChecksAreOne → (sent : answers.SentValue) (gs : List Group) (es : List then.GroupEntry)
    (os : List (Option layer.AnsweredGroup)) → AreGroupsKept gs es → AreGroupsIn sent.text sent.delims gs es
    → answers.AreGroupAnswers sent es os → AreGroupsOf (groups_after (seen_setup sent.setup) sent.sender sent.delims [] gs) os
answers_follow checks sent gs es os kept is_in is =
    all_groups checks sent [] [] tt gs es os kept is_in
    (pairs_behind (answers.IsGroupAnswered sent) [] es os is.count is.each)
