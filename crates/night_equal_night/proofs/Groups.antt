-- The groups and sets of an interchange without fault are shown alike.
use Rattle.std.proofs.Common.{◌≡◌, ℕ, suc, ◌+◌, List, [], ◌∷◌, ◌++◌, map, false, Option, Some, None, length, refl, sym}
use Rattle.std.proofs.Common.{ap, ◌∙◌, subst, arith, true≢false}
use Rattle.std.specs.Prelude.{bytes_eq, codes, slice_index_or, unwrap_or}
use Rattle.std.specs.List.{All, AllZip}
use Rattle.std.proofs.lemmas.List.Elements.{All-head, All-tail}
use Rattle.x12_bytes.specs.Header.{header_delims}
use Rattle.x12_bytes.specs.declared.delims.Delims.{Delims}
use Rattle.hub_kinds.specs.declared.answers.SetAnswer.{SetAnswer}
use Rattle.hub_kinds.specs.declared.set_codes.GroupCode.{GroupCode}
use Rattle.hub_kinds.specs.declared.set_codes.Verdict.{Verdict}
use Rattle.hub_kinds.specs.declared.set_codes.Verdict.TheVariants.{Rejected}
use Rattle.env_index.specs.Words as then
use Rattle.env_index.specs.declared.entry.SetEnvelope.{SetEnvelope}
use Rattle.ack_999.specs.Group.{totals_of, verdicts_of}
use Rattle.ack_999.specs.Report as old_report
use Rattle.answered_sets.specs.Judged.{JudgedValue, is_fa, is_refused, sets_from, standing_at}
use Rattle.answered_sets.specs.declared.standing.GroupStanding.{GroupStanding}
use Rattle.set_answers.specs.Standings.{standing_by}
use Rattle.set_answers.specs.Standings as old_standings
use Rattle.set_answers.specs.declared.answered.AnsweredGroup as layer
use Rattle.night_report.specs.Report.{ShownGroup, shown_from}
use Rattle.night_law.proofs.ForAbove.{IsThere}
use Rattle.night_definition.specs.Segments.{Segment, element}
use Rattle.night_definition.specs.Envelopes.{Set, Group}
use Rattle.night_definition.specs.Elements.{numbered}
use Rattle.night_definition.specs.Setup.{Setup}
use Rattle.night_definition.specs.Answers.{Answer, AnsweredGroup, Answered, answers_after, answered_group, groups_after}
use Rattle.night_definition.specs.Deliveries.{has_no_code}
use Rattle.night_equal_text.specs.Seen.{seen}
use Rattle.night_equal_text.specs.Kept.{AreSetsKept, IsGroupKept, AreGroupsKept}
use Rattle.night_equal_text.specs.Spanned.{AreSetsIn, AreGroupsIn}
use Rattle.night_equal_text.specs.Answered.{IsGroupOf, AreGroupsOf}
use Rattle.night_equal_writing.specs.Acknowledgments.{set_answer}
use Rattle.night_equal_writing.specs.Report.{IsSet, IsShown}
use Rattle.night_equal_writing.proofs.ForAbove.{accepted_is}
use Rattle.night_equal_night.proofs.Answers.{sets_are}
use Rattle.night_equal_night.proofs.There.{body_is}

sets_long : (ss : List Set) (es : List SetEnvelope) → AreSetsKept ss es → length es ≡ length ss
sets_long [] [] kept = refl
sets_long [] (e ∷ es) kept = absurd kept
sets_long (s ∷ ss) [] kept = absurd kept
sets_long (s ∷ ss) (e ∷ es) kept = ap suc (sets_long ss es kept.1)

pub groups_long : (gs : List Group) (es : List then.GroupEntry) → AreGroupsKept gs es → length es ≡ length gs
groups_long [] [] kept = refl
groups_long [] (e ∷ es) kept = absurd kept
groups_long (g ∷ gs) [] kept = absurd kept
groups_long (g ∷ gs) (e ∷ es) kept = ap suc (groups_long gs es kept.1)

fa_is : (g : Group) (e : then.GroupEntry) → g.header ≡ seen e.header → bytes_eq (element 1 g.header.elements) (codes "FA") ≡ is_fa e
fa_is g e header = ap (λ (h : Segment). bytes_eq (element 1 h.elements) (codes "FA")) header

no_code_is : (cs : List GroupCode) → has_no_code cs ≡ old_standings.has_no_code cs
no_code_is [] = refl
no_code_is (c ∷ cs) = refl

verdicts_are : (xs : List Answer) → map (λ (a : Answer). a.verdict) xs ≡ verdicts_of (map set_answer xs)
verdicts_are [] = refl
verdicts_are (a ∷ xs) = ap (λ vs. a.verdict ∷ vs) (verdicts_are xs)

none : (n : ℕ) → n + 0 ≡ n
none n = omega arith

more : (n k : ℕ) → n + suc k ≡ n + 1 + k
more n k = omega arith

-- of an interchange of the index, that the definition has as X
module _ (setup : Setup) (sender : ℕ) (d : Delims) (j : JudgedValue) (x : Answered) (kept_open : is_refused j ≡ false)
    (delims : x.judged.interchange.delims ≡ header_delims j.interchange.header) (from : x.judged.sender ≡ j.sender) where
  abbrev marks : Delims
  marks = header_delims j.interchange.header

  -- the sets of a group
  module _ (g : Group) (e : then.GroupEntry) (standing : GroupStanding) (answered : AnsweredGroup) (same : answered.group ≡ g)
      (header : g.header ≡ seen e.header) (fa : answered.is_fa ≡ is_fa e)
      (clear : is_fa e ≡ false → has_no_code answered.codes ≡ standing.clear) where
    answers_long : (before ss : List Set) → length (answers_after setup sender d g before ss) ≡ length ss
    answers_long before [] = refl
    answers_long before (s ∷ ss) = ap suc (answers_long (before ++ s ∷ []) ss)

    abbrev verdict_at : List Verdict → ℕ → Verdict
    verdict_at vs k = slice_index_or vs k Rejected

    abbrev verdicts_in : List Answer → List Verdict
    verdicts_in xs = map (λ (a : Answer). a.verdict) xs

    sets_zip : (n : ℕ) (before ss : List Set) (es : List SetEnvelope) → AreSetsKept ss es → AreSetsIn j.text marks ss es
        → All (IsThere j.text marks) es
        → (is_fa e ≡ false → (k : ℕ) → verdict_at standing.verdicts (n + k)
        ≡ verdict_at (verdicts_in (answers_after setup sender d g before ss)) k)
        → AllZip (IsSet x answered) (sets_from j e standing n es) (numbered (n + 1) (answers_after setup sender d g before ss))
    sets_zip n before [] [] kept is_in there verdicts = tt
    sets_zip n before [] (t ∷ es) kept is_in there verdicts = absurd kept
    sets_zip n before (s ∷ ss) [] kept is_in there verdicts = absurd kept
    sets_zip n before (s ∷ ss) (t ∷ es) kept is_in there verdicts = (
      record {
        number = refl;
        set = record {
          set = record {
            delims = delims;
            sender = ap (λ (o : Option ℕ). unwrap_or o 0) from;
            gs = ap (λ (y : Group). y.header.elements) same ∙ ap (λ (h : Segment). h.elements) header;
            st = ap (λ (h : Segment). h.elements) kept.0.header;
            inner = is_in.0.body ∙ body_is j.text marks t (All-head (IsThere j.text marks) t es there);
          };
          verdict = λ other. sym (ap (verdict_at standing.verdicts) (sym (none n)) ∙ verdicts other 0);
          clear = clear;
          fa = fa;
          judged = kept_open;
        };
      },
      sets_zip (n + 1) (before ++ s ∷ []) ss es kept.1 is_in.1 (All-tail (IsThere j.text marks) t es there)
          (λ other k. ap (verdict_at standing.verdicts) (sym (more n k)) ∙ verdicts other (suc k)),
    )

    pub all_sets_zip : (ss : List Set) (es : List SetEnvelope) → AreSetsKept ss es → AreSetsIn j.text marks ss es
        → All (IsThere j.text marks) es
        → (is_fa e ≡ false → standing.verdicts ≡ verdicts_in (answers_after setup sender d g [] ss))
        → AllZip (IsSet x answered) (sets_from j e standing 0 es) (numbered 1 (answers_after setup sender d g [] ss))
    all_sets_zip ss es kept is_in there verdicts =
        sets_zip 0 [] ss es kept is_in there (λ other k. ap (verdict_at standing.verdicts) (zero_more k)
        ∙ ap (λ vs. verdict_at vs k) (verdicts other))
      where
        zero_more : (k : ℕ) → 0 + k ≡ k
        zero_more k = omega arith

  abbrev shown : then.GroupEntry → GroupStanding → ShownGroup
  shown e standing = record { interchange = j; group = e; standing = standing }

  one_group : (before : List Group) (g : Group) (e : then.GroupEntry) (o : Option layer.AnsweredGroup) → IsGroupKept g e
      → AreSetsIn j.text marks g.sets e.sets → All (IsThere j.text marks) e.sets
      → IsGroupOf (answered_group setup sender d before g) o
      → IsShown x (shown e (standing_by o)) (answered_group setup sender d before g)
  one_group before g e None kept is_in there is =
      let answered : AnsweredGroup = answered_group setup sender d before g in
      let fa : answered.is_fa ≡ is_fa e = fa_is g e kept.header in
      let no_other : (X : Type 0) → is_fa e ≡ false → X = λ X other. absurd (true≢false (sym is ∙ fa ∙ other)) in
      record {
        fa = sym fa;
        gs = sym (ap (λ (h : Segment). h.elements) kept.header);
        count = sets_long g.sets e.sets kept.sets
            ∙ sym (answers_long g e (standing_by None) answered refl kept.header fa (no_other _) [] g.sets);
        verdict = λ other. no_other _ (sym fa ∙ other);
        accepted = λ other. no_other _ (sym fa ∙ other);
        sets = all_sets_zip g e (standing_by None) answered refl kept.header fa (no_other _) g.sets e.sets kept.sets is_in there
            (no_other _);
      }
  one_group before g e (Some o) kept is_in there is =
      let answered : AnsweredGroup = answered_group setup sender d before g in
      let fa : answered.is_fa ≡ is_fa e = fa_is g e kept.header in
      let clear : has_no_code answered.codes ≡ old_standings.has_no_code o.answer.codes =
      no_code_is answered.codes ∙ ap old_standings.has_no_code is.codes in
      let sets : map set_answer answered.answers ≡ o.sets = sets_are answered.answers o.sets is.answers in
      record {
        fa = sym fa;
        gs = sym (ap (λ (h : Segment). h.elements) kept.header);
        count = sets_long g.sets e.sets kept.sets
            ∙ sym (answers_long g e (standing_by (Some o)) answered refl kept.header fa (λ other. clear) [] g.sets);
        verdict = λ other. sym is.verdict;
        accepted = λ other. sym (accepted_is answered
            ∙ ap (λ (cs : List GroupCode). old_report.accepted_sets cs (totals_of (map set_answer answered.answers))) is.codes
            ∙ ap (λ (ss : List SetAnswer). old_report.accepted_sets o.answer.codes (totals_of ss)) sets);
        sets = all_sets_zip g e (standing_by (Some o)) answered refl kept.header fa (λ other. clear) g.sets e.sets kept.sets is_in there
            (λ other. sym (verdicts_are answered.answers ∙ ap verdicts_of sets));
      }

  groups_zip : (k : ℕ) (before gs : List Group) (es : List then.GroupEntry) (os : List (Option layer.AnsweredGroup)) → AreGroupsKept gs es
      → AreGroupsIn j.text marks gs es → All (λ (e : then.GroupEntry). All (IsThere j.text marks) e.sets) es
      → AreGroupsOf (groups_after setup sender d before gs) os
      → ((m : ℕ) → standing_at j.standings (k + m) ≡ standing_at (map standing_by os) m)
      → AllZip (IsShown x) (shown_from j k es) (groups_after setup sender d before gs)
  groups_zip k before [] [] os kept is_in there are standings = tt
  groups_zip k before [] (e ∷ es) os kept is_in there are standings = absurd kept
  groups_zip k before (g ∷ gs) [] os kept is_in there are standings = absurd kept
  groups_zip k before (g ∷ gs) (e ∷ es) [] kept is_in there are standings = absurd are
  groups_zip k before (g ∷ gs) (e ∷ es) (o ∷ os) kept is_in there are standings =
      let P : then.GroupEntry → Type 0 = λ e. All (IsThere j.text marks) e.sets in
      let here : standing_at j.standings k ≡ standing_by o = ap (standing_at j.standings) (sym (none k)) ∙ standings 0 in (
        subst (λ t. IsShown x (shown e t) (answered_group setup sender d before g)) (sym here)
            (one_group before g e o kept.0 is_in.0 (All-head P e es there) are.0),
        groups_zip (k + 1) (before ++ g ∷ []) gs es os kept.1 is_in.1 (All-tail P e es there) are.1
            (λ m. ap (standing_at j.standings) (sym (more k m)) ∙ standings (suc m)),
      )

  pub all_groups_zip : (gs : List Group) (es : List then.GroupEntry) (os : List (Option layer.AnsweredGroup)) → AreGroupsKept gs es
      → AreGroupsIn j.text marks gs es → All (λ (e : then.GroupEntry). All (IsThere j.text marks) e.sets) es
      → AreGroupsOf (groups_after setup sender d [] gs) os → j.standings ≡ map standing_by os
      → AllZip (IsShown x) (shown_from j 0 es) (groups_after setup sender d [] gs)
  all_groups_zip gs es os kept is_in there are same =
      groups_zip 0 [] gs es os kept is_in there are (λ m. ap (standing_at j.standings) (zero_more m)
      ∙ ap (λ s. standing_at s m) same)
    where
      zero_more : (k : ℕ) → 0 + k ≡ k
      zero_more k = omega arith
