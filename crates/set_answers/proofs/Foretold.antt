-- What is known of an interchange before it is answered is so once it is answered.
use Rattle.std.proofs.Common.{◌≡◌, ℕ, suc, ◌+◌, Bool, true, false, cond, List, [], ◌∷◌, Option, Some, None, length, take}
use Rattle.std.proofs.Common.{refl, sym, ap, ◌∙◌, arith}
use Rattle.std.specs.Prelude.{◌||◌, if◌then◌else◌, is_some, not, sum_by}
use Rattle.std.specs.List.{list_any}
use Rattle.hub_kinds.specs.declared.interchange.InterchangeFault.{InterchangeFault}
use Rattle.env_index.specs.Words.{IndexEntry, GroupEntry}
use Rattle.partner_setup.specs.Setup.{SetupValue}
use Rattle.answered_sets.specs.Answered.{ta1_note}
use Rattle.answered_sets.specs.Judged.{is_fa}
use Rattle.set_answers.specs.Acknowledgments.{acknowledgment_group_count, has_any, has_reports, present}
use Rattle.set_answers.specs.Answers.{IsGroupAnswered, SentValue}
use Rattle.set_answers.specs.CheckedText.{AreAnswersBy, AreCheckedAs, CheckedInterchange, IsCheckedAs, SentValues, acknowledged_to}
use Rattle.set_answers.specs.CheckedText.{acknowledgment_of, groups_to, is_partner, recipient_of}
use Rattle.set_answers.specs.Counted.{counted_after, entries_acknowledged_to, group_count_of_entry, recipient_from, recipient_of_entry}
use Rattle.set_answers.specs.Counted.{will_report, will_report_of}
use Rattle.set_answers.specs.Pairs.{AreAllPairs}
use Rattle.set_answers.specs.declared.answered.AnsweredGroup.{AnsweredGroup}
use Rattle.set_answers.proofs.Counts.{groups_cons}

-- of pairs without their numbers, those after the first
pub pairs_tail : {A B : Type 0} (R : A → B → Type 0) (x : A) (xs : List A) (y : B) (ys : List B)
    → AreAllPairs (λ n a b. R a b) (x ∷ xs) (y ∷ ys) → AreAllPairs (λ n a b. R a b) xs ys
pairs_tail R x xs y ys pairs = record {
  count = omega (arith, pairs.count);
  each = λ n a b at_a at_b. pairs.each (suc n) a b at_a at_b;
}

-- a group is responded to where it isn't one of acknowledgments
abbrev IsResponded : GroupEntry → Option AnsweredGroup → Type 0
IsResponded g None = is_fa g ≡ true
IsResponded g (Some a) = is_fa g ≡ false

responded : (sent : SentValue) (before : List GroupEntry) (g : GroupEntry) (a : Option AnsweredGroup)
    → IsGroupAnswered sent before g a → IsResponded g a
responded sent before g None is = is
responded sent before g (Some a) is = is.other

any_responded : (gs : List GroupEntry) (rs : List (Option AnsweredGroup)) → AreAllPairs (λ n g a. IsResponded g a) gs rs
    → has_any (present rs) ≡ list_any (λ g. not (is_fa g)) gs
any_responded [] [] pairs = refl
any_responded [] (a ∷ rs) pairs = absurd (omega (arith, pairs.count))
any_responded (g ∷ gs) [] pairs = absurd (omega (arith, pairs.count))
any_responded (g ∷ gs) (None ∷ rs) pairs =
    any_responded gs rs (pairs_tail IsResponded g gs None rs pairs)
    ∙ sym (ap (λ (b : Bool). not b || list_any (λ g. not (is_fa g)) gs) (pairs.each 0 g None refl refl))
any_responded (g ∷ gs) (Some a ∷ rs) pairs =
    sym (ap (λ (b : Bool). not b || list_any (λ g. not (is_fa g)) gs) (pairs.each 0 g (Some a) refl refl))

any_answered : (text : List ℕ) (setup : SetupValue) (e : IndexEntry) (fault : Option InterchangeFault) (sender : Option ℕ)
    (rs : List (Option AnsweredGroup)) → AreAnswersBy text setup e fault sender rs
    → has_any (present rs) ≡ will_report sender fault e.interchange.content.groups
any_answered text setup e (Some fault) None rs none = ap (λ (l : List (Option AnsweredGroup)). has_any (present l)) none
any_answered text setup e (Some fault) (Some sender) rs none = ap (λ (l : List (Option AnsweredGroup)). has_any (present l)) none
any_answered text setup e None None rs none = ap (λ (l : List (Option AnsweredGroup)). has_any (present l)) none
any_answered text setup e None (Some sender) rs are =
    any_responded e.interchange.content.groups rs (record {
      count = are.count;
      each = λ n g a at_g at_a. responded _ (take n e.interchange.content.groups) g a (are.each n g a at_g at_a);
    })

module _ (text : List ℕ) (setup : SetupValue) (e : IndexEntry) (x : CheckedInterchange) (is : IsCheckedAs text setup e x) where
  reports : has_reports (acknowledgment_of x) ≡ will_report_of x.sender e
  reports = any_answered text setup e e.fault x.sender x.groups is.groups

  pub recipient_foretold : recipient_of x ≡ recipient_of_entry setup e
  recipient_foretold =
      ap (λ (v : IndexEntry). if is_some (ta1_note x.sender v.fault v.interchange) || has_reports (acknowledgment_of x)
      then x.sender else None) is.entry
      ∙ ap (λ (b : Bool). if is_some (ta1_note x.sender e.fault e.interchange) || b then x.sender else None) reports
      ∙ ap (λ (s : Option ℕ). recipient_from s e) is.sender

  pub groups_foretold : acknowledgment_group_count (acknowledgment_of x) ≡ group_count_of_entry setup e
  groups_foretold = ap (λ (b : Bool). if b then 1 else 0) (reports ∙ ap (λ (s : Option ℕ). will_report_of s e) is.sender)

-- as many are acknowledged to a partner, with as many groups
pub acknowledged_foretold : (text : List ℕ) (setup : SetupValue) (q : ℕ) (es : List IndexEntry) (xs : List CheckedInterchange)
    → AreCheckedAs text setup es xs
    → (length (entries_acknowledged_to setup q es) ≡ length (acknowledged_to q xs))
    × (sum_by (group_count_of_entry setup) (entries_acknowledged_to setup q es) ≡ groups_to (acknowledged_to q xs))
acknowledged_foretold text setup q [] [] pairs = (refl, refl)
acknowledged_foretold text setup q [] (x ∷ xs) pairs = absurd (omega (arith, pairs.count))
acknowledged_foretold text setup q (e ∷ es) [] pairs = absurd (omega (arith, pairs.count))
acknowledged_foretold text setup q (e ∷ es) (x ∷ xs) pairs =
    by (acknowledged_foretold text setup q es xs (pairs_tail (IsCheckedAs text setup) e es x xs pairs))
    (is_partner q (recipient_of x)) refl (sym (ap (is_partner q) (recipient_foretold text setup e x first)))
  where
    first : IsCheckedAs text setup e x
    first = pairs.each 0 e x refl refl

    AreForetold : List IndexEntry → List CheckedInterchange → Type 0
    AreForetold fs ys =
        (length (entries_acknowledged_to setup q fs) ≡ length (acknowledged_to q ys))
        × (sum_by (group_count_of_entry setup) (entries_acknowledged_to setup q fs) ≡ groups_to (acknowledged_to q ys))

    by : AreForetold es xs → (b : Bool) → is_partner q (recipient_of x) ≡ b
        → is_partner q (recipient_of_entry setup e) ≡ is_partner q (recipient_of x) → AreForetold (e ∷ es) (x ∷ xs)
    by rest true is same =
        let ours : entries_acknowledged_to setup q (e ∷ es) ≡ e ∷ entries_acknowledged_to setup q es =
        ap (λ (c : Bool). cond c (e ∷ entries_acknowledged_to setup q es) (entries_acknowledged_to setup q es)) (same ∙ is) in
        let theirs : acknowledged_to q (x ∷ xs) ≡ x ∷ acknowledged_to q xs =
        ap (λ (c : Bool). cond c (x ∷ acknowledged_to q xs) (acknowledged_to q xs)) is in (
          ap (λ (l : List IndexEntry). length l) ours ∙ ap suc rest.0
              ∙ sym (ap (λ (l : List CheckedInterchange). length l) theirs),
          ap (λ (l : List IndexEntry). sum_by (group_count_of_entry setup) l) ours
              ∙ groups_cons setup e (entries_acknowledged_to setup q es)
              ∙ ap (λ (n : ℕ). n + sum_by (group_count_of_entry setup) (entries_acknowledged_to setup q es))
              (sym (groups_foretold text setup e x first))
              ∙ ap (λ (n : ℕ). acknowledgment_group_count (acknowledgment_of x) + n) rest.1
              ∙ sym (ap groups_to theirs),
        )
    by rest false is same =
        let ours : entries_acknowledged_to setup q (e ∷ es) ≡ entries_acknowledged_to setup q es =
        ap (λ (c : Bool). cond c (e ∷ entries_acknowledged_to setup q es) (entries_acknowledged_to setup q es)) (same ∙ is) in
        let theirs : acknowledged_to q (x ∷ xs) ≡ acknowledged_to q xs =
        ap (λ (c : Bool). cond c (x ∷ acknowledged_to q xs) (acknowledged_to q xs)) is in (
          ap (λ (l : List IndexEntry). length l) ours ∙ rest.0 ∙ sym (ap (λ (l : List CheckedInterchange). length l) theirs),
          ap (λ (l : List IndexEntry). sum_by (group_count_of_entry setup) l) ours ∙ rest.1 ∙ sym (ap groups_to theirs),
        )

-- the numbers that are counted are those that come next
pub counted_foretold : (text : List ℕ) (setup : SetupValue) (q : ℕ) (f : SentValues) (es : List IndexEntry)
    (xs : List CheckedInterchange) → AreCheckedAs text setup es xs
    → counted_after setup f (entries_acknowledged_to setup q es)
    ≡ record { text = f.text; count = f.count + length (acknowledged_to q xs); groups = f.groups + groups_to (acknowledged_to q xs) }
counted_foretold text setup q f es xs pairs =
    let same = acknowledged_foretold text setup q es xs pairs in
    let value : ℕ → ℕ → SentValues = λ k g. record { text = f.text; count = k; groups = g } in
    ap (λ (n : ℕ). value (f.count + n) (f.groups + sum_by (group_count_of_entry setup) (entries_acknowledged_to setup q es))) same.0
    ∙ ap (λ (n : ℕ). value (f.count + length (acknowledged_to q xs)) (f.groups + n)) same.1
