-- More interchanges are acknowledged after those before.
use Rattle.std.proofs.Common.{◌≡◌, ◌<◌, ℕ, ◌+◌, ◌==◌, Bool, true, false, cond, List, [], ◌∷◌, ◌++◌}
use Rattle.std.proofs.Common.{Option, Some, None, if◌then◌else◌, length, refl, sym, ap, subst, ◌∙◌, arith, append_assoc, append-nil}
use Rattle.std.proofs.Common.{eq-eqb}
use Rattle.std.specs.Prelude.{slice_get, slice_set}
use Rattle.std.specs.List.{filter}
use Rattle.std.proofs.lemmas.List.{length-append}
use Rattle.std.proofs.lemmas.List.Elements.{filter-append}
use Rattle.count_numbers.specs.Num.{num}
use Rattle.partner_setup.specs.declared.partner.Partner.{Partner}
use Rattle.partner_setup.specs.Envelopes.{envelope_to}
use Rattle.partner_setup.specs.Setup.{SetupValue}
use Rattle.env_index.specs.Words.{IndexEntry}
use Rattle.answered_sets.specs.Judged.{JudgedValue}
use Rattle.set_answers.specs.Acknowledgments.{Acknowledgment, acknowledgment_text, acknowledgment_group_count, is_there}
use Rattle.set_answers.specs.CheckedText.{CheckedInterchange, AreAcknowledgments, SentValues, acknowledged_to, acknowledgments_from}
use Rattle.set_answers.specs.CheckedText.{acknowledgment_of, acknowledgments_to, groups_to, is_acknowledged_to, is_partner}
use Rattle.set_answers.specs.CheckedText.{IsCheckedBehind, nothing_sent, recipient_by, recipient_of, with_next}
use Rattle.set_answers.specs.SentAfter.{AreAnsweredAfter, AreSentAfter, sent_after}
use Rattle.set_answers.proofs.Putting.{put_each, put_length, there_is}

abbrev next_text : SetupValue → Partner → List ℕ → (k g : ℕ) → CheckedInterchange → List ℕ
next_text setup p at k g x =
    acknowledgment_text (envelope_to setup p) at (num p.counters.interchange k) (num p.counters.group g) (acknowledgment_of x)

groups_append : (xs ys : List CheckedInterchange) → groups_to (xs ++ ys) ≡ groups_to xs + groups_to ys
groups_append [] ys = omega arith
groups_append (x ∷ xs) ys = ap (λ (n : ℕ). acknowledgment_group_count (acknowledgment_of x) + n) (groups_append xs ys) ∙ omega arith

texts_append : (setup : SetupValue) (p : Partner) (at : List ℕ) (k g n m : ℕ) (xs ys : List CheckedInterchange)
    → k + length xs ≡ n → g + groups_to xs ≡ m
    → acknowledgments_from setup p at k g (xs ++ ys) ≡ acknowledgments_from setup p at k g xs ++ acknowledgments_from setup p at n m ys
texts_append setup p at k g n m [] ys e f =
    ap (λ (i : ℕ). acknowledgments_from setup p at i g ys) (omega (arith, e))
    ∙ ap (λ (i : ℕ). acknowledgments_from setup p at n i ys) (omega (arith, f))
texts_append setup p at k g n m (x ∷ xs) ys e f =
    ap (λ (t : List ℕ). next_text setup p at k g x ++ t)
    (texts_append setup p at (k + 1) (g + acknowledgment_group_count (acknowledgment_of x)) n m xs ys (omega (arith, e)) (omega (arith, f)))
    ∙ sym (append_assoc (next_text setup p at k g x)
    (acknowledgments_from setup p at (k + 1) (g + acknowledgment_group_count (acknowledgment_of x)) xs)
    (acknowledgments_from setup p at n m ys))

abbrev value : List ℕ → (k g : ℕ) → SentValues
value text k g = record { text = text; count = k; groups = g }

-- what is sent after what is sent
pub sent_twice : (setup : SetupValue) (p : Partner) (at : List ℕ) (f : SentValues) (xs ys : List CheckedInterchange)
    → sent_after setup p at (sent_after setup p at f xs) ys ≡ sent_after setup p at f (xs ++ ys)
sent_twice setup p at f xs ys =
    let count : f.count + length xs + length ys ≡ f.count + length (xs ++ ys) = omega (arith, length-append xs ys) in
    let groups : f.groups + groups_to xs + groups_to ys ≡ f.groups + groups_to (xs ++ ys) = omega (arith, groups_append xs ys) in
    let text : List ℕ = f.text ++ acknowledgments_from setup p at f.count f.groups (xs ++ ys) in
    ap (λ (t : List ℕ). value t (f.count + length xs + length ys) (f.groups + groups_to xs + groups_to ys))
    (append_assoc f.text (acknowledgments_from setup p at f.count f.groups xs)
    (acknowledgments_from setup p at (f.count + length xs) (f.groups + groups_to xs) ys)
    ∙ ap (λ (t : List ℕ). f.text ++ t)
    (sym (texts_append setup p at f.count f.groups (f.count + length xs) (f.groups + groups_to xs) xs ys refl refl)))
    ∙ ap (λ (n : ℕ). value text n (f.groups + groups_to xs + groups_to ys)) count
    ∙ ap (λ (n : ℕ). value text (f.count + length (xs ++ ys)) n) groups

none_after : (setup : SetupValue) (p : Partner) (at : List ℕ) (f : SentValues) → sent_after setup p at f [] ≡ f
none_after setup p at f =
    let count : f.count + 0 ≡ f.count = omega arith in
    let groups : f.groups + 0 ≡ f.groups = omega arith in
    ap (λ (t : List ℕ). value t (f.count + 0) (f.groups + 0)) (append-nil f.text)
    ∙ ap (λ (n : ℕ). value f.text n (f.groups + 0)) count ∙ ap (λ (n : ℕ). value f.text f.count n) groups

one_after : (setup : SetupValue) (p : Partner) (at : List ℕ) (f : SentValues) (x : CheckedInterchange)
    → sent_after setup p at f (x ∷ []) ≡ with_next setup p at f (acknowledgment_of x)
one_after setup p at f x =
    let groups : f.groups + groups_to (x ∷ []) ≡ f.groups + acknowledgment_group_count (acknowledgment_of x) = omega arith in
    ap (λ (t : List ℕ). value (f.text ++ t) (f.count + 1) (f.groups + groups_to (x ∷ [])))
    (append-nil (next_text setup p at f.count f.groups x))
    ∙ ap (λ (n : ℕ). value (f.text ++ next_text setup p at f.count f.groups x) (f.count + 1) n) groups

-- each partner's, of interchanges and then of more
pub sent_both : (setup : SetupValue) (at : List ℕ) (xs ys : List CheckedInterchange) (a b c : List SentValues)
    → AreSentAfter setup at xs a b → AreSentAfter setup at ys b c → AreSentAfter setup at (xs ++ ys) a c
sent_both setup at xs ys a b c first second = record {
  count = second.count ∙ first.count;
  each = λ q p f at_q there. second.each q p (sent_after setup p at f (acknowledged_to q xs)) at_q (first.each q p f at_q there)
      ∙ ap (λ (v : SentValues). Some v) (sent_twice setup p at f (acknowledged_to q xs) (acknowledged_to q ys)
      ∙ ap (sent_after setup p at f) (sym (filter-append (is_acknowledged_to q) xs ys)));
}

pub sent_none : (setup : SetupValue) (at : List ℕ) (files : List SentValues) → AreSentAfter setup at [] files files
sent_none setup at files = record {
  count = refl;
  each = λ q p f at_q there. there ∙ ap (λ (v : SentValues). Some v) (sym (none_after setup p at f));
}

from_nothing : (setup : SetupValue) (p : Partner) (at : List ℕ) (xs : List CheckedInterchange)
    → sent_after setup p at nothing_sent xs ≡ value (acknowledgments_from setup p at 0 0 xs) (length xs) (groups_to xs)
from_nothing setup p at xs =
    let count : 0 + length xs ≡ length xs = omega arith in
    let groups : 0 + groups_to xs ≡ groups_to xs = omega arith in
    ap (λ (n : ℕ). value (acknowledgments_from setup p at 0 0 xs) n (0 + groups_to xs)) count
    ∙ ap (λ (n : ℕ). value (acknowledgments_from setup p at 0 0 xs) (length xs) n) groups

-- after the acknowledgments of the interchanges before
pub acknowledged_after : (setup : SetupValue) (at : List ℕ) (before xs : List CheckedInterchange) (old new : List SentValues)
    → AreAcknowledgments setup at before old → AreSentAfter setup at xs old new → AreAcknowledgments setup at (before ++ xs) new
acknowledged_after setup at before xs old new are after = record {
  count = after.count ∙ are.count;
  each = λ q p at_q. after.each q p (acknowledgments_to setup at before q p) at_q (are.each q p at_q)
      ∙ ap (λ (v : SentValues). Some v)
      (ap (λ (v : SentValues). sent_after setup p at v (acknowledged_to q xs)) (sym (from_nothing setup p at (acknowledged_to q before)))
      ∙ sent_twice setup p at nothing_sent (acknowledged_to q before) (acknowledged_to q xs)
      ∙ ap (sent_after setup p at nothing_sent) (sym (filter-append (is_acknowledged_to q) before xs))
      ∙ from_nothing setup p at (acknowledged_to q (before ++ xs)));
}

-- the acknowledgments after those of any interchanges before
pub checked_after : (text words : List ℕ) (setup : SetupValue) (at : List ℕ) (es fs : List IndexEntry) (js : List JudgedValue)
    (old new : List SentValues) → words ≡ text → fs ≡ es → AreAnsweredAfter words setup at fs js old new
    → IsCheckedBehind text setup at es js old new
checked_after text words setup at es fs js old new same_text same_entries is =
    subst (λ (t : List ℕ). IsCheckedBehind t setup at es js old new) same_text
    (subst (λ (l : List IndexEntry). IsCheckedBehind words setup at l js old new) same_entries (record {
      answered = is.answered;
      are = is.are;
      judged = is.judged;
      acknowledged = λ before are. acknowledged_after setup at before is.answered old new are is.sent;
    }))

one_kept : {A : Type 0} (p : A → Bool) (x : A) (b : Bool) → p x ≡ b → filter p (x ∷ []) ≡ cond b (x ∷ []) []
one_kept p x b h = ap (λ (c : Bool). cond c (x ∷ []) []) h

acknowledged_by : (q s : ℕ) (x : CheckedInterchange) → recipient_of x ≡ Some s → is_acknowledged_to q x ≡ (s == q)
acknowledged_by q s x is = ap (is_partner q) is

-- one interchange more, with its acknowledgment put in its recipient's place
pub filed : (setup : SetupValue) (at : List ℕ) (files new : List SentValues) (x : CheckedInterchange) (s : ℕ)
    → s < length setup.partners → length files ≡ length setup.partners → recipient_of x ≡ Some s
    → ((p : Partner) (f : SentValues) → slice_get setup.partners s ≡ Some p → slice_get files s ≡ Some f
    → new ≡ slice_set files s (with_next setup p at f (acknowledgment_of x)))
    → AreSentAfter setup at (x ∷ []) files new
filed setup at files new x s within counted is made = record {
  count = put_length IsSent files new s here filed_at others;
  each = λ q p f at_q there.
      let v = put_each IsSent files new s here filed_at others q f there in
      v.1 ∙ ap (λ (w : SentValues). Some w) (v.2 p at_q);
}
  where
    IsSent : ℕ → SentValues → SentValues → Type 0
    IsSent q f v = (p : Partner) → slice_get setup.partners q ≡ Some p → v ≡ sent_after setup p at f (acknowledged_to q (x ∷ []))

    here : s < length files
    here = omega (arith, within, counted)

    filed_at : (f : SentValues) → slice_get files s ≡ Some f
        → (v : SentValues) × (new ≡ slice_set files s v) × IsSent s f v
    filed_at f there =
        let p = there_is setup.partners s within in (
          with_next setup p.0 at f (acknowledgment_of x),
          made p.0 f p.1 there,
          λ r at_s.
              let some : Some p.0 ≡ Some r = sym p.1 ∙ at_s in
              let same : p.0 ≡ r = cc in
              let kept : acknowledged_to s (x ∷ []) ≡ x ∷ [] =
              one_kept (is_acknowledged_to s) x true (acknowledged_by s s x is ∙ eq-eqb s s refl) in
              ap (λ (w : Partner). with_next setup w at f (acknowledgment_of x)) same ∙ sym (one_after setup r at f x)
              ∙ ap (sent_after setup r at f) (sym kept),
        )

    others : (q : ℕ) (f : SentValues) → (s == q) ≡ false → IsSent q f f
    others q f apart p at_q =
        sym (ap (sent_after setup p at f) (one_kept (is_acknowledged_to q) x false (acknowledged_by q s x is ∙ apart))
        ∙ none_after setup p at f)

-- where it is acknowledged to nobody, all have what they had
pub not_filed : (setup : SetupValue) (at : List ℕ) (files : List SentValues) (x : CheckedInterchange)
    → recipient_of x ≡ None → AreSentAfter setup at (x ∷ []) files files
not_filed setup at files x none = record {
  count = refl;
  each = λ q p f at_q there. there
      ∙ ap (λ (v : SentValues). Some v)
      (sym (ap (sent_after setup p at f) (one_kept (is_acknowledged_to q) x false (ap (is_partner q) none)) ∙ none_after setup p at f));
}

-- nothing is acknowledged but to the sender
pub to_sender : (sender : Option ℕ) (a : Acknowledgment) (s : ℕ) → recipient_by sender a ≡ Some s → sender ≡ Some s
to_sender sender a s is = by (is_there a) refl
  where
    by : (b : Bool) → is_there a ≡ b → sender ≡ Some s
    by true there = sym (ap (λ (b : Bool). if b then sender else None) there) ∙ is
    by false absent =
        let none : None ≡ Some s = sym (ap (λ (b : Bool). if b then sender else None) absent) ∙ is in
        cc
