-- Both parts of a batch are answered as the whole is.
use Rattle.std.proofs.Common.{◌≡◌, ◌≤◌, ◌<◌, ◌^◌, ℕ, zero, suc, ◌+◌, List, [], ◌∷◌, ◌++◌, Option, Some, length, map}
use Rattle.std.proofs.Common.{drop, take, sym, ap, subst, ◌∙◌, arith}
use Rattle.std.specs.Prelude.{option_map, slice_get}
use Rattle.std.specs.List.{All, AllZip}
use Rattle.std.proofs.lemmas.List.{length-append, length-map, map-append}
use Rattle.std.proofs.lemmas.List.Elements.{All-cons, All-head, All-nil, All-tail, filter-append}
use Rattle.std.proofs.lemmas.Option.{slice_get-map}
use Rattle.std.proofs.lemmas.Slice.Zip.{AllZip-long}
use Rattle.env_index.specs.Words.{IndexEntry, HasSpans}
use Rattle.partner_setup.specs.Setup.{SetupValue}
use Rattle.answered_sets.specs.Judged.{JudgedValue}
use Rattle.set_answers.specs.Asked.{Asked, IsFound, asked_of}
use Rattle.set_answers.specs.CheckedText.{CheckedInterchange, IsCheckedAs, SentValues, acknowledged_to, groups_to, is_acknowledged_to}
use Rattle.set_answers.specs.CheckedText.{HaveRoom, judged}
use Rattle.set_answers.specs.Counted.{AreContinued, AreCountedAfter, CanCountEach, asked_count_of}
use Rattle.set_answers.specs.Counted.{without_text}
use Rattle.set_answers.specs.FoundRows.{AreFoundRows}
use Rattle.set_answers.specs.Halves.{AreHalves, IsPartAnswered}
use Rattle.set_answers.specs.Pairs.{AreAllPairs}
use Rattle.set_answers.specs.SentAfter.{AreAnsweredAfter, AreSentAfter, CanAnswer, CanCount, sent_after}
use Rattle.set_answers.specs.Settled.{senders_of}
use Rattle.set_check.specs.declared.finding.Finding.{Finding}
use Rattle.set_answers.specs.declared.halving.Part.{Part}
use Rattle.set_answers.specs.declared.rows.FoundRows.{FoundRows}
use Rattle.set_answers.proofs.Acknowledging.{sent_twice}
use Rattle.set_answers.proofs.Asking.{asked_append, asked_count}
use Rattle.set_answers.proofs.Counts.{bare_room, room_counted}
use Rattle.set_answers.proofs.Foretold.{counted_foretold, pairs_tail}
use Rattle.set_answers.proofs.Starting.{can_count}
use Rattle.set_answers.proofs.Zipping.{zip_back, zip_front}

pairs_append : {A B : Type 0} (R : A → B → Type 0) (xs xs' : List A) (ys ys' : List B)
    → AreAllPairs (λ n a b. R a b) xs ys → AreAllPairs (λ n a b. R a b) xs' ys'
    → AreAllPairs (λ n a b. R a b) (xs ++ xs') (ys ++ ys')
pairs_append R [] xs' [] ys' first second = second
pairs_append R [] xs' (y ∷ ys) ys' first second = absurd (omega (arith, first.count))
pairs_append R (x ∷ xs) xs' [] ys' first second = absurd (omega (arith, first.count))
pairs_append {A} {B} R (x ∷ xs) xs' (y ∷ ys) ys' first second =
    by (pairs_append R xs xs' ys ys' (pairs_tail R x xs y ys first) second)
  where
    by : AreAllPairs (λ n a b. R a b) (xs ++ xs') (ys ++ ys') → AreAllPairs (λ n a b. R a b) (x ∷ (xs ++ xs')) (y ∷ (ys ++ ys'))
    by rest = record {
      count = ap suc rest.count;
      each = each;
    }
      where
        each : (n : ℕ) (a : A) (b : B) → slice_get (x ∷ (xs ++ xs')) n ≡ Some a → slice_get (y ∷ (ys ++ ys')) n ≡ Some b → R a b
        each zero a b at_a at_b = first.each zero a b at_a at_b
        each (suc n) a b at_a at_b = rest.each n a b at_a at_b

-- the second part continues the numbers of the first
pub sent_continued : (text : List ℕ) (setup : SetupValue) (at : List ℕ) (es : List IndexEntry) (xs ys : List CheckedInterchange)
    (old starts first second new : List SentValues)
    → AreAllPairs (λ n e x. IsCheckedAs text setup e x) es xs
    → AreCountedAfter setup es (map without_text old) starts
    → AreSentAfter setup at xs old first → AreSentAfter setup at ys starts second
    → AreContinued second first new → AreSentAfter setup at (xs ++ ys) old new
sent_continued text setup at es xs ys old starts first second new are counted sent more continued = record {
  count = continued.count ∙ sent.count;
  each = λ q p f at_q there.
      let kept : List CheckedInterchange = acknowledged_to q xs in
      let bare : slice_get (map without_text old) q ≡ Some (without_text f) =
      slice_get-map without_text old q ∙ ap (option_map without_text) there in
      let start : SentValues =
      record { text = []; count = f.count + length kept; groups = f.groups + groups_to kept } in
      let started : slice_get starts q ≡ Some start = counted.each q (without_text f) bare
      ∙ ap (λ (v : SentValues). Some v) (counted_foretold text setup q (without_text f) es xs are) in
      continued.each q (sent_after setup p at f kept) (sent_after setup p at start (acknowledged_to q ys)) (sent.each q p f at_q there)
      (more.each q p start at_q started)
      ∙ ap (λ (v : SentValues). Some v) (sent_twice setup p at f kept (acknowledged_to q ys)
      ∙ ap (sent_after setup p at f) (sym (filter-append (is_acknowledged_to q) xs ys)));
}

-- both halves of a part are answered
pub parts_answered : (part first second : Part) (js ks ls : List JudgedValue) (one two new : List SentValues)
    → AreHalves part first second → IsPartAnswered first js one → IsPartAnswered second ks two
    → ls ≡ js ++ ks → AreContinued two one new → IsPartAnswered part ls new
parts_answered part first second js ks ls one two new halves front back both continued =
    subst (λ (es : List IndexEntry). AreAnsweredAfter text setup at es ls part.sent.items new) halves.whole (record {
      answered = low.answered ++ high.answered;
      are = pairs_append (IsCheckedAs text setup) first.entries.now second.entries.now low.answered high.answered low.are high.are;
      judged = both ∙ (λ i. low.judged i ++ high.judged i) ∙ sym (map-append (judged text) low.answered high.answered);
      sent = sent_continued text setup at first.entries.now low.answered high.answered part.sent.items second.sent.items one two new
          low.are halves.start
          (subst (λ (old : List SentValues). AreSentAfter setup at low.answered old one) halves.sent low.sent) high.sent continued;
    })
  where
    text : List ℕ
    text = part.batch.now.text.now

    setup : SetupValue
    setup = part.batch.now.setup.now

    at : List ℕ
    at = part.batch.now.at.now

    low : AreAnsweredAfter text setup at first.entries.now js first.sent.items one
    low = subst (λ b. AreAnsweredAfter b.now.text.now b.now.setup.now b.now.at.now first.entries.now js first.sent.items one)
        halves.first_batch front

    high : AreAnsweredAfter text setup at second.entries.now ks second.sent.items two
    high = subst (λ b. AreAnsweredAfter b.now.text.now b.now.setup.now b.now.at.now second.entries.now ks second.sent.items two)
        halves.second_batch back

spans_append : (P : IndexEntry → Type 0) (es fs : List IndexEntry) → All P (es ++ fs) → All P es × All P fs
spans_append P [] fs all = (All-nil P, all)
spans_append P (e ∷ es) fs all =
    let rest = spans_append P es fs (All-tail P e (es ++ fs) all) in
    (All-cons P e es (All-head P e (es ++ fs) all) rest.0, rest.1)

-- what can be answered can be answered by halves
module _ (text : List ℕ) (setup : SetupValue) (low high all : List IndexEntry) (senders : List (Option ℕ))
    (found front back : List Finding) (old starts : List SentValues) (n : ℕ) (whole : low ++ high ≡ all)
    (ready : CanAnswer text setup all senders found old) where
  of_both : CanAnswer text setup (low ++ high) senders found old
  of_both = subst (λ (es : List IndexEntry). CanAnswer text setup es senders found old) (sym whole) ready

  asked_both : AllZip IsFound (asked_of text setup low ++ asked_of text setup high) found
  asked_both = subst (λ (l : List Asked). AllZip IsFound l found) (asked_append text setup low high) of_both.found

  pub few_asked : asked_count_of setup low ≤ length found
  few_asked =
      let long : length found ≡ length (asked_of text setup low ++ asked_of text setup high) =
      AllZip-long IsFound (asked_of text setup low ++ asked_of text setup high) found asked_both in
      omega (
        arith,
        long,
        length-append (asked_of text setup low) (asked_of text setup high),
        asked_count text setup low,
      )

  room_low : CanCount (length low) old
  room_low q f there =
      let had = of_both.room q f there in
      let size = length-append low high in
      (omega (arith, had.0, size), omega (arith, had.1, size))

  pub count_first : (lows : List (Option ℕ)) → lows ≡ senders_of setup low → asked_count_of setup low < 2 ^ 64
      → CanCountEach setup lows low old
  count_first lows are asked = record { from = are; count = of_both.count; room = room_low; findings = asked }

  pub first_ready : (lows : List (Option ℕ)) → lows ≡ senders_of setup low → n ≡ asked_count_of setup low → front ≡ take n found
      → CanAnswer text setup low lows front old
  first_ready lows are counted is = record {
    spans = (spans_append (λ e. HasSpans text e.interchange) low high of_both.spans).0;
    from = are;
    found = subst (λ (l : List Finding). AllZip IsFound (asked_of text setup low) l)
        (sym (is ∙ ap (λ (k : ℕ). take k found) (counted ∙ sym (asked_count text setup low))))
        (zip_front IsFound (asked_of text setup low) (asked_of text setup high) found asked_both);
    count = of_both.count;
    room = room_low;
  }

  pub second_ready : (highs : List (Option ℕ)) → highs ≡ senders_of setup high → n ≡ asked_count_of setup low → back ≡ drop n found
      → AreCountedAfter setup low (map without_text old) starts → CanAnswer text setup high highs back starts
  second_ready highs are counted is after = record {
    spans = (spans_append (λ e. HasSpans text e.interchange) low high of_both.spans).1;
    from = are;
    found = subst (λ (l : List Finding). AllZip IsFound (asked_of text setup high) l)
        (sym (is ∙ ap (λ (k : ℕ). drop k found) (counted ∙ sym (asked_count text setup low))))
        (zip_back IsFound (asked_of text setup low) (asked_of text setup high) found asked_both);
    count = after.count ∙ length-map old without_text ∙ of_both.count;
    room = room_counted setup low (map without_text old) starts (length (low ++ high)) (length high) after
        (bare_room (length (low ++ high)) old of_both.room)
        (let size = length-append low high in omega (arith, size));
  }

-- what is asked of a batch that is answered is what is asked of its whole as a part
pub can_answer : (text words : List ℕ) (setup : SetupValue) (at : List ℕ) (es fs : List IndexEntry) (rows : FoundRows)
    (senders : List (Option ℕ)) (files : List SentValues) → words ≡ text → fs ≡ es → senders ≡ rows.senders.items
    → All (λ e. HasSpans text e.interchange) es → AreFoundRows text setup es rows → HaveRoom setup at (length es) files
    → CanAnswer words setup fs senders rows.findings.items files
can_answer text words setup at es fs rows senders files same_text same_entries same_senders spans are room =
    subst (λ (t : List ℕ). CanAnswer t setup fs senders rows.findings.items files) (sym same_text)
    (subst (λ (l : List IndexEntry). CanAnswer text setup l senders rows.findings.items files) (sym same_entries) (record {
      spans = spans;
      from = same_senders ∙ are.senders;
      found = are.findings;
      count = room.1.count;
      room = can_count setup at (length es) files room;
    }))
