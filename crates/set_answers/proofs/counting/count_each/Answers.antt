use Rattle.std.proofs.Common.{◌≡◌, ◌≤◌, ◌<◌, ℕ, ◌+◌, List, [], ◌∷◌, drop, get_or, length, refl, sym, ap, subst, take, ◌∙◌, arith}
use Rattle.std.specs.Prelude.{Option, None, Some, slice_get}
use Rattle.std.proofs.lemmas.List.{drop_all, length-take-le, take_all}
use Rattle.std.proofs.lemmas.Option.{slice_get_read}
use Rattle.env_index.specs.Words.{IndexEntry}
use Rattle.partner_setup.specs.Setup.{SetupValue, sender_of}
use Rattle.set_answers.specs.Counted.{AreCountedAfter, asked_count_from, asked_count_of}
use Rattle.set_answers.proofs.Counts.{counted_both, counted_none, room_counted, sender_within}
use Rattle.set_answers.proofs.Growing.{mapped_at, take_one_more}
use Rattle.set_answers.proofs.Taking.{drop_one_more}
use Rattle.set_answers.proofs.counting.count_each.Goals as goal

with_next : (setup : SetupValue) (es : List IndexEntry) (i : ℕ) (e : IndexEntry) (sender : Option ℕ) → slice_get es i ≡ Some e
    → sender ≡ sender_of setup e.interchange.header
    → asked_count_of setup (drop i es) ≡ asked_count_from sender e + asked_count_of setup (drop (i + 1) es)
with_next setup es i e sender there is =
    ap (asked_count_of setup) (drop_one_more es i e there)
    ∙ ap (λ (s : Option ℕ). asked_count_from s e + asked_count_of setup (drop (i + 1) es)) (sym is)

pub loop-i-init : goal.loop-i-init
loop-i-init c setup can = (omega arith, counted_none setup c.args.sent.now)

pub count_one-findings-requires : goal.count_one-findings-requires
count_one-findings-requires c =
    let setup = c.requires.0 in
    let can = c.requires.1 in
    let was = c.loop-i.invariant setup can in
    let entries : List IndexEntry = c.args.entries.now in
    let i : ℕ = c.loop-i.i in
    let e : IndexEntry = c.index-entries-i.result in
    let sender : Option ℕ = get_or c.args.senders.now i None in
    let there : slice_get entries i ≡ Some e =
    slice_get_read entries _ i e refl c.loop-i-test.true c.index-entries-i.is in
    let is : sender ≡ sender_of setup e.interchange.header =
    mapped_at (λ (x : IndexEntry). sender_of setup x.interchange.header) entries c.args.senders.now i e None can.from there in
    let before : length (take i entries) ≡ i = length-take-le i entries (omega (arith, c.loop-i-test.true)) in
    let left : length (take i entries) + 1 ≤ length entries = omega (arith, before, c.loop-i-test.true) in
    let long : length c.loop-i.sent ≡ length setup.partners = was.1.count ∙ can.count in
    record {
      within = λ place has.
          subst (λ (n : ℕ). place < n) (sym long) (sender_within setup e.interchange.header place (sym is ∙ has));
      room = room_counted setup (take i entries) c.args.sent.now c.loop-i.sent (length entries) 1 was.1 can.room left;
      findings = omega (arith, with_next setup entries i e sender there is, was.0, can.findings);
    }

pub loop-i-preserved : goal.loop-i-preserved
loop-i-preserved c setup can =
    let was = c.loop-i.invariant setup can in
    let entries : List IndexEntry = c.args.entries.now in
    let i : ℕ = c.loop-i.i in
    let e : IndexEntry = c.index-entries-i.result in
    let sender : Option ℕ = get_or c.args.senders.now i None in
    let there : slice_get entries i ≡ Some e =
    slice_get_read entries _ i e refl c.loop-i-test.true c.index-entries-i.is in
    let is : sender ≡ sender_of setup e.interchange.header =
    mapped_at (λ (x : IndexEntry). sender_of setup x.interchange.header) entries c.args.senders.now i e None can.from there in (
      omega (arith, with_next setup entries i e sender there is, c.count_one-findings.ensures.findings, was.0),
      subst (λ (es : List IndexEntry). AreCountedAfter setup es c.args.sent.now c.count_one-findings.new.sent)
          (sym (take_one_more entries i e there))
          (counted_both setup (take i entries) (e ∷ []) c.args.sent.now c.loop-i.sent c.count_one-findings.new.sent was.1
          (c.count_one-findings.ensures.sent setup is)),
    )

pub returns-clause-sent : goal.returns-clause-sent
returns-clause-sent c setup can =
    subst (λ (es : List IndexEntry). AreCountedAfter setup es c.args.sent.now c.loop-i.sent)
    (take_all c.loop-i.i c.args.entries.now c.loop-i-test.false) (c.loop-i.invariant setup can).1

pub returns-clause-findings : goal.returns-clause-findings
returns-clause-findings c setup can =
    let none : asked_count_of setup (drop c.loop-i.i c.args.entries.now) ≡ 0 =
    ap (asked_count_of setup) (drop_all c.loop-i.i c.args.entries.now c.loop-i-test.false) in
    omega (arith, none, (c.loop-i.invariant setup can).0)
