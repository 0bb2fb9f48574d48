use Rattle.std.proofs.Common.{◌≡◌, ◌++◌, ◌∙◌, ◌≤◌, ◌<◌, ◌^◌, ℕ, List, [], length, map, take, drop, ap, subst, sym, arith, refl, rules}
use Rattle.std.specs.Prelude.{Option, vec_len}
use Rattle.std.proofs.lemmas.List.{drop-map, length-map, take-append-drop, take-map}
use Rattle.env_index.specs.Words.{IndexEntry}
use Rattle.partner_setup.specs.Setup.{SetupValue, sender_of}
use Rattle.set_answers.specs.CheckedText.{SentValues}
use Rattle.set_answers.specs.Counted.{AreCountedAfter, CanCountEach, asked_count_of, without_text}
use Rattle.set_answers.specs.Halves.{IsReady}
use Rattle.set_answers.specs.Settled.{senders_of}
use Rattle.set_answers.specs.declared.halving.Part.{Part}
use Rattle.set_check.specs.declared.finding.Finding.{Finding}
use Rattle.set_answers.proofs.Halved.{count_first, few_asked, first_ready, second_ready}
use Rattle.set_answers.proofs.halving.halves_of.Goals as goal

-- the senders of the first interchanges are the first of the senders
first_senders : (setup : SetupValue) (es low : List IndexEntry) (senders lows : List (Option ℕ)) (n : ℕ) → senders ≡ senders_of setup es
    → low ≡ take n es → lows ≡ take n senders → lows ≡ senders_of setup low
first_senders setup es low senders lows n are is front =
    front ∙ ap (λ (l : List (Option ℕ)). take n l) are ∙ take-map (λ (e : IndexEntry). sender_of setup e.interchange.header) n es
    ∙ ap (senders_of setup) (sym is)

last_senders : (setup : SetupValue) (es high : List IndexEntry) (senders highs : List (Option ℕ)) (n : ℕ) → senders ≡ senders_of setup es
    → high ≡ drop n es → highs ≡ drop n senders → highs ≡ senders_of setup high
last_senders setup es high senders highs n are is back =
    back ∙ ap (λ (l : List (Option ℕ)). drop n l) are ∙ drop-map (λ (e : IndexEntry). sender_of setup e.interchange.header) n es
    ∙ ap (senders_of setup) (sym is)

few : (part : Part) (low high : List IndexEntry) → low ++ high ≡ part.entries.now → IsReady part
    → asked_count_of part.batch.now.setup.now low ≤ length part.found.items
few part low high all ready =
    let none : List Finding = [] in
    let starts : List SentValues = [] in
    few_asked part.batch.now.text.now part.batch.now.setup.now low high part.entries.now part.senders.now part.found.items none none
    part.sent.items starts 0 all ready

count_low : (part : Part) (low high : List IndexEntry) (lows : List (Option ℕ)) (sent : List SentValues) → low ++ high ≡ part.entries.now
    → IsReady part → lows ≡ senders_of part.batch.now.setup.now low → sent ≡ part.sent.items
    → CanCountEach part.batch.now.setup.now lows low sent
count_low part low high lows sent all ready are same =
    let setup = part.batch.now.setup.now in
    let none : List Finding = [] in
    let starts : List SentValues = [] in
    let long : vec_len part.found ≡ length part.found.items = search rules in
    let most : vec_len part.found < 2 ^ 64 = search rules in
    subst (CanCountEach setup lows low) (sym same)
    (count_first part.batch.now.text.now setup low high part.entries.now part.senders.now part.found.items none none part.sent.items starts
    0 all ready lows are (omega (arith, few part low high all ready, long, most)))

pub split_at-requires-2 : goal.split_at-requires-2
split_at-requires-2 c =
    let long : length c.args.part.senders.now ≡ length c.args.part.entries.now =
    ap (λ (l : List (Option ℕ)). length l) c.requires.from ∙ length-map c.args.part.entries.now _ in
    omega (arith, long)

pub start_after-requires : goal.start_after-requires
start_after-requires c =
    let part = c.args.part in
    let setup = part.batch.now.setup.now in
    let low : List IndexEntry = c.split_at.result.0.now in
    let high : List IndexEntry = c.split_at.result.1.now in
    let lows : List (Option ℕ) = c.split_at-2.result.0.now in
    let all : low ++ high ≡ part.entries.now =
    (λ i. c.split_at.ensures.front i ++ c.split_at.ensures.back i) ∙ take-append-drop _ part.entries.now in
    let are : lows ≡ senders_of setup low = first_senders setup part.entries.now low part.senders.now lows _ c.requires.from
    c.split_at.ensures.front c.split_at-2.ensures.front in
    (setup, count_low part low high lows c.as_slice.result.now all c.requires are c.as_slice.ensures.value)

pub split_off-requires : goal.split_off-requires
split_off-requires c =
    let part = c.args.part in
    let setup = part.batch.now.setup.now in
    let low : List IndexEntry = c.split_at.result.0.now in
    let high : List IndexEntry = c.split_at.result.1.now in
    let lows : List (Option ℕ) = c.split_at-2.result.0.now in
    let all : low ++ high ≡ part.entries.now =
    (λ i. c.split_at.ensures.front i ++ c.split_at.ensures.back i) ∙ take-append-drop _ part.entries.now in
    let are : lows ≡ senders_of setup low = first_senders setup part.entries.now low part.senders.now lows _ c.requires.from
    c.split_at.ensures.front c.split_at-2.ensures.front in
    let can = count_low part low high lows c.as_slice.result.now all c.requires are c.as_slice.ensures.value in
    let long : vec_len part.found ≡ length part.found.items = search rules in
    omega (arith, few part low high all c.requires, long, c.in_ok-start.ensures.findings setup can)

pub returns : goal.returns
returns c =
    let part = c.args.part in
    let text : List ℕ = part.batch.now.text.now in
    let setup = part.batch.now.setup.now in
    let low : List IndexEntry = c.split_at.result.0.now in
    let high : List IndexEntry = c.split_at.result.1.now in
    let lows : List (Option ℕ) = c.split_at-2.result.0.now in
    let highs : List (Option ℕ) = c.split_at-2.result.1.now in
    let front : List Finding = c.split_off.new.self.items in
    let back : List Finding = c.in_ok-rest.rest.items in
    let starts : List SentValues = c.in_ok-start.start.sent.items in
    let n : ℕ = c.in_ok-start.start.findings in
    let all : low ++ high ≡ part.entries.now =
    (λ i. c.split_at.ensures.front i ++ c.split_at.ensures.back i) ∙ take-append-drop _ part.entries.now in
    let are : lows ≡ senders_of setup low = first_senders setup part.entries.now low part.senders.now lows _ c.requires.from
    c.split_at.ensures.front c.split_at-2.ensures.front in
    let last : highs ≡ senders_of setup high = last_senders setup part.entries.now high part.senders.now highs _ c.requires.from
    c.split_at.ensures.back c.split_at-2.ensures.back in
    let can = count_low part low high lows c.as_slice.result.now all c.requires are c.as_slice.ensures.value in
    let counted : n ≡ asked_count_of setup low = c.in_ok-start.ensures.findings setup can in
    let start = subst (λ (files : List SentValues). AreCountedAfter setup low (map without_text files) starts) c.as_slice.ensures.value
    (c.in_ok-start.ensures.sent setup can) in
    record {
      first_batch = refl;
      second_batch = refl;
      whole = all;
      sent = refl;
      start = start;
      first_ready = first_ready text setup low high part.entries.now part.senders.now part.found.items front back part.sent.items starts n
          all c.requires lows are counted c.in_ok-rest.ensures.items;
      second_ready = second_ready text setup low high part.entries.now part.senders.now part.found.items front back part.sent.items starts n
          all c.requires highs last counted c.in_ok-rest.ensures.tail start;
    }
