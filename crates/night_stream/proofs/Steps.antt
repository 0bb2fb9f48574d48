-- A stream is worked on batch by batch.
use Rattle.std.proofs.Common.{◌≡◌, ℕ, ◌+◌, ◌-◌, ◌<◌, ◌≤◌, List, [], ◌++◌, Option, Some, None, IfSome, length, take, drop, refl, sym, ap}
use Rattle.std.proofs.Common.{subst, ◌∙◌, arith}
use Rattle.std.proofs.lemmas.List.{append-nil, append_assoc, drop-append-le, drop-drop, length-append, length-drop, length-map}
use Rattle.std.proofs.lemmas.List.{length-take-le, take-append-drop, take_all}
use Rattle.std.specs.Io.KnownBytes.{Consumes, IsAtEnd}
use Rattle.hub_kinds.specs.declared.limits.TheConstants.{LONGEST_TEXT}
use Rattle.env_index.specs.Words.{Extent, IndexValue, IsIndex, with_faults}
use Rattle.env_index.specs.Index.{extents_of}
use Rattle.env_index.proofs.ForAbove.{head_within}
use Rattle.partner_setup.specs.Setup.{SetupValue}
use Rattle.set_answers.specs.CheckedText.{judged}
use Rattle.number_register.specs.SeenNumbers.{HaveSeen}
use Rattle.set_answers.specs.Settled.{faults_with, kept_keys, settled_faults}
use Rattle.whole_interchanges.specs.Batches.{ChainUpTo}
use Rattle.whole_interchanges.proofs.ForAbove.{chain_up_to_end}
use Rattle.night_stream.proofs.Closed.{closed}
use Rattle.night_stream.proofs.Going.{night_starts, night_steps}
use Rattle.night_stream.proofs.Numbering.{keys_behind}
use Rattle.night_stream.proofs.Shown.{batch_shown}
use Rattle.whole_interchanges.proofs.ForAbove.{stands_on}
use Rattle.whole_interchanges.specs.Scouting.{Advances, Stands}
use Rattle.whole_interchanges.specs.declared.scout.Advanced.{Advanced}
use Rattle.whole_interchanges.specs.declared.scout.Inside.{Inside}
use Rattle.night_stream.specs.UpTo.{IsBatchOf, IsNightUpTo, NightSoFar, behind_batch, none_yet}
use Rattle.night_batches.specs.Writing.{IsBatchWritten, IsClosedBy, WritingValue, nothing_written}
use Rattle.night_batches.specs.declared.night.Night.{Night}
use Rattle.stream_read.specs.Held.{HasRead, HeldValue}
use Rattle.stream_read.proofs.ForAbove.{consumes_on}
use Rattle.night_stream.proofs.Bounds.{faulty_length, few_up_to}
use Rattle.night_stream.specs.Carried.{CanGoOn, HasWorked}
use Rattle.night_stream.specs.Reading.{IsNightOfStream, IsReadUpTo}
use Rattle.night_stream.specs.declared.carried.Carried.{Carried}
use Rattle.night_stream.specs.declared.stream.Reading.{Reading}

pub stands_within : (read : List ℕ) (at : ℕ) (inside : Option Inside) → Stands read at inside → at ≤ length read
stands_within read at None stands = stands
stands_within read at (Some i) stands = omega (arith, head_within read at stands.head)

consumes_nothing : (a : Option (List ℕ)) → Consumes a a []
consumes_nothing None = tt
consumes_nothing (Some xs) = refl

-- one batch more of what is read
night_on : (setup : SetupValue) (at : List ℕ) (text bytes more : List ℕ) (base cut : ℕ) (old : NightSoFar) (xs : List Extent)
    (index : IndexValue) (w : WritingValue) → base ≤ length text → bytes ≡ drop base text → cut ≤ length bytes
    → IsNightUpTo (text ++ more) setup at base old → ChainUpTo (bytes ++ more) 0 cut xs → IsIndex (take cut bytes) index
    → (written : IsBatchOf (take cut bytes) setup at base old index w)
    → IsNightUpTo (text ++ more) setup at (base + cut) (behind_batch base old index written.known w)
night_on setup at text bytes more base cut old xs index w within is fits so_far chain read written =
    let before : List ℕ = take base text in
    let batch : List ℕ = take cut bytes in
    let behind : List ℕ = drop cut bytes ++ more in
    let size : length before ≡ base = length-take-le base text within in
    let cut_is : length batch ≡ cut = length-take-le cut bytes fits in
    let rest : bytes ++ more ≡ batch ++ behind =
    ap (λ (l : List ℕ). l ++ more) (sym (take-append-drop cut bytes)) ∙ append_assoc batch (drop cut bytes) more in
    let whole : text ++ more ≡ before ++ (batch ++ behind) =
    ap (λ (t : List ℕ). t ++ more) (sym (take-append-drop base text)) ∙ append_assoc before (drop base text) more
    ∙ ap (λ (l : List ℕ). before ++ (l ++ more)) (sym is) ∙ ap (λ (l : List ℕ). before ++ l) rest in
    let here : IsNightUpTo (before ++ (batch ++ behind)) setup at (length before) old =
    subst (λ (k : ℕ). IsNightUpTo (before ++ (batch ++ behind)) setup at k old) (sym size)
    (subst (λ (t : List ℕ). IsNightUpTo t setup at base old) whole so_far) in
    let its_chain : ChainUpTo (batch ++ behind) 0 (length batch) xs =
    subst (λ (k : ℕ). ChainUpTo (batch ++ behind) 0 k xs) (sym cut_is) (subst (λ (t : List ℕ). ChainUpTo t 0 cut xs) rest chain) in
    let at_its_place : (its : IsBatchOf batch setup at (length before) old index w)
    → IsNightUpTo (before ++ (batch ++ behind)) setup at (length before + length batch)
    (behind_batch (length before) old index its.known w) =
    λ its. night_steps before batch behind setup at old (behind_batch (length before) old index its.known w) xs its_chain here
    (batch_shown batch setup at (length before) old index w its read) in
    let at_base : (its : IsBatchOf batch setup at base old index w)
    → IsNightUpTo (before ++ (batch ++ behind)) setup at (base + length batch) (behind_batch base old index its.known w) =
    subst (λ (k : ℕ). (its : IsBatchOf batch setup at k old index w)
    → IsNightUpTo (before ++ (batch ++ behind)) setup at (k + length batch) (behind_batch k old index its.known w)) size at_its_place in
    subst (λ (t : List ℕ). IsNightUpTo t setup at (base + cut) (behind_batch base old index written.known w)) (sym whole)
    (subst (λ (k : ℕ). IsNightUpTo (before ++ (batch ++ behind)) setup at (base + k) (behind_batch base old index written.known w)) cut_is
    (at_base written))

-- at the begin
pub read_first : (setup : SetupValue) (at : List ℕ) (first : Option (List ℕ)) (r : Reading) → HaveSeen r.carried.numbers []
    → r.carried.writing ≡ nothing_written setup → r.scout.at ≡ 0 → r.base ≡ 0 → Stands [] r.scout.at r.scout.inside
    → IsReadUpTo setup at first first (record { bytes = []; total = 0 }) r
read_first setup at first r seen nothing start base stands = record {
  text = [];
  consumed = consumes_nothing first;
  within = omega (arith, base);
  bytes = ap (λ (k : ℕ). drop k []) (sym base);
  total = refl;
  night = none_yet setup;
  writing = nothing;
  numbers = seen;
  up_to = λ more. subst (λ (k : ℕ). IsNightUpTo ([] ++ more) setup at k (none_yet setup)) (sym base) (night_starts ([] ++ more) setup at);
  stands = stands;
  start = start;
}

-- more is read
pub read_more : (setup : SetupValue) (at : List ℕ) (first now later : Option (List ℕ)) (old new : HeldValue) (r : Reading) (n : ℕ)
    → IsReadUpTo setup at first now old r → HasRead now later old new n → IsReadUpTo setup at first later new r
read_more setup at first now later old new r n is read = record {
  text = is.text ++ read.more;
  consumed = consumes_on first now later is.text read.more is.consumed read.consumed;
  within = omega (arith, is.within, length-append is.text read.more);
  bytes = read.bytes ∙ ap (λ (l : List ℕ). l ++ read.more) is.bytes ∙ sym (drop-append-le r.base is.text read.more is.within);
  total = (let t : new.total ≡ length (is.text ++ read.more) =
      omega (arith, read.total, is.total, read.count, length-append is.text read.more) in t);
  night = is.night;
  writing = is.writing;
  numbers = is.numbers;
  up_to = λ more. subst (λ (t : List ℕ). IsNightUpTo t setup at r.base is.night) (sym (append_assoc is.text read.more more))
      (is.up_to (read.more ++ more));
  stands = subst (λ (l : List ℕ). Stands l r.scout.at r.scout.inside) (sym read.bytes)
      (stands_on old.bytes read.more r.scout.at r.scout.inside is.stands);
  start = is.start;
}

-- what is held ends where what was read ends
pub held_length : (setup : SetupValue) (at : List ℕ) (first now : Option (List ℕ)) (held : HeldValue) (r : Reading)
    → IsReadUpTo setup at first now held r → r.base + length held.bytes ≡ held.total
held_length setup at first now held r is =
    let room : length held.bytes ≡ length is.text - r.base = ap (λ (l : List ℕ). length l) is.bytes ∙ length-drop r.base is.text in
    omega (arith, room, is.within, is.total)

-- what is carried can go on
pub can_go_on : (setup : SetupValue) (at : List ℕ) (first now : Option (List ℕ)) (held : HeldValue) (r : Reading)
    → IsReadUpTo setup at first now held r → CanGoOn setup at r.base r.carried.writing
can_go_on setup at first now held r is =
    let up = is.up_to [] in
    let few = few_up_to (is.text ++ []) r.base is.night.entries is.night.writing.outside up.index in
    let known : length is.night.known ≡ length (with_faults is.night.entries (settled_faults setup is.night.entries)) = up.answered.count in
    let entries : length (with_faults is.night.entries (settled_faults setup is.night.entries)) ≡ length is.night.entries =
    faulty_length is.night.entries (settled_faults setup is.night.entries) in
    subst (λ (w : WritingValue). CanGoOn setup at r.base w) (sym is.writing)
    (record {
      before = is.night.known;
      files = up.written.files;
      count = up.written.told.count ∙ length-map is.night.known (judged (is.text ++ []));
      boxes = up.written.boxes.count;
      few = omega (arith, known, entries, few.0);
      outside = few.1;
    })

-- the night so far, after a batch
pub night_behind : (setup : SetupValue) (at : List ℕ) (base : ℕ) (batch : List ℕ) (old new : Carried) (n : NightSoFar)
    → old.writing ≡ n.writing → HaveSeen old.numbers (kept_keys setup n.entries) → (worked : HasWorked batch setup at base old new)
    → IsBatchOf batch setup at base n worked.index new.writing
night_behind setup at base batch old new n writing seen worked =
    subst (λ (w : WritingValue). IsBatchWritten batch setup at base (with_faults worked.index.entries
    (faults_with setup (kept_keys setup n.entries) worked.index.entries)) worked.index.outside w new.writing) writing
    (worked.written (kept_keys setup n.entries) seen)

-- a batch is worked on, and its bytes are given up
pub read_batch : (setup : SetupValue) (at : List ℕ) (first now : Option (List ℕ)) (old new : HeldValue) (r next : Reading) (a : Advanced)
    → IsReadUpTo setup at first now old r → Advances old.bytes r.scout.at a
    → HasWorked (take a.scout.at old.bytes) setup at r.base r.carried next.carried
    → new.bytes ≡ drop a.scout.at old.bytes → new.total ≡ old.total → next.base ≡ r.base + a.scout.at → next.scout.at ≡ 0
    → Stands new.bytes 0 next.scout.inside → IsReadUpTo setup at first now new next
read_batch setup at first now old new r next a is advances worked bytes total base start stands =
    let cut : ℕ = a.scout.at in
    let fits : cut ≤ length old.bytes = stands_within old.bytes cut a.scout.inside advances.stands in
    let held : r.base + length old.bytes ≡ old.total = held_length setup at first now old r is in
    let written : IsBatchOf (take cut old.bytes) setup at r.base is.night worked.index next.carried.writing =
    night_behind setup at r.base (take cut old.bytes) r.carried next.carried is.night is.writing is.numbers worked in
    let night : NightSoFar = behind_batch r.base is.night worked.index written.known next.carried.writing in
    let chain : (more : List ℕ) → ChainUpTo (old.bytes ++ more) 0 cut advances.whole =
    λ more. subst (λ (k : ℕ). ChainUpTo (old.bytes ++ more) k cut advances.whole) is.start (advances.chain more) in
    record {
      text = is.text;
      consumed = is.consumed;
      within = omega (arith, base, fits, held, is.total);
      bytes = bytes ∙ ap (drop cut) is.bytes ∙ drop-drop cut r.base is.text ∙ ap (λ (k : ℕ). drop k is.text) (sym base);
      total = total ∙ is.total;
      night = night;
      writing = refl;
      numbers = subst (HaveSeen next.carried.numbers) (sym (keys_behind setup r.base is.night.entries worked.index.entries))
          (worked.seen (kept_keys setup is.night.entries) is.numbers);
      up_to = λ more. subst (λ (k : ℕ). IsNightUpTo (is.text ++ more) setup at k night) (sym base)
          (night_on setup at is.text old.bytes more r.base cut is.night advances.whole worked.index next.carried.writing is.within is.bytes
          fits (is.up_to more) (chain more) worked.read written);
      stands = subst (λ (k : ℕ). Stands new.bytes k next.scout.inside) (sym start) stands;
      start = start;
    }

-- after the last batch it can be closed
pub can_close : (setup : SetupValue) (at : List ℕ) (first now : Option (List ℕ)) (held : HeldValue) (r : Reading) (last : Carried)
    → IsReadUpTo setup at first now held r → HasWorked held.bytes setup at r.base r.carried last
    → (length last.writing.files ≡ length setup.partners) × (length last.writing.boxes ≡ length setup.partners)
can_close setup at first now held r last is worked =
    let written : IsBatchOf held.bytes setup at r.base is.night worked.index last.writing =
    night_behind setup at r.base held.bytes r.carried last is.night is.writing is.numbers worked in
    let up = is.up_to [] in
    ((written.files is.night.known up.written.files).count, written.boxes.count ∙ up.written.boxes.count)

all_told : (first now : Option (List ℕ)) (text : List ℕ) (P : List ℕ → Type 0) → Consumes first now text → IsAtEnd now → P text
    → IfSome first P
all_told None now text P consumed end holds = tt
all_told (Some xs) None text P consumed end holds = absurd consumed
all_told (Some xs) (Some ys) text P consumed end holds =
    subst P (sym (consumed ∙ ap (λ (l : List ℕ). text ++ l) end ∙ append-nil text)) holds

-- all of it
pub read_all : (setup : SetupValue) (at : List ℕ) (first now : Option (List ℕ)) (held : HeldValue) (r : Reading) (last : Carried)
    (night : Night) → held.total ≤ LONGEST_TEXT → IsReadUpTo setup at first now held r → IsAtEnd now
    → HasWorked held.bytes setup at r.base r.carried last → IsClosedBy setup at last.writing night
    → IsNightOfStream first setup at night
read_all setup at first now held r last night most is end worked by =
    let n : ℕ = length held.bytes in
    let all : take n held.bytes ≡ held.bytes = take_all n held.bytes (omega arith) in
    let sum : r.base + n ≡ held.total = held_length setup at first now held r is in
    let chain : ChainUpTo (held.bytes ++ []) 0 n (extents_of worked.index.entries) =
    subst (λ (t : List ℕ). ChainUpTo t 0 n (extents_of worked.index.entries)) (sym (append-nil held.bytes))
    (chain_up_to_end held.bytes 0 (extents_of worked.index.entries) (omega arith) worked.read.chain) in
    let written : IsBatchOf held.bytes setup at r.base is.night worked.index last.writing =
    night_behind setup at r.base held.bytes r.carried last is.night is.writing is.numbers worked in
    let behind : (its : IsBatchOf held.bytes setup at r.base is.night worked.index last.writing)
    → IsNightUpTo (is.text ++ []) setup at (r.base + n) (behind_batch r.base is.night worked.index its.known last.writing) =
    subst (λ (b : List ℕ). (its : IsBatchOf b setup at r.base is.night worked.index last.writing)
    → IsNightUpTo (is.text ++ []) setup at (r.base + n) (behind_batch r.base is.night worked.index its.known last.writing)) all
    (λ its. night_on setup at is.text held.bytes [] r.base n is.night (extents_of worked.index.entries) worked.index last.writing is.within
    is.bytes (omega arith) (is.up_to []) chain (subst (λ (t : List ℕ). IsIndex t worked.index) (sym all) worked.read) its) in
    let to : r.base + n ≡ length is.text = sum ∙ is.total in
    let whole : IsNightUpTo is.text setup at (length is.text) (behind_batch r.base is.night worked.index written.known last.writing) =
    subst (λ (k : ℕ). IsNightUpTo is.text setup at k (behind_batch r.base is.night worked.index written.known last.writing)) to
    (subst (λ (t : List ℕ). IsNightUpTo t setup at (r.base + n) (behind_batch r.base is.night worked.index written.known last.writing))
    (append-nil is.text) (behind written)) in
    let longest : held.total ≤ 4294967295 = most in
    record {
      text = is.text;
      told_all = all_told first now is.text (λ xs. xs ≡ is.text) is.consumed end refl;
      few = omega (arith, is.total, longest);
      is = closed is.text setup at (behind_batch r.base is.night worked.index written.known last.writing) night whole by;
    }

-- what was declared is what was read
pub not_too_long : (setup : SetupValue) (at : List ℕ) (first now : Option (List ℕ)) (held : HeldValue) (r : Reading) (most : ℕ)
    → IsReadUpTo setup at first now held r → IsAtEnd now → held.total ≤ most → IfSome first (λ xs. length xs ≤ most)
not_too_long setup at first now held r most is end few =
    all_told first now is.text (λ xs. length xs ≤ most) is.consumed end (omega (arith, is.total, few))

-- more is declared than there is room for
pub too_long : (setup : SetupValue) (at : List ℕ) (first now : Option (List ℕ)) (held : HeldValue) (r : Reading) (most : ℕ)
    → IsReadUpTo setup at first now held r → IfSome now (λ xs. most < held.total + length xs) → IfSome first (λ xs. most < length xs)
too_long setup at None now held r most is long = tt
too_long setup at (Some xs) None held r most is long = absurd is.consumed
too_long setup at (Some xs) (Some ys) held r most is long =
    let all : length xs ≡ length is.text + length ys =
    ap (λ (l : List ℕ). length l) is.consumed ∙ length-append is.text ys in
    omega (arith, all, is.total, long)
