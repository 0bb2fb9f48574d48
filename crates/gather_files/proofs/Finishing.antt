-- A file is closed at its end.
use Rattle.std.proofs.Common.{◌≡◌, ◌∙◌, ℕ, ◌+◌, ◌-◌, ◌≤◌, ◌⊎◌, List, [], ◌∷◌, ◌++◌, true, inl, inr, Option, Some, None, IfSome}
use Rattle.std.proofs.Common.{length, take, drop, refl, sym, ap, subst, arith}
use Rattle.std.specs.List.{All, suffix_len}
use Rattle.std.specs.Io.KnownBytes.{Appends, Consumes, IsAtEnd}
use Rattle.std.proofs.lemmas.List.{append_assoc, append-nil, length-append, length-take-le, take-append-drop, take-take, take_at}
use Rattle.std.proofs.lemmas.List.Elements.{All-cons, All-head, All-nil, All-tail}
use Rattle.x12_bytes.specs.Bytes.{is_line_end}
use Rattle.x12_bytes.specs.Header.{terminator_of}
use Rattle.x12_bytes.specs.HeaderTest.{is_head}
use Rattle.env_index.proofs.ForAbove.{head_within}
use Rattle.whole_interchanges.proofs.ForAbove.{head_kept, head_more, header_past}
use Rattle.gather_files.proofs.Onward.{head_moved}
use Rattle.stream_read.specs.Held.{HeldValue}
use Rattle.gather_files.specs.Gathered.{HoldsInterchanges, IsWholeBefore, StandsApart}
use Rattle.gather_files.proofs.Parts.{holds_on, keeps, reads_on}
use Rattle.gather_files.specs.Closing.{IsClosedSo, IsOwnTerminator, PutsBehind, PutsInPlace, StaysApart}
use Rattle.gather_files.specs.EndsByLayers.{EndsByLayers}
use Rattle.gather_files.specs.Gathering.{AreEnds, IsPassed, IsTakenByLayers}
use Rattle.gather_files.specs.Lead.{body_of, led, pads, unpadded}
use Rattle.gather_files.specs.declared.closing.Closed.{Closed}
use Rattle.gather_files.specs.declared.gather.Passing.{Passing}
use Rattle.gather_files.proofs.Behind.{IsPut}
use Rattle.gather_files.proofs.Ends.{last_are_ends}
use Rattle.gather_files.proofs.EndsOn.{ends_on}
use Rattle.gather_files.proofs.Padding.{header_stays, not_looked, unpadded_past}
use Rattle.gather_files.proofs.Passing.{whole_now, writes_on}
use Rattle.gather_files.proofs.Untouched.{held_apart}

-- what is put after a file is put after it where other bytes stand before
own_past : (front file : List ℕ) (b : ℕ) → IsOwnTerminator file b → IsOwnTerminator (front ++ file) b
own_past front file b (start, head, is) =
    (length front + start, head_moved front file start ∙ head, is ∙ ap terminator_of (sym (header_past front file start)))

put_past : (front file : List ℕ) (b : ℕ) → IsPut file b → IsPut (front ++ file) b
put_past front file b (inl space) = inl space
put_past front file b (inr own) = inr (own_past front file b own)

all_past : (front file xs : List ℕ) → All (IsPut file) xs → All (IsPut (front ++ file)) xs
all_past front file [] all = All-nil (IsPut (front ++ file))
all_past front file (x ∷ xs) all =
    All-cons (IsPut (front ++ file)) x xs (put_past front file x (All-head (IsPut file) x xs all))
    (all_past front file xs (All-tail (IsPut file) x xs all))

puts_past : (front old new : List ℕ) (n : ℕ) → PutsBehind old new n → PutsBehind (front ++ old) (front ++ new) n
puts_past front old new n puts = record {
  rest = puts.rest;
  is = ap (λ (l : List ℕ). front ++ l) puts.is ∙ sym (append_assoc front old puts.rest);
  few = puts.few;
  own = all_past front new puts.rest puts.own;
}

-- what stays of what is held, and what is put after it
record Stays (front held closed : List ℕ) (count n : ℕ) : Type 0 where
  kept : List ℕ
  ends : List ℕ
  is : held ≡ kept ++ ends
  are : AreEnds ends
  puts : PutsBehind kept closed count
  untouched : count ≡ 0 → ends ≡ []
  whole : IsWholeBefore front kept n
  header : (106 ≤ length kept) ⊎ (ends ≡ [])

module _ (first now was mid : Option (List ℕ)) (held : HeldValue) (p : Passing) (passed : IsPassed first now was mid held p)
    (closed : List ℕ) (count : ℕ) where
  abbrev size : ℕ
  size = length held.bytes - suffix_len (pads p.terminator) held.bytes

  abbrev body : List ℕ
  body = unpadded p.terminator held.bytes

  abbrev at : ℕ
  at = length body - suffix_len is_line_end body

  body_size : length body ≡ size
  body_size = length-take-le size held.bytes (omega arith)

  grows : p.seen - p.ends ≤ at
  grows = not_looked passed.front held.bytes p.seen p.ends passed.seen passed.few passed.ends p.terminator

  all_whole : IsWholeBefore passed.front body p.interchanges
  all_whole = whole_now first now was mid held p size (omega (arith, grows, body_size)) passed

  as_it_is : PutsBehind body closed count → Stays passed.front body closed count p.interchanges
  as_it_is puts = record {
    kept = body;
    ends = [];
    is = sym (append-nil body);
    are = All-nil (λ (b : ℕ). is_line_end b ≡ true);
    puts = puts;
    untouched = λ _. refl;
    whole = all_whole;
    header = inr refl;
  }

  in_place : PutsInPlace (take at body) closed count → Stays passed.front body closed count p.interchanges
  in_place puts = record {
    kept = take at body;
    ends = drop at body;
    is = sym (take-append-drop at body);
    are = last_are_ends body;
    puts = puts.puts;
    untouched = λ none. absurd (omega (arith, none, puts.some));
    whole = subst (λ (l : List ℕ). IsWholeBefore passed.front l p.interchanges)
        (sym (take-take at size held.bytes (omega (arith, body_size)))) (whole_now first now was mid held p at grows passed);
    header = inl puts.header;
  }

  stays : PutsBehind body closed count ⊎ PutsInPlace (take at body) closed count
      → Stays passed.front body closed count p.interchanges
  stays (inl puts) = as_it_is puts
  stays (inr puts) = in_place puts

-- it begins with the header that it began with
begins_so : (file front kept ends closed : List ℕ) (puts : List ℕ) → is_head file 0 ≡ true → file ≡ (front ++ kept) ++ ends
    → (106 ≤ length kept) ⊎ (ends ≡ []) → closed ≡ kept ++ puts → is_head (front ++ closed) 0 ≡ true
begins_so file front kept ends closed puts head is room put =
    let body : List ℕ = front ++ kept in
    let c : ℕ = length body in
    let size : length file ≡ c + length ends = ap (λ (l : List ℕ). length l) is ∙ length-append body ends in
    let fits : 106 ≤ c = elim room [
      | inl le ↦ omega (arith, le, length-append front kept)
      | inr none ↦ omega (arith, head_within file 0 head, size, ap (λ (l : List ℕ). length l) none)
    ] in
    let here : is_head body 0 ≡ true =
    ap (λ (l : List ℕ). is_head l 0) (sym (take_at body ends c refl))
    ∙ head_kept (body ++ ends) c (omega (arith, length-append body ends)) 0 (omega (arith, fits))
    ∙ ap (λ (l : List ℕ). is_head l 0) (sym is) ∙ head in
    ap (λ (l : List ℕ). is_head l 0) (ap (λ (l : List ℕ). front ++ l) put ∙ sym (append_assoc front kept puts))
    ∙ head_more (body ++ puts) c (omega (arith, length-append body puts)) 0
    (ap (λ (l : List ℕ). is_head l 0) (take_at body puts c refl) ∙ here)

nothing_left : (xs : List ℕ) → length xs ≡ 0 → xs ≡ []
nothing_left [] is = refl
nothing_left (x ∷ xs) is = absurd (omega (arith, is))

all_told : (first now : Option (List ℕ)) (text : List ℕ) → Consumes first now text → IsAtEnd now → IfSome first (λ xs. xs ≡ text)
all_told None now text consumed end = tt
all_told (Some xs) None text consumed end = absurd consumed
all_told (Some xs) (Some ys) text consumed end = consumed ∙ ap (λ (l : List ℕ). text ++ l) end ∙ append-nil text

abbrev pub body_at : List ℕ → ℕ
body_at body = length body - suffix_len is_line_end body

pub finished : (first now was mid is : Option (List ℕ)) (held : HeldValue) (p : Passing) (c : Closed)
    → (passed : IsPassed first now was mid held p) → IsAtEnd now
    → IsClosedSo (unpadded p.terminator held.bytes) (take (body_at (unpadded p.terminator held.bytes)) (unpadded p.terminator held.bytes)) c
    → StaysApart (unpadded p.terminator held.bytes) c → Appends mid is c.bytes.items
    → IsTakenByLayers first was is
    (record { interchanges = p.interchanges + c.interchanges; len = p.written + length c.bytes.items; end = c.end })
finished first now was mid is held p c passed at_end so stays_apart wrote =
    let closed : List ℕ = c.bytes.items in
    let front : List ℕ = passed.front in
    let t : ℕ = p.terminator in
    let body : List ℕ = unpadded t held.bytes in
    let s : Stays front body closed c.count p.interchanges = stays first now was mid held p passed closed c.count so.puts in
    let before : IsWholeBefore front body p.interchanges = all_whole first now was mid held p passed closed c.count in
    let file : List ℕ = body_of passed.file in
    let body_is : file ≡ front ++ body =
    ap (λ (k : ℕ). unpadded k (led passed.file)) (sym passed.terminator) ∙ ap (unpadded t) passed.led_is
    ∙ unpadded_past front held.bytes p.seen p.ends passed.seen passed.few passed.ends t in
    let divided : file ≡ (front ++ s.kept) ++ s.ends =
    body_is ∙ ap (λ (l : List ℕ). front ++ l) s.is ∙ sym (append_assoc front s.kept s.ends) in
    let whole : IsWholeBefore front closed p.interchanges =
    subst (λ (l : List ℕ). IsWholeBefore front l p.interchanges) (sym s.puts.is)
    (reads_on front s.kept s.puts.rest p.interchanges s.whole) in
    let holds : HoldsInterchanges (front ++ closed) (p.interchanges + c.interchanges) =
    holds_on front closed p.interchanges c.interchanges whole so.holds in
    let as_it_was : (c.count ≡ 0 → front ++ closed ≡ file) = λ none. (
    let same : closed ≡ body =
    s.puts.is ∙ ap (λ (l : List ℕ). s.kept ++ l) (nothing_left s.puts.rest (s.puts.few ∙ none)) ∙ append-nil s.kept
    ∙ sym (append-nil s.kept) ∙ ap (λ (l : List ℕ). s.kept ++ l) (sym (s.untouched none)) ∙ sym s.is in
    ap (λ (l : List ℕ). front ++ l) same ∙ sym body_is) in
    record {
      closed = front ++ closed;
      goes_in = record {
        file = passed.file;
        told_all = all_told first now passed.file passed.consumed at_end;
        count = c.count;
        few = so.few;
        closes = record {
          kept = front ++ s.kept;
          ends = s.ends;
          file_is = divided;
          line_ends = s.are;
          puts = puts_past front s.kept closed c.count s.puts;
          untouched = s.untouched;
        };
        len = (let n : p.written + length closed ≡ length (front ++ closed) =
            omega (arith, passed.size, length-append front closed) in n);
        begins = begins_so file front s.kept s.ends closed s.puts.rest (header_stays (led passed.file) passed.begins) divided
            s.header s.puts.is;
        keeps = keeps (front ++ closed) (p.interchanges + c.interchanges) holds;
        holds = holds;
        whole = λ w. as_it_was (so.whole w);
        ends = subst (λ (l : List ℕ). EndsByLayers l (front ++ closed) c.count c.end) (sym body_is)
            (ends_on front body closed p.interchanges c.count c.end before whole so.ends);
        apart = λ a. (let own = stays_apart (held_apart front body p.interchanges before (subst StandsApart body_is a)) in
            (as_it_was own.0, own.1));
      };
      written = writes_on was mid is front closed passed.written wrote;
    }
