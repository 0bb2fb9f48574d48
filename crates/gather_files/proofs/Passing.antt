-- A file is passed on, window by window.
use Rattle.std.proofs.Common.{◌≡◌, ◌∙◌, ℕ, ◌+◌, ◌-◌, ◌<◌, ◌≤◌, List, ◌++◌, Option, Some, None}
use Rattle.std.proofs.Common.{length, take, drop, refl, sym, ap, subst, arith}
use Rattle.std.specs.Io.KnownBytes.{Appends}
use Rattle.std.proofs.lemmas.List.{append_assoc, drop-take, length-append, length-drop, length-take-le, take-append-drop}
use Rattle.std.proofs.lemmas.List.{take-append-le, take-take, take_all, take_at}
use Rattle.std.specs.List.{suffix_len}
use Rattle.x12_bytes.specs.Header.{header_at, terminator_of}
use Rattle.x12_bytes.specs.HeaderTest.{is_head}
use Rattle.env_index.proofs.ForAbove.{head_within}
use Rattle.whole_interchanges.specs.Batches.{ChainUpTo}
use Rattle.whole_interchanges.proofs.ForAbove.{head_more, header_kept}
use Rattle.whole_interchanges.proofs.ForAbove.{stands_on}
use Rattle.whole_interchanges.specs.Scouting.{Advances, Stands}
use Rattle.whole_interchanges.specs.declared.scout.Advanced.{Advanced}
use Rattle.whole_interchanges.specs.declared.scout.Inside.{Inside}
use Rattle.stream_read.specs.Held.{HasRead, HeldValue}
use Rattle.stream_read.proofs.ForAbove.{consumes_on}
use Rattle.gather_files.specs.Gathered.{IsWholeBefore, PassesInterchanges}
use Rattle.gather_files.proofs.Parts.{gives_up, reads_on}
use Rattle.gather_files.specs.Gathering.{IsPassed, is_end, kept_of}
use Rattle.gather_files.specs.Lead.{led}
use Rattle.gather_files.specs.declared.gather.Passing.{Passing}
use Rattle.gather_files.proofs.Leading.{led_kept}

pub writes_on : (a b c : Option (List ℕ)) (xs ys : List ℕ) → Appends a b xs → Appends b c ys → Appends a c (xs ++ ys)
writes_on None b c xs ys first second = tt
writes_on (Some old) None c xs ys first second = absurd first
writes_on (Some old) (Some mid) None xs ys first second = absurd second
writes_on (Some old) (Some mid) (Some new) xs ys first second =
    second ∙ ap (λ (l : List ℕ). l ++ ys) first ∙ append_assoc old xs ys

-- more of what is held is looked at
kept_more : (held : List ℕ) (few many : ℕ) → few ≤ many → take many held ≡ take few held ++ drop few (take many held)
kept_more held few many le =
    sym (take-append-drop few (take many held)) ∙ ap (λ (l : List ℕ). l ++ drop few (take many held)) (take-take few many held le)

-- what stands at the front of what was looked at stands there when more is
pub stands_now : (first now was is : Option (List ℕ)) (held : HeldValue) (p : Passing) (many : ℕ) → p.seen - p.ends ≤ many
    → IsPassed first now was is held p → Stands (take many held.bytes) p.scout.at p.scout.inside
stands_now first now was is held p many le passed =
    subst (λ (l : List ℕ). Stands l p.scout.at p.scout.inside) (sym (kept_more held.bytes (p.seen - p.ends) many le))
    (stands_on (take (p.seen - p.ends) held.bytes) (drop (p.seen - p.ends) (take many held.bytes)) p.scout.at p.scout.inside
    (subst (λ (k : ℕ). Stands (take (p.seen - p.ends) held.bytes) k p.scout.inside) (sym passed.start) passed.stands))

-- and what was written is whole before it
pub whole_now : (first now was is : Option (List ℕ)) (held : HeldValue) (p : Passing) (many : ℕ) → p.seen - p.ends ≤ many
    → (passed : IsPassed first now was is held p) → IsWholeBefore passed.front (take many held.bytes) p.interchanges
whole_now first now was is held p many le passed =
    subst (λ (l : List ℕ). IsWholeBefore passed.front l p.interchanges) (sym (kept_more held.bytes (p.seen - p.ends) many le))
    (reads_on passed.front (take (p.seen - p.ends) held.bytes) (drop (p.seen - p.ends) (take many held.bytes)) p.interchanges passed.whole)

stands_within : (read : List ℕ) (at : ℕ) (inside : Option Inside) → Stands read at inside → at ≤ length read
stands_within read at None stands = stands
stands_within read at (Some i) stands = omega (arith, head_within read at stands.head)

-- the interchanges that are whole are written and given up
pub passed_on : (first now was mid is : Option (List ℕ)) (old new : HeldValue) (p q : Passing) (a : Advanced)
    → q.ends ≤ length old.bytes → p.seen - p.ends ≤ length old.bytes - q.ends
    → ((before : List ℕ) → suffix_len is_end (before ++ take p.seen old.bytes) ≡ p.ends → suffix_len is_end (before ++ old.bytes) ≡ q.ends)
    → Advances (take (length old.bytes - q.ends) old.bytes) p.scout.at a → Appends mid is (take a.scout.at old.bytes)
    → new.bytes ≡ drop a.scout.at old.bytes → new.total ≡ old.total → q.scout.at ≡ 0
    → Stands (drop a.scout.at (take (length old.bytes - q.ends) old.bytes)) 0 q.scout.inside → q.written ≡ p.written + a.scout.at
    → q.seen ≡ length new.bytes → q.interchanges ≡ p.interchanges + a.count → q.terminator ≡ p.terminator
    → IsPassed first now was mid old p
    → IsPassed first now was is new q
passed_on first now was mid is old new p q a few grows ends advances wrote given total start stands size seen counted named passed =
    let held : List ℕ = old.bytes in
    let m : ℕ = length held - q.ends in
    let at : ℕ = a.scout.at in
    let kept : List ℕ = take m held in
    let kept_size : length kept ≡ m = length-take-le m held (omega arith) in
    let within : at ≤ m = omega (arith, stands_within kept at a.scout.inside advances.stands, kept_size) in
    let passes : PassesInterchanges kept at a.count = λ more. (
      advances.whole,
      subst (λ (k : ℕ). ChainUpTo (kept ++ more) k at advances.whole) passed.start
          (advances.chain more),
      sym advances.count,
    ) in
    let gone : take at kept ≡ take at held = take-take at m held within in
    let new_size : length new.bytes ≡ length held - at = ap (λ (l : List ℕ). length l) given ∙ length-drop at held in
    let left : q.seen - q.ends ≡ m - at = omega (arith, seen, new_size, few) in
    let sum : at + (m - at) ≡ m = omega (arith, within) in
    let behind : drop at kept ≡ kept_of new.bytes q =
    ap (λ (k : ℕ). drop at (take k held)) (sym sum) ∙ drop-take at (m - at) held
    ∙ ap (λ (k : ℕ). take k (drop at held)) (sym left) ∙ ap (λ (l : List ℕ). take (q.seen - q.ends) l) (sym given) in
    let whole = gives_up passed.front kept at p.interchanges a.count (omega (arith, within, kept_size))
    (whole_now first now was mid old p m grows passed) passes in
    record {
      file = passed.file;
      consumed = passed.consumed;
      total = total ∙ passed.total;
      front = passed.front ++ take at held;
      led_is = passed.led_is ∙ ap (λ (l : List ℕ). passed.front ++ l) (sym (take-append-drop at held))
          ∙ sym (append_assoc passed.front (take at held) (drop at held))
          ∙ ap (λ (l : List ℕ). (passed.front ++ take at held) ++ l) (sym given);
      begins = passed.begins;
      written = writes_on was mid is passed.front (take at held) passed.written wrote;
      size = (let n : q.written ≡ length (passed.front ++ take at held) =
          omega (
            arith,
            size,
            passed.size,
            length-append passed.front (take at held),
            length-take-le at held (omega (arith, within)),
          ) in n);
      few_written = omega (arith, size, counted, advances.few, passed.few_written);
      seen = omega (arith, seen);
      few = omega (arith, seen, new_size, few, within);
      ends = ap (λ (l : List ℕ). suffix_len is_end ((passed.front ++ take at held) ++ l))
          (take_all q.seen new.bytes (omega (arith, seen)) ∙ given)
          ∙ ap (λ (l : List ℕ). suffix_len is_end l) (append_assoc passed.front (take at held) (drop at held)
          ∙ ap (λ (l : List ℕ). passed.front ++ l) (take-append-drop at held))
          ∙ ends passed.front passed.ends;
      terminator = named ∙ passed.terminator;
      whole = subst (λ (k : ℕ). IsWholeBefore (passed.front ++ take at held) (kept_of new.bytes q) k) (sym counted)
          (subst (λ (l : List ℕ). IsWholeBefore (passed.front ++ l) (kept_of new.bytes q) (p.interchanges + a.count)) gone
          (subst (λ (l : List ℕ). IsWholeBefore (passed.front ++ take at kept) l (p.interchanges + a.count)) behind whole));
      start = start;
      stands = subst (λ (l : List ℕ). Stands l 0 q.scout.inside) behind stands;
    }

-- more is read
pub passed_more : (first now later was is : Option (List ℕ)) (old new : HeldValue) (p : Passing) (n : ℕ)
    → IsPassed first now was is old p → HasRead now later old new n → IsPassed first later was is new p
passed_more first now later was is old new p n passed read =
    let k : ℕ = p.seen - p.ends in
    let low : k ≤ length old.bytes = omega (arith, passed.seen) in
    let some : 0 < length (led passed.file) = omega (arith, head_within (led passed.file) 0 passed.begins) in
    let kept : kept_of new.bytes p ≡ kept_of old.bytes p =
    ap (λ (l : List ℕ). take k l) read.bytes ∙ take-append-le k old.bytes read.more low in
    let seen : take p.seen new.bytes ≡ take p.seen old.bytes =
    ap (λ (l : List ℕ). take p.seen l) read.bytes ∙ take-append-le p.seen old.bytes read.more passed.seen in
    let longer : led (passed.file ++ read.more) ≡ led passed.file ++ read.more = led_kept passed.file read.more some in
    let c : ℕ = length (led passed.file) in
    let size : length new.bytes ≡ length old.bytes + length read.more =
    ap (λ (l : List ℕ). length l) read.bytes ∙ length-append old.bytes read.more in
    record {
      file = passed.file ++ read.more;
      consumed = consumes_on first now later passed.file read.more passed.consumed read.consumed;
      total = (let t : new.total ≡ length (passed.file ++ read.more) =
          omega (arith, read.total, passed.total, read.count, length-append passed.file read.more) in t);
      front = passed.front;
      led_is = longer ∙ ap (λ (l : List ℕ). l ++ read.more) passed.led_is ∙ append_assoc passed.front old.bytes read.more
          ∙ ap (λ (l : List ℕ). passed.front ++ l) (sym read.bytes);
      begins = ap (λ (l : List ℕ). is_head l 0) longer
          ∙ head_more (led passed.file ++ read.more) c (omega (arith, length-append (led passed.file) read.more)) 0
          (ap (λ (l : List ℕ). is_head l 0) (take_at (led passed.file) read.more c refl) ∙ passed.begins);
      written = passed.written;
      size = passed.size;
      few_written = passed.few_written;
      seen = omega (arith, passed.seen, size);
      few = passed.few;
      ends = ap (λ (l : List ℕ). suffix_len is_end (passed.front ++ l)) seen ∙ passed.ends;
      terminator = passed.terminator
          ∙ ap terminator_of (ap (λ (l : List ℕ). header_at l 0) (sym (take_at (led passed.file) read.more c refl))
          ∙ header_kept (led passed.file ++ read.more) c (omega (arith, length-append (led passed.file) read.more)) 0
          (omega (arith, head_within (led passed.file) 0 passed.begins)) ∙ ap (λ (l : List ℕ). header_at l 0) (sym longer));
      whole = subst (λ (l : List ℕ). IsWholeBefore passed.front l p.interchanges) (sym kept) passed.whole;
      start = passed.start;
      stands = subst (λ (l : List ℕ). Stands l 0 p.scout.inside) (sym kept) passed.stands;
    }
