-- What the layers say of a file that goes in is what the definition of a night says of it.
use Rattle.std.proofs.Common.{◌≡◌, ◌≢◌, ◌∙◌, ℕ, ◌+◌, ◌<◌, ◌≤◌, List, [], ◌∷◌, ◌++◌, true, inl, inr, Option, None, length, take, drop}
use Rattle.std.proofs.Common.{refl, sym, ap, subst, arith}
use Rattle.std.specs.Prelude.{◌↔◌}
use Rattle.std.proofs.lemmas.List.{append-nil, drop_at, length-append, length-take-le, take-append-drop}
use Rattle.x12_bytes.specs.Header.{header_at, header_delims}
use Rattle.x12_bytes.specs.HeaderTest.{is_head}
use Rattle.env_index.proofs.ForAbove.{head_within}
use Rattle.whole_interchanges.specs.Batches.{whole_end}
use Rattle.whole_interchanges.specs.Begun.{may_begin}
use Rattle.whole_interchanges.proofs.ForAbove.{header_past}
use Rattle.night_equal.proofs.ForAbove.{heads}
use Rattle.gather_files.specs.Gathered.{GoesUpTo}
use Rattle.gather_files.specs.Apart.{IsComplete}
use Rattle.gather_files.proofs.Alone.{alone_is_one, complete_is_one, count_is_one}
use Rattle.gather_files.proofs.Completing.{begun_is_one}
use Rattle.gather_files.proofs.Lacking.{lack_is_one}
use Rattle.gather_files.proofs.Past.{begun_past, head_past}
use Rattle.gather_files.proofs.Opening.{open_is_one}
use Rattle.gather_files.proofs.Past.{open_past}
use Rattle.gather_files.specs.Ends.{EndsInHeader, EndsOpen, EndsSo}
use Rattle.gather_files.specs.EndsByLayers.{EndsByLayers, EndsInHeaderByLayers, EndsOpenByLayers}
use Rattle.gather_files.specs.Gathering.{GoesIn, GoesInByLayers, IsTaken, IsTakenByLayers}
use Rattle.gather_files.specs.Lead.{body_of}
use Rattle.gather_files.specs.Trailer.{open_end}
use Rattle.gather_files.specs.declared.gather.End.{End}
use Rattle.gather_files.specs.declared.gather.End.TheVariants as end
use Rattle.gather_files.specs.declared.gather.Taken.{Taken}

-- bytes at whose end no interchange is open
complete_said : (closed : List ℕ) → GoesUpTo closed (length closed) → IsComplete closed
complete_said closed goes =
    (complete_is_one closed []).1 (subst (λ (l : List ℕ). GoesUpTo l (length closed)) (sym (append-nil closed)) goes)

complete_meant : (closed : List ℕ) → IsComplete closed → GoesUpTo closed (length closed)
complete_meant closed is = subst (λ (l : List ℕ). GoesUpTo l (length closed)) (append-nil closed) ((complete_is_one closed []).0 is)

-- an interchange that is open at the end, by its offset
record IsOpenAt (bytes : List ℕ) (at : ℕ) (e : End) : Type 0 where
  passes : GoesUpTo bytes at
  begins : is_head bytes at ≡ true
  unended : whole_end bytes at ≡ None
  is : e ≡ open_end (header_delims (header_at bytes at)) (drop at bytes)

-- what may begin a header there, by its offset
record IsBegunAt (bytes : List ℕ) (at : ℕ) : Type 0 where
  passes : GoesUpTo bytes at
  within : at < length bytes
  begun : may_begin bytes at ≡ true

some_size : (xs : List ℕ) → xs ≢ [] → 1 ≤ length xs
some_size [] some = absurd (some refl)
some_size (x ∷ xs) some = omega arith

module _ (before last : List ℕ) where
  abbrev by : ℕ
  by = length before

  abbrev all : List ℕ
  all = before ++ last

  header_front : header_at all by ≡ header_at last 0
  header_front = ap (header_at all) (let place : by ≡ by + 0 = omega arith in place) ∙ header_past before last 0

  open_same : open_end (header_delims (header_at all by)) (drop by all) ≡ open_end (header_delims (header_at last 0)) last
  open_same =
      ap (λ (h : List ℕ). open_end (header_delims h) (drop by all)) header_front
      ∙ ap (open_end (header_delims (header_at last 0))) (drop_at before last by refl)

  open_parts : (e : End) → IsOpenAt all by e → EndsOpen all e
  open_parts e o =
      let head = heads all by ∙ o.begins in
      record {
        before = before;
        last = last;
        are = refl;
        alone = (complete_is_one before last).1 o.passes;
        begins = sym (head_past before last last) ∙ head;
        is_open = (open_past before last).0 ((open_is_one all by head).1 o.unended);
        is = o.is ∙ open_same;
      }

  begun_parts : IsBegunAt all by → EndsInHeader all
  begun_parts b = record {
    before = before;
    last = last;
    are = refl;
    alone = (complete_is_one before last).1 b.passes;
    some = λ none. omega (arith, b.within, length-append before last, ap (λ (l : List ℕ). length l) none);
    may_begin = (begun_past before last).0 ((begun_is_one all by (omega (arith, b.within))).1 b.begun);
  }

module _ (bytes : List ℕ) (at : ℕ) (le : at ≤ length bytes) where
  whole : take at bytes ++ drop at bytes ≡ bytes
  whole = take-append-drop at bytes

  size : length (take at bytes) ≡ at
  size = length-take-le at bytes le

  open_divided : (e : End) → IsOpenAt bytes at e → EndsOpen bytes e
  open_divided e o =
      subst (λ (l : List ℕ). EndsOpen l e) whole (open_parts (take at bytes) (drop at bytes) e
      (subst (λ (n : ℕ). IsOpenAt (take at bytes ++ drop at bytes) n e) (sym size)
      (subst (λ (l : List ℕ). IsOpenAt l at e) (sym whole) o)))

  begun_divided : IsBegunAt bytes at → EndsInHeader bytes
  begun_divided b =
      subst EndsInHeader whole (begun_parts (take at bytes) (drop at bytes)
      (subst (λ (n : ℕ). IsBegunAt (take at bytes ++ drop at bytes) n) (sym size)
      (subst (λ (l : List ℕ). IsBegunAt l at) (sym whole) b)))

open_said : (bytes : List ℕ) (e : End) → EndsOpenByLayers bytes e → EndsOpen bytes e
open_said bytes e o =
    open_divided bytes o.at (omega (arith, head_within bytes o.at o.begins)) e
    (record { passes = o.passes; begins = o.begins; unended = o.unended; is = o.is })

header_said : (bytes : List ℕ) → EndsInHeaderByLayers bytes → EndsInHeader bytes
header_said bytes h =
    begun_divided bytes h.at (omega (arith, h.within)) (record { passes = h.passes; within = h.within; begun = h.begun })

open_meant : (bytes : List ℕ) (e : End) → EndsOpen bytes e → EndsOpenByLayers bytes e
open_meant bytes e o =
    let head = head_past o.before o.last o.last ∙ o.begins in
    subst (λ (l : List ℕ). EndsOpenByLayers l e) (sym o.are) (record {
      at = length o.before;
      passes = (complete_is_one o.before o.last).0 o.alone;
      begins = sym (heads (o.before ++ o.last) (length o.before)) ∙ head;
      unended = (open_is_one (o.before ++ o.last) (length o.before) head).0 ((open_past o.before o.last).1 o.is_open);
      is = o.is ∙ sym (open_same o.before o.last);
    })

header_meant : (bytes : List ℕ) → EndsInHeader bytes → EndsInHeaderByLayers bytes
header_meant bytes h =
    let long : length (h.before ++ h.last) ≡ length h.before + length h.last = length-append h.before h.last in
    subst EndsInHeaderByLayers (sym h.are) (record {
      at = length h.before;
      passes = (complete_is_one h.before h.last).0 h.alone;
      within = omega (arith, long, some_size h.last h.some);
      begun = (begun_is_one (h.before ++ h.last) (length h.before) (omega (arith, long))).0 ((begun_past h.before h.last).1 h.may_begin);
    })

ends_said : (file closed : List ℕ) (count : ℕ) (e : End) → EndsByLayers file closed count e → EndsSo file closed count e
ends_said file closed count end.Whole is = (is.0, complete_said closed is.1)
ends_said file closed count end.Mended is = (is.0, complete_said closed is.1)
ends_said file closed count end.CutOff is = open_said closed end.CutOff is
ends_said file closed count (end.OtherSeparator s) is = open_said closed (end.OtherSeparator s) is
ends_said file closed count end.CutInHeader (inl is) = inl (header_said file is)
ends_said file closed count end.CutInHeader (inr is) = inr (header_said closed is)

ends_meant : (file closed : List ℕ) (count : ℕ) (e : End) → EndsSo file closed count e → EndsByLayers file closed count e
ends_meant file closed count end.Whole is = (is.0, complete_meant closed is.1)
ends_meant file closed count end.Mended is = (is.0, complete_meant closed is.1)
ends_meant file closed count end.CutOff is = open_meant closed end.CutOff is
ends_meant file closed count (end.OtherSeparator s) is = open_meant closed (end.OtherSeparator s) is
ends_meant file closed count end.CutInHeader (inl is) = inl (header_meant file is)
ends_meant file closed count end.CutInHeader (inr is) = inr (header_meant closed is)

goes_in_said : (told : Option (List ℕ)) (closed : List ℕ) (taken : Taken) → GoesInByLayers told closed taken → GoesIn told closed taken
goes_in_said told closed taken g = record {
  file = g.file;
  told_all = g.told_all;
  count = g.count;
  few = g.few;
  closes = g.closes;
  len = g.len;
  begins = heads closed 0 ∙ g.begins;
  alone = (alone_is_one closed).1 g.keeps;
  interchanges = sym ((count_is_one closed taken.interchanges).1 g.holds).1;
  whole = g.whole;
  ends = ends_said (body_of g.file) closed g.count taken.end g.ends;
  lacks_nothing = λ lacks. g.apart ((lack_is_one (body_of g.file)).0 lacks);
}

goes_in_meant : (told : Option (List ℕ)) (closed : List ℕ) (taken : Taken) → GoesIn told closed taken → GoesInByLayers told closed taken
goes_in_meant told closed taken g = record {
  file = g.file;
  told_all = g.told_all;
  count = g.count;
  few = g.few;
  closes = g.closes;
  len = g.len;
  begins = sym (heads closed 0) ∙ g.begins;
  keeps = (alone_is_one closed).0 g.alone;
  holds = (count_is_one closed taken.interchanges).0 (g.alone, sym g.interchanges);
  whole = g.whole;
  ends = ends_meant (body_of g.file) closed g.count taken.end g.ends;
  apart = λ apart. g.lacks_nothing ((lack_is_one (body_of g.file)).1 apart);
}

pub goes_in_is_one : (told : Option (List ℕ)) (closed : List ℕ) (taken : Taken)
    → GoesIn told closed taken ↔ GoesInByLayers told closed taken
goes_in_is_one told closed taken = (goes_in_meant told closed taken, goes_in_said told closed taken)

pub taken_said : (told was is : Option (List ℕ)) (taken : Taken) → IsTakenByLayers told was is taken → IsTaken told was is taken
taken_said told was is taken t =
    record { closed = t.closed; goes_in = goes_in_said told t.closed taken t.goes_in; written = t.written }
