-- One file more is gathered.
use Rattle.std.proofs.Common.{◌≡◌, ◌∙◌, ℕ, ◌+◌, List, [], ◌∷◌, ◌++◌, ◌-◌, Option, Some, None, length, take}
use Rattle.std.proofs.Common.{map, inl, inr, refl, sym, ap, ap₂, subst, arith}
use Rattle.std.specs.List.{All, flat_map}
use Rattle.std.specs.Io.KnownBytes.{Appends}
use Rattle.std.proofs.lemmas.List.{append_assoc, append-nil, length-append, map-append, take_at}
use Rattle.std.proofs.lemmas.List.Elements.{All-append, All-cons, All-head, All-nil, All-tail}
use Rattle.night_definition.specs.Interchanges.{text_of}
use Rattle.gather_files.specs.Apart.{MayComeAfter, StandsAlone, text_of_files}
use Rattle.gather_files.proofs.ForAbove.{files_are_read, nothing_alone}
use Rattle.gather_files.specs.Gathering.{GoesIn, IsGathered}
use Rattle.gather_files.specs.declared.cause.Cause.{Cause}
use Rattle.gather_files.specs.declared.gather.Gathered.{Gathered}
use Rattle.gather_files.specs.declared.gather.Gathered.TheVariants as gathered
use Rattle.gather_files.specs.declared.gather.Taken.{Taken}
use Rattle.system_io.proofs.ForAbove.{writes_on}
use Rattle.gather_command.specs.Lines.{line_of_file}
use Rattle.gather_command.specs.Members.{AddsFile, AreGathered, PutsFile, IsMember, IsOutcome, Member, bytes_of, lines_of, no_total}
use Rattle.gather_command.specs.Members.{total_from, total_with}
use Rattle.gather_command.specs.Part.{TakesBack}
use Rattle.gather_command.specs.declared.outcome.Outcome.{Outcome}
use Rattle.gather_command.specs.declared.outcome.Outcome.TheVariants as outcome
use Rattle.gather_command.specs.declared.total.Total.{Total}

nothing_written : (a : Option (List ℕ)) → Appends a a []
nothing_written None = tt
nothing_written (Some xs) = sym (append-nil xs)

bytes_on : (ms : List Member) (m : Member) → bytes_of (ms ++ m ∷ []) ≡ bytes_of ms ++ m.closed
bytes_on [] m = append-nil m.closed
bytes_on (x ∷ ms) m = ap (λ (l : List ℕ). x.closed ++ l) (bytes_on ms m) ∙ sym (append_assoc x.closed (bytes_of ms) m.closed)

lines_on : (before : ℕ) (ms : List Member) (m : Member)
    → lines_of before (ms ++ m ∷ []) ≡ lines_of before ms ++ line_of_file m.path m.outcome (before + length (bytes_of ms))
lines_on before [] m =
    append-nil (line_of_file m.path m.outcome before)
    ∙ ap (λ (k : ℕ). line_of_file m.path m.outcome k) (let k : before ≡ before + 0 = omega arith in k)
lines_on before (x ∷ ms) m =
    let line : List ℕ = line_of_file x.path x.outcome before in
    let place : before + length x.closed + length (bytes_of ms) ≡ before + length (x.closed ++ bytes_of ms) =
    omega (arith, length-append x.closed (bytes_of ms)) in
    ap (λ (l : List ℕ). line ++ l) (lines_on (before + length x.closed) ms m
    ∙ ap (λ (k : ℕ). lines_of (before + length x.closed) ms ++ line_of_file m.path m.outcome k) place)
    ∙ sym (append_assoc line (lines_of (before + length x.closed) ms)
    (line_of_file m.path m.outcome (before + length (x.closed ++ bytes_of ms))))

total_on : (t : Total) (ms : List Member) (m : Member) → total_from t (ms ++ m ∷ []) ≡ total_with m.outcome (total_from t ms)
total_on t [] m = refl
total_on t (x ∷ ms) m = total_on (total_with x.outcome t) ms m

nothing_more : (closed : List ℕ) (t : Total) → closed ≡ [] → t.bytes ≡ t.bytes + length closed
nothing_more closed t is = omega (arith, ap (λ (l : List ℕ). length l) is)

more_bytes : (o : Outcome) (file closed : List ℕ) (t : Total) → IsOutcome o file closed
    → (total_with o t).bytes ≡ t.bytes + length closed
more_bytes (outcome.Read (gathered.Taken taken)) file closed t is = ap (λ (n : ℕ). t.bytes + n) is.len
more_bytes (outcome.Read (gathered.SetAside cause)) file closed t is = nothing_more closed t is.2
more_bytes outcome.Changed file closed t is = nothing_more closed t is
more_bytes outcome.NameNotUtf8 file closed t is = nothing_more closed t is

-- a file of which nothing goes in stands alone, and may come after others
nothing_goes : (closed : List ℕ) → closed ≡ [] → StandsAlone closed × MayComeAfter closed
nothing_goes closed none = (subst StandsAlone (sym none) nothing_alone, inl none)

member_alone : (o : Outcome) (file closed : List ℕ) → IsOutcome o file closed → StandsAlone closed × MayComeAfter closed
member_alone (outcome.Read (gathered.Taken taken)) file closed is = (is.alone, inr is.begins)
member_alone (outcome.Read (gathered.SetAside cause)) file closed is = nothing_goes closed is.2
member_alone outcome.Changed file closed is = nothing_goes closed is
member_alone outcome.NameNotUtf8 file closed is = nothing_goes closed is

abbrev closed_of : List Member → List (List ℕ)
closed_of ms = map (λ m. m.closed) ms

each_alone : (ms : List Member) → All IsMember ms → All StandsAlone (closed_of ms)
each_alone [] each = All-nil StandsAlone
each_alone (m ∷ ms) each =
    All-cons StandsAlone m.closed (closed_of ms) (member_alone m.outcome m.file m.closed (All-head IsMember m ms each)).0
    (each_alone ms (All-tail IsMember m ms each))

each_comes : (ms : List Member) → All IsMember ms → All MayComeAfter (closed_of ms)
each_comes [] each = All-nil MayComeAfter
each_comes (m ∷ ms) each =
    All-cons MayComeAfter m.closed (closed_of ms) (member_alone m.outcome m.file m.closed (All-head IsMember m ms each)).1
    (each_comes ms (All-tail IsMember m ms each))

in_a_row : (ms : List Member) → bytes_of ms ≡ flat_map (λ (file : List ℕ). file) (closed_of ms)
in_a_row [] = refl
in_a_row (m ∷ ms) = ap (λ (l : List ℕ). m.closed ++ l) (in_a_row ms)

-- what goes in of all is read as each alone
read_each : (ms : List Member) → All IsMember ms → text_of (bytes_of ms) ≡ text_of_files (closed_of ms)
read_each ms each = ap text_of (in_a_row ms) ∙ files_are_read (closed_of ms) (each_alone ms each) (each_comes ms each)

pub none_gathered : (was : Option (List ℕ)) → AreGathered [] was was [] no_total
none_gathered was = record {
  members = [];
  named = refl;
  each = All-nil IsMember;
  written = nothing_written was;
  read = refl;
  lines_are = refl;
  total_is = refl;
  bytes = refl;
}

pub one_gathered : (paths : List (List ℕ)) (was mid is : Option (List ℕ)) (lines : List ℕ) (total : Total) (path : List ℕ)
    (g : Outcome) (declared : Option (List ℕ)) → AreGathered paths was mid lines total → AddsFile declared mid is g
    → AreGathered (paths ++ path ∷ []) was is (lines ++ line_of_file path g total.bytes) (total_with g total)
one_gathered paths was mid is lines total path g declared so_far adds =
    let ms : List Member = so_far.members in
    let closed : List ℕ = adds.closed in
    let m : Member = record { path = path; outcome = g; file = adds.file; closed = closed } in
    let longer : bytes_of (ms ++ m ∷ []) ≡ bytes_of ms ++ closed = bytes_on ms m in
    let all : All IsMember (ms ++ m ∷ []) =
    All-append IsMember ms (m ∷ []) so_far.each (All-cons IsMember m [] adds.outcome (All-nil IsMember)) in
    record {
      members = ms ++ m ∷ [];
      named = map-append (λ (x : Member). x.path) ms (m ∷ []) ∙ ap (λ (l : List (List ℕ)). l ++ path ∷ []) so_far.named;
      each = all;
      written = subst (Appends was is) (sym longer) (writes_on was mid is (bytes_of ms) closed so_far.written adds.written);
      read = read_each (ms ++ m ∷ []) all;
      lines_are = ap₂ (λ (l : List ℕ) (k : ℕ). l ++ line_of_file path g k) so_far.lines_are
          (let k : total.bytes ≡ 0 + length (bytes_of ms) = omega (arith, so_far.bytes) in k) ∙ sym (lines_on 0 ms m);
      total_is = ap (total_with g) so_far.total_is ∙ sym (total_on no_total ms m);
      bytes = more_bytes g adds.file closed total adds.outcome ∙ ap (λ (n : ℕ). n + length closed) so_far.bytes
          ∙ sym (length-append (bytes_of ms) closed) ∙ ap (λ (l : List ℕ). length l) (sym longer);
    }

-- what was read of one file
puts_file : (declared was is : Option (List ℕ)) (g : Gathered) → IsGathered declared was is g → PutsFile declared was is g
puts_file declared was is (gathered.Taken taken) by =
    let into : GoesIn declared by.closed taken = by.goes_in in
    record {
      file = into.file;
      all = into.told_all;
      closed = by.closed;
      read = record {
        file = into.file;
        told_all = refl;
        count = into.count;
        few = into.few;
        closes = into.closes;
        len = into.len;
        begins = into.begins;
        alone = into.alone;
        interchanges = into.interchanges;
        whole = into.whole;
        ends = into.ends;
        lacks_nothing = into.lacks_nothing;
      };
      written = by.written;
    }
puts_file declared was is (gathered.SetAside cause) by = record {
  file = by.file;
  all = by.told_all;
  closed = [];
  read = (by.no_header, by.named, refl);
  written = subst (λ (o : Option (List ℕ)). Appends was o []) (sym by.nothing) (nothing_written was);
}

-- and whatever it declared of itself
pub puts_any : (declared was is : Option (List ℕ)) (g : Gathered) → IsGathered declared was is g → PutsFile None was is g
puts_any declared was is g by =
    let puts : PutsFile declared was is g = puts_file declared was is g by in
    record { file = puts.file; all = tt; closed = puts.closed; read = puts.read; written = puts.written }

-- a file that stays
pub stays : (declared was is : Option (List ℕ)) (g : Gathered) → PutsFile declared was is g → AddsFile None was is (outcome.Read g)
stays declared was is g puts =
    record { file = puts.file; all = tt; closed = puts.closed; outcome = puts.read; written = puts.written }

back : (was old new : Option (List ℕ)) (closed : List ℕ) (count : ℕ) → count ≡ length closed → Appends was old closed
    → TakesBack old new count → Appends was new []
back None old new closed count is puts takes = tt
back (Some xs) None new closed count is puts takes = absurd puts
back (Some xs) (Some ys) None closed count is puts takes = absurd takes
back (Some xs) (Some ys) (Some zs) closed count is puts takes =
    let size : length ys ≡ length xs + length closed = ap (λ (l : List ℕ). length l) puts ∙ length-append xs closed in
    let left : length ys - count ≡ length xs = omega (arith, size, is) in
    takes ∙ ap (λ (k : ℕ). take k ys) left ∙ ap (λ (l : List ℕ). take (length xs) l) puts ∙ take_at xs closed (length xs) refl
    ∙ sym (append-nil xs)

-- a file of which nothing stays
pub taken_back : (declared was old new : Option (List ℕ)) (g : Gathered) (taken : Taken) (o : Outcome) → g ≡ gathered.Taken taken
    → PutsFile declared was old g → o ≡ outcome.Changed → TakesBack old new taken.len → AddsFile None was new o
taken_back declared was old new g taken o of put is takes =
    let puts : PutsFile declared was old (gathered.Taken taken) = subst (λ (x : Gathered). PutsFile declared was old x) of put in
    record {
      file = puts.file;
      all = tt;
      closed = [];
      outcome = subst (λ (x : Outcome). IsOutcome x puts.file []) (sym is) refl;
      written = back was old new puts.closed taken.len puts.read.len puts.written takes;
    }

pub aside : (declared was old : Option (List ℕ)) (g : Gathered) (cause : Cause) → g ≡ gathered.SetAside cause
    → PutsFile declared was old g → AddsFile None was old outcome.Changed
aside declared was old g cause of put =
    let puts : PutsFile declared was old (gathered.SetAside cause) = subst (λ (x : Gathered). PutsFile declared was old x) of put in
    record {
      file = puts.file;
      all = tt;
      closed = [];
      outcome = refl;
      written = subst (λ (l : List ℕ). Appends was old l) puts.read.2 puts.written;
    }

-- a file that can't be opened
pub unnamed : (was : Option (List ℕ)) → AddsFile None was was outcome.NameNotUtf8
unnamed was = record { file = []; all = tt; closed = []; outcome = refl; written = nothing_written was }
