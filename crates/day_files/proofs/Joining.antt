-- Files one after another: one more of them, and how a night reads them.
use Rattle.std.proofs.Common.{◌≡◌, ◌∙◌, ℕ, ◌+◌, ◌<◌, List, [], ◌∷◌, ◌++◌, Option, Some, None, length, take, map}
use Rattle.std.proofs.Common.{ap, ap₂, arith, get_or, inl, inr, refl, subst, sym}
use Rattle.std.specs.List.{All, flat_map}
use Rattle.std.proofs.lemmas.List.{append_assoc, append-nil, length-append, length-take, take_more}
use Rattle.std.proofs.lemmas.List.Elements.{All-cons, All-head, All-nil, All-tail}
use Rattle.night_definition.specs.Interchanges.{text_of}
use Rattle.gather_command.specs.Members.{IsRead}
use Rattle.gather_command.specs.declared.outcome.Outcome.{Outcome}
use Rattle.gather_files.specs.Apart.{MayComeAfter, StandsAlone, text_of_files}
use Rattle.gather_files.proofs.ForAbove.{files_are_read, nothing_alone}
use Rattle.gather_files.specs.declared.gather.Gathered.{Gathered}
use Rattle.gather_files.specs.declared.gather.Gathered.TheVariants as gathered
use Rattle.day_files.specs.Lines.{line_of, lines_of}
use Rattle.day_files.specs.Members.{IsGathered, IsGatheredMember, input_of, part_by, part_of}
use Rattle.day_files.specs.declared.file.Content.{Content}
use Rattle.day_files.specs.declared.file.Content.TheVariants as content
use Rattle.day_files.specs.declared.member.Member.{Member}
use Rattle.day_files.specs.declared.member.OldSet.{OldSet}

input_on : (ms : List Member) (m : Member) → input_of (ms ++ m ∷ []) ≡ input_of ms ++ part_of m
input_on [] m = append-nil (part_of m)
input_on (x ∷ ms) m = ap (λ (l : List ℕ). part_of x ++ l) (input_on ms m) ∙ sym (append_assoc (part_of x) (input_of ms) (part_of m))

lines_on : (number before : ℕ) (ms : List Member) (m : Member)
    → lines_of number before (ms ++ m ∷ [])
    ≡ lines_of number before ms ++ line_of (number + length ms) m (before + length (input_of ms))
lines_on number before [] m =
    let first : number ≡ number + 0 = omega arith in
    let place : before ≡ before + 0 = omega arith in
    append-nil (line_of number m before) ∙ ap₂ (λ (n k : ℕ). line_of n m k) first place
lines_on number before (x ∷ ms) m =
    let line : List ℕ = line_of number x before in
    let after : ℕ = before + length (part_of x) in
    let next : number + 1 + length ms ≡ number + length (x ∷ ms) = omega arith in
    let place : after + length (input_of ms) ≡ before + length (part_of x ++ input_of ms) =
    omega (arith, length-append (part_of x) (input_of ms)) in
    ap (λ (l : List ℕ). line ++ l) (lines_on (number + 1) after ms m
    ∙ ap₂ (λ (n k : ℕ). lines_of (number + 1) after ms ++ line_of n m k) next place)
    ∙ sym (append_assoc line (lines_of (number + 1) after ms)
    (line_of (number + length (x ∷ ms)) m (before + length (part_of x ++ input_of ms))))

one_more : (ms : List Member) (i : ℕ) (m : Member) → i < length ms → m ≡ get_or ms i m → take (i + 1) ms ≡ take i ms ++ m ∷ []
one_more ms i m low is = take_more ms i m low ∙ ap (λ (x : Member). take i ms ++ x ∷ []) (sym is)

pub input_more : (ms : List Member) (i : ℕ) (m : Member) (was now : List ℕ) → i < length ms → m ≡ get_or ms i m
    → was ≡ input_of (take i ms) → now ≡ was ++ part_of m → now ≡ input_of (take (i + 1) ms)
input_more ms i m was now low is so_far adds =
    adds ∙ ap (λ (l : List ℕ). l ++ part_of m) so_far ∙ sym (input_on (take i ms) m) ∙ ap input_of (sym (one_more ms i m low is))

pub lines_more : (ms : List Member) (i : ℕ) (m : Member) (input was now : List ℕ) → i < length ms → m ≡ get_or ms i m
    → input ≡ input_of (take i ms) → was ≡ lines_of 1 0 (take i ms) → now ≡ was ++ line_of (i + 1) m (length input)
    → now ≡ lines_of 1 0 (take (i + 1) ms)
lines_more ms i m input was now low is input_is so_far adds =
    let count : i + 1 ≡ 1 + length (take i ms) = omega (arith, length-take i ms) in
    let place : length input ≡ 0 + length (input_of (take i ms)) = omega (arith, ap (λ (l : List ℕ). length l) input_is) in
    adds ∙ ap (λ (l : List ℕ). l ++ line_of (i + 1) m (length input)) so_far
    ∙ ap₂ (λ (n k : ℕ). lines_of 1 0 (take i ms) ++ line_of n m k) count place
    ∙ sym (lines_on 1 0 (take i ms) m)
    ∙ ap (lines_of 1 0) (sym (one_more ms i m low is))

-- a file of which nothing goes in stands alone, and may come after others
nothing_goes : (closed : List ℕ) → closed ≡ [] → StandsAlone closed × MayComeAfter closed
nothing_goes closed none = (subst StandsAlone (sym none) nothing_alone, inl none)

read_alone : (g : Gathered) (bytes closed : List ℕ) → IsRead g bytes closed → StandsAlone closed × MayComeAfter closed
read_alone (gathered.Taken taken) bytes closed is = (is.alone, inr is.begins)
read_alone (gathered.SetAside cause) bytes closed is = nothing_goes closed is.2

gathered_alone : (read : Content) (o : Outcome) (closed : List ℕ) → IsGathered read o closed → StandsAlone closed × MayComeAfter closed
gathered_alone (content.Read bytes) o closed is = read_alone is.0 bytes closed is.2
gathered_alone content.Changed o closed is = nothing_goes closed is.1
gathered_alone content.NameNotUtf8 o closed is = nothing_goes closed is.1

part_alone : (old : Option OldSet) (closed : List ℕ) → StandsAlone closed × MayComeAfter closed
    → StandsAlone (part_by old closed) × MayComeAfter (part_by old closed)
part_alone None closed alone = alone
part_alone (Some old) closed alone = nothing_goes [] refl

member_alone : (m : Member) → IsGatheredMember m → StandsAlone (part_of m) × MayComeAfter (part_of m)
member_alone m is = part_alone m.old m.closed (gathered_alone is.0 m.outcome m.closed is.1)

abbrev parts_of : List Member → List (List ℕ)
parts_of ms = map part_of ms

each_alone : (ms : List Member) → All IsGatheredMember ms → All StandsAlone (parts_of ms)
each_alone [] each = All-nil StandsAlone
each_alone (m ∷ ms) each =
    All-cons StandsAlone (part_of m) (parts_of ms) (member_alone m (All-head IsGatheredMember m ms each)).0
    (each_alone ms (All-tail IsGatheredMember m ms each))

each_comes : (ms : List Member) → All IsGatheredMember ms → All MayComeAfter (parts_of ms)
each_comes [] each = All-nil MayComeAfter
each_comes (m ∷ ms) each =
    All-cons MayComeAfter (part_of m) (parts_of ms) (member_alone m (All-head IsGatheredMember m ms each)).1
    (each_comes ms (All-tail IsGatheredMember m ms each))

in_a_row : (ms : List Member) → input_of ms ≡ flat_map (λ (file : List ℕ). file) (parts_of ms)
in_a_row [] = refl
in_a_row (m ∷ ms) = ap (λ (l : List ℕ). part_of m ++ l) (in_a_row ms)

-- what goes in of all is read as each alone
pub read_each : (ms : List Member) → All IsGatheredMember ms → text_of (input_of ms) ≡ text_of_files (map part_of ms)
read_each ms each = ap text_of (in_a_row ms) ∙ files_are_read (parts_of ms) (each_alone ms each) (each_comes ms each)
