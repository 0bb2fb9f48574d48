-- The letters with which a header and a trailer begin.
use Rattle.std.proofs.Common.{◌≡◌, ℕ, ◌+◌, ◌-◌, ◌<◌, ◌≤◌, List, Bool, true, false, ◌&&◌, ◌||◌, nat_eq, leb, ltb, Option, Some, None}
use Rattle.std.proofs.Common.{length, take, drop, get_or, cond, slice_range, refl, sym, ap, subst, ◌∙◌, arith}
use Rattle.std.specs.Prelude.{codes}
use Rattle.std.specs.Str.{bytes_eq}
use Rattle.std.specs.Cmp.Lexicographic.{bytes_decides}
use Rattle.std.proofs.lemmas.Bool.{and_parts}
use Rattle.std.proofs.lemmas.List.{get_or-drop, get_or-take, length-drop, length-take-le, take-take, take_all}
use Rattle.memchr.specs.Find.{IsFirstByte, Nowhere, OccursAt, is_byte}
use Rattle.x12_bytes.specs.Header.{header_at}
use Rattle.x12_bytes.specs.HeaderTest.{is_head, is_header, has_delims, has_fields}
use Rattle.x12_bytes.specs.declared.delims.Delims.{Delims}
use Rattle.x12_segs.specs.Words.{SegValue, id_of, part_or_empty, parts, seg_at, view_of}
use Rattle.x12_segs.specs.Kinds.{kind_of}
use Rattle.x12_segs.specs.declared.kind.Kind.TheVariants.{InterchangeTrailer, GroupHeader, GroupTrailer, SetHeader, SetTrailer, Ta1}
use Rattle.x12_segs.specs.declared.kind.Kind.TheVariants.{Other}
use Rattle.x12_segs.proofs.ForAbove.{parts-none, id_found}
use Rattle.env_index.specs.Words.{ends_interchange}
use Rattle.env_index.proofs.ForAbove.{head_within}
use Rattle.whole_interchanges.specs.Begun.{are_delims_begun, are_fields_begun, is_begun, may_begin}
use Rattle.whole_interchanges.proofs.Split.{first_byte}

-- these letters stand at an offset
stands : (read letters : List ℕ) (n q : ℕ) → length letters ≡ n → q + n ≤ length read → take n (drop q read) ≡ letters
    → OccursAt read letters q
stands read letters n q size fits is = record {
  fits = omega (arith, size, fits);
  reads = λ j lt. sym (get_or-drop q read j 0) ∙ sym (get_or-take n (drop q read) j 0 (omega (arith, lt, size)))
      ∙ ap (λ (xs : List ℕ). get_or xs j 0) is;
}

header_front : (h : List ℕ) → is_header h ≡ true → take 3 h ≡ codes "ISA"
unfolding is_header
header_front h is =
    let rest : Bool = has_delims h && has_fields h 16 in
    let isa : Bool = bytes_eq (take 3 h) (codes "ISA") in
    (bytes_decides (take 3 h) (codes "ISA")).0 (and_parts isa rest (and_parts (nat_eq (length h) 106) (isa && rest) is).1).0

pub head_letters : (read : List ℕ) (q : ℕ) → is_head read q ≡ true → OccursAt read (codes "ISA") q
head_letters read q is =
    let fits : q + 106 ≤ length read = head_within read q is in
    let front : take 3 (header_at read q) ≡ codes "ISA" =
    header_front (header_at read q) (and_parts (leb (q + 106) (length read)) (is_header (header_at read q)) is).1 in
    stands read (codes "ISA") 3 q refl (omega (arith, fits)) (sym (take-take 3 (q + 106 - q) (drop q read) (omega arith)) ∙ front)

begun_front : (h : List ℕ) → 3 ≤ length h → is_begun h ≡ true → take 3 h ≡ codes "ISA"
unfolding is_begun
begun_front h some is =
    let isa : Bool = bytes_eq (take 3 h) (take (length h) (codes "ISA")) in
    let rest : Bool = leb (length h) 3 || (are_delims_begun h && are_fields_begun h 16) in
    (bytes_decides (take 3 h) (take (length h) (codes "ISA"))).0
    (and_parts isa rest (and_parts (ltb (length h) 106) (isa && rest) is).1).0
    ∙ take_all (length h) (codes "ISA") some

pub begun_letters : (read : List ℕ) (q : ℕ) → q + 3 ≤ length read → may_begin read q ≡ true → OccursAt read (codes "ISA") q
begun_letters read q fits may =
    let room : length (drop q read) ≡ length read - q = length-drop q read in
    stands read (codes "ISA") 3 q refl fits (begun_front (drop q read) (omega (arith, room, fits)) may)

-- of the tests of an id the first alone finds a trailer
first_test : (a b c d e f : Bool)
    → ends_interchange (cond a InterchangeTrailer (cond b GroupHeader (cond c GroupTrailer (cond d SetHeader
    (cond e SetTrailer (cond f Ta1 Other)))))) ≡ true → a ≡ true
first_test true b c d e f it = refl
first_test false true c d e f it = cc
first_test false false true d e f it = cc
first_test false false false true e f it = cc
first_test false false false false true f it = cc
first_test false false false false false true it = cc
first_test false false false false false false it = cc

trailer_id : (x : SegValue) → ends_interchange (kind_of x) ≡ true → id_of x ≡ codes "IEA"
unfolding kind_of
trailer_id x it =
    let id : List ℕ = id_of x in
    (bytes_decides id (codes "IEA")).0
    (first_test (bytes_eq id (codes "IEA")) (bytes_eq id (codes "GS")) (bytes_eq id (codes "GE")) (bytes_eq id (codes "ST"))
    (bytes_eq id (codes "SE")) (bytes_eq id (codes "TA1")) it)

id_front : (e : ℕ) (bytes : List ℕ) (r : Option ℕ) → IsFirstByte (is_byte e) bytes r → part_or_empty (parts e bytes) 0 ≡ codes "IEA"
    → (3 ≤ length bytes) × (take 3 bytes ≡ codes "IEA")
id_front e bytes None none is =
    let all : bytes ≡ codes "IEA" =
    sym (ap (λ (ps : List (List ℕ)). part_or_empty ps 0) (parts-none e bytes none)) ∙ is in
    let size : length bytes ≡ 3 = ap (λ (xs : List ℕ). length xs) all in
    (omega (arith, size), ap (take 3) all)
id_front e bytes (Some k) found is =
    let high : k < length bytes = found.0.high in
    let front : take k bytes ≡ codes "IEA" = sym (id_found e bytes k found) ∙ is in
    let size : k ≡ 3 = sym (length-take-le k bytes (omega (arith, high))) ∙ ap (λ (xs : List ℕ). length xs) front in
    (omega (arith, size, high), subst (λ (n : ℕ). take n bytes ≡ codes "IEA") size front)

pub trailer_letters : (read : List ℕ) (d : Delims) (lead m : ℕ) → lead ≤ m → m ≤ length read
    → ends_interchange (kind_of (view_of d (seg_at read lead m))) ≡ true → OccursAt read (codes "IEA") lead
trailer_letters read d lead m order within it =
    let bytes : List ℕ = slice_range read lead m in
    let room : length (drop lead read) ≡ length read - lead = length-drop lead read in
    let size : length bytes ≡ m - lead = length-take-le (m - lead) (drop lead read) (omega (arith, room, within)) in
    let found = first_byte d.element bytes in
    let front = id_front d.element bytes found.0 found.1 (trailer_id (view_of d (seg_at read lead m)) it) in
    let long : 3 ≤ m - lead = omega (arith, size, front.0) in
    stands read (codes "IEA") 3 lead refl (omega (arith, long, order, within))
    (sym (take-take 3 (m - lead) (drop lead read) long) ∙ front.1)

-- letters that stand nowhere between two offsets, by a stretch that goes as far as they do
pub free_in : (read letters : List ℕ) (at end to ahead : ℕ) → end ≤ length read
    → ((q : ℕ) → at ≤ q → q < to → q + length letters ≤ length read → (q + length letters ≤ end) × (q - at < ahead))
    → Nowhere (OccursAt (slice_range read at end) letters) 0 ahead → Nowhere (OccursAt read letters) at to
free_in read letters at end to ahead within near none q low lt occurs =
    let room : length (drop at read) ≡ length read - at = length-drop at read in
    let reach = near q low lt occurs.fits in
    let size : length (slice_range read at end) ≡ end - at = length-take-le (end - at) (drop at read) (omega (arith, room, within)) in
    none (q - at) (omega arith) reach.1 (record {
      fits = omega (arith, size, low, reach.0);
      reads = λ j below.
          (let place : at + (q - at + j) ≡ q + j = omega (arith, low) in
          get_or-take (end - at) (drop at read) (q - at + j) 0 (omega (arith, low, below, reach.0))
          ∙ get_or-drop at read (q - at + j) 0 ∙ ap (λ (k : ℕ). get_or read k 0) place ∙ occurs.reads j below);
    })
