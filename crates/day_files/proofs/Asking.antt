-- What is written of a set that is asked for again is its key.
use Rattle.std.proofs.Common.{◌≡◌, ◌∙◌, ◌≤◌, ◌<◌, ◌+◌, ◌-◌, ◌==◌, ◌||◌, ℕ, suc, Bool, true, false, List, [], ◌∷◌, ◌++◌, Option}
use Rattle.std.proofs.Common.{ap, ap₂, append_assoc, arith, drop, length, length-append, refl, sym, take}
use Rattle.std.specs.Prelude.{nat_le, slice_range}
use Rattle.std.proofs.lemmas.Bool.{le-leb}
use Rattle.std.proofs.lemmas.List.{drop-take, length-drop, length-take, take-append-drop, take-take, take_all}
use Rattle.std.proofs.Math.Seq.{drop-append_seam, take-append_seam}
use Rattle.breach_lines.specs.Keys.{after, ends_of, interchange_of, numbers_of, part, until}
use Rattle.hub_ledger.specs.declared.entry.AddressNumbers.{AddressNumbers}
use Rattle.night_definition.specs.Header.{field}
use Rattle.night_entries.specs.Again.{key_of}
use Rattle.night_entries.specs.Good.{has_byte}
use Rattle.night_entries.specs.Keys.{address_or_none, interchange_key, set_key}
use Rattle.day_files.specs.Again.{set_in}

neither : (b c : Bool) → (b || c) ≡ false → (b ≡ false) × (c ≡ false)
neither true c e = absurd (cc)
neither false c e = (refl, e)

-- a text up to the byte 0 after it, and what comes after that
until_is : (text rest : List ℕ) → has_byte 0 text ≡ false → until 0 (text ++ (0 ∷ []) ++ rest) ≡ text
until_is [] rest none = refl
until_is (b ∷ bs) rest none =
    let parts = neither (b == 0) (has_byte 0 bs) none in
    rw parts.0 (ap (λ (t : List ℕ). b ∷ t) (until_is bs rest parts.1))

behind : (text rest : List ℕ) → drop (length text + 1) (text ++ (0 ∷ []) ++ rest) ≡ rest
behind [] rest = refl
behind (b ∷ bs) rest =
    let one : length (b ∷ bs) + 1 ≡ suc (length bs + 1) = omega (arith) in
    ap (λ (n : ℕ). drop n ((b ∷ bs) ++ (0 ∷ []) ++ rest)) one ∙ behind bs rest

after_is : (text rest : List ℕ) → has_byte 0 text ≡ false → after 0 (text ++ (0 ∷ []) ++ rest) ≡ rest
after_is text rest none =
    ap (λ (t : List ℕ). drop (length t + 1) (text ++ (0 ∷ []) ++ rest)) (until_is text rest none) ∙ behind text rest

-- a part that a key has
part_is : (key : List ℕ) (from to : ℕ) → to ≤ length key → part key from to ≡ slice_range key from to
part_is key from to fits = rw (le-leb to (length key) fits) refl

-- ISA05 to ISA08 and ISA13 are the first 43 bytes
first_is : (key : List ℕ) → 43 ≤ length key → ends_of key ++ interchange_of key ≡ take 43 key
first_is key long =
    let ends : ends_of key ≡ take 34 (take 43 key) =
    part_is key 0 34 (omega (arith, long)) ∙ sym (take-take 34 43 key (omega (arith))) in
    let number : interchange_of key ≡ drop 34 (take 43 key) = part_is key 34 43 long ∙ sym (drop-take 34 9 key) in
    ap₂ (λ (a b : List ℕ). a ++ b) ends number ∙ take-append-drop 34 (take 43 key)

numbers_are : (key : List ℕ) → 43 ≤ length key → numbers_of key ≡ drop 43 key
numbers_are key long =
    part_is key 43 (length key) (omega (arith))
    ∙ take_all (length key - 43) (drop 43 key) (omega (arith, length-drop 43 key, long))

-- parts that are those of a key make this key
joined : (ends number g s a interchange group set address : List ℕ) → ends ++ number ≡ interchange → g ≡ group → s ≡ set → a ≡ address
    → ends ++ (number ++ (g ++ (0 ∷ []) ++ (s ++ (0 ∷ []) ++ a))) ≡ interchange ++ (group ++ (0 ∷ []) ++ (set ++ (0 ∷ []) ++ address))
joined ends number g s a interchange group set address first group_is set_is address_is =
    sym (append_assoc ends number (g ++ (0 ∷ []) ++ (s ++ (0 ∷ []) ++ a)))
    ∙ ap (λ (t : List ℕ). t ++ (g ++ (0 ∷ []) ++ (s ++ (0 ∷ []) ++ a))) first
    ∙ ap (λ (t : List ℕ). interchange ++ (t ++ (0 ∷ []) ++ (s ++ (0 ∷ []) ++ a))) group_is
    ∙ ap (λ (t : List ℕ). interchange ++ (group ++ (0 ∷ []) ++ (t ++ (0 ∷ []) ++ a))) set_is
    ∙ ap (λ (t : List ℕ). interchange ++ (group ++ (0 ∷ []) ++ (set ++ (0 ∷ []) ++ t))) address_is

-- the key of what is written of a key: 43 bytes, and two texts, each with a byte 0 after it
written : (key interchange group set address : List ℕ) → key ≡ interchange ++ (group ++ (0 ∷ []) ++ (set ++ (0 ∷ []) ++ address))
    → length interchange ≡ 43 → has_byte 0 group ≡ false → has_byte 0 set ≡ false → key_of (set_in key) ≡ key
written key interchange group set address is wide no_group no_set =
    let rest : List ℕ = group ++ (0 ∷ []) ++ (set ++ (0 ∷ []) ++ address) in
    let whole : length key ≡ length (interchange ++ rest) = ap (λ (l : List ℕ). length l) is in
    let long : 43 ≤ length key = omega (arith, whole, length-append interchange rest, wide) in
    let numbers : numbers_of key ≡ rest =
    numbers_are key long ∙ ap (λ (l : List ℕ). drop 43 l) is ∙ ap (λ (n : ℕ). drop n (interchange ++ rest)) (sym wide)
    ∙ drop-append_seam interchange rest in
    let behind_group : after 0 (numbers_of key) ≡ set ++ (0 ∷ []) ++ address =
    ap (after 0) numbers ∙ after_is group (set ++ (0 ∷ []) ++ address) no_group in
    let group_is : until 0 (numbers_of key) ≡ group = ap (until 0) numbers ∙ until_is group (set ++ (0 ∷ []) ++ address) no_group in
    let set_is : until 0 (after 0 (numbers_of key)) ≡ set = ap (until 0) behind_group ∙ until_is set address no_set in
    let address_is : after 0 (after 0 (numbers_of key)) ≡ address = ap (after 0) behind_group ∙ after_is set address no_set in
    let first : ends_of key ++ interchange_of key ≡ interchange =
    first_is key long ∙ ap (λ (l : List ℕ). take 43 l) is ∙ ap (λ (n : ℕ). take n (interchange ++ rest)) (sym wide)
    ∙ take-append_seam interchange rest in
    joined (ends_of key) (interchange_of key) (until 0 (numbers_of key)) (until 0 (after 0 (numbers_of key)))
    (after 0 (after 0 (numbers_of key))) interchange group set address first group_is set_is address_is
    ∙ sym is

-- a part that a header has
wide : (header : List ℕ) (start width : ℕ) → start + width ≤ length header → length (slice_range header start (start + width)) ≡ width
wide header start width low =
    omega (arith, length-take (start + width - start) (drop start header), length-drop start header, low)

interchange_wide : (header : List ℕ) → 106 ≤ length header → length (interchange_key header) ≡ 43
interchange_wide header long =
    let five = wide header 32 2 (omega (arith, long)) in
    let six = wide header 35 15 (omega (arith, long)) in
    let seven = wide header 51 2 (omega (arith, long)) in
    let eight = wide header 54 15 (omega (arith, long)) in
    let number = wide header 90 9 (omega (arith, long)) in
    omega (
      arith,
      five,
      six,
      seven,
      eight,
      number,
      length-append (field 5 header) (field 6 header ++ (field 7 header ++ (field 8 header ++ field 13 header))),
      length-append (field 6 header) (field 7 header ++ (field 8 header ++ field 13 header)),
      length-append (field 7 header) (field 8 header ++ field 13 header),
      length-append (field 8 header) (field 13 header),
    )

pub again_has_key : (header group set : List ℕ) (receiver : Option AddressNumbers) → 106 ≤ length header → has_byte 0 group ≡ false
    → has_byte 0 set ≡ false → key_of (set_in (set_key header group set receiver)) ≡ set_key header group set receiver
again_has_key header group set receiver long no_group no_set =
    written (set_key header group set receiver) (interchange_key header) group set (address_or_none receiver) refl
    (interchange_wide header long) no_group no_set
