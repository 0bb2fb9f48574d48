-- What may begin with a header can be completed to one.
use Rattle.std.proofs.Common.{◌≡◌, ℕ, ◌+◌, ◌-◌, ◌<◌, ◌≤◌, List, [], ◌∷◌, ◌++◌, Bool, true, ◌&&◌, ◌||◌, leb, ltb, All, length}
use Rattle.std.proofs.Common.{take, drop, refl, sym, ap, ◌∙◌, arith, inl, inr}
use Rattle.std.specs.Prelude.{codes}
use Rattle.std.specs.Str.{bytes_eq}
use Rattle.std.specs.Cmp.Lexicographic.{bytes_decides}
use Rattle.std.proofs.lemmas.Bool.{and_from, and_parts, cases_lt, le-leb, leb-true, ltb-true, or_cases}
use Rattle.std.proofs.lemmas.List.{append_assoc, drop-append-le, length-append, length-drop, take-append-drop, take_all, take-take}
use Rattle.std.proofs.lemmas.List.Elements.{All-append, All-cons, All-drop, All-get_or, All-nil}
use Rattle.x12_bytes.specs.Header.{element_separator_of, header_at}
use Rattle.x12_bytes.specs.HeaderTest.{is_head, is_header}
use Rattle.whole_interchanges.specs.Begun.{are_fields_begun, are_delims_begun, is_begun, may_begin}
use Rattle.whole_interchanges.proofs.Absent.{IsAbsentFrom, one_is_absent}
use Rattle.whole_interchanges.proofs.Mixed.{mixed, mixed_is}
use Rattle.whole_interchanges.proofs.Sample.{made_small}
use Rattle.whole_interchanges.proofs.Header.{IsOpen, header_done, header_size, other_of, other_small, rest}

abbrev AreBytes : List ℕ → Type 0
AreBytes xs = All (λ b. b < 256) xs

-- bytes with which these are a header
record Completes (b more : List ℕ) : Type 0 where
  bytes : AreBytes more
  header : is_header (b ++ more) ≡ true
  size : length (b ++ more) ≡ 106

-- what is begun, part by part
pub record IsBegun (b : List ℕ) : Type 0 where
  pub short : length b < 106
  pub front : take 3 b ≡ take (length b) (codes "ISA")
  pub parts : (leb (length b) 3 || (are_delims_begun b && are_fields_begun b 16)) ≡ true

pub begun_parts : (b : List ℕ) → is_begun b ≡ true → IsBegun b
unfolding is_begun
begun_parts b is =
    let isa : Bool = bytes_eq (take 3 b) (take (length b) (codes "ISA")) in
    let begun : Bool = leb (length b) 3 || (are_delims_begun b && are_fields_begun b 16) in
    let first = and_parts (ltb (length b) 106) (isa && begun) is in
    let second = and_parts isa begun first.1 in
    record {
      short = ltb-true (length b) 106 first.0;
      front = (bytes_decides (take 3 b) (take (length b) (codes "ISA"))).0 second.0;
      parts = second.1;
    }

far_done : (b : List ℕ) → AreBytes b → 3 < length b → is_begun b ≡ true → (more : List ℕ) × Completes b more
far_done b bytes far begun =
    let all : IsBegun b = begun_parts b begun in
    let short : length b < 106 = all.short in
    let found : (t : ℕ) × IsAbsentFrom 128 128 b t = one_is_absent 128 128 b (omega arith) in
    let t : ℕ = found.0 in
    let high : t < 128 + 128 = found.1.high in
    let parts : (are_delims_begun b ≡ true) × (are_fields_begun b 16 ≡ true) =
    elim (or_cases (leb (length b) 3) (are_delims_begun b && are_fields_begun b 16) all.parts) [
      | inl few ↦ absurd (omega (arith, leb-true (length b) 3 few, far))
      | inr holds ↦ and_parts (are_delims_begun b) (are_fields_begun b 16) holds
    ] in
    let is_open : IsOpen b t = record {
      far = far;
      short = all.short;
      front = all.front;
      delims = parts.0;
      fields = parts.1;
      low = found.1.low;
      absent = found.1.absent;
    } in
    let ys : List ℕ = rest b t is_open in
    let joined : mixed b ys ≡ b ++ drop (length b) ys = mixed_is b ys in
    let element : element_separator_of b < 256 = All-get_or (λ x. x < 256) b 3 0 far bytes in (
      drop (length b) ys,
      record {
        bytes = All-drop (λ x. x < 256) (length b) ys (made_small (element_separator_of b) (other_of (element_separator_of b)) t element
            (other_small (element_separator_of b)) (omega arith));
        header = sym (ap is_header joined) ∙ header_done b t is_open;
        size = sym (ap length joined) ∙ header_size b t is_open;
      },
    )

-- the least that names an element separator
abbrev least : List ℕ
least = codes "ISA*"

least_begun : is_begun least ≡ true
unfolding is_begun are_fields_begun
least_begun = refl

least_bytes : AreBytes least
least_bytes =
    All-cons (λ b. b < 256) 73 (83 ∷ 65 ∷ 42 ∷ []) (omega arith) (All-cons (λ b. b < 256) 83 (65 ∷ 42 ∷ []) (omega arith)
    (All-cons (λ b. b < 256) 65 (42 ∷ []) (omega arith) (All-cons (λ b. b < 256) 42 [] (omega arith) (All-nil (λ b. b < 256)))))

near_done : (b : List ℕ) → length b ≤ 3 → is_begun b ≡ true → (more : List ℕ) × Completes b more
near_done b near begun =
    let all : IsBegun b = begun_parts b begun in
    let n : ℕ = length b in
    let front : b ≡ take n least = sym (take_all 3 b near) ∙ all.front ∙ take-take n 3 least near in
    let joined : b ++ drop n least ≡ least = ap (λ (l : List ℕ). l ++ drop n least) front ∙ take-append-drop n least in
    let done : (more : List ℕ) × Completes least more = far_done least least_bytes (omega arith) least_begun in
    let more : List ℕ = done.0 in
    let same : b ++ (drop n least ++ more) ≡ least ++ more =
    sym (append_assoc b (drop n least) more) ∙ ap (λ (l : List ℕ). l ++ more) joined in (
      drop n least ++ more,
      record {
        bytes = All-append (λ x. x < 256) (drop n least) more (All-drop (λ x. x < 256) n least least_bytes) done.1.bytes;
        header = ap is_header same ∙ done.1.header;
        size = ap length same ∙ done.1.size;
      },
    )

begun_done : (b : List ℕ) → AreBytes b → is_begun b ≡ true → (more : List ℕ) × Completes b more
begun_done b bytes begun = elim (cases_lt 3 (length b)) [
  | inl far ↦ far_done b bytes far begun
  | inr near ↦ near_done b near begun
]

-- with them a header begins at the offset of a text at which they follow
head_from : (read more : List ℕ) (at : ℕ) → at ≤ length read → Completes (drop at read) more → is_head (read ++ more) at ≡ true
head_from read more at le done =
    let text : List ℕ = read ++ more in
    let front : List ℕ = drop at read ++ more in
    let here : drop at text ≡ front = drop-append-le at read more le in
    let size : length front ≡ 106 = done.size in
    let long : length text ≡ length read + length more = length-append read more in
    let parts : length front ≡ length (drop at read) + length more = length-append (drop at read) more in
    let room : length (drop at read) ≡ length read - at = length-drop at read in
    let same : header_at text at ≡ front = ap (take (at + 106 - at)) here ∙ take_all (at + 106 - at) front (omega arith) in
    and_from (leb (at + 106) (length text)) (is_header (header_at text at)) (le-leb (at + 106) (length text) (omega arith))
    (ap is_header same ∙ done.header)

pub head_completed : (read : List ℕ) (at : ℕ) → All (λ b. b < 256) read → at ≤ length read → may_begin read at ≡ true
    → (more : List ℕ) × All (λ b. b < 256) more × (is_head (read ++ more) at ≡ true)
head_completed read at bytes le begun =
    let done : (more : List ℕ) × Completes (drop at read) more = begun_done (drop at read) (All-drop (λ b. b < 256) at read bytes) begun in
    (done.0, done.1.bytes, head_from read done.0 at le done.1)
