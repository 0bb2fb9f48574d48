-- Segments that stand without a gap are, read one by one, the bytes in which they stand.
use Rattle.std.proofs.Common.{◌≡◌, ◌==◌, ◌&&◌, ◌||◌, ◌∙◌, ◌++◌, ◌+◌, ◌<◌, ℕ, zero, suc, Bool, true, false, cond, List, [], ◌∷◌, length}
use Rattle.std.proofs.Common.{map, take, drop, refl, sym, ap, subst, arith, not, true≢false, eqb-true, append_assoc}
use mathlib.Core.List.{map-map}
use Rattle.std.specs.List.{All, count_by, flat_map, filter, prefix_len}
use Rattle.std.proofs.lemmas.Bool.{and_parts, eq-eqb, not-true, or_parts}
use Rattle.std.proofs.lemmas.List.{take-append-drop}
use Rattle.std.proofs.lemmas.List.Elements.{All-nil, All-push}
use Rattle.std.proofs.lemmas.List.Sums.{length-filter}
use Rattle.std.proofs.lemmas.List.Splits.{length-slice_split, slice_split_at}
use Rattle.memchr.specs.Find.{is_byte}
use Rattle.x12_bytes.specs.Bytes.{is_line_end}
use Rattle.x12_bytes.specs.declared.delims.Delims.{Delims}
use Rattle.x12_segs.specs.Words.{Seg, SegValue, parts, segs_of, view_of, views}
use Rattle.x12_segs.proofs.ForAbove.{part_at-some, segs_of-cons}
use Rattle.mailbox.specs.Gapless.{AreWhole, is_gapless}
use Rattle.mailbox.specs.Read.{text_as_read}

-- a segment's bytes and the terminator after them
abbrev closed : ℕ → List ℕ → List ℕ
closed t bytes = bytes ++ t ∷ []

abbrev count_in : ℕ → List ℕ → ℕ
count_in t bytes = length (filter (λ b. b == t) bytes)

abbrev is_nothing : List ℕ → Bool
is_nothing [] = true
is_nothing (x ∷ xs) = false

-- the first segments of these parts, so many as there are terminators in front, are what stands in front
record AreInFront (t : ℕ) (begun front : List ℕ) (segs : List (List ℕ)) : Type 0 where
  text : flat_map (closed t) (take (count_in t front) segs) ≡ begun ++ front
  count : length (take (count_in t front) segs) ≡ count_in t front

abbrev bytes_of : ℕ → ℕ → List ℕ → List (List ℕ)
bytes_of t place text = map (λ (s : Seg). s.bytes) (segs_of place (parts t text))

-- a part that is no terminator, CR or LF is a segment
one_more : (t place : ℕ) (x : ℕ) (begun rest : List ℕ) → All (λ b. (b == t) ≡ false) (x ∷ begun) → is_line_end x ≡ false
    → bytes_of t place ((x ∷ begun) ++ t ∷ rest) ≡ (x ∷ begun) ∷ bytes_of t (place + length (x ∷ begun) + 1) rest
one_more t place x begun rest none first =
    let part : List ℕ = x ∷ begun in
    let same : (t == t) ≡ true = eq-eqb t t refl in
    let divided : parts t (part ++ t ∷ rest) ≡ part ∷ parts t rest = slice_split_at (λ b. b == t) part t rest none same in
    let some : 0 < length (parts t rest) = omega (arith, length-slice_split (λ b. b == t) rest) in
    let no_lead : prefix_len is_line_end part ≡ 0 = ap (λ (b : Bool). cond b (1 + prefix_len is_line_end begun) 0) first in
    ap (λ (ps : List (List ℕ)). map (λ (s : Seg). s.bytes) (segs_of place ps)) divided
    ∙ ap (map (λ (s : Seg). s.bytes)) (segs_of-cons place part (parts t rest) some
    ∙ ap (λ (ss : List Seg). ss ++ segs_of (place + length part + 1) (parts t rest)) (part_at-some place part (omega (arith, no_lead))))
    ∙ ap (λ (n : ℕ). drop n part ∷ bytes_of t (place + length part + 1) rest) no_lead

-- what is begun holds no terminator and does not begin with CR or LF; it is nothing where the byte before is a terminator
record IsBegun (t before : ℕ) (begun : List ℕ) : Type 0 where
  none : All (λ b. (b == t) ≡ false) begun
  first : (x : ℕ) (xs : List ℕ) → begun ≡ x ∷ xs → is_line_end x ≡ false
  empty : (before == t) ≡ is_nothing begun

nothing_begun : (t : ℕ) → IsBegun t t []
nothing_begun t = record { none = All-nil _; first = λ x xs e. absurd (let no : ⊥ = (cc) in no); empty = eq-eqb t t refl }

pushed_first : (begun : List ℕ) (b x : ℕ) (xs : List ℕ) → is_line_end b ≡ false
    → ((x : ℕ) (xs : List ℕ) → begun ≡ x ∷ xs → is_line_end x ≡ false) → begun ++ b ∷ [] ≡ x ∷ xs → is_line_end x ≡ false
pushed_first [] b x xs h first e = let same : b ≡ x = cc in subst (λ (y : ℕ). is_line_end y ≡ false) same h
pushed_first (y ∷ ys) b x xs h first e = let same : y ≡ x = cc in subst (λ (z : ℕ). is_line_end z ≡ false) same (first y ys refl)

pushed_some : (begun : List ℕ) (b : ℕ) → is_nothing (begun ++ b ∷ []) ≡ false
pushed_some [] b = refl
pushed_some (y ∷ ys) b = refl

begun_more : (t before b : ℕ) (begun : List ℕ) → IsBegun t before begun → (b == t) ≡ false → is_line_end b ≡ false
    → IsBegun t b (begun ++ b ∷ [])
begun_more t before b begun h other plain = record {
  none = All-push (λ x. (x == t) ≡ false) begun b h.none other;
  first = λ x xs e. pushed_first begun b x xs plain h.first e;
  empty = other ∙ sym (pushed_some begun b);
}

-- the same of what stands after a byte
abbrev IsShown : (t : ℕ) (front tail : List ℕ) → Type 0
IsShown t front tail = (before place : ℕ) (begun : List ℕ) → IsBegun t before begun → is_gapless t before front ≡ true
    → AreInFront t begun front (bytes_of t place (begun ++ (front ++ tail)))

count_if : (t b : ℕ) (front : List ℕ) (is : Bool) → (b == t) ≡ is
    → count_in t (b ∷ front) ≡ length (cond is (b ∷ filter (λ y. y == t) front) (filter (λ y. y == t) front))
count_if t b front is e = ap (λ (c : Bool). length (cond c (b ∷ filter (λ y. y == t) front) (filter (λ y. y == t) front))) e

going_on : (t before place b : ℕ) (begun front tail : List ℕ) → IsShown t front tail → IsBegun t before begun → (b == t) ≡ false
    → is_line_end b ≡ false → is_gapless t b front ≡ true
    → AreInFront t begun (b ∷ front) (bytes_of t place (begun ++ (b ∷ (front ++ tail))))
going_on t before place b begun front tail shown h other plain later =
    let same : (begun ++ b ∷ []) ++ (front ++ tail) ≡ begun ++ (b ∷ (front ++ tail)) = append_assoc begun (b ∷ []) (front ++ tail) in
    let count : count_in t (b ∷ front) ≡ count_in t front = count_if t b front false other in
    let segs = bytes_of t place (begun ++ (b ∷ (front ++ tail))) in
    let moved : AreInFront t (begun ++ b ∷ []) front segs =
    subst (λ (l : List ℕ). AreInFront t (begun ++ b ∷ []) front (bytes_of t place l)) same
    (shown b place (begun ++ b ∷ []) (begun_more t before b begun h other plain) later) in
    record {
      text = ap (λ (n : ℕ). flat_map (closed t) (take n segs)) count ∙ moved.text ∙ append_assoc begun (b ∷ []) front;
      count = ap (λ (n : ℕ). length (take n segs)) count ∙ moved.count ∙ sym count;
    }

ended : (t before place b : ℕ) (begun front tail : List ℕ) → IsShown t front tail → IsBegun t before begun → (b == t) ≡ true
    → (before == t && b == t) ≡ false → is_gapless t b front ≡ true
    → AreInFront t begun (b ∷ front) (bytes_of t place (begun ++ (b ∷ (front ++ tail))))
ended t before place b [] front tail shown h is apart later =
    let twice : (before == t && b == t) ≡ true = ap (λ (c : Bool). c && b == t) h.empty ∙ is in
    absurd (true≢false (sym twice ∙ apart))
ended t before place b (x ∷ begun) front tail shown h is apart later =
    let e : b ≡ t = eqb-true b t is in
    let behind = place + length (x ∷ begun) + 1 in
    let segs = bytes_of t behind (front ++ tail) in
    let rest : AreInFront t [] front segs =
    shown b behind [] (subst (λ (y : ℕ). IsBegun t y []) (sym e) (nothing_begun t)) later in
    let shape : bytes_of t place ((x ∷ begun) ++ (b ∷ (front ++ tail))) ≡ (x ∷ begun) ∷ segs =
    ap (λ (y : ℕ). bytes_of t place ((x ∷ begun) ++ (y ∷ (front ++ tail)))) e
    ∙ one_more t place x begun (front ++ tail) h.none (h.first x begun refl) in
    let count : count_in t (b ∷ front) ≡ suc (count_in t front) = count_if t b front true is in
    let built : AreInFront t (x ∷ begun) (b ∷ front) ((x ∷ begun) ∷ segs) = record {
      text = ap (λ (n : ℕ). flat_map (closed t) (take n ((x ∷ begun) ∷ segs))) count
          ∙ ap (λ (l : List ℕ). closed t (x ∷ begun) ++ l) rest.text
          ∙ append_assoc (x ∷ begun) (t ∷ []) front
          ∙ ap (λ (y : ℕ). (x ∷ begun) ++ y ∷ front) (sym e);
      count = ap (λ (n : ℕ). length (take n ((x ∷ begun) ∷ segs))) count ∙ ap suc rest.count ∙ sym count;
    } in
    subst (AreInFront t (x ∷ begun) (b ∷ front)) (sym shape) built

one_byte : (is : Bool) (t before place b : ℕ) (begun front tail : List ℕ) → (b == t) ≡ is → IsShown t front tail → IsBegun t before begun
    → (before == t && b == t) ≡ false → is_line_end b ≡ false → is_gapless t b front ≡ true
    → AreInFront t begun (b ∷ front) (bytes_of t place (begun ++ (b ∷ (front ++ tail))))
one_byte true t before place b begun front tail is shown h apart plain later =
    ended t before place b begun front tail shown h is apart later
one_byte false t before place b begun front tail is shown h apart plain later =
    going_on t before place b begun front tail shown h is plain later

in_front : (t : ℕ) (front tail : List ℕ) → IsShown t front tail
in_front t [] tail before place [] h gapless = record { text = refl; count = refl }
in_front t [] tail before place (x ∷ begun) h gapless = absurd (true≢false (sym gapless ∙ h.empty))
in_front t (b ∷ front) tail before place begun h gapless =
    let both = and_parts (not (before == t && b == t || is_line_end b)) (is_gapless t b front) gapless in
    let tests = or_parts (before == t && b == t) (is_line_end b) (not-true (before == t && b == t || is_line_end b) both.0) in
    one_byte (b == t) t before place b begun front tail refl (in_front t front tail) h tests.0 tests.1 both.1

-- what segments read one by one are depends on their bytes alone
read_by_bytes : (d : Delims) (n : ℕ) (segs : List SegValue)
    → flat_map (text_as_read d) (take n segs) ≡ flat_map (closed d.terminator) (take n (map (λ (s : SegValue). s.bytes) segs))
read_by_bytes d zero segs = refl
read_by_bytes d (suc n) [] = refl
read_by_bytes d (suc n) (s ∷ segs) = ap (λ (l : List ℕ). text_as_read d s ++ l) (read_by_bytes d n segs)

count_by_bytes : (n : ℕ) (segs : List SegValue) → length (take n segs) ≡ length (take n (map (λ (s : SegValue). s.bytes) segs))
count_by_bytes zero segs = refl
count_by_bytes (suc n) [] = refl
count_by_bytes (suc n) (s ∷ segs) = ap suc (count_by_bytes n segs)

pub are_whole : (d : Delims) (stretch : List ℕ) (n count : ℕ) (segs : List SegValue)
    → map (λ (s : SegValue). s.bytes) segs ≡ map (λ (s : SegValue). s.bytes) (views stretch d)
    → is_gapless d.terminator d.terminator (take n stretch) ≡ true → length (filter (λ b. b == d.terminator) (take n stretch)) ≡ count
    → AreWhole d (take n stretch) count (take count segs)
are_whole d stretch n count segs read gapless counted =
    let t = d.terminator in
    let front = take n stretch in
    let found : AreInFront t [] front (bytes_of t 0 (front ++ drop n stretch)) =
    in_front t front (drop n stretch) t 0 [] (nothing_begun t) gapless in
    let viewed : map (λ (s : SegValue). s.bytes) (views stretch d) ≡ bytes_of t 0 (front ++ drop n stretch) =
    map-map (λ (s : SegValue). s.bytes) (view_of d) (segs_of 0 (parts t stretch))
    ∙ ap (bytes_of t 0) (sym (take-append-drop n stretch)) in
    let all : map (λ (s : SegValue). s.bytes) segs ≡ bytes_of t 0 (front ++ drop n stretch) = read ∙ viewed in
    record {
      text = read_by_bytes d count segs ∙ ap (λ (l : List (List ℕ)). flat_map (closed t) (take count l)) all
          ∙ ap (λ (k : ℕ). flat_map (closed t) (take k (bytes_of t 0 (front ++ drop n stretch)))) (sym counted) ∙ found.text;
      count_is = count_by_bytes count segs ∙ ap (λ (l : List (List ℕ)). length (take count l)) all
          ∙ ap (λ (k : ℕ). length (take k (bytes_of t 0 (front ++ drop n stretch)))) (sym counted) ∙ found.count ∙ counted;
    }

-- the same by what code finds
pub found_whole : (d : Delims) (t : ℕ) (stretch : List ℕ) (n count k : ℕ) (segs : List SegValue) → t ≡ d.terminator → count ≡ k
    → map (λ (s : SegValue). s.bytes) segs ≡ map (λ (s : SegValue). s.bytes) (views stretch d)
    → is_gapless t t (take n stretch) ≡ true → count_by (is_byte t) (take n stretch) ≡ count
    → AreWhole d (take n stretch) count (take k segs)
found_whole d t stretch n count k segs is same read gapless counted =
    let front = take n stretch in
    let own = subst (λ (b : ℕ). is_gapless b b front ≡ true) is gapless in
    let all : length (filter (λ b. b == d.terminator) front) ≡ count =
    length-filter (λ b. b == d.terminator) front ∙ sym (ap (λ (b : ℕ). count_by (is_byte b) front) is) ∙ counted in
    subst (λ (m : ℕ). AreWhole d front count (take m segs)) same (are_whole d stretch n count segs read own all)
