-- The segments and the rest after an offset, one part after another.
use Rattle.std.proofs.Common.{ℕ, ◌≡◌, ◌≤◌, ◌<◌, ◌+◌, ◌-◌, Bool, List, [], ◌∷◌, ◌++◌, Some, None, length, take, drop, slice_range, refl}
use Rattle.std.proofs.Common.{ap, subst, ◌∙◌, arith, nat_eq}
use Rattle.std.specs.List.{slice_split, prefix_len}
use Rattle.std.proofs.lemmas.List.{length-append, length-map, drop-drop, drop-take, take_rest, length-drop, length-take-le}
use Rattle.std.proofs.lemmas.List.Sums.{count_by-le-length, prefix_len-le-length}
use Rattle.std.proofs.lemmas.List.Splits.{length-slice_split}
use Rattle.std.proofs.lemmas.Grind.{common_steps}
use Rattle.memchr.specs.Find.{IsFirstByte, is_byte}
use Rattle.x12_bytes.specs.Bytes.{is_line_end}
use Rattle.x12_bytes.specs.declared.delims.Delims.{Delims}
use Rattle.x12_segs.specs.Parts.{parts}
use Rattle.x12_segs.specs.View.{view_of, views}
use Rattle.x12_segs.specs.Segs.{Seg, seg_at, without_line_ends, part_at, segs_of, rest_of, segs_from, rest_from}
use Rattle.x12_segs.proofs.PartLemmas.{parts-found, parts-none}

-- a part that isn't the last
pub segs_of-cons : (place : ℕ) (part : List ℕ) (more : List (List ℕ)) → 0 < length more
    → segs_of place (part ∷ more) ≡ part_at place part ++ segs_of (place + length part + 1) more
segs_of-cons place part [] h = absurd (omega (arith, h))
segs_of-cons place part (next ∷ more) h = refl

pub rest_of-cons : (place : ℕ) (part : List ℕ) (more : List (List ℕ)) → 0 < length more
    → rest_of place (part ∷ more) ≡ rest_of (place + length part + 1) more
rest_of-cons place part [] h = absurd (omega (arith, h))
rest_of-cons place part (next ∷ more) h = refl

-- a terminator was found after an offset: the part before it, and the parts after it
pub record IsCut (text : List ℕ) (t from len : ℕ) : Type 0 where
  pub below : from + len < length text
  pub divided : parts t (drop from text) ≡ slice_range text from (from + len) ∷ parts t (drop (from + len + 1) text)
  pub more : 0 < length (parts t (drop (from + len + 1) text))
  pub width : length (slice_range text from (from + len)) ≡ len

pub cut_found : (text : List ℕ) (t from len : ℕ) → from ≤ length text
    → IsFirstByte (is_byte t) (slice_range text from (length text)) (Some len) → IsCut text t from len
cut_found text t from len fits found =
    let h : IsFirstByte (is_byte t) (drop from text) (Some len) = subst (λ hay. IsFirstByte (is_byte t) hay (Some len))
    (take_rest text from) found in
    let p : ℕ → Bool = λ b. nat_eq b t in
    let room : length (drop from text) ≡ length text - from = length-drop from text in
    let high : len < length (drop from text) = h.0.high in
    let width : from + len - from ≡ len = omega arith in
    let later : drop (len + 1) (drop from text) ≡ drop (from + len + 1) text = drop-drop (len + 1) from text
    ∙ ap (λ n. drop n text) (omega arith) in
    let some : 0 < length (slice_split p (drop (from + len + 1) text)) = omega (arith, length-slice_split p (drop (from + len + 1) text)) in
    let long : length (take len (drop from text)) ≡ len = length-take-le len (drop from text) (omega arith) in
    record {
      below = omega arith;
      divided = rw (width, ← later) (parts-found t (drop from text) len h);
      more = some;
      width = rw width long;
    }

pub segs_from-found : (text : List ℕ) (t from len : ℕ) → IsCut text t from len
    → segs_from text t from ≡ part_at from (slice_range text from (from + len)) ++ segs_from text t (from + len + 1)
segs_from-found text t from len cut =
    let part : List ℕ = slice_range text from (from + len) in
    let more : List (List ℕ) = parts t (drop (from + len + 1) text) in
    ap (segs_of from) cut.divided ∙ segs_of-cons from part more cut.more
    ∙ ap (λ n. part_at from part ++ segs_of (from + n + 1) more) cut.width

pub rest_from-found : (text : List ℕ) (t from len : ℕ) → IsCut text t from len → rest_from text t from ≡ rest_from text t (from + len + 1)
rest_from-found text t from len cut =
    let part : List ℕ = slice_range text from (from + len) in
    let more : List (List ℕ) = parts t (drop (from + len + 1) text) in
    ap (rest_of from) cut.divided ∙ rest_of-cons from part more cut.more
    ∙ ap (λ n. rest_of (from + n + 1) more) cut.width

-- no terminator was found after an offset
pub parts-rest : (text : List ℕ) (t from : ℕ) → IsFirstByte (is_byte t) (slice_range text from (length text)) None
    → parts t (drop from text) ≡ drop from text ∷ []
parts-rest text t from none =
    parts-none t (drop from text) (subst (λ hay. IsFirstByte (is_byte t) hay None) (take_rest text from) none)

pub segs_from-none : (text : List ℕ) (t from : ℕ) → IsFirstByte (is_byte t) (slice_range text from (length text)) None
    → segs_from text t from ≡ []
segs_from-none text t from none = ap (segs_of from) (parts-rest text t from none)

pub rest_from-none : (text : List ℕ) (t from : ℕ) → IsFirstByte (is_byte t) (slice_range text from (length text)) None
    → rest_from text t from ≡ without_line_ends from (drop from text)
rest_from-none text t from none = ap (rest_of from) (parts-rest text t from none)

-- a part with a byte that is no CR or LF
pub part_at-some : (place : ℕ) (part : List ℕ) → prefix_len is_line_end part < length part
    → part_at place part ≡ without_line_ends place part ∷ []
part_at-some place part lt = grind (arith, common_steps)

-- a part of CR and LF alone
pub part_at-none : (place : ℕ) (part : List ℕ) → length part ≤ prefix_len is_line_end part → part_at place part ≡ []
part_at-none place part le =
    let bound : prefix_len is_line_end part ≤ length part = prefix_len-le-length is_line_end part in
    grind (arith, common_steps)

-- a part of a part
pub drop-slice_range : (k a b : ℕ) (text : List ℕ) → a + k ≤ b → drop k (slice_range text a b) ≡ slice_range text (a + k) b
drop-slice_range k a b text le =
    let n : b - a ≡ k + (b - (a + k)) = omega arith in
    rw (n, drop-take, drop-drop) refl

-- a part of a text, without its CR and LF, by its offsets
pub without_line_ends-slice : (text : List ℕ) (a b lead : ℕ) → lead ≡ prefix_len is_line_end (slice_range text a b) → a + lead ≤ b
    → without_line_ends a (slice_range text a b) ≡ seg_at text (a + lead) b
without_line_ends-slice text a b lead is le =
    let k : ℕ = prefix_len is_line_end (slice_range text a b) in
    let same : drop k (slice_range text a b) ≡ slice_range text (a + k) b = drop-slice_range k a b text (omega arith) in
    rw is (ap (λ (bytes : List ℕ). let s : Seg = record { start = a + k; bytes = bytes } in s) same)

-- there are no more segments than bytes
length-part_at : (place : ℕ) (part : List ℕ) → length (part_at place part) ≤ 1
length-part_at place part = grind (arith, common_steps)

length-segs_of : (place : ℕ) (list : List (List ℕ)) → length (segs_of place list) ≤ length list - 1
length-segs_of place [] = omega arith
length-segs_of place (rest ∷ []) = omega arith
length-segs_of place (part ∷ next ∷ more) =
    omega (
      arith,
      length-append (part_at place part)
          (segs_of (place + length part + 1) (next ∷ more)),
      length-part_at place part,
      length-segs_of (place + length part + 1)
          (next ∷ more),
    )

pub length-views : (text : List ℕ) (delims : Delims) → length (views text delims) ≤ length text
length-views text delims =
    let p : ℕ → Bool = λ b. nat_eq b delims.terminator in
    omega (
      arith,
      length-map (segs_from text delims.terminator 0) (view_of delims),
      length-segs_of 0
          (slice_split p text),
      length-slice_split p text,
      count_by-le-length p text,
    )

-- from one offset on the same segments and the same rest are left as from an earlier one
pub record IsLeftFrom (text : List ℕ) (t from at : ℕ) : Type 0 where
  pub behind : from ≤ at
  pub within : at ≤ length text
  pub segs : segs_from text t from ≡ segs_from text t at
  pub rest : rest_from text t from ≡ rest_from text t at

-- an empty part is passed over
pub IsLeftFrom-empty : (text : List ℕ) (t from at len : ℕ) → IsLeftFrom text t from at → IsCut text t at len
    → length (slice_range text at (at + len)) ≤ prefix_len is_line_end (slice_range text at (at + len))
    → IsLeftFrom text t from (at + len + 1)
IsLeftFrom-empty text t from at len left cut empty =
    let behind : from ≤ at = left.behind in
    let below : at + len < length text = cut.below in
    let none = part_at-none at (slice_range text at (at + len)) empty in
    record {
      behind = omega arith;
      within = omega arith;
      segs = left.segs ∙ segs_from-found text t at len cut ∙ ap (λ (s : List Seg). s ++ segs_from text t (at + len + 1)) none;
      rest = left.rest ∙ rest_from-found text t at len cut;
    }

-- what is lent of a text from an offset on lies in the text
pub rest_fits : (text : List ℕ) (at lead : ℕ) → at ≤ length text → lead ≤ length (slice_range text at (length text))
    → at + lead ≤ length text
rest_fits text at lead within le =
    let same : slice_range text at (length text) ≡ drop at text = take_rest text at in
    let long : length (drop at text) ≡ length text - at = length-drop at text in
    let short : lead ≤ length (drop at text) = rw same at le in
    omega arith
