-- A stretch of a text goes on by its next part.
use Rattle.std.proofs.Common.{◌≡◌, ℕ, ◌+◌, ◌-◌, ◌<◌, List, [], ◌∷◌, ◌++◌, length, Some, take, drop, map, sym, ap, ◌∙◌, arith}
use Rattle.std.proofs.Common.{nat_eq, refl}
use Rattle.std.specs.Prelude.{slice_range}
use Rattle.std.proofs.lemmas.List.{take-take, length-take, length-take-le, map-append}
use Rattle.std.proofs.lemmas.List.Splits.{length-slice_split}
use Rattle.memchr.specs.Find.{IsFirstByte, is_byte}
use Rattle.x12_segs.specs.Words.{parts, part_at, segs_of}
use Rattle.x12_segs.proofs.ForAbove.{parts-found, segs_of-cons, drop-slice_range}
use Rattle.env_marks.specs.Frags.{frag_of}
use Rattle.env_marks.specs.Marking.{Cut, mark_of, last_of, marking_of}

-- a terminator was found after an offset of a stretch
pub record IsPartCut (text : List ℕ) (t at to len : ℕ) : Type 0 where
  pub below : at + len < to
  pub divided : parts t (slice_range text at to) ≡ slice_range text at (at + len) ∷ parts t (slice_range text (at + len + 1) to)
  pub more : 0 < length (parts t (slice_range text (at + len + 1) to))
  pub width : length (slice_range text at (at + len)) ≡ len

pub part_found : (text : List ℕ) (t at to len : ℕ) → IsFirstByte (is_byte t) (slice_range text at to) (Some len)
    → IsPartCut text t at to len
part_found text t at to len h =
    let xs : List ℕ = slice_range text at to in
    let short = length-take (to - at) (drop at text) in
    let high : len < length xs = h.0.high in
    let below : at + len < to = omega (arith, short, high) in
    let front : take len xs ≡ slice_range text at (at + len) = take-take len (to - at) (drop at text) (omega (arith, short, high))
    ∙ ap (λ n. take n (drop at text)) (let e : len ≡ at + len - at = omega arith in e) in
    let behind : drop (len + 1) xs ≡ slice_range text (at + len + 1) to = drop-slice_range (len + 1) at to text (omega arith)
    ∙ ap (λ n. slice_range text n to) (let e : at + (len + 1) ≡ at + len + 1 = omega arith in e) in
    record {
      below = below;
      divided = parts-found t xs len h ∙ ap (λ (p : List ℕ). p ∷ parts t (drop (len + 1) xs)) front
          ∙ ap (λ (b : List ℕ). slice_range text at (at + len) ∷ parts t b) behind;
      more = omega (arith, length-slice_split (λ b. nat_eq b t) (slice_range text (at + len + 1) to));
      width = ap length (sym front) ∙ length-take-le len xs (omega (arith, high));
    }

-- the marks of a stretch, its first part first
pub marks_found : (text : List ℕ) (e t at to len : ℕ) → IsPartCut text t at to len
    → map (mark_of e) (segs_of at (parts t (slice_range text at to)))
    ≡ map (mark_of e) (part_at at (slice_range text at (at + len)))
    ++ map (mark_of e) (segs_of (at + len + 1) (parts t (slice_range text (at + len + 1) to)))
marks_found text e t at to len cut =
    let part : List ℕ = slice_range text at (at + len) in
    let more : List (List ℕ) = parts t (slice_range text (at + len + 1) to) in
    ap (λ (ps : List (List ℕ)). map (mark_of e) (segs_of at ps)) cut.divided
    ∙ ap (map (mark_of e)) (segs_of-cons at part more cut.more)
    ∙ ap (λ n. map (mark_of e) (part_at at part ++ segs_of (at + n + 1) more)) cut.width
    ∙ map-append (mark_of e) (part_at at part) (segs_of (at + len + 1) more)

last_of-cons : (e place : ℕ) (p : List ℕ) (more : List (List ℕ)) → 0 < length more
    → last_of e place (p ∷ more) ≡ last_of e (place + length p + 1) more
last_of-cons e place p [] h = absurd (omega (arith, h))
last_of-cons e place p (r ∷ more) h = refl

pub last_found : (text : List ℕ) (e t at to len : ℕ) → IsPartCut text t at to len
    → last_of e at (parts t (slice_range text at to)) ≡ last_of e (at + len + 1) (parts t (slice_range text (at + len + 1) to))
last_found text e t at to len cut =
    let part : List ℕ = slice_range text at (at + len) in
    let more : List (List ℕ) = parts t (slice_range text (at + len + 1) to) in
    ap (last_of e at) cut.divided ∙ last_of-cons e at part more cut.more
    ∙ ap (λ n. last_of e (at + n + 1) more) cut.width

-- the marks of a piece in which a terminator stands
marking_of-cons : (e place : ℕ) (p : List ℕ) (more : List (List ℕ)) → 0 < length more
    → marking_of e place (p ∷ more)
    ≡ Cut (frag_of e place p) (map (mark_of e) (segs_of (place + length p + 1) more)) (last_of e (place + length p + 1) more)
marking_of-cons e place p [] h = absurd (omega (arith, h))
marking_of-cons e place p (r ∷ more) h = refl

pub marking_found : (text : List ℕ) (e t at to len : ℕ) → IsPartCut text t at to len
    → marking_of e at (parts t (slice_range text at to))
    ≡ Cut (frag_of e at (slice_range text at (at + len)))
    (map (mark_of e) (segs_of (at + len + 1) (parts t (slice_range text (at + len + 1) to))))
    (last_of e (at + len + 1) (parts t (slice_range text (at + len + 1) to)))
marking_found text e t at to len cut =
    let part : List ℕ = slice_range text at (at + len) in
    let more : List (List ℕ) = parts t (slice_range text (at + len + 1) to) in
    ap (marking_of e at) cut.divided ∙ marking_of-cons e at part more cut.more
    ∙ ap (λ n. Cut (frag_of e at part) (map (mark_of e) (segs_of (at + n + 1) more)) (last_of e (at + n + 1) more)) cut.width
