-- X12.5, interchange control header: segments that don't begin as a header.
use Rattle.std.proofs.Common.{◌≡◌, ℕ, ◌+◌, ◌-◌, false, List, [], ◌∷◌, ◌++◌, length, drop, take, refl, sym, ap, subst, ◌∙◌, arith}
use Rattle.std.proofs.Common.{append_assoc, length-append, ◌⊎◌, inl, inr}
use Rattle.std.specs.Prelude.{codes}
use Rattle.std.specs.List.{All}
use Rattle.std.specs.Str.{bytes_eq}
use Rattle.std.proofs.lemmas.Bool.{both_ways, false_from_ne_true}
use Rattle.std.proofs.lemmas.List.{take-take, take-append-le}
use Rattle.std.proofs.lemmas.List.Elements.{All-head, All-tail}
use Rattle.std.proofs.lemmas.Slice.Eq.{bytes_eq-Decides}
use Rattle.x12_bytes.specs.HeaderTest.{is_head}
use Rattle.x12_bytes.specs.declared.delims.Delims.{Delims}
use Rattle.x12_bytes.proofs.ForAbove.{decides_head}
use Rattle.x12_write.specs.Group.{texts_in_row}
use Rattle.files_law.specs.Written.{AreClear, BeginsOtherwise, IsWritten, NoHeads, Written, segments_in_row, texts_of, written_text}
use Rattle.files_law.proofs.Interchanges.{left}
use Rattle.files_law.proofs.SegmentRows.{behind_it, shape}

pub no_head : (file : List ℕ) (from : ℕ) (bytes behind : List ℕ) → drop from file ≡ bytes ++ behind → BeginsOtherwise bytes
    → is_head file from ≡ false
no_head file from bytes behind is other =
    let n : ℕ = from + 106 - from in
    let wide : n ≡ 106 = omega arith in
    false_from_ne_true (is_head file from) (λ yes.
    let isa : take 3 (take n (drop from file)) ≡ codes "ISA" = ((decides_head file from).0 yes).1.isa in
    let front : take 2 (take 3 (take n (drop from file))) ≡ take 2 bytes =
    take-take 2 3 (take n (drop from file)) (omega arith) ∙ take-take 2 n (drop from file) (omega arith)
    ∙ ap (take 2) is ∙ take-append-le 2 bytes behind other.long in
    let same : take 2 bytes ≡ codes "IS" = sym front ∙ ap (take 2) isa in
    both_ways (bytes_eq (take 2 bytes) (codes "IS")) other.other ((bytes_eq-Decides (take 2 bytes) (codes "IS")).1 same))

-- each segment begins otherwise, or stands where no header begins
abbrev pub BeginsApart : (file : List ℕ) → (from : ℕ) → List (List ℕ) → Type 0
BeginsApart file from [] = Unit {0}
BeginsApart file from (segment ∷ segments) =
    (BeginsOtherwise segment ⊎ (is_head file from ≡ false)) × BeginsApart file (from + length segment + 1) segments

pub segments_clear : (file : List ℕ) (from : ℕ) (d : Delims) (segments : List (List ℕ)) (behind : List ℕ)
    → drop from file ≡ segments_in_row d segments ++ behind → BeginsApart file from segments → NoHeads file from segments
segments_clear file from d [] behind is apart = tt
segments_clear file from d (segment ∷ segments) behind is apart =
    let rest : List ℕ = segments_in_row d segments in
    let here : drop from file ≡ segment ++ (d.terminator ∷ (rest ++ behind)) = is ∙ shape file d segment rest behind in (
      elim apart.0 [
        | inl other ↦ no_head file from segment (d.terminator ∷ (rest ++ behind)) here other
        | inr none ↦ none
      ],
      segments_clear file (from + length segment + 1) d segments behind (behind_it file d from segment (rest ++ behind) here) apart.1,
    )

abbrev pub AreApart : (file : List ℕ) → (from : ℕ) → List Written → Type 0
AreApart file from [] = Unit {0}
AreApart file from (w ∷ ws) = BeginsApart file (from + 106) w.segments × AreApart file (from + length (written_text w)) ws

pub all_clear : (file before : List ℕ) (ws : List Written) → file ≡ before ++ texts_in_row (texts_of ws) → All IsWritten ws
    → AreApart file (length before) ws → AreClear file (length before) ws
all_clear file before [] is written apart = tt
all_clear file before (w ∷ ws) is written apart =
    let text : List ℕ = written_text w in
    let rest : List ℕ = texts_in_row (texts_of ws) in
    let long : length (before ++ text) ≡ length before + length text = length-append before text in (
      segments_clear file (length before + 106) w.envelope.delims w.segments rest
          (left file before rest w is (All-head IsWritten w ws written)) apart.0,
      subst (λ (n : ℕ). AreClear file n ws) long
          (all_clear file (before ++ text) ws (is ∙ sym (append_assoc before text rest)) (All-tail IsWritten w ws written)
          (subst (λ (n : ℕ). AreApart file n ws) (sym long) apart.1)),
    )

otherwise_apart : (file : List ℕ) (from : ℕ) (segments : List (List ℕ)) → All BeginsOtherwise segments → BeginsApart file from segments
otherwise_apart file from [] all = tt
otherwise_apart file from (segment ∷ segments) all = (
  inl (All-head BeginsOtherwise segment segments all),
  otherwise_apart file (from + length segment + 1) segments (All-tail BeginsOtherwise segment segments all),
)

abbrev pub AllOtherwise : Written → Type 0
AllOtherwise w = All BeginsOtherwise w.segments

pub all_otherwise_apart : (file : List ℕ) (from : ℕ) (ws : List Written) → All AllOtherwise ws → AreApart file from ws
all_otherwise_apart file from [] all = tt
all_otherwise_apart file from (w ∷ ws) all = (
  otherwise_apart file (from + 106) w.segments (All-head AllOtherwise w ws all),
  all_otherwise_apart file (from + length (written_text w)) ws (All-tail AllOtherwise w ws all),
)

pub otherwise_clear : (ws : List Written) → All IsWritten ws → All AllOtherwise ws → AreClear (texts_in_row (texts_of ws)) 0 ws
otherwise_clear ws written all =
    let file : List ℕ = texts_in_row (texts_of ws) in all_clear file [] ws refl written (all_otherwise_apart file 0 ws all)
