-- One line more.
use Rattle.std.proofs.Common.{◌≡◌, ◌∙◌, ℕ, ◌+◌, ◌<◌, List, [], ◌∷◌, ◌++◌, ap, append-nil, append_assoc, arith, get_or, length}
use Rattle.std.proofs.Common.{sym, take}
use Rattle.std.proofs.lemmas.List.{length-map, length-take, map-append, take_more}
use Rattle.night_marks.specs.declared.mark.NightMark.{NightMark}
use Rattle.hub_folder.specs.Older.{map_now}
use Rattle.hub_adopt.specs.Lines.{line_of, lines_of}
use denote.Ref.{Bor}

lines_on : (number : ℕ) (ms : List NightMark) (m : NightMark)
    → lines_of number (ms ++ m ∷ []) ≡ lines_of number ms ++ line_of (number + length ms) m
lines_on number [] m =
    let first : number ≡ number + 0 = omega arith in
    append-nil (line_of number m) ∙ ap (λ (n : ℕ). line_of n m) first
lines_on number (x ∷ ms) m =
    let line : List ℕ = line_of number x in
    let next : number + 1 + length ms ≡ number + length (x ∷ ms) = omega arith in
    ap (λ (l : List ℕ). line ++ l) (lines_on (number + 1) ms m
    ∙ ap (λ (n : ℕ). lines_of (number + 1) ms ++ line_of n m) next)
    ∙ sym (append_assoc line (lines_of (number + 1) ms) (line_of (number + length (x ∷ ms)) m))

-- one more of the nights
pub now_more : (order : List (Bor NightMark)) (i : ℕ) (mark : Bor NightMark) → i < length order → mark ≡ get_or order i mark
    → map_now (take (i + 1) order) ≡ map_now (take i order) ++ mark.now ∷ []
now_more order i mark low is =
    ap map_now (take_more order i mark low ∙ ap (λ (m : Bor NightMark). take i order ++ m ∷ []) (sym is))
    ∙ map-append (λ (m : Bor NightMark). m.now) (take i order) (mark ∷ [])

pub lines_more : (order : List (Bor NightMark)) (i : ℕ) (mark : Bor NightMark) (was now : List ℕ) → i < length order
    → mark ≡ get_or order i mark
    → was ≡ lines_of 1 (map_now (take i order)) → now ≡ was ++ line_of (i + 1) mark.now
    → now ≡ lines_of 1 (map_now (take (i + 1) order))
lines_more order i mark was now low is so_far adds =
    let count : i + 1 ≡ 1 + length (map_now (take i order)) =
    omega (arith, length-map (take i order) (λ (m : Bor NightMark). m.now), length-take i order) in
    adds ∙ ap (λ (l : List ℕ). l ++ line_of (i + 1) mark.now) so_far
    ∙ ap (λ (n : ℕ). lines_of 1 (map_now (take i order)) ++ line_of n mark.now) count
    ∙ sym (lines_on 1 (map_now (take i order)) mark.now)
    ∙ ap (lines_of 1) (sym (now_more order i mark low is))
