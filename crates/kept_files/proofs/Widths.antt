-- The elements of a header, one after another at the begin of a key.
use Rattle.std.proofs.Common.{◌≡◌, ◌∙◌, ◌-◌, ℕ, List, [], ◌++◌, refl, sym, ap, arith}
use Rattle.std.proofs.Common.{append_assoc, drop, length, length-append, take}
use Rattle.std.specs.Prelude.{slice_range}
use Rattle.std.proofs.Math.Seq.{drop-append_seam, take-append_seam}
use Rattle.kept_files.specs.Taken.{interchange_in}

-- a piece between what comes before it and what comes after it
piece : (before part after : List ℕ) (begin end : ℕ) → length before ≡ begin → length part ≡ end - begin
    → slice_range (before ++ (part ++ after)) begin end ≡ part
piece before part after begin end low wide =
    ap (λ n. take (end - begin) (drop n (before ++ (part ++ after)))) (sym low)
    ∙ ap (take (end - begin)) (drop-append_seam before (part ++ after)) ∙ ap (λ n. take n (part ++ after)) (sym wide)
    ∙ take-append_seam part after

-- the five texts that are cut out
cut_out : (a b c d e rest : List ℕ) → length a ≡ 2 → length b ≡ 15 → length c ≡ 2 → length d ≡ 15 → length e ≡ 9
    → interchange_in (a ++ (b ++ (c ++ (d ++ (e ++ rest))))) ≡ record { isa05 = a; isa06 = b; isa07 = c; isa08 = d; isa13 = e }
cut_out a b c d e rest la lb lc ld le =
    let two : length (a ++ b) ≡ 17 = omega (arith, length-append a b, la, lb) in
    let three : length ((a ++ b) ++ c) ≡ 19 = omega (arith, length-append (a ++ b) c, two, lc) in
    let four : length (((a ++ b) ++ c) ++ d) ≡ 34 = omega (arith, length-append ((a ++ b) ++ c) d, three, ld) in
    let in_two : a ++ (b ++ (c ++ (d ++ (e ++ rest)))) ≡ (a ++ b) ++ (c ++ (d ++ (e ++ rest))) = sym (append_assoc a b _) in
    let in_three : a ++ (b ++ (c ++ (d ++ (e ++ rest)))) ≡ ((a ++ b) ++ c) ++ (d ++ (e ++ rest)) =
    in_two ∙ sym (append_assoc (a ++ b) c _) in
    let in_four : a ++ (b ++ (c ++ (d ++ (e ++ rest)))) ≡ (((a ++ b) ++ c) ++ d) ++ (e ++ rest) =
    in_three ∙ sym (append_assoc ((a ++ b) ++ c) d _) in
    let third = ap (λ t. slice_range t 17 19) in_two ∙ piece (a ++ b) c (d ++ (e ++ rest)) 17 19 two lc in
    let fourth = ap (λ t. slice_range t 19 34) in_three ∙ piece ((a ++ b) ++ c) d (e ++ rest) 19 34 three ld in
    let fifth = ap (λ t. slice_range t 34 43) in_four ∙ piece (((a ++ b) ++ c) ++ d) e rest 34 43 four le in
    λ i. record {
      isa05 = piece [] a (b ++ (c ++ (d ++ (e ++ rest)))) 0 2 refl la i;
      isa06 = piece a b (c ++ (d ++ (e ++ rest))) 2 17 la lb i;
      isa07 = third i;
      isa08 = fourth i;
      isa13 = fifth i;
    }

pub cut : (a b c d e rest : List ℕ) → length a ≡ 2 → length b ≡ 15 → length c ≡ 2 → length d ≡ 15 → length e ≡ 9
    → interchange_in ((a ++ (b ++ (c ++ (d ++ e)))) ++ rest) ≡ record { isa05 = a; isa06 = b; isa07 = c; isa08 = d; isa13 = e }
cut a b c d e rest la lb lc ld le =
    ap interchange_in (append_assoc a (b ++ (c ++ (d ++ e))) rest ∙ ap (λ t. a ++ t) (append_assoc b (c ++ (d ++ e)) rest
    ∙ ap (λ t. b ++ t) (append_assoc c (d ++ e) rest ∙ ap (λ t. c ++ t) (append_assoc d e rest))))
    ∙ cut_out a b c d e rest la lb lc ld le
