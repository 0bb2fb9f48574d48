-- The masks of a block that was read.
use Rattle.std.proofs.Common.{◌≡◌, ℕ, ◌+◌, ◌-◌, ◌*◌, ◌%◌, ◌^◌, ◌<◌, ◌≤◌, Bool, List, length, map, drop, get_or, bit_and}
use Rattle.std.proofs.Common.{sym, ap, ◌∙◌, arith}
use Rattle.std.specs.Simd.Lanes.{mask_l}
use Rattle.std.proofs.lemmas.Nat.{and_mask, one_shl}
use Rattle.std.proofs.lemmas.List.{get_or-take, get_or-drop, take-map, take_all}
use Rattle.marked_segments.specs.Blocks.{IsMask, IsStretch}
use Rattle.marked_segments.proofs.MaskLemmas.{mask_l-take, mask_of_bytes}

-- a byte of a stretch is one of its text
pub stretch_byte : (text : List ℕ) (base : ℕ) (stretch : List ℕ) (k : ℕ) → IsStretch text base stretch → k < length stretch
    → get_or stretch k 0 ≡ get_or text (base + k) 0
stretch_byte text base stretch k s lt =
    ap (λ l. get_or l k 0) s.bytes ∙ get_or-take (base + length stretch - base) (drop base text) k 0 (omega arith)
    ∙ get_or-drop base text k 0

module _ (test : ℕ → Bool) (text : List ℕ) (base : ℕ) (stretch : List ℕ) (v : List ℕ) (at : ℕ) (s : IsStretch text base stretch)
    (long : length v ≡ 64) (bytes : (k : ℕ) → k < 64 → base + at + k < length text → get_or v k 0 ≡ get_or text (base + at + k) 0) where
  read : (k j : ℕ) → k ≤ 64 → at + k ≤ length stretch → j < k → get_or v j 0 ≡ get_or stretch (at + j) 0
  read k j few room lt =
      let within : base + length stretch ≤ length text = s.within in
      let sum : base + at + j ≡ base + (at + j) = omega arith in
      bytes j (omega arith) (omega arith) ∙ ap (λ n. get_or text n 0) sum ∙ sym (stretch_byte text base stretch (at + j) s (omega arith))

  -- fewer than 64
  pub mask_cut : (k mask : ℕ) → k < 64 → at + k ≤ length stretch → mask ≡ mask_l (map test v)
      → IsMask test stretch at (at + k) (bit_and mask (1 * 2 ^ k % 2 ^ 64 - 1))
  mask_cut k mask few room is =
      mask_of_bytes test stretch v at (at + k) _ k long (omega arith) room (omega arith) (omega arith)
      (λ j lt. read k j (omega arith) room lt)
      (ap (λ n. bit_and mask (n - 1)) (one_shl k 64 few) ∙ and_mask mask k ∙ ap (λ m. m % 2 ^ k) is ∙ mask_l-take (map test v) k
      ∙ ap mask_l (take-map test k v))

  -- all 64
  pub mask_whole : (mask : ℕ) → at + 64 ≤ length stretch → mask ≡ mask_l (map test v) → IsMask test stretch at (at + 64) mask
  mask_whole mask room is =
      mask_of_bytes test stretch v at (at + 64) mask 64 long (omega arith) room (omega arith) (omega arith)
      (λ j lt. read 64 j (omega arith) room lt) (is ∙ ap (λ l. mask_l (map test l)) (sym (take_all 64 v (omega arith))))
