-- The bits of a mask against the places of a text.
use Rattle.std.proofs.Common.{◌≡◌, ◌≢◌, ℕ, zero, suc, ◌+◌, ◌-◌, ◌*◌, ◌/◌, ◌%◌, ◌^◌, ◌<◌, ◌≤◌, Bool, true, false, not, cond, List, [], ◌∷◌}
use Rattle.std.proofs.Common.{map, length, take, drop, sym, get_or, bit_and}
use Rattle.std.proofs.Common.{ap, ◌∙◌, arith, pow_pos, shr-shr}
use Rattle.std.proofs.Math.Nat.{div-eq_of_lt}
use Rattle.std.specs.List.{prefix_len}
use Rattle.std.specs.Simd.Lanes.{mask_l, chunk}
use Rattle.std.proofs.lemmas.Nat.{and_mask, mod-pow-add}
use Rattle.std.proofs.lemmas.Bool.{false≢true}
use Rattle.std.proofs.lemmas.List.{drop-map, drop-take, drop-drop, length-take-le, get_or-take, take-take, take-map, ext_get_or}
use Rattle.std.proofs.lemmas.Simd.{length-chunk, get_or-chunk, trailing_mask_l, run_in_chunk_fails, run_in_chunk_stops}
use Rattle.std.proofs.lemmas.Simd.{none_from_empty_mask}
use lib.Count.{count_trailing_zeros}
use Rattle.memchr.specs.Find.{Nowhere, NoneBefore, Passes}
use Rattle.marked_segments.specs.Blocks.{IsMask}

half : (b : Bool) (m : ℕ) → (cond b 1 0 + 2 * m) / 2 ^ 1 ≡ m
half true m = omega arith
half false m = omega arith

-- without its lowest bits a mask is that of the later tests
pub mask_l-drop : (bs : List Bool) (k : ℕ) → mask_l bs / 2 ^ k ≡ mask_l (drop k bs)
mask_l-drop bs zero = omega arith
mask_l-drop [] (suc k) = div-eq_of_lt (pow_pos (suc k))
mask_l-drop (b ∷ bs) (suc k) =
    let one : suc k ≡ 1 + k = omega arith in
    ap (λ n. mask_l (b ∷ bs) / 2 ^ n) one ∙ sym (shr-shr (mask_l (b ∷ bs)) 1 k)
    ∙ ap (λ n. n / 2 ^ k) (half b (mask_l bs)) ∙ mask_l-drop bs k

joined : (b : Bool) (m n : ℕ) → n * 2 ^ 1 + (cond b 1 0 + 2 * m) % 2 ^ 1 ≡ cond b 1 0 + 2 * n
joined true m n = omega arith
joined false m n = omega arith

-- its lowest bits alone are those of the first tests
pub mask_l-take : (bs : List Bool) (k : ℕ) → mask_l bs % 2 ^ k ≡ mask_l (take k bs)
mask_l-take bs zero = omega arith
mask_l-take [] (suc k) = omega (arith, pow_pos (suc k))
mask_l-take (b ∷ bs) (suc k) =
    let m : ℕ = mask_l (b ∷ bs) in
    let one : suc k ≡ k + 1 = omega arith in
    ap (λ n. m % 2 ^ n) one ∙ mod-pow-add m k 1 ∙ ap (λ n. n % 2 ^ k * 2 ^ 1 + m % 2 ^ 1) (half b (mask_l bs))
    ∙ ap (λ n. n * 2 ^ 1 + m % 2 ^ 1) (mask_l-take bs k) ∙ joined b (mask_l bs) (mask_l (take k bs))

chunk-later : (i n k : ℕ) (xs : List ℕ) → k ≤ n → drop k (chunk i n xs) ≡ chunk (i + k) (n - k) xs
chunk-later i n k xs le =
    let sum : n ≡ k + (n - k) = omega arith in
    ap (λ m. drop k (take m (drop i xs))) sum ∙ drop-take k (n - k) (drop i xs) ∙ ap (take (n - k)) (drop-drop k i xs)

module _ (test : ℕ → Bool) (text : List ℕ) where
  -- after some of its bytes
  pub mask_later : (at end mask before place : ℕ) → IsMask test text at end mask → place ≡ at + before → place < end
      → IsMask test text (place + 1) end (mask / 2 ^ before / 2 ^ 1)
  mask_later at end mask before place h is high =
      let k : ℕ = before + 1 in
      let order : at ≤ end = h.order in
      let here : at + k ≡ place + 1 = omega arith in
      let left : end - at - k ≡ end - (place + 1) = omega arith in
      record {
        order = omega arith;
        within = h.within;
        short = omega (arith, h.short);
        bits =
            shr-shr mask before 1 ∙ ap (λ m. m / 2 ^ k) h.bits ∙ mask_l-drop (map test (chunk at (end - at) text)) k
            ∙ ap mask_l (drop-map test k (chunk at (end - at) text) ∙ ap (map test) (chunk-later at (end - at) k text (omega arith)))
            ∙ (λ i. mask_l (map test (chunk (here i) (left i) text)));
      }

  -- up to an earlier end
  pub mask_front : (at end mask k : ℕ) → IsMask test text at end mask → at + k ≤ end
      → IsMask test text at (at + k) (bit_and mask (2 ^ k - 1))
  mask_front at end mask k h high =
      let short : k ≤ end - at = omega arith in
      let width : at + k - at ≡ k = omega arith in
      record {
        order = omega arith;
        within = omega (arith, h.within);
        short = omega (arith, h.short);
        bits =
            and_mask mask k ∙ ap (λ m. m % 2 ^ k) h.bits ∙ mask_l-take (map test (chunk at (end - at) text)) k
            ∙ ap mask_l (take-map test k (chunk at (end - at) text) ∙ ap (map test) (take-take k (end - at) (drop at text) short))
            ∙ ap (λ n. mask_l (map test (chunk at n text))) (sym width);
      }

  some_pass-cons : (b : Bool) (n l m : ℕ) → 0 < cond b 1 0 + 2 * m → (0 < m → n < l) → cond (not b) (1 + n) 0 < suc l
  some_pass-cons true n l m some rest = omega arith
  some_pass-cons false n l m some rest = let more = rest (omega arith) in omega arith

  some_pass : (xs : List ℕ) → 0 < mask_l (map test xs) → prefix_len (λ x. not (test x)) xs < length xs
  some_pass [] some = absurd (omega (arith, some))
  some_pass (x ∷ xs) some = some_pass-cons (test x) _ (length xs) _ some (some_pass xs)

  -- the lowest bit is the first byte that passes
  pub first_of_mask : (at end mask : ℕ) → IsMask test text at end mask → mask ≢ 0
      → NoneBefore (Passes test text) at end (at + count_trailing_zeros 64 mask)
      × Passes test text (at + count_trailing_zeros 64 mask)
  first_of_mask at end mask h some =
      let bytes : List ℕ = chunk at (end - at) text in
      let k : ℕ = count_trailing_zeros 64 mask in
      let order : at ≤ end = h.order in
      let within : end ≤ length text = h.within in
      let room : at + (end - at) ≤ length text = omega arith in
      let long : length bytes ≡ end - at = length-chunk at (end - at) text room in
      let set : 0 < mask_l (map test bytes) = omega (arith, h.bits, some) in
      let counted : k ≡ prefix_len (λ x. not (test x)) bytes =
      ap (count_trailing_zeros 64) h.bits ∙ trailing_mask_l test 64 bytes (omega (arith, h.short)) set in
      let inside : k < end - at = omega (arith, some_pass bytes set) in (
        record {
          low = omega arith;
          high = omega arith;
          before = λ j low high passes.
              absurd (false≢true (sym (run_in_chunk_fails test text at (end - at) k 0 room counted j low high) ∙ passes));
        },
        run_in_chunk_stops test text at (end - at) k 0 room counted inside,
      )

  -- where no bit is set, no byte passes
  pub none_in_mask : (at end mask : ℕ) → IsMask test text at end mask → mask ≡ 0 → Nowhere (Passes test text) at end
  none_in_mask at end mask h none k low high passes =
      let order : at ≤ end = h.order in
      let within : end ≤ length text = h.within in
      absurd (false≢true (sym (none_from_empty_mask test text at (end - at) 0 (omega arith) (sym h.bits ∙ none) k low (omega arith))
      ∙ passes))

  -- no bytes
  pub mask_of_none : (at : ℕ) → at ≤ length text → IsMask test text at at 0
  mask_of_none at le =
      let none : at - at ≡ 0 = omega arith in
      record {
        order = omega arith;
        within = le;
        short = omega arith;
        bits = sym (ap (λ n. mask_l (map test (chunk at n text))) none);
      }

  -- 64 bytes that begin with these
  pub mask_of_bytes : (v : List ℕ) (at end mask k : ℕ) → length v ≡ 64 → at ≤ end → end ≤ length text → k ≡ end - at → k ≤ 64
      → ((j : ℕ) → j < k → get_or v j 0 ≡ get_or text (at + j) 0) → mask ≡ mask_l (map test (take k v)) → IsMask test text at end mask
  mask_of_bytes v at end mask k long order within width short same is =
      let room : at + k ≤ length text = omega arith in
      let size : length (take k v) ≡ k = length-take-le k v (omega arith) in
      let bytes : take k v ≡ chunk at k text =
      ext_get_or 0 (take k v) (chunk at k text) (size ∙ sym (length-chunk at k text room)) (λ j lt.
      get_or-take k v j 0 (omega arith) ∙ same j (omega arith) ∙ sym (get_or-chunk at k text j 0 (omega arith))) in
      record {
        order = order;
        within = within;
        short = omega arith;
        bits = is ∙ ap (λ l. mask_l (map test l)) bytes ∙ ap (λ n. mask_l (map test (chunk at n text))) width;
      }
