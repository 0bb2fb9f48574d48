-- Where no interchange is open at the end of a text, it is read alone, and so is what comes after it.
use Rattle.std.proofs.Common.{◌≡◌, ℕ, ◌+◌, ◌<◌, ◌≤◌, List, [], ◌∷◌, ◌++◌, Bool, true, false, length, take, refl, sym, ap, subst, ◌∙◌}
use Rattle.std.proofs.Common.{arith, inl, inr}
use Rattle.std.specs.Prelude.{if◌then◌else◌, nat_lt}
use Rattle.std.proofs.lemmas.Bool.{both_ways, cases_Bool, cases_lt, ltb-false, ltb-true}
use Rattle.std.proofs.lemmas.List.{length-append, take_at}
use Rattle.x12_bytes.specs.Header.{header_at, header_delims}
use Rattle.x12_bytes.specs.HeaderTest as then_test
use Rattle.x12_bytes.specs.declared.delims.Delims.{Delims}
use Rattle.env_index.specs.Words.{Extent}
use Rattle.env_index.specs.Words as then
use Rattle.env_index.proofs.ForAbove.{head_within}
use Rattle.whole_interchanges.specs.Batches.{ChainUpTo}
use Rattle.whole_interchanges.proofs.ForAbove.{Clears, end_behind, head_kept, header_kept, same_reach}
use Rattle.night_definition.specs.Header.{delims_of, is_head}
use Rattle.night_definition.specs.Envelopes.{in_body, read}
use Rattle.night_definition.specs.Interchanges.{Interchange, Reach, Text, found_at, found_from, interchange_at, is_filler}
use Rattle.night_definition.specs.Interchanges.{reach_at, text_of}
use Rattle.night_definition.specs.Interchanges.{with_byte, with_interchange}
use Rattle.night_equal.proofs.ForAbove.{heads}
use Rattle.gather_files.specs.Apart.{AreReadAlone}
use Rattle.gather_files.specs.Moved.{in_a_row, moved}
use Rattle.gather_files.proofs.Onward.{text_moved}
use Rattle.gather_files.proofs.Reaching.{ends, reaches, seen_reach}

pub chain_order : (text : List ℕ) (from to : ℕ) (xs : List Extent) → ChainUpTo text from to xs → from ≤ to
chain_order text from to [] chain = chain.0
chain_order text from to (x ∷ xs) chain =
    omega (arith, chain.0.behind, chain.1, end_behind text x.start chain.0.head, chain_order text x.end to xs chain.2)

module _ (file after : List ℕ) where
  abbrev all : List ℕ
  all = file ++ after

  abbrev c : ℕ
  c = length file

  within : c ≤ length all
  within = omega (arith, length-append file after)

  front : take c all ≡ file
  front = take_at file after c refl

  -- the end of an interchange is clear of the end of the file
  clears : (from : ℕ) (xs : List Extent) → ChainUpTo all from c xs → Clears all c from
  clears from [] chain = λ head. elim (cases_lt from c) [
    | inl lt ↦ absurd (both_ways (then_test.is_head all from) (chain.1 from (omega arith) lt) head)
    | inr ge ↦ inl (omega (arith, chain.0, ge))
  ]
  clears from (x ∷ xs) chain = λ head. (
      let at : x.start ≡ from = elim (cases_lt from x.start) [
        | inl lt ↦ absurd (both_ways (then_test.is_head all from) (chain.0.least from (omega arith) lt) head)
        | inr ge ↦ omega (arith, chain.0.behind, ge)
      ] in
      inr (omega (arith, at, chain.1, end_behind all x.start chain.0.head, chain_order all x.end c xs chain.2)))

  -- an interchange that ends in the file
  record IsKept (start : ℕ) : Type 0 where
    fits : start + 106 ≤ c
    header : header_at file start ≡ header_at all start
    reach : then.reach_at file start ≡ then.reach_at all start

  kept : (x : Extent) (xs : List Extent) → then_test.is_head all x.start ≡ true → x.end ≡ (then.reach_at all x.start).end
      → ChainUpTo all x.end c xs → IsKept x.start
  kept x xs head end chain =
      let last : x.end ≤ c = chain_order all x.end c xs chain in
      let fits : x.start + 106 ≤ c = omega (arith, end, last, end_behind all x.start head) in
      let same : header_at (take c all) x.start ≡ header_at all x.start = header_kept all c within x.start fits in
      let d : Delims = header_delims (header_at all x.start) in
      let clear : Clears all c (then.reach_at all x.start).end = subst (Clears all c) end (clears x.end xs chain) in
      record {
        fits = fits;
        header = ap (λ (l : List ℕ). header_at l x.start) (sym front) ∙ same;
        reach = ap (λ (l : List ℕ). then.reach_at l x.start) (sym front)
            ∙ ap (λ (h : List ℕ). then.reach_from (take c all) (header_delims h) (x.start + 106)) same
            ∙ same_reach all c d (x.start + 106) within fits (omega (arith, last, end)) clear;
      }

  abbrev built : (start : ℕ) → List ℕ → Reach → Interchange
  built start h r = record { header = h; delims = delims_of h; start = start; end = r.end; content = read r.segments in_body }

  same_interchange : (start : ℕ) → IsKept start → interchange_at all start ≡ interchange_at file start
  same_interchange start k =
      ap (λ (h : List ℕ). built start h (reach_at all start)) (sym k.header)
      ∙ ap (built start (header_at file start))
      (reaches all start ∙ ap seen_reach (sym k.reach) ∙ sym (reaches file start))

  -- a header that is read whole in the file
  same_head : (q : ℕ) → q + 106 ≤ c → then_test.is_head file q ≡ then_test.is_head all q
  same_head q fits = ap (λ (l : List ℕ). then_test.is_head l q) (sym front) ∙ head_kept all c within q fits

  abbrev rest_of_it : Text
  rest_of_it = moved c (text_of after)

  byte_row : (b : ℕ) (t : Text) → with_byte b (in_a_row t rest_of_it) ≡ in_a_row (with_byte b t) rest_of_it
  byte_row b t = by_test (is_filler b)
    where
      by_test : (f : Bool) → (if f then in_a_row t rest_of_it
          else record (in_a_row t rest_of_it) { outside = t.outside + rest_of_it.outside + 1 })
          ≡ in_a_row (if f then t else record t { outside = t.outside + 1 }) rest_of_it
      by_test true = refl
      by_test false =
          let sum : t.outside + rest_of_it.outside + 1 ≡ t.outside + 1 + rest_of_it.outside = omega arith in
          ap (λ (n : ℕ). let r : Text = record (in_a_row t rest_of_it) { outside = n } in r) sum

  abbrev NoneBetween : (end offset : ℕ) → Type 0
  NoneBetween end offset = (q : ℕ) → end ≤ q → q < offset → then_test.is_head all q ≡ false

  -- the next interchange of the chain begins at the first header
  starts_here : (offset end : ℕ) (x : Extent) → then.IsNextHead all end x.start → NoneBetween end offset → end ≤ offset
      → then_test.is_head all offset ≡ true → x.start ≡ offset
  starts_here offset end x next none le head = elim (cases_lt offset x.start) [
    | inl lt ↦ absurd (both_ways (then_test.is_head all offset) (next.least offset le lt) head)
    | inr ge ↦ elim (cases_lt x.start offset) [
      | inl lt ↦ absurd (both_ways (then_test.is_head all x.start) (none x.start next.behind lt) next.head)
      | inr same ↦ omega (arith, ge, same)
    ]
  ]

  module _ (b : ℕ) (bytes : List ℕ) (offset : ℕ) (below : offset < c)
      (next : (later : ℕ) (ys : List Extent) → NoneBetween later (offset + 1) → ChainUpTo all later c ys
      → found_from all (bytes ++ after) (offset + 1) later ≡ in_a_row (found_from file bytes (offset + 1) later) rest_of_it) where
    abbrev onward : List ℕ → List ℕ → (later : ℕ) → Text
    onward text rest later = found_from text rest (offset + 1) later

    at_head : (end : ℕ) (ys : List Extent) → NoneBetween end offset → then_test.is_head all offset ≡ true → end ≤ offset
        → ChainUpTo all end c ys
        → IsKept offset × (found_at false true all offset end b (onward all (bytes ++ after))
        ≡ in_a_row (found_at false true file offset end b (onward file bytes)) rest_of_it)
    at_head end [] none head le chain = absurd (both_ways (then_test.is_head all offset) (chain.1 offset le below) head)
    at_head end (y ∷ ys) none head le chain =
        let at : y.start ≡ offset = starts_here offset end y chain.0 none le head in
        let k : IsKept offset = subst IsKept at (kept y ys chain.0.head chain.1 chain.2) in
        let x : Interchange = interchange_at file offset in
        let same : interchange_at all offset ≡ x = same_interchange offset k in
        let end_is : y.end ≡ x.end =
        chain.1 ∙ ap (λ (n : ℕ). (then.reach_at all n).end) at ∙ sym (ends all offset) ∙ ap (λ (i : Interchange). i.end) same in
        let far : y.start + 106 ≤ (then.reach_at all y.start).end = end_behind all y.start chain.0.head in
        let rest = next x.end ys (λ q low lt. absurd (omega (arith, low, lt, far, chain.1, end_is, at)))
        (subst (λ (n : ℕ). ChainUpTo all n c ys) end_is chain.2) in (
          k,
          ap (λ (i : Interchange). with_interchange i (onward all (bytes ++ after) i.end)) same ∙ ap (with_interchange x) rest,
        )

    by_head : (end : ℕ) (xs : List Extent) (head : Bool) → NoneBetween end offset → ChainUpTo all end c xs
        → then_test.is_head all offset ≡ head → end ≤ offset
        → found_at false (is_head all offset) all offset end b (onward all (bytes ++ after))
        ≡ in_a_row (found_at false (is_head file offset) file offset end b (onward file bytes)) rest_of_it
    by_head end xs true none chain head le =
        let both = at_head end xs none head le chain in
        let here : is_head all offset ≡ true = heads all offset ∙ head in
        let there : is_head file offset ≡ true = heads file offset ∙ same_head offset both.0.fits ∙ head in
        ap (λ (h : Bool). found_at false h all offset end b (onward all (bytes ++ after))) here ∙ both.1
        ∙ ap (λ (h : Bool). in_a_row (found_at false h file offset end b (onward file bytes)) rest_of_it) (sym there)
    by_head end xs false none chain head le =
        let here : is_head all offset ≡ false = heads all offset ∙ head in
        let missing : then_test.is_head file offset ≡ false = elim (cases_Bool (then_test.is_head file offset)) [
          | inl is ↦ absurd (both_ways (then_test.is_head all offset) head (sym (same_head offset (head_within file offset is)) ∙ is))
          | inr missing ↦ missing
        ] in
        let there : is_head file offset ≡ false = heads file offset ∙ missing in
        let rest = next end xs (λ q low lt. elim (cases_lt q offset) [
          | inl near ↦ none q low near
          | inr past ↦ (let at : q ≡ offset = omega (arith, past, lt) in ap (then_test.is_head all) at ∙ head)
        ]) chain in
        ap (λ (h : Bool). found_at false h all offset end b (onward all (bytes ++ after))) here
        ∙ ap (with_byte b) rest ∙ byte_row b (onward file bytes end)
        ∙ ap (λ (h : Bool). in_a_row (found_at false h file offset end b (onward file bytes)) rest_of_it) (sym there)

    by_end : (end : ℕ) (xs : List Extent) (w : Bool) → NoneBetween end offset → ChainUpTo all end c xs → nat_lt offset end ≡ w
        → found_at w (is_head all offset) all offset end b (onward all (bytes ++ after))
        ≡ in_a_row (found_at w (is_head file offset) file offset end b (onward file bytes)) rest_of_it
    by_end end xs true none chain lt =
        let near : offset < end = ltb-true offset end lt in
        next end xs (λ q low less. absurd (omega (arith, low, less, near))) chain
    by_end end xs false none chain past =
        by_head end xs (then_test.is_head all offset) none chain refl (ltb-false offset end past)

  joined : (bytes : List ℕ) (offset end : ℕ) (xs : List Extent) → offset + length bytes ≡ c → NoneBetween end offset
      → ChainUpTo all end c xs
      → found_from all (bytes ++ after) offset end ≡ in_a_row (found_from file bytes offset end) rest_of_it
  joined [] offset end xs size none chain =
      let at : offset ≡ c = omega (arith, size) in
      let sum : rest_of_it.outside ≡ 0 + rest_of_it.outside = omega arith in
      ap (λ (n : ℕ). found_from all after n end) at
      ∙ text_moved file after end (chain_order all end c xs chain)
      ∙ ap (λ (n : ℕ). let r : Text = record { interchanges = rest_of_it.interchanges; outside = n } in r) sum
  joined (b ∷ bytes) offset end xs size none chain =
      by_end b bytes offset (omega (arith, size))
      (λ later ys between more. joined bytes (offset + 1) later ys (omega (arith, size)) between more)
      end xs (nat_lt offset end) none chain refl

  pub read_alone : (xs : List Extent) → ChainUpTo all 0 c xs → AreReadAlone file after
  read_alone xs chain = joined file 0 0 xs (omega arith) (λ q low lt. absurd (omega (arith, lt))) chain
