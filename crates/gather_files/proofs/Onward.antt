-- A text after other bytes is read as the same text alone, moved.
use Rattle.std.proofs.Common.{◌≡◌, ℕ, ◌+◌, ◌≤◌, List, [], ◌∷◌, ◌++◌, Bool, true, false, map, drop, length, refl, sym, ap, ◌∙◌}
use Rattle.std.proofs.Common.{arith, inl, inr}
use Rattle.std.specs.Prelude.{if◌then◌else◌, nat_lt}
use Rattle.std.specs.List.{prefix_len}
use Rattle.std.proofs.lemmas.Bool.{cases_lt, le-ltb, lt-ltb}
use Rattle.std.proofs.lemmas.List.{length-append}
use Rattle.x12_bytes.specs.declared.delims.Delims.{Delims}
use Rattle.whole_interchanges.proofs.ForAbove.{drop_past, head_past, header_past}
use Rattle.night_definition.specs.Header.{delims_of, divided, header_at, is_head}
use Rattle.night_definition.specs.Segments.{Kind, Segment, ge, gs, iea, is_blank, is_line_end, kind_of, other, se, segment_of, st, ta1}
use Rattle.night_definition.specs.Envelopes.{Read, Where, in_body, in_group, in_set, read, read_one, with_ge, with_group, with_inner}
use Rattle.night_definition.specs.Envelopes.{with_misplaced, with_se, with_set}
use Rattle.night_definition.specs.Interchanges.{Interchange, Reach, Text, ends_there, found_at, found_from, interchange_at, is_filler}
use Rattle.night_definition.specs.Interchanges.{reach_after, reach_at, text_of, with_byte, with_interchange, with_segment}
use Rattle.night_equal.proofs.ForAbove.{heads}
use Rattle.gather_files.specs.Moved.{moved, moved_content, moved_interchange, moved_segment}

abbrev pub moved_reach : (by : ℕ) → Reach → Reach
moved_reach by r = record { segments = map (moved_segment by) r.segments; end = by + r.end }

-- the envelopes of segments
one_moved : (by : ℕ) (k : Kind) (at : Where) (s : Segment) (f g : Where → Read)
    → ((w : Where) → f w ≡ moved_content by (g w))
    → read_one k at (moved_segment by s) f ≡ moved_content by (read_one k at s g)
one_moved by iea at s f g more = refl
one_moved by gs at s f g more = ap (with_group (moved_segment by s)) (more in_group)
one_moved by st in_set s f g more = ap (with_set (moved_segment by s)) (more in_set)
one_moved by st in_group s f g more = ap (with_set (moved_segment by s)) (more in_set)
one_moved by st in_body s f g more = ap with_misplaced (more in_body)
one_moved by ge in_set s f g more = ap (with_ge (moved_segment by s)) (more in_body)
one_moved by ge in_group s f g more = ap (with_ge (moved_segment by s)) (more in_body)
one_moved by ge in_body s f g more = ap with_misplaced (more in_body)
one_moved by se in_set s f g more = ap (with_se (moved_segment by s)) (more in_group)
one_moved by se in_group s f g more = ap with_misplaced (more in_group)
one_moved by se in_body s f g more = ap with_misplaced (more in_body)
one_moved by ta1 in_set s f g more = ap (with_inner (moved_segment by s)) (more in_set)
one_moved by ta1 in_group s f g more = ap with_misplaced (more in_group)
one_moved by ta1 in_body s f g more = ap (λ (r : Read). let x : Read = record r { ta1s = r.ta1s + 1 } in x) (more in_body)
one_moved by other in_set s f g more = ap (with_inner (moved_segment by s)) (more in_set)
one_moved by other in_group s f g more = ap with_misplaced (more in_group)
one_moved by other in_body s f g more = ap with_misplaced (more in_body)

read_moved : (by : ℕ) (segments : List Segment) (at : Where)
    → read (map (moved_segment by) segments) at ≡ moved_content by (read segments at)
read_moved by [] at = refl
read_moved by (s ∷ segments) at =
    one_moved by (kind_of s.elements) at s (read (map (moved_segment by) segments)) (read segments) (read_moved by segments)

segment_moved : (by : ℕ) (d : Delims) (place : ℕ) (part : List ℕ)
    → segment_of d (by + place) part ≡ moved_segment by (segment_of d place part)
segment_moved by d place part =
    let lead : ℕ = prefix_len is_line_end part in
    let len : ℕ = length (drop lead part) in
    let made : ℕ → ℕ → Segment = λ a b. record { start = a; end = b; elements = divided d.element (drop lead part) } in
    let start : by + place + lead ≡ by + (place + lead) = omega arith in
    let end : by + place + lead + len + 1 ≡ by + (place + lead + len + 1) = omega arith in
    ap (λ (a : ℕ). made a (by + place + lead + len + 1)) start ∙ ap (made (by + (place + lead))) end

module _ (before text : List ℕ) where
  abbrev by : ℕ
  by = length before

  abbrev all : List ℕ
  all = before ++ text

  pub head_moved : (q : ℕ) → is_head all (by + q) ≡ is_head text q
  head_moved q = heads all (by + q) ∙ head_past before text q ∙ sym (heads text q)

  size : length all ≡ by + length text
  size = length-append before text

  last_by : (b : Bool) (x : ℕ)
      → ends_there (if b then by + x else by + length text) ≡ moved_reach by (ends_there (if b then x else length text))
  last_by true x = refl
  last_by false x = refl

  last_moved : (x : ℕ) → ends_there (if is_head all (by + x) then by + x else length all)
      ≡ moved_reach by (ends_there (if is_head text x then x else length text))
  last_moved x =
      ap (λ (b : Bool). ends_there (if b then by + x else length all)) (head_moved x)
      ∙ ap (λ (n : ℕ). ends_there (if is_head text x then by + x else n)) size ∙ last_by (is_head text x) x

  kind_by : (k : Kind) (s : Segment) (r : Reach)
      → with_segment k (moved_segment by s) (moved_reach by r) ≡ moved_reach by (with_segment k s r)
  kind_by iea s r = refl
  kind_by gs s r = refl
  kind_by ge s r = refl
  kind_by st s r = refl
  kind_by se s r = refl
  kind_by ta1 s r = refl
  kind_by other s r = refl

  abbrev stepped : Bool → Bool → Segment → Reach → Reach
  stepped blank head s more = if blank then more else if head then ends_there s.start else with_segment (kind_of s.elements) s more

  step_by : (blank head : Bool) (s : Segment) (r : Reach)
      → stepped blank head (moved_segment by s) (moved_reach by r) ≡ moved_reach by (stepped blank head s r)
  step_by true head s r = refl
  step_by false true s r = refl
  step_by false false s r = kind_by (kind_of s.elements) s r

  after_moved : (d : Delims) (place : ℕ) (ps : List (List ℕ))
      → reach_after all d (by + place) ps ≡ moved_reach by (reach_after text d place ps)
  after_moved d place [] = ap ends_there size
  after_moved d place (rest ∷ []) =
      let sum : by + place + prefix_len is_line_end rest ≡ by + (place + prefix_len is_line_end rest) = omega arith in
      ap (λ (n : ℕ). ends_there (if is_head all n then n else length all)) sum ∙ last_moved (place + prefix_len is_line_end rest)
  after_moved d place (part ∷ next ∷ ps) =
      let sum : by + place + length part + 1 ≡ by + (place + length part + 1) = omega arith in
      let s : Segment = segment_of d place part in
      let here : Reach = reach_after all d (by + place + length part + 1) (next ∷ ps) in
      let more : here ≡ moved_reach by (reach_after text d (place + length part + 1) (next ∷ ps)) =
      ap (λ (n : ℕ). reach_after all d n (next ∷ ps)) sum ∙ after_moved d (place + length part + 1) (next ∷ ps) in
      ap (λ (x : Segment). stepped (is_blank part) (is_head all x.start) x here) (segment_moved by d place part)
      ∙ ap (λ (b : Bool). stepped (is_blank part) b (moved_segment by s) here) (head_moved s.start)
      ∙ ap (stepped (is_blank part) (is_head text s.start) (moved_segment by s)) more
      ∙ step_by (is_blank part) (is_head text s.start) s (reach_after text d (place + length part + 1) (next ∷ ps))

  pub reach_moved : (q : ℕ) → reach_at all (by + q) ≡ moved_reach by (reach_at text q)
  reach_moved q =
      let d : Delims = delims_of (header_at text q) in
      let sum : by + q + 106 ≡ by + (q + 106) = omega arith in
      ap (λ (h : List ℕ). reach_after all (delims_of h) (by + q + 106) (divided (delims_of h).terminator (drop (by + q + 106) all)))
      (header_past before text q)
      ∙ ap (λ (n : ℕ). reach_after all d n (divided d.terminator (drop n all))) sum
      ∙ ap (λ (xs : List ℕ). reach_after all d (by + (q + 106)) (divided d.terminator xs)) (drop_past before text (q + 106))
      ∙ after_moved d (q + 106) (divided d.terminator (drop (q + 106) text))

  abbrev built : List ℕ → ℕ → ℕ → Read → Interchange
  built h start end content = record { header = h; delims = delims_of h; start = start; end = end; content = content }

  interchange_moved : (q : ℕ) → interchange_at all (by + q) ≡ moved_interchange by (interchange_at text q)
  interchange_moved q =
      let there : Reach = reach_at text q in
      ap (λ (h : List ℕ). built h (by + q) (reach_at all (by + q)).end (read (reach_at all (by + q)).segments in_body))
      (header_past before text q)
      ∙ ap (λ (r : Reach). built (header_at text q) (by + q) r.end (read r.segments in_body)) (reach_moved q)
      ∙ ap (built (header_at text q) (by + q) (by + there.end)) (read_moved by there.segments in_body)

  byte_moved : (b : ℕ) (t : Text) → with_byte b (moved by t) ≡ moved by (with_byte b t)
  byte_moved b t = by_test (is_filler b)
    where
      by_test : (f : Bool) → (if f then moved by t else record (moved by t) { outside = t.outside + 1 })
          ≡ moved by (if f then t else record t { outside = t.outside + 1 })
      by_test true = refl
      by_test false = refl

  below_moved : (e k : ℕ) → nat_lt (by + k) (by + e) ≡ nat_lt k e
  below_moved e k = elim (cases_lt k e) [
    | inl lt ↦ lt-ltb (by + k) (by + e) (omega (arith, lt)) ∙ sym (lt-ltb k e lt)
    | inr past ↦ le-ltb (by + k) (by + e) (omega (arith, past)) ∙ sym (le-ltb k e past)
  ]

  -- byte by byte, where the end that was found last is as far from an offset in both
  pub found_moved : (bytes : List ℕ) (q far end : ℕ) → ((k : ℕ) → nat_lt (by + k) far ≡ nat_lt k end)
      → found_from all bytes (by + q) far ≡ moved by (found_from text bytes q end)
  found_moved [] q far end as_far = refl
  found_moved (b ∷ bytes) q far end as_far =
      ap (λ (w : Bool). found_at w (is_head all (by + q)) all (by + q) far b (λ e. found_from all bytes (by + q + 1) e)) (as_far q)
      ∙ ap (λ (h : Bool). found_at (nat_lt q end) h all (by + q) far b (λ e. found_from all bytes (by + q + 1) e)) (head_moved q)
      ∙ by_tests (nat_lt q end) (is_head text q) (λ later last as_far.
      (let sum : by + q + 1 ≡ by + (q + 1) = omega arith in
      ap (λ (n : ℕ). found_from all bytes n later) sum ∙ found_moved bytes (q + 1) later last as_far))
    where
      by_tests : (within head : Bool)
          → ((later last : ℕ) → ((k : ℕ) → nat_lt (by + k) later ≡ nat_lt k last)
          → found_from all bytes (by + q + 1) later ≡ moved by (found_from text bytes (q + 1) last))
          → found_at within head all (by + q) far b (λ e. found_from all bytes (by + q + 1) e)
          ≡ moved by (found_at within head text q end b (λ e. found_from text bytes (q + 1) e))
      by_tests true head next = next far end as_far
      by_tests false true next =
          let x : Interchange = interchange_at text q in
          ap (λ (y : Interchange). with_interchange y (found_from all bytes (by + q + 1) y.end)) (interchange_moved q)
          ∙ ap (with_interchange (moved_interchange by x)) (next (by + x.end) x.end (below_moved x.end))
      by_tests false false next =
          ap (with_byte b) (next far end as_far) ∙ byte_moved b (found_from text bytes (q + 1) end)

  -- from the end of what is before it, where no interchange is open
  pub text_moved : (end : ℕ) → end ≤ by → found_from all text by end ≡ moved by (text_of text)
  text_moved end le =
      let place : by ≡ by + 0 = omega arith in
      ap (λ (n : ℕ). found_from all text n end) place
      ∙ found_moved text 0 end 0 (λ k. le-ltb (by + k) end (omega (arith, le)) ∙ sym (le-ltb k 0 (omega arith)))
