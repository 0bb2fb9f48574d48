-- What is known of a file once it is looked at to its end.
use Rattle.std.proofs.Common.{◌≡◌, ℕ, ◌+◌, ◌-◌, ◌<◌, ◌≤◌, List, [], ◌∷◌, ◌++◌, Bool, true, false, nat_eq, cond, Some, None}
use Rattle.std.proofs.Common.{length, take, drop, get_or, map, refl, sym, ap, subst, ◌∙◌, arith, inl, inr}
use Rattle.std.proofs.lemmas.Bool.{cases_lt}
use Rattle.std.proofs.lemmas.List.{append-nil, get_or-drop, get_or_append_left, length-append, length-take-le}
use Rattle.std.proofs.lemmas.List.{take_at, take-append-drop}
use Rattle.x12_bytes.specs.Bytes.{is_line_end}
use Rattle.x12_bytes.specs.Header.{header_at, header_delims}
use Rattle.x12_bytes.specs.HeaderTest.{is_head}
use Rattle.x12_bytes.specs.declared.delims.Delims.{Delims}
use Rattle.x12_segs.specs.Words.{Seg, segs_from, rest_from, view_of, kind_of}
use Rattle.env_index.specs.Words.{Extent, ChainFrom, ends_interchange, reach_at}
use Rattle.env_index.proofs.ForAbove.{head_letter, head_within}
use Rattle.whole_interchanges.specs.Begun.{may_begin}
use Rattle.whole_interchanges.specs.Batches.{ChainUpTo, end_by, end_from, whole_end}
use Rattle.whole_interchanges.proofs.ForAbove.{chain_joined, chain_read, chain_up_to_end, end_now, Leads, first_is, first_start, head_more}
use Rattle.whole_interchanges.proofs.ForAbove.{header_kept, head_past, first_byte}
use Rattle.whole_interchanges.specs.Open.{IsOpen}
use Rattle.whole_interchanges.specs.Scouting.{IsInside}
use Rattle.whole_interchanges.specs.declared.scout.Inside.{Inside}
use Rattle.gather_files.specs.Gathered.{HoldsInterchanges, MayFollow}
use Rattle.gather_files.proofs.Apart.{head_no_letter}

-- the end of an interchange is known where the first of what is to come begins at a header
known_at_head : (text : List ℕ) (d : Delims) (segs : List Seg) (rest : Seg) (f : ℕ) → is_head text f ≡ true
    → first_start segs rest ≡ f → end_by text (map (view_of d) segs) rest ≡ Some f
known_at_head text d [] rest f head is =
    let here : is_head text rest.start ≡ true = ap (is_head text) is ∙ head in
    ap (λ (b : Bool). cond b (Some rest.start) None) here ∙ ap (λ (n : ℕ). Some n) is
known_at_head text d (seg ∷ segs) rest f head is =
    let here : is_head text seg.start ≡ true = ap (is_head text) is ∙ head in
    ap (λ (b : Bool). cond b (Some seg.start) (cond (may_begin text seg.start) None (cond (ends_interchange (kind_of (view_of d seg)))
    (Some (Rattle.env_index.specs.Words.behind (view_of d seg))) (end_by text (map (view_of d) segs) rest)))) here
    ∙ ap (λ (n : ℕ). Some n) is

module _ (read more : List ℕ) (head : is_head more 0 ≡ true) where
  abbrev text : List ℕ
  text = read ++ more

  abbrev c : ℕ
  c = length read

  within : c ≤ length text
  within = omega (arith, length-append read more)

  front : take c text ≡ read
  front = take_at read more c refl

  head_behind : is_head text c ≡ true
  head_behind = (let place : c + 0 ≡ c = omega arith in ap (is_head text) (sym place) ∙ head_past read more 0 ∙ head)

  -- CR and LF alone stand before it
  leads : (t at lead seen : ℕ) → IsOpen read t at lead seen → lead ≡ c → nat_eq 73 t ≡ false → Leads text t at c
  leads t at lead seen o all letter =
      let order : at ≤ c = omega (arith, o.order, all) in
      let last : seen ≡ c = omega (arith, o.later, o.within, all) in
      let place : at + (c - at) ≡ c = omega (arith, order) in
      let same : (k : ℕ) → k < c - at → get_or (drop at text) k 0 ≡ get_or (drop at read) k 0 =
      λ k lt. get_or-drop at text k 0 ∙ get_or_append_left read more 0 (at + k) (omega (arith, lt)) ∙ sym (get_or-drop at read k 0) in
      let first : get_or (drop at text) (c - at) 0 ≡ 73 =
      get_or-drop at text (c - at) 0 ∙ ap (λ (k : ℕ). get_or text k 0) place ∙ head_letter text c head_behind in
      record {
        order = order;
        within = omega (arith, head_within text c head_behind);
        line_ends = λ k lt. ap is_line_end (same k lt) ∙ o.line_ends k (omega (arith, lt, all));
        other = ap is_line_end first;
        no_terminator = λ k low. elim (cases_lt k (c - at)) [
          | inl lt ↦ ap (λ (b : ℕ). nat_eq b t) (same k lt) ∙ o.none k (omega (arith, lt, last))
          | inr ge ↦
              let is : k ≡ c - at = omega (arith, low, ge) in
              ap (λ (j : ℕ). nat_eq (get_or (drop at text) j 0) t) is ∙ ap (λ (b : ℕ). nat_eq b t) first ∙ letter
        ];
      }

  -- an interchange of which nothing is open ends there
  ends_there : (start : ℕ) (i : Inside) → IsInside read start i → i.part.lead ≡ c
      → ChainUpTo text start c (record { start = start; end = c } ∷ [])
  ends_there start i is all =
      let d : Delims = i.delims in
      let t : ℕ = d.terminator in
      let fits : start + 106 ≤ c = head_within read start is.head in
      let header : header_at read start ≡ header_at text start =
      ap (λ (xs : List ℕ). header_at xs start) (sym front) ∙ header_kept text c within start fits in
      let d_is : d ≡ header_delims (header_at text start) = is.delims ∙ ap header_delims header in
      let letter : nat_eq 73 t ≡ false =
      ap (λ (x : Delims). nat_eq 73 x.terminator) is.delims ∙ head_no_letter read start is.head in
      let there : is_head text start ≡ true =
      head_more text c within start (ap (λ (xs : List ℕ). is_head xs start) front ∙ is.head) in
      let found = first_byte t (drop i.part.at text) in
      let first : first_start (segs_from text t i.part.at) (rest_from text t i.part.at) ≡ c =
      first_is text t i.part.at c (leads t i.part.at i.part.lead i.part.seen is.open_part all letter) found.0 found.1 in
      let here : end_from text d i.part.at ≡ Some c =
      known_at_head text d (segs_from text t i.part.at) (rest_from text t i.part.at) c head_behind first in
      let end : whole_end text start ≡ Some c =
      ap (λ (x : Delims). end_from text x (start + 106)) (sym d_is) ∙ is.goes_on more ∙ here in (
        record { behind = omega arith; head = there; least = λ q low lt. absurd (omega (arith, low, lt)) },
        end_now text start c there end,
        (omega arith, λ q low lt. absurd (omega (arith, low, lt))),
      )

-- what keeps to itself before a header does so at the end
at_the_end : (read : List ℕ) (start n : ℕ) → is_head read start ≡ true
    → ((more : List ℕ) → is_head more 0 ≡ true → (xs : List Extent) × ChainUpTo (read ++ more) 0 (length read) xs × (length xs ≡ n))
    → (xs : List Extent) × ChainUpTo read 0 (length read) xs × (length xs ≡ n)
at_the_end read start n head keeps =
    let c : ℕ = length read in
    let more : List ℕ = drop start read in
    let fits : start + 106 ≤ c = head_within read start head in
    let before : List ℕ = take start read in
    let size : length before ≡ start = length-take-le start read (omega (arith, fits)) in
    let whole : before ++ more ≡ read = take-append-drop start read in
    let place : length before + 0 ≡ start = omega (arith, size) in
    let begins : is_head more 0 ≡ true =
    sym (head_past before more 0) ∙ ap (is_head (before ++ more)) place ∙ ap (λ (xs : List ℕ). is_head xs start) whole ∙ head in
    let own = keeps more begins in
    let front : take c (read ++ more) ≡ read = take_at read more c refl in
    let chain : ChainFrom read 0 own.0 =
    subst (λ (xs : List ℕ). ChainFrom xs 0 own.0) front
    (chain_read (read ++ more) c (omega (arith, length-append read more)) 0 own.0 own.1) in
    (own.0, chain_up_to_end read 0 own.0 (omega arith) chain, own.2)

pub holds_outside : (read : List ℕ) (at : ℕ) (whole : List Extent) → ((more : List ℕ) → ChainUpTo (read ++ more) 0 at whole)
    → at ≡ length read → HoldsInterchanges read (length whole)
holds_outside read at whole chain all =
    λ more follows. (whole, subst (λ (n : ℕ). ChainUpTo (read ++ more) 0 n whole) all (chain more), refl)

pub holds_inside : (read : List ℕ) (at : ℕ) (whole : List Extent) (i : Inside) → ((more : List ℕ) → ChainUpTo (read ++ more) 0 at whole)
    → IsInside read at i → i.part.lead ≡ length read → HoldsInterchanges read (length whole + 1)
holds_inside read at whole i chain is all = λ more follows. by_following more follows
  where
    before_header : (more : List ℕ) → is_head more 0 ≡ true
        → (xs : List Extent) × ChainUpTo (read ++ more) 0 (length read) xs × (length xs ≡ length whole + 1)
    before_header more head =
        let last : List Extent = record { start = at; end = length read } ∷ [] in (
          whole ++ last,
          chain_joined (read ++ more) 0 at (length read) whole last (chain more) (ends_there read more head at i is all),
          length-append whole last,
        )

    by_following : (more : List ℕ) → MayFollow more
        → (xs : List Extent) × ChainUpTo (read ++ more) 0 (length read) xs × (length xs ≡ length whole + 1)
    by_following more (inr head) = before_header more head
    by_following more (inl none) =
        let own = at_the_end read at (length whole + 1) is.head before_header in
        let same : read ≡ read ++ more = sym (ap (λ (xs : List ℕ). read ++ xs) none ∙ append-nil read) in
        (own.0, subst (λ (xs : List ℕ). ChainUpTo xs 0 (length read) own.0) same own.1, own.2)
