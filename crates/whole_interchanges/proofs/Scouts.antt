-- How far the interchanges are whole.
use Rattle.std.proofs.Common.{◌≡◌, ℕ, ◌+◌, ◌<◌, ◌≤◌, List, [], ◌∷◌, ◌++◌, true, Option, Some, None, length}
use Rattle.std.proofs.Common.{refl, sym, ap, ◌∙◌, arith}
use Rattle.std.proofs.lemmas.List.{append-nil, length-append}
use Rattle.x12_bytes.specs.Header.{header_delims, header_at}
use Rattle.x12_bytes.specs.HeaderTest.{is_head}
use Rattle.env_index.specs.Words.{Extent, IsNextHead, reach_at}
use Rattle.env_index.proofs.ForAbove.{head_within}
use Rattle.whole_interchanges.specs.Batches.{ChainUpTo, WholeUpTo, end_from, whole_end}
use Rattle.whole_interchanges.proofs.Chains.{chain_joined, end_behind, end_within, whole_chain}
use Rattle.whole_interchanges.specs.declared.scout.Entered.{Entered}
use Rattle.whole_interchanges.specs.declared.scout.Entered.TheVariants.{Open, Wait}
use Rattle.whole_interchanges.specs.Scouting.{Advances, Enters, EntersAt, EntersNone, IsGap, IsInside, Stands}
use Rattle.whole_interchanges.specs.Seeking.{NoneRead}
use Rattle.whole_interchanges.specs.Steps.{WaitsBehind}
use Rattle.whole_interchanges.specs.declared.following.OpenPart.{OpenPart}
use Rattle.whole_interchanges.specs.declared.scout.Inside.{Inside}
use Rattle.whole_interchanges.proofs.Looks.{goes_now}

-- so far
pub record ComesTo (read : List ℕ) (from at : ℕ) (inside : Option Inside) (count : ℕ) : Type 0 where
  pub whole : List Extent
  pub chain : (more : List ℕ) → ChainUpTo (read ++ more) from at whole
  pub is : count ≡ length whole
  pub few : count ≤ at
  pub stands : Stands read at inside

pub comes_first : (read : List ℕ) (at : ℕ) (inside : Option Inside) → Stands read at inside → ComesTo read at at inside 0
comes_first read at inside stands = record {
  whole = [];
  chain = λ more. (omega arith, λ q low lt. absurd (omega (arith, low, lt)));
  is = refl;
  few = omega arith;
  stands = stands;
}

-- a gap that is read
pub gap_of : (read : List ℕ) (from at : ℕ) → WholeUpTo read from at [] → IsGap read from at
gap_of read from at whole = λ more. whole_chain read more from at [] whole

pub gap_to : (read : List ℕ) (from start : ℕ) → IsNextHead read from start → start + 106 ≤ length read → IsGap read from start
gap_to read from start next fits = λ more. (
  next.behind,
  λ q low lt. Rattle.whole_interchanges.proofs.Chains.not_before read more start q fits lt (next.least q low lt),
)

-- the end of the interchange that is open
pub end_read : (read : List ℕ) (at : ℕ) (i : Inside) (end : ℕ) → IsInside read at i → end_from read i.delims i.part.at ≡ Some end
    → whole_end read at ≡ Some end
end_read read at i end inside is =
    ap (λ d. end_from read d (at + 106)) (sym inside.delims) ∙ goes_now read i.delims (at + 106) i.part.at inside.goes_on ∙ is

pub one_whole : (read : List ℕ) (at end : ℕ) → is_head read at ≡ true → whole_end read at ≡ Some end
    → (at < end) × (end ≤ length read) × ((more : List ℕ)
    → ChainUpTo (read ++ more) at end ((let x : Extent = record { start = at; end = end } in x) ∷ []))
one_whole read at end head is =
    let next : IsNextHead read at at = record { behind = omega arith; head = head; least = λ q low lt. absurd (omega (arith, low, lt)) } in
    let ends : end ≡ (reach_at read at).end = Rattle.whole_interchanges.proofs.Chains.end_now read at end head is in
    let within : end ≤ length read = omega (arith, ends, end_within read at head) in (
      omega (arith, ends, end_behind read at head),
      within,
      λ more. whole_chain read more at end ((let x : Extent = record { start = at; end = end } in x) ∷ [])
          (next, is, (omega arith, within, λ q low lt. absurd (omega (arith, low, lt)))),
    )

-- one more
pub comes_on : (read : List ℕ) (from at start end : ℕ) (inside : Option Inside) (count : ℕ) (i : Inside)
    → ComesTo read from at inside count → EntersAt read at start i → end_from read i.delims i.part.at ≡ Some end
    → ComesTo read from end None (count + 1)
comes_on read from at start end inside count i so_far enters is =
    let x : Extent = record { start = start; end = end } in
    let one = one_whole read start end enters.inside.head (end_read read start i end enters.inside is) in
    record {
      whole = so_far.whole ++ ([] ++ x ∷ []);
      chain = λ more. chain_joined (read ++ more) from at end so_far.whole ([] ++ x ∷ []) (so_far.chain more)
          (chain_joined (read ++ more) at start end [] (x ∷ []) (enters.gap more) (one.2 more));
      is = (let n : count + 1 ≡ length (so_far.whole ++ ([] ++ x ∷ [])) =
          omega (arith, so_far.is, length-append so_far.whole ([] ++ x ∷ [])) in n);
      few = omega (arith, so_far.few, (enters.gap []).0, one.0);
      stands = one.1;
    }

pub comes_further : (read : List ℕ) (from at start end : ℕ) (i : Inside) → EntersAt read at start i
    → end_from read i.delims i.part.at ≡ Some end
    → IsGap read at start → at < end
comes_further read from at start end i enters is gap =
    omega (arith, (enters.gap []).0, (one_whole read start end enters.inside.head (end_read read start i end enters.inside is)).0)

-- where it stops
pub stops_outside : (read : List ℕ) (from at next : ℕ) (inside : Option Inside) (count : ℕ) → ComesTo read from at inside count
    → EntersNone read at next
    → Advances read from (record { scout = record { at = next; inside = None }; count = count })
stops_outside read from at next inside count so_far enters = record {
  whole = so_far.whole ++ [];
  chain = λ more. chain_joined (read ++ more) from at next so_far.whole [] (so_far.chain more) (enters.gap more);
  count = so_far.is ∙ ap (λ (xs : List Extent). length xs) (sym (append-nil so_far.whole));
  few = omega (arith, so_far.few, (enters.gap []).0);
  stands = enters.within;
  left = enters.none;
  farthest = enters.as_far;
}

pub stops_inside : (read : List ℕ) (from at start : ℕ) (inside : Option Inside) (count : ℕ) (i : Inside) (part : OpenPart)
    → ComesTo read from at inside count → EntersAt read at start i → WaitsBehind read i.delims i.part.at part
    → Advances read from (record {
      scout = record { at = start; inside = Some (record { delims = i.delims; part = part }) };
      count = count;
    })
stops_inside read from at start inside count i part so_far enters waits =
    let its : IsInside read start i = enters.inside in
    record {
      whole = so_far.whole ++ [];
      chain = λ more. chain_joined (read ++ more) from at start so_far.whole [] (so_far.chain more) (enters.gap more);
      count = so_far.is ∙ ap (λ (xs : List Extent). length xs) (sym (append-nil so_far.whole));
      few = omega (arith, so_far.few, (enters.gap []).0);
      stands = record {
        head = its.head;
        delims = its.delims;
        behind = omega (arith, its.behind, waits.later);
        goes_on = λ more. its.goes_on more ∙ waits.goes_on more;
        open_part = waits.open_part;
      };
      left = ap (λ d. end_from read d (start + 106)) (sym its.delims)
          ∙ goes_now read i.delims (start + 106) i.part.at its.goes_on
          ∙ goes_now read i.delims i.part.at part.at waits.goes_on ∙ waits.unknown;
      farthest = waits.short;
    }

-- an interchange that isn't looked at yet
pub fresh_inside : (read : List ℕ) (start : ℕ) (i : Inside) → is_head read start ≡ true → i.delims ≡ header_delims (header_at read start)
    → i.part.at ≡ start + 106 → i.part.lead ≡ start + 106 → i.part.seen ≡ start + 106 → IsInside read start i
fresh_inside read start i head delims at lead seen =
    let fits : start + 106 ≤ length read = head_within read start head in
    record {
      head = head;
      delims = delims;
      behind = omega arith;
      goes_on = λ more. ap (end_from (read ++ more) i.delims) (sym at);
      open_part = record {
        order = omega arith;
        later = omega arith;
        within = omega arith;
        line_ends = λ k lt. absurd (omega (arith, lt, at, lead));
        none = λ k lt. absurd (omega (arith, lt, at, seen));
      };
    }

gaps_joined : (read : List ℕ) (a b c : ℕ) → IsGap read a b → IsGap read b c → IsGap read a c
gaps_joined read a b c first second = λ more. chain_joined (read ++ more) a b c [] [] (first more) (second more)

pub enters_from : (read : List ℕ) (from start : ℕ) (e : Entered) → IsGap read from start → Enters read start e → Enters read from e
enters_from read from start (Open s i) gap enters = record { gap = gaps_joined read from start s gap enters.gap; inside = enters.inside }
enters_from read from start (Wait at) gap enters = record {
  gap = gaps_joined read from start at gap enters.gap;
  within = enters.within;
  none = enters.none;
  as_far = enters.as_far;
}

pub enters_next : (read : List ℕ) (from start : ℕ) (e : Entered) → IsNextHead read from start → Enters read start e → Enters read from e
enters_next read from start e next enters =
    enters_from read from start e (gap_to read from start next (head_within read start next.head)) enters

pub enters_none : (read : List ℕ) (from at : ℕ) → NoneRead read from at → EntersNone read from at
enters_none read from at none = record {
  gap = gap_of read from at none.gap;
  within = none.gap.1;
  none = none.none;
  as_far = none.as_far;
}
