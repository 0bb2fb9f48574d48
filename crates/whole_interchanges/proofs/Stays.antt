-- What is known of an open interchange stays where more is read.
use Rattle.std.proofs.Common.{◌≡◌, ℕ, ◌+◌, ◌<◌, ◌≤◌, List, ◌++◌, Option, Some, None}
use Rattle.std.proofs.Common.{length, take, drop, get_or, nat_eq, sym, ap, refl, ◌∙◌, arith}
use Rattle.std.proofs.lemmas.List.{append_assoc, get_or-drop, get_or_append_left, length-append, take_at}
use Rattle.x12_bytes.specs.Bytes.{is_line_end}
use Rattle.x12_bytes.specs.Header.{header_delims, header_at}
use Rattle.x12_bytes.specs.HeaderTest.{is_head}
use Rattle.env_index.proofs.ForAbove.{head_within}
use Rattle.whole_interchanges.specs.Batches.{end_from}
use Rattle.whole_interchanges.proofs.Heads.{head_kept, header_kept}
use Rattle.whole_interchanges.specs.Open.{IsOpen}
use Rattle.whole_interchanges.specs.Scouting.{IsInside, Stands}
use Rattle.whole_interchanges.specs.declared.scout.Inside.{Inside}

same_behind : (read more : List ℕ) (at k : ℕ) → at + k < length read → get_or (drop at (read ++ more)) k 0 ≡ get_or (drop at read) k 0
same_behind read more at k lt =
    get_or-drop at (read ++ more) k 0 ∙ get_or_append_left read more 0 (at + k) lt
    ∙ sym (get_or-drop at read k 0)

inside_stays : (read more : List ℕ) (at : ℕ) (i : Inside) → IsInside read at i → IsInside (read ++ more) at i
inside_stays read more at i is =
    let front : take (length read) (read ++ more) ≡ read = take_at read more (length read) refl in
    let within : length read ≤ length (read ++ more) = omega (arith, length-append read more) in
    let fits : at + 106 ≤ length read = head_within read at is.head in
    let o : IsOpen read i.delims.terminator i.part.at i.part.lead i.part.seen = is.open_part in
    let order : i.part.at ≤ i.part.lead = o.order in
    let later : i.part.lead ≤ i.part.seen = o.later in
    let inner : i.part.seen ≤ length read = o.within in
    record {
      head = sym (head_kept (read ++ more) (length read) within at fits) ∙ ap (λ (r : List ℕ). is_head r at) front ∙ is.head;
      delims = is.delims ∙ ap header_delims (ap (λ (r : List ℕ). header_at r at) (sym front)
          ∙ header_kept (read ++ more) (length read) within at fits);
      behind = is.behind;
      goes_on = λ others. ap (λ (r : List ℕ). end_from r i.delims (at + 106)) (append_assoc read more others)
          ∙ is.goes_on (more ++ others) ∙ ap (λ (r : List ℕ). end_from r i.delims i.part.at) (sym (append_assoc read more others));
      open_part = record {
        order = order;
        later = later;
        within = omega arith;
        line_ends = λ k lt. ap is_line_end (same_behind read more i.part.at k (omega (arith, lt))) ∙ o.line_ends k lt;
        none = λ k lt. ap (λ (b : ℕ). nat_eq b i.delims.terminator) (same_behind read more i.part.at k (omega (arith, lt))) ∙ o.none k lt;
      };
    }

pub stands_on : (read more : List ℕ) (at : ℕ) (inside : Option Inside) → Stands read at inside → Stands (read ++ more) at inside
stands_on read more at None stands = omega (arith, stands, length-append read more)
stands_on read more at (Some i) stands = inside_stays read more at i stands
