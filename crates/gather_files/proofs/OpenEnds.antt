-- An interchange that is open at the end of bytes ends as its last segment says.
use Rattle.std.proofs.Common.{◌≡◌, ◌∙◌, ℕ, ◌-◌, Bool, true, false, cond, List, take, drop, length}
use Rattle.std.proofs.Common.{Option, Some, Result, Ok, Err, IfOk, sym, ap}
use Rattle.std.proofs.Common.{subst, arith}
use Rattle.std.proofs.lemmas.List.{length-drop, take_all}
use Rattle.x12_bytes.specs.Header.{header_at, header_delims}
use Rattle.x12_bytes.specs.declared.delims.Delims.{Delims}
use Rattle.whole_interchanges.specs.Scouting.{Advances, IsInside, IsLeft, Stands}
use Rattle.whole_interchanges.specs.declared.scout.Advanced.{Advanced}
use Rattle.whole_interchanges.specs.declared.scout.Inside.{Inside}
use Rattle.gather_files.specs.Closing.{IsUntouched, StaysApart}
use Rattle.gather_files.specs.EndsByLayers.{EndsByLayers, EndsOpenByLayers}
use Rattle.gather_files.specs.Trailer.{is_trailer_by_another, last_segment, open_end}
use Rattle.gather_files.specs.declared.closing.Closed.{Closed}
use Rattle.gather_files.specs.declared.gather.End.{End}
use Rattle.gather_files.specs.declared.gather.End.TheVariants as end
use Rattle.gather_files.specs.declared.gather.Separators.{Separators}

by_test : (file closed : List ℕ) (count : ℕ) (b : Bool) (s : Separators)
    → EndsOpenByLayers closed (cond b (end.OtherSeparator s) end.CutOff)
    → EndsByLayers file closed count (cond b (end.OtherSeparator s) end.CutOff)
by_test file closed count true s is = is
by_test file closed count false s is = is

open_so : (file closed : List ℕ) (count : ℕ) (d : Delims) (interchange : List ℕ) → EndsOpenByLayers closed (open_end d interchange)
    → EndsByLayers file closed count (open_end d interchange)
open_so file closed count d interchange is =
    by_test file closed count (is_trailer_by_another d.element (last_segment d.terminator interchange)) _ is

untouched_by : (b : Bool) (s : Separators) → IsUntouched (cond b (end.OtherSeparator s) end.CutOff)
untouched_by true s = tt
untouched_by false s = tt

pub untouched : (d : Delims) (interchange : List ℕ) (e : End) → e ≡ open_end d interchange → IsUntouched e
untouched d interchange e is =
    subst IsUntouched (sym is) (untouched_by (is_trailer_by_another d.element (last_segment d.terminator interchange)) _)

-- what stays as it is stays apart
pub stays : {E : Type 0} (held : List ℕ) (result : Result Closed E) (e : End) → IfOk result (λ c. c.count ≡ 0)
    → IfOk result (λ c. c.end ≡ e) → IsUntouched e → IfOk result (StaysApart held)
stays held (Ok c) e none ends is = λ apart. (none, subst IsUntouched (sym ends) is)
stays held (Err error) e none ends is = tt

rest_all : (xs : List ℕ) (at : ℕ) → take (length xs - at) (drop at xs) ≡ drop at xs
rest_all xs at = take_all (length xs - at) (drop at xs) (omega (arith, length-drop at xs))

pub ends_open : (file read : List ℕ) (count : ℕ) (a : Advanced) (i : Inside) (e : End) → Advances read 0 a
    → a.scout.inside ≡ Some i → e ≡ open_end i.delims (take (length read - a.scout.at) (drop a.scout.at read))
    → EndsByLayers file read count e
ends_open file read count a i e advances inside is =
    let at : ℕ = a.scout.at in
    let stands : IsInside read at i = subst (λ (o : Option Inside). Stands read at o) inside advances.stands in
    let named : e ≡ open_end (header_delims (header_at read at)) (drop at read) =
    is ∙ ap (open_end i.delims) (rest_all read at) ∙ ap (λ (d : Delims). open_end d (drop at read)) stands.delims in
    let ends : EndsOpenByLayers read e = record {
      at = at;
      passes = λ more. (advances.whole, advances.chain more);
      begins = stands.head;
      unended = subst (λ (o : Option Inside). IsLeft read at o) inside advances.left;
      is = named;
    } in
    subst (EndsByLayers file read count) (sym named)
    (open_so file read count (header_delims (header_at read at)) (drop at read) (subst (EndsOpenByLayers read) named ends))
