-- X12.5, interchange control: a mailbox's text as it is held, envelopes in one text and sets beside it (own).
use Rattle.std.specs.Prelude.{ℕ, ◌≡◌, ◌+◌, ◌-◌, ◌≤◌, List, [], ◌∷◌, ◌++◌, map, take, drop, length, slice_range}
use Rattle.x12_write.specs.Group.{texts_in_row}
use Rattle.mailbox.specs.Rendered.{RenderedValue, text_in}
use Rattle.mailbox.specs.declared.woven.Cut.{Cut}

-- envelopes from a place on, with sets at the cuts
abbrev pub woven : (ends : List ℕ) → (from : ℕ) → List Cut → List RenderedValue → List ℕ
woven ends from [] sets = drop from ends
woven ends from (c ∷ cuts) sets =
    slice_range ends from c.at ++ texts_in_row (map text_in (take c.sets sets)) ++ woven ends c.at cuts (drop c.sets sets)

-- cuts one after the other, from a place on, of envelopes of this many bytes, with this many sets in all
abbrev pub AreCuts : (from size count : ℕ) → List Cut → Type 0
AreCuts from size count [] = (from ≤ size) × (count ≡ 0)
AreCuts from size count (c ∷ cuts) = (from ≤ c.at) × (c.sets ≤ count) × AreCuts c.at size (count - c.sets) cuts

-- these envelopes and cuts were written on, so that after the sets before these sets are, and this text is written
abbrev pub HasWoven : (old : List ℕ) → List Cut → (new : List ℕ) → List Cut → List RenderedValue → List ℕ → Type 0
HasWoven old cuts new more sets text =
    (front : List RenderedValue) → AreCuts 0 (length old) (length front) cuts
    → AreCuts 0 (length new) (length front + length sets) more × (woven new 0 more (front ++ sets) ≡ woven old 0 cuts front ++ text)
