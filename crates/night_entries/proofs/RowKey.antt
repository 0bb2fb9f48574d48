-- The key of a row that says delivered, by the cells of the row.
use Rattle.std.proofs.Common.{◌≡◌, ℕ, ◌&&◌, Bool, true, false, not, List, Option, Some, Bor, option_map, refl, sym, ap, subst}
use Rattle.std.proofs.Common.{◌∙◌}
use Rattle.std.specs.Prelude.{is_some}
use Rattle.csv_fields.specs.declared.columns.TheConstants as column
use Rattle.night_definition.specs.Header.{header_at}
use Rattle.hub_kinds.specs.Numbers.{value_of}
use Rattle.hub_ledger.specs.declared.entry.AddressNumbers.{AddressNumbers}
use Rattle.night_entries.specs.Good.{has_byte, has_key, is_offset}
use Rattle.night_entries.specs.Keys.{cell, set_key}
use Rattle.night_entries.specs.ReadFault.{IsTrackFault}
use Rattle.night_entries.specs.declared.fault.EntryFault.{EntryFault}
use Rattle.night_entries.specs.declared.fault.EntryFault.TheVariants as fault

second_fails : (first second rest : Bool) (e : EntryFault) → IsTrackFault second e → IsTrackFault (first && (second && rest)) e
second_fails first second rest fault.Memory bad = tt
second_fails first second rest (fault.Unreadable other) bad =
    (bad.0, ap (λ (b : Bool). first && (b && rest)) bad.1 ∙ never first)
  where
    never : (b : Bool) → (b && false) ≡ false
    never true = refl
    never false = refl

-- an offset that is none is enough
pub offset_fails : (input : List ℕ) (receiver : List ℕ → Option AddressNumbers) (row : List (List ℕ)) (offset : List ℕ)
    → offset ≡ cell row column.OFFSET → (e : EntryFault) → IsTrackFault (is_offset input offset) e
    → IsTrackFault (has_key input receiver row) e
offset_fails input receiver row offset is e bad =
    second_fails (is_some (receiver (cell row column.RECEIVER))) (is_offset input (cell row column.OFFSET))
    (not (has_byte 0 (cell row column.GS06)) && not (has_byte 0 (cell row column.ST02))) e
    (subst (λ (text : List ℕ). IsTrackFault (is_offset input text) e) is bad)

-- the receiver that was found is the one that the row names
pub receiver_found : (receiver : List ℕ → Option AddressNumbers) (name text : List ℕ) (found : Option (Bor AddressNumbers))
    (row : Bor AddressNumbers) → found ≡ Some row → option_map (λ (item : Bor AddressNumbers). item.now) found ≡ receiver name
    → name ≡ text → Some row.now ≡ receiver text
receiver_found receiver name text found row is by same =
    sym (ap (option_map (λ (item : Bor AddressNumbers). item.now)) is) ∙ by ∙ ap receiver same

both_hold : (first second rest : Bool) → first ≡ true → second ≡ true → (first && (second && rest)) ≡ rest
both_hold first second rest one two =
    ap (λ (b : Bool). b && (second && rest)) one ∙ ap (λ (b : Bool). b && rest) two

-- with a receiver and an offset, GS06 and ST02 decide
pub texts_decide : (input : List ℕ) (receiver : List ℕ → Option AddressNumbers) (row : List (List ℕ)) (address : AddressNumbers)
    (offset group set : List ℕ) → Some address ≡ receiver (cell row column.RECEIVER) → offset ≡ cell row column.OFFSET
    → is_offset input offset ≡ true → group ≡ cell row column.GS06 → set ≡ cell row column.ST02
    → has_key input receiver row ≡ (not (has_byte 0 group) && not (has_byte 0 set))
texts_decide input receiver row address offset group set receiver_is offset_is good group_is set_is =
    both_hold (is_some (receiver (cell row column.RECEIVER))) (is_offset input (cell row column.OFFSET))
    (not (has_byte 0 (cell row column.GS06)) && not (has_byte 0 (cell row column.ST02)))
    (ap (λ (o : Option AddressNumbers). is_some o) (sym receiver_is))
    (subst (λ (text : List ℕ). is_offset input text ≡ true) offset_is good)
    ∙ ap (λ (text : List ℕ). not (has_byte 0 text) && not (has_byte 0 (cell row column.ST02))) (sym group_is)
    ∙ ap (λ (text : List ℕ). not (has_byte 0 group) && not (has_byte 0 text)) (sym set_is)

-- the key by the cells
pub key_same : (input : List ℕ) (receiver : List ℕ → Option AddressNumbers) (row : List (List ℕ)) (address : AddressNumbers)
    (header offset group set : List ℕ) → Some address ≡ receiver (cell row column.RECEIVER) → header ≡ header_at input (value_of offset)
    → offset ≡ cell row column.OFFSET → group ≡ cell row column.GS06 → set ≡ cell row column.ST02
    → set_key header group set (Some address)
    ≡ set_key (header_at input (value_of (cell row column.OFFSET))) (cell row column.GS06) (cell row column.ST02)
    (receiver (cell row column.RECEIVER))
key_same input receiver row address header offset group set receiver_is header_is offset_is group_is set_is =
    let there = header_at input (value_of (cell row column.OFFSET)) in
    ap (λ (h : List ℕ). set_key h group set (Some address))
    (header_is ∙ ap (λ (text : List ℕ). header_at input (value_of text)) offset_is)
    ∙ ap (λ (text : List ℕ). set_key there text set (Some address)) group_is
    ∙ ap (λ (text : List ℕ). set_key there (cell row column.GS06) text (Some address)) set_is
    ∙ ap (λ (o : Option AddressNumbers). set_key there (cell row column.GS06) (cell row column.ST02) o) receiver_is
