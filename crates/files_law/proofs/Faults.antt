-- X12.5, interchange: what an interchange without fault has in its headers, and what its delimiters are.
use Rattle.std.proofs.Common.{◌≡◌, ℕ, Bool, true, false, not, List, [], ◌∷◌, length, Option, Some, None, refl, sym, ap, subst, ◌∙◌}
use Rattle.std.proofs.Common.{eqb-true}
use Rattle.std.specs.Prelude.{◌&&◌, ◌||◌, ◌==◌, slice_index, if◌then◌else◌}
use Rattle.std.specs.Char.{is_ascii_alphanumeric}
use Rattle.std.specs.List.{All, list_all}
use Rattle.std.proofs.lemmas.Bool.{and_parts, both_ways, false_from_ne_true, or_parts}
use Rattle.std.proofs.lemmas.List.Elements.{All-cons, All-head, All-nil, All-tail}
use Rattle.std.proofs.lemmas.List.Sums.{AllPass-from_list_all}
use Rattle.hub_kinds.specs.Words.{is_word}
use Rattle.hub_kinds.specs.declared.interchange.InterchangeFault.{InterchangeFault}
use Rattle.x12_bytes.specs.Bytes.{is_letter_or_digit, is_line_end, may_separate, may_terminate}
use Rattle.x12_bytes.specs.Header.{IsHeader, component_separator_of, header_delims, element_separator_of, header_at, terminator_of}
use Rattle.x12_bytes.specs.declared.delims.Delims.{Delims}
use Rattle.x12_bytes.proofs.ForAbove.{decides_head}
use Rattle.x12_segs.specs.Words.{SegValue}
use Rattle.x12_write.specs.Delimiters.{is_this}
use Rattle.env_index.specs.Words.{ChainFrom, GroupEntry, IndexEntry, IndexValue, InterchangeEntry, IsEntryOf, IsIndex, control_number}
use Rattle.env_index.specs.Words.{counts_groups}
use Rattle.env_index.specs.Words.{extents_of, fault_by, fault_of, fault_of_headers, fault_with, has_control, has_set_headers}
use Rattle.env_index.specs.Words.{is_group_header}
use Rattle.env_index.specs.Words.{settled, with_faults}
use Rattle.mailbox.specs.Mailbox.{mapped, mapped_byte}
use Rattle.night_law.proofs.ForAbove.{map_none}

abbrev Have : InterchangeEntry → Type 0
Have x =
    (list_all (λ (g : GroupEntry). is_group_header g.header) x.content.groups ≡ true) × (list_all has_set_headers x.content.groups ≡ true)

both_pass : (a b : Bool) (f g : InterchangeFault) → (if not a then Some f else if not b then Some g else None) ≡ None
    → (a ≡ true) × (b ≡ true)
both_pass true true f g is = (refl, refl)
both_pass true false f g is = cc
both_pass false b f g is = cc

rest_passes : (a b c : Bool) (f g h : InterchangeFault) (rest : Option InterchangeFault)
    → (if not a then Some f else if not b then Some g else if c then Some h else rest) ≡ None → rest ≡ None
rest_passes true true false f g h rest is = is
rest_passes true true true f g h rest is = cc
rest_passes true false c f g h rest is = cc
rest_passes false b c f g h rest is = cc

by_headers : (x : InterchangeEntry) → fault_of_headers x ≡ None → Have x
by_headers x is =
    both_pass (list_all (λ (g : GroupEntry). is_group_header g.header) x.content.groups) (list_all has_set_headers x.content.groups) _ _ is

by_control : (x : InterchangeEntry) (t : SegValue) (c : Option ℕ) → fault_with x t c ≡ None → Have x
by_control x t None is = cc
by_control x t (Some control) is =
    by_headers x (rest_passes (has_control t control) (counts_groups t (length x.content.groups)) x.content.misplaced _ _ _
    (fault_of_headers x) is)

by_trailer : (x : InterchangeEntry) (o : Option SegValue) → fault_by x o ≡ None → Have x
by_trailer x None is = cc
by_trailer x (Some t) is = by_control x t (control_number x.header) is

pub have_headers : (x : InterchangeEntry) → fault_of x ≡ None → Have x
have_headers x is = by_trailer x x.content.trailer is

-- no delimiter is a letter or a digit
pub record ArePlain (d : Delims) : Type 0 where
  pub element : is_ascii_alphanumeric d.element ≡ false
  pub component : is_ascii_alphanumeric d.component ≡ false
  pub terminator : is_ascii_alphanumeric d.terminator ≡ false
  pub repetition : (b : ℕ) → is_ascii_alphanumeric b ≡ true → is_this d.repetition b ≡ false

not_set : (b : Bool) → not b ≡ true → b ≡ false
not_set true is = cc
not_set false is = refl

ends_plain : (b : ℕ) → may_terminate b ≡ true → is_ascii_alphanumeric b ≡ false
ends_plain b may = (or_parts (is_letter_or_digit b) (b == 32) (not_set (is_letter_or_digit b || b == 32) may)).0

separates_plain : (b : ℕ) → may_separate b ≡ true → is_ascii_alphanumeric b ≡ false
separates_plain b may = ends_plain b (and_parts (may_terminate b) (not (is_line_end b)) may).0

shown_plain : (byte : ℕ) (s other : Bool) → may_separate byte ≡ s → (b : ℕ) → is_ascii_alphanumeric b ≡ true
    → is_this (if s && not other then Some byte else None) b ≡ false
shown_plain byte false other is b letter = refl
shown_plain byte true true is b letter = refl
shown_plain byte true false is b letter =
    false_from_ne_true (byte == b) (λ same. both_ways (is_ascii_alphanumeric byte) (separates_plain byte is)
    (ap is_ascii_alphanumeric (eqb-true byte b same) ∙ letter))

header_plain : (h : List ℕ) → IsHeader h → ArePlain (header_delims h)
header_plain h is =
    let byte : ℕ = slice_index h 82 in
    record {
      element = separates_plain (element_separator_of h) is.element_allowed;
      component = separates_plain (component_separator_of h) is.component_allowed;
      terminator = ends_plain (terminator_of h) is.terminator_allowed;
      repetition = λ b letter.
          shown_plain byte (may_separate byte) (byte == element_separator_of h || byte == component_separator_of h
          || byte == terminator_of h) refl b letter;
    }

abbrev pub HasPlain : IndexEntry → Type 0
HasPlain e = ArePlain (header_delims e.interchange.header)

chain_plain : (text : List ℕ) (from : ℕ) (es : List IndexEntry) → ChainFrom text from (extents_of es) → All (IsEntryOf text) es
    → All HasPlain es
chain_plain text from [] chain are = All-nil HasPlain
chain_plain text from (e ∷ es) chain are =
    let read = (All-head (IsEntryOf text) e es are).read in
    let header : ArePlain (header_delims (header_at text e.interchange.start)) =
    header_plain (header_at text e.interchange.start) ((decides_head text e.interchange.start).0 chain.0.head).1 in
    let own : e.interchange.header ≡ header_at text e.interchange.start = ap (λ (x : InterchangeEntry). x.header) read.read in
    All-cons HasPlain e es (subst (λ (h : List ℕ). ArePlain (header_delims h)) (sym own) header)
    (chain_plain text e.interchange.end es chain.2 (All-tail (IsEntryOf text) e es are))

plain_kept : (es : List IndexEntry) (faults : List (Option InterchangeFault)) → All HasPlain es → All HasPlain (with_faults es faults)
plain_kept [] faults all = all
plain_kept (e ∷ es) [] all = all
plain_kept (e ∷ es) (f ∷ fs) all =
    All-cons HasPlain _ _ (All-head HasPlain e es all) (plain_kept es fs (All-tail HasPlain e es all))

pub settled_plain : (text : List ℕ) (index : IndexValue) (faults : List (Option InterchangeFault)) → IsIndex text index
    → All HasPlain (settled index faults).entries
settled_plain text index faults is = plain_kept index.entries faults (chain_plain text 0 index.entries is.chain is.entries)

-- letters and digits stay what they are
kept_byte : (from to : Delims) → ArePlain from → (b : ℕ) → is_ascii_alphanumeric b ≡ true → mapped_byte from to b ≡ b
kept_byte from to plain b letter =
    let off : (x : ℕ) → is_ascii_alphanumeric x ≡ false → (b == x) ≡ false = λ x other.
    false_from_ne_true (b == x) (λ same. both_ways (is_ascii_alphanumeric x) other
    (sym (ap is_ascii_alphanumeric (eqb-true b x same)) ∙ letter)) in
    four_off (b == from.element) (b == from.component) (b == from.terminator) (is_this from.repetition b) _ _ _ _ b
    (off from.element plain.element) (off from.component plain.component) (off from.terminator plain.terminator) (plain.repetition b letter)
  where
    four_off : (e c t r : Bool) (E C T R b : ℕ) → e ≡ false → c ≡ false → t ≡ false → r ≡ false
        → (if e then E else if c then C else if t then T else if r then R else b) ≡ b
    four_off false false false false E C T R b ne nc nt nr = refl
    four_off true c t r E C T R b ne nc nt nr = cc
    four_off false true t r E C T R b ne nc nt nr = cc
    four_off false false true r E C T R b ne nc nt nr = cc
    four_off false false false true E C T R b ne nc nt nr = cc

pub kept_word : (from to : Delims) → ArePlain from → (x : List ℕ) → is_word 3 3 x ≡ true → mapped from to x ≡ x
kept_word from to plain x word =
    map_none (mapped_byte from to) (λ b. is_ascii_alphanumeric b ≡ true) (kept_byte from to plain) x
    (AllPass-from_list_all is_ascii_alphanumeric x (and_parts _ (list_all is_ascii_alphanumeric x) word).1)
