-- The lines of a night's report (own): words, each but the first after a space, and LF.
use Rattle.std.specs.Prelude.{ℕ, ◌==◌, Bool, ◌&&◌, List, [], ◌∷◌, ◌++◌, Option, Some, None, length, codes, decimal, if◌then◌else◌}
use Rattle.std.specs.List.{flat_map}
use Rattle.x12_bytes.specs.Header.{field_of}
use Rattle.hub_kinds.specs.Words.{fault_text, is_number, group_verdict_text}
use Rattle.hub_kinds.specs.declared.interchange.InterchangeFault.{InterchangeFault}
use Rattle.hub_kinds.specs.declared.limits.TheConstants.{MOST_CONTROL_DIGITS}
use Rattle.hub_kinds.specs.declared.set_codes.GroupVerdict.{GroupVerdict}
use Rattle.night_report.specs.declared.totals.Totals.{Totals}

-- each word after a space
abbrev pub spaced : List (List ℕ) → List ℕ
spaced words = flat_map (λ word. 32 ∷ word) words

abbrev pub line : (first : List ℕ) → List (List ℕ) → List ℕ
line first words = first ++ spaced words ++ 10 ∷ []

-- ISA13 is nine digits
abbrev pub has_nine_digits : (header : List ℕ) → Bool
has_nine_digits header = (length (field_of header 13) == 9) && is_number MOST_CONTROL_DIGITS (field_of header 13)

-- ISA13 where it is nine digits
abbrev pub control_shown : (header : List ℕ) → List ℕ
control_shown header = if has_nine_digits header then field_of header 13 else codes "?"

abbrev pub end_words : Option InterchangeFault → List (List ℕ)
end_words None = codes "accepted" ∷ []
end_words (Some fault) = codes "refused" ∷ fault_text fault ∷ []

-- interchange n of a text, counted from 1, at an offset: its sender's name, its control number, and whether it is refused
abbrev pub interchange_line : (n start : ℕ) → (name control : List ℕ) → Option InterchangeFault → List ℕ
interchange_line n start name control fault = line (codes "interchange")
    (decimal n ∷ codes "at" ∷ decimal start ∷ codes "from" ∷ name ∷ codes "control" ∷ control ∷ end_words fault)

-- this many interchange acknowledgments (TA1) that were received; nothing where there are none
abbrev pub ta1_line : (ta1s : ℕ) → List ℕ
ta1_line ta1s = if ta1s == 0 then [] else line (codes "ta1") (decimal ta1s ∷ [])

-- the interchange acknowledgment (TA1) that an interchange is answered with: its code and its note
abbrev pub sent_line : (code note : List ℕ) → List ℕ
sent_line code note = line (codes "ta1") (codes "sent" ∷ code ∷ note ∷ [])

-- a group that acknowledges something itself: GS06, and its sets
abbrev pub fa_line : (control : List ℕ) → (sets : ℕ) → List ℕ
fa_line control sets = line (codes "group") (codes "FA" ∷ control ∷ codes "listed" ∷ codes "sets" ∷ decimal sets ∷ [])

-- any other group: GS01, GS06, AK901, its sets, and how many of them are accepted (AK904)
abbrev pub verdict_line : (id control verdict : List ℕ) → (sets accepted : ℕ) → List ℕ
verdict_line id control verdict sets accepted = line (codes "group")
    (id ∷ control ∷ verdict ∷ codes "sets" ∷ decimal sets ∷ codes "accepted" ∷ decimal accepted ∷ [])

abbrev pub answered_line : (id control : List ℕ) → GroupVerdict → (sets accepted : ℕ) → List ℕ
answered_line id control verdict sets accepted = verdict_line id control (group_verdict_text verdict) sets accepted

-- a set that is held: its number in its group, counted from 1, and why
abbrev pub held_line : (ordinal : ℕ) → (reason : List (List ℕ)) → List ℕ
held_line ordinal reason = line (codes "held") (codes "set" ∷ decimal ordinal ∷ reason)

-- the last line: what was counted, and how many bytes are outside interchanges
abbrev pub total_line : Totals → (outside : ℕ) → List ℕ
total_line t outside = line (codes "total")
    (codes "interchanges" ∷ decimal t.interchanges ∷ codes "refused" ∷ decimal t.refused ∷ codes "groups" ∷ decimal t.groups
    ∷ codes "sets" ∷ decimal t.sets ∷ codes "accepted" ∷ decimal t.accepted ∷ codes "held" ∷ decimal t.held
    ∷ codes "outside" ∷ decimal outside ∷ [])
