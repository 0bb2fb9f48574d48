-- The guide file (own): the texts of picks, relational conditions, pairs of levels and codes.
use Rattle.std.specs.Prelude.{ℕ, ◌+◌, ◌-◌, ◌*◌, ◌==◌, List, [], ◌∷◌, codes, Option, Some, None, Bool, ◌&&◌}
use Rattle.std.specs.Prelude.{take, drop, if◌then◌else◌, option_map}
use Rattle.std.specs.List.{list_all, position_or_len}
use Rattle.std.specs.Str.{bytes_eq}
use Rattle.std.specs.Char.{is_ascii_digit}
use Rattle.hub_kinds.specs.Words.{is_word, is_segment_id}
use Rattle.hub_kinds.specs.declared.codes.SegmentCode.{SegmentCode}
use Rattle.hub_kinds.specs.declared.codes.SegmentCode.TheVariants as ik304
use Rattle.hub_kinds.specs.declared.codes.ElementCode.{ElementCode}
use Rattle.hub_kinds.specs.declared.codes.ElementCode.TheVariants as ik403
use Rattle.guide_tree.specs.declared.slot.Pick.{Pick}
use Rattle.guide_tree.specs.declared.slot.Condition.{Condition}
use Rattle.guide_tree.specs.declared.slot.Relation.{Relation}
use Rattle.guide_tree.specs.declared.slot.Relation.TheVariants as relation
use Rattle.guide_tree.specs.declared.rows.HlPair.{HlPair}
use Rattle.guide_toml.specs.declared.entry.Form.{Form}
use Rattle.guide_toml.specs.declared.entry.Form.TheVariants as form
use Rattle.toml_keys.specs.Reads.{◌>>=◌}
use Rattle.guide_toml.specs.Tokens.{tokens_of, is_code}
use Rattle.guide_toml.specs.Counts.{count_of}
use Rattle.guide_toml.specs.ElementTexts.{Tokens, next_token}

-- a position, and the codes after it
abbrev pub pick_codes : ℕ → Tokens → Option Pick
pick_codes position ts = if list_all is_code ts then Some (record { position = position; codes = ts }) else None

unfoldable pub pick_of : List ℕ → Option Pick
pick_of text = do
  t ← next_token (tokens_of text)
  position ← count_of t.0
  pick_codes position t.1

abbrev pub relation_of : ℕ → Option Relation
relation_of b =
    if b == 80 then Some relation.Paired
    else (if b == 82 then Some relation.Required
    else (if b == 69 then Some relation.Exclusion
    else (if b == 67 then Some relation.Conditional
    else (if b == 76 then Some relation.ListConditional
    else None))))

-- a position of two digits
abbrev pub position_of : ℕ → ℕ → Option ℕ
position_of a b = if is_ascii_digit a && is_ascii_digit b then Some (10 * (a - 48) + (b - 48)) else None

-- positions of two digits each
abbrev pub positions_of : List ℕ → Option (List ℕ)
positions_of [] = Some []
positions_of (a ∷ []) = None
positions_of (a ∷ b ∷ ds) = position_of a b >>= λ p. option_map (λ ps. p ∷ ps) (positions_of ds)

-- a letter, and positions
abbrev pub condition_of : List ℕ → Option Condition
condition_of [] = None
condition_of (letter ∷ digits) =
    relation_of letter >>= λ r. option_map (λ ps. record { relation = r; positions = ps }) (positions_of digits)

abbrev pub is_slash : ℕ → Bool
is_slash b = b == 47

-- the parent's level; none for a root
abbrev pub parent_of : List ℕ → Option (Option (List ℕ))
parent_of [] = Some None
parent_of (b ∷ bs) = if is_word 1 2 (b ∷ bs) then Some (Some (b ∷ bs)) else None

abbrev pub pair_behind : List ℕ → List ℕ → Option HlPair
pair_behind parent [] = None
pair_behind parent (slash ∷ child) =
    if is_word 1 2 child then option_map (λ p. record { parent = p; child = child }) (parent_of parent) else None

-- PARENT/CHILD
abbrev pub pair_of : List ℕ → Option HlPair
pair_of text = pair_behind (take (position_or_len is_slash text) text) (drop (position_or_len is_slash text) text)

-- 2 or 3 upper-case letters or digits; a code; a label, of 1 to 20 letters or digits
abbrev pub has_form : Form → List ℕ → Bool
has_form form.SegmentId text = is_segment_id text
has_form form.Code text = is_code text

abbrev pub formed : Form → List ℕ → Option (List ℕ)
formed f text = if has_form f text then Some text else None

-- IK304, but for 8
abbrev pub segment_code_of : List ℕ → Option SegmentCode
segment_code_of t =
    if bytes_eq t (codes "1") then Some ik304.UnrecognizedSegment
    else (if bytes_eq t (codes "2") then Some ik304.UnexpectedSegment
    else (if bytes_eq t (codes "3") then Some ik304.RequiredSegmentMissing
    else (if bytes_eq t (codes "4") then Some ik304.LoopTooOften
    else (if bytes_eq t (codes "5") then Some ik304.SegmentTooOften
    else (if bytes_eq t (codes "6") then Some ik304.NotInSet
    else (if bytes_eq t (codes "7") then Some ik304.OutOfSequence
    else (if bytes_eq t (codes "I4") then Some ik304.NotUsedPresent
    else (if bytes_eq t (codes "I6") then Some ik304.DependentMissing
    else (if bytes_eq t (codes "I7") then Some ik304.LoopTooSeldom
    else (if bytes_eq t (codes "I8") then Some ik304.SegmentTooSeldom
    else (if bytes_eq t (codes "I9") then Some ik304.DependentNotUsedPresent
    else None)))))))))))

-- IK403, the codes of implementations
abbrev pub implementation_code_of : List ℕ → Option ElementCode
implementation_code_of t =
    if bytes_eq t (codes "12") then Some ik403.TooManyRepetitions
    else (if bytes_eq t (codes "13") then Some ik403.TooManyComponents
    else (if bytes_eq t (codes "I6") then Some ik403.CodeNotUsed
    else (if bytes_eq t (codes "I9") then Some ik403.DependentMissing
    else (if bytes_eq t (codes "I10") then Some ik403.NotUsedPresent
    else (if bytes_eq t (codes "I12") then Some ik403.PatternFailure
    else (if bytes_eq t (codes "I13") then Some ik403.DependentNotUsedPresent
    else None))))))

-- IK403
abbrev pub element_code_of : List ℕ → Option ElementCode
element_code_of t =
    if bytes_eq t (codes "1") then Some ik403.RequiredMissing
    else (if bytes_eq t (codes "2") then Some ik403.ConditionalMissing
    else (if bytes_eq t (codes "3") then Some ik403.TooManyElements
    else (if bytes_eq t (codes "4") then Some ik403.TooShort
    else (if bytes_eq t (codes "5") then Some ik403.TooLong
    else (if bytes_eq t (codes "6") then Some ik403.InvalidCharacter
    else (if bytes_eq t (codes "7") then Some ik403.InvalidCode
    else (if bytes_eq t (codes "8") then Some ik403.InvalidDate
    else (if bytes_eq t (codes "9") then Some ik403.InvalidTime
    else (if bytes_eq t (codes "10") then Some ik403.ExclusionViolated
    else implementation_code_of t)))))))))
