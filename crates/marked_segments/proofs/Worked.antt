-- Which bytes are odd, both ways.
use Rattle.std.specs.Prelude.{◌≡◌, refl, false, true, Some, None}
use Rattle.x12_bytes.specs.declared.delims.Delims.{Delims}
use Rattle.marked_segments.specs.Marks.{is_beyond, is_odd}

-- element *, component >, repetition ^, terminator ~
abbrev four : Delims
four = record { element = 42; component = 62; repetition = Some 94; terminator = 126 }

-- the same where ISA11 separates nothing
abbrev three : Delims
three = record { element = 42; component = 62; repetition = None; terminator = 126 }

control_31 : is_beyond 31 ≡ true
control_31 = refl

space_32 : is_beyond 32 ≡ false
space_32 = refl

tilde_126 : is_beyond 126 ≡ false
tilde_126 = refl

delete_127 : is_beyond 127 ≡ true
delete_127 = refl

-- what ends an element or a segment is no odd byte
element_is_not_odd : is_odd four 42 ≡ false
element_is_not_odd = refl

terminator_is_not_odd : is_odd four 126 ≡ false
terminator_is_not_odd = refl

-- a component separator is, and a repetition separator where there is one
component_is_odd : is_odd three 62 ≡ true
component_is_odd = refl

repetition_is_odd : is_odd four 94 ≡ true
repetition_is_odd = refl

caret_is_not_odd : is_odd three 94 ≡ false
caret_is_not_odd = refl

letter_is_not_odd : is_odd four 65 ≡ false
letter_is_not_odd = refl
