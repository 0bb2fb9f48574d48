-- X12.6, segment: what a value of marks shows.
use Rattle.std.specs.Prelude.{ℕ, List, []}
use Rattle.env_marks.specs.declared.frag.Frag.{Frag}
use Rattle.env_marks.specs.declared.frag.Mark.{Mark}
use Rattle.env_marks.specs.Marking.{Marking, Uncut, Cut}

-- the stretch up to the first terminator, or the whole piece where there is none
abbrev pub first_shown : Marking → Frag
first_shown (Uncut f) = f
first_shown (Cut f list l) = f

-- where the piece ends
abbrev pub end_shown : Marking → ℕ
end_shown (Uncut f) = f.to
end_shown (Cut f list l) = l.to

-- the segments between the first terminator and the last
abbrev pub list_shown : Marking → List Mark
list_shown (Uncut f) = []
list_shown (Cut f list l) = list
