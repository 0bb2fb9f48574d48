-- The guide file (own): what is said of a text where it stops to be that of a data element's row.
use Rattle.std.specs.Prelude.{ℕ, ◌==◌, List, [], ◌∷◌, ◌++◌, decimal, Option, None, Some, if◌then◌else◌}
use Rattle.guide_toml.specs.declared.stops.ElementStop.{ElementStop}
use Rattle.guide_toml.specs.declared.stops.Wanted.{Wanted}
use Rattle.guide_toml.specs.declared.stops.Wanted.TheVariants as wanted
use Rattle.setup_errors.specs.Sentences.{filled}
use Rattle.key_errors.specs.Shown.{shown_text}
use Rattle.key_errors.specs.declared.words.TheConstants as say

-- what may be there
abbrev pub wanted_words : Wanted → List ℕ
wanted_words wanted.Reference = say.REFERENCE.now
wanted_words wanted.Requirement = say.REQUIREMENT.now
wanted_words wanted.ElementType = say.ELEMENT_TYPE.now
wanted_words wanted.ComponentType = say.COMPONENT_TYPE.now
wanted_words wanted.Shortest = say.SHORTEST.now
wanted_words wanted.Longest = say.LONGEST.now
wanted_words wanted.Options = say.OPTIONS.now
wanted_words wanted.Code = say.CODE.now
wanted_words wanted.UnusedCode = say.UNUSED_CODE.now
wanted_words wanted.Components = say.COMPONENTS.now
wanted_words wanted.End = say.END.now

abbrev pub component_words : (component : ℕ) → List ℕ
component_words component = if component == 0 then [] else filled say.COMPONENT.now (decimal component ∷ [])

-- a token; an empty one is between two spaces, or at an end
abbrev pub token_text : List ℕ → List ℕ
token_text [] = say.SPACE.now
token_text (b ∷ bs) = shown_text (b ∷ bs)

-- a token that can't be there, or the end of the row or the component
abbrev pub token_words : Option (List ℕ) → Wanted → List ℕ
token_words None w = filled say.ENDS.now (wanted_words w ∷ [])
token_words (Some token) w = token_text token ++ filled say.NOT_HERE.now (wanted_words w ∷ [])

abbrev pub stop_words : ElementStop → List ℕ
stop_words stop = component_words stop.component ++ token_words stop.token stop.wanted
