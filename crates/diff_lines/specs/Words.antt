-- Own: what two guides say otherwise, in the words of guide files.
use Rattle.std.specs.Prelude.{ℕ, List, ◌++◌, codes, decimal, Bool, true, false}
use Rattle.guide_tree.specs.declared.element.ElementType.{ElementType}
use Rattle.guide_tree.specs.declared.element.ElementType.TheVariants.{Text, Identifier, Number, Decimal, Date, Time}
use Rattle.guide_widening.specs.declared.difference.Change.{Change}
use Rattle.guide_widening.specs.declared.difference.Change.TheVariants.{Narrower, Wider, Other}
use Rattle.guide_widening.specs.declared.difference.Key.{Key}
use Rattle.guide_widening.specs.declared.difference.Key.TheVariants as key
use Rattle.guide_widening.specs.declared.difference.Presence.{Presence}
use Rattle.guide_widening.specs.declared.difference.Presence.TheVariants.{Mandatory, Optional, NotUsed}
use Rattle.guide_widening.specs.declared.difference.Value.{Value}
use Rattle.guide_widening.specs.declared.difference.Value.TheVariants as value

abbrev pub change_text : Change → List ℕ
change_text Narrower = codes "narrower "
change_text Wider = codes "wider "
change_text Other = codes "other "

abbrev pub key_text : Key → List ℕ
key_text key.Group = codes "group "
key_text key.Set = codes "set "
key_text key.Version = codes "version "
key_text key.Convention = codes "convention "
key_text key.TolerateSegment = codes "tolerate_segment "
key_text key.TolerateElement = codes "tolerate_element "
key_text key.Hierarchy = codes "hl "
key_text key.Sequential = codes "hl sequential "
key_text key.Pair = codes "hl pairs "
key_text key.Dependency = codes "depends "
key_text key.Node = codes "min to max "
key_text key.Label = codes "label "
key_text key.LeastUse = codes "min "
key_text key.GreatestUse = codes "max "
key_text key.Pick = codes "pick "
key_text key.Condition = codes "condition "
key_text key.Presence = codes "use "
key_text key.Components = codes "components "
key_text key.Repeat = codes "repeat "
key_text key.Type = codes "type "
key_text key.LeastLength = codes "shortest "
key_text key.GreatestLength = codes "longest "
key_text key.Wide = codes "wide "
key_text key.Codes = codes "codes "
key_text key.Code = codes "code "

-- whether HL segments are judged, whether there is a list of codes, and what is true or false
abbrev pub flag_text : Key → Bool → List ℕ
flag_text key.Hierarchy true = codes "given"
flag_text key.Hierarchy false = codes "none"
flag_text key.Codes true = codes "listed"
flag_text key.Codes false = codes "any"
flag_text other true = codes "true"
flag_text other false = codes "false"

abbrev pub presence_text : Presence → List ℕ
presence_text Mandatory = codes "M"
presence_text Optional = codes "O"
presence_text NotUsed = codes "N"

abbrev pub type_text : ElementType → List ℕ
type_text Text = codes "AN"
type_text Identifier = codes "ID"
type_text (Number places) = codes "N" ++ decimal places
type_text Decimal = codes "R"
type_text Date = codes "DT"
type_text Time = codes "TM"

abbrev pub uses_text : (min max : ℕ) → List ℕ
uses_text min max = decimal min ++ (codes " to " ++ decimal max)

-- what one of the guides says
abbrev pub value_text : Key → Value → List ℕ
value_text key value.Nothing = codes "none"
value_text key (value.Number n) = decimal n
value_text key (value.Text text) = text
value_text key (value.Flag flag) = flag_text key flag
value_text key (value.Presence presence) = presence_text presence
value_text key (value.Type type) = type_text type
value_text key (value.Uses min max) = uses_text min max
