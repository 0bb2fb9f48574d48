-- X12.6, code lists (own): codes that can't be meant, and the first such code of a list.
use Rattle.std.specs.Prelude.{ℕ, ◌==◌, Bool, false, ◌&&◌, ◌||◌, not, is_none, List, [], ◌∷◌, Option, Some, None}
use Rattle.std.specs.List.{find, list_any}
use Rattle.std.specs.Option.{option_map_or}
use Rattle.hub_kinds.specs.Words.{contains_text}
use Rattle.guide_tree.specs.Words.{is_within}
use Rattle.guide_tree.specs.declared.element.SimpleRow.{SimpleRow}
use Rattle.guide_tree.specs.declared.slot.Slot.{Slot}
use Rattle.night_definition.specs.Values.{calendar_fault, is_form, value_length}
use Rattle.guide_warnings.specs.declared.warning.At.{At}
use Rattle.guide_warnings.specs.declared.warning.CodeDoubt.{CodeDoubt}
use Rattle.guide_warnings.specs.declared.warning.CodeDoubt.TheVariants as doubt
use Rattle.guide_warnings.specs.declared.warning.Warning.{Warning}
use Rattle.guide_warnings.specs.declared.warning.Warning.TheVariants as warning

-- it has a comma or a stroke
abbrev pub is_joined : List ℕ → Bool
is_joined code = list_any (λ byte. (byte == 44) || ((byte == 47) || (byte == 124))) code

-- its length, as values of the row's type are measured, is one that the row allows
abbrev pub has_length : SimpleRow → List ℕ → Bool
has_length row code = is_within row.min row.max (value_length row.data_type code)

-- it has the bytes that values of the row's type have, and isn't a date or time that doesn't exist
abbrev pub has_form : SimpleRow → List ℕ → Bool
has_form row code = is_form row.data_type row.wide code && is_none (calendar_fault row.data_type code)

-- the row lists it as not used
abbrev pub is_unused : SimpleRow → List ℕ → Bool
is_unused row code = option_map_or (λ c. option_map_or (λ unused. contains_text unused code) c.unused false) row.codes false

-- the row lists codes, and not it
abbrev pub is_not_listed : SimpleRow → List ℕ → Bool
is_not_listed row code = option_map_or (λ c. not (contains_text c.used code)) row.codes false

abbrev pub is_doubtful : CodeDoubt → SimpleRow → List ℕ → Bool
is_doubtful doubt.Joined row code = is_joined code
is_doubtful doubt.OtherForm row code = not (has_form row code)
is_doubtful doubt.OtherLength row code = not (has_length row code)
is_doubtful doubt.AlsoUnused row code = is_unused row code
is_doubtful doubt.NotListed row code = is_not_listed row code

abbrev pub code_warning : Slot → At → CodeDoubt → Option (List ℕ) → List Warning
code_warning s at why None = []
code_warning s at why (Some code) = warning.Code (record { slot = s.number; id = s.id; at = at; doubt = why; code = code }) ∷ []

-- the first of these codes that the doubt is of
abbrev pub code_warnings : Slot → At → CodeDoubt → SimpleRow → (listed : List (List ℕ)) → List Warning
code_warnings s at why row listed = code_warning s at why (find (is_doubtful why row) listed)
