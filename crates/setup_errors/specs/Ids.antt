-- X12.5, interchange ids; X12.6, application codes (own): which of a name, a qualifier, an id and a code hasn't its form, and what it is.
use Rattle.std.specs.Prelude.{ℕ, List, [], ◌∷◌, Option, None, Some, if◌then◌else◌}
use Rattle.hub_kinds.specs.Words.{is_word}
use Rattle.partner_setup.specs.SetupFaults.{is_id}
use Rattle.partner_setup.specs.declared.rows.HubRow.{HubRow}
use Rattle.partner_setup.specs.declared.rows.PartnerRow.{PartnerRow}
use Rattle.setup_errors.specs.Sentences.{filled}
use Rattle.setup_errors.specs.declared.words.TheConstants as say

abbrev pub code_cause : (code : List ℕ) → Option (List ℕ)
code_cause code = if is_id 2 15 code then None else Some (filled say.NO_CODE.now (code ∷ []))

abbrev pub id_cause : (id code : List ℕ) → Option (List ℕ)
id_cause id code = if is_id 1 15 id then code_cause code else Some (filled say.NO_ID.now (id ∷ []))

abbrev pub ids_cause : (qualifier id code : List ℕ) → Option (List ℕ)
ids_cause qualifier id code =
    if is_word 2 2 qualifier then id_cause id code else Some (filled say.NO_QUALIFIER.now (qualifier ∷ []))

abbrev pub hub_cause : HubRow → Option (List ℕ)
hub_cause hub = ids_cause hub.qualifier hub.id hub.code

-- the first of a partner's name, qualifier, id and code that hasn't its form
abbrev pub partner_cause : PartnerRow → Option (List ℕ)
partner_cause p =
    if is_word 1 20 p.name then ids_cause p.qualifier p.id p.code else Some (filled say.NO_NAME.now (p.name ∷ []))
