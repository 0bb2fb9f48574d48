-- X12.5, interchange control header (ISA), and X12.6, functional group header (GS): the envelope in which the hub sends to a
-- partner of its setup.
use Rattle.std.specs.Prelude.{ℕ}
use Rattle.std.specs.Option.{option_map_or}
use Rattle.x12_bytes.specs.declared.delims.Delims.{Delims}
use Rattle.x12_write.specs.declared.envelope.Envelope.{Envelope}
use Rattle.partner_setup.specs.declared.partner.Partner.{Partner}
use Rattle.partner_setup.specs.declared.rows.HubRow.{HubRow}
use Rattle.partner_setup.specs.declared.rows.Usage.{Usage}
use Rattle.partner_setup.specs.declared.rows.Usage.TheVariants as usage
use Rattle.partner_setup.specs.Setup.{SetupValue}

-- ISA15: `P` or `T`
abbrev pub usage_byte : Usage → ℕ
usage_byte usage.Production = 80
usage_byte usage.Test = 84

-- ISA11: what separates repetitions; `U` where nothing does, as with no partner of a setup
abbrev pub repetition_byte : Delims → ℕ
repetition_byte d = option_map_or (λ (r : ℕ). r) d.repetition 85

-- the hub sends, the partner receives, in the partner's characters
abbrev pub envelope_between : HubRow → Partner → Envelope
envelope_between hub p = record {
  hub_qualifier = hub.qualifier;
  hub_id = hub.id;
  hub_code = hub.code;
  partner_qualifier = p.qualifier;
  partner_id = p.id;
  partner_code = p.code;
  usage = usage_byte hub.usage;
  repetition = repetition_byte p.delims;
  delims = p.delims;
}

abbrev pub envelope_to : SetupValue → Partner → Envelope
envelope_to setup p = envelope_between setup.hub p
