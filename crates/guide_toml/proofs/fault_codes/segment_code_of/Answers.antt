use Rattle.std.proofs.Common.{◌∙◌, bytes_eq, sym, ap}
use Rattle.guide_toml.proofs.FaultCodes.{segment_read}
use Rattle.guide_toml.proofs.fault_codes.segment_code_of.Goals as goal

pub returns : goal.returns
returns c =
    let other = ap (bytes_eq c.args.text.now) (sym c.as_slice.ensures) ∙ sym c.eq.ensures ∙ c.if-eq.false in
    segment_read c.args.text.now c.code_of.result c.code_of.ensures other
