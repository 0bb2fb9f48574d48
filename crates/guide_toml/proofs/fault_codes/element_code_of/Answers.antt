use Rattle.guide_toml.proofs.FaultCodes.{element_read}
use Rattle.guide_toml.proofs.fault_codes.element_code_of.Goals as goal

pub returns : goal.returns
returns c = element_read c.args.text.now c.code_of.result c.code_of.ensures
