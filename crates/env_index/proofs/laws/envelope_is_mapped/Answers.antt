use Rattle.env_index.proofs.Mapped.{derives_mapped, derives_before}
use Rattle.env_index.proofs.laws.envelope_is_mapped.Goals as goal

pub returns-clause-there : goal.returns-clause-there
returns-clause-there g c = λ kind other f keeps segs b derives. derives_mapped kind other f keeps segs b derives

pub returns-clause-back : goal.returns-clause-back
returns-clause-back g c = λ kind other f keeps segs tree derives. derives_before kind other f keeps segs tree derives
