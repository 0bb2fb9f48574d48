-- X12.5, ISA: how long a header is.
use Rattle.std.proofs.Common.{◌≡◌, refl}
use Rattle.x12_bytes.specs.declared.layout.TheConstants.{HEADER_LEN}

header_length : HEADER_LEN ≡ 106
header_length = refl
