-- The greatest number of a file of tables (own), by its value.
use Rattle.std.proofs.Common.{◌≡◌, refl}
use Rattle.toml_keys.specs.declared.values.TheConstants.{GREATEST_NUMBER}

greatest_number : GREATEST_NUMBER ≡ 4294967295
greatest_number = refl
