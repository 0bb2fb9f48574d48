-- The night before (own): what the next night takes over of its record and of its table of addresses.
use Rattle.std.specs.Prelude.{◌≡◌, ℕ, List, [], Option, Some, None, codes}
use Rattle.hex.specs.Hex.{encode_lower}
use Rattle.sha2.specs.Sha256.{sha256}
use Rattle.night_folder.specs.Files.{FileValue, in_night}
use Rattle.night_folder.specs.Home.{home_of}
use Rattle.night_marks.specs.declared.mark.NightMark.{NightMark}
use Rattle.night_record.specs.Tables.{addresses_text}
use Rattle.hub_folder.specs.declared.chain.Chain.{Chain}

-- the first night names none
pub record BeginsChain (chain : Chain) : Type 0 where
  pub name : chain.before ≡ []
  pub no_record : chain.before_sum ≡ None
  pub no_address : chain.addresses ≡ []

-- the SHA-256 of a file that was read, in hexadecimal digits
pub record IsSumIn (bytes : Option (List ℕ)) (sum : List ℕ) : Type 0 where
  pub read : List ℕ
  pub bytes_are : bytes ≡ Some read
  pub sum_is : sum ≡ encode_lower (sha256 read)

-- the sum of the record of the last night, and what its table of addresses says; its folder is in `home`
pub record ContinuesChain (home : List ℕ) (last : NightMark) (chain : Chain) : Type 0 where
  pub name : chain.before ≡ last.name
  pub record_file : FileValue
  pub record_at : record_file.path ≡ in_night home last.name (codes "night.toml")
  pub sum : List ℕ
  pub sum_is : IsSumIn record_file.bytes sum
  pub sum_taken : chain.before_sum ≡ Some sum
  pub table : FileValue
  pub table_at : table.path ≡ in_night home last.name (codes "addresses.csv")
  pub table_read : table.bytes ≡ Some (addresses_text chain.addresses)

abbrev pub IsChain : (nights : List ℕ) → Option NightMark → Chain → Type 0
IsChain nights None chain = BeginsChain chain
IsChain nights (Some last) chain = ContinuesChain (home_of nights last) last chain
