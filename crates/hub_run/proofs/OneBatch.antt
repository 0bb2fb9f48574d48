-- A night of one batch.
use Rattle.std.proofs.Common.{◌≡◌, ℕ, ◌+◌, ◌<◌, ◌^◌, List, [], length, sym, subst, refl, arith}
use Rattle.std.proofs.lemmas.List.{length-replicate}
use Rattle.partner_setup.specs.Setup.{SetupValue}
use Rattle.env_index.specs.Words.{IndexEntry}
use Rattle.night_batches.proofs.ForAbove.{night_of_written, first_written, nothing_acknowledged}
use Rattle.night_batches.specs.Night.{IsNightOf}
use Rattle.night_batches.specs.Writing.{HasRoomFor, IsBatchWritten, IsClosedBy, IsWrittenOf, WritingValue, nothing_written}
use Rattle.night_batches.specs.declared.night.Night.{Night}

-- before it there is room for as many interchanges and bytes outside as can be counted
pub room_before : (setup : SetupValue) (at : List ℕ) (w : WritingValue) (more others : ℕ) → w ≡ nothing_written setup → more < 2 ^ 64
    → others < 2 ^ 64 → HasRoomFor setup at more others w
room_before setup at w more others nothing few outside =
    subst (HasRoomFor setup at more others) (sym nothing)
    (record {
      before = [];
      files = nothing_acknowledged setup at;
      count = refl;
      boxes = length-replicate (length setup.partners) [];
      few = (let sum : 0 + more < 2 ^ 64 = omega (arith, few) in sum);
      outside = (let sum : 0 + others < 2 ^ 64 = omega (arith, outside) in sum);
    })

-- what it has written
pub written_in : (text : List ℕ) (setup : SetupValue) (at : List ℕ) (entries : List IndexEntry) (others : ℕ) (w : WritingValue)
    → (batch : IsBatchWritten text setup at 0 entries others (nothing_written setup) w)
    → IsWrittenOf text setup at batch.known w × (w.outside ≡ others)
written_in text setup at entries others w batch =
    let sum : w.outside ≡ 0 + others = batch.outside in
    (first_written text setup at entries others (nothing_written setup) w refl batch, omega (arith, sum))

-- closed, it is the night of its interchanges
pub night_in_batch : (text : List ℕ) (setup : SetupValue) (at : List ℕ) (entries : List IndexEntry) (others : ℕ) (w : WritingValue)
    (night : Night) → (batch : IsBatchWritten text setup at 0 entries others (nothing_written setup) w) → IsClosedBy setup at w night
    → IsNightOf text setup at batch.known others night
night_in_batch text setup at entries others w night batch closed =
    let written = written_in text setup at entries others w batch in
    subst (λ (n : ℕ). IsNightOf text setup at batch.known n night) written.1
    (night_of_written text setup at batch.known w written.0 night closed)
