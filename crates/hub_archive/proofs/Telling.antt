-- What is told is what was done.
use Rattle.std.proofs.Common.{◌≡◌, List, Option, Some, Result, Ok, Err, inl, ℕ}
use Rattle.std.specs.Prelude.{IfOk}
use Rattle.clap.specs.Words.{Text}
use Rattle.hub_folder.specs.declared.told.Told.{Told}
use Rattle.hub_archive.specs.CommandLine.{Request, request_in}
use Rattle.hub_archive.specs.Program.{IsArchivedHub, IsRun, IsTold}
use Rattle.hub_archive.specs.declared.refusal.Refusal.{Refusal}

pub done_and_told : (words : List Text) (request : Request) (result : Result Told Refusal) (was is : Option (List ℕ))
    → request_in words ≡ Some request → IfOk result (IsArchivedHub request) → IsTold result was is → IsRun words was is
done_and_told words request (Ok told) was is asked done printed =
    inl (record { request = request; asked = asked; told = told; done = done; printed = printed })
done_and_told words request (Err refusal) was is asked done printed = absurd printed
