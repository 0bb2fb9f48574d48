-- What is told is what was done.
use Rattle.std.proofs.Common.{◌≡◌, ◌≤◌, ℕ, List, Option, Some, Result, Ok, Err, inl}
use Rattle.std.specs.Prelude.{IfOk}
use Rattle.clap.specs.Words.{Text}
use Rattle.hub_command.specs.CommandLine.{Request, request_in}
use Rattle.hub_command.specs.Program.{IsDone, IsDoneAndTold, IsPrinted, IsRun, IsTold}
use Rattle.hub_folder.specs.declared.failure.Failure.{Failure}
use Rattle.hub_folder.specs.declared.told.Told.{Told}

pub done_and_told : (words : List Text) (request : Request) (result : Result Told Failure) (status : ℕ) (was is : Option (List ℕ))
    → request_in words ≡ Some request → IfOk result (IsDone request) → IsTold result status was is → IsRun words status was is
done_and_told words request (Ok told) status was is asked done printed =
    inl (record { request = request; asked = asked; told = told; done = done; printed = printed })
done_and_told words request (Err failure) status was is asked done printed = absurd printed
