use Rattle.std.proofs.Common.{◌≡◌, List, ℕ, Option, length, ap, subst, sym, ◌∙◌}
use Rattle.hub_kinds.specs.declared.interchange.InterchangeFault.{InterchangeFault}
use Rattle.env_index.specs.Words.{IndexValue, settled, with_faults}
use Rattle.partner_setup.specs.Setup.{SetupValue}
use Rattle.set_answers.specs.Settled.{faults_with}
use Rattle.set_answers.proofs.ForAbove.{settled_spans}
use Rattle.set_findings.specs.Alone.{faults_alone, index_alone}
use Rattle.set_findings.proofs.ForAbove.{alone_long, settled_long, settled_twice, with_long}
use Rattle.night_stream.proofs.Bounds.{room_for}
use Rattle.night_batches.specs.Writing.{IsBatchWritten}
use Rattle.night_stream.proofs.carried.add_without_workers.Goals as goal

-- an index that is settled twice has the faults 1 to 9
once : (setup : SetupValue) (numbers : List (List ℕ)) (plain alone new : IndexValue) (fs : List (Option InterchangeFault))
    → alone ≡ index_alone setup plain → new ≡ settled alone fs → fs ≡ faults_with setup numbers plain.entries → new ≡ settled plain fs
once setup numbers plain alone new fs is settles told =
    settles ∙ ap (λ (i : IndexValue). settled i fs) is
    ∙ settled_twice setup plain fs
    (ap (λ (l : List (Option InterchangeFault)). length l) told ∙ with_long setup numbers plain.entries)

pub settle-requires : goal.settle-requires
settle-requires c =
    let plain : IndexValue = c.in_ok-index.index in
    let setup = c.args.setup.now in
    ap (λ (fs : List (Option InterchangeFault)). length fs)
    (c.as_slice.ensures.value ∙ c.in_ok-settled.ensures.faults c.requires.numbers.0 c.requires.numbers.1)
    ∙ with_long setup c.requires.numbers.0 plain.entries
    ∙ sym (ap (λ (i : IndexValue). length i.entries) c.in_ok-settled.ensures.index
    ∙ settled_long plain.entries (faults_alone setup plain.entries) (alone_long setup plain.entries))

pub add_batch-requires-clause-spans : goal.add_batch-requires-clause-spans
add_batch-requires-clause-spans c =
    settled_spans c.args.batch.now c.in_ok-index.index c.settle.new.self c.as_slice.result.now c.in_ok-index.ensures
    (once c.args.setup.now c.requires.numbers.0 c.in_ok-index.index c.settle_after.new.index c.settle.new.self c.as_slice.result.now
    c.in_ok-settled.ensures.index c.settle.ensures
    (c.as_slice.ensures.value ∙ c.in_ok-settled.ensures.faults c.requires.numbers.0 c.requires.numbers.1))

pub add_batch-requires-clause-room : goal.add_batch-requires-clause-room
add_batch-requires-clause-room c =
    room_for c.args.setup.now c.args.at.now c.args.base c.args.carried.writing c.args.batch.now c.in_ok-index.index c.settle.new.self
    c.as_slice.result.now c.requires.room c.requires.few c.in_ok-index.ensures
    (once c.args.setup.now c.requires.numbers.0 c.in_ok-index.index c.settle_after.new.index c.settle.new.self c.as_slice.result.now
    c.in_ok-settled.ensures.index c.settle.ensures
    (c.as_slice.ensures.value ∙ c.in_ok-settled.ensures.faults c.requires.numbers.0 c.requires.numbers.1))

pub returns : goal.returns
returns c =
    let plain : IndexValue = c.in_ok-index.index in
    let setup = c.args.setup.now in
    let at : List ℕ = c.args.at.now in
    let old = c.args.carried.writing in
    let new = c.in_ok-writing.writing in
    record {
      index = plain;
      read = c.in_ok-index.ensures;
      written = λ numbers known.
          subst (λ (t : List ℕ). IsBatchWritten t setup at c.args.base (with_faults plain.entries (faults_with setup numbers plain.entries))
          plain.outside old new) c.in_ok-index.ensures.same
          (subst (λ (i : IndexValue). IsBatchWritten i.text setup at c.args.base i.entries i.outside old new)
          ((once c.args.setup.now c.requires.numbers.0 c.in_ok-index.index c.settle_after.new.index c.settle.new.self c.as_slice.result.now
          c.in_ok-settled.ensures.index c.settle.ensures
          (c.as_slice.ensures.value ∙ c.in_ok-settled.ensures.faults c.requires.numbers.0 c.requires.numbers.1))
          ∙ ap (settled plain) (c.as_slice.ensures.value ∙ c.in_ok-settled.ensures.faults numbers known))
          c.in_ok-writing.ensures);
      seen = c.in_ok-settled.ensures.numbers;
    }
