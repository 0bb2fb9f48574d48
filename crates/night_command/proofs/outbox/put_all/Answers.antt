use Rattle.std.proofs.Common.{ℕ, List, ◌∷◌, [], map, sym, subst, rules}
use Rattle.std.proofs.lemmas.List.{map-append}
use Rattle.std.specs.List.{flat_map}
use Rattle.night_command.specs.Outbox.{AddsFiles, file_of}
use Rattle.night_command.proofs.Files.{add_two, one_more}
use Rattle.night_command.proofs.outbox.put_all.Goals as goal

pub loop-file-preserved : goal.loop-file-preserved
loop-file-preserved g c =
    let before = g.B.Outbox.contents c.args.outbox.now in
    let mid = g.B.Outbox.contents c.loop-file.outbox in
    let after = g.B.Outbox.contents c.put.new.self in
    let done = c.loop-file.yielded in
    let file = c.in-Some.file in
    let held : List (List ℕ) → List ℕ = flat_map (λ (part : List ℕ). part) in
    let added = subst (λ (name : List ℕ). AddsFiles mid after ((name, held file.parts.items) ∷ [])) c.as_slice.ensures
    (subst (λ (parts : List (List ℕ)). AddsFiles mid after ((c.as_slice.result.now, held parts) ∷ [])) c.as_slice-in-loop-file.ensures.value
    c.in-Ok.ensures.files) in
    let put = add_two before mid after (map file_of done) (file_of file ∷ []) c.loop-file.invariant.put added in
    record {
      put = subst (AddsFiles before after) (sym (map-append file_of done (file ∷ []))) put;
      whole = one_more c.into_iter-file-iterator.result.rest.items done c.loop-file.file-iterator.rest.items c.next.new.self.rest.items file
          c.loop-file.invariant.whole c.in-Some.ensures.steps.0;
      faults = search rules;
    }
