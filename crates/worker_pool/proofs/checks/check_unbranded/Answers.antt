use Rattle.std.proofs.Common.{◌≡◌, ◌++◌, ◌∷◌, [], ℕ, List, map, sym, ap, subst, ◌∙◌}
use Rattle.std.proofs.lemmas.List.{append_assoc, append-nil, map-append}
use Rattle.worker_pool.proofs.Naming.{AreOf, each_more, jobs_are, length_none}
use Rattle.worker_pool.proofs.checks.check_unbranded.Goals as goal

pub loop-named-preserved : goal.loop-named-preserved
loop-named-preserved g c =
    let was = c.loop-named.invariant in
    let done = c.named.inside.done in
    let number = g.K.PlaceJob.number_of in (
      was.0 ∙ ap (λ l. c.loop-named.yielded ++ l) c.in-Some.ensures.steps.0
          ∙ sym (append_assoc c.loop-named.yielded (c.in-Some.named ∷ []) c.next.new.self.rest.items),
      ap (map number) c.in-Ok.ensures.items
          ∙ map-append number c.loop-named.all.items (done ∷ [])
          ∙ ap (λ (l : List ℕ). l ++ number done ∷ []) was.1
          ∙ ap (λ (n : ℕ). c.loop-named.yielded ++ n ∷ []) c.named.view_is,
      subst (AreOf number g.K.PlaceJob.answers g.N.Checks.jobs) (sym c.in-Ok.ensures.items)
          (each_more number g.K.PlaceJob.answers g.N.Checks.jobs c.loop-named.all.items done c.named.invariant was.2),
    )

pub returns : goal.returns
returns g c =
    let was = c.loop-named.invariant in
    let rest = c.loop-named.named-iterator.rest in
    let whole : c.args.list.items ≡ c.loop-named.yielded =
    was.0 ∙ ap (λ l. c.loop-named.yielded ++ l) (length_none rest.items (sym rest.ok.0 ∙ c.in-None.ensures.steps.0))
    ∙ append-nil c.loop-named.yielded in
    let numbers = was.1 ∙ sym whole ∙ c.requires in record {
      done = jobs_are g.K.PlaceJob.number_of g.K.PlaceJob.answers g.N.Checks.jobs c.loop-named.all.items numbers was.2;
      numbers = numbers;
    }
