use Rattle.std.proofs.Common.{sym, subst}
use Rattle.env_index.specs.Words.{places_of}
use Rattle.work_core.specs.Complete.{AreOnce}
use Rattle.number_register.specs.Recording.{IsFull, Recording}
use Rattle.number_register.proofs.Once.{all_once}
use Rattle.number_register.proofs.records.Records.recorded_once.Goals as goal

pub returns-clause-once : goal.returns-clause-once
returns-clause-once c =
    let s = c.self.inside in
    let full = subst (λ (r : Recording). IsFull r) (sym c.self.view_is) c.requires in
    subst (λ (r : Recording). AreOnce (places_of r.index) r.recorded) c.self.view_is
    (all_once (places_of s.index.now) s.recorded.items c.self.invariant.once c.self.invariant.listed full)
