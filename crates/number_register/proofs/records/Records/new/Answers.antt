use Rattle.std.proofs.Common.{rules, ◌≡◌, [], map, length, replicate, None, subst, sym, true, true≢false}
use Rattle.work_core.specs.Complete.{AreOnce}
use Rattle.work_core.specs.Core.{was_recorded}
use Rattle.number_register.specs.Fresh.{fresh_books, fresh_groups}
use Rattle.number_register.specs.Slots.{AreHeld}
use Rattle.number_register.proofs.Holding.{fresh_held}
use Rattle.number_register.proofs.Once.{none_once}
use Rattle.number_register.proofs.records.Records.new.Goals as goal

pub invariant_of-result : goal.invariant_of-result
invariant_of-result c =
    let es = c.args.index.now.entries in
    let inter : c.in_ok-interchanges.interchanges ≡ replicate (length es) None = search rules in
    let group : c.in_ok-groups.groups ≡ map fresh_groups es = search rules in
    let set : c.in_ok-sets.sets.items ≡ map fresh_books es = search rules in
    let none : c.in_ok-recorded.recorded.items ≡ [] = search rules in record {
      places = search rules;
      listed = λ q h. absurd (true≢false (sym (subst (λ r. was_recorded r q ≡ true) none h)));
      once = subst (λ r. AreOnce r r) (sym none) none_once;
      held =
          subst (λ r. AreHeld es r c.in_ok-interchanges.interchanges c.in_ok-groups.groups c.in_ok-sets.sets.items) (sym none)
          (subst (λ i. AreHeld es [] i c.in_ok-groups.groups c.in_ok-sets.sets.items) (sym inter)
          (subst (λ g. AreHeld es [] (replicate (length es) None) g c.in_ok-sets.sets.items) (sym group)
          (subst (λ s. AreHeld es [] (replicate (length es) None) (map fresh_groups es) s) (sym set) (fresh_held es))));
    }
