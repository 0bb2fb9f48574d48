-- Jobs whose places are those of a list, in order, are at places of it.
use Rattle.std.proofs.Common.{◌≡◌, List, [], ◌∷◌, ◌++◌, map, subst, ◌∙◌}
use Rattle.std.specs.Prelude.{Contains}
use Rattle.std.proofs.lemmas.List.{append_assoc}
use Rattle.std.proofs.lemmas.List.Elements.{All-cons, All-nil, Contains-append_left, Contains-append_right, Contains-push}
use Rattle.hub_kinds.specs.declared.place.Place.{Place}
use Rattle.worker_pool.specs.Jobs.{place_of}
use Rattle.worker_pool.specs.Spans.{ArePlaced}
use Rattle.worker_pool.specs.declared.job.CheckJob.{CheckJob}

placed_from : (jobs : List CheckJob) (front places : List Place) → front ++ map place_of jobs ≡ places → ArePlaced places jobs
placed_from [] front places e = All-nil (λ (j : CheckJob). Contains places j.place)
placed_from (j ∷ jobs) front places e =
    All-cons (λ (x : CheckJob). Contains places x.place) j jobs
    (subst (λ (ps : List Place). Contains ps j.place) e
    (Contains-append_right front (j.place ∷ map place_of jobs) j.place
    (Contains-append_left (j.place ∷ []) (map place_of jobs) j.place (Contains-push [] j.place))))
    (placed_from jobs (front ++ j.place ∷ []) places (append_assoc front (j.place ∷ []) (map place_of jobs) ∙ e))

pub placed_by : (jobs : List CheckJob) (places : List Place) → map place_of jobs ≡ places → ArePlaced places jobs
placed_by jobs places e = placed_from jobs [] places e
