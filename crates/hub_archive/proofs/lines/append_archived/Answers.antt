use Rattle.std.proofs.Common.{◌∙◌, List, ℕ, ap, ◌++◌}
use Rattle.hub_archive.proofs.Appending.{five}
use Rattle.hub_archive.proofs.lines.append_archived.Goals as goal

pub returns : goal.returns
returns c =
    five _ _ _ _ _ _ _ _ _ _ _ c.in_ok-extend_from_slice.ensures.items
    (c.in_ok-extend_from_slice-2.ensures.items
    ∙ ap (λ (l : List ℕ). c.extend_from_slice.new.self.items ++ l) (c.as_bytes.ensures.value ∙ c.format.ensures.text))
    c.in_ok-extend_from_slice-3.ensures.items c.in_ok-append_shown.ensures c.in_ok-extend_from_slice-4.ensures.items
