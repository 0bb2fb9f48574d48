use Rattle.std.proofs.Common.{◌≡◌, ◌+◌, ◌-◌, ℕ, get_or, arith}
use Rattle.std.proofs.Math.Logic.{∥∥₁_map}
use Rattle.env_index.proofs.KnownSegs.{read_behind}
use Rattle.env_index.proofs.mark_parts.MarkParts.read_part.Goals as goal

pub invariant_of-self : goal.invariant_of-self
invariant_of-self c =
    let s = c.args.self.now in
    let start : ℕ = c.in-Segment.start in
    let end : ℕ = c.in-Segment.end in
    let lies = c.in-Segment.ensures.within in
    let byte : get_or s.text.now (end + 1 - 1) 0 ≡ s.terminator
    = read_behind s.text.now s.terminator s.at start end s.within lies c.in-Segment.ensures.next in
    record {
      within = omega (arith, lies.2);
      marked = s.marked;
      next = ∥∥₁_map s.marked (λ all. c.known_in-self.ensures s.text.now all byte);
    }
