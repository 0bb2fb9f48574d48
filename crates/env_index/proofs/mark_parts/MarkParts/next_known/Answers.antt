use Rattle.std.proofs.Common.{◌+◌, List, get_or, length, sym, subst, arith}
use Rattle.std.proofs.lemmas.List.{take_rest}
use Rattle.x12_segs.specs.Words.{LiesIn}
use Rattle.x12_segs.specs.declared.part.Part.TheVariants.{Segment}
use Rattle.env_marks.specs.declared.frag.Mark.{Mark}
use Rattle.env_index.specs.Known.{AreNext, no_mark}
use Rattle.env_index.proofs.KnownSegs.{first_lies, first_part, first_behind}
use Rattle.env_index.proofs.mark_parts.MarkParts.next_known.Goals as goal

pub invariant_of-self : goal.invariant_of-self
invariant_of-self c =
    let s = c.args.self.now in
    let m : Mark = get_or s.known.now 0 no_mark in
    let lies : LiesIn s.at (length s.text.now) (Segment m.start m.end)
    = first_lies s.text.now s.terminator s.at s.known.now c.requires s.next in
    record {
      within = omega (arith, lies.2);
      marked = s.marked;
      next = subst (λ (l : List Mark). ∥ AreNext s.text.now s.terminator (m.end + 1) l ∥₁) (sym (take_rest s.known.now 1))
          (first_behind s.text.now s.terminator s.at s.known.now c.requires s.next);
    }

pub returns-clause-within : goal.returns-clause-within
returns-clause-within c =
    let s = c.args.self.now in
    first_lies s.text.now s.terminator s.at s.known.now c.requires s.next

pub returns-clause-part : goal.returns-clause-part
returns-clause-part c =
    let s = c.args.self.now in
    first_part s.text.now s.terminator s.at s.known.now c.requires s.next
