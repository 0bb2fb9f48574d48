use Rattle.std.proofs.Common.{[], List, ℕ, arith, get_or, refl}
use Rattle.std.specs.Borrow.{Bor}
use Rattle.night_record.proofs.Listed.{file_at}
use Rattle.night_record.proofs.files.each_file.Goals as goal

pub returns-in-None : goal.returns-in-None
returns-in-None c = record {
  files = λ files can same. (
      let d : Bor (List ℕ) = record { ref_ptr = (0, 0); now = [] } in
      let x : Bor (List ℕ) = get_or c.args.lines.now c.loop-i.i d in
      let at = file_at c.args.lines.now files c.loop-i.i x d (omega (arith)) refl same can in
      let none = rw c.in-None.is at c.in_ok-file.ensures.file in
      none at.file at.can_be at.line_is
      );
}
