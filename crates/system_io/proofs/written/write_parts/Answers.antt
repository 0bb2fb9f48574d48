use Rattle.std.proofs.Common.{◌≤◌, ◌++◌, ◌∙◌, ℕ, List, ap, length, rules}
use Rattle.std.proofs.lemmas.Result.{on_ok_weaker}
use Rattle.system_io.proofs.Parts.{all_written, part_kept, part_written}
use Rattle.system_io.proofs.written.write_parts.Goals.{then-len-part-lt-TOGETHER+in_ok-extend_from_slice}
use Rattle.system_io.proofs.written.write_parts.Goals.{else-len-part-lt-TOGETHER+in_ok-write_all+in_ok-write_all-2}
use Rattle.system_io.proofs.written.write_parts.Goals as goal

pub loop-i-preserved : goal.loop-i-preserved
loop-i-preserved g c =
    let was = c.loop-i.invariant in
    let parts : List (List ℕ) = c.args.parts.now in
    let part : List ℕ = c.index-parts-i.result in
    let row : List ℕ = c.loop-i.row.items in
    elim c.if-len-part-lt-TOGETHER.branch [
      | then-len-part-lt-TOGETHER+in_ok-extend_from_slice w ↦ rw (w.file-is, w.row-is)
          (part_kept parts c.loop-i.i part c.loop-i-test.true c.index-parts-i.is (g.F.Write.contents c.args.file.now)
          (g.F.Write.contents c.loop-i.file) was.0 row was.1 was.2 w.extend_from_slice.new.self.items
          (w.in_ok-extend_from_slice.ensures.items ∙ ap (λ (l : List ℕ). row ++ l) c.bytes-part.ensures))
      | else-len-part-lt-TOGETHER+in_ok-write_all+in_ok-write_all-2 w ↦ rw (w.file-is, w.row-is)
          (part_written parts c.loop-i.i part c.loop-i-test.true c.index-parts-i.is (g.F.Write.contents c.args.file.now)
          (g.F.Write.contents c.loop-i.file) was.0 row was.1 was.2 (g.F.Write.contents w.write_all.new.self)
          (g.F.Write.contents w.write_all-else-len-part-lt-TOGETHER.new.self) w.clear-else-len-part-lt-TOGETHER.new.self.items
          w.as_slice.result.now c.bytes-part.result.now w.as_slice.ensures.value c.bytes-part.ensures w.in_ok-write_all.ensures.bytes
          w.in_ok-write_all-2.ensures.bytes w.clear-else-len-part-lt-TOGETHER.ensures.items)
    ]

pub returns : goal.returns
returns g c =
    let was = c.loop-i.invariant in
    let all : length c.args.parts.now ≤ c.loop-i.i = search rules in
    on_ok_weaker c.write_all-2.result (λ is. all_written c.args.parts.now c.loop-i.i (g.F.Write.contents c.args.file.now)
    (g.F.Write.contents c.loop-i.file) (g.F.Write.contents c.write_all-2.new.self) was.0 c.loop-i.row.items c.as_slice-2.result.now was.1
    was.2 all c.as_slice-2.ensures.value is) c.write_all-2.ensures.bytes
