use Rattle.std.proofs.Common.{slice_index, sym, arith}
use Rattle.std.proofs.lemmas.List.Sums.{prefix_len-drop_all}
use Rattle.gather_files.specs.Causes.{is_other}
use Rattle.gather_files.proofs.elements.element_len.Goals as goal

pub returns-else-start-file : goal.returns-else-start-file
returns-else-start-file c =
    sym (prefix_len-drop_all (is_other (slice_index c.args.file.now 3)) c.args.file.now _
    (omega (arith, c.if-start-file.false, c.separator_place-start.ensures.value)))
