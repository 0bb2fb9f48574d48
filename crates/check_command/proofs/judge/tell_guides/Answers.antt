use Rattle.std.proofs.Common.{option_map, rules}
use Rattle.check_command.proofs.Telling.{more_found, more_lines}
use Rattle.check_command.proofs.judge.tell_guides.Goals as goal

pub loop-file-preserved : goal.loop-file-preserved
loop-file-preserved c = record {
  lines =
      more_lines c.args.given.now c.loop-file.file-index c.loop-file.lines.items c.push.new.self.items c.file-item.result
      c.in_ok-line.field-0.line c.loop-file-test.true c.file-item.is c.loop-file.invariant.lines (search rules) c.in_ok-push.ensures.items;
  guides =
      more_found c.args.given.now c.loop-file.file-index (option_map (λ v. v.items) c.loop-file.guides)
      (option_map (λ v. v.items) c.in_ok-guides.guides) c.file-item.result c.in_ok-line.field-0.guide c.loop-file-test.true c.file-item.is
      c.loop-file.invariant.guides (search rules) c.in_ok-guides.ensures;
}
