use Rattle.std.proofs.Common.{◌∙◌, List, ap, arith}
use Rattle.std.proofs.lemmas.List.{take_all}
use Rattle.night_definition.specs.Interchanges.{text_of}
use Rattle.day_files.specs.Members.{input_of}
use Rattle.day_files.specs.declared.member.Member.{Member}
use Rattle.day_files.proofs.Joining.{input_more, lines_more, read_each}
use Rattle.day_files.proofs.joined.join.Goals as goal

pub loop-i-preserved : goal.loop-i-preserved
loop-i-preserved c =
    let members : List Member = c.args.members.now in
    let member : Member = c.index-members-i.result in
    record {
      input = input_more members c.loop-i.i member c.loop-i.joined.input.items c.add.new.joined.input.items (omega (arith))
          c.index-members-i.is c.loop-i.invariant.input c.in_ok-add.ensures.input;
      lines = lines_more members c.loop-i.i member c.loop-i.joined.input.items c.loop-i.joined.lines.items c.add.new.joined.lines.items
          (omega (arith)) c.index-members-i.is c.loop-i.invariant.input c.loop-i.invariant.lines c.in_ok-add.ensures.lines;
    }

pub returns-clause-alone : goal.returns-clause-alone
returns-clause-alone c each =
    let members : List Member = c.args.members.now in
    ap text_of (c.loop-i.invariant.input ∙ ap input_of (take_all c.loop-i.i members (omega (arith)))) ∙ read_each members each
