use Rattle.std.proofs.Common.{◌+◌, List, arith, subst, sym, take}
use Rattle.std.specs.List.{AllZip}
use Rattle.day_files.specs.declared.file.DayFile.{DayFile}
use Rattle.day_files.specs.declared.member.Member.{Member}
use Rattle.hub_night.specs.Day.{IsMemberOf}
use Rattle.hub_folder.proofs.ForAbove.{zip_more}
use Rattle.hub_night.proofs.day.members_of.Goals as goal

pub loop-i-preserved : goal.loop-i-preserved
loop-i-preserved g c =
    let files : List DayFile = c.args.files.now in
    let judged = IsMemberOf c.args.setting.now c.args.older.now c.args.papers.now in
    subst (AllZip judged (take (c.loop-i.i + 1) files)) (sym c.in_ok-push.ensures)
    (zip_more judged files c.loop-i.members.items c.loop-i.i c.index-files-i.result c.in_ok-member.member (omega (arith))
    c.index-files-i.is c.loop-i.invariant c.in_ok-member.ensures.member)
