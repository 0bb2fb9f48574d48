use Rattle.std.proofs.Common.{ap, sym, ◌∙◌}
use Rattle.night_shelf.specs.declared.night.NightFile.{NightFile}
use Rattle.hub_tonight.proofs.Refusing.{more_guides, no_more_guides}
use Rattle.hub_tonight.proofs.made.guides_of.Goals as goal

pub returns-in-Err-clause-refused : goal.returns-in-Err-clause-refused
returns-in-Err-clause-refused c =
    no_more_guides c.args.files.now c.loop-i.i c.loop-i.guides.items c.index-files-i.result c.as_slice.result.now c.in-Err.stopped
    c.loop-i-test.true c.index-files-i.is
    (c.as_slice.ensures ∙ ap (λ (f : NightFile). f.bytes) (sym c.index-files-i.is)) c.loop-i.invariant c.in-Err.ensures.refused

pub loop-i-preserved : goal.loop-i-preserved
loop-i-preserved c =
    more_guides c.args.files.now c.loop-i.i c.loop-i.guides.items c.push.new.self.items c.index-files-i.result c.in-Ok.guide
    c.as_slice.result.now c.loop-i-test.true c.index-files-i.is
    (c.as_slice.ensures ∙ ap (λ (f : NightFile). f.bytes) (sym c.index-files-i.is)) c.loop-i.invariant c.in-Ok.ensures.guide
    c.in_ok-push-in-Ok.ensures.items
