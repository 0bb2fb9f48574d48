use Rattle.hub_command.proofs.Keeping.{kept_now, made_at, may_leave}
use Rattle.hub_command.proofs.run.run_on.Goals as goal

pub returns-in-Made-clause-done : goal.returns-in-Made-clause-done
returns-in-Made-clause-done g c =
    let setting = c.args.setting.now in
    let made = c.in-Made.made in
    kept_now setting made _ _ c.keep_made.result (made_at setting c.in_ok-found.found made c.in-Made.is c.in_ok-found.ensures.found)
    c.keep_made.ensures.kept

pub returns-in-Made-clause-stopped : goal.returns-in-Made-clause-stopped
returns-in-Made-clause-stopped g c =
    let setting = c.args.setting.now in
    let made = c.in-Made.made in
    may_leave setting made _ _ (made_at setting c.in_ok-found.found made c.in-Made.is c.in_ok-found.ensures.found)
    c.keep_made.ensures.stopped
