use Rattle.hub_command.proofs.Keeping.{made_or_there, status_is_few}
use Rattle.hub_command.proofs.program.run_locked.Goals as goal

pub returns-clause-told : goal.returns-clause-told
returns-clause-told g c =
    let setting = c.setting_of-setting.result in
    record {
      setting = setting;
      setting_is = c.setting_of-setting.ensures.asked;
      intact = c.in_ok-see_intact.ensures.intact;
      done = made_or_there setting _ _ c.in_ok-told.told c.in_ok-told.ensures.done;
    }

pub returns-clause-values : goal.returns-clause-values
returns-clause-values g c = status_is_few c.setting_of-setting.result _ _ c.in_ok-told.told c.in_ok-told.ensures.done
