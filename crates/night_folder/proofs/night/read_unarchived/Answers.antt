use Rattle.std.proofs.Common.{◌∙◌, ℕ, List, ap, subst}
use Rattle.std.proofs.lemmas.Result.{IfOk-weaker}
use Rattle.system_io.specs.Outbox.{path_in}
use Rattle.night_folder.specs.Nights.{AreFilesAt}
use Rattle.night_folder.proofs.night.read_unarchived.Goals as goal

pub returns : goal.returns
returns g c =
    IfOk-weaker c.read_of.result _ _
    (λ read of. record {
      files = c.in_ok-files.files;
      at =
          subst (λ (folder : List ℕ). AreFilesAt folder c.in_ok-files.files)
          (c.as_slice-2.ensures ∙ c.in_ok-folder.ensures ∙ ap (path_in c.args.nights.now) c.as_slice.ensures)
          c.in_ok-files.ensures;
      read_is = of;
    })
    c.read_of.ensures
