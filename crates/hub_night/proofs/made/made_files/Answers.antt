use Rattle.std.proofs.Common.{◌∙◌, ◌∷◌, ◌++◌, List, ap, codes, map}
use Rattle.kept_files.specs.Files.{file}
use Rattle.night_shelf.specs.declared.night.NightFile.{NightFile}
use Rattle.hub_night.specs.Made.{guide_file}
use Rattle.hub_night.proofs.Lists.{laid}
use Rattle.hub_night.proofs.made.made_files.Goals as goal

pub returns : goal.returns
returns c =
    let guides = map guide_file c.args.guides.now in
    let setup : NightFile = file (codes "from/setup.toml") c.args.setup.now in
    laid c.new-files.result.items c.push.new.self.items c.push_guides.new.files.items c.push-2.new.self.items c.append.new.self.items
    c.in_ok-copied_file.field-0 c.in_ok-file_of.field-0 guides c.args.came c.new-files.ensures.items c.in_ok-push.ensures.items
    c.in_ok-push_guides.ensures c.in_ok-push-2.ensures.items
    (c.in_ok-append.ensures.items ∙ ap (λ (l : List NightFile). c.push-2.new.self.items ++ l) c.into_vec-came.ensures)
    ∙ ap (λ (f : NightFile). f ∷ (guides ++ c.in_ok-file_of.field-0 ∷ c.args.came)) c.in_ok-copied_file.ensures
    ∙ ap (λ (f : NightFile). setup ∷ (guides ++ f ∷ c.args.came)) c.in_ok-file_of.ensures
