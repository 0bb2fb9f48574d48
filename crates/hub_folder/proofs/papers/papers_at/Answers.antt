use Rattle.std.proofs.Common.{◌∙◌, List, ℕ, ap, codes, subst, sym}
use Rattle.system_io.specs.Outbox.{path_in}
use Rattle.night_folder.specs.Files.{FileValue}
use Rattle.night_shelf.specs.declared.night.NightFile.{NightFile}
use Rattle.hub_folder.specs.Papers.{AreGuidesAt, IsReadFile}
use Rattle.hub_folder.proofs.papers.papers_at.Goals as goal

pub returns-clause-papers : goal.returns-clause-papers
returns-clause-papers g c =
    let hub = c.args.hub.now in
    record {
      setup_at = ap (λ (f : FileValue). f.path) c.setup.view_is ∙ c.in_ok-setup.ensures.at;
      setup_read = subst (λ (f : FileValue). IsReadFile f.bytes) (sym c.setup.view_is) c.in_ok-setup.ensures.read;
      guides =
          subst (λ (l : List NightFile). AreGuidesAt (path_in hub (codes "guides")) l) (sym c.from_vec.ensures)
          (subst (λ (f : List ℕ). AreGuidesAt f c.in_ok-guides.guides.items) c.in_ok-path_in.ensures c.in_ok-guides.ensures.guides);
      first_at = c.in_ok-first_at.ensures.at;
      first_read = c.in_ok-first_at.ensures.read;
    }
