use Rattle.std.proofs.Common.{subst}
use Rattle.archived_nights.specs.Files.{IsFaultOf}
use Rattle.archived_nights.specs.declared.fault.ArchiveFault.{ArchiveFault}
use Rattle.night_folder.proofs.archived.fault_of.Goals as goal

pub returns-in-Wrong : goal.returns-in-Wrong
returns-in-Wrong c mark files papers are is =
    record {
      papers = papers;
      papers_are = are;
      of = c.in-Wrong.file;
      file_is = c.file_of.ensures;
      wrong = subst (λ (f : ArchiveFault). IsFaultOf papers f) c.in-Wrong.is is;
    }
