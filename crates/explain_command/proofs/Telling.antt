-- What is reported of files one after another is what is reported of all.
use Rattle.std.proofs.Common.{◌++◌, ◌∷◌, [], List, None}
use Rattle.guide_names.specs.Names.{Words}
use Rattle.explain_command.specs.Reports.{AreTold, IsTold}
use Rattle.explain_command.specs.declared.files.FileTold.{FileTold}

pub one_more : (words : Words) (fs : List FileTold) (f : FileTold) → AreTold words fs → IsTold words None f.told → AreTold words (fs ++ f
    ∷ [])
one_more words [] f all is = (is, tt)
one_more words (g ∷ fs) f all is = (all.0, one_more words fs f all.1 is)
