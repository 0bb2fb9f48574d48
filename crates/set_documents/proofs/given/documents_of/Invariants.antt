use Rattle.std.proofs.Common.{◌≡◌, drop, map}
use Rattle.set_documents.specs.Given.{behind, documents_of}
use Rattle.set_documents.proofs.given.documents_of.Given as goal

-- what is found so far stands before what the texts that are left give
abbrev pub invariant-loop-text : goal.invariant-loop-text
invariant-loop-text l = behind l.found.items (documents_of (map (λ t. t.now) (drop l.text-index l.texts)))
    ≡ documents_of (map (λ t. t.now) l.texts)
