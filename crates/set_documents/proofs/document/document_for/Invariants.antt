use Rattle.std.proofs.Common.{◌≡◌, drop}
use Rattle.set_documents.specs.Documents.{document_for}
use Rattle.set_documents.proofs.document.document_for.Given as goal

abbrev pub invariant-loop-document : goal.invariant-loop-document
invariant-loop-document l = document_for (drop l.document-index l.documents) l.identifier ≡ document_for l.documents l.identifier
