use Rattle.std.proofs.Common.{ℕ, ◌+◌, List, Option, Some, drop, map, sym, ap, ◌∙◌, Bor}
use Rattle.std.proofs.lemmas.List.{drop_all, drop_more}
use Rattle.set_documents.specs.Documents.{DocumentValue}
use Rattle.set_documents.specs.Given.{behind, document_of, documents_of, usual, with_first}
use Rattle.set_documents.proofs.Behind.{behind_none, behind_snoc, behind_some}
use Rattle.set_documents.proofs.given.documents_of.Goals as goal

abbrev read : List (Bor (List ℕ)) → List (List ℕ)
read texts = map (λ (t : Bor (List ℕ)). t.now) texts

pub returns-in-None : goal.returns-in-None
returns-in-None c =
    let texts = c.args.texts.now in
    let i : ℕ = c.loop-text.text-index in
    let rest = documents_of (read (drop (i + 1) texts)) in
    let named = sym c.in-None.is ∙ c.document_of.ensures ∙ ap document_of c.as_bytes.ensures.value in
    sym (behind_none c.loop-text.found.items)
    ∙ ap (λ (o : Option DocumentValue). behind c.loop-text.found.items (with_first o rest)) named
    ∙ sym (ap (λ (ts : List (Bor (List ℕ))). behind c.loop-text.found.items (documents_of (read ts)))
    (drop_more texts i _ c.loop-text-test.true))
    ∙ c.loop-text.invariant

pub loop-text-preserved : goal.loop-text-preserved
loop-text-preserved c =
    let texts = c.args.texts.now in
    let i : ℕ = c.loop-text.text-index in
    let rest = documents_of (read (drop (i + 1) texts)) in
    let named = sym c.in-Some.is ∙ c.document_of.ensures ∙ ap document_of c.as_bytes.ensures.value in
    ap (λ (ds : List DocumentValue). behind ds rest) c.in_ok-push-in-Some.ensures.items
    ∙ behind_snoc c.loop-text.found.items c.in-Some.document rest
    ∙ ap (λ (o : Option DocumentValue). behind c.loop-text.found.items (with_first o rest)) named
    ∙ sym (ap (λ (ts : List (Bor (List ℕ))). behind c.loop-text.found.items (documents_of (read ts)))
    (drop_more texts i _ c.loop-text-test.true))
    ∙ c.loop-text.invariant

pub returns : goal.returns
returns c =
    let texts = c.args.texts.now in
    ap (λ (ds : List DocumentValue). Some ds) c.in_ok-add_usual.ensures
    ∙ sym (behind_some c.loop-text.found.items usual)
    ∙ sym (ap (λ (ts : List (Bor (List ℕ))). behind c.loop-text.found.items (documents_of (read ts)))
    (drop_all c.loop-text.text-index texts c.loop-text-test.false))
    ∙ c.loop-text.invariant
