use Rattle.std.proofs.Common.{◌≡◌, ◌∙◌, ◌&&◌, ◌+◌, ◌++◌, ◌∷◌, [], Bool, true, false, ℕ, List, ap, append-nil, arith, drop, map, rules, sym}
use Rattle.std.proofs.lemmas.List.{at_drop_all}
use Rattle.csv.specs.Records.{fields_of}
use Rattle.env_index.specs.Index.{IndexEntry}
use Rattle.sets_again.specs.Again.{again_text, part_of}
use Rattle.sets_again.specs.Fits.{rows_fit, table_fits}
use Rattle.sets_again.specs.Rows.{count_at}
use Rattle.sets_again.proofs.Steps.{again_step, table_step}
use Rattle.sets_again.proofs.Walking.{drop_one, written_more}
use Rattle.sets_again.proofs.again.append_all.Goals as goal

pub loop-i-preserved : goal.loop-i-preserved
loop-i-preserved c =
    let index = c.args.index.now in
    let entries : List IndexEntry = index.entries in
    let found : List IndexEntry = c.interchanges-entries.result.now in
    let same : found ≡ entries = c.interchanges-entries.ensures.value in
    let i = c.loop-i.i in
    let entry = c.index-entries-i.result in
    let dropped : drop i entries ≡ entry ∷ drop (i + 1) entries =
    ap (λ (l : List IndexEntry). drop i l) (sym same) ∙ drop_one found i entry (omega (arith)) c.index-entries-i.is
    ∙ ap (λ (l : List IndexEntry). entry ∷ drop (i + 1) l) same in
    let x = c.interchange-interchange.result.now in
    let rest = c.loop-i.rest.now in
    let here = c.parted.result.0.now in
    let after = c.parted.result.1.now in
    let count = c.count_at.result in
    let counted : count ≡ count_at x.start (map fields_of rest) =
    c.count_at.ensures.count ∙ ap (λ (s : ℕ). count_at s (map fields_of rest)) c.start.ensures in
    let others : Bool = table_fits (drop (i + 1) entries) (map fields_of after) in
    let step = table_step fields_of entries rest here after i count entry x dropped c.interchange-interchange.ensures.value counted
    c.parted.ensures.first c.parted.ensures.others in
    let which = c.args.wanted in
    let text : List ℕ = index.text in
    record {
      fits = sym (step ∙ ap (λ (b : Bool). b && others) (sym c.in_ok-append_one.ensures.fits ∙ c.if-not-branch.false))
          ∙ c.loop-i.invariant.fits;
      written = written_more c.loop-i.out.items c.append_one.new.out.items
          (c.args.out.now.items ++ again_text which text entries (map fields_of c.args.rows.now))
          (part_of which text x (map fields_of here)) (again_text which text (drop (i + 1) entries) (map fields_of after))
          (again_text which text (drop i entries) (map fields_of rest)) c.loop-i.invariant.written
          (c.in_ok-append_one.ensures.text
          ∙ ap (λ (t : List ℕ). c.loop-i.out.items ++ part_of which t x (map fields_of here)) c.text-text.ensures)
          (again_step fields_of which text entries rest here after i count entry x dropped c.interchange-interchange.ensures.value counted
          c.parted.ensures.first c.parted.ensures.others);
    }

pub returns-then-not-branch-clause-fits : goal.returns-then-not-branch-clause-fits
returns-then-not-branch-clause-fits c =
    let index = c.args.index.now in
    let entries : List IndexEntry = index.entries in
    let found : List IndexEntry = c.interchanges-entries.result.now in
    let same : found ≡ entries = c.interchanges-entries.ensures.value in
    let i = c.loop-i.i in
    let entry = c.index-entries-i.result in
    let dropped : drop i entries ≡ entry ∷ drop (i + 1) entries =
    ap (λ (l : List IndexEntry). drop i l) (sym same) ∙ drop_one found i entry (omega (arith)) c.index-entries-i.is
    ∙ ap (λ (l : List IndexEntry). entry ∷ drop (i + 1) l) same in
    let x = c.interchange-interchange.result.now in
    let rest = c.loop-i.rest.now in
    let here = c.parted.result.0.now in
    let after = c.parted.result.1.now in
    let count = c.count_at.result in
    let counted : count ≡ count_at x.start (map fields_of rest) =
    c.count_at.ensures.count ∙ ap (λ (s : ℕ). count_at s (map fields_of rest)) c.start.ensures in
    let others : Bool = table_fits (drop (i + 1) entries) (map fields_of after) in
    let step = table_step fields_of entries rest here after i count entry x dropped c.interchange-interchange.ensures.value counted
    c.parted.ensures.first c.parted.ensures.others in
    sym (sym c.loop-i.invariant.fits ∙ step
    ∙ ap (λ (b : Bool). b && others) (sym c.in_ok-append_one.ensures.fits ∙ c.if-not-branch.true))
