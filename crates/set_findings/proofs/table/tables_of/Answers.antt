use Rattle.std.proofs.Common.{ℕ, List, map, subst}
use Rattle.partner_setup.specs.Tables.{KeepsPlaces}
use Rattle.set_findings.specs.Keys.{KeepsGuides, key_at}
use Rattle.set_findings.proofs.Zipped.{zip_more}
use Rattle.set_findings.proofs.table.tables_of.Goals as goal

pub loop-i-preserved : goal.loop-i-preserved
loop-i-preserved c =
    let guides = c.args.guides.now in
    let table = c.in_ok-table_of.field-0 in
    zip_more (KeepsGuides guides) c.args.partners.now c.loop-i.tables.items c.push.new.self.items c.loop-i.i
    c.index-partners-i.result table
    c.loop-i-test.true c.in_ok-push.ensures.items c.loop-i.invariant
    (subst (λ (ps : List ℕ). KeepsPlaces table 0 (map (key_at guides) ps)) c.as_slice.ensures c.in_ok-table_of.ensures)
