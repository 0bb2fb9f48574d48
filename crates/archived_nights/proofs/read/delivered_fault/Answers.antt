use Rattle.std.proofs.Common.{refl, subst}
use Rattle.night_record.specs.Again.{IsAgainFault}
use Rattle.night_record.specs.declared.fault.TableFault.{TableFault}
use Rattle.night_record.specs.declared.fault.TableFault.TheVariants as table
use Rattle.archived_nights.proofs.read.delivered_fault.Goals as goal

pub returns-in-Columns : goal.returns-in-Columns
returns-in-Columns c bytes is =
    (refl, (table.Columns, (λ same. absurd (cc)), subst (λ (f : TableFault). IsAgainFault bytes f) c.in-Columns.is is))

pub returns-in-Rows : goal.returns-in-Rows
returns-in-Rows c bytes is =
    (refl, (table.Rows, (λ same. absurd (cc)), subst (λ (f : TableFault). IsAgainFault bytes f) c.in-Rows.is is))

pub returns-in-Order : goal.returns-in-Order
returns-in-Order c bytes is =
    (refl, (table.Order, (λ same. absurd (cc)), subst (λ (f : TableFault). IsAgainFault bytes f) c.in-Order.is is))
