use Rattle.night_stream.proofs.Placed.{delivered_moved}
use Rattle.night_stream.proofs.Lines.{lines_moved}
use Rattle.night_stream.proofs.Totals.{totals_moved}
use Rattle.night_report.proofs.ForAbove.{lines_joined, totals_joined}
use Rattle.night_stream.proofs.report_laws.reports_go_on.Goals as goal

pub returns-clause-moved : goal.returns-clause-moved
returns-clause-moved c = λ setup before behind n xs all. lines_moved setup before behind n xs all

pub returns-clause-lines : goal.returns-clause-lines
returns-clause-lines c = lines_joined

pub returns-clause-counted : goal.returns-clause-counted
returns-clause-counted c = λ setup before behind xs all. totals_moved setup before behind xs all

pub returns-clause-totals : goal.returns-clause-totals
returns-clause-totals c = totals_joined

pub returns-clause-delivered : goal.returns-clause-delivered
returns-clause-delivered c = λ setup before behind partner xs all. delivered_moved before behind setup partner xs all
