use Rattle.std.proofs.Common.{◌+◌, arith, map, take}
use Rattle.csv.specs.Records.{fields_of}
use Rattle.csv_fields.specs.Csv.{record_text}
use Rattle.track_read.proofs.Growing.{flat_more, taken}
use Rattle.track_read.proofs.table.append_records.Goals as goal

pub loop-i-preserved : goal.loop-i-preserved
loop-i-preserved c =
    flat_more record_text (map fields_of (take c.loop-i.i c.args.rows.now)) (map fields_of (take (c.loop-i.i + 1) c.args.rows.now))
    (fields_of c.index-rows-i.result) c.args.out.now.items c.loop-i.out.items c.append_record.new.out.items
    (taken fields_of c.args.rows.now c.loop-i.i c.index-rows-i.result c.index-rows-i.result (omega (arith)) c.index-rows-i.is)
    c.loop-i.invariant
    c.in_ok-append_record.ensures
