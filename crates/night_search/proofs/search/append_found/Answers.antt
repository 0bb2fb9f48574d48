use Rattle.std.proofs.Common.{◌+◌, arith, map, rules, take}
use Rattle.csv.specs.Records.{fields_of}
use Rattle.night_search.specs.Search.{has_text, line_or_none}
use Rattle.night_search.proofs.Searching.{found_more, lines_more, taken}
use Rattle.night_search.proofs.search.append_found.Goals as goal

pub loop-i-preserved : goal.loop-i-preserved
loop-i-preserved c =
    let rows = c.args.rows.now in
    let row = c.index-rows-i.result in
    let i = c.loop-i.i in
    let more = taken fields_of rows i row (omega (arith)) c.index-rows-i.is in
    record {
      lines = lines_more (line_or_none c.args.text.now c.args.night.now) (map fields_of (take i rows)) (map fields_of (take (i + 1) rows))
          (fields_of row) c.args.out.now.items c.loop-i.out.items c.append_if_found.new.out.items more c.loop-i.invariant.lines
          c.in_ok-has.ensures.lines;
      found = found_more (has_text c.args.text.now) (map fields_of (take i rows)) (map fields_of (take (i + 1) rows)) (fields_of row)
          c.loop-i.found _ c.in_ok-has.has more c.loop-i.invariant.found c.in_ok-has.ensures.found (search rules);
    }
