use Rattle.std.proofs.Common.{◌∙◌, List, ℕ, ap, codes, subst}
use Rattle.std.proofs.lemmas.Result.{on_ok_weaker}
use Rattle.std.specs.List.{AllZip, filter_map}
use Rattle.hub_ledger.specs.declared.entry.NightEntry.{NightEntry}
use Rattle.system_io.specs.Outbox.{path_in}
use Rattle.night_folder.specs.Files.{first_line}
use Rattle.night_folder.specs.Nights.{IsRead, bad_in, entry_in}
use Rattle.night_marks.specs.declared.bad.BadFile.{BadFile}
use Rattle.night_review.specs.GoingOn.{GoOn}
use Rattle.hub_folder.specs.Older.{map_now}
use Rattle.hub_adopt.proofs.old.check_old.Goals as goal

pub returns : goal.returns
returns g c =
    let limit = c.args.limit.now in
    let order = map_now c.args.order.now in
    let reads = c.in_ok-reads.reads.items in
    on_ok_weaker c.check_read.result
    (λ go. record {
      reads = reads;
      read_by = subst (λ (n : List ℕ). AllZip (IsRead n) order reads) c.as_bytes.ensures.value c.in_ok-reads.ensures;
      last = c.in_ok-last.last;
      last_at = c.in_ok-last.ensures ∙ ap (λ (n : List ℕ). path_in n (codes ".last")) c.as_bytes-2.ensures.value;
      go_on =
          subst (λ (n : List ℕ). GoOn limit n order (filter_map entry_in reads) (filter_map bad_in reads))
          (c.first_line.ensures ∙ ap first_line c.bytes_or_none.ensures)
          (subst (λ (l : List NightEntry). GoOn limit c.first_line.result.now order l (filter_map bad_in reads))
          (c.as_slice.ensures.value ∙ c.in_ok-entries.ensures.entries)
          (subst (λ (l : List BadFile). GoOn limit c.first_line.result.now order c.as_slice.result.now l)
          (c.as_slice-2.ensures.value ∙ c.in_ok-entries.ensures.bad) go));
    })
    c.check_read.ensures
