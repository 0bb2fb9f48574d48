-- The lemmas of this crate on which those above it stand.
pub use Rattle.whole_interchanges.proofs.Absent.{is_absent}
pub use Rattle.whole_interchanges.proofs.Chains.{chain_ends, chain_joined, chain_on, chain_read, chain_up_to_end, chain_waits, end_behind}
pub use Rattle.whole_interchanges.proofs.Chains.{end_now}
pub use Rattle.whole_interchanges.proofs.Chains.{end_within, none_behind, whole_chain}
pub use Rattle.whole_interchanges.proofs.Complete.{IsBegun, begun_parts}
pub use Rattle.whole_interchanges.proofs.First.{Leads, first_is, first_start, leads_to_head}
pub use Rattle.whole_interchanges.proofs.Header.{IsOpen, header_done, header_size, rest}
pub use Rattle.whole_interchanges.proofs.Heads.{head_fits, head_kept, head_more, header_kept, none_begins}
pub use Rattle.whole_interchanges.proofs.Looks.{ends_here, goes_now, lead_found, lead_stops, on_empty, passes_on, waits_unended}
pub use Rattle.whole_interchanges.proofs.Mixed.{mixed, mixed_is}
pub use Rattle.whole_interchanges.proofs.Moving.{drop_past, head_past, header_past, kind_moved, rest_past, segs_past, views_moved}
pub use Rattle.whole_interchanges.proofs.MovingEntries.{chain_past, span_of_moved, span_views_past}
pub use Rattle.whole_interchanges.proofs.Parts.{IsPart, closed_stays, end_at_segment, ends_at_head, part_stays, passes_empty}
pub use Rattle.whole_interchanges.proofs.Scouts.{one_whole}
pub use Rattle.whole_interchanges.proofs.Split.{IsSplit, first_byte, from_rest, split_at}
pub use Rattle.whole_interchanges.proofs.Stays.{stands_on}
pub use Rattle.whole_interchanges.proofs.Stepping.{ends, starts, steps}
pub use Rattle.whole_interchanges.proofs.Take.{Clears, same_reach}
pub use Rattle.whole_interchanges.proofs.Whole.{low_within, reach_goes_on}
