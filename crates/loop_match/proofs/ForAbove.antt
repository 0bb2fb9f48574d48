-- The lemmas of this crate on which those above it stand.
pub use Rattle.loop_match.proofs.Finding.{ended_at, ended_past, stepped_back, stepped_on, stepped_past, stepped_same}
pub use Rattle.loop_match.proofs.Fitting.{behind_is}
pub use Rattle.loop_match.proofs.Indexed.{next_here, next_inside, next_outside}
pub use Rattle.loop_match.proofs.Leading.{placed_given}
pub use Rattle.loop_match.proofs.Numbered.{found_keyed}
pub use Rattle.loop_match.proofs.Passing.{found_step, found_stray, left}
pub use Rattle.loop_match.proofs.Seated.{placed_seated, seated, seated_at, with_slot}
pub use Rattle.loop_match.proofs.Standing.{one_placed}
pub use Rattle.loop_match.proofs.Walking.{all_wider, gone_stray, gone_turn, room_more, step_of, went}
