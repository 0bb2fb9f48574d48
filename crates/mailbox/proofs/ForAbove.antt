-- The lemmas of this crate on which those above it stand.
pub use Rattle.mailbox.proofs.BoxTexts.{some_left}
pub use Rattle.mailbox.proofs.Crossing.{judged_sync, setup_sync}
pub use Rattle.mailbox.proofs.Growing.{by_route, groups_snoc, not_delivered, nothing_leaves, sets_snoc}
pub use Rattle.mailbox.proofs.Rendering.{boxes_rendered}
pub use Rattle.mailbox.proofs.Replacing.{length_set, same_at, set_here, set_there, take_one_more, there_is}
pub use Rattle.mailbox.proofs.Sending.{delivered_here, not_sent, sent_snoc, to_target}
pub use Rattle.mailbox.proofs.Tallied.{groups_are_counted}
