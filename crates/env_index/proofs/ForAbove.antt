-- The lemmas of this crate on which those above it stand.
pub use Rattle.env_index.proofs.EndingTrees.{derived_ends}
pub use Rattle.env_index.proofs.Few.{are_few}
pub use Rattle.env_index.proofs.IndexPlacing.{places_one}
pub use Rattle.env_index.proofs.LeastEnd.{least_end}
pub use Rattle.env_index.proofs.Mapped.{derives_before, derives_mapped}
pub use Rattle.env_index.proofs.Nexting.{no_head_ahead}
pub use Rattle.env_index.proofs.OneChain.{chain_from_is_one}
pub use Rattle.env_index.proofs.OneIndex.{index_is_one}
pub use Rattle.env_index.proofs.Spanned.{group_has_spans, interchange_has_spans}
pub use Rattle.env_index.proofs.Standing.{all_alone}
pub use Rattle.env_index.proofs.Surround.{head_letter, head_within, no_head_past, nothing_counted}
