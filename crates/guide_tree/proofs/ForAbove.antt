-- The lemmas of this crate on which those above it stand.
pub use Rattle.guide_tree.proofs.Ambiguous.{ordered}
pub use Rattle.guide_tree.proofs.Among.{In, all_at, any_found}
pub use Rattle.guide_tree.proofs.Behind.{view_loop}
pub use Rattle.guide_tree.proofs.FitBoth.{fits_both}
pub use Rattle.guide_tree.proofs.Judged.{accepted, each_passes}
pub use Rattle.guide_tree.proofs.NodeViews.{nodes_view-drop}
pub use Rattle.guide_tree.proofs.Pairs.{pair_is}
pub use Rattle.guide_tree.proofs.RivalPlaces.{Stand, stand_all, stand_next}
