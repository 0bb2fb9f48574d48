use Rattle.env_index.proofs.IndexPlacing.{places_one}
use Rattle.env_index.proofs.laws.places_are_index_places.Goals as goal

pub returns : goal.returns
returns c = λ knows index. places_one knows 1 index.entries
