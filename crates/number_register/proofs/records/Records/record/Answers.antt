use Rattle.std.proofs.Common.{sym, subst}
use Rattle.std.specs.Prelude.{Contains}
use Rattle.env_index.specs.Words.{places_of}
use Rattle.number_register.specs.Recording.{Recording}
use Rattle.number_register.proofs.Places.{placed}
use Rattle.number_register.proofs.records.Records.record.Goals as goal

pub key_at-key-requires : goal.key_at-key-requires
key_at-key-requires c =
    placed c.self.inside.index.now c.args.place
    (subst (λ (r : Recording). Contains (places_of r.index) c.args.place) (sym c.self.view_is) c.requires)
