use Rattle.std.proofs.Common.{subst, sym}
use Rattle.std.specs.Prelude.{Contains}
use Rattle.env_index.specs.Words.{IndexValue, places_of}
use Rattle.number_register.proofs.Places.{placed}
use Rattle.number_register.proofs.register.RecordLock.record_locked.Goals as goal

pub key_at-key-requires : goal.key_at-key-requires
key_at-key-requires g c =
    placed c.args.self.now.index.now c.args.place
    (subst (λ (x : IndexValue). Contains (places_of x) c.args.place) (sym c.args.self.now.named) c.requires)
