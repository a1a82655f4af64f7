-- What is found once for all sessions.
use Rattle.std.specs.Prelude.{◌≡◌}
use Rattle.mw_model.specs.Seed.{Seed}
use Rattle.mw_effects.specs.declared.effect.Effect.{Effect}
use Rattle.mw_owed.specs.Receivers.{receivers_in}
use Rattle.mw_owed.specs.declared.shared.Shared.{Shared}

-- the packets are those of the effect, and the receivers get what its new checks found
pub record IsShared (seed : Seed) (e : Effect) (s : Shared) : Type 0 where
  pub told : s.tellings.items ≡ e.announced
  pub received : s.receivers.items ≡ receivers_in seed e.new
