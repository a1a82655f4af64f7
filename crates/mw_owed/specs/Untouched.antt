-- Members whose slots get nothing of an effect.
use Rattle.std.specs.Prelude.{◌≡◌, [], length}
use Rattle.mw_model.specs.Seed.{Seed}
use Rattle.mw_protocol.specs.Checks.{locations_in}
use Rattle.mw_protocol.specs.Connecting.{Member}
use Rattle.mw_effects.specs.News.{items_for}
use Rattle.mw_effects.specs.Parts.{news_of, paid_by}
use Rattle.mw_effects.specs.declared.effect.Effect.{Effect}

-- none of its locations is checked, none of its items found, and it pays for no hint
pub record IsUntouched (e : Effect) (m : Member) : Type 0 where
  pub locations : length (locations_in m.team m.slot (news_of e)) ≡ 0
  pub paid : paid_by e m.team m.slot ≡ 0
  pub items : (seed : Seed) → items_for seed m (news_of e) ≡ []
