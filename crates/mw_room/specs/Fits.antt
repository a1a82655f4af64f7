-- A plan that was made of a room.
use Rattle.std.specs.Prelude.{ℕ, ◌<◌, ◌≤◌, ◌+◌, ◌^◌, ◌∷◌, [], List, length, get_or, vec_len}
use Rattle.mw_base.specs.Space.{HasSpace}
use Rattle.mw_checks.specs.Log.{HasLogRoom}
use Rattle.mw_hints.specs.Room.{HasHintRoom}
use Rattle.mw_storage.specs.Stored.{HasStoreRoom}
use Rattle.mw_effects.specs.Parts.{IsLogged, keys_in}
use Rattle.mw_effects.specs.declared.effect.Effect.{Effect}
use Rattle.mw_room.specs.declared.growths.Growths.{Growths}
use Rattle.mw_room.specs.declared.plan.Plan.{Plan}
use Rattle.mw_room.specs.declared.room.Room.{Room}
use Rattle.mw_room.specs.declared.session.Change.{Change}
use Rattle.mw_room.specs.declared.session.Session.{Session}

-- by ascending index from one on, each within the sessions and with the memory for its text
abbrev pub ChangesFit : ℕ → List Session → List Change → Type 0
ChangesFit from ss [] = Unit {0}
ChangesFit from ss (c ∷ cs) =
    (from ≤ c.at) × (c.at < length ss)
    × ((d : Session) → HasSpace (get_or ss c.at d).untaken c.growth 1) × ChangesFit (c.at + 1) ss cs

-- the memory for an effect, and for so many new sessions
pub record HasGrowths (room : Room) (effect : Effect) (new : ℕ) (growths : Growths) : Type 0 where
  pub log : HasLogRoom room.standing.log growths.log (length effect.new)
  pub hints : HasHintRoom room.standing.hints growths.hints (length effect.hints)
  pub keys : HasStoreRoom room.standing.store growths.store (keys_in effect.stored)
  pub statuses : HasSpace room.standing.statuses growths.statuses 1
  pub sessions : HasSpace room.sessions growths.sessions new

-- it has the memory that it needs, and its parts are what its records come to
pub record Fits (room : Room) (plan : Plan) : Type 0 where
  pub growths : HasGrowths room plan.effect (vec_len plan.new_sessions) plan.growths
  pub changes : ChangesFit 0 room.sessions.items plan.changes.items
  pub opened : plan.opened ≤ 2 ^ 63
  pub logged : IsLogged room.standing plan.effect
