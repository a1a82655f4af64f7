-- What new checks and hints give a member.
use Rattle.std.specs.Prelude.{ℕ, ◌++◌, List, Bool, length, filter, if◌then◌else◌}
use Rattle.mw_model.specs.Items.{NetItem}
use Rattle.mw_model.specs.Seed.{Seed}
use Rattle.mw_checks.specs.Log.{Log, view_of}
use Rattle.mw_protocol.specs.Checks.{Check, items_found, keeps, locations_in}
use Rattle.mw_protocol.specs.Connecting.{Member}
use Rattle.mw_protocol.specs.Messages.{ServerPacket}
use Rattle.mw_protocol.specs.Owed.{items_from, update_with}
use Rattle.mw_protocol.specs.Standing.{points}
use Rattle.mw_effects.specs.Parts.{standing_of, grown, news_of}
use Rattle.mw_effects.specs.declared.effect.Effect.{Effect}
use Rattle.mw_effects.specs.declared.standing.Standing.{Standing}

-- the items that checks give a member, as its mask keeps them
abbrev pub items_for : Seed → Member → List Check → List NetItem
items_for seed m checks = filter (keeps m.mask m.slot) (items_found seed m.team m.slot checks)

abbrev pub view_for : Log → Member → List NetItem
view_for log m = view_of log m.mask m.team m.slot

-- all of a member's view, or what new checks add to it
abbrev pub received_in : Bool → Log → Member → List Check → List ServerPacket
received_in whole log m news =
    if whole then items_from 0 (view_for log m ++ items_for log.seed m news)
    else items_from (length (view_for log m)) (items_for log.seed m news)

-- the points of a member's slot, and once an effect is done
abbrev pub points_before : Standing → Member → ℕ
points_before s m = points s.log.seed (standing_of s) m.team m.slot

abbrev pub points_after : Standing → Effect → Member → ℕ
points_after s e m = points s.log.seed (grown s e) m.team m.slot

-- what a member is owed once an effect is done, beside the answer to its own packet and what is told to several
abbrev pub growth_in : Bool → Standing → Effect → Member → List ServerPacket
growth_in whole s e m =
    update_with (points_before s m) (points_after s e m) (locations_in m.team m.slot (news_of e))
    ++ received_in whole s.log m (news_of e)
