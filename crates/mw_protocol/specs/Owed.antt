-- What an event owes to a session, by what the records come to before and after.
use Rattle.std.specs.Prelude.{ℕ, ℤ, ◌&&◌, ◌==◌, ◌++◌, ◌∷◌, [], List, Bool, Option, Some, None, length, drop, if◌then◌else◌}
use Rattle.mw_model.specs.Items.{NetItem}
use Rattle.mw_model.specs.Seed.{Seed}
use Rattle.mw_protocol.specs.Checks.{view_in}
use Rattle.mw_protocol.specs.Connecting.{Member}
use Rattle.mw_protocol.specs.Effect.{Effect}
use Rattle.mw_protocol.specs.Heard.{heard_by}
use Rattle.mw_protocol.specs.Messages.{ServerPacket, received_items, room_update}
use Rattle.mw_protocol.specs.Standing.{Standing, checked_of, points}

-- the new locations with the points, where there are some, or the points were others
abbrev pub update_with : ℕ → ℕ → List ℤ → List ServerPacket
update_with before points [] = if before == points then [] else room_update [] points ∷ []
update_with before points (l ∷ ls) = room_update (l ∷ ls) points ∷ []

-- where the slot's checked locations grew, or its points differ
abbrev pub update_owed : Seed → Standing → Standing → Member → List ServerPacket
update_owed seed before after m =
    update_with (points seed before m.team m.slot) (points seed after m.team m.slot)
    (drop (length (checked_of before m.team m.slot)) (checked_of after m.team m.slot))

abbrev pub items_from : ℕ → List NetItem → List ServerPacket
items_from index [] = []
items_from index (i ∷ is) = received_items index (i ∷ is) ∷ []

-- what the session's mask keeps of what its slot received
abbrev pub view_of : Seed → Standing → Member → List NetItem
view_of seed now m = view_in seed m.mask m.team m.slot now.checked

-- the whole view from 0, or where it grew its tail from its length before
abbrev pub items_owed : Bool → Seed → Standing → Standing → Member → List ServerPacket
items_owed whole seed before after m =
    if whole then items_from 0 (view_of seed after m)
    else items_from (length (view_of seed before m))
    (drop (length (view_of seed before m)) (view_of seed after m))

-- what a member is owed beside the answer to its own packet
abbrev pub growth_owed : Bool → Seed → Standing → Standing → Option Member → List ServerPacket
growth_owed whole seed before after None = []
growth_owed whole seed before after (Some m) =
    update_owed seed before after m ++ items_owed whole seed before after m

abbrev pub answers_to : Bool → Effect → List ServerPacket
answers_to sends effect = if sends then effect.answers else []

-- Owed: to a session that is this member after the event, and sent it or not
abbrev pub owed : Seed → Standing → Standing → Effect → Bool → Option Member → List ServerPacket
owed seed before after effect sends member =
    answers_to sends effect ++ growth_owed (effect.whole && sends) seed before after member
    ++ heard_by seed effect.announced sends member
