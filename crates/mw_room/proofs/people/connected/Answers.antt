use Rattle.std.proofs.Common.{◌≡◌, ℕ, ℤ, ◌+◌, ◌++◌, List, length, map, not, ap, ap₂, ◌∙◌}
use Rattle.std.specs.List.{filter}
use Rattle.mw_model.specs.Seed.{Seed, Held}
use Rattle.mw_multidata.specs.OfSlot.{held_of}
use Rattle.mw_protocol.specs.Asked.{locations_among}
use Rattle.mw_protocol.specs.Connecting.{Member}
use Rattle.mw_protocol.specs.Messages.{NetworkPlayer, NetworkSlot}
use Rattle.mw_protocol.specs.Players.{group_infos, players_of, slot_infos}
use Rattle.mw_protocol.specs.Standing.{is_checked}
use Rattle.mw_effects.specs.Parts.{standing_of}
use Rattle.mw_checks.proofs.Releasing.{own_locations}
use Rattle.mw_room.proofs.people.connected.Goals as goal

pub returns-in-Ok-Ok-Ok-Ok : goal.returns-in-Ok-Ok-Ok-Ok
returns-in-Ok-Ok-Ok-Ok c =
    let s = c.args.standing.now in
    let m = c.args.member.now in
    let seed = s.log.seed in
    let now = standing_of s in
    let is = c.seed.view_is ∙ c.seed-seed.ensures in
    let slots : c.as_slice-slots.result.now ≡ seed.slots = c.as_slice-slots.ensures ∙ ap (λ (d : Seed). d.slots) is in
    let at = ap (λ (x : Member). x.slot) c.member.view_is in
    let own : map (λ (h : Held). h.location) c.locations_of-locations.result.now ≡ locations_among m.slot seed.locations =
    ap (map (λ (h : Held). h.location)) (c.locations_of-locations.ensures ∙ ap₂ (λ (n : ℕ) (d : Seed). held_of n d.locations) at c.seed-seed.ensures)
    ∙ own_locations m.slot seed.locations in
    let players = c.in-Ok-Ok-Ok-Ok.ensures-1 ∙ ap₂ players_of (ap (λ (d : Seed). d.teams) is) slots in
    let missing = c.in-Ok-Ok-Ok-Ok.ensures-1' ∙ ap (filter (λ x. not (is_checked now m.team m.slot x))) own in
    let checked = c.in-Ok-Ok-Ok-Ok.ensures-1'' ∙ ap (filter (λ x. is_checked now m.team m.slot x)) own in
    let team = c.get.ensures.value ∙ ap (λ (x : Member). x.team) c.member.view_is in
    let infos = c.in-Ok-Ok-Ok-Ok.ensures-1''' ∙ ap₂ (λ (t : ℕ) (d : Seed). slot_infos t 1 d.slots ++ group_infos (length d.slots + 1) d.groups) team c.seed-seed.ensures in
    ap₂ (λ (ps : List NetworkPlayer) (ms : List ℤ). record { team = c.member.inside.team; slot = c.member.inside.slot; players = ps; missing_locations = ms; checked_locations = c.in-Ok-Ok-Ok-Ok.checked_locations; slot_info = c.in-Ok-Ok-Ok-Ok.slot_info; hint_points = c.points_of-hint_points.result }) players missing
    ∙ ap₂ (λ (cs : List ℤ) (is1 : List NetworkSlot). record { team = c.member.inside.team; slot = c.member.inside.slot; players = players_of seed.teams seed.slots; missing_locations = filter (λ x. not (is_checked now m.team m.slot x)) (locations_among m.slot seed.locations); checked_locations = cs; slot_info = is1; hint_points = c.points_of-hint_points.result }) checked infos
    ∙ ap₂ (λ (x : Member) (n : ℕ). record { team = x.team; slot = x.slot; players = players_of seed.teams seed.slots; missing_locations = filter (λ z. not (is_checked now m.team m.slot z)) (locations_among m.slot seed.locations); checked_locations = filter (λ z. is_checked now m.team m.slot z) (locations_among m.slot seed.locations); slot_info = slot_infos m.team 1 seed.slots ++ group_infos (length seed.slots + 1) seed.groups; hint_points = n }) c.member.view_is c.points_of-hint_points.ensures
