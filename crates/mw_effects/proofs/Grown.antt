-- What a session is owed once an effect is done.
use Rattle.std.proofs.Common.{◌≡◌, ℕ, ℤ, ◌+◌, ◌*◌, ◌-◌, ◌==◌, ◌&&◌, List, [], ◌∷◌, ◌++◌, Option, None, cond, refl, Bool, false, true, length, length-append, Some, sym, ap, ap₂, ◌∙◌, append_assoc}
use Rattle.std.specs.List.{filter}
use Rattle.std.proofs.lemmas.List.Elements.{filter-append}
use Rattle.mw_model.specs.Seed.{Seed, Held, slot_of, held_at, is_owner}
use Rattle.mw_checks.specs.Log.{check_of, checks_of}
use Rattle.mw_protocol.specs.Checks.{keeps, item_for, found_item, start_items, items_found, received_in as received, locations_in}
use Rattle.mw_protocol.specs.Connecting.{Member}
use Rattle.mw_protocol.specs.HintList.{bought_by}
use Rattle.mw_protocol.specs.Owed.{update_with, items_from, view_of, update_owed, items_owed, growth_owed}
use Rattle.mw_protocol.specs.Standing.{cost}
use Rattle.mw_effects.specs.News.{items_for, view_for, received_in, growth_in, points_before, points_after}
use Rattle.mw_effects.specs.Parts.{standing_of, grown, news_of, paid_by, IsLogged}
use Rattle.mw_effects.specs.declared.effect.Effect.{Effect}
use Rattle.mw_effects.specs.declared.standing.Standing.{Standing}
use Rattle.mw_laws.proofs.Journal.{items_found-append, locations_in-append, drop-grown}

-- the view after
view_after : (s : Standing) (e : Effect) (m : Member) → view_of s.log.seed (grown s e) m ≡ view_for s.log m ++ items_for s.log.seed m (news_of e)
view_after s e m =
    let log = s.log in
    let news = news_of e in
    let start = start_items (slot_of log.seed m.slot) in
    ap (λ is. filter (keeps m.mask m.slot) (start ++ is)) (items_found-append log.seed m.team m.slot log.checked news)
    ∙ ap (filter (keeps m.mask m.slot)) (sym (append_assoc start (items_found log.seed m.team m.slot log.checked) (items_found log.seed m.team m.slot news)))
    ∙ filter-append (keeps m.mask m.slot) (received log.seed m.team m.slot log.checked) (items_found log.seed m.team m.slot news)

update_is : (s : Standing) (e : Effect) (m : Member)
    → update_owed s.log.seed (standing_of s) (grown s e) m ≡ update_with (points_before s m) (points_after s e m) (locations_in m.team m.slot (news_of e))
update_is s e m =
    ap (update_with (points_before s m) (points_after s e m))
    (drop-grown (locations_in m.team m.slot s.log.checked) _ (locations_in m.team m.slot (news_of e)) (locations_in-append m.team m.slot s.log.checked (news_of e)))

items_are : (whole : Bool) (s : Standing) (e : Effect) (m : Member) → items_owed whole s.log.seed (standing_of s) (grown s e) m ≡ received_in whole s.log m (news_of e)
items_are true s e m = ap (items_from 0) (view_after s e m)
items_are false s e m = ap (items_from (length (view_for s.log m))) (drop-grown (view_for s.log m) _ (items_for s.log.seed m (news_of e)) (view_after s e m))

-- what is owed, by the parts
pub growth_is : (whole : Bool) (s : Standing) (e : Effect) (m : Member) → growth_owed whole s.log.seed (standing_of s) (grown s e) (Some m) ≡ growth_in whole s e m
growth_is whole s e m = ap₂ (λ us is. us ++ is) (update_is s e m) (items_are whole s e m)

-- the points once an effect is done, as they are counted
pub points_then : (s : Standing) (e : Effect) (m : Member) (more : ℕ) → IsLogged s e → more ≡ length (locations_in m.team m.slot (news_of e))
    → s.log.seed.server.location_check_points * (length (locations_in m.team m.slot s.log.checked) + more) - cost s.log.seed m.slot * (length (bought_by s.hints.hints m.team m.slot) + paid_by e m.team m.slot)
    ≡ points_after s e m
points_then s e m more logged is =
    let count : length (locations_in m.team m.slot s.log.checked) + more ≡ length (locations_in m.team m.slot (s.log.checked ++ news_of e)) =
    ap (λ n. length (locations_in m.team m.slot s.log.checked) + n) is
    ∙ sym (ap length (locations_in-append m.team m.slot s.log.checked (news_of e)) ∙ length-append (locations_in m.team m.slot s.log.checked) (locations_in m.team m.slot (news_of e))) in
    ap₂ (λ n b. s.log.seed.server.location_check_points * n - cost s.log.seed m.slot * b) count (sym (logged.paid m.team m.slot))

none_for : (seed : Seed) (team : ℕ) (m : Member) (pair : ℕ × ℤ) (held : Option Held) → (team == m.team) ≡ false → item_for seed m.team m.slot (check_of team pair) held ≡ []
none_for seed team m pair None h = refl
none_for seed team m pair (Some held) h = ap (λ b. cond (b && is_owner seed held.receiver m.slot) (found_item held ∷ []) []) h

-- checks in a team give the slots of others nothing
pub others_get_nothing : (seed : Seed) (team : ℕ) (m : Member) (pairs : List (ℕ × ℤ)) → (team == m.team) ≡ false → items_for seed m (checks_of team pairs) ≡ []
others_get_nothing seed team m [] h = refl
others_get_nothing seed team m (pair ∷ pairs) h =
    ap (λ is. filter (keeps m.mask m.slot) (is ++ items_found seed m.team m.slot (checks_of team pairs))) (none_for seed team m pair (held_at seed pair.0 pair.1) h)
    ∙ others_get_nothing seed team m pairs h
