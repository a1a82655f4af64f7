-- Whoever owns nothing of what is found gets nothing.
use Rattle.std.proofs.Common.{◌≡◌, ℕ, ℤ, ◌==◌, ◌&&◌, ◌||◌, List, [], ◌∷◌, ◌++◌, Option, None, Some, Bool, false, true, cond, length, refl, sym, ap, ◌∙◌, append-nil}
use Rattle.std.specs.List.{filter}
use Rattle.mw_model.specs.Items.{NetItem}
use Rattle.mw_model.specs.Seed.{Seed, Held, held_at, is_owner}
use Rattle.mw_checks.specs.Log.{check_of, checks_of}
use Rattle.mw_protocol.specs.Checks.{found_item, item_for, items_found, keeps, locations_in}
use Rattle.mw_protocol.specs.Connecting.{Member}
use Rattle.mw_protocol.specs.Messages.{ServerPacket}
use Rattle.mw_protocol.specs.Owed.{items_from, update_with}
use Rattle.mw_effects.specs.News.{growth_in, points_before, points_after, received_in, view_for}
use Rattle.mw_effects.specs.Parts.{news_of}
use Rattle.mw_effects.specs.declared.effect.Effect.{Effect}
use Rattle.mw_effects.specs.declared.standing.Standing.{Standing}
use Rattle.mw_owed.specs.Receivers.{owns_one, receiver_of, receivers_in}

pub neither : (a b : Bool) → (a || b) ≡ false → (a ≡ false) × (b ≡ false)
neither true b h = absurd (cc)
neither false b h = (refl, h)

-- nothing stands there for it, and it owns nothing of the others
not_there : (seed : Seed) (team : ℕ) (m : Member) (pair : ℕ × ℤ) (held : Option Held) (others : List ℕ) → owns_one seed (receiver_of held ++ others) m.slot ≡ false
    → (item_for seed m.team m.slot (check_of team pair) held ≡ []) × (owns_one seed others m.slot ≡ false)
not_there seed team m pair None others h = (refl, h)
not_there seed team m pair (Some held) others h =
    let both = neither (is_owner seed held.receiver m.slot) (owns_one seed others m.slot) h in
    let nothing : cond ((team == m.team) && is_owner seed held.receiver m.slot) (found_item held ∷ []) [] ≡ [] =
    elim (team == m.team) as (λ b. cond (b && is_owner seed held.receiver m.slot) (found_item held ∷ []) [] ≡ []) [
      | true ↦ ap (λ b. cond b (found_item held ∷ []) []) both.0
      | false ↦ refl
    ] in
    (nothing, both.1)

none_found : (seed : Seed) (team : ℕ) (m : Member) (pairs : List (ℕ × ℤ)) → owns_one seed (receivers_in seed pairs) m.slot ≡ false → items_found seed m.team m.slot (checks_of team pairs) ≡ []
none_found seed team m [] h = refl
none_found seed team m (pair ∷ pairs) h =
    let here = not_there seed team m pair (held_at seed pair.0 pair.1) (receivers_in seed pairs) h in
    ap (λ (is : List NetItem). is ++ items_found seed m.team m.slot (checks_of team pairs)) here.0
    ∙ none_found seed team m pairs here.1

-- where it isn't owed its whole view
pub nothing_received : (whole : Bool) (s : Standing) (e : Effect) (m : Member) → (whole || owns_one s.log.seed (receivers_in s.log.seed e.new) m.slot) ≡ false → received_in whole s.log m (news_of e) ≡ []
nothing_received whole s e m h =
    let both = neither whole (owns_one s.log.seed (receivers_in s.log.seed e.new) m.slot) h in
    ap (λ (b : Bool). received_in b s.log m (news_of e)) both.0
    ∙ ap (λ (is : List NetItem). items_from (length (view_for s.log m)) (filter (keeps m.mask m.slot) is)) (none_found s.log.seed e.team m e.new both.1)

pub only_update : (whole : Bool) (s : Standing) (e : Effect) (m : Member) (ps : List ServerPacket) → (whole || owns_one s.log.seed (receivers_in s.log.seed e.new) m.slot) ≡ false
    → ps ≡ update_with (points_before s m) (points_after s e m) (locations_in m.team m.slot (news_of e)) → ps ≡ growth_in whole s e m
only_update whole s e m ps h update =
    let owed = update_with (points_before s m) (points_after s e m) (locations_in m.team m.slot (news_of e)) in
    update ∙ sym (ap (λ (us : List ServerPacket). owed ++ us) (nothing_received whole s e m h) ∙ append-nil owed)
