-- What is made of the first try's placement.
use Rattle.std.proofs.Common.{◌≡◌, ◌≤◌, ◌<◌, ◌==◌, ℕ, List, [], ◌∷◌, Bool, true, false, All, filter, flat_map, map, get_or, inl, inr, refl, sym, ap, ◌∙◌, arith}
use Rattle.std.specs.List.{range_with_len}
use Rattle.std.proofs.lemmas.Bool.{cases_lt}
use Rattle.std.proofs.lemmas.Bool.Decides.{Decides-eqb}
use Rattle.std.proofs.lemmas.List.{get_or_past}
use Rattle.std.proofs.lemmas.List.Elements.{All-head, All-tail}
use Rattle.std.proofs.lemmas.List.FromFn.{length-map-range_with_len, get_or-map-range_with_len}
use Rattle.mw_multi.specs.Joint.{Joint, IsJoint, place_total}
use Rattle.mw_multi.specs.Placement.{Put, stands_at, put_numbers, standing, IsPlacement, IsPlaced}
use Rattle.mw_multi.specs.Events.{with_events}
use Rattle.mw_multi.proofs.Standing.{site_within}
use Rattle.mw_reach.specs.Required.{IsBeatable}
use Rattle.mw_fill.specs.Generated.{CanBeTried, IsFirst}
use Rattle.mw_spheres.specs.Spots.{placement_table}
use Rattle.mw_spheres.proofs.Reaching.{with_events_kept}
use Rattle.mw_seeds.specs.Made.{IsMade, Generates}

-- ---- the table of a placement

abbrev IsWithin : ℕ → Put → Type 0
IsWithin most put = put.place < most

kept_where : (place most : ℕ) (p : Put) (rest : List Put) (b : Bool) → (p.place == place) ≡ b → most ≤ place → p.place < most → filter (stands_at place) rest ≡ [] → filter (stands_at place) (p ∷ rest) ≡ []
kept_where place most p rest true e past h none = let same : p.place ≡ place = (Decides-eqb p.place place).0 e in absurd (omega (arith, same, past, h))
kept_where place most p rest false e past h none = rw e none

none_past : (place most : ℕ) (puts : List Put) → most ≤ place → All (IsWithin most) puts → filter (stands_at place) puts ≡ []
none_past place most [] past h = refl
none_past place most (p ∷ puts) past h =
    kept_where place most p puts (p.place == place) refl past (All-head (IsWithin most) p puts h) (none_past place most puts past (All-tail (IsWithin most) p puts h))

placed_table : (joint : Joint) (puts : List Put) → IsJoint joint → IsPlacement joint puts → IsPlaced joint (with_events joint puts) (placement_table joint puts)
placed_table joint puts kept placement =
    let slots = joint.slots in
    let all = with_events joint puts in
    let total = place_total slots in
    let f = standing joint all in
    let within : All (IsWithin total) all = λ k d l. site_within 1 slots (get_or all k d).place (with_events_kept joint puts kept placement k d l).place in
    record {
      size = length-map-range_with_len f 0 total;
      entries = λ place. elim (cases_lt place total) [
        | inl inside ↦ get_or-map-range_with_len f 0 total place place [] inside (omega arith)
        | inr past ↦
            get_or_past (map f (range_with_len 0 total)) place [] (omega (arith, past, length-map-range_with_len f 0 total))
            ∙ sym (ap (flat_map (put_numbers joint)) (none_past place total all past within))
      ];
    }

pub beatable_table : (joint : Joint) (puts : List Put) → IsJoint joint → IsPlacement joint puts → ((table : List (List ℕ)) → IsPlaced joint (with_events joint puts) table → IsBeatable joint table)
    → IsBeatable joint (placement_table joint puts)
beatable_table joint puts kept placement h = h (placement_table joint puts) (placed_table joint puts kept placement)

-- the first try's placement with what is made of it
pub generates : (joint : Joint) (seed tries stream : ℕ) (placement : List Put) (bytes text : List ℕ) → CanBeTried joint × IsFirst joint seed tries stream placement → IsMade joint seed stream placement bytes text → Generates joint seed tries bytes text
generates joint seed tries stream placement bytes text h made = record { can = h.0; stream = stream; placement = placement; first = h.1; made = made }
