-- The location that the next copy finds.
use Rattle.std.proofs.Common.{◌≡◌, ℕ, ◌+◌, ◌≤◌, ◌&&◌, List, ◌++◌, Option, Some, All, length, get_or, take, drop, refl, sym, ◌∙◌, arith}
use Rattle.std.specs.Prelude.{find}
use Rattle.std.proofs.lemmas.List.Elements.{All-drop}
use Rattle.mw_rules.specs.Holds.{Places, bag_of, places_of}
use Rattle.mw_rules.specs.Laws.{IsPartOf}
use Rattle.mw_multi.specs.Joint.{Joint, place_total}
use Rattle.mw_multi.specs.Placement.{Put, AreStanding, IsPlaced}
use Rattle.mw_multi.specs.Events.{events_of}
use Rattle.mw_multi.specs.Steps.{steps_of}
use Rattle.mw_reach.specs.Reach.{Placed, bag_with, Closed, IsLeast}
use Rattle.mw_reach.specs.Required.{is_required}
use Rattle.mw_reach.specs.declared.work.Work.{Work}
use Rattle.mw_reach.specs.Reached.{IsWorkFor}
use Rattle.mw_reach.proofs.SameLeast.{Closed-less}
use Rattle.mw_fill.specs.Copies.{ItemCopy}
use Rattle.mw_fill.specs.Openings.{Opening}
use Rattle.mw_fill.specs.Fill.{in_hand, is_missable, is_allowed}
use Rattle.mw_fill.specs.Kept.{is_open_in}
use Rattle.mw_fill.specs.Laying.{IsLaid, IsSure, IsFound}
use Rattle.mw_fill.proofs.Allowing.{first_alike, sure_anyhow}
use Rattle.mw_fill.proofs.Fitting.{held_first}
use Rattle.mw_fill.proofs.Hands.{in_hand_more}
use Rattle.mw_fill.proofs.Finding.{found_laid}
use Rattle.mw_fill.proofs.Existing.{least_list, steps_fit}
use Rattle.mw_fill.proofs.Runs.{since_at}

module _ (joint : Joint) (copies : List ItemCopy) (laid : List Put) (n to : ℕ) (before table : Placed) (places : Places) where
  -- the list with fewer copies in hand, and with the first ones alone where they were put, is part
  -- of the next copy's
  small_part : All (IsLaid joint) laid → IsPlaced joint (events_of joint ++ take n laid) before → IsPlaced joint (events_of joint ++ laid) table
      → length laid + 1 ≤ to → IsLeast (steps_of joint) (in_hand joint (drop to copies)) before places
      → (v : Places) → Closed (steps_of joint) (in_hand joint (drop (length laid + 1) copies)) table v → IsPartOf places v
  small_part each was placed short least v closed =
      least.least v (Closed-less (steps_of joint) (in_hand joint (drop to copies)) (in_hand joint (drop (length laid + 1) copies)) before table v
      (λ i. omega (
        arith,
        in_hand_more joint copies (length laid + 1) to short i,
        found_laid joint (drop n laid) (events_of joint ++ take n laid) before table (All-drop (IsLaid joint) n laid each) was (since_at joint laid n table placed) v i,
      )) closed)

  -- so a location that is known by it is the one that the copy's own list finds
  pub sure_found : (openings : List Opening) (held : List (Option Put)) (opening : Opening) (work : Work) → IsWorkFor joint work → All (IsLaid joint) laid
      → IsPlaced joint (events_of joint ++ take n laid) before → IsPlaced joint (events_of joint ++ laid) table → AreStanding laid held
      → length laid + 1 ≤ to → IsLeast (steps_of joint) (in_hand joint (drop to copies)) before places → IsSure openings copies laid held places opening → IsFound joint openings copies laid table (Some opening)
  sure_found openings held opening work made each was placed standing short least sure =
      let hand = in_hand joint (drop (length laid + 1) copies) in
      let own = least_list (steps_of joint) hand table (place_total joint.slots) (steps_fit joint work made) in
      let w = places_of own.list in
      let bag = bag_with hand table w in
      let part = small_part each was placed short least w own.least.closed in (
        w,
        own.least,
        λ copy is.
            let first = sure copy is in
            sym (held_first (is_allowed joint bag w copy) laid held openings standing)
            ∙ sure_anyhow joint w copy held openings (is_missable joint copy && is_required joint bag w) opening first.0 (part opening.place first.1),
      )

-- with the list of its own
pub own_found : (joint : Joint) (openings : List Opening) (copies : List ItemCopy) (laid : List Put) (held : List (Option Put)) (table : Placed) (counts : List ℕ) (places : Places) (found : Option Opening)
    → IsLeast (steps_of joint) (in_hand joint (drop (length laid + 1) copies)) table places → ((i : ℕ) → bag_of counts i ≡ bag_with (in_hand joint (drop (length laid + 1) copies)) table places i) → AreStanding laid held
    → ((copy : ItemCopy) → copy ≡ get_or copies (length laid) copy → found ≡ find (is_open_in (is_allowed joint (bag_of counts) places copy) held) openings)
    → IsFound joint openings copies laid table found
own_found joint openings copies laid held table counts places found least tally standing is_found =
    let hand = in_hand joint (drop (length laid + 1) copies) in (
      places,
      least,
      λ copy is.
          first_alike joint (bag_with hand table places) (bag_of counts) places places copy laid openings (λ i. sym (tally i)) (λ p. refl)
          ∙ sym (held_first (is_allowed joint (bag_of counts) places copy) laid held openings standing) ∙ sym (is_found copy is),
    )
