use Rattle.std.proofs.Common.{◌≡◌, ◌+◌, ◌++◌, ◌∷◌, ◌&&◌, [], not, set, sym, ap, subst, ◌∙◌, true, arith}
use Rattle.mw_rules.specs.Holds.{places_of, bag_of}
use Rattle.mw_reach.specs.Reached.{places_in}
use Rattle.mw_reach.specs.Reach.{times_in}
use Rattle.mw_multi.specs.Placement.{numbers_at}
use Rattle.mw_spheres.specs.Spots.{spot_place, holds_progression}
use Rattle.mw_spheres.specs.Gathering.{Gathered}
use Rattle.mw_spheres.proofs.Taking.{gathered_taken}
use Rattle.mw_spheres.proofs.gather.visit.Goals as goal

pub returns-clause-gathered : goal.returns-clause-gathered
returns-clause-gathered c = λ first start spots bound h before.
    let a = c.args in
    let slots = a.joint.now.slots in
    let table = a.table.now in
    let taken = a.taken.now in
    let w = places_in a.reached.now in
    let at = c.place_of-place.ensures.value in
    let due : ((w (spot_place slots a.spot) && holds_progression table (spot_place slots a.spot)) && not (places_of taken (spot_place slots a.spot))) ≡ true =
    sym (ap (λ p. (w p && holds_progression table p) && not (places_of taken p)) at) ∙ sym c.is_due.ensures ∙ c.if-not-is_due.false in
    let next = gathered_taken slots table w first start spots bound taken a.bag.now a.sphere.now before a.spot h c.take.new.bag (omega (arith, at, c.place_of-place.ensures.within, c.requires.size, c.requires.room.size)) due
    (λ i. c.take.ensures.counts i ∙ ap (λ p. bag_of a.bag.now i + times_in i (numbers_at table p)) at) in
    subst (λ f. Gathered slots table w first start (spots ++ a.spot ∷ []) (spot_place slots a.spot + 1) c.take.new.taken c.take.new.bag f) (sym c.in_ok-push.ensures.ok)
    (subst (λ t. Gathered slots table w first start (spots ++ a.spot ∷ []) (spot_place slots a.spot + 1) t c.take.new.bag (a.sphere.now ++ a.spot ∷ [])) (sym (c.take.ensures.taken ∙ ap (λ p. set taken p true) at)) next)
