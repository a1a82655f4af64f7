use Rattle.std.proofs.Common.{◌≡◌, ◌+◌, ◌<◌, length, get_or, sym, ap, ◌∙◌, arith, zero-add}
use Rattle.mw_rules.specs.Holds.{places_of}
use Rattle.mw_multi.specs.Placement.{numbers_at}
use Rattle.mw_reach.specs.Rows.{steps_in}
use Rattle.mw_reach.specs.Worklist.{cost_at, paid}
use Rattle.mw_reach.proofs.Among.{among_at}
use Rattle.mw_reach.proofs.Waking.{inside_list}
use Rattle.mw_reach.proofs.Working.{passed, sum_at-set}
use Rattle.mw_reach.proofs.worklist.take_next.Goals as goal

pub at-leaves-requires : goal.at-leaves-requires
at-leaves-requires g c =
    let listed = c.args.frontier.now.listed.items in
    let there = ap (places_of listed) c.place_at-place.ensures ∙ c.requires.going.entries c.args.head c.requires.waits in
    omega (arith, inside_list listed c.place_at-place.result there, c.requires.terrain.split.leaves_size, c.requires.terrain.rows.places_fit)

pub take_leaves-requires-clause-leaves : goal.take_leaves-requires-clause-leaves
take_leaves-requires-clause-leaves g c k d h =
    let place = c.place_at-place.result in
    let leaves = numbers_at c.args.terrain.now.split.now.leaves place in
    let leaf = c.requires.terrain.split.leaves_are place (get_or leaves k d) (among_at leaves k d (rw c.at-leaves.ensures at h)) in
    rw c.at-leaves.ensures (omega (arith, leaf.within, c.requires.terrain.rows.places_fit))

pub has-requires : goal.has-requires
has-requires g c =
    let listed = c.args.frontier.now.listed.items in
    let there = ap (places_of listed) c.place_at-place.ensures ∙ c.requires.going.entries c.args.head c.requires.waits in
    omega (arith, inside_list listed c.place_at-place.result there)

pub returns-then-has-clause-working : goal.returns-then-has-clause-working
returns-then-has-clause-working g c base before =
    let terrain = c.args.terrain.now in
    let place = c.place_at-place.result in
    let head = c.args.head in
    let there = ap (places_of c.args.frontier.now.listed.items) c.place_at-place.ensures ∙ c.requires.going.entries head c.requires.waits in
    let taken = c.take_leaves.ensures.taken base head place (omega (arith, c.requires.waits)) (λ t e. c.requires.terrain.split.leaves_are place t (rw c.at-leaves.ensures at e)) there before in
    let tally = c.take_leaves.new.tally in
    let frontier = c.take_leaves.new.frontier in
    passed (steps_in terrain.joint.now terrain.rows.now) base _ tally.done.items tally.counts.items frontier.listed.items frontier.queue.items head frontier.len
    (ap (places_of tally.done.items) (c.take_leaves.ensures.front head c.requires.waits ∙ sym c.place_at-place.ensures) ∙ sym c.has.ensures ∙ c.if-has.true) taken.working

pub returns-clause-working : goal.returns-clause-working
returns-clause-working g c base before =
    let place = c.place_at-place.result in
    let head = c.args.head in
    let there = ap (places_of c.args.frontier.now.listed.items) c.place_at-place.ensures ∙ c.requires.going.entries head c.requires.waits in
    let taken = c.take_leaves.ensures.taken base head place (omega (arith, c.requires.waits)) (λ t e. c.requires.terrain.split.leaves_are place t (rw c.at-leaves.ensures at e)) there before in
    c.visit.ensures.working base head (omega (arith, c.requires.waits, c.take_leaves.ensures.longer)) (c.take_leaves.ensures.front head c.requires.waits ∙ sym c.place_at-place.ensures)
    (λ t e. taken.there t (rw c.at-leaves.ensures e)) taken.working

pub returns-clause-steps : goal.returns-clause-steps
returns-clause-steps g c =
    let rows = c.args.terrain.now.rows.now in
    let placed = c.args.terrain.now.placed.now in
    let place = c.place_at-place.result in
    let listed = c.args.frontier.now.listed.items in
    let there = ap (places_of listed) c.place_at-place.ensures ∙ c.requires.going.entries c.args.head c.requires.waits in
    let within : place < length listed = inside_list listed place there in
    let done = c.take_leaves.new.tally.done.items in
    let at : 0 + place ≡ place = zero-add place in
    let more : paid rows placed c.visit.new.tally.done.items ≡ paid rows placed done + cost_at rows placed (0 + place) =
    ap (paid rows placed) c.visit.ensures.done ∙ sum_at-set (cost_at rows placed) 0 place done (omega arith) (sym c.has.ensures ∙ c.if-has.false) in
    omega (arith, c.visit.ensures.steps, c.take_leaves.ensures.steps, more, ap (cost_at rows placed) at)
