use Rattle.std.proofs.Common.{◌≡◌, ◌⊎◌, ℕ, true, get_or, inl, inr, arith}
use Rattle.std.proofs.lemmas.List.{length-map}
use Rattle.mw_rules.specs.Holds.{places_of}
use Rattle.mw_rules.specs.Names.{is_among}
use Rattle.mw_multi.specs.Placement.{numbers_at}
use Rattle.mw_reach.specs.Rows.{step_of, steps_in}
use Rattle.mw_reach.specs.Tables.{step_at}
use Rattle.mw_reach.proofs.Among.{among_at, among_place}
use Rattle.mw_reach.proofs.Working.{still_going, visited}
use Rattle.mw_reach.proofs.worklist.visit.Goals as goal

pub wake-requires-clause-numbers : goal.wake-requires-clause-numbers
wake-requires-clause-numbers g c k d h =
    let rows = c.args.terrain.now.rows.now in
    let p = c.args.place in
    let asked = numbers_at c.args.terrain.now.split.now.asked p in
    let steps = steps_in c.args.terrain.now.joint.now rows in
    let there = c.requires.terrain.split.asked p (get_or asked k d) (among_at asked k d (rw c.at-numbers.ensures at h)) in
    let within = among_place steps rows.origins rows.by_place rows.by_item c.requires.terrain.rows.watched p (get_or asked k d) there in
    rw c.at-numbers.ensures (omega (arith, within, length-map rows.rows (step_of c.args.terrain.now.joint.now)))

pub returns-clause-working : goal.returns-clause-working
returns-clause-working g c base head waits here leaves before =
    let rows = c.args.terrain.now.rows.now in
    let steps = steps_in c.args.terrain.now.joint.now rows in
    let split = c.args.terrain.now.split.now in
    let p = c.args.place in
    let listed = c.args.frontier.now.listed.items in
    let woken = rw (c.at-numbers.ensures, c.add.ensures.place) at c.wake.ensures.woken in
    let items_woken = rw (c.at-items.ensures, c.add.ensures.place) at c.wake_items.ensures.woken in
    let heard : (n : ℕ) → is_among (numbers_at rows.by_place p) n ≡ true → (is_among (numbers_at split.asked p) n ≡ true) ⊎ (places_of listed (step_at steps n).to ≡ true) = λ n e. elim (c.requires.terrain.split.heard p n e) [
      | inl asked ↦ inl asked
      | inr leaf ↦ inr (leaves (step_at steps n).to leaf)
    ] in
    rw c.add.ensures.place (visited steps rows.origins rows.by_place rows.by_item c.requires.terrain.rows.watched c.args.terrain.now.placed.now c.args.tally.now.done.items c.args.tally.now.counts.items c.add.new.self.counts.items p
    c.requires.place c.requires.new c.add.ensures.counts base listed c.args.frontier.now.queue.items head c.args.frontier.now.len here waits before (numbers_at split.asked p) heard _ _ _ _ _ _ woken items_woken (omega arith))

pub returns-clause-going : goal.returns-clause-going
returns-clause-going g c =
    let going = c.requires.going in
    rw c.add.ensures.place (still_going c.args.terrain.now.placed.now c.args.tally.now.done.items c.args.tally.now.counts.items c.add.new.self.counts.items c.args.place c.requires.place c.requires.new c.add.ensures.counts _ _ _ _ _ _ _ _ _ _ _ _ _
    c.wake.ensures.woken c.wake_items.ensures.woken (omega arith) going)

pub returns-clause-steps : goal.returns-clause-steps
returns-clause-steps g c =
    let asked = rw c.at-numbers.ensures at c.wake.ensures.steps in
    let items = rw c.at-items.ensures at c.wake_items.ensures.steps in
    omega (arith, asked, items, c.requires.terrain.split.fewer c.args.place)
