use Rattle.std.proofs.Common.{◌≡◌, ◌++◌, ◌∷◌, [], length, ◌∙◌, sym, ap, arith}
use Rattle.mw_multi.specs.Joint.{place_total, item_total}
use Rattle.mw_reach.specs.Rows.{step_of, steps_in}
use Rattle.mw_reach.specs.Split.{asked_numbers, leaf_places}
use Rattle.mw_reach.proofs.Among.{place_numbers}
use Rattle.mw_reach.proofs.Cutting.{lists_more}
use Rattle.mw_reach.proofs.Parting.{split_made}
use Rattle.mw_reach.proofs.splitting.split_of.Goals as goal
use Rattle.std.proofs.lemmas.List.{length-append, length-map}

pub asked_at-requires-clause-numbers : goal.asked_at-requires-clause-numbers
asked_at-requires-clause-numbers c k d h =
    let rows = c.args.rows.now in
    let joint = c.args.joint.now in
    omega (arith, place_numbers (steps_in joint rows) rows.origins rows.by_place rows.by_item c.requires.rows.watched c.loop-place.place k d h, length-map rows.rows (step_of joint))

pub leaves_at-requires-clause-numbers : goal.leaves_at-requires-clause-numbers
leaves_at-requires-clause-numbers c k d h =
    let rows = c.args.rows.now in
    let joint = c.args.joint.now in
    omega (arith, place_numbers (steps_in joint rows) rows.origins rows.by_place rows.by_item c.requires.rows.watched c.loop-place.place k d h, length-map rows.rows (step_of joint))

pub loop-place-preserved : goal.loop-place-preserved
loop-place-preserved c =
    let free = c.args.free.now in
    let rows = c.args.rows.now in
    let place = c.loop-place.place in
    let before = c.loop-place.invariant in
    let asked : c.in_ok-asked.asked ≡ c.loop-place.asked ++ c.as_slice.result.now ∷ [] = c.in_ok-asked.ensures in
    let leaves : c.in_ok-leaves.leaves ≡ c.loop-place.leaves ++ c.as_slice-in-loop-place.result.now ∷ [] = c.in_ok-leaves.ensures in
    record {
      asked_size = omega (arith, ap length asked, length-append c.loop-place.asked (c.as_slice.result.now ∷ []), before.asked_size);
      leaves_size = omega (arith, ap length leaves, length-append c.loop-place.leaves (c.as_slice-in-loop-place.result.now ∷ []), before.leaves_size);
      asked_are = lists_more (asked_numbers free rows.rows rows.by_place) c.loop-place.asked c.in_ok-asked.asked c.as_slice.result.now place before.asked_size before.asked_are asked (c.as_slice.ensures ∙ c.in_ok-numbers.ensures);
      leaves_are = lists_more (leaf_places free rows.rows rows.by_place) c.loop-place.leaves c.in_ok-leaves.leaves c.as_slice-in-loop-place.result.now place before.leaves_size before.leaves_are leaves (c.as_slice-in-loop-place.ensures ∙ c.in_ok-places.ensures);
    }

pub returns : goal.returns
returns c =
    let joint = c.args.joint.now in
    let rows = c.args.rows.now in
    let now = c.loop-place.invariant in
    let all : length rows.by_place ≡ c.loop-place.place = omega (arith, c.requires.rows.places_fit, c.place_count-place-end.ensures.value) in
    split_made joint (place_total joint.slots) (item_total joint.slots) c.args.free.now c.requires.free rows c.requires.rows record { asked = c.loop-place.asked; leaves = c.loop-place.leaves } (now.asked_size ∙ sym all) (now.leaves_size ∙ sym all)
    (λ p h. now.asked_are p (omega (arith, all)))
    (λ p h. now.leaves_are p (omega (arith, all)))
