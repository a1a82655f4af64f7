use Rattle.std.proofs.Common.{◌≡◌, ◌+◌, ◌∙◌, sym, ap, Ok, length, get_or, arith}
use Rattle.std.proofs.lemmas.Grind.{common_steps}
use Rattle.std.proofs.lemmas.List.Elements.{All-push}
use Rattle.mw_multi.specs.Files.{world_named}
use Rattle.mw_multi.specs.World.{place_count}
use Rattle.mw_multi.specs.Joint.{SlotKept}
use Rattle.mw_multi.specs.Links.{HasWholePool}
use Rattle.mw_multi.specs.JointOf.{slot_of}
use Rattle.mw_multi.proofs.Fronts.{slots_moved}
use Rattle.mw_multi.proofs.Numbering.{numbered_push}
use Rattle.mw_multi.proofs.slots.slots_in.Goals as goal

pub loop-i-preserved : goal.loop-i-preserved
loop-i-preserved c =
    let player : c.index-players-i.result ≡ get_or c.args.players.now c.loop-i.i c.index-players-i.result = c.index-players-i.is in
    let world : world_named c.args.files.now c.args.names.now (get_or c.args.players.now c.loop-i.i c.index-players-i.result).world ≡ c.names_for-names.result.now = ap (world_named c.args.files.now c.args.names.now) (sym (c.as_str.ensures ∙ ap (λ p. p.world) (c.player.view_is ∙ player))) ∙ sym c.names_for-names.ensures in
    let slot : slot_of (c.loop-i.i + 1) (get_or c.args.players.now c.loop-i.i c.index-players-i.result) c.names_for-names.result.now c.loop-i.place c.loop-i.item ≡ Ok c.in_ok-slot.slot = ap (λ p. slot_of (c.loop-i.i + 1) p c.names_for-names.result.now c.loop-i.place c.loop-i.item) (sym player) ∙ c.in_ok-slot.ensures.slot in
    record {
      slots = slots_moved (world_named c.args.files.now c.args.names.now) (c.loop-i.i + 1) c.loop-i.place c.loop-i.item c.loop-i.slots c.push.new.self c.args.players.now c.loop-i.i c.index-players-i.result
          c.in_ok-slot.slot c.names_for-names.result.now c.place_count-place.result c.item_count-item.result (omega arith) world slot
          (c.place_count-place.ensures.value ∙ ap place_count c.world-world.ensures.value) (c.item_count-item.ensures.value ∙ ap (λ w. length w.items) c.world-world.ensures.value) c.in_ok-push.ensures.ok
          ∙ c.loop-i.invariant.slots;
      kept = rw c.in_ok-push.ensures.ok (All-push SlotKept c.loop-i.slots c.in_ok-slot.slot c.loop-i.invariant.kept c.in_ok-slot.ensures.kept);
      whole = rw c.in_ok-push.ensures.ok (All-push HasWholePool c.loop-i.slots c.in_ok-slot.slot c.loop-i.invariant.whole c.in_ok-slot.ensures.whole);
      numbered = grind (arith, common_steps, numbered_push);
      places = grind (arith, common_steps);
      items = grind (arith, common_steps);
      few_places = grind (arith, common_steps);
      few_items = grind (arith, common_steps);
      many = grind (arith, common_steps);
    }
