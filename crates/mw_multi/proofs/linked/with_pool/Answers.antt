use Rattle.std.proofs.Common.{◌∙◌, ap, subst, sym}
use Rattle.std.specs.Prelude.{unwrap_or}
use Rattle.mw_multi.specs.Joint.{Slot, SlotKept}
use Rattle.mw_multi.specs.Links.{first_copies}
use Rattle.mw_multi.proofs.Joining.{left_kept}
use Rattle.mw_multi.proofs.linked.with_pool.Goals as goal

pub invariant_of-result : goal.invariant_of-result
invariant_of-result c =
    let row = c.requires.0 in
    let pool = c.requires.1 ∙ ap (λ (s : Slot). first_copies row s.world.pool) (sym c.slot.view_is) in
    let s : Slot = record {
      names = c.slot.inside.player.now.names;
      world = c.slot.inside.world.now;
      first_place = c.slot.inside.first_place;
      first_item = c.slot.inside.first_item;
      local_items = c.slot.inside.local_items;
      non_local_items = c.slot.inside.non_local_items;
      exclude_locations = c.slot.inside.exclude_locations;
      priority_locations = c.slot.inside.priority_locations;
      start = c.slot.inside.start;
      pool = unwrap_or c.slot.inside.own_pool c.slot.inside.world.now.pool;
      access = c.slot.inside.player.now.options.accessibility;
    } in
    subst (λ p. SlotKept record {
      names = s.names;
      world = s.world;
      first_place = s.first_place;
      first_item = s.first_item;
      local_items = s.local_items;
      non_local_items = s.non_local_items;
      exclude_locations = s.exclude_locations;
      priority_locations = s.priority_locations;
      start = s.start;
      pool = p;
      access = s.access;
    }) (sym pool) (left_kept row s c.slot.invariant)
