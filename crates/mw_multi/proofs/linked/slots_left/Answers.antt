use Rattle.std.proofs.Common.{◌≡◌, ◌<◌, ◌+◌, ◌++◌, ◌∷◌, [], ◌∙◌, sym, ap, ap₂, append_assoc, drop, length, slice_index_or, arith}
use Rattle.std.specs.Vec.Iter.{into_iter_items}
use Rattle.mw_multi.specs.World.{World}
use Rattle.mw_multi.specs.Joint.{Slot}
use Rattle.mw_multi.specs.Links.{first_copies, with_left, each_with_left}
use Rattle.mw_multi.proofs.Joining.{one_left}
use Rattle.mw_multi.proofs.linked.slots_left.Goals as goal

pub loop-slot-preserved : goal.loop-slot-preserved
loop-slot-preserved c =
    let l = c.loop-slot in
    let s = c.in-Some.slot in
    let rest = into_iter_items c.next.new.self in
    let row = slice_index_or l.left l.at [] in
    let later = each_with_left (drop (l.at + 1) l.left) rest in
    let here : into_iter_items l.slot-iterator ≡ s ∷ rest = c.in-Some.ensures.steps.0 in
    let within : l.at < length l.left = omega (arith, l.invariant.size, ap length here) in
    let pool : c.as_slice.result.now ≡ s.world.pool = c.as_slice.ensures ∙ ap (λ (w : World). w.pool) c.world.view_is ∙ ap (λ (u : Slot). u.world.pool) c.slot.view_is in
    let made : c.with_pool.result ≡ with_left row s = c.with_pool.ensures row (c.in_ok-pool.ensures.first ∙ ap (first_copies row) pool) in
    record {
      done = ap₂ (λ front rows. front ++ each_with_left rows rest) c.in_ok-push.ensures.ok c.in_ok-pool.ensures.later
          ∙ append_assoc l.done (c.with_pool.result ∷ []) later
          ∙ ap (λ slot. l.done ++ slot ∷ later) made
          ∙ ap (λ slots. l.done ++ slots) (sym (one_left l.left l.at s rest within))
          ∙ ap (λ slots. l.done ++ each_with_left (drop l.at l.left) slots) (sym here)
          ∙ l.invariant.done;
      size = omega (arith, c.in_ok-pool.ensures.size, l.invariant.size, ap length here);
    }
