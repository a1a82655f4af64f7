use Rattle.std.proofs.Common.{◌≡◌, ℕ, List, ◌++◌, ◌+◌, take, ap, ◌∙◌, append_assoc, arith, sym}
use Rattle.mw_multi.specs.Placement.{Put}
use Rattle.mw_multi.specs.Numbered.{each_numbered}
use Rattle.mw_multi.proofs.Numbered.{numbered_more}
use Rattle.mw_seeds.specs.FilePuts.{put_where, location_put}
use Rattle.mw_seeds.proofs.file_puts.push_slot.Goals as goal

pub loop-index-preserved : goal.loop-index-preserved
loop-index-preserved c =
    let a = c.args in
    let i = c.loop-index.index in
    let items = c.as_slice-location-items.result.now in
    let f = location_put a.catalogs.now a.held.now a.number a.slot.now in
    let front = each_numbered f 0 (take i items) in
    let l = c.location-item.result in
    let put : ℕ → List Put = λ place. put_where a.catalogs.now a.held.now a.number a.slot.now place l.id in
    let at : 0 + i ≡ i = omega arith in
    let more = numbered_more f 0 items i l c.loop-index-test.true c.location-item.is in
    c.in_ok-push_location.ensures ∙ ap (λ puts. puts ++ put c.location_place-place.result) c.loop-index.invariant
    ∙ append_assoc a.puts.now front (put c.location_place-place.result)
    ∙ ap (λ puts. a.puts.now ++ puts) (ap (λ p. front ++ put p) c.location_place-place.ensures ∙ ap (λ n. front ++ f n l) (sym at) ∙ sym more)
