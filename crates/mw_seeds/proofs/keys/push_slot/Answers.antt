use Rattle.std.proofs.Common.{◌++◌, take, ap, ◌∙◌, append_assoc, sym}
use Rattle.mw_multi.specs.Numbered.{each_numbered}
use Rattle.mw_multi.proofs.Numbered.{numbered_more}
use Rattle.mw_seeds.specs.Keys.{key_where, location_key}
use Rattle.mw_seeds.proofs.keys.push_slot.Goals as goal

pub loop-location-preserved : goal.loop-location-preserved
loop-location-preserved c =
    let a = c.args in
    let l = c.loop-location in
    let front = each_numbered (location_key a.slot) 0 (take l.location-index a.locations.now) in
    let one = key_where a.slot c.location-item.result.id in
    let more = numbered_more (location_key a.slot) 0 a.locations.now l.location-index c.location-item.result c.loop-location-test.true c.location-item.is in
    c.in_ok-push_key.ensures ∙ ap (λ keys. keys ++ one) l.invariant ∙ append_assoc a.keys.now.items front one ∙ ap (λ keys. a.keys.now.items ++ keys) (sym more)
