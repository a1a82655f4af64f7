use Rattle.std.proofs.Common.{◌≡◌, ◌<◌, ◌≤◌, List, length, set, ap, ◌∙◌, arith}
use Rattle.mw_protocol.specs.Statuses.{SlotStatus}
use Rattle.mw_effects.specs.Parts.{place_of_status}
use Rattle.mw_effects.proofs.Statuses.{set_there, set_last}
use Rattle.mw_effects.proofs.status.put_status.Goals as goal

pub returns-then-at-len : goal.returns-then-at-len
returns-then-at-len c =
    let ss = c.args.statuses.now.items in
    let n = c.args.new in
    let at : c.place_of-at.result ≡ place_of_status n.team n.slot ss = c.place_of-at.ensures ∙ ap (λ (xs : List SlotStatus). place_of_status n.team n.slot xs) c.deref.ensures.value in
    let within : place_of_status n.team n.slot ss < length ss = grind arith in
    ap (λ k. set ss k n) at ∙ set_there ss n within

pub returns : goal.returns
returns c =
    let ss = c.args.statuses.now.items in
    let n = c.args.new in
    let at : c.place_of-at.result ≡ place_of_status n.team n.slot ss = c.place_of-at.ensures ∙ ap (λ (xs : List SlotStatus). place_of_status n.team n.slot xs) c.deref.ensures.value in
    let past : length ss ≤ place_of_status n.team n.slot ss = grind arith in
    c.push.ensures ∙ set_last ss n past
