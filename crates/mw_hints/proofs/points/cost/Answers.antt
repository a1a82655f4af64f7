use Rattle.std.proofs.Common.{◌≡◌, ◌*◌, ◌/◌, ℕ, length, sym, ap₂, ◌∙◌}
use Rattle.mw_protocol.specs.Asked.{locations_of}
use Rattle.mw_hints.proofs.Numbers.{sized, price_is}
use Rattle.mw_hints.proofs.points.cost.Goals as goal

pub returns : goal.returns
returns g c =
    let seed = g.C.Checks.seed c.args.log.now in
    let slot = c.args.slot in
    let many : c.locations_len.result ≡ length (locations_of seed slot) = c.locations_len.ensures ∙ sym (sized slot seed.locations) in
    let price : c.from.result ≡ seed.server.hint_cost = c.from.ensures ∙ c.hundredths.ensures in
    c.max.ensures ∙ price_is _ _ (ap₂ (λ (x y : ℕ). x * y / 100) price many)
