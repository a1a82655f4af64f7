use Rattle.std.proofs.Common.{◌≡◌, ◌*◌, [], ℕ, Bool, false, List, length, map, replicate, sym, ap, ◌∙◌, subst}
use Rattle.mw_model.specs.Seed.{Seed, Held}
use Rattle.mw_checks.specs.Rows.{Counts, Empty, Keeps, receivers_of}
use Rattle.mw_checks.proofs.Keeping.{keeps_none}
use Rattle.mw_checks.proofs.rows.Rows.new.Goals as goal

pub returns : goal.returns
returns c =
    let seed = c.args.places.now in
    let whole : c.multidata.result.now ≡ seed = c.multidata.ensures.value ∙ c.tables.ensures in
    let done : c.in_ok-done.done.items ≡ replicate (8 * length seed.locations) false = c.in_ok-done.ensures ∙ ap (λ (hs : List Held). replicate (8 * length hs) false) c.locations.ensures.value in
    subst (λ (bs : List Bool). Keeps seed [] bs c.in_ok-received.received.items c.in_ok-found.found.items) (sym done)
    (keeps_none seed c.in_ok-receipts.receipts.items c.sizes.result.now c.in_ok-received.received.items c.in_ok-found.found.items
    (subst (λ (s : Seed). Counts (map (receivers_of s) s.locations) c.in_ok-receipts.receipts.items) whole c.in_ok-receipts.ensures.counts)
    c.sizes.ensures.counts
    (subst (λ (ns : List ℕ). Empty ns c.in_ok-received.received.items) c.deref.ensures.value c.in_ok-received.ensures)
    c.in_ok-found.ensures)
