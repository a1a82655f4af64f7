use Rattle.std.proofs.Common.{◌≡◌, ◌++◌, refl, List, drop, map, ap, ◌∙◌}
use Rattle.std.specs.List.{filter}
use Rattle.mw_model.specs.Items.{NetItem}
use Rattle.mw_model.specs.Seed.{Seed, slot_of}
use Rattle.mw_protocol.specs.Checks.{keeps, found_item, start_items}
use Rattle.mw_checks.specs.Log.{Log}
use Rattle.mw_checks.specs.Rows.{standing}
use Rattle.mw_checks.proofs.Tails.{viewed}
use Rattle.mw_checks.proofs.log.CheckLog.view.Goals as goal

pub returns : goal.returns
returns c =
    let seed = c.args.self.now.seed in
    let slot = c.args.slot in
    let row = c.received_row.result.now in
    let own : c.self.inside.places ≡ seed = ap (λ (l : Log). l.seed) c.self.view_is in
    viewed record { slot = slot; mask = c.args.mask } record { skip = c.args.from; items = c.new.result } c.offer_own_starts.new.self c.offer_all.new.self c.args.from (start_items (slot_of c.self.inside.places slot)) (map found_item (standing c.self.inside.places.locations row)) c.new.ensures refl c.in_ok-offer_own_starts.ensures c.in_ok-offer_all.ensures
    ∙ ap (λ (s : Seed). drop c.args.from (filter (keeps c.args.mask slot) (start_items (slot_of s slot) ++ map found_item (standing s.locations row)))) own
    ∙ ap (λ (is : List NetItem). drop c.args.from (filter (keeps c.args.mask slot) (start_items (slot_of seed slot) ++ is))) c.received_row.ensures.items
