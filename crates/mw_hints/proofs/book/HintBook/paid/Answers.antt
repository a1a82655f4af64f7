use Rattle.std.proofs.Common.{◌≡◌, ◌≤◌, true, Bool, ap, ◌∙◌, cond, arith}
use Rattle.std.specs.Option.{option_copied}
use Rattle.std.proofs.lemmas.Bool.{le-ltb}
use Rattle.mw_model.specs.Seed.{Held}
use Rattle.mw_protocol.specs.Hints.{bought_hint, paid, bought, too_dear}
use Rattle.mw_protocol.specs.Records.{hint}
use Rattle.mw_protocol.specs.Standing.{cost, points_left}
use Rattle.mw_hints.proofs.book.HintBook.paid.Goals as goal

pub returns : goal.returns
returns g c =
    let seed = g.C.Checks.seed c.args.log.now in
    let team = c.args.team in
    let slot = c.args.slot in
    let h : Held = c.in-Some.held.now in
    let price = cost seed slot in
    let left = points_left seed (g.C.Checks.count c.args.log.now team slot) c.args.self.now.hints team slot in
    let points : c.left-points.result ≡ left = c.left-points.ensures ∙ ap (λ n. points_left seed n c.args.self.now.hints team slot) c.checked_len.ensures.count in
    let enough : price ≤ left = omega (arith, c.if-points-from.false, c.from.ensures, c.cost-cost.ensures, points) in
    let made : paid team slot price left (option_copied c.args.held) ≡ bought (bought_hint team slot h) =
    ap (λ o. paid team slot price left (option_copied o)) c.in-Some.is ∙ ap (λ (b : Bool). cond b (too_dear price left) (bought (bought_hint team slot h))) (le-ltb left price enough) in
    (bought_hint team slot h, (made, ap (λ s. hint record { team = team; finder = c.held.inside.slot; location = c.held.inside.location; bought = true; buyer = slot; status = s }) c.bought_status.ensures ∙ ap (λ (x : Held). hint (bought_hint team slot x)) c.held.view_is))
