use Rattle.std.proofs.Common.{◌≡◌, ◌&&◌, ℤ, pos, ◌≤ℤ◌, ◌<ℤ◌, ◌^◌, Option, Some, sym, ap, ◌∙◌, subst, arith, to_z, of_z, w64, to_z-of_z}
use Rattle.std.specs.Ordering.{int_eq}
use Rattle.std.specs.Option.{option_copied}
use Rattle.mw_model.specs.Seed.{Seed, Held, is_owner}
use Rattle.mw_protocol.specs.Hints.{first_where, is_open, item_bought, item_named, paid}
use Rattle.mw_multidata.specs.SeedKept.{IsId}
use Rattle.mw_hints.proofs.Numbers.{item_id}
use Rattle.mw_protocol.specs.Standing.{cost, points_left}
use Rattle.mw_hints.specs.Answering.{IsAnswer}
use Rattle.mw_hints.specs.Opening.{opens}
use Rattle.mw_hints.proofs.book.HintBook.buy_item.Goals as goal

pub returns-in-Some : goal.returns-in-Some
unfolding opens
returns-in-Some g c =
    let seed = g.C.Checks.seed c.args.log.now in
    let team = c.args.team in
    let slot = c.args.slot in
    let hints = c.args.self.now.hints in
    let left = points_left seed (g.C.Checks.count c.args.log.now team slot) hints team slot in
    let item = c.in-Some.item in
    let is : IsId item = item_id c.multidata.result.now slot c.args.name.now item c.multidata.ensures.kept (sym c.item_named.ensures ∙ c.in-Some.is) in
    let low : pos 1 ≤ℤ item = is.low in
    let high : item <ℤ pos (2 ^ 53) = is.high in
    let back : to_z w64 (of_z w64 item) ≡ item = grind (arith, to_z-of_z) in
    let found : option_copied c.first_open.result ≡ first_where (λ h. is_owner seed h.receiver slot && int_eq h.item item && is_open (g.C.Checks.is_found c.args.log.now) hints team h) seed.locations =
    c.first_open.ensures ∙ ap (λ (z : ℤ). first_where (λ h. is_owner seed h.receiver slot && int_eq h.item z && is_open (g.C.Checks.is_found c.args.log.now) hints team h) seed.locations) back in
    let named : Some c.in-Some.item ≡ item_named seed slot c.args.name.now =
    sym c.in-Some.is ∙ c.item_named.ensures ∙ ap (λ (s : Seed). item_named s slot c.args.name.now) (c.multidata.ensures.value ∙ c.tables.ensures) in
    subst (λ (o : Option ℤ). IsAnswer c.paid.result (item_bought seed (g.C.Checks.is_found c.args.log.now) left hints team slot o)) named
    (subst (λ (h : Option Held). IsAnswer c.paid.result (paid team slot (cost seed slot) left h)) found c.paid.ensures)
