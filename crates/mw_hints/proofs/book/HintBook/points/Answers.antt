use Rattle.std.proofs.Common.{◌*◌, ◌<◌, ◌≤◌, ◌==◌, ◌&&◌, ◌^◌, length, subst, sym, ◌∙◌, arith}
use Rattle.std.specs.List.{count_by}
use Rattle.std.proofs.lemmas.List.Sums.{count_by-le-length}
use Rattle.mw_model.specs.Seed.{Held}
use Rattle.mw_protocol.specs.HintList.{bought_by}
use Rattle.mw_protocol.specs.Standing.{cost, points_left}
use Rattle.mw_multidata.specs.SeedKept.{IsSeed}
use Rattle.mw_hints.proofs.Numbers.{points_fit}
use Rattle.mw_hints.proofs.book.HintBook.points.Goals as goal

pub overflow_cast-result : goal.overflow_cast-result
overflow_cast-result g c =
    let seed = g.C.Checks.seed c.args.log.now in
    let hints = c.args.self.now.hints in
    let kept : IsSeed seed = subst IsSeed (c.multidata-kept.ensures.value ∙ c.tables.ensures) c.multidata-kept.ensures.kept in
    let within : count_by (λ (h : Held). (h.slot == c.args.slot) && g.C.Checks.is_found c.args.log.now c.args.team c.args.slot h.location) seed.locations ≤ length seed.locations =
    count_by-le-length (λ (h : Held). (h.slot == c.args.slot) && g.C.Checks.is_found c.args.log.now c.args.team c.args.slot h.location) seed.locations in
    let some : c.args.checked < 2 ^ 32 = omega (arith, c.requires, c.checked_len-few.ensures.count, c.checked_len-few.ensures.found, within, kept.locations.few) in
    let few : points_left seed c.args.checked hints c.args.team c.args.slot < 2 ^ 64 =
    points_fit seed.server.location_check_points c.args.checked (cost seed c.args.slot * length (bought_by hints c.args.team c.args.slot)) kept.server.points some in
    let small : c.left.result < 2 ^ 64 = subst (λ n. n < 2 ^ 64) (sym c.left.ensures) few in
    omega (arith, small)
