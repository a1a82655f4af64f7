use Rattle.std.proofs.Common.{sym, ap, subst, map, length, arith}
use Rattle.std.proofs.lemmas.List.{length-map}
use Rattle.mw_tables.specs.RuleNames.{raw_location_name}
use Rattle.mw_tables.specs.Small.{IsSmall}
use Rattle.mw_multi.proofs.Indexing.{place_is_small}
use Rattle.mw_tables.proofs.tables.Tables.location_place.Goals as goal

pub overflow_add-result : goal.overflow_add-result
overflow_add-result c =
    let small : IsSmall c.args.self.now = subst IsSmall c.self.view_is c.self.invariant.0 in
    let place = place_is_small (map raw_location_name c.args.self.now.locations) c.args.name.now c.in-Some.location (sym c.in-Some.ensures) in
    let count = length-map c.args.self.now.locations raw_location_name in
    let regions = ap (λ w. length w.regions) c.world.view_is in
    omega (arith, small.locations, place, count, regions, c.len-regions.ensures, c.self.invariant.0.regions)
