use Rattle.std.proofs.Common.{◌≡◌, ◌++◌, ◌∙◌, ℤ, ap, map, arith, to_z, of_z, w64, to_z-of_z}
use Rattle.mw_model.specs.Seed.{Held}
use Rattle.mw_protocol.specs.Commands.{name_among}
use Rattle.mw_answers.specs.Names.{is_as, name_if}
use Rattle.mw_answers.proofs.Named.{where_next}
use Rattle.mw_answers.proofs.locations.names_where.Goals as goal

pub loop-held-preserved : goal.loop-held-preserved
loop-held-preserved g c =
    let l = c.loop-held in
    let names = c.args.names.now in
    let number : c.get.result ≡ c.held-item.result.location = c.get.ensures.value ∙ ap (λ (h : Held). h.location) c.held.view_is in
    let id : to_z w64 (of_z w64 c.get.result) ≡ c.held-item.result.location = grind (arith, to_z-of_z) in
    let made = c.in_ok-push_named.ensures ∙ ap (λ (z : ℤ). map (λ n. n.now) l.found ++ name_if c.is_wanted-wanted.result (name_among z names)) id in
    where_next (λ z. name_among z names) (λ z. is_as c.args.checked (g.C.Checks.is_found c.args.log.now c.args.team c.args.slot z)) c.args.slot l.held-index c.args.locations.now
    c.held-item.result (map (λ n. n.now) l.found) (map (λ n. n.now) c.push_named.new.found) c.is_wanted-wanted.result c.loop-held-test.true c.held-item.is c.is_wanted-wanted.ensures
    l.invariant made
