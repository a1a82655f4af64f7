use Rattle.std.proofs.Common.{Bor, ◌≡◌, ◌∙◌, IfOk, List, ℕ, ap, map, subst}
use Rattle.mw_model.specs.Seed.{Seed}
use Rattle.mw_protocol.specs.Commands.{game_of}
use Rattle.mw_answers.specs.Names.{item_names}
use Rattle.mw_answers.proofs.Named.{left_named}
use Rattle.mw_answers.proofs.locations.remaining_text.Goals as goal

pub returns : goal.returns
returns g c =
    let seed = g.C.Checks.seed c.args.log.now in
    let same : c.multidata-seed.result.now ≡ seed = c.multidata-seed.ensures.value ∙ c.tables.ensures in
    let names = c.in_ok-names.ensures ∙ c.item_names.ensures ∙ ap item_names (c.game_of.ensures ∙ ap (λ (s : Seed). game_of s c.args.slot) same) in
    let locations = c.as_slice.ensures ∙ ap (λ (s : Seed). s.locations) (c.seed.view_is ∙ same) in
    let found = ap (λ (ns : List (Bor (List ℕ))). map (λ n. n.now) ns) c.as_slice-2.ensures ∙ c.in_ok-found.ensures in
    subst (λ (x : List ℕ). IfOk c.counted.result (λ t. t ≡ x))
    (left_named seed (g.C.Checks.is_found c.args.log.now) c.args.team c.args.slot c.in_ok-names.names c.as_slice.result.now (map (λ n. n.now) c.as_slice-2.result.now)
    names locations found) c.counted.ensures
