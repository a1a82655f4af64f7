use Rattle.std.proofs.Common.{◌≡◌, ap, sym, subst, ◌∙◌, true, is_some, option_map}
use Rattle.mw_protocol.specs.Players.{plays}
use Rattle.mw_model.specs.Seed.{Seed}
use Rattle.mw_multidata.specs.Names.{find_game}
use Rattle.mw_multidata.specs.SeedKept.{IsSeed}
use Rattle.mw_datapack.proofs.PlayedThere.{played_there, some_seen}
use Rattle.mw_datapack.proofs.played.played.Goals as goal

pub returns-then-is_played-clause-some : goal.returns-then-is_played-clause-some
returns-then-is_played-clause-some c =
    let seed = c.args.tables.now in
    let name = c.args.name.now in
    let is : c.multidata-multidata.result.now ≡ seed = c.multidata-multidata.ensures.value in
    let kept : IsSeed seed = subst IsSeed is c.multidata-multidata.ensures.kept in
    let slots : c.as_slice.result.now ≡ seed.slots = c.as_slice.ensures ∙ ap (λ (s : Seed). s.slots) (c.multidata.view_is ∙ is) in
    let games : c.as_slice-then-is_played.result.now ≡ seed.games = c.as_slice-then-is_played.ensures ∙ ap (λ (s : Seed). s.games) (c.multidata.view_is ∙ is) in
    let played : plays seed.slots name ≡ true = subst (λ ss. plays ss name ≡ true) slots (sym c.if-is_played.ensures) in
    let seen : is_some (option_map (λ g. g.now) c.find.result) ≡ true =
    ap is_some (c.find.ensures ∙ ap (λ gs. find_game gs name) games) ∙ played_there seed name kept played in (
      λ _. played,
      λ _. some_seen (λ g. g.now) c.find.result seen,
    )
