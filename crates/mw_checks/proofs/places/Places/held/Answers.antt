use Rattle.std.proofs.Common.{ap, ◌∙◌}
use Rattle.std.specs.Prelude.{slice_get}
use Rattle.mw_model.specs.Seed.{Seed}
use Rattle.mw_checks.proofs.Numbering.{held_numbered}
use Rattle.mw_checks.proofs.places.Places.held.Goals as goal

pub returns-in-Some : goal.returns-in-Some
returns-in-Some c =
    c.get.ensures.value ∙ ap (λ (s : Seed). slice_get s.locations c.in-Some.number) (c.behind-tables.view_is ∙ c.multidata.ensures.value ∙ c.tables.ensures) ∙ held_numbered c.args.self.now c.args.slot c.args.location _ c.in-Some.ensures.value

pub returns-in-None : goal.returns-in-None
returns-in-None c = held_numbered c.args.self.now c.args.slot c.args.location _ c.in-None.ensures.value
