use Rattle.std.proofs.Common.{◌≡◌, ◌∙◌, Bool, true, ◌&&◌, sym, ap}
use Rattle.std.specs.Prelude.{find}
use Rattle.mw_rules.specs.Holds.{bag_of}
use Rattle.mw_reach.specs.Required.{is_required}
use Rattle.mw_reach.specs.Reached.{counts_in, places_in}
use Rattle.mw_fill.specs.Fill.{is_allowed_if}
use Rattle.mw_fill.specs.Kept.{is_open_in}
use Rattle.mw_fill.proofs.allowed.first_allowed.Goals as goal

pub returns-then-not-is_missable-clause-found : goal.returns-then-not-is_missable-clause-found
returns-then-not-is_missable-clause-found g c =
    let a = c.args in
    let w = places_in a.reached.now in
    let first : Bool → _ = λ missed. find (is_open_in (is_allowed_if a.joint.now (missed && is_required a.joint.now (bag_of (counts_in a.reached.now)) w) w a.copy.now) a.held.now) a.openings.now in
    c.first_after.ensures ∙ sym (ap first (sym c.is_missable.ensures ∙ c.if-not-is_missable.true))
