use Rattle.std.proofs.Common.{◌≡◌, ◌∙◌, Bool, true, false, ◌&&◌, None, Some, sym, ap, ap₂, subst}
use Rattle.std.specs.Prelude.{find}
use Rattle.mw_rules.specs.Holds.{bag_of}
use Rattle.mw_reach.specs.Required.{is_required}
use Rattle.mw_reach.specs.Reached.{counts_in, places_in}
use Rattle.mw_fill.specs.Openings.{Opening}
use Rattle.mw_fill.specs.Fill.{is_missable, is_allowed_if}
use Rattle.mw_fill.specs.Kept.{is_open_in}
use Rattle.mw_fill.proofs.Allowing.{none_anyhow, reached_anyhow}
use Rattle.mw_fill.proofs.allowed.first_missed.Goals as goal

pub returns-in-None-clause-found : goal.returns-in-None-clause-found
returns-in-None-clause-found g c =
    let a = c.args in
    let w = places_in a.reached.now in
    let missed = is_missable a.joint.now a.copy.now && is_required a.joint.now (bag_of (counts_in a.reached.now)) w in
    sym (none_anyhow a.joint.now w a.copy.now a.held.now a.openings.now missed (sym c.first_after.ensures ∙ c.in-None.is))

pub returns-then-has-clause-found : goal.returns-then-has-clause-found
returns-then-has-clause-found g c =
    let a = c.args in
    let w = places_in a.reached.now in
    let opening = c.in-Some.opening in
    let missed = is_missable a.joint.now a.copy.now && is_required a.joint.now (bag_of (counts_in a.reached.now)) w in
    let there = subst (λ p. w p ≡ true) (ap (λ (s : Opening). s.place) c.opening.view_is) (sym c.has.ensures ∙ c.if-has.true) in
    sym (reached_anyhow a.joint.now w a.copy.now a.held.now a.openings.now missed opening (sym c.first_after.ensures ∙ c.in-Some.is) there)

pub returns-then-is_required_by-clause-found : goal.returns-then-is_required_by-clause-found
returns-then-is_required_by-clause-found g c =
    let a = c.args in
    let w = places_in a.reached.now in
    let first : Bool → _ = λ missed. find (is_open_in (is_allowed_if a.joint.now missed w a.copy.now) a.held.now) a.openings.now in
    let both = ap₂ ◌&&◌ c.requires.missable (sym c.is_required_by.ensures.answer ∙ c.if-is_required_by.true) in
    sym c.in-Some.is ∙ c.first_after.ensures ∙ sym (ap first both)

pub returns-else-is_required_by-clause-found : goal.returns-else-is_required_by-clause-found
returns-else-is_required_by-clause-found g c =
    let a = c.args in
    let w = places_in a.reached.now in
    let first : Bool → _ = λ missed. find (is_open_in (is_allowed_if a.joint.now missed w a.copy.now) a.held.now) a.openings.now in
    let none = ap₂ ◌&&◌ c.requires.missable (sym c.is_required_by.ensures.answer ∙ c.if-is_required_by.false) in
    c.first_after-in-Some.ensures ∙ sym (ap first none)
