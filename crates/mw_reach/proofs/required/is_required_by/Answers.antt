use Rattle.std.proofs.Common.{◌≡◌, ◌∙◌, Bool, true, false, not, Option, None, Some, refl, sym, ap}
use Rattle.std.specs.Prelude.{is_none, is_some}
use Rattle.mw_rules.specs.Holds.{bag_of}
use Rattle.mw_reach.specs.Reached.{counts_in, places_in}
use Rattle.mw_reach.specs.declared.lack.Lack.{Lack}
use Rattle.mw_reach.proofs.Requiring.{required_is}
use Rattle.mw_reach.proofs.required.is_required_by.Goals as goal

none_is : (b : Bool) (o : Option Lack) → not b ≡ is_some o → b ≡ is_none o
none_is true None e = refl
none_is true (Some x) e = cc
none_is false None e = cc
none_is false (Some x) e = refl

pub returns-clause-answer : goal.returns-clause-answer
returns-clause-answer g c =
    let reached = c.args.reached.now in
    none_is c.is_none.result c.first_lack_by.result (sym c.is_none.ensures) ∙ ap is_none c.first_lack_by.ensures.lack
    ∙ sym (required_is c.args.joint.now (bag_of (counts_in reached)) (places_in reached))
