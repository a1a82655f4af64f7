-- The tables make the seed that the closure makes.
use Rattle.std.proofs.Common.{◌≡◌, Ok, sym, ◌∙◌, subst}
use Rattle.mw_multi.specs.Joint.{Joint}
use Rattle.mw_seeds.specs.Made.{Generates}
use Rattle.mw_causes.specs.Tables.{JointIn}
use Rattle.mw_offline.specs.Generating.{IsTextFor}
use Rattle.mw_offline.proofs.OneRun.{generate_is_one}
use Rattle.mw_clock.specs.Seeds.{IsClockJoint}
use Rattle.mw_clock.proofs.TablesJoined.{tables_join}
use Rattle.mw_clockwork.specs.Agreement.{SeedsAgree}

pub seeds_agree : SeedsAgree
seeds_agree files asked wanted bytes text others other size held players tries made given =
    let found : JointIn files asked.players_name given.joint = subst (λ name. JointIn files name given.joint) players given.is_joined in
    let joined : IsClockJoint asked.gears given.joint = tables_join files asked held.world held.played given.joint size held.are held.world_there held.players_there found in
    let is : Ok made.joint ≡ Ok given.joint = sym (made.is_joint asked.world_name) ∙ joined asked.world_name in
    let joints : made.joint ≡ given.joint = cc in
    let hundred : Generates made.joint wanted.seed wanted.tries bytes text = subst (λ n. Generates made.joint wanted.seed n bytes text) (sym tries) made.made in
    let here : IsTextFor (JointIn files wanted.players) wanted bytes text = record {
      joint = given.joint;
      is_joined = given.is_joined;
      made = subst (λ (j : Joint). Generates j wanted.seed wanted.tries bytes text) joints hundred;
    } in
    generate_is_one files wanted bytes text others other held.told here given
