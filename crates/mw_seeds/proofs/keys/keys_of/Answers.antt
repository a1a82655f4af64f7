use Rattle.std.proofs.Common.{is_lt, rules, sym, subst}
use Rattle.std.proofs.lemmas.List.Sorted.{answers_always, ranks_by}
use Rattle.mw_multi.specs.Joint.{IsJoint}
use Rattle.mw_multidata.specs.SeedKept.{held_cmp}
use Rattle.mw_multidata.proofs.NamesKept.{held_total}
use Rattle.mw_seeds.specs.Keys.{as_held, AreKeys}
use Rattle.mw_seeds.proofs.KeyOrder.{keys_are}
use Rattle.mw_seeds.proofs.keys.keys_of.Goals as goal

pub returns : goal.returns
returns c =
    let joint = c.args.joint.now in
    subst (AreKeys joint.slots) (sym c.from_vec.ensures)
    (keys_are joint (subst IsJoint c.joint.view_is c.joint.invariant) c.in_ok-keys.keys.items c.sort_unstable_by.new.self.items c.in_ok-keys.ensures c.sort_unstable_by.ensures.permutation
    (c.sort_unstable_by.ensures.sorted (λ a b. is_lt (held_cmp (as_held a) (as_held b))) (ranks_by held_total as_held) (answers_always _ _ _ (λ f a r g h. search rules))))
