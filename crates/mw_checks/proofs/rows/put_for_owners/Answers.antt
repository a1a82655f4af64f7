use Rattle.std.proofs.Common.{◌<◌, ◌≤◌, ℕ, List, length, refl, sym, ap, ◌∙◌, subst, arith}
use Rattle.std.specs.Ordering.{nat_cmp}
use Rattle.std.proofs.lemmas.Bool.{eq-eqb}
use Rattle.mw_model.specs.Ascending.{Ascend}
use Rattle.mw_model.specs.Seed.{Seed, Group, has_number}
use Rattle.mw_multidata.specs.SeedKept.{IsSeed}
use Rattle.mw_checks.specs.Rows.{HasPlace, seat}
use Rattle.mw_checks.proofs.Owning.{members_ascend, members_own, slot_owns}
use Rattle.mw_checks.proofs.rows.put_for_owners.Goals as goal

pub put_at-requires : goal.put_at-requires
put_at-requires c =
    let seed = c.args.multidata.now in
    let receiver = c.args.receiver in
    let few : receiver ≤ length seed.slots = omega (arith, c.if-from-len.true, c.from.ensures, c.len.ensures, ap (λ (s : Seed). length s.slots) c.multidata.view_is) in
    let below : receiver ≤ 1024 = omega (arith, few, ap (λ (s : Seed). length s.slots) c.multidata.view_is, c.multidata.invariant.slots.few) in
    let place : HasPlace c.args.rows.now.items (seat receiver c.args.team) = c.requires receiver below (slot_owns seed receiver receiver few ∙ eq-eqb receiver receiver refl) in
    subst (HasPlace c.args.rows.now.items) (sym (c.seat.ensures.value ∙ ap (λ n. seat n c.args.team) c.from-then-from-len.ensures)) place

pub put_for_each-requires-clause-places : goal.put_for_each-requires-clause-places
put_for_each-requires-clause-places c = λ slot few among.
    let seed = c.args.multidata.now in
    let receiver = c.args.receiver in
    let beyond : length seed.slots < receiver = omega (arith, c.if-from-len.false, c.from.ensures, c.len.ensures, ap (λ (s : Seed). length s.slots) c.multidata.view_is) in
    c.requires slot few
    (members_own seed receiver slot c.in-Some.group.now beyond (sym c.in-Some.ensures)
    ∙ ap (λ (ns : List ℕ). has_number ns slot) (sym (c.as_slice.ensures ∙ ap (λ (g : Group). g.members) c.group-in-Some.view_is)) ∙ among)

pub put_for_each-requires-clause-ascend : goal.put_for_each-requires-clause-ascend
put_for_each-requires-clause-ascend c =
    let seed = c.args.multidata.now in
    subst (Ascend nat_cmp) (sym (c.as_slice.ensures ∙ ap (λ (g : Group). g.members) c.group-in-Some.view_is))
    (members_ascend seed c.args.receiver c.in-Some.group.now (subst IsSeed c.multidata.view_is c.multidata.invariant) (sym c.in-Some.ensures))
