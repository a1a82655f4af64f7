use Rattle.std.proofs.Common.{◌≡◌, ◌==◌, ltb, rules, ap, sym, ◌∙◌}
use Rattle.std.proofs.lemmas.List.Sorted.{IsPartitionedBy-ltb, IsPartitionPoint-from_clause}
use Rattle.mw_model.specs.Seed.{has_number}
use Rattle.mw_multidata.proofs.Among.{members_rise, past_all, at_its_place}
use Rattle.mw_multidata.proofs.members.is_among.Goals as goal

pub returns-in-None : goal.returns-in-None
returns-in-None c =
    let slot = c.args.slot in
    let ms = c.args.members.now in
    let k = c.partition_point-before.result in
    let first = IsPartitionPoint-from_clause (λ m. ltb m slot) ms k c.partition_point-before.ensures.partitioned (IsPartitionedBy-ltb (λ m. m) ms slot (members_rise ms c.requires)) (λ a r q k. search rules) in
    sym (past_all slot ms k first.0 c.in-None.ensures.lookup.3)

pub returns-in-Some : goal.returns-in-Some
returns-in-Some c =
    let slot = c.args.slot in
    let ms = c.args.members.now in
    let k = c.partition_point-before.result in
    let first = IsPartitionPoint-from_clause (λ m. ltb m slot) ms k c.partition_point-before.ensures.partitioned (IsPartitionedBy-ltb (λ m. m) ms slot (members_rise ms c.requires)) (λ a r q k. search rules) in
    let m = c.in-Some.member.now in
    let at = c.in-Some.ensures.lookup in
    let same : (m == slot) ≡ has_number ms slot = ap (λ x. x == slot) at.1 ∙ sym (at_its_place slot ms k m c.requires first.0 first.1 at.3.0) in
    rw (c.get-in-Some.ensures.value, c.get-in-Some-2.ensures.value) same
