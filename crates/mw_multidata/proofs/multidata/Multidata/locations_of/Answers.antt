use Rattle.std.proofs.Common.{◌≡◌, ◌-◌, ltb, leb, length, take, drop, rules, sym, ap, subst, ◌∙◌}
use Rattle.std.specs.List.Sorted.{IsNonDecreasingBy}
use Rattle.std.proofs.lemmas.List.{take_rest}
use Rattle.std.proofs.lemmas.List.Sorted.{IsNonDecreasingBy-drop, IsPartitionedBy-leb, IsPartitionedBy-ltb, IsPartitionPoint-from_clause}
use Rattle.mw_model.specs.Seed.{Seed, Held}
use Rattle.mw_model.specs.Ascending.{Ascend}
use Rattle.mw_multidata.specs.OfSlot.{held_of}
use Rattle.mw_multidata.specs.SeedKept.{held_cmp}
use Rattle.mw_multidata.proofs.Runs.{slots_rise, run_is}
use Rattle.mw_multidata.proofs.multidata.Multidata.locations_of.Goals as goal

pub returns : goal.returns
returns c =
    let slot = c.args.slot in
    let hs = c.as_slice-locations.result.now in
    let from = c.partition_point-before.result in
    let rest = take (length hs - from) (drop from hs) in
    let tail : rest ≡ drop from hs = take_rest hs from in
    let same : hs ≡ c.args.self.now.locations = c.as_slice-locations.ensures ∙ ap (λ (s : Seed). s.locations) c.self.view_is in
    let ascend : Ascend held_cmp hs = subst (Ascend held_cmp) (sym c.as_slice-locations.ensures) c.self.invariant.locations.ascend in
    let rise = slots_rise hs ascend in
    let rest_rises = subst (IsNonDecreasingBy (λ (h : Held). h.slot)) (sym tail) (IsNonDecreasingBy-drop (λ (h : Held). h.slot) from hs rise) in
    let first = IsPartitionPoint-from_clause (λ (h : Held). ltb h.slot slot) hs from c.partition_point-before.ensures.partitioned (IsPartitionedBy-ltb (λ (h : Held). h.slot) hs slot rise) (λ a r q k. search rules) in
    let last = IsPartitionPoint-from_clause (λ (h : Held). leb h.slot slot) rest _ c.partition_point-many.ensures.partitioned (IsPartitionedBy-leb (λ (h : Held). h.slot) rest slot rest_rises) (λ a r q k. search rules) in
    run_is slot hs rest from c.partition_point-many.result tail c.partition_point-many.ensures.bound first last ∙ ap (held_of slot) same
