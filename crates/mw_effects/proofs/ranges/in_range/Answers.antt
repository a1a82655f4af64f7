use Rattle.std.proofs.Common.{arith}
use Rattle.std.proofs.lemmas.List.Elements.{All-weaker}
use Rattle.mw_model.specs.Seed.{Seed}
use Rattle.mw_multidata.specs.SeedKept.{SlotKept, IsSeed}
use Rattle.mw_effects.specs.Playable.{HasFewNames, IsPlayable}
use Rattle.mw_effects.proofs.ranges.in_range.Goals as goal

in_range : (seed : Seed) → IsSeed seed → IsPlayable seed
in_range seed h = record {
  few_teams = h.few_teams;
  few_slots = h.slots.few;
  few_receivers = h.groups.few;
  few_names = All-weaker (SlotKept seed.teams seed.games) HasFewNames (λ s k. omega (arith, k.count, h.few_teams)) seed.slots h.slots.each;
}

pub returns : goal.returns
returns c = in_range c.args.seed.now c.requires
