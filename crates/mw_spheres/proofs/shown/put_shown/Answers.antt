use Rattle.std.proofs.Common.{arith, rules}
use Rattle.mw_reach.specs.Reached.{places_in}
use Rattle.mw_spheres.proofs.Revealing.{put_more, nothing_more}
use Rattle.mw_spheres.proofs.shown.put_shown.Goals as goal

pub loop-place-init : goal.loop-place-init
loop-place-init c = record {
  size = search rules;
  fewer = c.requires.fewer;
  entries = search rules;
  more = λ base. nothing_more base c.args.table.now (places_in c.args.reached.now) c.new-more.result c.new-more.ensures;
  within = λ items all. rw c.new-more.ensures (λ k d h. absurd (omega arith));
}

pub loop-place-preserved : goal.loop-place-preserved
loop-place-preserved c =
    let i = c.loop-place.invariant in
    let one = c.in_ok-put_one.ensures in
    record {
      size = search rules;
      fewer = c.put_one.ensures.fewer;
      entries = put_more c.args.full.now c.args.table.now c.loop-place.table c.put_one.new.table c.args.places.now c.loop-place.place-index c.args.shown.now c.loop-place-test.true i.entries one.entries;
      more = λ base. one.more base c.args.table.now (i.more base);
      within = λ items all. one.within items all (i.within items all);
    }
