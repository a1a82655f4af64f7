-- Runs of calls that only read.
use Rattle.std.proofs.Common.{◌≡◌, ◌≤◌, ◌∙◌, refl, ℕ, List, arith}
use Rattle.std.specs.Prelude.{Option}
use Rattle.mw_disk.specs.Crash.{Stays, Elapses}
use Rattle.mw_disk.proofs.Moments.{started, goes_on, then_on}
use Rattle.mw_journal.specs.Reads.{OnlyReads}

module _ {D : Type 0} (told : D → Option (List ℕ)) (may_leave : D → List ℕ → Type 0) (moment : D → ℕ)
    (left_since : D → ℕ → List ℕ → Type 0) (faults : D → ℕ) where
  abbrev Run : D → D → Type 0
  Run before after = OnlyReads told may_leave moment left_since faults before after

  -- no call
  pub none : ((disk : D) (c : List ℕ) → left_since disk (moment disk) c → may_leave disk c) → (disk : D) → Run disk disk
  none only_now disk = record {
    same = refl;
    stays = λ c now. now;
    moments = started moment left_since disk (may_leave disk) (only_now disk);
    later = omega arith;
  }

  -- one read
  pub once : ((disk : D) (c : List ℕ) → left_since disk (moment disk) c → may_leave disk c) → (before after : D)
      → told after ≡ told before → Stays (may_leave before) (may_leave after)
      → Elapses (moment before) (moment after) (left_since before) (left_since after) (may_leave after)
      → faults before ≤ faults after → Run before after
  once only_now before after same stays time later = record {
    same = same;
    stays = stays;
    moments = goes_on moment left_since before before after (may_leave before) (may_leave after)
        (started moment left_since before (may_leave before) (only_now before)) time stays;
    later = later;
  }

  -- two runs, one after the other
  pub both : (before mid after : D) → Run before mid → Run mid after → Run before after
  both before mid after first second = record {
    same = second.same ∙ first.same;
    stays = λ c now. first.stays c (second.stays c now);
    moments = then_on moment left_since before mid after (may_leave before) (may_leave mid) first.moments second.moments first.stays;
    later = omega (arith, first.later, second.later);
  }
