-- Which calls of an object in memory fail.
use Rattle.std.specs.Prelude.{ℕ, ◌+◌, ◌-◌, ◌^◌, min, List, Bool, nat_eq, nat_le, if◌then◌else◌}
use Rattle.std.specs.List.{list_any}

-- the number of the next call, how many calls have failed, and the numbers of the calls that are to
-- fail
pub record FaultPlan : Type 0 where
  pub call : ℕ
  pub count : ℕ
  pub failing : List ℕ

-- before the first call, whose number is 0
abbrev pub first_plan : List ℕ → FaultPlan
first_plan failing = record { call = 0; count = 0; failing = failing }

-- whether the next call is to fail
abbrev pub fails : FaultPlan → Bool
fails plan = list_any (λ n. nat_eq n plan.call) plan.failing

-- whether the next call is to fail, or a later one
abbrev pub may_fail : FaultPlan → Bool
may_fail plan = list_any (λ n. nat_le plan.call n) plan.failing

-- after a call, which failed or didn't; numbers of calls end at the last that a u64 holds
abbrev pub after_call : Bool → FaultPlan → FaultPlan
after_call failed plan = record {
  call = min (plan.call + 1) (2 ^ 64 - 1);
  count = if failed then plan.count + 1 else plan.count;
  failing = plan.failing;
}

-- after a fault that no call had, where there was one
abbrev pub after_fault : Bool → FaultPlan → FaultPlan
after_fault failed plan =
    record plan { count = if failed then plan.count + 1 else plan.count }
