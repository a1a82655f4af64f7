-- How many of a slot's locations are reached, counted one after the other.
use Rattle.std.proofs.Common.{◌≡◌, ℕ, zero, suc, ◌+◌, List, map, Result, Ok, Err, ap, ◌∙◌, arith}
use Rattle.mw_rules.specs.Holds.{Places}
use Rattle.std.specs.Prelude.{IfOk}
use Rattle.mw_multi.specs.World.{World}
use Rattle.mw_multi.specs.Players.{Players}
use Rattle.mw_multi.specs.Joint.{Joint}
use Rattle.mw_multi.specs.JointOf.{joint_of}
use Rattle.mw_multi.specs.Bags.{start_count, everything}
use Rattle.mw_reach.specs.Reach.{one_if}
use Rattle.mw_causes.specs.Tables.{Files, TablesOf}
use Rattle.mw_causes.proofs.TableCauses.{joint_in}
use Rattle.mw_offline.specs.Reaching.{reached_from, reached_in, Reaches, slot_lines, ReachLines, ReachText}

-- one place more
pub counted_more : (w : Places) (first n : ℕ) → reached_from w first (n + 1) ≡ reached_from w first n + one_if (w (first + n))
counted_more w first zero =
    let first_is : first ≡ first + 0 = omega arith in
    let sum : one_if (w first) + 0 ≡ 0 + one_if (w first) = omega arith in
    sum ∙ ap (λ p. 0 + one_if (w p)) first_is
counted_more w first (suc n) =
    let next : suc first + n ≡ first + suc n = omega arith in
    let one : suc n + 1 ≡ suc (n + 1) = omega arith in
    let later : reached_from w (suc first) (n + 1) ≡ reached_from w (suc first) n + one_if (w (first + suc n)) =
    counted_more w (suc first) n ∙ ap (λ p. reached_from w (suc first) n + one_if (w p)) next in
    let sum : one_if (w first) + reached_from w (suc first) (n + 1) ≡ one_if (w first) + reached_from w (suc first) n + one_if (w (first + suc n)) = omega (arith, later) in
    ap (reached_from w first) one ∙ sum

-- ---- the lines of what is counted

pub lines_there : {L E : Type 0} (bytes : L → List ℕ) (joint : Joint) (counts : List ℕ) (some every : Places) (r : Result L E)
    → Reaches joint (start_count joint.slots) some → Reaches joint (everything joint) every
    → counts ≡ map (λ s. reached_in s some) joint.slots
    → IfOk r (λ t. (p : Places) → counts ≡ map (λ s. reached_in s p) joint.slots → bytes t ≡ slot_lines 1 joint.slots p every)
    → IfOk r (λ t. ReachLines joint (bytes t))
lines_there bytes joint counts some every (Ok t) with_start with_all counted h = record { start = some; with_start = with_start; all = every; with_all = with_all; printed = h some counted }
lines_there bytes joint counts some every (Err e) with_start with_all counted h = h

-- they are those of tables that are joined
pub reach_text : (files : Files) (name : List ℕ) (players : Players) (worlds : List World) → TablesOf files name players worlds → (joint : Joint) (text : List ℕ) → joint_of worlds players ≡ Ok joint → ReachLines joint text → ReachText files name text
reach_text files name players worlds t joint text h lines =
    record { joint = joint; joined = joint_in files name players worlds t joint h; lines = lines }
