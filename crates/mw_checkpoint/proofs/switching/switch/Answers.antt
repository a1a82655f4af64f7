use Rattle.std.proofs.Common.{ℕ, List, [], ◌∷◌, ◌++◌, ◌≡◌, ◌⊎◌, ◌≤◌, ◌^◌, Some, subst}
use Rattle.mw_disk.specs.Crash.{LeavesOnly}
use Rattle.mw_journal.specs.Settled.{IsSettled}
use Rattle.mw_protocol.specs.Records.{Record}
use Rattle.mw_thinning.specs.Thinning.{thinned}
use Rattle.mw_checkpoint.specs.Pair.{HoldsText, IsPrepared, PairStands}
use Rattle.mw_checkpoint.specs.Switching.{IsLength, IsOutsideOrFull, RefusesSwitch}
use Rattle.mw_checkpoint.proofs.Pairing.{names_either, names_thin}
use Rattle.mw_checkpoint.proofs.switching.switch.Goals as goal

pub returns-in-Ok-clause-any_moment : goal.returns-in-Ok-clause-any_moment
returns-in-Ok-clause-any_moment g c =
    subst (λ m. (text : List ℕ) (records : List Record) → IsPrepared g.D.Disk.may_leave text records m
    → LeavesOnly g.D.Disk.moment g.D.Disk.left_since m.files.choice c.in-Ok.choice (λ f. IsSettled f m.digest text (m.other ∷ [])))
    c.prepared.view_is (λ text records is. c.in-Ok.ensures.any_moment text is.choice)

pub returns-in-Err-clause-any_moment : goal.returns-in-Err-clause-any_moment
returns-in-Err-clause-any_moment g c =
    subst (λ m. (text : List ℕ) (records : List Record) → IsPrepared g.D.Disk.may_leave text records m
    → LeavesOnly g.D.Disk.moment g.D.Disk.left_since m.files.choice c.in-Err.choice (λ f. IsSettled f m.digest text (m.other ∷ [])))
    c.prepared.view_is (λ text records is. c.in-Err.ensures.any_moment text is.choice)

pub returns-in-Ok-clause-pairs : goal.returns-in-Ok-clause-pairs
returns-in-Ok-clause-pairs g c =
    subst (λ m. (text : List ℕ) (records : List Record) → IsPrepared g.D.Disk.may_leave text records m → (f first second : List ℕ)
    → g.D.Disk.left_since c.in-Ok.choice (g.D.Disk.moment m.files.choice) f → g.D.Disk.may_leave m.files.zero first → g.D.Disk.may_leave m.files.one second
    → PairStands f first second m.digest records ⊎ PairStands f first second m.digest (thinned records))
    c.prepared.view_is
    (λ text records is f first second since left right. names_either g.D.Disk.may_leave _ text records is f first second
    ((c.in-Ok.ensures.any_moment text is.choice).each f since) left right)

pub returns-in-Err-clause-pairs : goal.returns-in-Err-clause-pairs
returns-in-Err-clause-pairs g c =
    subst (λ m. (text : List ℕ) (records : List Record) → IsPrepared g.D.Disk.may_leave text records m → (f first second : List ℕ)
    → g.D.Disk.left_since c.in-Err.choice (g.D.Disk.moment m.files.choice) f → g.D.Disk.may_leave m.files.zero first → g.D.Disk.may_leave m.files.one second
    → PairStands f first second m.digest records ⊎ PairStands f first second m.digest (thinned records))
    c.prepared.view_is
    (λ text records is f first second since left right. names_either g.D.Disk.may_leave _ text records is f first second
    ((c.in-Err.ensures.any_moment text is.choice).each f since) left right)

pub returns-in-Ok-clause-ok : goal.returns-in-Ok-clause-ok
returns-in-Ok-clause-ok g c =
    subst (λ m. (text : List ℕ) (records : List Record) → IsPrepared g.D.Disk.may_leave text records m
    → HoldsText g.D.Disk.may_leave m.digest (text ++ m.other ∷ []) c.in-Ok.choice)
    c.prepared.view_is (λ text records is. c.in-Ok.ensures.ok text is.choice)

pub returns-in-Ok-clause-switched : goal.returns-in-Ok-clause-switched
returns-in-Ok-clause-switched g c =
    let same = c.prepared.view_is in
    λ text records is f first second image left right.
    let held = (subst (λ m. (text : List ℕ) (records : List Record) → IsPrepared g.D.Disk.may_leave text records m
    → HoldsText g.D.Disk.may_leave m.digest (text ++ m.other ∷ []) c.in-Ok.choice)
    same (λ text records is. c.in-Ok.ensures.ok text is.choice)) text records is in
    names_thin g.D.Disk.may_leave c.args.prepared text records is f first second (held.0, (0, held.1 f image))
    (subst (λ m. g.D.Disk.may_leave m.files.zero first) same left) (subst (λ m. g.D.Disk.may_leave m.files.one second) same right)

pub returns-in-Ok-clause-room : goal.returns-in-Ok-clause-room
returns-in-Ok-clause-room g c =
    subst (λ m. (len : ℕ) × (len ≤ 2 ^ 30) × IsLength (g.D.Disk.told m.files.choice) m.digest len) c.prepared.view_is c.in-Ok.ensures.room

pub returns-in-Err-clause-refused : goal.returns-in-Err-clause-refused
returns-in-Err-clause-refused g c =
    subst (λ m. RefusesSwitch (g.D.Disk.told m.files.choice) m.digest (g.D.Disk.faults m.files.choice) (g.D.Disk.faults c.in-Err.choice) c.in-Err.error)
    c.prepared.view_is c.in-Err.ensures.refused

pub returns-in-Err-clause-settled : goal.returns-in-Err-clause-settled
returns-in-Err-clause-settled g c =
    subst (λ m. (f : List ℕ) → g.D.Disk.told m.files.choice ≡ Some f → IsOutsideOrFull c.in-Err.error)
    c.prepared.view_is (λ f told. c.in-Err.ensures.settled f c.prepared.invariant.0 told c.prepared.invariant.2.choice)
