use Rattle.std.proofs.Common.{ℕ, List, [], ◌∷◌, ◌+◌, ◌++◌, length, sym, subst, ap, arith}
use Rattle.mw_disk.proofs.Moments.{then_on}
use Rattle.mw_journal.specs.Journal.{disk_of, gate_of}
use Rattle.mw_journal.specs.Settled.{IsSettled}
use Rattle.mw_checkpoint.specs.Pair.{HoldsText}
use Rattle.mw_checkpoint.specs.Switching.{IsOutsideOrFull, RefusesSwitch}
use Rattle.mw_checkpoint.proofs.HeldTexts.{held_settled, refuses_switch, reopened, switch_outside}
use Rattle.mw_checkpoint.proofs.switching.name.Goals as goal

pub returns-in-Ok-append-clause-any_moment : goal.returns-in-Ok-append-clause-any_moment
returns-in-Ok-append-clause-any_moment g c text holds =
    let digest = c.args.digest.now in
    let P = λ (f : List ℕ). IsSettled f digest text (c.args.number ∷ []) in
    let e = c.in-Ok-open.ensures in
    let j = c.in-Ok-open.journal in
    let stands = reopened g.D.Disk.may_leave g.D.Disk.moment g.D.Disk.left_since g.met.D.Disk.counts_now digest text c.in-Ok-open._text c.args.choice j
    (e.any_moment text [] (held_settled g.D.Disk.may_leave digest text [] c.args.choice holds)) e.ok in
    then_on g.D.Disk.moment g.D.Disk.left_since c.args.choice (disk_of j) c.in-Ok-append.choice P _
    (e.any_moment text (c.args.number ∷ []) (held_settled g.D.Disk.may_leave digest text (c.args.number ∷ []) c.args.choice holds))
    (c.in-Ok-append.ensures.any_moment digest text stands)
    (λ f settled. subst (λ (b : List ℕ). IsSettled f digest text b) c.in-Ok.ensures settled)

pub returns-in-Ok-append-clause-ok : goal.returns-in-Ok-append-clause-ok
returns-in-Ok-append-clause-ok g c text holds =
    let digest = c.args.digest.now in
    let e = c.in-Ok-open.ensures in
    let stands = reopened g.D.Disk.may_leave g.D.Disk.moment g.D.Disk.left_since g.met.D.Disk.counts_now digest text c.in-Ok-open._text c.args.choice c.in-Ok-open.journal
    (e.any_moment text [] (held_settled g.D.Disk.may_leave digest text [] c.args.choice holds)) e.ok in
    subst (λ (b : List ℕ). HoldsText g.D.Disk.may_leave digest (text ++ b) c.in-Ok-append.choice) c.in-Ok.ensures (c.in-Ok-append.ensures.ok digest text stands)

pub returns-in-Ok-append-clause-room : goal.returns-in-Ok-append-clause-room
returns-in-Ok-append-clause-room g c =
    let place = gate_of c.in-Ok-open.journal in (
      place + 6 + length c.in-Ok.bytes,
      c.in-Ok-append.ensures.room,
      λ f told. (c.in-Ok-open._text, place, c.in-Ok-open.ensures.stands f told, omega (arith, ap length c.in-Ok.ensures)),
    )

pub returns-in-Ok-open-clause-any_moment : goal.returns-in-Ok-open-clause-any_moment
returns-in-Ok-open-clause-any_moment g c text holds =
    let digest = c.args.digest.now in
    let P = λ (f : List ℕ). IsSettled f digest text (c.args.number ∷ []) in
    let e = c.in-Ok-open.ensures in
    let j = c.in-Ok-open.journal in
    let stands = reopened g.D.Disk.may_leave g.D.Disk.moment g.D.Disk.left_since g.met.D.Disk.counts_now digest text c.in-Ok-open._text c.args.choice j
    (e.any_moment text [] (held_settled g.D.Disk.may_leave digest text [] c.args.choice holds)) e.ok in
    then_on g.D.Disk.moment g.D.Disk.left_since c.args.choice (disk_of j) c.in-Err-append.choice P _
    (e.any_moment text (c.args.number ∷ []) (held_settled g.D.Disk.may_leave digest text (c.args.number ∷ []) c.args.choice holds))
    (c.in-Err-append.ensures.any_moment digest text stands)
    (λ f settled. subst (λ (b : List ℕ). IsSettled f digest text b) c.in-Ok.ensures settled)

pub returns-clause-any_moment : goal.returns-clause-any_moment
returns-clause-any_moment g c text holds =
    c.in-Err-open.ensures.any_moment text (c.args.number ∷ []) (held_settled g.D.Disk.may_leave c.args.digest.now text (c.args.number ∷ []) c.args.choice holds)

pub returns-clause-refused : goal.returns-clause-refused
returns-clause-refused g c =
    let told = g.D.Disk.told c.args.choice in
    let before = g.D.Disk.faults c.args.choice in
    let after = g.D.Disk.faults c.in-Err-open.choice in
    subst (RefusesSwitch told c.args.digest.now before after) (sym c.pair_error.ensures)
    (refuses_switch told c.args.digest.now before after c.in-Err-open.error c.in-Err-open.ensures.refused)

pub returns-clause-settled : goal.returns-clause-settled
returns-clause-settled g c f text told holds =
    subst IsOutsideOrFull (sym c.pair_error.ensures)
    (switch_outside c.in-Err-open.error (c.in-Err-open.ensures.settled f text [] told (held_settled g.D.Disk.may_leave c.args.digest.now text [] c.args.choice holds)))
