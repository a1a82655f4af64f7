use Rattle.std.proofs.Common.{rules, ◌≡◌, ◌∷◌, [], ◌∙◌, map, refl, sym, subst, inl, inr, arith}
use Rattle.std.proofs.lemmas.List.{nil_from_length}
use Rattle.std.specs.Vec.Iter.{into_iter_items}
use Rattle.mw_multidata.specs.Digest.{digest_of}
use Rattle.mw_script.specs.Commands.{command_view}
use Rattle.mw_drive.specs.Left.{HasDriven, KeepsFrom}
use Rattle.mw_drive.specs.Runs.{IsOfRun}
use Rattle.mw_drive.specs.declared.error.DriveError.TheVariants.{Fault}
use Rattle.mw_drive.proofs.Finishing.{has_driven, driven_kept}
use Rattle.mw_drive.proofs.Looping.{IsAt, one_kept, at_more, at_cut}
use Rattle.mw_drive.proofs.Running.{run_begins}
use Rattle.mw_drive.proofs.Stepping.{ran_one, ran_rest}
use Rattle.mw_drive.proofs.run.run_all.Goals as goal

pub loop-command-init : goal.loop-command-init
loop-command-init g c =
    let held = g.O.Sink.held c.args.out.now in
    let all = map command_view c.args.commands in
    let eq : into_iter_items c.into_iter-command-iterator.result ≡ c.args.commands = search rules in (
      (λ seed first kept.
          subst (λ cs. IsAt g.D.Disk.may_leave g.D.Disk.told c.args.file.now seed first held held (map command_view cs) all c.args.kept) (sym eq)
          record { now = first; run_so = run_begins first held all; kept = kept }),
      (λ error ran. subst (λ cs. IsOfRun (map command_view cs) error) eq ran),
      (λ h. h),
      refl,
      omega arith,
      omega arith,
    )

pub loop-command-preserved : goal.loop-command-preserved
loop-command-preserved g c =
    let l = c.loop-command in
    let old = g.O.Sink.held c.args.out.now in
    let mid = g.O.Sink.held l.out in
    let all = map command_view c.args.commands in
    let rest = map command_view (into_iter_items c.next.new.self) in
    let steps : into_iter_items l.command-iterator ≡ c.in-Some.command ∷ into_iter_items c.next.new.self = c.in-Some.ensures.steps.0 in
    let named_all = c.journals_are_named.ensures in (
      (λ seed first kept.
          let at = subst (λ cs. IsAt g.D.Disk.may_leave g.D.Disk.told c.args.file.now seed first old mid (map command_view cs) all l.kept) steps (l.invariant.0 seed first kept) in
          at_more g.D.Disk.may_leave g.D.Disk.told c.args.file.now seed first old named_all mid (command_view c.in-Some.command) rest all l.kept at (g.O.Sink.held c.run_one.new.out) c.in-Ok.next c.in-Ok.ensures.tells
          (c.in-Ok.ensures.ok seed at.now (one_kept g.D.Disk.may_leave g.D.Disk.told c.args.file.now seed first old named_all mid (command_view c.in-Some.command) rest all l.kept at))),
      (λ error ran. l.invariant.1 error (subst (λ cs. IsOfRun (map command_view cs) error) (sym steps) (ran_rest (command_view c.in-Some.command) rest error ran))),
      (λ h. c.in-Ok.ensures.lives (l.invariant.2 h)),
      c.in-Ok.ensures.tells ∙ l.invariant.3,
      omega (arith, l.invariant.4, c.in-Ok.ensures.count),
      omega (arith, l.invariant.5, c.in-Ok.ensures.later),
    )

pub returns-in-Err-clause-err : goal.returns-in-Err-clause-err
returns-in-Err-clause-err g c seed first kept =
    let l = c.loop-command in
    let old = g.O.Sink.held c.args.out.now in
    let mid = g.O.Sink.held l.out in
    let all = map command_view c.args.commands in
    let rest = map command_view (into_iter_items c.next.new.self) in
    let steps : into_iter_items l.command-iterator ≡ c.in-Some.command ∷ into_iter_items c.next.new.self = c.in-Some.ensures.steps.0 in
    let named_all = c.journals_are_named.ensures in
    let at = subst (λ cs. IsAt g.D.Disk.may_leave g.D.Disk.told c.args.file.now seed first old mid (map command_view cs) all l.kept) steps (l.invariant.0 seed first kept) in
    at_cut g.D.Disk.may_leave g.D.Disk.told c.args.file.now seed first old named_all mid (command_view c.in-Some.command) rest all l.kept at (g.O.Sink.held c.run_one.new.out) c.in-Err.disk c.in-Err.error
    (c.in-Err.ensures.err seed at.now (one_kept g.D.Disk.may_leave g.D.Disk.told c.args.file.now seed first old named_all mid (command_view c.in-Some.command) rest all l.kept at))

pub returns-in-Err-clause-ran : goal.returns-in-Err-clause-ran
returns-in-Err-clause-ran g c =
    let l = c.loop-command in
    let rest = map command_view (into_iter_items c.next.new.self) in
    let steps : into_iter_items l.command-iterator ≡ c.in-Some.command ∷ into_iter_items c.next.new.self = c.in-Some.ensures.steps.0 in
    l.invariant.1 c.in-Err.error (subst (λ cs. IsOfRun (map command_view cs) c.in-Err.error) (sym steps) (ran_one (command_view c.in-Some.command) rest c.in-Err.error c.in-Err.ensures.ran))

pub returns-in-Err-clause-fault : goal.returns-in-Err-clause-fault
returns-in-Err-clause-fault g c is has =
    let l = c.loop-command in
    let same : c.in-Err.error ≡ Fault = cc in
    elim (c.in-Err.ensures.fault same (l.invariant.2 has)) [
      | inl lt ↦ inl (omega (arith, lt, l.invariant.4))
      | inr rose ↦ inr (omega (arith, rose, l.invariant.5))
    ]

pub returns-clause-done : goal.returns-clause-done
returns-clause-done g c seed first kept =
    let l = c.loop-command in
    let old = g.O.Sink.held c.args.out.now in
    let new = g.O.Sink.held l.out in
    let all = map command_view c.args.commands in
    let none : into_iter_items l.command-iterator ≡ [] = nil_from_length (into_iter_items l.command-iterator) (omega (arith, l.command-iterator.rest.ok.0, c.in-None.ensures.steps.0)) in
    let at = subst (λ cs. IsAt g.D.Disk.may_leave g.D.Disk.told c.args.file.now seed first old new (map command_view cs) all l.kept) none (l.invariant.0 seed first kept) in
    let digest = digest_of c.args.file.now in (
      subst (λ d. HasDriven (g.D.Disk.may_leave d) digest first all old new) (sym c.into_disk.ensures) (has_driven g.D.Disk.may_leave digest seed first at.now old new all l.kept at.run_so at.kept.keeps at.kept.going),
      subst (λ d. KeepsFrom (g.D.Disk.may_leave d) digest first old new) (sym c.into_disk.ensures) (driven_kept g.D.Disk.may_leave digest seed first at.now old new all l.kept at.run_so at.kept.keeps),
    )
