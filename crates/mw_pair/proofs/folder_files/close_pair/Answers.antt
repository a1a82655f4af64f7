use Rattle.std.proofs.Common.{◌∙◌, sym, subst, true, ◌≡◌}
use Rattle.mw_pair.specs.Names.{file_names}
use Rattle.mw_pair.specs.Steps.{Closes}
use Rattle.mw_pair.proofs.Naming.{both_apart, first_apart, second_apart}
use Rattle.mw_pair.proofs.Steps.{pair_closed, pair_closed_others}
use Rattle.mw_pair.proofs.folder_files.close_pair.Goals as goal

pub close_one-requires-2-after_bounds : goal.close_one-requires-2-after_bounds
close_one-requires-2-after_bounds g c κs within =
    let choice = c.args.names.now in
    subst (λ n. g.F.Folder.is_open c.close_one.new.folder n ≡ true) (sym c.zero.ensures)
    ((c.close_one.ensures.closes.others (file_names choice).zero (λ same. both_apart choice (same ∙ c.one.ensures))).opened ∙ c.requires.first_open)

pub close_one-requires-3-after_bounds : goal.close_one-requires-3-after_bounds
close_one-requires-3-after_bounds g c κs within =
    let choice = c.args.names.now in
    subst (λ n. g.F.Folder.is_open c.close_one-2.new.folder n ≡ true) (sym c.choice.ensures)
    ((c.close_one-2.ensures.closes.others choice (λ same. first_apart choice (sym (same ∙ c.zero.ensures)))).opened
    ∙ (c.close_one.ensures.closes.others choice (λ same. second_apart choice (sym (same ∙ c.one.ensures)))).opened ∙ c.requires.choice_open)

pub returns-clause-closed : goal.returns-clause-closed
returns-clause-closed g c =
    let F = g.F.Folder in let D = g.F.Drive.Disk in
    let choice = c.args.names.now in
    let start = c.args.folder.now in
    let first = c.close_one.new.folder in
    let second = c.close_one-2.new.folder in
    let end = c.close_one-3.new.folder in
    let files = c.args.files in
    pair_closed F.holds F.images F.is_open D.told D.may_leave D.faults choice start first second end files.choice files.zero files.one
    (subst (λ n. Closes F.holds F.images F.is_open start first n D.told D.may_leave files.one) c.one.ensures c.close_one.ensures.closes)
    (subst (λ n. Closes F.holds F.images F.is_open first second n D.told D.may_leave files.zero) c.zero.ensures c.close_one-2.ensures.closes)
    (subst (λ n. Closes F.holds F.images F.is_open second end n D.told D.may_leave files.choice) c.choice.ensures c.close_one-3.ensures.closes)

pub returns-clause-others : goal.returns-clause-others
returns-clause-others g c =
    let F = g.F.Folder in let D = g.F.Drive.Disk in
    let choice = c.args.names.now in
    let start = c.args.folder.now in
    let first = c.close_one.new.folder in
    let second = c.close_one-2.new.folder in
    let end = c.close_one-3.new.folder in
    let files = c.args.files in
    pair_closed_others F.holds F.images F.is_open D.told D.may_leave D.faults choice start first second end files.choice files.zero files.one
    (subst (λ n. Closes F.holds F.images F.is_open start first n D.told D.may_leave files.one) c.one.ensures c.close_one.ensures.closes)
    (subst (λ n. Closes F.holds F.images F.is_open first second n D.told D.may_leave files.zero) c.zero.ensures c.close_one-2.ensures.closes)
    (subst (λ n. Closes F.holds F.images F.is_open second end n D.told D.may_leave files.choice) c.choice.ensures c.close_one-3.ensures.closes)
