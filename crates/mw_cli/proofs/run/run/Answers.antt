use Rattle.std.proofs.Common.{Err, ap, arith, refl, subst, inl, inr}
use Rattle.std.proofs.KnownBytes.{Keeps-refl}
use Rattle.mw_causes.specs.declared.stop.Stop.TheVariants.{Memory}
use Rattle.mw_words.specs.Lines.{AsksFor}
use Rattle.mw_words.specs.declared.command_line.CommandLine.TheVariants.{Generate, Check, Reach, NewRoom, Drive, Serve, Stress, Thin}
use Rattle.mw_offline.proofs.Driving.{unstarted}
use Rattle.mw_offline.proofs.PairDriving.{unstarted_pair}
use Rattle.mw_offline.proofs.PairFiles.{unstarted_room, unstarted_thin}
use Rattle.mw_serve.proofs.Pairs.{unstarted_pair_serve}
use Rattle.mw_serve.proofs.Starting.{unstarted_serve}
use Rattle.mw_words.proofs.Asking.{asks_one}
use Rattle.mw_cli.proofs.run.run.Goals as goal

pub returns-in-Ok-clause-generate : goal.returns-in-Ok-clause-generate
returns-in-Ok-clause-generate g c = λ wanted is. rw (asks_one c.args.words.now c.in-Ok.line (Generate wanted) c.in-Ok.ensures.ok is) at c.run_line.ensures.ends

pub returns-in-Ok-clause-check : goal.returns-in-Ok-clause-check
returns-in-Ok-clause-check g c = λ asked is. rw (asks_one c.args.words.now c.in-Ok.line (Check asked) c.in-Ok.ensures.ok is) at c.run_line.ensures.ends

pub returns-in-Ok-clause-reach : goal.returns-in-Ok-clause-reach
returns-in-Ok-clause-reach g c = λ players is. rw (asks_one c.args.words.now c.in-Ok.line (Reach (record { players = players })) c.in-Ok.ensures.ok is) at c.run_line.ensures.ends

pub returns-in-Ok-clause-new_room : goal.returns-in-Ok-clause-new_room
returns-in-Ok-clause-new_room g c = λ room is. (rw (asks_one c.args.words.now c.in-Ok.line (NewRoom room) c.in-Ok.ensures.ok is) at c.run_line.ensures.ends).0

pub returns-in-Ok-clause-new_pair : goal.returns-in-Ok-clause-new_pair
returns-in-Ok-clause-new_pair g c = λ room is. (rw (asks_one c.args.words.now c.in-Ok.line (NewRoom room) c.in-Ok.ensures.ok is) at c.run_line.ensures.ends).1

pub returns-in-Ok-clause-drive : goal.returns-in-Ok-clause-drive
returns-in-Ok-clause-drive g c = λ files is. (rw (asks_one c.args.words.now c.in-Ok.line (Drive files) c.in-Ok.ensures.ok is) at c.run_line.ensures.ends).0

pub returns-in-Ok-clause-drive_pair : goal.returns-in-Ok-clause-drive_pair
returns-in-Ok-clause-drive_pair g c = λ files choice is. (rw (asks_one c.args.words.now c.in-Ok.line (Drive files) c.in-Ok.ensures.ok is) at c.run_line.ensures.ends).1 choice

pub returns-in-Ok-clause-thin : goal.returns-in-Ok-clause-thin
returns-in-Ok-clause-thin g c = λ room is. rw (asks_one c.args.words.now c.in-Ok.line (Thin room) c.in-Ok.ensures.ok is) at c.run_line.ensures.ends

pub returns-in-Err-BadWords-clause-generate : goal.returns-in-Err-BadWords-clause-generate
returns-in-Err-BadWords-clause-generate g c = λ wanted is. absurd (c.in-Err-BadWords.ensures.bad (ap Err c.in-Err-BadWords.field-0-is) (Generate wanted) is)

pub returns-in-Err-BadWords-clause-check : goal.returns-in-Err-BadWords-clause-check
returns-in-Err-BadWords-clause-check g c = λ asked is. absurd (c.in-Err-BadWords.ensures.bad (ap Err c.in-Err-BadWords.field-0-is) (Check asked) is)

pub returns-in-Err-BadWords-clause-reach : goal.returns-in-Err-BadWords-clause-reach
returns-in-Err-BadWords-clause-reach g c = λ players is. absurd (c.in-Err-BadWords.ensures.bad (ap Err c.in-Err-BadWords.field-0-is) (Reach (record { players = players })) is)

pub returns-in-Err-BadWords-clause-new_room : goal.returns-in-Err-BadWords-clause-new_room
returns-in-Err-BadWords-clause-new_room g c = λ room is. absurd (c.in-Err-BadWords.ensures.bad (ap Err c.in-Err-BadWords.field-0-is) (NewRoom room) is)

pub returns-in-Err-BadWords-clause-new_pair : goal.returns-in-Err-BadWords-clause-new_pair
returns-in-Err-BadWords-clause-new_pair g c = λ room is. absurd (c.in-Err-BadWords.ensures.bad (ap Err c.in-Err-BadWords.field-0-is) (NewRoom room) is)

pub returns-in-Err-BadWords-clause-thin : goal.returns-in-Err-BadWords-clause-thin
returns-in-Err-BadWords-clause-thin g c = λ room is. absurd (c.in-Err-BadWords.ensures.bad (ap Err c.in-Err-BadWords.field-0-is) (Thin room) is)

pub returns-in-Err-BadWords-clause-drive : goal.returns-in-Err-BadWords-clause-drive
returns-in-Err-BadWords-clause-drive g c = λ files is. absurd (c.in-Err-BadWords.ensures.bad (ap Err c.in-Err-BadWords.field-0-is) (Drive files) is)

pub returns-in-Err-BadWords-clause-drive_pair : goal.returns-in-Err-BadWords-clause-drive_pair
returns-in-Err-BadWords-clause-drive_pair g c = λ files choice is. absurd (c.in-Err-BadWords.ensures.bad (ap Err c.in-Err-BadWords.field-0-is) (Drive files) is)

pub returns-in-Err-Memory-clause-generate : goal.returns-in-Err-Memory-clause-generate
returns-in-Err-Memory-clause-generate g c = λ _ _.
    inr (Memory, record { is_status = c.end_without_memory.ensures.status; left = inl (record { files = λ _. refl; put = Keeps-refl _ }); line = c.end_without_memory.ensures.line })

pub returns-in-Err-Memory-clause-check : goal.returns-in-Err-Memory-clause-check
returns-in-Err-Memory-clause-check g c = λ _ _.
    inr (Memory, record { is_status = c.end_without_memory.ensures.status; left = inl (Keeps-refl _); line = c.end_without_memory.ensures.line })

pub returns-in-Err-Memory-clause-reach : goal.returns-in-Err-Memory-clause-reach
returns-in-Err-Memory-clause-reach g c = λ _ _.
    inr (Memory, record { is_status = c.end_without_memory.ensures.status; left = inl (Keeps-refl _); line = c.end_without_memory.ensures.line })

pub returns-in-Err-Memory-clause-new_pair : goal.returns-in-Err-Memory-clause-new_pair
returns-in-Err-Memory-clause-new_pair g c = λ room _ _.
    let F = g.F.Folder in
    unstarted_room F.holds F.images F.is_open F.may_fail F.faults c.args.folder.now (g.O.Sink.held c.args.out.now) (g.O.Sink.faults c.args.out.now) _ c.end_without_memory.result
    c.end_without_memory.ensures.status c.end_without_memory.ensures.line room

pub returns-in-Err-Memory-clause-thin : goal.returns-in-Err-Memory-clause-thin
returns-in-Err-Memory-clause-thin g c = λ room _.
    let F = g.F.Folder in
    unstarted_thin F.holds F.images F.is_open F.may_fail F.faults c.args.folder.now (g.O.Sink.held c.args.out.now) (g.O.Sink.faults c.args.out.now) _ c.end_without_memory.result
    c.end_without_memory.ensures.status c.end_without_memory.ensures.line room

pub returns-in-Err-Memory-clause-drive_pair : goal.returns-in-Err-Memory-clause-drive_pair
returns-in-Err-Memory-clause-drive_pair g c = λ files choice _ _.
    let F = g.F.Folder in
    unstarted_pair F.holds F.images F.is_open F.may_fail F.faults g.S.Source.left c.args.folder.now files.multidata choice c.args.input.now (g.O.Sink.held c.args.out.now) (g.O.Sink.faults c.args.out.now) _ c.end_without_memory.result
    c.end_without_memory.ensures.status c.end_without_memory.ensures.line

pub returns-in-Err-Memory-clause-drive : goal.returns-in-Err-Memory-clause-drive
returns-in-Err-Memory-clause-drive g c = λ files _ _.
    let F = g.F.Folder in
    unstarted F.holds F.images F.is_open F.may_fail F.faults g.S.Source.left c.args.folder.now files c.args.input.now (g.O.Sink.held c.args.out.now) (g.O.Sink.faults c.args.out.now) _ c.end_without_memory.result
    c.end_without_memory.ensures.status c.end_without_memory.ensures.line

pub returns-in-Err-BadWords-clause-other : goal.returns-in-Err-BadWords-clause-other
returns-in-Err-BadWords-clause-other g c = λ _. (refl, refl, inl (refl, c.tell.ensures))

pub returns-in-Ok-clause-serve : goal.returns-in-Ok-clause-serve
returns-in-Ok-clause-serve g c = λ room is. (rw (asks_one c.args.words.now c.in-Ok.line (Serve room) c.in-Ok.ensures.ok is) at c.run_line.ensures.ends).0

pub returns-in-Ok-clause-serve_pair : goal.returns-in-Ok-clause-serve_pair
returns-in-Ok-clause-serve_pair g c = λ room is. (rw (asks_one c.args.words.now c.in-Ok.line (Serve room) c.in-Ok.ensures.ok is) at c.run_line.ensures.ends).1

pub returns-in-Ok-clause-served : goal.returns-in-Ok-clause-served
returns-in-Ok-clause-served g c = λ room is. c.run_line.ensures.full room (asks_one c.args.words.now c.in-Ok.line (Serve room) c.in-Ok.ensures.ok is)

pub returns-in-Ok-clause-gate : goal.returns-in-Ok-clause-gate
returns-in-Ok-clause-gate g c = λ no_serve. c.run_line.ensures.gate (λ room is. no_serve room (subst (AsksFor c.args.words.now) is c.in-Ok.ensures.ok))

pub returns-in-Err-BadWords-clause-serve : goal.returns-in-Err-BadWords-clause-serve
returns-in-Err-BadWords-clause-serve g c = λ room is. absurd (c.in-Err-BadWords.ensures.bad (ap Err c.in-Err-BadWords.field-0-is) (Serve room) is)

pub returns-in-Err-BadWords-clause-serve_pair : goal.returns-in-Err-BadWords-clause-serve_pair
returns-in-Err-BadWords-clause-serve_pair g c = λ room is. absurd (c.in-Err-BadWords.ensures.bad (ap Err c.in-Err-BadWords.field-0-is) (Serve room) is)

pub returns-in-Err-BadWords-clause-served : goal.returns-in-Err-BadWords-clause-served
returns-in-Err-BadWords-clause-served g c = λ room is. absurd (c.in-Err-BadWords.ensures.bad (ap Err c.in-Err-BadWords.field-0-is) (Serve room) is)

pub returns-in-Err-Memory-clause-serve_pair : goal.returns-in-Err-Memory-clause-serve_pair
returns-in-Err-Memory-clause-serve_pair g c = λ room _ _.
    let F = g.F.Folder in let L = g.G.Line.Link in
    unstarted_pair_serve L.heard L.sent L.faults L.opened L.is_shut g.F.Drive.Disk.may_leave F.holds F.images F.is_open F.may_fail F.faults c.args.folder.now room (g.O.Sink.held c.args.out.now) (g.O.Sink.faults c.args.out.now) _ c.end_without_memory.result
    c.new-in-Err-Memory.result c.new-in-Err-Memory.ensures c.end_without_memory.ensures.status c.end_without_memory.ensures.line

pub returns-in-Err-Memory-clause-serve : goal.returns-in-Err-Memory-clause-serve
returns-in-Err-Memory-clause-serve g c = λ room _ _.
    let F = g.F.Folder in let L = g.G.Line.Link in
    unstarted_serve L.heard L.sent L.faults L.opened L.is_shut g.F.Drive.Disk.may_leave F.holds F.images F.is_open F.may_fail F.faults c.args.folder.now room (g.O.Sink.held c.args.out.now) (g.O.Sink.faults c.args.out.now) _ c.end_without_memory.result
    c.new-in-Err-Memory.result c.new-in-Err-Memory.ensures c.end_without_memory.ensures.status c.end_without_memory.ensures.line

-- a line of another command is none of the five that change a file
pub returns-in-Ok-clause-same : goal.returns-in-Ok-clause-same
returns-in-Ok-clause-same g c = λ no_seed no_room no_drive no_serve no_thin.
    let asks = c.in-Ok.ensures.ok in
    c.run_line.ensures.same (λ wanted is. no_seed wanted (subst (AsksFor c.args.words.now) is asks)) (λ room is. no_room room (subst (AsksFor c.args.words.now) is asks))
    (λ files is. no_drive files (subst (AsksFor c.args.words.now) is asks)) (λ room is. no_serve room (subst (AsksFor c.args.words.now) is asks))
    (λ room is. no_thin room (subst (AsksFor c.args.words.now) is asks))

-- and but for `drive` none reads the input
pub returns-in-Ok-clause-input : goal.returns-in-Ok-clause-input
returns-in-Ok-clause-input g c = λ no_drive.
    c.run_line.ensures.input (λ files is. no_drive files (subst (AsksFor c.args.words.now) is c.in-Ok.ensures.ok))

pub returns-in-Ok-clause-listened : goal.returns-in-Ok-clause-listened
returns-in-Ok-clause-listened g c = λ room is. c.run_line.ensures.listened room (asks_one c.args.words.now c.in-Ok.line (Serve room) c.in-Ok.ensures.ok is)

pub returns-in-Ok-clause-pair_listened : goal.returns-in-Ok-clause-pair_listened
returns-in-Ok-clause-pair_listened g c = λ room is. c.run_line.ensures.pair_listened room (asks_one c.args.words.now c.in-Ok.line (Serve room) c.in-Ok.ensures.ok is)

pub returns-in-Err-BadWords-clause-listened : goal.returns-in-Err-BadWords-clause-listened
returns-in-Err-BadWords-clause-listened g c = λ room is. absurd (c.in-Err-BadWords.ensures.bad (ap Err c.in-Err-BadWords.field-0-is) (Serve room) is)

pub returns-in-Err-BadWords-clause-pair_listened : goal.returns-in-Err-BadWords-clause-pair_listened
returns-in-Err-BadWords-clause-pair_listened g c = λ room is. absurd (c.in-Err-BadWords.ensures.bad (ap Err c.in-Err-BadWords.field-0-is) (Serve room) is)

pub returns-in-Err-Memory-clause-listened : goal.returns-in-Err-Memory-clause-listened
returns-in-Err-Memory-clause-listened g c = λ room _ _. inl (refl, λ zero. let six = c.end_without_memory.ensures.status in omega (arith, six, zero))

pub returns-in-Err-Memory-clause-pair_listened : goal.returns-in-Err-Memory-clause-pair_listened
returns-in-Err-Memory-clause-pair_listened g c = λ room _ _. inl (refl, λ zero. let six = c.end_without_memory.ensures.status in omega (arith, six, zero))

pub returns-in-Ok-clause-stress : goal.returns-in-Ok-clause-stress
returns-in-Ok-clause-stress g c = λ asked is. rw (asks_one c.args.words.now c.in-Ok.line (Stress asked) c.in-Ok.ensures.ok is) at c.run_line.ensures.ends

pub returns-in-Err-BadWords-clause-stress : goal.returns-in-Err-BadWords-clause-stress
returns-in-Err-BadWords-clause-stress g c = λ asked is. absurd (c.in-Err-BadWords.ensures.bad (ap Err c.in-Err-BadWords.field-0-is) (Stress asked) is)

pub returns-in-Err-Memory-clause-stress : goal.returns-in-Err-Memory-clause-stress
returns-in-Err-Memory-clause-stress g c = λ _ _.
    inr (Memory, record { is_status = c.end_without_memory.ensures.status; left = inl (Keeps-refl _); line = c.end_without_memory.ensures.line })
