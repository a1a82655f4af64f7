use Rattle.mw_cli.proofs.run.run_line.Goals as goal

pub returns-in-Generate-clause-same : goal.returns-in-Generate-clause-same
returns-in-Generate-clause-same g c = λ none _ _ _ _.
    absurd (none c.in-Generate.words c.in-Generate.is)

pub returns-in-NewRoom-clause-same : goal.returns-in-NewRoom-clause-same
returns-in-NewRoom-clause-same g c = λ _ none _ _ _.
    absurd (none c.in-NewRoom.words c.in-NewRoom.is)

pub returns-in-Drive-clause-input : goal.returns-in-Drive-clause-input
returns-in-Drive-clause-input g c = λ none.
    absurd (none c.in-Drive.words c.in-Drive.is)

pub returns-in-Drive-clause-same : goal.returns-in-Drive-clause-same
returns-in-Drive-clause-same g c = λ _ _ none _ _.
    absurd (none c.in-Drive.words c.in-Drive.is)

pub returns-in-Generate-clause-ends : goal.returns-in-Generate-clause-ends
returns-in-Generate-clause-ends g c = rw c.in-Generate.is c.cmd_generate.ensures.ends

pub returns-in-Check-clause-ends : goal.returns-in-Check-clause-ends
returns-in-Check-clause-ends g c = rw c.in-Check.is c.cmd_check.ensures.ends

pub returns-in-Reach-clause-ends : goal.returns-in-Reach-clause-ends
returns-in-Reach-clause-ends g c = rw c.in-Reach.is c.cmd_reach.ensures.ends

pub returns-in-NewRoom-clause-ends : goal.returns-in-NewRoom-clause-ends
returns-in-NewRoom-clause-ends g c = rw c.in-NewRoom.is (c.cmd_new_room.ensures.ends, c.cmd_new_room.ensures.pair)

pub returns-in-Drive-clause-ends : goal.returns-in-Drive-clause-ends
returns-in-Drive-clause-ends g c = rw c.in-Drive.is (c.cmd_drive.ensures.ends, c.cmd_drive.ensures.pair)

pub returns-in-Serve-clause-same : goal.returns-in-Serve-clause-same
returns-in-Serve-clause-same g c = λ _ _ _ none _.
    absurd (none c.in-Serve.words c.in-Serve.is)

pub returns-in-Serve-clause-gate : goal.returns-in-Serve-clause-gate
returns-in-Serve-clause-gate g c = λ none.
    absurd (none c.in-Serve.words c.in-Serve.is)

pub returns-in-Serve-clause-ends : goal.returns-in-Serve-clause-ends
returns-in-Serve-clause-ends g c = rw c.in-Serve.is (c.cmd_serve.ensures.ends, c.cmd_serve.ensures.pair)

pub returns-in-Stress-clause-ends : goal.returns-in-Stress-clause-ends
returns-in-Stress-clause-ends g c = rw c.in-Stress.is c.cmd_stress.ensures.ends

pub returns-in-Thin-clause-ends : goal.returns-in-Thin-clause-ends
returns-in-Thin-clause-ends g c = rw c.in-Thin.is c.cmd_thin.ensures.ends

pub returns-in-Thin-clause-same : goal.returns-in-Thin-clause-same
returns-in-Thin-clause-same g c = λ _ _ _ _ none.
    absurd (none c.in-Thin.words c.in-Thin.is)
