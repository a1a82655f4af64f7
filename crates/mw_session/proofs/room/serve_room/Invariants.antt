use Rattle.mw_session.proofs.room.serve_room.Given as goal

abbrev pub ghosts-serve_all-L-Ledger : goal.ghosts-serve_all-L-Ledger
ghosts-serve_all-L-Ledger g a = record { name = a.blank.name; parts = a.blank.parts }

abbrev pub ghosts-serve_all-L-Limit : goal.ghosts-serve_all-L-Limit
ghosts-serve_all-L-Limit g a = record { most = a.accept; listened = g.G.Gate.listened a.gate }
