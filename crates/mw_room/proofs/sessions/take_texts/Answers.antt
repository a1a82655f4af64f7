use Rattle.std.proofs.Common.{◌≡◌, ◌<◌, ◌≤◌, length, map, get_or, set, sym, ap, ◌∙◌, subst, arith}
use Rattle.std.proofs.lemmas.List.{length-map}
use Rattle.mw_room.specs.Known.{emptied}
use Rattle.mw_room.specs.Views.{session_view, place_in}
use Rattle.mw_room.proofs.Places.{emptied_there, texts_there, nobody_there}
use Rattle.mw_room.proofs.sessions.take_texts.Goals as goal

pub returns-then-at-sessions-clause-given : goal.returns-then-at-sessions-clause-given
returns-then-at-sessions-clause-given c =
    let ss = c.args.sessions.now in
    let s = c.index-sessions-at.result in
    let within : place_in c.args.number (map session_view ss) < length ss = grind arith in
    c.empty.ensures.given ∙ ap (λ n. (get_or ss n s).untaken.items) c.place_of-at.ensures ∙ texts_there ss c.args.number s within

pub returns-then-at-sessions-clause-left : goal.returns-then-at-sessions-clause-left
returns-then-at-sessions-clause-left c =
    let ss = c.args.sessions.now in
    let s = c.index-sessions-at.result in
    let left = c.empty.new.self in
    let within : place_in c.args.number (map session_view ss) < length ss = grind arith in
    ap (λ n. map session_view (set ss n left)) c.place_of-at.ensures
    ∙ emptied_there ss c.args.number left s within (subst (λ n. session_view left ≡ emptied (session_view (get_or ss n s))) c.place_of-at.ensures c.empty.ensures.left)

pub returns-clause-given : goal.returns-clause-given
returns-clause-given c =
    let ss = c.args.sessions.now in
    let past : length (map session_view ss) ≤ place_in c.args.number (map session_view ss) = simp length-map (grind arith) in
    c.new.ensures.items ∙ sym (nobody_there (map session_view ss) c.args.number past).texts

pub returns-clause-left : goal.returns-clause-left
returns-clause-left c =
    let ss = c.args.sessions.now in
    let past : length (map session_view ss) ≤ place_in c.args.number (map session_view ss) = simp length-map (grind arith) in
    sym (nobody_there (map session_view ss) c.args.number past).emptied
