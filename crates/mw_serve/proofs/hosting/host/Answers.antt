use Rattle.std.proofs.Common.{◌≡◌, ◌<◌, ◌∙◌, sym, ap, subst, refl, inl, inr}
use Rattle.mw_edges.specs.Causes.{Rose}
use Rattle.mw_keep.specs.Keeps.{kept_disk, origin_of}
use Rattle.mw_session.specs.Rooms.{IsFull, count_all}
use Rattle.mw_serve.specs.Hosted.{end_of}
use Rattle.mw_serve.proofs.Hosts.{err_of, made_ready, never_began, one_origin, refused_ready}
use Rattle.mw_serve.proofs.hosting.host.Goals as goal

pub returns-then-is_err-clause-run : goal.returns-then-is_err-clause-run
returns-then-is_err-clause-run g c =
    let rose = err_of c.listen.result (Rose (g.G.Gate.faults c.args.gate) (g.G.Gate.faults c.listen.new.self)) (sym c.is_err.ensures.value ∙ c.if-is_err.true) c.listen.ensures.cause.cause in
    inl (c.into_disk.ensures, (c.new.ensures, inl (refl, subst (λ n. n < g.G.Gate.faults c.listen.new.self) c.requires.faults rose)))

pub returns-clause-run : goal.returns-clause-run
returns-clause-run g c =
    let e = c.serve_room-room.result in
    let is : c.judge.result ≡ end_of e.stopped e.gate_failed e.memory (count_all e.served) = c.judge.ensures ∙ ap (end_of e.stopped e.gate_failed e.memory) c.serve_room-room.ensures.accepted in
    elim c.serve_room-room.ensures.history [
      | inl h ↦ inr record {
        last = e.room;
        disk_is = c.into_disk-2.ensures;
        goes_on = one_origin (origin_of e.room) (origin_of c.args.room) h.2;
        log = h.0;
        lived = h.1;
        stopped = e.stopped;
        failed = e.gate_failed;
        memory = e.memory;
        history = h.3;
        is_end = is;
        gate = c.serve_room-room.ensures.failed;
        full = subst (λ n. IsFull c.args.terms.accept e.gate_failed e.memory e.stopped n (g.G.Gate.left e.gate) (g.G.Gate.ended e.gate)) c.serve_room-room.ensures.accepted c.serve_room-room.ensures.all;
      }
      | inr h ↦ inl (c.into_disk-2.ensures ∙ ap kept_disk h.0, never_began e.served e.stopped e.gate_failed e.memory (count_all e.served) _ c.judge.result is h.1 h.3 h.2 c.serve_room-room.ensures.failed)
    ]

pub returns-then-is_err-clause-listened : goal.returns-then-is_err-clause-listened
returns-then-is_err-clause-listened g c =
    inl (refused_ready (g.G.Gate.listened c.args.gate) (g.G.Gate.listened c.listen.new.self) c.args.bind.now c.listen.result (sym c.is_err.ensures.value ∙ c.if-is_err.true) c.listen.ensures.listened, λ no. cc)

pub returns-clause-listened : goal.returns-clause-listened
returns-clause-listened g c =
    inr (c.serve_room-room.ensures.ready ∙ made_ready (g.G.Gate.listened c.args.gate) (g.G.Gate.listened c.listen.new.self) c.args.bind.now c.listen.result (sym c.is_err.ensures.value ∙ c.if-is_err.false) c.listen.ensures.listened, tt)
