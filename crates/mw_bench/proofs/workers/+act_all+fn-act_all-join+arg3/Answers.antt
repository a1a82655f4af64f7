use Rattle.std.proofs.Common.{rules, arith, ◌≡◌, ◌+◌, [], ◌∷◌, length, length-append, ap, ◌∙◌}
use Rattle.std.proofs.lemmas.List.Elements.{All-pop, All-push, All-same}
use denote.Param.{param}
use denote.Param.Send.{IsSend, IsSync, sendable}
use Rattle.mw_lock.proofs.Crosses.{pass_send, lock_sync}
use Rattle.mw_bench.specs.contracts.counter.Counter as counter
use Rattle.mw_bench.proofs.workers.+act_all+fn-act_all-join+arg3.Goals as goal

pub join-pass-requires-send-F : goal.join-pass-requires-send-F
join-pass-requires-send-F g t c κs within = let r : IsSync (param 0 g.row.R) = search rules in
    let v : IsSend counter.the_row = search sendable depth 20 in search (sendable, pass_send, lock_sync) depth 40

pub join-pass-requires-send-A : goal.join-pass-requires-send-A
join-pass-requires-send-A g t c κs within = let v : IsSend counter.the_row = search sendable depth 20 in search (sendable, pass_send) depth 40

pub join-pass-requires-after_bounds : goal.join-pass-requires-after_bounds
join-pass-requires-after_bounds g t c κs within = let sent : IsSync (param 0 g.row.R) = search rules in
    let both = All-pop (λ p. p.lock ≡ c.args.lock.now) c.args.passes.items c.pop.new.self.items c.pop.result c.pop.ensures.items c.requires.locks.0 in
    let cut = c.in-Some.ensures.items in let long : length c.args.passes.items ≡ length c.pop.new.self.items + 1 = ap length cut ∙ length-append c.pop.new.self.items (c.in-Some.pass ∷ []) in
    let room = c.requires.room in
    (search rules, (search rules, ((λ a h. h), (sent, ((both.0, c.requires.locks.1), (omega arith, sent))))))

pub returns-clause-locks : goal.returns-clause-locks
returns-clause-locks g t c = All-same (λ p. p.lock ≡ c.args.lock.now) _ _ c.push_reserved.ensures.items (All-push (λ p. p.lock ≡ c.args.lock.now) _ _ c.join-pass.ensures.second.0 c.join-pass.ensures.first)
