use Rattle.std.proofs.Common.{List, ℕ, ap, take, ◌∙◌, ◌*◌}
use Rattle.mw_client.proofs.Entered.{entered, too_short}
use Rattle.mw_client.proofs.body.enter_body.Goals as goal

pub returns-then-text-size-clause-bad : goal.returns-then-text-size-clause-bad
returns-then-text-size-clause-bad c =
    λ is b begins. too_short c.args.text.now c.in-Some.head.replaces c.in-Some.head.count c.in-Some.ensures.few c.in-Some.ensures.some c.if-text-size.true b begins

pub returns-clause-entered : goal.returns-clause-entered
returns-clause-entered c =
    entered c.args.text.now c.in-Some.head.replaces c.in-Some.head.count c.in_ok-entries.entries.items c.split_at-2.result.0.now c.args.list.now.items c.enter.new.list.items
    c.in-Some.ensures.few c.in-Some.ensures.enough c.in_ok-entries.ensures.count c.in_ok-entries.ensures.are c.in-Some.ensures.some c.in_ok-entries.ensures.bytes
    (c.split_at-2.ensures.front ∙ ap (λ (l : List ℕ). take (19 * c.in-Some.head.count) l) c.split_at.ensures.back) c.in_ok-enter.ensures
