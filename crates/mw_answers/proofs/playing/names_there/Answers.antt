use Rattle.std.proofs.Common.{◌++◌, ◌∙◌, Bool, ap, map, nat_eq}
use Rattle.std.specs.HashSet.{contains}
use Rattle.mw_protocol.specs.Players.{name_in}
use Rattle.mw_answers.specs.Names.{name_if}
use Rattle.mw_answers.proofs.Present.{name_next}
use Rattle.mw_answers.proofs.playing.names_there.Goals as goal

pub loop-i-preserved : goal.loop-i-preserved
loop-i-preserved c =
    let l = c.loop-i in
    let slot = c.index-slots-i.result in
    let made = c.in_ok-push_there.ensures ∙ ap (λ (b : Bool). map (λ n. n.now) l.names ++ name_if b (name_in c.args.team slot)) c.contains.ensures in
    name_next (λ n. contains nat_eq c.args.there.now n) c.args.team l.i c.args.slots.now slot (map (λ n. n.now) l.names) (map (λ n. n.now) c.push_there.new.names)
    c.loop-i-test.true c.index-slots-i.is l.invariant made
