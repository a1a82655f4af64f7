use Rattle.std.proofs.Common.{bytes_eq, take, sym, ap, ◌∙◌}
use Rattle.std.proofs.Math.ListN.{drop_of_length-le}
use Rattle.mw_json.specs.View.{members_view}
use Rattle.mw_protocol.specs.Operations.{without_member}
use Rattle.mw_storage.specs.Places.{in_front}
use Rattle.mw_storage.proofs.Named.{not_yet, in_front-all}
use Rattle.mw_storage.proofs.objects.place_of.Goals as goal

pub loop-i-preserved : goal.loop-i-preserved
loop-i-preserved c =
    let name = c.args.name.now in
    c.loop-i.invariant
    ∙ not_yet name c.args.members.now c.loop-i.i c.index-members-i.result c.loop-i-test.true c.index-members-i.is
    (ap (λ text. bytes_eq text name) (sym c.as_str.ensures) ∙ sym c.if-eq.ensures)

pub returns : goal.returns
returns c =
    let name = c.args.name.now in
    let members = c.args.members.now in
    let at = c.loop-i.i in
    c.loop-i.invariant
    ∙ ap (λ ms. in_front (take at members) (without_member name (members_view ms))) (drop_of_length-le members c.loop-i-test.false)
    ∙ in_front-all members at c.loop-i-test.false
