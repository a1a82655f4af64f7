use Rattle.std.proofs.Common.{ap, ◌∙◌}
use Rattle.std.specs.Prelude.{insert}
use Rattle.mw_json.specs.View.{members_view}
use Rattle.mw_json.specs.declared.tree.Member.{roll-Member}
use Rattle.mw_storage.proofs.Named.{inserted}
use Rattle.mw_storage.proofs.objects.insert.Goals as goal

pub returns : goal.returns
returns c =
    let new = roll-Member record { name = c.args.name; value = c.args.value } in
    ap members_view (c.from_vec.ensures ∙ c.in_ok-insert.ensures.items ∙ ap (λ ms. insert ms c.args.at new) c.into_vec-members.ensures)
    ∙ inserted c.args.members c.args.at c.args.name c.args.value
