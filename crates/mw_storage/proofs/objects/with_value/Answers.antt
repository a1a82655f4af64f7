use Rattle.std.proofs.Common.{set, get_or, ap, ◌∙◌}
use Rattle.mw_json.specs.View.{members_view}
use Rattle.mw_json.specs.declared.tree.Member.{roll-Member}
use Rattle.mw_storage.proofs.Named.{set_there}
use Rattle.mw_storage.proofs.objects.with_value.Goals as goal

pub returns : goal.returns
returns c =
    let at = c.args.at in
    let old = c.index_mut.result.now in
    let new = roll-Member record { name = old.name; value = c.args.value } in
    let was = c.into_vec-members.ensures in
    ap members_view (c.from_vec.ensures ∙ ap (λ ms. set ms at new) was)
    ∙ set_there c.args.members at old c.args.value c.requires (c.index_mut.ensures.value ∙ ap (λ ms. get_or ms at old) was)
