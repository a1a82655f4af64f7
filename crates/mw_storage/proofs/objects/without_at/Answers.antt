use Rattle.std.proofs.Common.{take, drop, suc, sym, ap, ◌∙◌, add-one}
use Rattle.std.specs.Prelude.{remove}
use Rattle.mw_json.specs.View.{members_view}
use Rattle.mw_storage.specs.Places.{in_front}
use Rattle.mw_storage.proofs.Named.{in_front-append}
use Rattle.mw_storage.proofs.objects.without_at.Goals as goal

pub returns : goal.returns
returns c =
    let at = c.args.at in
    let members = c.args.members in
    ap members_view (c.from_vec.ensures ∙ c.remove-gone.ensures.items ∙ ap (λ ms. remove ms at) c.into_vec-members.ensures)
    ∙ in_front-append (take at members) (drop (suc at) members)
    ∙ ap (λ i. in_front (take at members) (members_view (drop i members))) (sym (add-one at))
