use Rattle.std.proofs.Common.{map, ap, refl, ◌∙◌, subst}
use Rattle.mw_model.specs.Json.{IsWritable, words}
use Rattle.mw_protocol.specs.Messages.{PrintJson, print_json}
use Rattle.mw_json.specs.View.{view, member_view}
use Rattle.mw_packets_out.proofs.Prints.{print_made}
use Rattle.mw_packets_out.proofs.print.print_tree.Goals as goal

pub returns-clause-value : goal.returns-clause-value
returns-clause-value c =
    c.object_tree.ensures
    ∙ print_made (map member_view c.put.new.members) (map member_view c.in_ok-parts.parts) (map member_view c.as_slice-2.result.now)
    (map member_view c.it.inside.further) (map view c.it.inside.content) (view c.in_ok-kind.kind) c.it.inside.kind c.args.it.now
    (c.in_ok-parts.ensures.value _ (refl, refl, (refl, rw c.as_slice.ensures at c.copied_list.ensures, tt)))
    (rw c.in_ok-put_copies.ensures at c.in_ok-put.ensures.ok) (ap (map member_view) c.as_slice-2.ensures)
    (c.in_ok-kind.ensures ∙ ap words c.as_str.ensures) c.it.view_is

pub returns-clause-writable : goal.returns-clause-writable
returns-clause-writable c =
    let kept : IsWritable (print_json c.args.it.now) = subst (λ (p : PrintJson). IsWritable (print_json p)) c.it.view_is c.it.invariant.writable in
    rw (returns-clause-value c) kept
