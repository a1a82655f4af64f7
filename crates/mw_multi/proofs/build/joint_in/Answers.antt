use Rattle.std.proofs.Common.{◌≡◌, ◌∙◌, ap, length}
use Rattle.mw_multi.specs.Links.{pool_rows, left_by, links_of, each_with_left}
use Rattle.mw_multi.proofs.Joining.{rows_left, joint_kept}
use Rattle.mw_multi.proofs.build.joint_in.Goals as goal

pub slots_left-requires : goal.slots_left-requires
slots_left-requires c =
    let ls = c.args.sharings.now in
    let rows : c.in_ok-left.left ≡ pool_rows c.args.slots = c.in_ok-left.ensures ∙ ap pool_rows c.as_slice.ensures in
    ap length (c.in_ok-links.ensures.left ∙ ap (λ left. left_by left ls) rows) ∙ rows_left c.args.slots ls

pub invariant_of-result-2 : goal.invariant_of-result-2
invariant_of-result-2 c =
    let ls = c.args.sharings.now in
    let slots = c.args.slots in
    let rows : c.in_ok-left.left ≡ pool_rows slots = c.in_ok-left.ensures ∙ ap pool_rows c.as_slice.ensures in
    joint_kept
    record { teams = c.args.players.now.teams; room = c.args.players.now.room; slots = c.in_ok-slots.slots; links = c.in_ok-links.links }
    slots
    ls
    (c.in_ok-slots.ensures ∙ ap (λ left. each_with_left left slots) (c.in_ok-links.ensures.left ∙ ap (λ left. left_by left ls) rows))
    (c.in_ok-links.ensures.links ∙ ap (λ left. links_of left ls) rows)
    c.requires.slots.some
    c.requires.few
    c.requires.slots.each
    c.requires.slots.numbered
    c.requires.slots.places
    c.requires.sharings
