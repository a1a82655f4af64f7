use Rattle.std.proofs.Common.{Bor, ◌++◌, ◌∙◌, List, ℕ, ap, codes, map, nat_eq}
use Rattle.std.specs.HashSet.{contains}
use Rattle.mw_model.specs.Seed.{Seed, Slot}
use Rattle.mw_protocol.specs.Commands.{listed, present}
use Rattle.mw_answers.proofs.Present.{all_present}
use Rattle.mw_answers.proofs.playing.players_text.Goals as goal

pub returns : goal.returns
returns c ms same =
    let slots = c.as_slice.ensures ∙ ap (λ (s : Seed). s.slots) (c.behind-tables.view_is ∙ c.multidata.ensures.value) in
    let there = all_present (λ n. contains nat_eq c.in_ok-there.there n) c.args.team 1 c.as_slice.result.now c.args.members.now ms c.in_ok-there.ensures same in
    let names =
    ap (λ (ns : List (Bor (List ℕ))). map (λ n. n.now) ns) c.as_slice-2.ensures ∙ c.in_ok-names.ensures ∙ there ∙ ap (λ (ss : List Slot). present c.args.team 1 ss ms) slots in
    c.from_string.ensures ∙ c.in_ok-format.ensures.ok ∙ ap (λ (r : List ℕ). codes "Connected: " ++ r) (c.in_ok-row.ensures ∙ ap listed names)
