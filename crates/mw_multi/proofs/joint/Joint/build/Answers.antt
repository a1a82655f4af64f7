use Rattle.std.proofs.Common.{◌≡◌, ◌∙◌, [], List, Ok, ap, sym, refl, subst, length, arith}
use Rattle.std.specs.Prelude.{All}
use Rattle.mw_multi.specs.World.{World}
use Rattle.mw_multi.specs.PlayersKept.{ItemLinkKept}
use Rattle.mw_multi.specs.Joint.{place_total}
use Rattle.mw_multi.specs.Links.{SharingKept}
use Rattle.mw_multi.specs.JointOf.{links_play, sharings_from}
use Rattle.mw_multi.proofs.FileNames.{all_named, few_files}
use Rattle.mw_multi.proofs.Joining.{unlinked_kept}
use Rattle.mw_multi.proofs.OneGame.{HasOneOf, slots_worlds, sharings_kept, sharings_length}
use Rattle.mw_multi.proofs.joint.Joint.build.Goals as goal

pub slots_in-requires-clause-files : goal.slots_in-requires-clause-files
slots_in-requires-clause-files c = all_named c.as_slice.result.now c.args.players.now c.as_slice-3.result.now (c.as_slice.ensures ∙ c.in_ok-files.ensures) (c.as_slice-3.ensures ∙ ap (λ p. p.players) c.players.view_is)

pub text_in-requires : goal.text_in-requires
text_in-requires c =
    let few = few_files [] c.args.players.now.players in
    let many = ap (λ p. length p.players) c.players.view_is in
    let worlds = ap length c.as_slice-worlds.ensures in
    omega (arith, c.players.invariant.few_players)

pub joint_in-requires-clause-slots : goal.joint_in-requires-clause-slots
joint_in-requires-clause-slots c =
    let many = c.in_ok-slots.ensures.length ∙ ap length c.as_slice-3.ensures in
    unlinked_kept
    record { teams = c.args.players.now.teams; room = c.args.players.now.room; slots = c.in_ok-slots.slots; links = [] }
    refl
    (omega (arith, many, c.players.invariant.some_players))
    (omega (arith, many, c.players.invariant.few_players))
    c.in_ok-slots.ensures.kept
    c.in_ok-slots.ensures.numbered
    (omega (arith, c.in_ok-judge_places.ensures.few, c.places_in.ensures, ap place_total c.as_slice-6.ensures))

pub joint_in-requires-clause-sharings : goal.joint_in-requires-clause-sharings
joint_in-requires-clause-sharings c =
    let slots = c.in_ok-slots.slots in
    let worlds = c.as_slice-worlds.result.now in
    let files = c.as_slice.result.now in
    let players = c.as_slice-3.result.now in
    let links = c.as_slice-links.result.now in
    let many = c.in_ok-slots.ensures.length ∙ ap length c.as_slice-3.ensures in
    let same_worlds : c.as_slice-2.result.now ≡ worlds = c.as_slice-2.ensures ∙ c.in_ok-names.ensures in
    let same_files = c.as_slice.ensures ∙ c.in_ok-files.ensures in
    let named = all_named files c.args.players.now players same_files (c.as_slice-3.ensures ∙ ap (λ p. p.players) c.players.view_is) in
    let count : length c.as_slice-2.result.now ≡ length files = omega (arith, ap length c.as_slice-2.ensures, ap length c.in_ok-names.ensures, ap length c.as_slice-worlds.ensures, c.requires, ap length same_files) in
    let there : All (HasOneOf worlds) slots = subst (λ (ws : List World). All (HasOneOf ws) slots) same_worlds
    (slots_worlds files c.as_slice-2.result.now 1 0 0 players slots count named c.in_ok-slots.ensures.slots) in
    let kept : All (ItemLinkKept (length slots)) links = subst (λ n. All (ItemLinkKept n) links) (sym many) (subst (All (ItemLinkKept (length c.players.inside.players))) (sym c.as_slice-links.ensures) c.players.invariant.links) in
    let play : links_play slots 0 links ≡ Ok tt = ap (λ ss. links_play ss 0 links) (sym c.as_slice-4.ensures) ∙ c.in_ok-judge_links.ensures in
    let read : sharings_from slots 0 links ≡ Ok c.in_ok-sharings.sharings = ap (λ ss. sharings_from ss 0 links) (sym c.as_slice-5.ensures) ∙ c.in_ok-sharings.ensures in
    subst (All (SharingKept slots)) (sym c.as_slice-7.ensures) (sharings_kept worlds slots 0 links c.in_ok-sharings.sharings c.in_ok-judge_games.ensures there kept play read)

pub joint_in-requires-clause-few : goal.joint_in-requires-clause-few
joint_in-requires-clause-few c =
    let many = c.in_ok-slots.ensures.length ∙ ap length c.as_slice-3.ensures in
    let shared = sharings_length c.as_slice-5.result.now 0 c.as_slice-links.result.now c.in_ok-sharings.sharings c.in_ok-sharings.ensures in
    omega (arith, many, shared, ap length c.as_slice-7.ensures, ap length c.as_slice-links.ensures, c.players.invariant.few_receivers)
