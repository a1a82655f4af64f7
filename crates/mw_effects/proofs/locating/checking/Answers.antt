use Rattle.std.proofs.Common.{◌≡◌, ◌++◌, [], List, ℕ, ℤ, None, false, map, sym, ap, ap₂, ◌∙◌, subst}
use Rattle.mw_checks.specs.Log.{AreFresh, checks_of}
use Rattle.mw_protocol.specs.Checks.{Check}
use Rattle.mw_protocol.specs.Heard.{Announced}
use Rattle.mw_protocol.specs.Locating.{checks_record, sends}
use Rattle.mw_protocol.specs.Locations.{location_of, known, new_checks}
use Rattle.mw_protocol.specs.Records as recorded
use Rattle.mw_protocol.specs.Standing.{steps}
use Rattle.mw_protocol.specs.Statuses.{SlotStatus}
use Rattle.mw_records.specs.Records.{record_view}
use Rattle.mw_effects.specs.Parts.{standing_of, stated_by}
use Rattle.mw_effects.specs.Views.{announced_view}
use Rattle.mw_effects.proofs.Effects.{steps_checks, logged_by}
use Rattle.mw_effects.proofs.locating.checking.Goals as goal

pub returns : goal.returns
returns c =
    let s = c.args.standing.now in
    let log = s.log in
    let m = c.args.member.now in
    let ns = c.args.numbers.now in
    let due = new_checks log.seed log.checked m.team m.slot ns in
    let news : checks_of m.team c.in_ok-new.new ≡ due = c.in_ok-new.ensures.checks in
    let records : map record_view c.in_ok-records.records ≡ checks_record m.team m.slot (map location_of due) =
    c.in_ok-records.ensures ∙ ap (λ (cs : List Check). checks_record m.team m.slot (map location_of cs)) (ap (checks_of m.team) c.as_slice.ensures ∙ news) in
    let prints : map announced_view c.in_ok-prints.prints ≡ sends log.seed due =
    c.in_ok-prints.ensures ∙ ap (sends log.seed) (ap (checks_of m.team) c.as_slice-2.ensures ∙ news) in
    let e = c.checked.result in
    let same : checks_of e.team e.new ≡ due = ap₂ checks_of c.checked.ensures.team c.checked.ensures.new ∙ news in
    record {
      is = c.checked.ensures.is ∙ ap₂ (λ (rs : List recorded.Record) (ps : List Announced). record { records = rs; answers = []; whole = false; member = None; announced = ps }) records prints;
      logged =
          logged_by e s c.checked.ensures.hints c.checked.ensures.payer c.checked.ensures.stored
          (subst (λ (ps : List (ℕ × ℤ)). AreFresh log.seed log.checked e.team ps) (sym c.checked.ensures.new)
          (subst (λ t. AreFresh log.seed log.checked t c.in_ok-new.new) (sym c.checked.ensures.team) c.in_ok-new.ensures.fresh))
          (ap₂ (λ (cs : List Check) (ss : List SlotStatus). record { checked = log.checked ++ cs; statuses = ss; hints = s.hints.hints; storage = s.store.kept }) same (ap (λ o. stated_by o s.statuses.items) c.checked.ensures.status)
          ∙ sym (steps_checks log.seed (standing_of s) m.team m.slot (known log.seed m.slot ns))
          ∙ ap (steps log.seed (standing_of s)) (sym (ap (map record_view) c.checked.ensures.records ∙ records)));
    }
