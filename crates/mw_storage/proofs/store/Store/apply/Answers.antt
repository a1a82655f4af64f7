use Rattle.std.proofs.Common.{◌≡◌, List, map, ap, ap₂, sym, subst, ◌∙◌, Ok, false}
use Rattle.std.specs.Prelude.{IfOk}
use Rattle.std.proofs.lemmas.List.{length-map}
use Rattle.mw_json.specs.View.{view, members_view}
use Rattle.mw_model.specs.Sets.{SetPacket}
use Rattle.std.proofs.lemmas.Result.{IfOk-weaker}
use Rattle.mw_model.specs.Json.{Json}
use Rattle.mw_protocol.specs.Storage.{Kept, put, value_of, value_or, before, is_private, run_from, within_limits, set_case}
use Rattle.mw_storage.specs.Refusals.{GivesBy, changed_view}
use Rattle.mw_storage.specs.Stored.{entry_view, IsKeepable}
use Rattle.mw_storage.specs.declared.apply.Changed.{Changed}
use Rattle.mw_storage.proofs.Counting.{value_kept, found_kept}
use Rattle.mw_storage.proofs.Keeping.{new_kept, first_kept, case_of}
use Rattle.mw_storage.proofs.store.Store.apply.Goals as goal

pub bytes_after-bytes-requires-clause-old : goal.bytes_after-bytes-requires-clause-old
bytes_after-bytes-requires-clause-old c =
    let kept : List Kept = map entry_view c.self.inside.kept.entries in
    let key = c.as_str-key.result.now in
    found_kept c.find-found.result (value_of key kept) c.find-found.ensures (value_kept key kept c.self.invariant.valid)

pub bytes_after-bytes-requires-clause-value : goal.bytes_after-bytes-requires-clause-value
bytes_after-bytes-requires-clause-value c =
    let kept : List Kept = map entry_view c.self.inside.kept.entries in
    let key = c.as_str-key.result.now in
    let set = c.set.inside in
    let fallback : Json = view set.default in
    let start : Json = view c.in_ok-start.start in
    let is : start ≡ value_or fallback (value_of key kept) = c.in_ok-start.ensures ∙ c.in_ok-old.ensures ∙ ap (value_or fallback) c.find-found.ensures in
    let ran : run_from 0 set.operations start ≡ Ok (view c.in_ok-new.new) = ap (λ os. run_from 0 os start) (sym c.as_slice.ensures) ∙ c.in_ok-new.ensures in
    let first : IsKeepable start = subst IsKeepable (sym is) (first_kept fallback (value_of key kept) c.set.invariant.fallback (value_kept key kept c.self.invariant.valid)) in
    (new_kept set.operations start (view c.in_ok-new.new) c.set.invariant.operations first ran).writable

abbrev kept_in : goal.After-within_limits → List Kept
kept_in c = map entry_view c.self.inside.kept.entries

-- the change, as its fields say it
abbrev set_in : goal.After-within_limits → SetPacket
set_in c = record {
  key = c.set.inside.key;
  fallback = view c.set.inside.default;
  want_reply = c.set.inside.want_reply;
  operations = c.set.inside.operations;
  further = members_view c.set.inside.further;
}

found : (c : goal.After-within_limits) → view c.in_ok-old.old ≡ value_or (set_in c).fallback (value_of c.as_str-key.result.now (kept_in c))
found c = c.in_ok-old.ensures ∙ ap (value_or (set_in c).fallback) c.find-found.ensures

began : (c : goal.After-within_limits) → before (kept_in c) (set_in c) ≡ view c.in_ok-old.old
began c = ap (λ k. value_or (set_in c).fallback (value_of k (kept_in c))) (sym c.as_str-key.ensures) ∙ sym (found c)

ran : (c : goal.After-within_limits) → run_from 0 (set_in c).operations (view c.in_ok-old.old) ≡ Ok (view c.in_ok-new.new)
ran c =
    ap (run_from 0 (set_in c).operations) (sym c.in_ok-start.ensures)
    ∙ ap (λ os. run_from 0 os (view c.in_ok-start.start)) (sym c.as_slice.ensures)
    ∙ c.in_ok-new.ensures

-- what holds of the change that was made holds of the answer
answered : (c : goal.After-within_limits) (P : Changed → Type 0) → P record { old = c.in_ok-old.old; new = c.in_ok-new.new } → IfOk c.within_limits.result P
answered c P h =
    let changed : Changed = record { old = c.in_ok-old.old; new = c.in_ok-new.new } in
    IfOk-weaker c.within_limits.result (λ d. d ≡ changed) P (λ d e. subst P (sym e) h) c.within_limits.ensures.same

pub returns-clause-answer : goal.returns-clause-answer
returns-clause-answer c =
    let kept = kept_in c in
    let set = set_in c in
    let key = c.as_str-key.result.now in
    let old : Json = view c.in_ok-old.old in
    let new : Json = view c.in_ok-new.new in
    let shown : is_private set.key ≡ false = ap is_private (sym c.as_str-key.ensures) ∙ sym c.if-is_private.ensures in
    let bytes = c.bytes_after-bytes.ensures kept c.self.invariant.counted c.find-found.ensures in
    let keys = c.keys_after-keys.ensures kept (c.len.ensures.len ∙ sym (length-map c.self.inside.kept.entries entry_view)) key new c.find-found.ensures in
    let is : within_limits (put key new kept) record { old = old; new = new } ≡ set_case c.args.self.now.kept c.args.set.now =
    ap (λ k. within_limits (put k new kept) record { old = old; new = new }) c.as_str-key.ensures
    ∙ sym (case_of kept set old new shown (began c) (ran c))
    ∙ ap₂ set_case (ap (λ s. s.kept) c.self.view_is) c.set.view_is in
    subst (GivesBy changed_view c.within_limits.result) is (c.within_limits.ensures.answer (put key new kept) bytes keys)

pub returns-clause-kept : goal.returns-clause-kept
returns-clause-kept c =
    let kept = kept_in c in
    let key = c.as_str-key.result.now in
    let old : Json = view c.in_ok-old.old in
    let first : IsKeepable old =
    subst IsKeepable (sym (found c)) (first_kept (set_in c).fallback (value_of key kept) c.set.invariant.fallback (value_kept key kept c.self.invariant.valid)) in
    let last : IsKeepable (view c.in_ok-new.new) = new_kept (set_in c).operations old (view c.in_ok-new.new) c.set.invariant.operations first (ran c) in
    answered c (λ d. IsKeepable (view d.old) × IsKeepable (view d.new)) (first, last)
