use Rattle.std.proofs.Common.{◌≡◌, List, map, ap, sym, subst, ◌∙◌}
use Rattle.mw_json.specs.View.{view}
use Rattle.mw_protocol.specs.Storage.{Kept, put, value_of}
use Rattle.mw_storage.specs.Stored.{entry_view, IsKeepable, IsStore}
use Rattle.mw_storage.proofs.Counting.{value_kept, put_kept, found_kept}
use Rattle.mw_storage.proofs.store.Store.put_grown.Goals as goal

pub bytes_after-bytes-requires-clause-old : goal.bytes_after-bytes-requires-clause-old
bytes_after-bytes-requires-clause-old c =
    let kept : List Kept = map entry_view c.self.inside.kept.entries in
    let key = c.as_str-name.result.now in
    found_kept c.find.result (value_of key kept) c.find.ensures (value_kept key kept c.self.invariant.valid)

pub invariant_of-self : goal.invariant_of-self
invariant_of-self c =
    let kept : List Kept = map entry_view c.self.inside.kept.entries in
    let key = c.as_str-name.result.now in
    let value = view c.args.value in
    let stands : map entry_view c.insert.new.kept.entries ≡ put key value kept =
    c.insert.ensures
    ∙ ap (λ es. put c.args.key value (map entry_view es)) c.widen.ensures.entries
    ∙ ap (λ k. put k value kept) (sym c.as_str-name.ensures) in
    let new : IsKeepable value = record { writable = c.requires.writable; ordered = c.requires.ordered; shallow = c.requires.shallow } in
    let store : IsStore (put key value kept) c.bytes_after-bytes.result = record {
      counted = c.bytes_after-bytes.ensures kept c.self.invariant.counted c.find.ensures;
      valid = put_kept key value kept new c.self.invariant.valid;
    } in
    subst (λ ks. IsStore ks c.bytes_after-bytes.result) (sym stands) store

pub returns : goal.returns
returns c =
    let value = view c.args.value in
    c.insert.ensures
    ∙ ap (λ es. put c.args.key value (map entry_view es)) c.widen.ensures.entries
    ∙ ap (λ s. put c.args.key value s.kept) c.self.view_is
