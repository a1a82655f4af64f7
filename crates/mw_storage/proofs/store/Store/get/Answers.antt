use Rattle.std.proofs.Common.{List, map}
use Rattle.mw_protocol.specs.Storage.{Kept, value_of}
use Rattle.mw_storage.specs.Stored.{entry_view}
use Rattle.mw_storage.proofs.Counting.{value_kept, found_kept}
use Rattle.mw_storage.proofs.store.Store.get.Goals as goal

pub returns-clause-kept : goal.returns-clause-kept
returns-clause-kept c =
    let kept : List Kept = map entry_view c.self.inside.kept.entries in
    let key = c.as_str.result.now in
    found_kept c.find.result (value_of key kept) c.find.ensures (value_kept key kept c.self.invariant.valid)
