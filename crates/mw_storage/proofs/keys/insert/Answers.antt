use Rattle.std.proofs.Common.{map, ap, ◌∙◌}
use Rattle.mw_json.specs.View.{view}
use Rattle.mw_protocol.specs.Storage.{put}
use Rattle.mw_storage.specs.Stored.{entry_view}
use Rattle.mw_storage.proofs.Entries.{entry_put}
use Rattle.mw_storage.proofs.keys.insert.Goals as goal

pub returns : goal.returns
returns c =
    let entries = c.args.kept.now.entries in
    ap (map entry_view) (rw c.unwrap-old.ensures at c.insert.ensures.entries)
    ∙ entry_put c.into_string.result c.args.value entries
    ∙ ap (λ key. put key (view c.args.value) (map entry_view entries)) c.into_string.ensures
