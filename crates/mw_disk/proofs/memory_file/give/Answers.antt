use Rattle.std.proofs.Common.{◌≡◌, ◌≤◌, length, take, rules}
use Rattle.std.specs.Prelude.{min}
use Rattle.std.proofs.lemmas.List.{places, take-append-le}
use borrow.Rule.Slice.PartMut.{put_mid, post_of}
use Rattle.mw_disk.proofs.MemoryFiles.{gives_read}
use Rattle.mw_disk.proofs.memory_file.give.Goals as goal

pub returns-clause-read : goal.returns-clause-read
returns-clause-read c =
    let room = length c.args.into.now in
    let some : c.min-some.result ≡ min room c.args.most = search rules in
    let part = c.get_range.new.into in
    let size : length part ≡ min room c.args.most = search (rules, places) in
    let count = c.get_range.result in
    let few : count ≤ length part = search (rules, places) in
    let whole = put_mid 0 c.min-some.result c.args.into.now part in
    let same : take count whole ≡ take count part = take-append-le count part (post_of 0 c.min-some.result c.args.into.now) few in
    let all : length whole ≡ room = search (rules, places) in
    gives_read c.args.bytes.now c.args.at room c.args.most count part whole c.get_range.ensures.bytes size c.requires same all
