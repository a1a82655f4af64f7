use Rattle.std.proofs.Common.{◌≡◌, ◌∙◌, sym, arith}
use Rattle.std.specs.Prelude.{Some, None, bytes_eq}
use Rattle.std.specs.List.{position_from}
use Rattle.mw_multi.proofs.FileNames.{file_within, world_of_file, found_somewhere}
use Rattle.mw_multi.proofs.slots.names_for.Goals as goal

pub names_at-requires : goal.names_at-requires
names_at-requires c =
    let found : position_from (bytes_eq c.args.file.now) 0 c.args.files.now ≡ Some c.in-Some.index = cc in
    let within = file_within c.args.files.now c.args.file.now c.in-Some.index found in
    omega arith

pub returns-in-Some : goal.returns-in-Some
returns-in-Some c =
    let found : position_from (bytes_eq c.args.file.now) 0 c.args.files.now ≡ Some c.in-Some.index = cc in
    c.names_at.ensures ∙ sym (world_of_file c.args.files.now c.args.names.now c.args.file.now c.in-Some.index found)

pub names_at-requires-in-None : goal.names_at-requires-in-None
names_at-requires-in-None c =
    let none : position_from (bytes_eq c.args.file.now) 0 c.args.files.now ≡ None = cc in
    absurd (found_somewhere (bytes_eq c.args.file.now) 0 c.args.files.now c.requires.there none)

pub returns-in-None : goal.returns-in-None
returns-in-None c =
    let none : position_from (bytes_eq c.args.file.now) 0 c.args.files.now ≡ None = cc in
    absurd (found_somewhere (bytes_eq c.args.file.now) 0 c.args.files.now c.requires.there none)
