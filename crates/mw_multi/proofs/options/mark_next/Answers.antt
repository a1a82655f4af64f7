use Rattle.std.proofs.Common.{◌≡◌, ◌∙◌, ap, arith, length, get_or}
use Rattle.std.specs.Prelude.{Some, None}
use Rattle.mw_multi.specs.Labels.{index_of}
use Rattle.mw_multi.proofs.Marks.{index_within, flags_length, listed_next, unlisted_next}
use Rattle.mw_multi.proofs.options.mark_next.Goals as goal

pub index_mut-requires : goal.index_mut-requires
index_mut-requires c =
    let found = c.find.ensures.index in
    let known : index_of c.args.labels.now c.as_str.result.now ≡ Some c.in-Some.index = cc in
    let many = ap length c.requires.before ∙ flags_length c.args.labels.now _ in
    let within = index_within c.args.labels.now c.as_str.result.now c.in-Some.index known in
    omega arith

pub returns-in-Some : goal.returns-in-Some
returns-in-Some c =
    let found = c.find.ensures.index in
    let known : index_of c.args.labels.now (get_or c.args.names.now c.args.next c.index-names-next.result) ≡ Some c.in-Some.index = cc in
    rw c.requires.before (listed_next c.args.labels.now c.args.names.now c.args.next c.in-Some.index c.index-names-next.result c.requires.next c.find.ensures.differ known)

pub returns-in_default : goal.returns-in_default
returns-in_default c =
    let found = c.find.ensures.index in
    let missing : index_of c.args.labels.now (get_or c.args.names.now c.args.next c.index-names-next.result) ≡ None = cc in
    c.requires.before ∙ unlisted_next c.args.labels.now c.args.names.now c.args.next c.index-names-next.result c.requires.next missing
