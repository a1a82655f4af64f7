use Rattle.std.proofs.Common.{◌≡◌, Ok, subst}
use Rattle.mw_multi.specs.JointOf.{joint_of}
use Rattle.mw_fill.specs.Generated.{IsRefused}
use Rattle.mw_stress.proofs.Making.{always_beatable, always_full, always_roomy, only_memory}
use Rattle.mw_stress.proofs.seed.made_from.Goals as goal

pub unreachable-requires : goal.unreachable-requires
unreachable-requires c =
    let built : joint_of c.args.worlds.now c.args.players.now ≡ Ok c.in-Ok.joint = c.in-Ok.ensures in
    let refused = subst (IsRefused c.in-Ok.joint c.args.seed 100) c.in-Err-NotBeatable.field-0-is c.in-Err-NotBeatable.ensures.seed in
    always_beatable c.args.many c.args.seed c.args.worlds.now c.args.players.now c.in-Ok.joint c.requires.worlds c.requires.players built c.requires.crowd c.in-Err-NotBeatable.field-0-0 refused

pub unreachable-requires-in-Err-NotFull : goal.unreachable-requires-in-Err-NotFull
unreachable-requires-in-Err-NotFull c =
    let built : joint_of c.args.worlds.now c.args.players.now ≡ Ok c.in-Ok.joint = c.in-Ok.ensures in
    let refused = subst (IsRefused c.in-Ok.joint c.args.seed 100) c.in-Err-NotFull.field-0-is c.in-Err-NotFull.ensures.seed in
    always_full c.args.many c.args.seed c.args.worlds.now c.args.players.now c.in-Ok.joint c.requires.worlds c.requires.players built c.requires.crowd c.in-Err-NotFull.field-0-0 c.in-Err-NotFull.field-0-1 refused

pub unreachable-requires-in-Err-TooManyItems : goal.unreachable-requires-in-Err-TooManyItems
unreachable-requires-in-Err-TooManyItems c =
    let built : joint_of c.args.worlds.now c.args.players.now ≡ Ok c.in-Ok.joint = c.in-Ok.ensures in
    let refused = subst (IsRefused c.in-Ok.joint c.args.seed 100) c.in-Err-TooManyItems.field-0-is c.in-Err-TooManyItems.ensures.seed in
    always_roomy c.args.many c.args.seed c.args.worlds.now c.args.players.now c.in-Ok.joint c.requires.worlds c.requires.players built c.requires.crowd c.in-Err-TooManyItems.field-0-0 c.in-Err-TooManyItems.field-0-1 refused

pub want_of_memory-requires : goal.want_of_memory-requires
want_of_memory-requires c = only_memory c.args.many c.args.worlds.now c.args.players.now c.requires.worlds c.requires.players c.requires.crowd c.in-Err.refusal c.in-Err.ensures
