use Rattle.std.proofs.Common.{arith, subst, sym}
use Rattle.std.specs.Prelude.{Some}
use Rattle.mw_link.specs.declared.link.Heard.TheVariants.{Words}
use Rattle.mw_session.specs.declared.ended.Ended.TheVariants.{TooLong}
use Rattle.mw_session.specs.Passes.{Heeds}
use Rattle.mw_session.proofs.Turns.{heeds_long, heeds_words}
use Rattle.mw_session.proofs.session.heed_words.Goals as goal

pub returns-then-bytes-gt-LIMIT : goal.returns-then-bytes-gt-LIMIT
returns-then-bytes-gt-LIMIT g c =
    subst (λ n. Heeds c.args.session (Words c.args.text.now) c.args.pass.now (Some (TooLong n)) c.args.pass.now) (sym c.length_of-bytes.ensures)
    (heeds_long c.args.session c.args.text.now c.args.pass.now (let e = c.length_of-bytes.ensures in let t = c.if-bytes-gt-LIMIT.true in omega arith))

pub returns : goal.returns
returns g c =
    heeds_words c.args.session c.args.text.now c.args.pass.now c.act_on.result c.act_on.new.pass (let e = c.length_of-bytes.ensures in let t = c.if-bytes-gt-LIMIT.false in omega arith) c.act_on.ensures
