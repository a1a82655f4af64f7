use Rattle.std.proofs.Common.{ap, take, drop, refl, inl, inr, arith, ◌∙◌}
use Rattle.std.proofs.lemmas.List.{take-append-drop}
use Rattle.std.specs.Prelude.{Err}
use Rattle.mw_session.proofs.session.send_all.Goals as goal

pub returns-in-Err-Failed : goal.returns-in-Err-Failed
returns-in-Err-Failed g c = let n = c.loop-text.text-index in let p = c.loop-text.invariant in let e = c.in-Err-Failed.ensures in let rise = e.cause.cause (ap Err c.in-Err-Failed.field-0-is) in (
  take n c.args.texts.now,
  record { hears = e.heard ∙ p.hears; sends = e.sent ∙ p.sends; later = let a = p.later in omega arith; time = e.opened ∙ p.time },
  (drop n c.args.texts.now, take-append-drop n c.args.texts.now),
  inl (refl, let a = p.later in omega arith),
)

pub returns-in-Err-Memory : goal.returns-in-Err-Memory
returns-in-Err-Memory g c = let n = c.loop-text.text-index in let p = c.loop-text.invariant in let e = c.in-Err-Memory.ensures in let up = e.cause.later in (
  take n c.args.texts.now,
  record { hears = e.heard ∙ p.hears; sends = e.sent ∙ p.sends; later = let a = p.later in omega arith; time = e.opened ∙ p.time },
  (drop n c.args.texts.now, take-append-drop n c.args.texts.now),
  inr refl,
)
