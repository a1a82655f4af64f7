use Rattle.std.proofs.Common.{◌≡◌, ℕ, List, length, length-append, length-take, take, vec_len, sym, ap, ◌∙◌, subst, arith}
use Rattle.std.proofs.KnownBytes.{Consumes-nil, Consumes-trans}
use Rattle.std.specs.Io.KnownBytes.{Consumes}
use Rattle.mw_play.proofs.input.read_input.Goals as goal

pub loop-text-init : goal.loop-text-init
loop-text-init g c = (
  subst (λ (bytes : List ℕ). Consumes (g.S.Source.left c.args.input.now) (g.S.Source.left c.args.input.now) bytes) (sym c.new-text.ensures.items) (Consumes-nil (g.S.Source.left c.args.input.now)),
  omega (arith, c.new-text.ensures.len),
  omega (arith, c.in-Ok.ensures.len),
  omega arith,
)

pub returns-then-count-eq0-clause-read : goal.returns-then-count-eq0-clause-read
returns-then-count-eq0-clause-read g c =
    let l = c.loop-text in
    let k = c.take_some.auto.chunk in
    let size = length-take c.min-room.result c.deref_mut.result.now in
    record {
      taken = subst (λ (bytes : List ℕ). Consumes (g.S.Source.left c.args.input.now) (g.S.Source.left c.take_some.new.input) bytes) (sym c.in_ok-count.ensures.text) (Consumes-trans _ _ _ _ _ l.invariant.0 c.in_ok-count.ensures.taken);
      ended = λ within. c.in_ok-count.ensures.ended c.if-count-eq0.true (omega (arith, k, size, c.deref_mut.ensures.len, l.invariant.2, c.min-room.ensures, c.len-in-loop-text.ensures, c.len.ensures));
    }

pub loop-text-preserved : goal.loop-text-preserved
loop-text-preserved g c =
    let l = c.loop-text in
    let k = c.take_some.auto.chunk in
    let size = length-take c.min-room.result c.deref_mut.result.now in
    let part = length-take c.in_ok-count.count c.take_some.new.chunk in
    let many = ap length c.in_ok-count.ensures.text ∙ length-append l.text.items (take c.in_ok-count.count c.take_some.new.chunk) in (
      subst (λ (bytes : List ℕ). Consumes (g.S.Source.left c.args.input.now) (g.S.Source.left c.take_some.new.input) bytes) (sym c.in_ok-count.ensures.text) (Consumes-trans _ _ _ _ _ l.invariant.0 c.in_ok-count.ensures.taken),
      omega (arith, k, size, part, many, c.in_ok-count.ensures.within, c.take_some.new.text.ok.0, l.text.ok.0, c.deref_mut.ensures.len, l.invariant.2, c.min-room.ensures, c.len-in-loop-text.ensures, c.len.ensures),
      l.invariant.2,
      omega (arith, c.in_ok-count.ensures.later, l.invariant.3),
    )

pub returns-clause-read : goal.returns-clause-read
returns-clause-read g c =
    let l = c.loop-text in
    let many : length l.text.items ≡ vec_len l.text = sym l.text.ok.0 in
    record { taken = l.invariant.0; ended = λ within. absurd (omega (arith, many, c.len.ensures, within)) }
